use Rattle.std.proofs.Common.{◌≡◌, ◌++◌, ◌∙◌, ap, arith}
use Rattle.std.specs.List.{flat_map, range_with_len}
use Rattle.page_picture.specs.Rows.{run_at}
use Rattle.page_picture.proofs.Runs.{runs_more}
use Rattle.page_picture.proofs.rows.push_runs.Goals as goal

pub loop-pixel-preserved : goal.loop-pixel-preserved
loop-pixel-preserved g c =
    c.in_ok-push_run_at.ensures
    ∙ ap (λ l. l ++ run_at c.args.bytes.now c.loop-pixel.pixel) c.loop-pixel.invariant
    ∙ runs_more (run_at c.args.bytes.now) c.args.text.now.items c.loop-pixel.pixel

pub returns : goal.returns
returns g c =
    let part = run_at c.args.bytes.now in
    let all : c.loop-pixel.pixel ≡ c.pixel_count-pixel-end.result = omega arith in
    c.loop-pixel.invariant
    ∙ ap (λ n. c.args.text.now.items ++ flat_map part (range_with_len 0 n)) (all ∙ c.pixel_count-pixel-end.ensures)
