use Rattle.std.proofs.Common.{◌≡◌, ◌++◌, ◌∙◌, ap, arith}
use Rattle.std.specs.List.{flat_map, range_with_len}
use Rattle.page_picture.specs.Rulers.{label}
use Rattle.page_picture.proofs.Runs.{runs_more}
use Rattle.page_picture.proofs.rulers.push_labels.Goals as goal

pub loop-n-preserved : goal.loop-n-preserved
loop-n-preserved g c =
    c.in_ok-push_label.ensures
    ∙ ap (λ l. l ++ label c.args.start c.args.along c.args.scale c.loop-n.n) c.loop-n.invariant
    ∙ runs_more (label c.args.start c.args.along c.args.scale) c.args.text.now.items c.loop-n.n

pub returns : goal.returns
returns g c =
    let part = label c.args.start c.args.along c.args.scale in
    let all : c.loop-n.n ≡ c.label_count-n-end.result = omega arith in
    c.loop-n.invariant
    ∙ ap (λ n. c.args.text.now.items ++ flat_map part (range_with_len 0 n)) (all ∙ c.label_count-n-end.ensures.value)
