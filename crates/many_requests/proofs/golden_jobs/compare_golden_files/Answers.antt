use Rattle.std.proofs.Common.{◌≡◌, ap, inr, map, refl, sym}
use Rattle.std.proofs.lemmas.Simd.{map-map}
use Rattle.compare_command.specs.Golden.{golden_for}
use Rattle.named_inputs.specs.Texts.{text_named}
use Rattle.many_requests.proofs.GoldenLeft.{golden_left}
use Rattle.many_requests.proofs.golden_jobs.compare_golden_files.Goals as goal

pub returns : goal.returns
returns g c =
    let words = c.args.asked.now.printers.now in
    let known : map (λ word. text_named word.now) words ≡ map text_named (map (λ word. word.now) words) =
    sym (map-map text_named (λ word. word.now) words) in
    let texts = c.compare_golden-status.new.texts in
    golden_left (map (λ word. text_named word.now) words) c.new-texts.result.given texts.given c.new-texts.result.named texts.named
    texts.has_failed (golden_for c.args.asked.now) c.new-jobs.result c.compare_golden-status.new.jobs c.compare_golden-status.result
    c.args.used.now c.end.new.used c.tell.new.used (g.O.Outlet.state c.args.stdout.now)
    (g.O.Outlet.state c.compare_golden-status.new.stdout) (g.E.Outlet.state c.refuse_golden.new.stderr)
    (g.E.Outlet.state c.args.stderr.now) (g.E.Outlet.state c.compare_golden-status.new.stderr) c.in_default.ensures.once known
    c.new-jobs.ensures c.new-texts.ensures.given (ap g.E.Outlet.state c.in_default.ensures.quiet)
    c.compare_golden-status.ensures.left c.new-texts.ensures.named c.compare_golden-status.ensures.named c.end.ensures c.tell.ensures

pub returns-in-Some : goal.returns-in-Some
returns-in-Some g c = inr (c.in-Some.ensures.refused, refl, refl)
