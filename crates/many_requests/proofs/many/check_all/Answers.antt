use Rattle.std.proofs.Common.{◌≡◌, ap, map, option_map, sym}
use Rattle.std.proofs.lemmas.Simd.{map-map}
use Rattle.many_jobs.specs.Asked.{asked_for}
use Rattle.named_inputs.specs.Texts.{text_named}
use Rattle.many_requests.proofs.AskedLeft.{asked_left}
use Rattle.many_requests.proofs.many.check_all.Goals as goal

pub returns : goal.returns
returns g c =
    let words = c.args.many.now.printers.now in
    let known : map (λ word. text_named word.now) words ≡ map text_named (map (λ word. word.now) words) =
    sym (map-map text_named (λ word. word.now) words) in
    let texts = c.check_many-status.new.texts in
    asked_left (map (λ word. text_named word.now) words) c.new-texts.result.given texts.given c.new-texts.result.named texts.named
    texts.has_failed (option_map (λ path. path.now) c.args.names_from) (asked_for c.args.many.now)
    c.new-jobs.result c.check_many-status.new.jobs c.check_many-status.result c.args.used.now c.end.new.used c.tell.new.used
    (g.O.Outlet.state c.args.stdout.now) (g.O.Outlet.state c.check_many-status.new.stdout)
    (g.E.Outlet.state c.refuse_inputs.new.stderr) (g.E.Outlet.state c.args.stderr.now) (g.E.Outlet.state c.check_many-status.new.stderr)
    c.in_default.ensures.once known c.new-jobs.ensures c.new-texts.ensures.given
    (ap g.E.Outlet.state c.in_default.ensures.quiet) c.check_many-status.ensures.left c.check_many-status.ensures.write
    c.new-texts.ensures.named c.check_many-status.ensures.named c.end.ensures c.tell.ensures
