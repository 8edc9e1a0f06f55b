use Rattle.std.proofs.Common.{◌≡◌, [], ◌∷◌, inr, map, refl, subst, sym}
use Rattle.std.specs.Prelude.{Contains}
use Rattle.std.proofs.lemmas.Simd.{map-map}
use Rattle.compare_command.specs.Compare.{asked_for}
use Rattle.named_inputs.specs.Texts.{text_named}
use Rattle.many_requests.proofs.ComparisonLeft.{compared_left}
use Rattle.many_requests.proofs.compared_jobs.compare_on_files.Goals as goal

pub returns : goal.returns
returns g c =
    let words = c.args.asked.now.printers.now in
    let known : map (λ word. text_named word.now) words ≡ map text_named (map (λ word. word.now) words) =
    sym (map-map text_named (λ word. word.now) words) in
    let texts = c.compare-status.new.texts in
    compared_left (map (λ word. text_named word.now) words) c.new-texts.result.given texts.given c.new-texts.result.named texts.named
    texts.has_failed (asked_for c.args.asked.now) c.new-jobs.result c.compare-status.new.jobs c.compare-status.result c.args.used.now
    c.end.new.used c.tell.new.used (g.O.Outlet.state c.args.stdout.now) (g.O.Outlet.state c.compare-status.new.stdout)
    (g.E.Outlet.state c.args.stderr.now) (g.E.Outlet.state c.compare-status.new.stderr) c.in_default.ensures.once known
    c.new-jobs.ensures c.new-texts.ensures.given c.compare-status.ensures.left c.new-texts.ensures.named
    c.compare-status.ensures.named c.end.ensures c.tell.ensures

pub returns-in-Some : goal.returns-in-Some
returns-in-Some g c =
    let words = c.args.asked.now in
    let jobs = words.old_name.now ∷ words.new_name.now ∷ [] in
    let is_one = subst (λ name. Contains jobs name) (sym c.as_bytes.ensures.value) c.in-Some.ensures.named in
    inr (c.refuse_pipe.ensures jobs is_one, refl, refl)
