use Rattle.std.proofs.Common.{◌≤◌, ◌∙◌, ◌++◌, List, ℕ, ap, inl, length, map, string_bytes, subst}
use Rattle.named_inputs.specs.Texts.{text_named}
use Rattle.many_requests.proofs.Asking.{some_printer}
use Rattle.many_requests.proofs.Fleets.{fleets_count, fleets_told}
use Rattle.many_requests.specs.Checks.{ReadsFleets}
use Rattle.many_requests.specs.Comparisons.{LeavesWith, printers_by}
use Rattle.many_requests.proofs.compared_jobs.compare_asked.Goals as goal

pub compare_with-requires-clause-some : goal.compare_with-requires-clause-some
compare_with-requires-clause-some g c =
    let words = c.args.words.now in
    let each =
    subst (λ fleets. length (map (λ word. word.now) fleets) ≤ length (map string_bytes c.in-Ok.fleets.items)) c.as_slice.ensures.value
    (fleets_count text_named _ _ _ _ c.in-Ok.ensures.read) in
    let printers = ap (map (λ word. word.now)) c.as_slice-4.ensures.value ∙ c.in-Ok-all_printers.ensures
    ∙ ap (λ all. map (λ word. word.now) all ++ map string_bytes c.as_slice-3.result.now) c.as_slice-2.ensures.value
    ∙ ap (λ fleets. map (λ word. word.now) words.printers.items ++ map string_bytes fleets) c.as_slice-3.ensures.value in
    some_printer words.printers.items words.fleets.items c.in-Ok.fleets.items string_bytes c.as_slice-4.result.now
    c.requires.some.0 each printers

pub returns : goal.returns
returns g c =
    let words = c.args.words.now in
    let given = c.read_fleets.new.texts.given in
    let reads =
    subst
    (λ fleets.
    ReadsFleets text_named (map (λ word. word.now) fleets) c.new-texts.result.given given (map string_bytes c.in-Ok.fleets.items))
    c.as_slice.ensures.value c.in-Ok.ensures.read in
    let told =
    fleets_told c.args.used.now c.end.new.used (map (λ word. word.now) words.fleets.items) (map (λ word. word.now) c.as_slice.result.now)
    c.new-texts.result.named c.read_fleets.new.texts.named c.new-texts.result.given given (map (λ fleet. fleet.text) reads.fleets)
    c.read_fleets.new.texts.has_failed c.end.ensures c.new-texts.ensures.named c.in-Ok.ensures.asked
    (ap (map (λ word. word.now)) c.as_slice.ensures.value) c.new-texts.ensures.given reads.given c.in-Ok.ensures.working in
    let printers = ap (map (λ word. word.now)) c.as_slice-4.ensures.value ∙ c.in-Ok-all_printers.ensures
    ∙ ap (λ all. map (λ word. word.now) all ++ map string_bytes c.as_slice-3.result.now) c.as_slice-2.ensures.value
    ∙ ap (λ fleets. map (λ word. word.now) words.printers.items ++ map string_bytes fleets) c.as_slice-3.ensures.value
    ∙ ap (λ (of_fleets : List (List ℕ)). map (λ word. word.now) words.printers.items ++ of_fleets) reads.words_are in
    inl (
      reads.fleets,
      reads.are_fleets,
      subst
          (λ front. LeavesWith words.jobs words (printers_by words reads.fleets) c.compare_with.result front
          c.compare_with.new.used (g.O.Outlet.state c.args.stdout.now) (g.O.Outlet.state c.compare_with.new.stdout)
          (g.E.Outlet.state c.args.stderr.now) (g.E.Outlet.state c.compare_with.new.stderr))
          told
          (subst
          (λ all. LeavesWith words.jobs words all c.compare_with.result c.end.new.used c.compare_with.new.used
          (g.O.Outlet.state c.args.stdout.now) (g.O.Outlet.state c.compare_with.new.stdout) (g.E.Outlet.state c.args.stderr.now)
          (g.E.Outlet.state c.compare_with.new.stderr))
          printers
          (subst
          (λ err. LeavesWith words.jobs words (map (λ word. word.now) c.as_slice-4.result.now) c.compare_with.result c.end.new.used
          c.compare_with.new.used (g.O.Outlet.state c.args.stdout.now) (g.O.Outlet.state c.compare_with.new.stdout)
          (g.E.Outlet.state err) (g.E.Outlet.state c.compare_with.new.stderr))
          c.in-Ok.ensures.quiet c.compare_with.ensures)),
    )
