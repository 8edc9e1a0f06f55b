use Rattle.std.proofs.Common.{◌≤◌, ◌∙◌, ◌++◌, List, ℕ, ap, inl, inr, length, map, option_map, refl, string_bytes, subst}
use Rattle.many_jobs.specs.Asked.{told_by}
use Rattle.many_jobs.specs.CheckMany.{Asked}
use Rattle.named_inputs.specs.Texts.{text_named}
use Rattle.many_requests.proofs.Asking.{names_lack, some_printer}
use Rattle.many_requests.proofs.Fleets.{fleets_count, fleets_told}
use Rattle.many_requests.specs.Checks.{LeavesFound, ReadsFleets}
use Rattle.many_requests.specs.Names.{AreNamesAt, names_in}
use Rattle.many_requests.proofs.many.check_asked.Goals as goal

pub returns-in-Err-read_names : goal.returns-in-Err-read_names
returns-in-Err-read_names g c =
    inr (
      names_lack (map (λ word. word.now) c.args.words.now.fleets.items) c.args.words.now.names_from c.in-Err-read_names.status
          (g.E.Outlet.state c.read_fleets.new.stderr) (g.E.Outlet.state c.args.stderr.now) (g.E.Outlet.state c.read_names.new.stderr)
          (ap g.E.Outlet.state c.in-Ok.ensures.quiet) c.in-Err-read_names.ensures.end,
      refl,
    )

pub check_found-requires-clause-some : goal.check_found-requires-clause-some
check_found-requires-clause-some g c =
    let words = c.args.words.now in
    let each =
    subst (λ fleets. length (map (λ word. word.now) fleets) ≤ length (map string_bytes c.in-Ok.fleets.items)) c.as_slice.ensures.value
    (fleets_count text_named _ _ _ _ c.in-Ok.ensures.read) in
    let printers = ap (map (λ word. word.now)) c.as_slice-8.ensures.value ∙ c.in-Ok-all_printers.ensures
    ∙ ap (λ all. map (λ word. word.now) all ++ map string_bytes c.as_slice-3.result.now) c.as_slice-2.ensures.value
    ∙ ap (λ fleets. map (λ word. word.now) words.printers.items ++ map string_bytes fleets) c.as_slice-3.ensures.value in
    some_printer words.printers.items words.fleets.items c.in-Ok.fleets.items string_bytes c.as_slice-8.result.now
    c.requires.some each printers

pub returns : goal.returns
returns g c =
    let words = c.args.words.now in
    let given = c.read_fleets.new.texts.given in
    let reads =
    subst
    (λ fleets.
    ReadsFleets text_named (map (λ word. word.now) fleets) c.new-texts.result.given given (map string_bytes c.in-Ok.fleets.items))
    c.as_slice.ensures.value c.in-Ok.ensures.read in
    let told =
    fleets_told c.args.used.now c.end.new.used (map (λ word. word.now) words.fleets.items) (map (λ word. word.now) c.as_slice.result.now)
    c.new-texts.result.named c.read_fleets.new.texts.named c.new-texts.result.given given (map (λ fleet. fleet.text) reads.fleets)
    c.read_fleets.new.texts.has_failed c.end.ensures c.new-texts.ensures.named c.in-Ok.ensures.asked
    (ap (map (λ word. word.now)) c.as_slice.ensures.value) c.new-texts.ensures.given reads.given c.in-Ok.ensures.working in
    let asked : Asked = record {
      jobs = map (λ name. name.now) c.as_slice-7.result.now;
      printers = map (λ word. word.now) c.as_slice-8.result.now;
      most_items = words.most_items;
      is_each = words.is_each;
      tells_notes = words.tells_notes;
      telling = told_by c.telling_of.result;
    } in
    inl (
      asked,
      c.read_names.new.used,
      record {
        names = c.in-Ok-read_names.names.items;
        fleets = reads.fleets;
        jobs = ap (map (λ name. name.now)) c.as_slice-7.ensures.value ∙ c.in-Ok-all_jobs.ensures
            ∙ ap (λ all. map (λ word. word.now) all ++ names_in c.as_slice-5.result.now) c.as_slice-4.ensures.value
            ∙ ap (λ names. map (λ word. word.now) words.jobs.items ++ names_in names) c.as_slice-5.ensures.value;
        printers = ap (map (λ word. word.now)) c.as_slice-8.ensures.value ∙ c.in-Ok-all_printers.ensures
            ∙ ap (λ all. map (λ word. word.now) all ++ map string_bytes c.as_slice-3.result.now) c.as_slice-2.ensures.value
            ∙ ap (λ fleets. map (λ word. word.now) words.printers.items ++ map string_bytes fleets) c.as_slice-3.ensures.value
            ∙ ap (λ (of_fleets : List (List ℕ)). map (λ word. word.now) words.printers.items ++ of_fleets) reads.words_are;
        are_names =
            subst
            (λ front. AreNamesAt (option_map (λ word. word.now) words.names_from) front c.read_names.new.used
            c.in-Ok-read_names.names.items)
            told c.in-Ok-read_names.ensures.read;
        are_fleets = reads.are_fleets;
        most_items = refl;
        is_each = refl;
        tells_notes = refl;
        telling = c.telling_of.ensures;
      },
      subst
          (λ err. LeavesFound words.allows_empty (option_map (λ word. word.now) words.names_from)
          (map (λ word. word.now) words.fleets.items) c.in-Ok-read_names.names.items asked
          c.check_found.result c.read_names.new.used c.check_found.new.used
          (g.O.Outlet.state c.args.stdout.now) (g.O.Outlet.state c.check_found.new.stdout) (g.E.Outlet.state err)
          (g.E.Outlet.state c.check_found.new.stderr))
          (c.in-Ok-read_names.ensures.quiet ∙ c.in-Ok.ensures.quiet)
          (subst
          (λ names. LeavesFound words.allows_empty (option_map (λ word. word.now) words.names_from)
          (map (λ word. word.now) words.fleets.items) names asked c.check_found.result
          c.read_names.new.used c.check_found.new.used (g.O.Outlet.state c.args.stdout.now) (g.O.Outlet.state c.check_found.new.stdout)
          (g.E.Outlet.state c.read_names.new.stderr) (g.E.Outlet.state c.check_found.new.stderr))
          c.as_slice-10.ensures.value c.check_found.ensures),
    )
