use Rattle.std.proofs.Common.{◌≡◌, ◌≢◌, ℕ, List, [], ap, inl, inr, map, refl, subst, sym, ◌∙◌}
use Rattle.device_profile.specs.Name.{printer_name}
use Rattle.device_profile.specs.Printer.{Printer}
use Rattle.streams.specs.declared.error.Error.TheVariants.{Memory}
use Rattle.many_jobs.specs.Asked.{asked_for}
use Rattle.many_jobs.specs.CheckMany.{limited}
use Rattle.many_jobs.specs.JobChecks.{work}
use Rattle.many_jobs.specs.KeptTexts.{AreNotePrinters}
use Rattle.named_inputs.specs.Fleet.{DescribeBy}
use Rattle.job_reports.specs.Groups.{Groups}
use Rattle.requests.specs.declared.status.Status.TheVariants.{Stopped}
use Rattle.named_inputs.proofs.FleetFacts.{DescribeFleet-some}
use Rattle.many_jobs.proofs.JobChecks.{of_texts}
use Rattle.many_jobs.proofs.Limiting.{limited_some}
use Rattle.many_jobs.proofs.Stopping.{lines_told, refusal_told}
use Rattle.many_jobs.proofs.check_jobs.check_many.Goals as goal

pub tell_refusal-requires-clause-end : goal.tell_refusal-requires-clause-end
tell_refusal-requires-clause-end g c = (_, c.in-Err.ensures.fleet)

pub returns-in-Err : goal.returns-in-Err
returns-in-Err g c =
    let asked = c.args.asked.now in
    let told =
    refusal_told (map (λ word. g.T.ProfileTexts.text_of c.args.texts.now word.now) asked.printers.now) asked.telling.format c.in-Err.status
    (map (λ word. word.now) asked.printers.now) c.tell_refusal.result (g.E.Outlet.state c.args.stderr.now)
    (g.E.Outlet.state c.tell_refusal.new.stderr) c.in-Err.ensures.fleet c.tell_refusal.ensures in
    record {
      left = inr (
        c.in-Err.status,
        c.in-Err.ensures.fleet,
        c.in-Err.ensures.given,
        c.in-Err.ensures.read,
        c.tell_refusal.ensures,
        refl,
      );
      named = c.read_kept_fleet.ensures.named;
      read = told.0;
      write = c.requires.stdout ∙ sym told.1;
    }

pub returns-in_default : goal.returns-in_default
returns-in_default g c = record {
  left = inr (Stopped Memory, tt, tt, c.in-Ok.ensures.read, (refl, refl), refl);
  named = c.read_kept_fleet.ensures.named;
  read = refl;
  write = c.requires.stdout;
}

pub returns-in_default-note_printers : goal.returns-in_default-note_printers
returns-in_default-note_printers g c = record {
  left = inr (Stopped Memory, tt, tt, c.in-Ok.ensures.read, (refl, refl), refl);
  named = c.read_kept_fleet.ensures.named;
  read = refl;
  write = c.requires.stdout;
}

pub check_for-requires : goal.check_for-requires
check_for-requires g c =
    let most = c.args.asked.now.most_items in
    let fleet : c.new-printers.result.fleet ≡ map (limited most) c.in-Ok.fleet.items =
    ap (λ (group : Groups). group.fleet) c.new-printers.ensures ∙ (c.as_slice-3.ensures.value ∙ c.limited_fleet-fleet.ensures) in
    let some : c.in-Ok.fleet.items ≢ [] =
    DescribeFleet-some _ c.args.asked.now.printers.now c.in-Ok.fleet.items c.in-Ok.ensures.fleet c.requires.some in
    λ k. (
      (refl, tt),
      (c.requires.stdout, subst (λ (printers : List Printer). printers ≢ []) (sym fleet) (limited_some most c.in-Ok.fleet.items some)),
    )

pub returns : goal.returns
returns g c =
    let asked = c.args.asked.now in
    let kept = c.read_kept_fleet.new.kept.items in
    let given : List (List ℕ) = map (λ text. text.items) kept in
    let fleet : c.new-printers.result.fleet ≡ map (limited asked.most_items) c.in-Ok.fleet.items =
    ap (λ (group : Groups). group.fleet) c.new-printers.ensures ∙ (c.as_slice-3.ensures.value ∙ c.limited_fleet-fleet.ensures) in
    let printers : c.new-printers.result.note_printers ≡ c.in-Ok-note_printers.note_printers.items =
    ap (λ (group : Groups). group.note_printers) c.new-printers.ensures ∙ c.as_slice-4.ensures.value in
    let names : c.new-printers.result.names ≡ map (λ name. name.items) c.in-Ok-printer_names.names.items =
    ap (λ (group : Groups). group.names) c.new-printers.ensures ∙ ap (map (λ name. name.items)) c.as_slice-5.ensures.value in
    let by =
    subst (λ (before : List (List ℕ)). DescribeBy before given c.in-Ok.fleet.items)
    (ap (map (λ text. text.items)) c.new-kept.ensures.items) c.in-Ok.ensures.kept in
    let are =
    subst (λ (texts : List (List ℕ)). AreNotePrinters asked.tells_notes texts c.in-Ok-note_printers.note_printers.items)
    (ap (map (λ text. text.items)) c.as_slice-2.ensures.value) c.in-Ok-note_printers.ensures in
    let named = c.in-Ok-printer_names.ensures ∙ ap (λ texts. map printer_name (map (λ text. text.items) texts)) c.as_slice.ensures.value in
    record {
      left = inl (
        c.new-printers.result,
        of_texts _ asked.most_items asked.tells_notes c.new-printers.result c.in-Ok.fleet.items c.in-Ok-note_printers.note_printers.items _
            given _ _ fleet printers names c.in-Ok.ensures.fleet c.in-Ok.ensures.given by are named,
        ap (λ (group : Groups). group.is_each) c.new-printers.ensures,
        c.in-Ok.ensures.read,
        c.check_for.ensures.left,
        refl,
      );
      named = c.read_kept_fleet.ensures.named;
      read =
          lines_told (asked_for asked) c.new-printers.result (g.J.Jobs.start c.args.jobs.now) c.check_for.result
          (work (g.O.Outlet.state c.args.stdout.now) (g.J.Jobs.ended c.args.jobs.now))
          (work (g.O.Outlet.state c.check_for.new.stdout) (g.J.Jobs.ended c.check_for.new.jobs)) c.check_for.ensures.left;
      write = c.check_for.ensures.write;
    }
