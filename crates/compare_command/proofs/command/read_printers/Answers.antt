use Rattle.std.proofs.Common.{List, Some, ap, inl, inr, map, refl, subst, sym, ℕ, ◌∙◌}
use Rattle.device_profile.specs.Name.{printer_name}
use Rattle.many_jobs.specs.CheckMany.{TellsRefusal}
use Rattle.many_jobs.specs.declared.telling.Format.{Format}
use Rattle.named_inputs.specs.Fleet.{DescribeBy, DescribeFleet}
use Rattle.compare_command.specs.Compare.{format_of}
use Rattle.compare_command.proofs.command.read_printers.Goals as goal

pub tell_refusal-requires-clause-end : goal.tell_refusal-requires-clause-end
tell_refusal-requires-clause-end g c = (_, c.in-Err.ensures.fleet)

pub returns-in-Err-clause-refused : goal.returns-in-Err-clause-refused
returns-in-Err-clause-refused g c =
    let err = g.E.Outlet.state c.args.stderr.now in
    let err' = g.E.Outlet.state c.tell_refusal.new.stderr in
    let told =
    subst
    (λ (format : Format). TellsRefusal format c.in-Err.status (map (λ word. word.now) c.many_of-many.result.printers.now)
    c.tell_refusal.result err err')
    c.many_of-many.ensures.format c.tell_refusal.ensures in
    inl (
      c.in-Err.status,
      c.in-Err.ensures.fleet,
      c.in-Err.ensures.given,
      subst
          (λ (words : List (List ℕ)). TellsRefusal (format_of c.args.form) c.in-Err.status words c.tell_refusal.result err err')
          c.many_of-many.ensures.printers told,
    )

pub returns-in_default-clause-refused : goal.returns-in_default-clause-refused
returns-in_default-clause-refused g c = inr (refl, refl)

pub returns-clause-printers : goal.returns-clause-printers
returns-clause-printers g c =
    let kept = c.read_kept_fleet.new.kept.items in
    let given : List (List ℕ) = map (λ text. text.items) kept in
    let by =
    subst (λ (before : List (List ℕ)). DescribeBy before given c.in-Ok.fleet.items)
    (ap (map (λ text. text.items)) c.new-kept.ensures.items) c.in-Ok.ensures.kept in
    record {
      described = c.in-Ok.ensures.fleet;
      are_given = c.in-Ok.ensures.given;
      texts = given;
      read =
          subst (λ (texts : List (List ℕ)). DescribeFleet (map (λ text. Some text) texts) c.in-Ok.fleet.items) (sym by.1) by.2;
      names_are =
          c.in-Ok-printer_names.ensures
          ∙ ap (λ texts. map printer_name (map (λ text. text.items) texts)) c.as_slice.ensures.value;
    }
