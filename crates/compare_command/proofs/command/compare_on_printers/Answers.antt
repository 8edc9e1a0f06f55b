use Rattle.std.proofs.Common.{List, ap, inl, inr, map, refl, subst, ℕ}
use Rattle.device_profile.specs.Printer.{Printer}
use Rattle.sinks.specs.Counts.{no_counts}
use Rattle.compare_command.specs.declared.found.Manner.{Manner}
use Rattle.compare_command.specs.Compare.{AreCompared, StopsAt, WritesFound, asked_for, name_by, telling_of}
use Rattle.compare_command.specs.Outcomes.{same_counts, status_by}
use Rattle.compare_command.specs.Telling.{found_text}
use Rattle.compare_command.proofs.command.compare_on_printers.Goals as goal

pub tell_stop-requires-clause-error : goal.tell_stop-requires-clause-error
tell_stop-requires-clause-error g c = c.in-Err.ensures.stopped.reads.is_error

pub returns-in-Ok : goal.returns-in-Ok
returns-in-Ok g c =
    let asked = asked_for c.args.asked.now in
    let found = c.in-Ok.found in
    inl (
      found,
      subst
          (λ (manner : Manner). AreCompared manner (g.J.Jobs.start c.args.jobs.now) asked.old_name asked.new_name 1
          c.args.printers.now.fleet.items no_counts found (g.J.Jobs.ended c.args.jobs.now) (g.J.Jobs.ended c.find.new.jobs))
          c.manner_of-manner.ensures
          (subst
          (λ (fleet : List Printer). AreCompared c.manner_of-manner.result (g.J.Jobs.start c.args.jobs.now) asked.old_name
          asked.new_name 1 fleet no_counts found (g.J.Jobs.ended c.args.jobs.now) (g.J.Jobs.ended c.find.new.jobs))
          c.as_slice-fleet.ensures.value c.in-Ok.ensures.found),
      subst
          (λ (names : List (List ℕ)). WritesFound (found_text (telling_of asked names) found.number found.outcome)
          (status_by (same_counts found.outcome)) c.write_found.result (g.O.Outlet.state c.args.stdout.now)
          (g.O.Outlet.state c.write_found.new.stdout))
          (ap (map (λ name. name.items)) c.as_slice-names.ensures.value) c.write_found.ensures,
      refl,
    )

pub returns-in-Err : goal.returns-in-Err
returns-in-Err g c =
    let stop = c.in-Err.stop in
    inr (
      (
        stop.which,
        stop.error,
        c.in-Err.ensures.stopped,
        subst
            (λ (manner : Manner). StopsAt manner (name_by (asked_for c.args.asked.now) stop.which) stop.error c.tell_stop.result
            (g.E.Outlet.state c.args.stderr.now) (g.E.Outlet.state c.tell_stop.new.stderr))
            c.manner_of-manner.ensures c.tell_stop.ensures,
      ),
      refl,
    )
