use Rattle.std.proofs.Common.{List, ap, map, subst}
use Rattle.device_profile.specs.Printer.{Printer}
use Rattle.sinks.specs.Counts.{no_counts}
use Rattle.compare_command.specs.declared.found.Manner.{Manner}
use Rattle.compare_command.specs.Compare.{AreCompared, asked_for}
use Rattle.compare_command.proofs.Pairs.{of_found, of_stop}
use Rattle.compare_command.proofs.golden.told_of_pair.Goals as goal

pub returns-in-Ok-clause-told : goal.returns-in-Ok-clause-told
returns-in-Ok-clause-told g c =
    let asked = asked_for c.args.asked.now in
    let found = c.in-Ok.found in
    let start = g.J.Jobs.start c.args.jobs.now in
    let ended = g.J.Jobs.ended c.args.jobs.now in
    let ended' = g.J.Jobs.ended c.find.new.jobs in
    of_found c.told_of_found.result asked c.args.printers.now.fleet.items (map (λ name. name.items) c.args.printers.now.names.items)
    (map (λ name. name.items) c.as_slice-names.result.now) start ended ended' found
    (ap (map (λ name. name.items)) c.as_slice-names.ensures.value)
    (subst
    (λ (manner : Manner). AreCompared manner start asked.old_name asked.new_name 1 c.args.printers.now.fleet.items no_counts found ended
    ended')
    c.manner_of-manner.ensures
    (subst
    (λ (fleet : List Printer). AreCompared c.manner_of-manner.result start asked.old_name asked.new_name 1 fleet no_counts found ended
    ended')
    c.as_slice-fleet.ensures.value c.in-Ok.ensures.found))
    c.told_of_found.ensures.text c.told_of_found.ensures.ending

pub returns-in-Err-clause-told : goal.returns-in-Err-clause-told
returns-in-Err-clause-told g c =
    of_stop c.told_of_stop.result (asked_for c.args.asked.now) c.args.printers.now.fleet.items
    (map (λ name. name.items) c.args.printers.now.names.items) (map (λ name. name.items) c.as_slice-names.result.now)
    (g.J.Jobs.start c.args.jobs.now) (g.J.Jobs.ended c.args.jobs.now) (g.J.Jobs.ended c.find.new.jobs) c.in-Err.stop.which
    c.in-Err.stop.error (ap (map (λ name. name.items)) c.as_slice-names.ensures.value) c.in-Err.ensures.stopped
    c.told_of_stop.ensures.text c.told_of_stop.ensures.ending
