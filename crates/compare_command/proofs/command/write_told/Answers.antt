use Rattle.std.proofs.Common.{List, Option, subst, ℕ, ◌∙◌}
use Rattle.sinks.specs.declared.counts.Counts.{Counts}
use Rattle.compare_command.specs.Compare.{WritesFound}
use Rattle.compare_command.specs.Outcomes.{status_by}
use Rattle.compare_command.specs.Telling.{found_text, told_by}
use Rattle.compare_command.proofs.command.write_told.Goals as goal

pub returns : goal.returns
returns g c =
    let found = c.args.found.now in
    let out = g.O.Outlet.state c.args.stdout.now in
    let out' = g.O.Outlet.state c.write_whole.new.stdout in
    subst
    (λ (same : Option Counts). WritesFound (found_text (told_by c.args.telling.now) found.number found.outcome) (status_by same)
    c.write_whole.result out out')
    c.same_counts.ensures
    (subst
    (λ (text : List ℕ). WritesFound text (status_by c.same_counts.result) c.write_whole.result out out')
    (c.as_slice.ensures.value ∙ c.in-Ok.ensures) c.write_whole.ensures)
