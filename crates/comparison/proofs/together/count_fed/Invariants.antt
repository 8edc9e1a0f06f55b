use Rattle.std.proofs.Common.{◌≡◌, ◌<◌, ◌≤◌, [], false, true}
use Rattle.comparison.specs.Running.{is_open, work}
use Rattle.comparison.specs.Together.{CountsOn}
use Rattle.comparison.proofs.together.count_fed.Given as goal

abbrev pub invariant-items : goal.invariant-items
invariant-items g l = record {
  none : l.both.events ≡ [];
  number : l.both.number ≡ l.initial.both.number;
  counted : CountsOn l.initial.both l.both l.initial.spot l.spot;
  few : work l.both ≤ work l.initial.both;
  less : is_open l.both.progress ≡ false → is_open l.initial.both.progress ≡ true → work l.both < work l.initial.both;
}

abbrev pub decreases-items : goal.decreases-items
decreases-items g l = work l.both
