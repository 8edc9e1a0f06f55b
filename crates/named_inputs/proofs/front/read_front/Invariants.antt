use Rattle.std.proofs.Common.{◌-◌, ◌≤◌, IsFalse, vec_len}
use Rattle.std.specs.Io.KnownBytes.{Consumes}
use Rattle.named_inputs.proofs.FrontFacts.{HasGiven}
use Rattle.named_inputs.proofs.front.read_front.Given as goal

abbrev pub invariant-loop-piece : goal.invariant-loop-piece
invariant-loop-piece g l =
    IsFalse (g.S.Source.state l.source).failed
    × Consumes (g.S.Source.state l.initial.source).remaining (g.S.Source.state l.source).remaining l.front.items
    × (vec_len l.front ≤ l.most) × HasGiven (g.S.Source.state l.initial.source) (g.S.Source.state l.source) l.front.items

abbrev pub decreases-loop-piece : goal.decreases-loop-piece
decreases-loop-piece g l = l.most - vec_len l.front
