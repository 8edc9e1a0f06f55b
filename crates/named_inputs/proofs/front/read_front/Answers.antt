use Rattle.std.proofs.Common.{◌≡◌, ◌++◌, ◌≤◌, rules, arith, length, take, drop, sym, subst}
use Rattle.std.proofs.KnownBytes.{Consumes-trans}
use Rattle.std.proofs.lemmas.List.{take-append-le}
use Rattle.std.specs.Io.KnownBytes.{Consumes}
use Rattle.named_inputs.proofs.FrontFacts.{HasGiven, HasGiven-none, HasGiven-more, Consumes-nothing, front_by_length}
use Rattle.named_inputs.proofs.front.read_front.Goals as goal

pub loop-piece-init : goal.loop-piece-init
loop-piece-init g c =
    let before = g.S.Source.state c.args.source.now in (
      c.requires,
      subst (Consumes before.remaining before.remaining) (sym c.new-front.ensures.items) (Consumes-nothing before.remaining),
      omega (arith, c.new-front.ensures.len),
      subst (HasGiven before before) (sym c.new-front.ensures.items) (HasGiven-none before),
    )

pub loop-piece-preserved : goal.loop-piece-preserved
loop-piece-preserved g c =
    let fits : c.in-Ok.count ≤ length c.read.new.buf = search rules in
    let same : take c.in-Ok.count (c.read.new.buf ++ drop c.min-wanted.result c.loop-piece.piece) ≡ take c.in-Ok.count c.read.new.buf =
    take-append-le c.in-Ok.count c.read.new.buf (drop c.min-wanted.result c.loop-piece.piece) fits in (
      search rules,
      rw (c.in_ok-extend_from_slice.ensures.items, same) (Consumes-trans _ _ _ _ _ c.loop-piece.invariant.1 c.in-Ok.ensures.read.bytes.0),
      search rules,
      rw (c.in_ok-extend_from_slice.ensures.items, same)
          (HasGiven-more _ _ _ c.loop-piece.front.items
          (take c.in-Ok.count c.read.new.buf) c.loop-piece.invariant.3 c.in-Ok.ensures.read.given (search rules)),
    )

pub returns-clause-given : goal.returns-clause-given
returns-clause-given g c =
    front_by_length _ _ c.loop-piece.front.items c.args.most c.loop-piece.invariant.3 c.loop-piece.invariant.1 (search rules)

pub returns-in_default-clause-read : goal.returns-in_default-clause-read
returns-in_default-clause-read g c = c.in_default.ensures.read.failed
