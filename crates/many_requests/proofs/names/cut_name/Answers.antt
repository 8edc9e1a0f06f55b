use Rattle.std.proofs.Common.{◌<◌, length, arith, add-one, length-drop}
use Rattle.std.proofs.lemmas.Bool.Decides.{nat_tests}
use Rattle.std.proofs.lemmas.List.{take_rest}
use Rattle.many_requests.proofs.NameFacts.{names_in-cut, names_in-whole}
use Rattle.many_requests.proofs.names.cut_name.Goals as goal

pub returns-then-byte-eq0 : goal.returns-then-byte-eq0
returns-then-byte-eq0 c =
    let names = c.args.names.now in
    let end = c.loop-end.end in
    let within : end < length names = omega arith in
    rw (take_rest, add-one) record {
      names = names_in-cut names end within c.loop-end.invariant c.if-byte-eq0.true;
      fewer = rw length-drop (omega arith);
    }

pub returns : goal.returns
returns c =
    let names = c.args.names.now in
    let some : 0 < length names = grind (arith, nat_tests, c.is_empty.ensures, c.if-is_empty.false) in
    record {
      names = names_in-whole names some (λ k h. c.loop-end.invariant k (omega arith));
      fewer = some;
    }
