use Rattle.std.proofs.Common.{get_or, refl, sym, subst, rules}
use Rattle.pcl_lexer.proofs.Escapes.Digits.{digits_end, digits_all, StaysExact, worthless, zero_digit, worth_some, decimals_more}
use Rattle.pcl_lexer.proofs.Escapes.Digits.{decimals_are}
use Rattle.pcl_lexer.proofs.pcl.field.leading_decimals.Goals as goal
use Rattle.pcl_lexer.proofs.pcl.field.leading_decimals.Goals.{then-worth-eq0+then-byte-ne48, else-worth-eq0}
use Rattle.pcl_lexer.proofs.pcl.field.leading_decimals.Goals.{else-worth-eq0-via-then-worth-eq0+else-byte-ne48}
use Rattle.pcl_lexer.proofs.pcl.field.leading_decimals.Goals.{else-worth-eq0-via-else-worth-eq0}

pub loop-len-preserved : goal.loop-len-preserved
loop-len-preserved c =
    let byte = get_or c.args.bytes.now c.loop-len.len 0 in
    let is = StaysExact c.loop-len.worth byte c.loop-len.is_exact in
    let stays : is c.if-worth-eq0.is_exact =
    elim c.if-worth-eq0.branch [
      | then-worth-eq0+then-byte-ne48 w ↦ subst is (sym w.is_exact-is) (worthless w.if-worth-eq0.true w.if-byte-ne48.true)
      | else-worth-eq0 w ↦ subst is (sym w.is_exact-is) (elim w.else-worth-eq0.branch [
        | else-worth-eq0-via-then-worth-eq0+else-byte-ne48 w' ↦ zero_digit w'.if-byte-ne48.false
        | else-worth-eq0-via-else-worth-eq0 w' ↦ worth_some w'.if-worth-eq0.false
      ])
    ] in
    decimals_more _ _ _ _ _ byte _ _ _ c.loop-len.invariant c.loop-len-test.true refl (search rules) c.from.ensures stays

pub returns-then-not-is_ascii_digit-clause-value : goal.returns-then-not-is_ascii_digit-clause-value
returns-then-not-is_ascii_digit-clause-value c =
    (decimals_are _ _ _ _ _ _ c.loop-len.invariant (digits_end _ _ _ c.loop-len-test.true refl (search rules))).value

pub returns-then-not-is_ascii_digit-clause-exact : goal.returns-then-not-is_ascii_digit-clause-exact
returns-then-not-is_ascii_digit-clause-exact c =
    (decimals_are _ _ _ _ _ _ c.loop-len.invariant (digits_end _ _ _ c.loop-len-test.true refl (search rules))).is_exact

pub returns-clause-value : goal.returns-clause-value
returns-clause-value c = (decimals_are _ _ _ _ _ _ c.loop-len.invariant (digits_all _ _ c.loop-len-test.false)).value

pub returns-clause-exact : goal.returns-clause-exact
returns-clause-exact c = (decimals_are _ _ _ _ _ _ c.loop-len.invariant (digits_all _ _ c.loop-len-test.false)).is_exact
