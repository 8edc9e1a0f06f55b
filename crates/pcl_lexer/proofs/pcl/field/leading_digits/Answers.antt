use Rattle.std.proofs.Common.{◌+◌, ◌*◌, get_or, refl, ap, sym, subst, ◌∙◌, rules}
use Rattle.pcl_lexer.proofs.Escapes.Digits.{limited, IsNumberSoFar, number_more}
use Rattle.pcl_lexer.proofs.pcl.field.leading_digits.Goals as goal

pub loop-len-preserved : goal.loop-len-preserved
loop-len-preserved c =
    let next =
    number_more _ _ _ _ (get_or c.args.bytes.now c.loop-len.len 0) c.loop-len.invariant c.loop-len-test.true refl (search rules) in
    subst (IsNumberSoFar c.args.past c.args.bytes.now (c.loop-len.len + 1))
    (sym (c.min-number.ensures ∙ ap (λ d. limited c.args.past (10 * c.loop-len.number + d)) c.from.ensures)) next
