use Rattle.std.proofs.Common.{sym, refl, ◌∙◌}
use Rattle.pcl_lexer.proofs.Escapes.Digits.{without_point, with_point}
use Rattle.pcl_lexer.proofs.pcl.field.longest_field.Goals as goal

pub returns-clause-len : goal.returns-clause-len
returns-clause-len c =
    let sign = c.leading_sign-sign.ensures in
    let whole = c.leading_whole-whole.ensures in
    (without_point c.args.bytes.now _ _ _ _ sign.sign sign.len whole.len whole.number
    (sym c.is_point_at.ensures.point ∙ c.if-is_point_at.false)).len_is

pub returns-clause-number : goal.returns-clause-number
returns-clause-number c =
    let sign = c.leading_sign-sign.ensures in
    let whole = c.leading_whole-whole.ensures in
    (without_point c.args.bytes.now _ _ _ _ sign.sign sign.len whole.len whole.number
    (sym c.is_point_at.ensures.point ∙ c.if-is_point_at.false)).number_is

pub returns-then-is_point_at-clause-len : goal.returns-then-is_point_at-clause-len
returns-then-is_point_at-clause-len c =
    let sign = c.leading_sign-sign.ensures in
    let whole = c.leading_whole-whole.ensures in
    c.with_decimals.ensures.len
    ∙ (with_point c.args.bytes.now _ _ _ _ _ _ _ sign.sign sign.len whole.len whole.number
    (sym c.is_point_at.ensures.point ∙ c.if-is_point_at.true) refl refl refl).len_is

pub returns-then-is_point_at-clause-number : goal.returns-then-is_point_at-clause-number
returns-then-is_point_at-clause-number c =
    let sign = c.leading_sign-sign.ensures in
    let whole = c.leading_whole-whole.ensures in
    c.with_decimals.ensures.number
    ∙ (with_point c.args.bytes.now _ _ _ _ _ _ _ sign.sign sign.len whole.len whole.number
    (sym c.is_point_at.ensures.point ∙ c.if-is_point_at.true) refl refl refl).number_is
