use Rattle.std.proofs.Common.{ℕ, List, sym, ap, refl, take, ◌==◌, ◌+◌, ◌∙◌, arith}
use Rattle.std.specs.List.{list_all}
use Rattle.pcl_lexer.proofs.Escapes.Digits.{rest_from, parts_without_point, parts_with_point}
use Rattle.pcl_lexer.proofs.Frames.Figures.{coordinate_known, digit_known, digits_front}
use Rattle.pcl_lexer.proofs.frame.number.longest_figures.Goals as goal

pub returns-then-not-is_point_at-clause-len : goal.returns-then-not-is_point_at-clause-len
returns-then-not-is_point_at-clause-len c =
    let sign = c.leading_sign-sign.ensures in
    let whole = c.leading_digits-whole.ensures in
    sym (ap (λ f. f.len)
    (parts_without_point c.args.bytes.now _ _ _ sign.sign sign.len whole.len (sym c.is_point_at.ensures.point ∙ c.if-not-is_point_at.true)))

pub returns-then-not-is_point_at-clause-coordinate : goal.returns-then-not-is_point_at-clause-coordinate
returns-then-not-is_point_at-clause-coordinate c =
    let sign = c.leading_sign-sign.ensures in
    let whole = c.leading_digits-whole.ensures in
    coordinate_known _ _ _ _ _ _ _
    (parts_without_point c.args.bytes.now _ _ _ sign.sign sign.len whole.len (sym c.is_point_at.ensures.point ∙ c.if-not-is_point_at.true))
    whole.number refl

pub returns-then-not-is_point_at-clause-digit : goal.returns-then-not-is_point_at-clause-digit
returns-then-not-is_point_at-clause-digit c =
    let sign = c.leading_sign-sign.ensures in
    let whole = c.leading_digits-whole.ensures in
    digit_known _ _ _ _ _ _
    (parts_without_point c.args.bytes.now _ _ _ sign.sign sign.len whole.len (sym c.is_point_at.ensures.point ∙ c.if-not-is_point_at.true))
    (omega (arith, whole.len))

pub returns-clause-len : goal.returns-clause-len
returns-clause-len c =
    let sign = c.leading_sign-sign.ensures in
    let whole = c.leading_digits-whole.ensures in
    let decimals = c.leading_digits-decimals.ensures in
    sym (ap (λ f. f.len)
    (parts_with_point c.args.bytes.now _ _ _ _ sign.sign sign.len whole.len
    (sym c.is_point_at.ensures.point ∙ c.if-not-is_point_at.false) decimals.len))

pub returns-clause-coordinate : goal.returns-clause-coordinate
returns-clause-coordinate c =
    let sign = c.leading_sign-sign.ensures in
    let whole = c.leading_digits-whole.ensures in
    let decimals = c.leading_digits-decimals.ensures in
    let rest : List ℕ = rest_from c.args.bytes.now (c.leading_sign-sign.result.1 + c.leading_digits-whole.result.len + 1) in
    coordinate_known _ _ _ _ _ _ _
    (parts_with_point c.args.bytes.now _ _ _ _ sign.sign sign.len whole.len
    (sym c.is_point_at.ensures.point ∙ c.if-not-is_point_at.false) decimals.len)
    whole.number
    (c.are_zeros.ensures ∙ ap (λ n. list_all (λ d. d == 48) (take n rest)) decimals.len ∙ ap (list_all (λ d. d == 48)) (digits_front rest))

pub returns-clause-digit : goal.returns-clause-digit
returns-clause-digit c =
    let sign = c.leading_sign-sign.ensures in
    let whole = c.leading_digits-whole.ensures in
    let decimals = c.leading_digits-decimals.ensures in
    digit_known _ _ _ _ _ _
    (parts_with_point c.args.bytes.now _ _ _ _ sign.sign sign.len whole.len
    (sym c.is_point_at.ensures.point ∙ c.if-not-is_point_at.false) decimals.len)
    (omega (arith, whole.len, decimals.len))
