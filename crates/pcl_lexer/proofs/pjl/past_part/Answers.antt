use Rattle.std.proofs.Common.{◌≡◌, ℕ, ◌-◌, List, length, take, drop, Bool, true, false, None, sym, ap, ◌∙◌}
use Rattle.std.proofs.lemmas.Bool.{cond-true, cond-false}
use Rattle.std.proofs.lemmas.List.{take_rest}
use Rattle.std.specs.List.{prefix_len}
use Rattle.pcl_items.specs.PjlLines.Text.{is_name_byte}
use Rattle.pcl_items.specs.PjlLines.Reader.{front, past_equals, past_value, is_name, past_part}
use Rattle.pcl_lexer.proofs.pjl.past_part.Goals as goal

no_name : (job : Bool) (bytes : List ℕ) (n : ℕ) → n ≡ prefix_len is_name_byte bytes → false ≡ is_name job (take n bytes) →
    None ≡ past_part job bytes
unfolding past_part
no_name job bytes n e other =
    sym (cond-false (is_name job (front is_name_byte bytes)) _ _ (ap (λ m. is_name job (take m bytes)) (sym e) ∙ sym other))

-- what stands behind a name
named : (job : Bool) (bytes : List ℕ) (n : ℕ) → n ≡ prefix_len is_name_byte bytes → true ≡ is_name job (take n bytes) →
    past_value (past_equals (take (length bytes - n) (drop n bytes))) ≡ past_part job bytes
unfolding past_part
named job bytes n e same =
    ap (λ l. past_value (past_equals l)) (take_rest bytes n)
    ∙ ap (λ m. past_value (past_equals (drop m bytes))) e
    ∙ sym (cond-true (is_name job (front is_name_byte bytes)) _ _ (ap (λ m. is_name job (take m bytes)) (sym e) ∙ sym same))

pub returns-then-not-is_name : goal.returns-then-not-is_name
returns-then-not-is_name c =
    no_name c.args.job c.args.bytes.now c.name_len-len.result c.name_len-len.ensures.length c.if-not-is_name.ensures

pub returns-in-Some : goal.returns-in-Some
returns-in-Some c =
    c.past_value.ensures ∙ ap past_value c.in-Some.ensures
    ∙ named c.args.job c.args.bytes.now c.name_len-len.result c.name_len-len.ensures.length c.if-not-is_name.ensures

pub returns-in-None : goal.returns-in-None
returns-in-None c =
    ap past_value c.in-None.ensures
    ∙ named c.args.job c.args.bytes.now c.name_len-len.result c.name_len-len.ensures.length c.if-not-is_name.ensures
