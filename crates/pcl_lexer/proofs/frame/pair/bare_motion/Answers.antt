use Rattle.std.proofs.Common.{◌≡◌, ◌+◌, ◌<◌, ◌⊎◌, ℕ, List, length, get_or, rules, ap, subst, ◌∙◌, arith}
use Rattle.std.proofs.lemmas.List.{get_or-drop, length-drop}
use Rattle.pcl_lexer.proofs.Escapes.Digits.{rest_from, rest_is}
use Rattle.pcl_lexer.proofs.Frames.Pairs.{bare_behind, bare_stands}
use Rattle.pcl_lexer.proofs.frame.pair.bare_motion.Goals as goal

pub returns-in-59-clause-frame : goal.returns-in-59-clause-frame
returns-in-59-clause-frame c =
    let bytes = c.args.bytes.now in
    let len = c.in_ok-lead.lead.len in
    let inside : len < length bytes = omega (arith, c.in-59.len_at_least, ap length (rest_is bytes len), length-drop len bytes) in
    let first : (get_or (rest_from bytes len) 0 0 ≡ 59) ⊎ (get_or (rest_from bytes len) 0 0 ≡ 80) = search rules in
    let same : len + 0 ≡ len = omega arith in
    let there : get_or (rest_from bytes len) 0 0 ≡ get_or bytes len 0 =
    ap (λ (l : List ℕ). get_or l 0 0) (rest_is bytes len) ∙ get_or-drop len bytes 0 0 ∙ ap (λ k. get_or bytes k 0) same in
    bare_stands c.in_ok-lead.lead c.args.place bytes c.in_ok-lead.ensures inside (subst (λ (b : ℕ). (b ≡ 59) ⊎ (b ≡ 80)) there first)

pub returns-in-59-clause-behind : goal.returns-in-59-clause-behind
returns-in-59-clause-behind c =
    let bytes = c.args.bytes.now in
    let len = c.in_ok-lead.lead.len in
    let inside : len < length bytes = omega (arith, c.in-59.len_at_least, ap length (rest_is bytes len), length-drop len bytes) in
    let first : (get_or (rest_from bytes len) 0 0 ≡ 59) ⊎ (get_or (rest_from bytes len) 0 0 ≡ 80) = search rules in
    let same : len + 0 ≡ len = omega arith in
    let there : get_or (rest_from bytes len) 0 0 ≡ get_or bytes len 0 =
    ap (λ (l : List ℕ). get_or l 0 0) (rest_is bytes len) ∙ get_or-drop len bytes 0 0 ∙ ap (λ k. get_or bytes k 0) same in
    bare_behind c.in_ok-lead.lead c.args.place bytes c.in_ok-lead.ensures inside (subst (λ (b : ℕ). (b ≡ 59) ⊎ (b ≡ 80)) there first)
