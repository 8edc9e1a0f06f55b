-- Blanks at the end.
use Rattle.std.proofs.Common.{◌≡◌, ℕ, zero, suc, ◌-◌, ◌<◌, ◌≤◌, List, [], ◌∷◌, ◌++◌, length, take, Bool, true, false, refl, sym, ap, subst}
use Rattle.std.proofs.Common.{◌∙◌, arith, get_or}
use Rattle.std.proofs.lemmas.Bool.{cond-true, cond-false}
use Rattle.pcl_items.specs.PjlLines.Text.{is_blank}
use Rattle.pcl_items.specs.PjlLines.Reader.{trimmed, kept}
use Rattle.pcl_lexer.specs.PjlLines.Syntax.{AreBlanks, EndsSolid}

kept_nothing : (b : ℕ) → is_blank b ≡ true → kept b [] ≡ []
kept_nothing b e = cond-true (is_blank b) [] (b ∷ []) e

kept_one : (b : ℕ) → is_blank b ≡ false → kept b [] ≡ b ∷ []
kept_one b e = cond-false (is_blank b) [] (b ∷ []) e

-- nothing is left of blanks
pub blanks_trimmed : (xs : List ℕ) → AreBlanks xs → trimmed xs ≡ []
unfolding trimmed
blanks_trimmed [] h = refl
blanks_trimmed (b ∷ xs) h = ap (kept b) (blanks_trimmed xs h.1) ∙ kept_nothing b h.0

-- what ends in no blank stays, and what stands before it
pub ends_trimmed : (xs ys : List ℕ) → EndsSolid xs → AreBlanks ys → trimmed (xs ++ ys) ≡ xs
unfolding trimmed
ends_trimmed [] ys e h = absurd e
ends_trimmed (b ∷ []) ys e h = ap (kept b) (blanks_trimmed ys h) ∙ kept_one b e
ends_trimmed (b ∷ c ∷ xs) ys e h = ap (kept b) (ends_trimmed (c ∷ xs) ys e h)

keeps_front : (b : ℕ) (xs ys : List ℕ) → EndsSolid ys → kept b (xs ++ ys) ≡ b ∷ (xs ++ ys)
keeps_front b [] [] e = absurd e
keeps_front b [] (c ∷ ys) e = refl
keeps_front b (x ∷ xs) ys e = refl

pub front_trimmed : (xs ys zs : List ℕ) → EndsSolid ys → trimmed zs ≡ ys → trimmed (xs ++ zs) ≡ xs ++ ys
unfolding trimmed
front_trimmed [] ys zs e h = h
front_trimmed (b ∷ xs) ys zs e h = ap (kept b) (front_trimmed xs ys zs e h) ∙ keeps_front b xs ys e

-- what is left, and blanks behind it
pub record Trims (xs : List ℕ) : Type 0 where
  pub blanks : List ℕ
  pub are_blanks : AreBlanks blanks
  pub text : xs ≡ trimmed xs ++ blanks

trims_cons : (b : ℕ) (xs t : List ℕ) → trimmed xs ≡ t → Trims xs → (c : Bool) → is_blank b ≡ c → Trims (b ∷ xs)
unfolding trimmed
trims_cons b xs [] e h true d = record {
  blanks = b ∷ h.blanks;
  are_blanks = (d, h.are_blanks);
  text = ap (λ l. b ∷ l) (h.text ∙ ap (λ l. l ++ h.blanks) e) ∙ ap (λ l. l ++ b ∷ h.blanks) (sym (ap (kept b) e ∙ kept_nothing b d));
}
trims_cons b xs [] e h false d = record {
  blanks = h.blanks;
  are_blanks = h.are_blanks;
  text = ap (λ l. b ∷ l) (h.text ∙ ap (λ l. l ++ h.blanks) e) ∙ ap (λ l. l ++ h.blanks) (sym (ap (kept b) e ∙ kept_one b d));
}
trims_cons b xs (t ∷ ts) e h c d = record {
  blanks = h.blanks;
  are_blanks = h.are_blanks;
  text = ap (λ l. b ∷ l) (h.text ∙ ap (λ l. l ++ h.blanks) e) ∙ ap (λ l. l ++ h.blanks) (sym (ap (kept b) e));
}

pub trims : (xs : List ℕ) → Trims xs
unfolding trimmed
trims [] = record { blanks = []; are_blanks = tt; text = refl }
trims (b ∷ xs) = trims_cons b xs (trimmed xs) refl (trims xs) (is_blank b) refl

-- what is left is nothing, or ends in no blank
pub data LeftOver : List ℕ → Type 0 where
  nothing : LeftOver []
  some : {xs : List ℕ} → EndsSolid xs → LeftOver xs

left_cons : (b : ℕ) (t : List ℕ) → LeftOver t → (c : Bool) → is_blank b ≡ c → LeftOver (kept b t)
left_cons b [] h true d = subst LeftOver (sym (kept_nothing b d)) nothing
left_cons b [] h false d = subst LeftOver (sym (kept_one b d)) (some d)
left_cons b (t ∷ ts) (some e) c d = some e

pub left_over : (xs : List ℕ) → LeftOver (trimmed xs)
unfolding trimmed
left_over [] = nothing
left_over (b ∷ xs) = left_cons b (trimmed xs) (left_over xs) (is_blank b) refl

-- one byte more at the end
one_blank : (xs : List ℕ) (n : ℕ) → n < length xs → is_blank (get_or xs n 0) ≡ true → trimmed (take (suc n) xs) ≡ trimmed (take n xs)
unfolding trimmed
one_blank [] n h e = absurd (omega (arith, h))
one_blank (x ∷ xs) zero h e = kept_nothing x e
one_blank (x ∷ xs) (suc n) h e = ap (kept x) (one_blank xs n (omega (arith, h)) e)

pub blank_last : (xs : List ℕ) (n : ℕ) → 0 < n → n ≤ length xs → is_blank (get_or xs (n - 1) 0) ≡ true →
    trimmed (take (n - 1) xs) ≡ trimmed (take n xs)
blank_last xs zero p h e = absurd (omega (arith, p))
blank_last xs (suc n) p h e =
    let q : suc n - 1 ≡ n = omega arith in
    ap (λ m. trimmed (take m xs)) q ∙ sym (one_blank xs n (omega (arith, h)) (subst (λ m. is_blank (get_or xs m 0) ≡ true) q e))

one_solid : (xs : List ℕ) (n : ℕ) → n < length xs → is_blank (get_or xs n 0) ≡ false → EndsSolid (take (suc n) xs)
one_solid [] n h e = absurd (omega (arith, h))
one_solid (x ∷ []) zero h e = e
one_solid (x ∷ y ∷ xs) zero h e = e
one_solid (x ∷ []) (suc n) h e = absurd (omega (arith, h))
one_solid (x ∷ y ∷ xs) (suc n) h e = one_solid (y ∷ xs) n (omega (arith, h)) e

ends_kept : (xs : List ℕ) → EndsSolid xs → trimmed xs ≡ xs
unfolding trimmed
ends_kept [] e = absurd e
ends_kept (b ∷ []) e = kept_one b e
ends_kept (b ∷ c ∷ xs) e = ap (kept b) (ends_kept (c ∷ xs) e)

pub solid_last : (xs : List ℕ) (n : ℕ) → 0 < n → n ≤ length xs → is_blank (get_or xs (n - 1) 0) ≡ false → trimmed (take n xs) ≡ take n xs
solid_last xs zero p h e = absurd (omega (arith, p))
solid_last xs (suc n) p h e =
    let q : suc n - 1 ≡ n = omega arith in
    ends_kept (take (suc n) xs) (one_solid xs n (omega (arith, h)) (subst (λ m. is_blank (get_or xs m 0) ≡ false) q e))

pub none_left : (xs : List ℕ) (n : ℕ) → n ≡ 0 → trimmed (take n xs) ≡ trimmed xs → take n xs ≡ trimmed xs
unfolding trimmed
none_left xs zero e h = h
none_left xs (suc n) e h = absurd (omega (arith, e))
