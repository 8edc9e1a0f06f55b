-- Notes that are told one after another.
use Rattle.std.proofs.Common.{◌≡◌, ℕ, Bool, true, false, cond, List, [], ◌∷◌, ◌++◌, refl, ap, sym, ◌∙◌, subst, append-nil, append_assoc}
use Rattle.std.proofs.Common.{flat_map}
use Rattle.std.proofs.lemmas.Grind.{flat_map-append}
use Rattle.notes.specs.declared.note.Note.{Note}
use Rattle.notes.specs.Note.{Told, told_if, firsts, is_among, among_behind}
use Rattle.notes.specs.Carriers.Rest.{WritesNotes, told_behind}

firsts-append : (told : List Note) (xs ys : List Told) → firsts told (xs ++ ys) ≡ firsts told xs ++ firsts (told_behind told xs) ys
firsts-append told [] ys = refl
firsts-append told (x ∷ xs) ys =
    let first : List Told = cond (is_among told x.note) [] (x ∷ []) in
    let next : List Note = among_behind told x.note in
    ap (λ l. first ++ l) (firsts-append next xs ys) ∙ sym (append_assoc first (firsts next xs) (firsts (told_behind next xs) ys))

told_behind-append : (told : List Note) (xs ys : List Told) → told_behind told (xs ++ ys) ≡ told_behind (told_behind told xs) ys
told_behind-append told [] ys = refl
told_behind-append told (x ∷ xs) ys = told_behind-append (among_behind told x.note) xs ys

-- what is told of notes, and then of others
pub lines-then : (write : Told → List ℕ) (told : List Note) (xs ys : List Told) →
    flat_map write (firsts told (xs ++ ys)) ≡ flat_map write (firsts told xs) ++ flat_map write (firsts (told_behind told xs) ys)
lines-then write told xs ys =
    ap (flat_map write) (firsts-append told xs ys) ∙ flat_map-append write (firsts told xs) (firsts (told_behind told xs) ys)

-- nothing was told
pub WritesNotes-none : (write : Told → List ℕ) (told : List Note) (text : List ℕ) → WritesNotes write told told text text []
WritesNotes-none write told text = record { text_is = sym (append-nil text); told_is = refl }

-- notes were told, and then others
pub WritesNotes-then : {write : Told → List ℕ} {a b c : List Note} {k l m : List ℕ} {xs ys : List Told} → WritesNotes write a b k l xs →
    WritesNotes write b c l m ys → WritesNotes write a c k m (xs ++ ys)
WritesNotes-then {write = write} {a = a} {b = b} {c = c} {k = k} {l = l} {m = m} {xs = xs} {ys = ys} p q = record {
  text_is =
      q.text_is
      ∙ (ap (λ told. l ++ flat_map write (firsts told ys)) p.told_is
      ∙ (ap (λ t. t ++ flat_map write (firsts (told_behind a xs) ys)) p.text_is
      ∙ (append_assoc k (flat_map write (firsts a xs)) (flat_map write (firsts (told_behind a xs) ys))
      ∙ ap (λ t. k ++ t) (sym (lines-then write a xs ys)))));
  told_is = q.told_is ∙ (ap (λ told. told_behind told ys) p.told_is ∙ sym (told_behind-append a xs ys));
}

-- ---- one note

module _ (write : Told → List ℕ) (told : List Note) (text : List ℕ) (holds : Bool) (place : ℕ) (note : Note) where
  abbrev one : Told
  one = record { place = place; note = note }

  -- it does not hold
  pub tells_not : holds ≡ false → WritesNotes write told told text text (told_if holds place note)
  tells_not e = subst (λ b. WritesNotes write told told text text (told_if b place note)) (sym e) (WritesNotes-none write told text)

  -- it was told before
  again : is_among told note ≡ true → WritesNotes write told told text text (one ∷ [])
  again e = record {
    text_is = sym (append-nil text) ∙ ap (λ b. text ++ flat_map write (cond b [] (one ∷ []) ++ [])) (sym e);
    told_is = ap (λ b. cond b told (told ++ note ∷ [])) (sym e);
  }

  pub tells_again : is_among told note ≡ true → WritesNotes write told told text text (told_if holds place note)
  tells_again e =
      elim holds as (λ b. WritesNotes write told told text text (told_if b place note)) [
        | true ↦ again e
        | false ↦ WritesNotes-none write told text
      ]

  -- it was told now
  pub tells_now : (told' : List Note) (text' : List ℕ) → holds ≡ true → is_among told note ≡ false → text' ≡ text ++ write one →
      told' ≡ told ++ note ∷ [] → WritesNotes write told told' text text' (told_if holds place note)
  tells_now told' text' e new text_is told_is =
      subst (λ b. WritesNotes write told told' text text' (told_if b place note)) (sym e) (record {
        text_is =
            text_is
            ∙ (ap (λ t. text ++ t) (sym (append-nil (write one)))
            ∙ ap (λ b. text ++ flat_map write (cond b [] (one ∷ []) ++ [])) (sym new));
        told_is = told_is ∙ ap (λ b. cond b told (told ++ note ∷ [])) (sym new);
      })

-- the same note by other words
pub tells_at : (write : Told → List ℕ) (a b : List Note) (k l : List ℕ) (holds holds' : Bool) (place place' : ℕ) (note : Note) →
    holds ≡ holds' → place ≡ place' → WritesNotes write a b k l (told_if holds place note) →
    WritesNotes write a b k l (told_if holds' place' note)
tells_at write a b k l holds holds' place place' note e f h =
    subst (λ n. WritesNotes write a b k l (told_if holds' n note)) f (subst (λ v. WritesNotes write a b k l (told_if v place note)) e h)
