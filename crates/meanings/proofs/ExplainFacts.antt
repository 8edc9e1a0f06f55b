-- Lemmas on what is explained.
use Rattle.std.proofs.Common.{◌≡◌, ◌<◌, ◌≤◌, ◌+◌, ℕ, List, [], ◌∷◌, ◌++◌, map, take, drop, length, get_or, filter, append-nil, Bor}
use Rattle.std.proofs.Common.{option_map, ◌||◌, Bool, true, false, Option, Some, refl, sym, ◌∙◌, ap, subst, codes, if◌then◌else◌}
use Rattle.std.proofs.lemmas.List.{drop_all, drop_more, take_all}
use Rattle.std.proofs.lemmas.List.Folds.{list_any_more}
use Rattle.std.specs.List.{concat, list_any}
use Rattle.streams.proofs.OutletFacts.{Adds-none}
use Rattle.streams.specs.Outlet.{OutletState, Adds, AddsFront}
use Rattle.streams.specs.Writing.{Writes}
use Rattle.requests.proofs.Writing.{pieces_more, Writes-cut}
use Rattle.meanings.specs.Explanations.{complaint_of_code, explained_by, is_about}

-- what is written of one text: all of it, or nothing
abbrev pub told : (List ℕ → Bool) → List ℕ → List ℕ
told p text = if p text then text else []

-- what is written of each text is those that pass the test
told_all : {X : Type 0} (p : List ℕ → Bool) (f : X → List ℕ) (xs : List X) →
    concat (map (λ x. told p (f x)) xs) ≡ concat (filter p (map f xs))
told_all p f [] = refl
told_all p f (x ∷ xs) =
    elim (p (f x)) as (λ b.
    (if b then f x else []) ++ concat (map (λ x. told p (f x)) xs)
    ≡ concat (if b then f x ∷ filter p (map f xs) else filter p (map f xs))) [
      | true ↦ ap (λ l. f x ++ l) (told_all p f xs)
      | false ↦ told_all p f xs
    ]

told_whole : (p : List ℕ → Bool) (text : List ℕ) → p text ≡ true → text ≡ told p text
told_whole p text e = ap (λ b. if b then text else []) (sym e)

told_none : (p : List ℕ → Bool) (text : List ℕ) → p text ≡ false → [] ≡ told p text
told_none p text e = ap (λ b. if b then text else []) (sym e)

module _ {X : Type 0} (p : List ℕ → Bool) (f : X → List ℕ) (xs : List X) (i : ℕ) (d : X) (a b c : OutletState) (h : i < length xs)
    (before : Adds a b (concat (map (λ x. told p (f x)) (take i xs)))) where
  -- one more text that passes was written whole
  pub told_more : (text : List ℕ) → text ≡ f (get_or xs i d) → p (f (get_or xs i d)) ≡ true → Adds b c text →
      Adds a c (concat (map (λ x. told p (f x)) (take (i + 1) xs)))
  told_more text is e more =
      pieces_more (λ x. told p (f x)) xs i d a b c h before (subst (Adds b c) (is ∙ told_whole p (f (get_or xs i d)) e) more)

  -- the writer failed at one more text
  pub told_cut : (text : List ℕ) → c.failed ≡ true → text ≡ f (get_or xs i d) → p (f (get_or xs i d)) ≡ true → AddsFront b c text →
      Writes a c (concat (filter p (map f xs)))
  told_cut text failure is e cut =
      subst (Writes a c) (told_all p f xs)
      (Writes-cut (λ x. told p (f x)) xs i d a b c h failure before (subst (AddsFront b c) (is ∙ told_whole p (f (get_or xs i d)) e) cut))

-- one more text does not pass, and was not written
pub told_past : {X : Type 0} (p : List ℕ → Bool) (f : X → List ℕ) (xs : List X) (i : ℕ) (d : X) (a b : OutletState) → i < length xs →
    Adds a b (concat (map (λ x. told p (f x)) (take i xs))) → p (f (get_or xs i d)) ≡ false →
    Adds a b (concat (map (λ x. told p (f x)) (take (i + 1) xs)))
told_past p f xs i d a b h before e =
    pieces_more (λ x. told p (f x)) xs i d a b b h before (subst (Adds b b) (told_none p (f (get_or xs i d)) e) (Adds-none b))

-- all was written
pub told_to_the_end : {X : Type 0} (p : List ℕ → Bool) (f : X → List ℕ) (xs : List X) (i : ℕ) (a b : OutletState) → length xs ≤ i →
    Adds a b (concat (map (λ x. told p (f x)) (take i xs))) → Writes a b (concat (filter p (map f xs)))
told_to_the_end p f xs i a b h all =
    let adds = subst (Adds a b) (ap (λ l. concat (map (λ x. told p (f x)) l)) (take_all i xs h) ∙ told_all p f xs) all in
    record { front = (concat (filter p (map f xs)), [], sym (append-nil (concat (filter p (map f xs)))), adds); whole = λ working. adds }

-- the pieces of the line on a code that nothing has
pub Writes-unknown : (a b : OutletState) (code first : List ℕ) → first ≡ code →
    Writes a b
    (codes "error: no fault, finding, note or command has the number or the name '"
    ++ (first ++ codes "'; 'pclcheck explain' writes all, 'pclcheck explain commands' lists the commands\n")) →
    Writes a b (complaint_of_code (Some code))
Writes-unknown a b code first e written =
    subst
    (λ l.
    Writes a b
    (codes "error: no fault, finding, note or command has the number or the name '"
    ++ (l ++ codes "'; 'pclcheck explain' writes all, 'pclcheck explain commands' lists the commands\n")))
    e written

-- a test of what elements stand for
pub any_of_map : {X : Type 0} (p : List ℕ → Bool) (f : X → List ℕ) (xs : List X) → list_any p (map f xs) ≡ list_any (λ x. p (f x)) xs
any_of_map p f [] = refl
any_of_map p f (x ∷ xs) = ap (λ b. p (f x) || b) (any_of_map p f xs)

-- one more element does not pass
pub none_more : {X : Type 0} (p : X → Bool) (xs : List X) (i : ℕ) (d : X) → i < length xs → list_any p (take i xs) ≡ false →
    p (get_or xs i d) ≡ false → list_any p (take (i + 1) xs) ≡ false
none_more p xs i d h before e = list_any_more p xs i d h ∙ (ap (λ b. b || p (get_or xs i d)) before ∙ e)

-- no element passes
pub none_at_all : {X : Type 0} (p : X → Bool) (xs : List X) (i : ℕ) → length xs ≤ i → list_any p (take i xs) ≡ false → list_any p xs ≡ false
none_at_all p xs i h before = ap (list_any p) (sym (take_all i xs h)) ∙ before

-- what was told of a code that nothing has
pub told_unknown : (a b : OutletState) (code : Option (Bor (List ℕ))) (word : Bor (List ℕ)) → code ≡ Some word →
    Writes a b (complaint_of_code (Some word.now)) → Writes a b (complaint_of_code (option_map (λ word. word.now) code))
told_unknown a b code word is written = subst (λ c. Writes a b (complaint_of_code (option_map (λ word. word.now) c))) (sym is) written

-- What the texts from one on say of a code is what that one says, if it is about the code, or what those behind it do.
module _ {X : Type 0} (code : List ℕ) (f : X → List ℕ) (xs : List X) (i : ℕ) (d : X) (word : List ℕ) (same : word ≡ code)
    (h : i < length xs) (told : Bool) (is : told ≡ is_about word (f (get_or xs i d))) where
  pub explained_at : told ≡ true → explained_by code (map f (drop i xs)) ≡ f (get_or xs i d)
  explained_at holds =
      ap (λ l. explained_by code (map f l)) (drop_more xs i d h)
      ∙ ap (λ b. if b then f (get_or xs i d) else explained_by code (map f (drop (i + 1) xs)))
      (subst (λ c. is_about c (f (get_or xs i d)) ≡ true) same (sym is ∙ holds))

  pub explained_behind : told ≡ false → explained_by code (map f (drop i xs)) ≡ explained_by code (map f (drop (i + 1) xs))
  explained_behind fails =
      ap (λ l. explained_by code (map f l)) (drop_more xs i d h)
      ∙ ap (λ b. if b then f (get_or xs i d) else explained_by code (map f (drop (i + 1) xs)))
      (subst (λ c. is_about c (f (get_or xs i d)) ≡ false) same (sym is ∙ fails))

pub explained_past : {X : Type 0} (code : List ℕ) (f : X → List ℕ) (xs : List X) (i : ℕ) → length xs ≤ i →
    explained_by code (map f (drop i xs)) ≡ []
explained_past code f xs i h = ap (λ l. explained_by code (map f l)) (drop_all i xs h)
