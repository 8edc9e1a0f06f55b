-- Printers whose macros get a limit, one after another.
use Rattle.std.proofs.Common.{◌≡◌, ◌≢◌, ◌<◌, ◌≤◌, ◌+◌, ℕ, Option, List, [], ◌∷◌, ◌++◌, length, take, drop, map, get_or, set, refl, ap, sym}
use Rattle.std.proofs.Common.{◌∙◌, append-nil, arith}
use Rattle.std.proofs.lemmas.List.{drop_all, drop_more, drop-set-lt, length-set, map_more, take_all, take_more_set}
use Rattle.device_profile.specs.Printer.{Printer}
use Rattle.many_jobs.specs.CheckMany.{limited}

-- the first so many of these printers are those with this limit, and the others are as they were
abbrev pub AreLimitedUpTo : Option ℕ → ℕ → List Printer → List Printer → Type 0
AreLimitedUpTo most n old new =
    (length new ≡ length old) × (take n new ≡ map (limited most) (take n old)) × (drop n new ≡ drop n old)

pub limited_more : (most : Option ℕ) (i : ℕ) (old new : List Printer) (d : Printer) → AreLimitedUpTo most i old new → i < length new →
    AreLimitedUpTo most (i + 1) old (set new i (limited most (get_or new i d)))
limited_more most i old new d h inside =
    let there : i < length old = omega (arith, h.0, inside) in
    let both : get_or new i d ∷ drop (i + 1) new ≡ get_or old i d ∷ drop (i + 1) old =
    sym (drop_more new i d inside) ∙ (h.2 ∙ drop_more old i d there) in
    let first : get_or new i d ≡ get_or old i d = cc in
    let behind : drop (i + 1) new ≡ drop (i + 1) old = cc in
    let it : Printer = limited most (get_or new i d) in (
      length-set new i it ∙ h.0,
      take_more_set new i it inside
          ∙ (ap (λ (front : List Printer). front ++ it ∷ []) h.1
          ∙ (ap (λ (p : Printer). map (limited most) (take i old) ++ limited most p ∷ []) first
          ∙ sym (map_more (limited most) old i d there))),
      drop-set-lt (i + 1) new i it (omega arith) ∙ behind,
    )

pub limited_all : (most : Option ℕ) (n : ℕ) (old new : List Printer) → AreLimitedUpTo most n old new → length new ≤ n →
    new ≡ map (limited most) old
limited_all most n old new h past =
    sym (take_all n new past) ∙ (h.1 ∙ ap (map (limited most)) (take_all n old (omega (arith, h.0, past))))

-- a slice of all elements that was written back
pub written_back : {X : Type 0} (n : ℕ) (old new : List X) → length new ≡ n → length old ≡ n → take n (new ++ drop (length new) old) ≡ new
written_back n old new new_len old_len =
    ap (λ xs. take n (new ++ xs)) (drop_all (length new) old (omega (arith, new_len, old_len)))
    ∙ (ap (take n) (append-nil new) ∙ take_all n new (omega (arith, new_len)))

-- where there are printers, there are some with this limit
pub limited_some : (most : Option ℕ) (printers : List Printer) → printers ≢ [] → map (limited most) printers ≢ []
limited_some most [] some is = some refl
limited_some most (printer ∷ printers) some is = absurd cc
