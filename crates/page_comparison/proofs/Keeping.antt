-- What is kept of differences, one list after another, and what is told of it in the end.
use Rattle.std.proofs.Common.{◌≡◌, ◌+◌, ◌<◌, ◌≤◌, ℕ, min, Bool, true, false, List, [], ◌∷◌, ◌++◌, length, take, flat_map}
use Rattle.std.proofs.Common.{append-nil, append_assoc, ap, arith, cond, count_by, if◌then◌else◌, length-take, nat_lt, refl, subst, sym}
use Rattle.std.proofs.Common.{take_all, ◌∙◌}
use Rattle.std.proofs.lemmas.Bool.{le-ltb, lt-ltb, ltb-false, ltb-true}
use Rattle.std.proofs.lemmas.List.{length_push, take-append-le}
use Rattle.std.proofs.lemmas.List.Concat.{flat_map-append}
use Rattle.std.proofs.lemmas.List.Sums.{sum_by_push}
use Rattle.sinks.specs.Counts.{capped}
use Rattle.page_comparison.specs.declared.differences.Most.{Most}
use Rattle.page_comparison.specs.declared.differences.Nearness.{Nearness}
use Rattle.page_comparison.specs.declared.differences.PageDifference.{PageDifference}
use Rattle.page_comparison.specs.Comparison.{by_page, differing_pairs, differs, listing_of, page_differences}
use Rattle.page_comparison.specs.Kept.{Kept, kept_all, kept_told, kept_with, none_kept, page_differs, page_kept, page_over, pages_kept}
use Rattle.page_comparison.specs.Pages.{MadePage, MadePair, pair_at}

-- ---- one list after another

pub kept_all-append : (xs ys : List PageDifference) (kept : Kept) → kept_all (xs ++ ys) kept ≡ kept_all ys (kept_all xs kept)
kept_all-append [] ys kept = refl
kept_all-append (x ∷ xs) ys kept = kept_all-append xs ys (kept_with x kept)

pub kept_both : (xs ys : List PageDifference) (a b c : Kept) → b ≡ kept_all xs a → c ≡ kept_all ys b → c ≡ kept_all (xs ++ ys) a
kept_both xs ys a b c first second = second ∙ (ap (kept_all ys) first ∙ sym (kept_all-append xs ys a))

-- ---- the first ones, and whether there are more

record IsKept (most : Most) (seen : List PageDifference) (kept : Kept) : Type 0 where
  most_is : kept.most ≡ most
  listed : kept.listed ≡ take most.differences seen
  more : kept.more ≡ nat_lt most.differences (length seen)

kept_next : (most : Most) (seen : List PageDifference) (d : PageDifference) (kept : Kept) → IsKept most seen kept →
    IsKept most (seen ++ d ∷ []) (kept_with d kept)
kept_next most seen d kept h = by_test (nat_lt (length kept.listed) kept.most.differences) refl
  where
    long : length kept.listed ≡ min most.differences (length seen)
    long = ap length h.listed ∙ length-take most.differences seen

    same : kept.most.differences ≡ most.differences
    same = ap (λ (m : Most). m.differences) h.most_is

    by_test : (t : Bool) → nat_lt (length kept.listed) kept.most.differences ≡ t → IsKept most (seen ++ d ∷ [])
        (if t then record kept { listed = kept.listed ++ d ∷ []; differs = true } else record kept { more = true; differs = true })
    by_test true e =
        let room : length kept.listed < kept.most.differences = ltb-true (length kept.listed) kept.most.differences e in
        let few : length seen < most.differences = omega (arith, room, long, same) in
        let grown : length (seen ++ d ∷ []) ≤ most.differences = omega (arith, few, length_push seen d) in
        let fits : length seen ≤ most.differences = omega (arith, few) in
        record {
          most_is = h.most_is;
          listed =
              ap (λ l. l ++ d ∷ []) (h.listed ∙ take_all most.differences seen fits)
              ∙ sym (take_all most.differences (seen ++ d ∷ []) grown);
          more =
              h.more
              ∙ (le-ltb most.differences (length seen) fits ∙ sym (le-ltb most.differences (length (seen ++ d ∷ [])) grown));
        }
    by_test false e =
        let full : kept.most.differences ≤ length kept.listed = ltb-false (length kept.listed) kept.most.differences e in
        let many : most.differences ≤ length seen = omega (arith, full, long, same) in
        let grown : most.differences < length (seen ++ d ∷ []) = omega (arith, many, length_push seen d) in
        record {
          most_is = h.most_is;
          listed = h.listed ∙ sym (take-append-le most.differences seen (d ∷ []) many);
          more = sym (lt-ltb most.differences (length (seen ++ d ∷ [])) grown);
        }

kept_list : (most : Most) (ds seen : List PageDifference) (kept : Kept) → IsKept most seen kept →
    IsKept most (seen ++ ds) (kept_all ds kept)
kept_list most [] seen kept h = subst (λ l. IsKept most l kept) (sym (append-nil seen)) h
kept_list most (d ∷ ds) seen kept h =
    subst (λ l. IsKept most l (kept_all ds (kept_with d kept))) (append_assoc seen (d ∷ []) ds)
    (kept_list most ds (seen ++ d ∷ []) (kept_with d kept) (kept_next most seen d kept h))

kept_over : (most : Most) (seen : List PageDifference) (pair : MadePair) (kept : Kept) → IsKept most seen kept →
    IsKept most seen (page_over pair kept)
kept_over most seen pair kept h = by_test kept.differs
  where
    by_test : (t : Bool) → IsKept most seen (if t then page_differs pair kept else kept)
    by_test true = record { most_is = h.most_is; listed = h.listed; more = h.more }
    by_test false = h

-- ---- one difference more

pub kept_room : (d : PageDifference) (kept : Kept) → length kept.listed < kept.most.differences →
    kept_with d kept ≡ record kept { listed = kept.listed ++ d ∷ []; differs = true }
kept_room d kept room =
    ap
    (λ (t : Bool). if t then record kept { listed = kept.listed ++ d ∷ []; differs = true }
    else record kept { more = true; differs = true })
    (lt-ltb (length kept.listed) kept.most.differences room)

pub kept_full : (d : PageDifference) (kept : Kept) → kept.most.differences ≤ length kept.listed →
    kept_with d kept ≡ record kept { more = true; differs = true }
kept_full d kept full =
    ap
    (λ (t : Bool). if t then record kept { listed = kept.listed ++ d ∷ []; differs = true }
    else record kept { more = true; differs = true })
    (le-ltb (length kept.listed) kept.most.differences full)

-- ---- the pages that differ

with_differs : (d : PageDifference) (kept : Kept) → (kept_with d kept).differs ≡ true
with_differs d kept = by_test (nat_lt (length kept.listed) kept.most.differences)
  where
    by_test : (t : Bool) →
        (if t then record kept { listed = kept.listed ++ d ∷ []; differs = true } else record kept { more = true; differs = true }).differs
        ≡ true
    by_test true = refl
    by_test false = refl

with_pages : (d : PageDifference) (kept : Kept) → (kept_with d kept).pages ≡ kept.pages
with_pages d kept = by_test (nat_lt (length kept.listed) kept.most.differences)
  where
    by_test : (t : Bool) →
        (if t then record kept { listed = kept.listed ++ d ∷ []; differs = true } else record kept { more = true; differs = true }).pages
        ≡ kept.pages
    by_test true = refl
    by_test false = refl

all_differ : (ds : List PageDifference) (kept : Kept) → kept.differs ≡ true → (kept_all ds kept).differs ≡ true
all_differ [] kept h = h
all_differ (d ∷ ds) kept h = all_differ ds (kept_with d kept) (with_differs d kept)

kept_differs : (ds : List PageDifference) (kept : Kept) → kept.differs ≡ false → (kept_all ds kept).differs ≡ differs ds
kept_differs [] kept h = h
kept_differs (d ∷ ds) kept h = all_differ ds (kept_with d kept) (with_differs d kept)

kept_pages : (ds : List PageDifference) (kept : Kept) → (kept_all ds kept).pages ≡ kept.pages
kept_pages [] kept = refl
kept_pages (d ∷ ds) kept = kept_pages ds (kept_with d kept) ∙ with_pages d kept

over_pages : (t : Bool) (pair : MadePair) (kept : Kept) → kept.differs ≡ t →
    (page_over pair kept).pages ≡ (if t then capped (kept.pages + 1) else kept.pages)
over_pages true pair kept e = ap (λ (d : Bool). (if d then page_differs pair kept else kept).pages) e
over_pages false pair kept e = ap (λ (d : Bool). (if d then page_differs pair kept else kept).pages) e

over_idle : (pair : MadePair) (kept : Kept) → (page_over pair kept).differs ≡ false
over_idle pair kept = by_test kept.differs refl
  where
    by_test : (t : Bool) → kept.differs ≡ t → (if t then page_differs pair kept else kept).differs ≡ false
    by_test true e = refl
    by_test false e = e

-- behind a page nothing is open
pub page_idle : (nearness : Nearness) (page : ℕ) (a b : MadePage) (kept : Kept) → (page_kept nearness page a b kept).differs ≡ false
page_idle nearness page a b kept = over_idle (pair_at page a b) (kept_all (page_differences nearness page a b) kept)

counted_on : (n c : ℕ) (t : Bool) → n ≡ capped c → (if t then capped (n + 1) else n) ≡ capped (c + cond t 1 0)
counted_on n c true e = omega (arith, e)
counted_on n c false e = omega (arith, e)

-- ---- all pages

abbrev joined : List (List PageDifference) → List PageDifference
joined pages = flat_map (λ page. page) pages

record IsListed (most : Most) (seen : List (List PageDifference)) (kept : Kept) : Type 0 where
  so_far : IsKept most (joined seen) kept
  pages : kept.pages ≡ capped (count_by differs seen)
  idle : kept.differs ≡ false

page_listed : (most : Most) (seen : List (List PageDifference)) (ds : List PageDifference) (pair : MadePair) (kept : Kept) →
    IsListed most seen kept → IsListed most (seen ++ ds ∷ []) (page_over pair (kept_all ds kept))
page_listed most seen ds pair kept h =
    let behind : Kept = kept_all ds kept in
    let joined_is : joined (seen ++ ds ∷ []) ≡ joined seen ++ ds =
    flat_map-append (λ page. page) seen (ds ∷ []) ∙ ap (λ l. joined seen ++ l) (append-nil ds) in
    record {
      so_far =
          subst (λ l. IsKept most l (page_over pair behind)) (sym joined_is)
          (kept_over most (joined seen ++ ds) pair behind (kept_list most ds (joined seen) kept h.so_far));
      pages =
          over_pages (differs ds) pair behind (kept_differs ds kept h.idle)
          ∙ (counted_on behind.pages (count_by differs seen) (differs ds) (kept_pages ds kept ∙ h.pages)
          ∙ ap capped (sym (sum_by_push (λ x. cond (differs x) 1 0) seen ds)));
      idle = over_idle pair behind;
    }

pages_listed : (nearness : Nearness) (most : Most) (pairs : List (MadePage × MadePage)) (page : ℕ) (seen : List (List PageDifference))
    (kept : Kept) → IsListed most seen kept →
    IsListed most (seen ++ by_page nearness page pairs) (pages_kept nearness page pairs kept)
pages_listed nearness most [] page seen kept h = subst (λ l. IsListed most l kept) (sym (append-nil seen)) h
pages_listed nearness most (pair ∷ pairs) page seen kept h =
    let ds : List PageDifference = page_differences nearness page pair.0 pair.1 in
    let behind : Kept = page_kept nearness page pair.0 pair.1 kept in
    subst (λ l. IsListed most l (pages_kept nearness (page + 1) pairs behind))
    (append_assoc seen (ds ∷ []) (by_page nearness (page + 1) pairs))
    (pages_listed nearness most pairs (page + 1) (seen ++ ds ∷ []) behind
    (page_listed most seen ds (pair_at page pair.0 pair.1) kept h))

-- ---- the pages that are kept

record HasPairs (most : Most) (seen : List MadePair) (kept : Kept) : Type 0 where
  most_is : kept.most ≡ most
  pairs : kept.pairs ≡ take most.pages seen

with_pairs : (most : Most) (seen : List MadePair) (d : PageDifference) (kept : Kept) → HasPairs most seen kept →
    HasPairs most seen (kept_with d kept)
with_pairs most seen d kept h = by_test (nat_lt (length kept.listed) kept.most.differences)
  where
    by_test : (t : Bool) → HasPairs most seen
        (if t then record kept { listed = kept.listed ++ d ∷ []; differs = true } else record kept { more = true; differs = true })
    by_test true = record { most_is = h.most_is; pairs = h.pairs }
    by_test false = record { most_is = h.most_is; pairs = h.pairs }

all_pairs : (most : Most) (seen : List MadePair) (ds : List PageDifference) (kept : Kept) → HasPairs most seen kept →
    HasPairs most seen (kept_all ds kept)
all_pairs most seen [] kept h = h
all_pairs most seen (d ∷ ds) kept h = all_pairs most seen ds (kept_with d kept) (with_pairs most seen d kept h)

-- one more that differs
pair_next : (most : Most) (seen : List MadePair) (pair : MadePair) (kept : Kept) → HasPairs most seen kept →
    HasPairs most (seen ++ pair ∷ []) (page_differs pair kept)
pair_next most seen pair kept h = record { most_is = h.most_is; pairs = by_test (nat_lt (length kept.pairs) kept.most.pages) refl }
  where
    long : length kept.pairs ≡ min most.pages (length seen)
    long = ap length h.pairs ∙ length-take most.pages seen

    same : kept.most.pages ≡ most.pages
    same = ap (λ (m : Most). m.pages) h.most_is

    by_test : (t : Bool) → nat_lt (length kept.pairs) kept.most.pages ≡ t →
        (if t then kept.pairs ++ pair ∷ [] else kept.pairs) ≡ take most.pages (seen ++ pair ∷ [])
    by_test true e =
        let room : length kept.pairs < kept.most.pages = ltb-true (length kept.pairs) kept.most.pages e in
        let few : length seen < most.pages = omega (arith, room, long, same) in
        let grown : length (seen ++ pair ∷ []) ≤ most.pages = omega (arith, few, length_push seen pair) in
        let fits : length seen ≤ most.pages = omega (arith, few) in
        ap (λ l. l ++ pair ∷ []) (h.pairs ∙ take_all most.pages seen fits) ∙ sym (take_all most.pages (seen ++ pair ∷ []) grown)
    by_test false e =
        let full : kept.most.pages ≤ length kept.pairs = ltb-false (length kept.pairs) kept.most.pages e in
        let many : most.pages ≤ length seen = omega (arith, full, long, same) in
        h.pairs ∙ sym (take-append-le most.pages seen (pair ∷ []) many)

-- behind a page of which it is known whether it differs
over_pairs : (t : Bool) (most : Most) (seen : List MadePair) (pair : MadePair) (kept : Kept) → kept.differs ≡ t → HasPairs most seen kept →
    HasPairs most (if t then seen ++ pair ∷ [] else seen) (page_over pair kept)
over_pairs true most seen pair kept e h =
    subst (λ (d : Bool). HasPairs most (seen ++ pair ∷ []) (if d then page_differs pair kept else kept)) (sym e)
    (pair_next most seen pair kept h)
over_pairs false most seen pair kept e h =
    subst (λ (d : Bool). HasPairs most seen (if d then page_differs pair kept else kept)) (sym e) h

pairs_split : (t : Bool) (seen rest : List MadePair) (pair : MadePair) →
    (if t then seen ++ pair ∷ [] else seen) ++ rest ≡ seen ++ (if t then pair ∷ rest else rest)
pairs_split true seen rest pair = append_assoc seen (pair ∷ []) rest
pairs_split false seen rest pair = refl

pages_paired : (nearness : Nearness) (most : Most) (pairs : List (MadePage × MadePage)) (page : ℕ) (seen : List MadePair) (kept : Kept) →
    kept.differs ≡ false → HasPairs most seen kept →
    HasPairs most (seen ++ differing_pairs nearness page pairs) (pages_kept nearness page pairs kept)
pages_paired nearness most [] page seen kept idle h = subst (λ l. HasPairs most l kept) (sym (append-nil seen)) h
pages_paired nearness most (pair ∷ pairs) page seen kept idle h =
    let ds : List PageDifference = page_differences nearness page pair.0 pair.1 in
    let one : MadePair = pair_at page pair.0 pair.1 in
    let behind : Kept = page_kept nearness page pair.0 pair.1 kept in
    let t : Bool = differs ds in
    let over : HasPairs most (if t then seen ++ one ∷ [] else seen) behind =
    over_pairs t most seen one (kept_all ds kept) (kept_differs ds kept idle) (all_pairs most seen ds kept h) in
    subst (λ l. HasPairs most l (pages_kept nearness (page + 1) pairs behind))
    (pairs_split t seen (differing_pairs nearness (page + 1) pairs) one)
    (pages_paired nearness most pairs (page + 1) (if t then seen ++ one ∷ [] else seen) behind
    (page_idle nearness page pair.0 pair.1 kept) over)

-- ---- all of it

none_listed : (most : Most) → IsKept most [] (none_kept most)
none_listed most = record {
  most_is = refl;
  listed = sym (take_all most.differences [] (omega arith));
  more = sym (le-ltb most.differences 0 (omega arith));
}

-- of one list, so many at most
pub first_kept : (most : Most) (ds : List PageDifference) → (kept_all ds (none_kept most)).listed ≡ take most.differences ds
first_kept most ds = (kept_list most ds [] (none_kept most) (none_listed most)).listed

-- what is told of all that was kept of these pages
pub told_of_kept : (nearness : Nearness) (most : Most) (pairs : List (MadePage × MadePage)) →
    kept_told (pages_kept nearness 1 pairs (none_kept most))
    ≡ listing_of most (by_page nearness 1 pairs) (differing_pairs nearness 1 pairs)
told_of_kept nearness most pairs =
    let none : IsListed most [] (none_kept most) = record { so_far = none_listed most; pages = refl; idle = refl } in
    let all = pages_listed nearness most pairs 1 [] (none_kept most) none in
    let paired = pages_paired nearness most pairs 1 [] (none_kept most) refl (record { most_is = refl; pairs = none_paired most.pages }) in
    λ i. record { listed = all.so_far.listed i; more = all.so_far.more i; pages = all.pages i; pairs = paired.pairs i }
  where
    none_paired : (n : ℕ) → [] ≡ take {A = MadePair} n []
    none_paired n = sym (take_all n [] (omega arith))
