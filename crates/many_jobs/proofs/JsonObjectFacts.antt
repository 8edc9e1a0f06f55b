-- Members without floats.
use Rattle.std.proofs.Common.{◌≡◌, ℕ, List, Bool, true, false, ◌||◌, Result, Ok, Err, OnOk, OnErr, Ordering, Less, Equal, Greater, refl}
use Rattle.std.proofs.Common.{arith, true≢false}
use Rattle.std.specs.Ordering.{nat_cmp, match_ordering}
use Rattle.std.specs.Cmp.Lexicographic.{slice_cmp}
use Rattle.std.proofs.lemmas.Bool.Decides.{nat_tests}
use Rattle.serde_json.specs.Data.{Data, Members, no_members, member, put}
use Rattle.serde_json.specs.View.{members_view}
use Rattle.serde_json.proofs.Views.{Entry}
use Rattle.serde_json.specs.Written.{has_float, members_have_float}

neither : (a b : Bool) → a ≡ false → b ≡ false → (a || b) ≡ false
neither a b p q = grind (arith, nat_tests)

later : (a b : Bool) → (a || b) ≡ false → b ≡ false
later true b e = absurd (true≢false e)
later false b e = e

first : (a b : Bool) → (a || b) ≡ false → a ≡ false
first true b e = e
first false b e = refl

chosen : (o : Ordering) (a b c : Members) → members_have_float a ≡ false → members_have_float b ≡ false → members_have_float c ≡ false →
    members_have_float (match_ordering o a b c) ≡ false
chosen Less a b c p q r = p
chosen Equal a b c p q r = q
chosen Greater a b c p q r = r

members_have_float-put : (k : List ℕ) (d : Data) (ms : Members) → has_float d ≡ false → members_have_float ms ≡ false →
    members_have_float (put k d ms) ≡ false
members_have_float-put k d no_members p q = neither (has_float d) false p refl
members_have_float-put k d (member l e ms) p q =
    let here = first (has_float e) (members_have_float ms) q in
    let rest = later (has_float e) (members_have_float ms) q in
    chosen (slice_cmp nat_cmp k l) _ _ _ (neither (has_float d) _ p q) (neither (has_float d) _ p rest)
    (neither (has_float e) _ here (members_have_float-put k d ms p rest))

-- a put that fails leaves the members
pub no_float-put : {T E : Type 0} (r : Result T E) (k : List ℕ) (d : Data) (old new : List Entry) →
    OnOk r (members_view new ≡ put k d (members_view old)) → OnErr r (new ≡ old)
    → has_float d ≡ false → members_have_float (members_view old) ≡ false → members_have_float (members_view new) ≡ false
no_float-put (Ok x) k d old new ok err p q = rw ok (members_have_float-put k d (members_view old) p q)
no_float-put (Err e) k d old new ok err p q = rw err q
