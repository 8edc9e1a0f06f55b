-- The items of a body, one after another.
use Rattle.std.proofs.Common.{◌≡◌, ℕ, ◌+◌, length, drop, List, [], ◌∷◌, Some, refl, sym, ap, subst, ◌∙◌, arith}
use Rattle.std.proofs.Math.Seq.{drop-append_seam}
use Rattle.std.proofs.lemmas.List.{length-append}
use Rattle.pcl_items.specs.declared.item.Mode.{Mode}
use Rattle.pcl_items.specs.Items.{Entry}
use Rattle.pcl_items.specs.Spellings.Canon.{canon, IsItem}
use Rattle.pcl_items.specs.Modes.{follows}
use Rattle.pcl_spelling.specs.Spellings.Spelled.{StandsAt, NothingStands, spelled, AreAdmitted, none, some, IsSpelled, items_in}
use Rattle.pcl_spelling.proofs.Spellings.ReadAgain.{canon-some, items_in-spelled, one_stands}

first_stands : {mode next : Mode} (bytes : List ℕ) (item : Entry) (items : List Entry) → IsItem item → follows mode item ≡ Some next →
    bytes ≡ spelled (item ∷ items) → StandsAt mode bytes 0 item (0 + length (canon item)) next
first_stands bytes item items is_item admitted is =
    record { is_item = is_item; admitted = admitted; rest = spelled items; spelled = is; ends = refl }

-- what is left of spelled items behind the first
pub record IsNext (mode : Mode) (bytes : List ℕ) (item : Entry) (end : ℕ) (next : Mode) : Type 0 where
  pub items : items_in mode bytes ≡ item ∷ items_in next (drop end bytes)
  pub left : IsSpelled next (drop end bytes)

same_mode : (mode next next' : Mode) (item item' : Entry) → item ≡ item' → follows mode item ≡ Some next → follows mode item' ≡ Some next' →
    next ≡ next'
same_mode mode next next' item item' same e f =
    let both : Some next ≡ Some next' = sym e ∙ ap (follows mode) same ∙ f in cc

next_case : {mode : Mode} (bytes : List ℕ) (items : List Entry) → AreAdmitted mode items → bytes ≡ spelled items → (item : Entry) (end : ℕ)
    (next : Mode) → StandsAt mode bytes 0 item end next → IsNext mode bytes item end next
next_case bytes [] a is item end next s =
    absurd (omega (arith, ap length is, ap length s.spelled, length-append (canon item) s.rest, canon-some item))
next_case {mode} bytes (x ∷ xs) (some {next = behind} is_item admitted others) is item end next s =
    let first : StandsAt mode bytes 0 x (0 + length (canon x)) behind = first_stands bytes x xs is_item admitted is in
    let same : item ≡ x = one_stands bytes end (0 + length (canon x)) item x s first in
    let modes : next ≡ behind = same_mode mode next behind item x same s.admitted admitted in
    let ends : end ≡ length (canon x) = s.ends ∙ ap (λ i. 0 + length (canon i)) same ∙ omega arith in
    let left : drop end bytes ≡ spelled xs =
    ap (λ n. drop n bytes) ends ∙ ap (drop (length (canon x))) is ∙ drop-append_seam (canon x) (spelled xs) in
    let after : items_in next (drop end bytes) ≡ xs =
    ap (λ m. items_in m (drop end bytes)) modes ∙ ap (items_in behind) left ∙ items_in-spelled behind xs others in record {
      items =
          ap (items_in mode) is
          ∙ items_in-spelled mode (x ∷ xs) (some is_item admitted others)
          ∙ ap (λ i. i ∷ xs) (sym same)
          ∙ ap (λ l. item ∷ l) (sym after);
      left = subst (λ m. IsSpelled m (drop end bytes)) (sym modes) (xs, others, left);
    }

pub next_of : {mode : Mode} (bytes : List ℕ) → IsSpelled mode bytes → (item : Entry) (end : ℕ) (next : Mode) →
    StandsAt mode bytes 0 item end next → IsNext mode bytes item end next
next_of bytes h item end next s = next_case bytes h.0 h.1 h.2 item end next s

none_case : {mode : Mode} (bytes : List ℕ) (items : List Entry) → AreAdmitted mode items → bytes ≡ spelled items →
    NothingStands mode bytes 0 → items_in mode bytes ≡ []
none_case {mode} bytes [] a is h = ap (items_in mode) is ∙ items_in-spelled mode [] none
none_case bytes (x ∷ xs) (some {next = behind} is_item admitted others) is h =
    absurd (h x (0 + length (canon x)) behind (first_stands bytes x xs is_item admitted is))

pub none_left : {mode : Mode} (bytes : List ℕ) → IsSpelled mode bytes → NothingStands mode bytes 0 → items_in mode bytes ≡ []
none_left bytes h nothing = none_case bytes h.0 h.1 h.2 nothing
