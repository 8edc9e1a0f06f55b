-- The mode behind the items of a definition.
use Rattle.std.proofs.Common.{◌≡◌, ℕ, List, [], ◌∷◌, ◌++◌, Option, Some, None, refl, subst}
use Rattle.std.specs.Option.{IsSome, option_and_then}
use Rattle.pcl_items.specs.declared.item.Mode.{Mode}
use Rattle.pcl_items.specs.Items.{Entry}
use Rattle.pcl_items.specs.Spellings.Canon.{IsItem}
use Rattle.pcl_items.specs.Modes.{follows, mode_after, mode_behind}
use Rattle.pcl_spelling.specs.Spellings.Spelled.{AreAdmitted, none, some}
use Rattle.macro_store.specs.Store.{mode_in, IsAdmittedIn}

-- where it does, a definition is open
pub mode_defined : (definition : Option (ℕ × List Entry)) (item : Entry) → IsAdmittedIn (mode_in definition) item → IsSome definition
mode_defined None item h = absurd h
mode_defined (Some m) item h = refl

one_more : {mode : Mode} (item : Entry) (next : Option Mode) → follows mode item ≡ next → IsSome next → IsItem item →
    AreAdmitted mode (item ∷ [])
one_more item None e h is = absurd cc
one_more item (Some next) e h is = some is e none

-- an item more is admitted by the mode behind the others
pub admitted_more : {mode : Mode} (items : List Entry) (item : Entry) → AreAdmitted mode items → IsItem item →
    IsAdmittedIn (mode_behind mode items) item → AreAdmitted mode (items ++ item ∷ [])
admitted_more {mode} [] item h is admits = one_more item (follows mode item) refl admits is
admitted_more (x ∷ xs) item (some is_item e others) is admits =
    some is_item e (admitted_more xs item others is (subst (λ o. IsAdmittedIn (mode_after o xs) item) e admits))

none_after : (o : Option Mode) → mode_after o [] ≡ o
none_after None = refl
none_after (Some mode) = refl

-- the mode behind an item more
pub mode_after-more : (o : Option Mode) (items : List Entry) (item : Entry) →
    mode_after o (items ++ item ∷ []) ≡ option_and_then (λ m. follows m item) (mode_after o items)
mode_after-more None items item = refl
mode_after-more (Some mode) [] item = none_after (follows mode item)
mode_after-more (Some mode) (x ∷ xs) item = mode_after-more (follows mode x) xs item
