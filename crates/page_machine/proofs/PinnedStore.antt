-- The store of a pinned job: that of the job itself, with every body and the open definition pinned.
use Rattle.std.proofs.Common.{◌≡◌, ℕ, ◌+◌, ◌≤◌, nat_eq, length, Bool, true, false, cond, List, [], ◌∷◌, ◌++◌, map, refl, ap, sym, ◌∙◌}
use Rattle.std.proofs.Common.{subst, Option, Some, None, option_map}
use Rattle.std.specs.List.{sum_by}
use Rattle.std.specs.Map.{remove_entry}
use Rattle.std.proofs.Math.Nat.{le_refl, le_trans, le-add_left, add-le-add}
use Rattle.std.proofs.lemmas.List.{map-append}
use Rattle.std.proofs.lemmas.List.Sums.{sum_by-cons}
use Rattle.std.proofs.lemmas.Map.Made.{lookup-map_values}
use Rattle.pcl_items.specs.Spellings.Canon.{canon}
use Rattle.pcl_items.specs.Items.{Entry}
use Rattle.macro_store.specs.Store.{Store, body_of, bytes_of, open_bytes, stored_bytes, began, with_item, appended, bodies_with, committed}
use Rattle.macro_store.specs.Store.{deleted, cleared}
use Rattle.page_env.specs.Pinned.{is_orientation}
use Rattle.page_machine.specs.Pinning.{spacing}
use Rattle.page_machine.proofs.PinnedBodies.{pin_body, AreAllPinned}

-- ---- definitions

abbrev pub pin_entry : ℕ → ℕ × List Entry → ℕ × List Entry
pin_entry v m = (m.0, pin_body v m.1)

abbrev pub pinned_store : ℕ → Store → Store
pinned_store v store =
    record { limit = store.limit; bodies = map (pin_entry v) store.bodies; definition = option_map (pin_entry v) store.definition }

-- the open definition has these items more
abbrev pub appended_all : List Entry → Store → Store
appended_all [] store = store
appended_all (item ∷ items) store = appended_all items (appended item store)

-- every item that is stored can be pinned
abbrev pub IsPinnedDefinition : Option (ℕ × List Entry) → Type 0
IsPinnedDefinition None = Unit {0}
IsPinnedDefinition (Some m) = AreAllPinned m.1

-- ---- calls

module _ (v : ℕ) where
  pub body_pinned : (store : Store) (id : ℕ) → body_of (pinned_store v store) id ≡ option_map (pin_body v) (body_of store id)
  body_pinned store id = lookup-map_values (pin_body v) (nat_eq id) store.bodies

  removed : (id : ℕ) (bodies : List (ℕ × List Entry)) →
      remove_entry (nat_eq id) (map (pin_entry v) bodies) ≡ map (pin_entry v) (remove_entry (nat_eq id) bodies)
  removed id [] = refl
  removed id (m ∷ bodies) = by (nat_eq id m.0) (removed id bodies)
    where
      by : (b : Bool) → remove_entry (nat_eq id) (map (pin_entry v) bodies) ≡ map (pin_entry v) (remove_entry (nat_eq id) bodies) →
          cond b (map (pin_entry v) bodies) (pin_entry v m ∷ remove_entry (nat_eq id) (map (pin_entry v) bodies))
          ≡ map (pin_entry v) (cond b bodies (m ∷ remove_entry (nat_eq id) bodies))
      by true e = refl
      by false e = ap (λ l. pin_entry v m ∷ l) e

  pub began_pinned : (id : ℕ) (store : Store) → began id (pinned_store v store) ≡ pinned_store v (began id store)
  began_pinned id store =
      ap (λ (l : List (ℕ × List Entry)). record { limit = store.limit; bodies = l; definition = Some (id, []) }) (removed id store.bodies)

  pub deleted_pinned : (id : ℕ) (store : Store) → deleted id (pinned_store v store) ≡ pinned_store v (deleted id store)
  deleted_pinned id store =
      ap (λ (l : List (ℕ × List Entry)). record { limit = store.limit; bodies = l; definition = option_map (pin_entry v) store.definition })
      (removed id store.bodies)

  pub cleared_pinned : (store : Store) → cleared (pinned_store v store) ≡ pinned_store v (cleared store)
  cleared_pinned store = refl

  with_pinned : (bodies : List (ℕ × List Entry)) (definition : Option (ℕ × List Entry)) →
      bodies_with (map (pin_entry v) bodies) (option_map (pin_entry v) definition) ≡ map (pin_entry v) (bodies_with bodies definition)
  with_pinned bodies None = refl
  with_pinned bodies (Some m) = sym (map-append (pin_entry v) bodies (m ∷ []))

  pub committed_pinned : (store : Store) → committed (pinned_store v store) ≡ pinned_store v (committed store)
  committed_pinned store =
      ap (λ (l : List (ℕ × List Entry)). record { limit = store.limit; bodies = l; definition = None })
      (with_pinned store.bodies store.definition)

  -- ---- an item more

  pub pin_body-append : (items more : List Entry) → pin_body v (items ++ more) ≡ pin_body v items ++ pin_body v more
  pin_body-append [] more = refl
  pin_body-append (item ∷ items) more = by (is_orientation item) (pin_body-append items more)
    where
      by : (b : Bool) → pin_body v (items ++ more) ≡ pin_body v items ++ pin_body v more →
          (item ∷ cond b (spacing v ∷ pin_body v (items ++ more)) (pin_body v (items ++ more)))
          ≡ (item ∷ cond b (spacing v ∷ pin_body v items) (pin_body v items)) ++ pin_body v more
      by true e = ap (λ l. item ∷ spacing v ∷ l) e
      by false e = ap (λ l. item ∷ l) e

  opened : (item : Entry) (definition : Option (ℕ × List Entry)) →
      option_map (pin_entry v) (with_item item definition)
      ≡ cond (is_orientation item) (with_item (spacing v) (with_item item (option_map (pin_entry v) definition)))
      (with_item item (option_map (pin_entry v) definition))
  opened item None = by (is_orientation item)
    where
      by : (b : Bool) → None ≡ cond b (with_item (spacing v) None) None
      by true = refl
      by false = refl
  opened item (Some m) = ap (λ l. Some (m.0, l)) (pin_body-append m.1 (item ∷ [])) ∙ by (is_orientation item)
    where
      -- two items behind these are the second behind the first
      behind : (items : List Entry) → items ++ item ∷ spacing v ∷ [] ≡ (items ++ item ∷ []) ++ spacing v ∷ []
      behind [] = refl
      behind (x ∷ items) = ap (λ l. x ∷ l) (behind items)

      given : List Entry → Option (ℕ × List Entry)
      given l = Some (m.0, l)

      by : (b : Bool) →
          given (pin_body v m.1 ++ item ∷ cond b (spacing v ∷ []) [])
          ≡ cond b (given ((pin_body v m.1 ++ item ∷ []) ++ spacing v ∷ [])) (given (pin_body v m.1 ++ item ∷ []))
      by true = ap given (behind (pin_body v m.1))
      by false = refl

  -- what pins an item, one after another
  pub appended_pinned : (item : Entry) (store : Store) →
      pinned_store v (appended item store) ≡ appended_all (pin_body v (item ∷ [])) (pinned_store v store)
  appended_pinned item store =
      ap (λ (d : Option (ℕ × List Entry)). record { limit = store.limit; bodies = map (pin_entry v) store.bodies; definition = d })
      (opened item store.definition)
      ∙ by (is_orientation item)
    where
      store_with : Option (ℕ × List Entry) → Store
      store_with d = record { limit = store.limit; bodies = map (pin_entry v) store.bodies; definition = d }

      by : (b : Bool) →
          store_with (cond b (with_item (spacing v) (with_item item (option_map (pin_entry v) store.definition)))
          (with_item item (option_map (pin_entry v) store.definition)))
          ≡ appended_all (item ∷ cond b (spacing v ∷ []) []) (pinned_store v store)
      by true = refl
      by false = refl

  -- ---- memory: pinned bodies are no shorter

  pub bytes_le : (items : List Entry) → bytes_of items ≤ bytes_of (pin_body v items)
  bytes_le [] = le_refl 0
  bytes_le (item ∷ items) =
      subst (λ n. n ≤ bytes_of (pin_body v (item ∷ items))) (sym (sum_by-cons size item items))
      (subst (λ n. size item + bytes_of items ≤ n) (sym (sum_by-cons size item rest))
      (add-le-add (le_refl (size item)) (by (is_orientation item) (bytes_le items))))
    where
      size : Entry → ℕ
      size x = length (canon x)

      rest : List Entry
      rest = cond (is_orientation item) (spacing v ∷ pin_body v items) (pin_body v items)

      by : (b : Bool) → bytes_of items ≤ bytes_of (pin_body v items) →
          bytes_of items ≤ bytes_of (cond b (spacing v ∷ pin_body v items) (pin_body v items))
      by true e =
          subst (λ n. bytes_of items ≤ n) (sym (sum_by-cons size (spacing v) (pin_body v items)))
          (le_trans e (le-add_left (bytes_of (pin_body v items)) (size (spacing v))))
      by false e = e

  all_le : (bodies : List (ℕ × List Entry)) → sum_by (λ m. bytes_of m.1) bodies ≤ sum_by (λ m. bytes_of m.1) (map (pin_entry v) bodies)
  all_le [] = le_refl 0
  all_le (m ∷ bodies) =
      let bytes : ℕ × List Entry → ℕ = λ m. bytes_of m.1 in
      subst (λ n. n ≤ sum_by bytes (pin_entry v m ∷ map (pin_entry v) bodies)) (sym (sum_by-cons bytes m bodies))
      (subst (λ n. bytes_of m.1 + sum_by bytes bodies ≤ n) (sym (sum_by-cons bytes (pin_entry v m) (map (pin_entry v) bodies)))
      (add-le-add (bytes_le m.1) (all_le bodies)))

  open_le : (definition : Option (ℕ × List Entry)) → open_bytes definition ≤ open_bytes (option_map (pin_entry v) definition)
  open_le None = le_refl 0
  open_le (Some m) = bytes_le m.1

  pub stored_le : (store : Store) → stored_bytes store ≤ stored_bytes (pinned_store v store)
  stored_le store = add-le-add (all_le store.bodies) (open_le store.definition)
