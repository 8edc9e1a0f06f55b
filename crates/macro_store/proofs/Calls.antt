-- What each call leaves.
use Rattle.std.proofs.Common.{◌≡◌, ℕ, ◌+◌, ◌-◌, ◌≤◌, nat_eq, cond, Bool, true, false, length, take, drop, List, [], ◌∷◌, ◌++◌, Option, Some}
use Rattle.std.proofs.Common.{None, Result, Ok, Err, OnOk, OnErr, refl, sym, ap, subst, ◌∙◌, append_assoc, arith}
use Rattle.std.specs.List.{remove_range}
use Rattle.std.specs.Map.{lookup, remove_entry}
use Rattle.std.proofs.lemmas.Bool.{eq-eqb}
use Rattle.std.proofs.lemmas.List.{length-append, length-drop, length-take-le, append-nil}
use Rattle.std.proofs.lemmas.Map.Made.{lookup-map_values}
use Rattle.std.specs.Option.{option_map, IsSome}
use Rattle.macro_store.proofs.Modes.{mode_defined, admitted_more}
use Rattle.pcl_items.specs.declared.item.Mode.TheVariants.{Pcl}
use Rattle.pcl_items.specs.Items.{Entry}
use Rattle.pcl_items.specs.Spellings.Canon.{canon, IsItem}
use Rattle.pcl_spelling.specs.Spellings.Spelled.{spelled, items_in}
use Rattle.pcl_spelling.specs.Spellings.Spelled as spellings
use Rattle.pcl_spelling.proofs.Spellings.ReadAgain.{spelled-append}
use Rattle.macro_store.specs.declared.span.Span.{Span}
use Rattle.macro_store.specs.declared.span.Definition.{Definition}
use Rattle.macro_store.specs.Store.{Store, stored_bytes, Admits, with_item, bodies_with, began, appended, committed, deleted}
use Rattle.macro_store.proofs.Laid.{defined, IsOut, taken_out, texts_more, spans_more, all_more, all_fewer, bodies_are, definition_is}
use Rattle.macro_store.proofs.Laid.{found_in, pool_length, definition_admits}
use Rattle.macro_store.specs.Layout.{bytes_at, bodies_in, definition_in, moved_down, down, texts, spans_from, IsBehind, IsLaidOut}

abbrev pub store_of : ℕ → List ℕ → List (ℕ × Span) → Option Definition → Store
store_of limit pool spans definition =
    record { limit = limit; bodies = bodies_in pool spans; definition = definition_in pool definition }

-- stores of equal parts
pub same_parts : (limit : ℕ) (bodies bodies' : List (ℕ × List Entry)) (definition definition' : Option (ℕ × List Entry)) →
    bodies ≡ bodies' → definition ≡ definition' →
    let s : Store = record { limit = limit; bodies = bodies; definition = definition } in
    let t : Store = record { limit = limit; bodies = bodies'; definition = definition' } in s ≡ t
same_parts limit bodies bodies' definition definition' e f =
    let with_bodies : List (ℕ × List Entry) → Store = λ b. record { limit = limit; bodies = b; definition = definition } in
    let with_definition : Option (ℕ × List Entry) → Store = λ d. record { limit = limit; bodies = bodies'; definition = d } in
    ap with_bodies e ∙ ap with_definition f

pub is_defined : (pool : List ℕ) (definition : Option Definition) → IsSome (definition_in pool definition) → IsSome definition
is_defined pool None h = h
is_defined pool (Some d) h = refl

pub behind_more : (spans : List (ℕ × Span)) (place : ℕ) (items more : List Entry) (definition : Option Definition) → IsSome definition →
    IsBehind spans place items definition → IsBehind spans place more definition
behind_more spans place items more None h b = absurd cc
behind_more spans place items more (Some d) h b = b

module _ (limit : ℕ) (pool : List ℕ) (spans : List (ℕ × Span)) where
  -- an item more in the open definition
  module _ (definition : Option Definition) (h : IsLaidOut pool spans definition) (item : Entry) (is : IsItem item)
      (admits : Admits (store_of limit pool spans definition) item) where
    abbrev pub appended_laid : IsLaidOut (pool ++ canon item) spans definition
    appended_laid = record {
      bodies = h.bodies;
      items = h.items ++ item ∷ [];
      all = h.all;
      all_open = admitted_more h.items item h.all_open is (definition_admits pool spans definition h item admits);
      spans_are = h.spans_are;
      pool_is =
          ap (λ bytes. bytes ++ canon item) h.pool_is
          ∙ append_assoc (texts h.bodies) (spelled h.items) (canon item)
          ∙ ap (λ bytes. texts h.bodies ++ (spelled h.items ++ bytes)) (sym (append-nil (canon item)))
          ∙ ap (λ bytes. texts h.bodies ++ bytes) (sym (spelled-append h.items (item ∷ [])));
      behind =
          behind_more spans (length (texts h.bodies)) h.items (h.items ++ item ∷ []) definition
          (is_defined pool definition (mode_defined (definition_in pool definition) item admits)) h.behind;
    }

    more_defined : (d : Option Definition) → defined (h.items ++ item ∷ []) d ≡ with_item item (defined h.items d)
    more_defined None = refl
    more_defined (Some d) = refl

    pub appended_is : store_of limit (pool ++ canon item) spans definition ≡ appended item (store_of limit pool spans definition)
    appended_is =
        same_parts limit (bodies_in (pool ++ canon item) spans) (bodies_in pool spans) (definition_in (pool ++ canon item) definition)
        (with_item item (definition_in pool definition))
        (bodies_are (pool ++ canon item) spans definition appended_laid ∙ sym (bodies_are pool spans definition h))
        (definition_is (pool ++ canon item) spans definition appended_laid ∙ more_defined definition
        ∙ ap (with_item item) (sym (definition_is pool spans definition h)))

  -- the open definition becomes a body
  module _ (d : Definition) (h : IsLaidOut pool spans (Some d)) where
    abbrev pub last_span : ℕ × Span
    last_span = (d.id, record { start = d.start; end = length pool })

    pub start_is : d.start ≡ 0 + length (texts h.bodies)
    start_is = omega (arith, h.behind.0)

    pub end_is : length pool ≡ (0 + length (texts h.bodies)) + length (spelled h.items)
    end_is = omega (arith, ap length h.pool_is, length-append (texts h.bodies) (spelled h.items))

    abbrev pub committed_laid : IsLaidOut pool (spans ++ last_span ∷ []) None
    committed_laid = record {
      bodies = h.bodies ++ (d.id, h.items) ∷ [];
      items = [];
      all = all_more h.bodies (d.id, h.items) h.all h.all_open;
      all_open = spellings.none;
      spans_are =
          ap (λ start. spans ++ (d.id, record { start = start; end = length pool }) ∷ []) start_is
          ∙ ap (λ end. spans ++ (d.id, record { start = 0 + length (texts h.bodies); end = end }) ∷ []) end_is
          ∙ ap
          (λ xs. xs
          ++ (
            d.id,
            record { start = 0 + length (texts h.bodies); end = (0 + length (texts h.bodies)) + length (spelled h.items) },
          )
          ∷ [])
          h.spans_are
          ∙ sym (spans_more 0 h.bodies (d.id, h.items));
      pool_is =
          h.pool_is
          ∙ ap (λ bytes. texts h.bodies ++ bytes) (sym (append-nil (spelled h.items)))
          ∙ sym (texts_more h.bodies (d.id, h.items))
          ∙ sym (append-nil (texts (h.bodies ++ (d.id, h.items) ∷ [])));
      behind = refl;
    }

    pub committed_is : store_of limit pool (spans ++ last_span ∷ []) None ≡ committed (store_of limit pool spans (Some d))
    committed_is =
        same_parts limit (bodies_in pool (spans ++ last_span ∷ []))
        (bodies_with (bodies_in pool spans) (definition_in pool (Some d))) None None
        (bodies_are pool (spans ++ last_span ∷ []) None committed_laid
        ∙ ap (λ b. bodies_with b (Some (d.id, h.items))) (sym (bodies_are pool spans (Some d) h))
        ∙ ap (bodies_with (bodies_in pool spans)) (sym (definition_is pool spans (Some d) h)))
        refl

  -- a body goes
  module _ (h : IsLaidOut pool spans None) (id : ℕ) where
    module _ (span : Span) (found : lookup (nat_eq id) spans ≡ Some span) where
      abbrev pub left_spans : List (ℕ × Span)
      left_spans = down span.end (span.end - span.start) (remove_entry (nat_eq id) spans)

      abbrev pub left_pool : List ℕ
      left_pool = remove_range pool span.start span.end

      pub out : IsOut pool span (remove_entry (nat_eq id) (spans_from 0 h.bodies)) (spans_from 0 (remove_entry (nat_eq id) h.bodies))
          ([] ++ (texts (remove_entry (nat_eq id) h.bodies) ++ spelled h.items))
      out =
          taken_out pool [] (spelled h.items) h.bodies h.all 0 refl h.pool_is id span (ap (lookup (nat_eq id)) (sym h.spans_are) ∙ found)

      abbrev pub deleted_laid : IsLaidOut left_pool left_spans None
      deleted_laid = record {
        bodies = remove_entry (nat_eq id) h.bodies;
        items = h.items;
        all = all_fewer id h.bodies h.all;
        all_open = h.all_open;
        spans_are = ap (λ xs. down span.end (span.end - span.start) (remove_entry (nat_eq id) xs)) h.spans_are ∙ out.0;
        pool_is = out.1;
        behind = h.behind;
      }

      pub fewer : length left_pool ≤ length pool
      fewer =
          let f = found_in pool spans None h id span found in
          omega (
            arith,
            length-append (take span.start pool) (drop span.end pool),
            length-take-le span.start pool (omega (arith, f.forward, f.within)),
            length-drop span.end pool,
            f.forward,
            f.within,
          )

  -- a definition begins behind the bodies
  module _ (h : IsLaidOut pool spans None) (id : ℕ) (gone : lookup (nat_eq id) spans ≡ None) where
    abbrev pub opened_at : Definition
    opened_at = record { id = id; start = length pool }

    abbrev pub began_laid : IsLaidOut pool spans (Some opened_at)
    began_laid = record {
      bodies = h.bodies;
      items = h.items;
      all = h.all;
      all_open = h.all_open;
      spans_are = h.spans_are;
      pool_is = h.pool_is;
      behind = (
        ap length h.pool_is ∙ ap (λ items. length (texts h.bodies ++ spelled items)) h.behind ∙ ap length (append-nil (texts h.bodies)),
        gone,
      );
    }

    pub began_is : definition_in pool (Some opened_at) ≡ Some (id, [])
    began_is = definition_is pool spans (Some opened_at) began_laid ∙ ap (λ items. Some (id, items)) h.behind

-- ---- look-ups

pub same_id : (id : ℕ) → nat_eq id id ≡ true
same_id id = eq-eqb id id refl

pub body_found : (pool : List ℕ) (id : ℕ) (spans : List (ℕ × Span)) →
    lookup (nat_eq id) (bodies_in pool spans) ≡ option_map (λ span. items_in Pcl (bytes_at pool span)) (lookup (nat_eq id) spans)
body_found pool id spans = lookup-map_values (λ span. items_in Pcl (bytes_at pool span)) (nat_eq id) spans

pub body_gone : (pool : List ℕ) (id : ℕ) (spans : List (ℕ × Span)) → lookup (nat_eq id) spans ≡ None →
    lookup (nat_eq id) (bodies_in pool spans) ≡ None
body_gone pool id spans e = body_found pool id spans ∙ ap (option_map (λ span. items_in Pcl (bytes_at pool span))) e

-- what is looked up after an entry was taken out and the others moved
pub down_gone : (place by id : ℕ) (spans : List (ℕ × Span)) → lookup (nat_eq id) spans ≡ None →
    lookup (nat_eq id) (down place by spans) ≡ None
down_gone place by id spans e = lookup-map_values (moved_down place by) (nat_eq id) spans ∙ ap (option_map (moved_down place by)) e

absent_case : {X : Type 0} (b : Bool) (x : X) (o : Option X) (e : ℕ × X) (es removed : List (ℕ × X)) → cond b (Some x) o ≡ None →
    (o ≡ None → removed ≡ es) → cond b es (e ∷ removed) ≡ e ∷ es
absent_case true x o e es removed n h = absurd cc
absent_case false x o e es removed n h = ap (λ xs. e ∷ xs) (h n)

pub absent_stays : {X : Type 0} (id : ℕ) (es : List (ℕ × X)) → lookup (nat_eq id) es ≡ None → remove_entry (nat_eq id) es ≡ es
absent_stays id [] n = refl
absent_stays id (e ∷ es) n =
    absent_case (nat_eq id e.0) e.1 (lookup (nat_eq id) es) e es (remove_entry (nat_eq id) es) n (absent_stays id es)

-- ---- where no definition is open

pub not_defined : (pool : List ℕ) (definition : Option Definition) → definition_in pool definition ≡ None → definition ≡ None
not_defined pool None e = refl
not_defined pool (Some d) e = absurd cc

pub none_opened : (definition : Option Definition) (P : Type 0) → definition ≡ None → IsSome definition → P
none_opened None P e h = absurd cc
none_opened (Some d) P e h = absurd cc

-- ---- a spelling that is appended, or refused

module _ (limit : ℕ) (pool : List ℕ) (spans : List (ℕ × Span)) (definition : Option Definition)
    (h : IsLaidOut pool spans definition) (item : Entry) where
  admits_in : (store : Store) → store_of limit pool spans definition ≡ store → Admits store item →
      Admits (store_of limit pool spans definition) item
  admits_in store e o = subst (λ (s : Store). Admits s item) (sym e) o

  pub add_laid : {E : Type 0} → IsItem item → {store : Store} → store_of limit pool spans definition ≡ store → Admits store item →
      (pool' : List ℕ) (result : Result Unit E) → OnOk result (pool' ≡ pool ++ canon item) → OnErr result (pool' ≡ pool) →
      IsLaidOut pool' spans definition
  add_laid is {store} e o pool' (Ok done) ok err =
      subst (λ p. IsLaidOut p spans definition) (sym ok) (appended_laid limit pool spans definition h item is (admits_in store e o))
  add_laid is {store} e o pool' (Err x) ok err = subst (λ p. IsLaidOut p spans definition) (sym err) h

  pub add_is : {E : Type 0} → IsItem item → {store : Store} → store_of limit pool spans definition ≡ store → Admits store item →
      (pool' : List ℕ) (result : Result Unit E) → OnOk result (pool' ≡ pool ++ canon item) →
      OnOk result (store_of limit pool' spans definition ≡ appended item store)
  add_is is {store} e o pool' (Ok done) ok =
      ap (λ p. store_of limit p spans definition) ok ∙ appended_is limit pool spans definition h item is (admits_in store e o)
      ∙ ap (appended item) e
  add_is is {store} e o pool' (Err x) ok = tt

  pub add_fits : {E : Type 0} → {store : Store} → store_of limit pool spans definition ≡ store →
      stored_bytes store + length (canon item) ≤ store.limit → (pool' : List ℕ) (result : Result Unit E) →
      OnOk result (pool' ≡ pool ++ canon item) → OnErr result (pool' ≡ pool) → length pool' ≤ limit
  add_fits {store} e fits pool' (Ok done) ok err =
      let room : stored_bytes (store_of limit pool spans definition) + length (canon item) ≤ limit =
      subst (λ (s : Store). stored_bytes s + length (canon item) ≤ s.limit) (sym e) fits in
      omega (arith, room, ap length ok, length-append pool (canon item), pool_length pool spans definition h)
  add_fits {store} e fits pool' (Err x) ok err =
      let room : stored_bytes (store_of limit pool spans definition) + length (canon item) ≤ limit =
      subst (λ (s : Store). stored_bytes s + length (canon item) ≤ s.limit) (sym e) fits in
      omega (arith, room, ap length err, pool_length pool spans definition h)

-- ---- a definition that ends

module _ (limit : ℕ) (pool : List ℕ) (spans : List (ℕ × Span)) (definition : Option Definition) (h : IsLaidOut pool spans definition)
    (d : Definition) (e : definition ≡ Some d) where
  pub some_laid : IsLaidOut pool spans (Some d)
  some_laid = subst (IsLaidOut pool spans) e h

  pub none_before : lookup (nat_eq d.id) spans ≡ None
  none_before = some_laid.behind.1

  pub ended_laid : (spans' : List (ℕ × Span)) → spans' ≡ spans ++ last_span limit pool spans d some_laid ∷ [] → IsLaidOut pool spans' None
  ended_laid spans' f = subst (λ x. IsLaidOut pool x None) (sym f) (committed_laid limit pool spans d some_laid)

  pub ended_is : {store : Store} → store_of limit pool spans definition ≡ store → (spans' : List (ℕ × Span)) →
      spans' ≡ spans ++ last_span limit pool spans d some_laid ∷ [] → store_of limit pool spans' None ≡ committed store
  ended_is {store} v spans' f =
      ap (λ x. store_of limit pool x None) f
      ∙ committed_is limit pool spans d some_laid
      ∙ ap committed (ap (store_of limit pool spans) (sym e) ∙ v)

-- ---- a body that goes

module _ (pool : List ℕ) (spans : List (ℕ × Span)) (h : IsLaidOut pool spans None) (id : ℕ) where
  module _ (span : Span) (found : lookup (nat_eq id) spans ≡ Some span) (spans' : List (ℕ × Span))
      (s : spans' ≡ down span.end (span.end - span.start) (remove_entry (nat_eq id) spans)) (pool' : List ℕ)
      (p : pool' ≡ remove_range pool span.start span.end) where
    pub gone_laid : IsLaidOut pool' spans' None
    gone_laid =
        subst (λ x. IsLaidOut x spans' None) (sym p)
        (subst (λ x. IsLaidOut (remove_range pool span.start span.end) x None) (sym s) (deleted_laid 0 pool spans h id span found))

    pub gone_fewer : length pool' ≤ length pool
    gone_fewer = omega (arith, ap length p, fewer 0 pool spans h id span found)

    pub gone_bodies : bodies_in pool' spans' ≡ remove_entry (nat_eq id) (bodies_in pool spans)
    gone_bodies =
        ap (λ x. bodies_in x spans') p
        ∙ ap (bodies_in (remove_range pool span.start span.end)) s
        ∙ bodies_are (remove_range pool span.start span.end) (down span.end (span.end - span.start) (remove_entry (nat_eq id) spans)) None
        (deleted_laid 0 pool spans h id span found)
        ∙ ap (remove_entry (nat_eq id)) (sym (bodies_are pool spans None h))

  module _ (absent : lookup (nat_eq id) spans ≡ None) (spans' : List (ℕ × Span)) (s : spans' ≡ remove_entry (nat_eq id) spans) where
    pub kept : spans' ≡ spans
    kept = s ∙ absent_stays id spans absent

    pub absent_bodies : bodies_in pool spans' ≡ remove_entry (nat_eq id) (bodies_in pool spans)
    absent_bodies = ap (bodies_in pool) kept ∙ sym (absent_stays id (bodies_in pool spans) (body_gone pool id spans absent))

-- the laid out parts where no definition is open
pub undefined_laid : (pool : List ℕ) (spans : List (ℕ × Span)) (definition : Option Definition) → definition ≡ None →
    IsLaidOut pool spans definition → IsLaidOut pool spans None
undefined_laid pool spans definition e h = subst (IsLaidOut pool spans) e h

pub laid_undefined : (pool : List ℕ) (spans : List (ℕ × Span)) (definition : Option Definition) → definition ≡ None →
    IsLaidOut pool spans None → IsLaidOut pool spans definition
laid_undefined pool spans definition e h = subst (IsLaidOut pool spans) (sym e) h

-- the store without a body, and with a definition that begins
module _ (limit : ℕ) (pool pool' : List ℕ) (spans spans' : List (ℕ × Span)) (definition : Option Definition) (none : definition ≡ None)
    (id : ℕ) (b : bodies_in pool' spans' ≡ remove_entry (nat_eq id) (bodies_in pool spans)) {store : Store}
    (v : store_of limit pool spans definition ≡ store) where
  pub deleted_store : store_of limit pool' spans' definition ≡ deleted id store
  deleted_store =
      same_parts limit (bodies_in pool' spans') (remove_entry (nat_eq id) (bodies_in pool spans)) (definition_in pool' definition)
      (definition_in pool definition)
      b (ap (definition_in pool') none ∙ sym (ap (definition_in pool) none))
      ∙ ap (deleted id) v

  pub began_store : (h : IsLaidOut pool' spans' None) → lookup (nat_eq id) spans' ≡ None → (d : Definition) →
      d ≡ record { id = id; start = length pool' } → store_of limit pool' spans' (Some d) ≡ began id store
  began_store h gone d e =
      same_parts limit (bodies_in pool' spans') (remove_entry (nat_eq id) (bodies_in pool spans))
      (definition_in pool' (Some d)) (Some (id, []))
      b (ap (λ x. definition_in pool' (Some x)) e ∙ began_is limit pool' spans' h id gone)
      ∙ ap (began id) v
