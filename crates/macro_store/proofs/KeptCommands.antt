-- The commands that are kept of the pool.
use Rattle.std.proofs.Common.{◌≡◌, ℕ, ◌+◌, ◌-◌, ◌<◌, ◌≤◌, ◌^◌, length, take, drop, List, [], ◌∷◌, ◌++◌, Result, Ok, Err, OnOk, OnErr, Some}
use Rattle.std.proofs.Common.{refl, sym, ap, subst, ◌∙◌, append_assoc, arith}
use Rattle.std.specs.List.{remove_range}
use Rattle.std.proofs.Math.Seq.{drop-append_seam, take-append-add}
use Rattle.std.proofs.lemmas.List.{length-append, length-drop, length-take-le, drop-append-le, drop-drop, drop-take, append-nil}
use Rattle.std.proofs.lemmas.List.Elements.{All-push}
use Rattle.pcl_items.specs.declared.item.Mode.{Mode}
use Rattle.pcl_items.specs.declared.item.Mode.TheVariants.{Pcl}
use Rattle.pcl_items.specs.Items.{Entry, Parameterized, amount}
use Rattle.pcl_items.specs.Modes.{follows}
use Rattle.pcl_items.specs.Spellings.Canon.{canon, IsItem}
use Rattle.pcl_spelling.specs.Spellings.Spelled.{StandsAt}
use Rattle.pcl_spelling.proofs.Spellings.ReadAgain.{canon-some}
use Rattle.macro_store.specs.declared.commands.StoredCommand.{StoredCommand}
use Rattle.macro_store.specs.declared.span.Span.{Span}
use Rattle.macro_store.specs.Layout.{bytes_at}
use Rattle.macro_store.specs.Commands.{IsStored, AreStored, EndBefore, LiesInPool}

module _ {mode next : Mode} (pool : List ℕ) (at end : ℕ) (item : Entry) (s : StandsAt mode pool at item end next) where
  -- its spelling lies within the bytes
  pub end_within : end ≤ length pool
  end_within =
      omega (arith, ap length s.spelled, length-drop at pool, length-append (canon item) s.rest, canon-some item, s.ends)

  -- it stands there before more bytes
  pub stands_before : (more : List ℕ) → StandsAt mode (pool ++ more) at item end next
  stands_before more = record {
    is_item = s.is_item;
    admitted = s.admitted;
    rest = s.rest ++ more;
    spelled =
        drop-append-le at pool more (omega (arith, end_within, s.ends))
        ∙ ap (λ l. l ++ more) s.spelled
        ∙ append_assoc (canon item) s.rest more;
    ends = s.ends;
  }

  -- and in bytes that are the same up to its end
  pub stands_in_front : (place : ℕ) → end ≤ place → StandsAt mode (take place pool) at item end next
  stands_in_front place before =
      let more = place - end in
      let parts : place ≡ at + (length (canon item) + more) = omega (arith, before, s.ends) in record {
        is_item = s.is_item;
        admitted = s.admitted;
        rest = take more s.rest;
        spelled =
            ap (λ n. drop at (take n pool)) parts
            ∙ drop-take at (length (canon item) + more) pool
            ∙ ap (take (length (canon item) + more)) s.spelled
            ∙ take-append-add (canon item) s.rest more;
        ends = s.ends;
      }

-- an item stands behind the pool to which its spelling is appended
pub stands_behind : (pool : List ℕ) (item : Entry) → IsItem item → follows Pcl item ≡ Some Pcl → (at end : ℕ) → at ≡ length pool →
    end ≡ length (pool ++ canon item) → StandsAt Pcl (pool ++ canon item) at item end Pcl
stands_behind pool item is admitted at end begins ends = record {
  is_item = is;
  admitted = admitted;
  rest = [];
  spelled = ap (λ n. drop n (pool ++ canon item)) begins ∙ drop-append_seam pool (canon item) ∙ sym (append-nil (canon item));
  ends = omega (arith, begins, ends, length-append pool (canon item));
}

-- commands stand where they stood, behind whose pool more bytes are appended
pub stored_more : (pool more : List ℕ) (commands : List StoredCommand) → AreStored pool commands → AreStored (pool ++ more) commands
stored_more pool more commands stored k d h = stands_before pool _ _ _ (stored k d h) more

-- so do those before a body that is taken out
pub stored_cut : (pool : List ℕ) (start end : ℕ) (commands : List StoredCommand) → AreStored pool commands → EndBefore start commands →
    AreStored (remove_range pool start end) commands
stored_cut pool start end commands stored before k d h =
    stands_before (take start pool) _ _ _ (stands_in_front pool _ _ _ (stored k d h) start (before k d h)) (drop end pool)

-- and one more
pub stored_push : (pool : List ℕ) (commands : List StoredCommand) (new : StoredCommand) → AreStored pool commands → IsStored pool new →
    AreStored pool (commands ++ new ∷ [])
stored_push pool commands new stored is = All-push (IsStored pool) commands new stored is

-- whatever comes of the spelling of an item
pub stored_spelled : {E : Type 0} (pool new more : List ℕ) (commands : List StoredCommand) (result : Result Unit E) →
    OnOk result (new ≡ pool ++ more) → OnErr result (new ≡ pool) → AreStored pool commands → AreStored new commands
stored_spelled pool new more commands (Ok u) ok err stored =
    subst (λ bytes. AreStored bytes commands) (sym ok) (stored_more pool more commands stored)
stored_spelled pool new more commands (Err e) ok err stored = subst (λ bytes. AreStored bytes commands) (sym err) stored

-- a command that is spelled behind the pool is stored
pub command_stored : (pool new : List ℕ) (old commands : List StoredCommand) (stored : StoredCommand) →
    new ≡ pool ++ canon (Parameterized stored.command (amount stored.number)) →
    IsItem (Parameterized stored.command (amount stored.number)) → stored.at ≡ length pool → stored.end ≡ length new →
    commands ≡ old ++ stored ∷ [] → AreStored pool old → AreStored new commands
command_stored pool new old commands stored is is_item begins ends more all =
    let item = Parameterized stored.command (amount stored.number) in
    let text = canon item in
    let there : IsStored (pool ++ text) stored = stands_behind pool item is_item refl stored.at stored.end begins (ends ∙ ap length is) in
    subst (λ bytes. AreStored bytes commands) (sym is)
    (subst (λ cs. AreStored (pool ++ text) cs) (sym more)
    (stored_push (pool ++ text) old stored (stored_more pool text old all) there))

-- ---- a body in the pool

module _ (at : ℕ) (rest : List ℕ) (commands : List StoredCommand) (lies : LiesInPool at rest commands) where
  -- what is left of it behind some bytes
  pub lies_on : (n : ℕ) → n ≤ length rest → (left : List ℕ) → left ≡ drop n rest → LiesInPool (at + n) left commands
  lies_on n short left is =
      let m = length rest - n in
      let whole : length rest ≡ n + m = omega (arith, short) in
      let few : length left ≡ m = ap length is ∙ length-drop n rest in record {
        pool = lies.pool;
        few = lies.few;
        within = omega (arith, lies.within, few, whole);
        part =
            is
            ∙ ap (drop n) (lies.part ∙ ap (λ l. take l (drop at lies.pool)) whole)
            ∙ drop-take n m (drop at lies.pool)
            ∙ ap (take m) (drop-drop n at lies.pool)
            ∙ ap (λ l. take l (drop (at + n) lies.pool)) (sym few);
        stored = lies.stored;
      }

  -- a command that stands at its place is its first item
  pub stands_first : (stored : StoredCommand) → IsStored lies.pool stored → stored.at ≡ at → (len : ℕ) → stored.end ≡ stored.at + len →
      len ≤ length rest →
      StandsAt Pcl rest 0 (Parameterized stored.command (amount stored.number)) len Pcl
  stands_first stored s here len ends short =
      let item = Parameterized stored.command (amount stored.number) in
      let m = length rest - len in
      let same : len ≡ length (canon item) = omega (arith, ends, s.ends) in
      let whole : length rest ≡ length (canon item) + m = omega (arith, short, same) in record {
        is_item = s.is_item;
        admitted = s.admitted;
        rest = take m s.rest;
        spelled =
            lies.part
            ∙ ap (λ l. take l (drop at lies.pool)) whole
            ∙ ap (λ n. take (length (canon item) + m) (drop n lies.pool)) (sym here)
            ∙ ap (take (length (canon item) + m)) s.spelled
            ∙ take-append-add (canon item) s.rest m;
        ends = omega (arith, same);
      }

-- a body keeps other commands of the pool
pub lies_with : (at : ℕ) (rest : List ℕ) (old : List StoredCommand) (lies : LiesInPool at rest old) (commands : List StoredCommand) →
    AreStored lies.pool commands → LiesInPool at rest commands
lies_with at rest old lies commands stored = record {
  pool = lies.pool;
  few = lies.few;
  within = lies.within;
  part = lies.part;
  stored = stored;
}

-- the bytes of a span lie in the pool
pub lies_at : (pool : List ℕ) (span : Span) (commands : List StoredCommand) → length pool < 2 ^ 64 → span.start ≤ span.end →
    span.end ≤ length pool → AreStored pool commands →
    (rest : List ℕ) → rest ≡ bytes_at pool span → LiesInPool span.start rest commands
lies_at pool span commands few forward within stored rest is =
    let size : length rest ≡ span.end - span.start =
    ap length is
    ∙ length-take-le (span.end - span.start) (drop span.start pool)
    (omega (arith, length-drop span.start pool, forward, within)) in record {
      pool = pool;
      few = few;
      within = omega (arith, size, forward, within);
      part = is ∙ ap (λ n. take n (drop span.start pool)) (sym size);
      stored = stored;
    }
