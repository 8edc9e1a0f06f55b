-- The text of a pinned job is read as its items, each where it stands.
use Rattle.std.proofs.Common.{◌≡◌, ◌≤◌, ℕ, ◌*◌, ◌==◌, ◌&&◌, Bool, true, false, not, cond, List, [], ◌∷◌, ◌++◌, drop, append_assoc, Option}
use Rattle.std.proofs.Common.{Some, None, IsTrue, refl, ap, sym, ◌∙◌, subst, arith}
use Rattle.std.specs.Prelude.{IsSomeAnd}
use Rattle.std.specs.List.{AllByRecursion, flat_map}
use Rattle.std.specs.Option.{option_map_or}
use Rattle.device_profile.specs.declared.font.FontRequest.{FontRequest}
use Rattle.device_profile.specs.declared.panel.Panel.{Panel}
use Rattle.device_profile.specs.Faces.{Face, face_at, is_request}
use Rattle.device_profile.specs.Printer.{Printer, CanBeSetTo}
use Rattle.pcl_items.specs.declared.pcl.command.Command.TheVariants.{Orientation}
use Rattle.pcl_items.specs.declared.item.Mode.{Mode}
use Rattle.pcl_items.specs.declared.item.Mode.TheVariants.{Pcl, Frame, Pjl}
use Rattle.pcl_items.specs.Spellings.Canon.{canon, IsItem}
use Rattle.pcl_lexer.specs.Grammar.{MayEnd}
use Rattle.pcl_items.specs.Modes.{follows, behind_pjl, mode_after, mode_behind}
use Rattle.pcl_items.specs.Items.{Entry, Placed, Reset, ExitLanguage, PjlLine, Parameterized, Text, entries}
use Rattle.pcl_items.specs.PjlLines.Text.{PjlCommand, EnterPcl, at_sign}
use Rattle.pcl_lexer.specs.Modes.{between, mode_of}
use Rattle.pcl_lexer.specs.Reading.{Whole, IsReading}
use Rattle.pcl_spelling.specs.Spellings.Spelled.{AreAdmitted, none, some, spelled}
use Rattle.pcl_items.specs.Escapes.Value.{most}
use Rattle.pcl_spelling.proofs.Spellings.ReadAgain.{AreAdmitted-append, mode_behind-append, reads_mode, spelled-append}
use Rattle.pcl_lexer.proofs.Reading.Stopping.{read_by_rules}
use Rattle.page_env.specs.FontInForce.{request_at, no_request}
use Rattle.page_env.specs.Pinned.{is_unpinnable}
use Rattle.page_machine.specs.Pinning.{spacing, prologue, needs_no_prologue, written_before, written_behind, is_due_behind}
use Rattle.page_machine.specs.Pinning.{pinned_items, placed_from}
use Rattle.page_machine.specs.Pinning.{place_behind}
use Rattle.renderings.specs.Pins.{pinned_item, pinned_text}
use Rattle.renderings.proofs.PinSettings.{within, Sendable, sendable}
use Rattle.promises.proofs.ReadAgain.{items_admitted}
use Rattle.promises.proofs.SpelledReading.{placed_reads, mode_ends, ends_between}

-- ---- the text

spelled_flat : (xs : List Entry) → flat_map canon xs ≡ spelled xs
spelled_flat [] = refl
spelled_flat (x ∷ xs) = ap (λ l. canon x ++ l) (spelled_flat xs)

module _ (panel : Panel) (request : FontRequest) where
  three_spelled : (xs : List Entry) (item : Entry) (ys rest : List Entry) →
      ((flat_map canon xs ++ canon item) ++ flat_map canon ys) ++ spelled rest ≡ spelled (xs ++ item ∷ ys ++ rest)
  three_spelled xs item ys rest =
      let last : spelled xs ++ (canon item ++ spelled ys) ≡ spelled (xs ++ item ∷ ys) = sym (spelled-append xs (item ∷ ys)) in
      ap (λ l. ((l ++ canon item) ++ flat_map canon ys) ++ spelled rest) (spelled_flat xs)
      ∙ (ap (λ l. ((spelled xs ++ canon item) ++ l) ++ spelled rest) (spelled_flat ys)
      ∙ (ap (λ l. l ++ spelled rest) (append_assoc (spelled xs) (canon item) (spelled ys) ∙ last)
      ∙ sym (spelled-append (xs ++ item ∷ ys) rest)))

  -- what is written of items that can all be pinned is the spelling of the pinned ones
  pub text_is_spelled : (due : Bool) (items : List Placed) → AllByRecursion (λ (x : Placed). is_unpinnable x.item ≡ false) items →
      pinned_text panel request due items ≡ spelled (pinned_items panel request due (entries items))
  text_is_spelled due [] all = refl
  text_is_spelled due (x ∷ items) all =
      let rest : List Entry = pinned_items panel request (is_due_behind due x.item) (entries items) in
      ap (λ b. cond b [] (pinned_item panel request due x.item ++ pinned_text panel request (is_due_behind due x.item) items)) all.0
      ∙ (ap (λ l. pinned_item panel request due x.item ++ l) (text_is_spelled (is_due_behind due x.item) items all.1)
      ∙ three_spelled (written_before panel request due x.item) x.item (written_behind panel x.item) rest)

pub all_entries : (items : List Placed) → AllByRecursion (λ (x : Placed). is_unpinnable x.item ≡ false) items →
    AllByRecursion (λ item. is_unpinnable item ≡ false) (entries items)
all_entries [] all = tt
all_entries (x ∷ items) all = (all.0, all_entries items all.1)

-- ---- the modes

-- a mode outside a frame is one in which a job may end

prologue_then : (mode : Mode) → MayEnd mode → (item : Entry) (next : Mode) → needs_no_prologue item ≡ false →
    follows mode item ≡ Some next → follows Pcl item ≡ Some next
prologue_then Pcl out item next needs e = e
prologue_then Frame out item next needs e = absurd out
prologue_then Pjl out (Text code) next needs e = by (code == at_sign) e
  where
    by : (b : Bool) → cond b None (Some Pcl) ≡ Some next → Some Pcl ≡ Some next
    by true e = absurd cc
    by false e = e
prologue_then Pjl out (PjlLine line) next needs e = absurd cc
prologue_then Pjl out item next needs e = e

outside : (mode next : Mode) → MayEnd mode → Some mode ≡ Some next → MayEnd next
outside mode next out e = let same : mode ≡ next = cc in subst MayEnd same out

line_outside : (line : PjlCommand) → MayEnd (behind_pjl line)
line_outside EnterPcl = tt
line_outside _ = tt

never_due : (due : Bool) → (due && false) ≡ true → ⊥
never_due true e = cc
never_due false e = cc

-- where a prologue is due, no frame is entered
due_outside : (mode next : Mode) (due : Bool) (item : Entry) → follows mode item ≡ Some next → is_due_behind due item ≡ true → MayEnd next
due_outside Pcl next due Reset e d = outside Pcl next tt e
due_outside Frame next due Reset e d = outside Pcl next tt e
due_outside Pjl next due Reset e d = outside Pcl next tt e
due_outside Pcl next due ExitLanguage e d = outside Pjl next tt e
due_outside Frame next due ExitLanguage e d = outside Pjl next tt e
due_outside Pjl next due ExitLanguage e d = outside Pjl next tt e
due_outside Pcl next due (PjlLine line) e d = absurd cc
due_outside Frame next due (PjlLine line) e d = absurd cc
due_outside Pjl next due (PjlLine line) e d = outside (behind_pjl line) next (line_outside line) e
due_outside mode next due item e d = absurd (never_due due d)

-- ---- the items

-- items that a mode admits, and which leave the mode that others leave
pub record Stands (mode : Mode) (items written : List Entry) : Type 0 where
  pub admitted : AreAdmitted mode written
  pub same : mode_behind mode written ≡ mode_behind mode items

module _ (printer : Printer) (panel : Panel) (set : CanBeSetTo printer panel) where
  abbrev request : FontRequest
  request = request_at printer.faces panel.font

  asked : (found : Option Face) → IsSomeAnd found (λ face. IsTrue (is_request face.request)) →
      IsTrue (is_request (option_map_or (λ face. face.request) found no_request))
  asked None is = absurd is
  asked (Some face) is = is

  can : Sendable request
  can = sendable request (asked (face_at printer.faces panel.font) set.request)

  spacing_is : panel.vmi ≤ most
  spacing_is = let h : panel.vmi ≤ 3_350_000 = (within 0 3_350_000 panel.vmi set.values.vmi).1 in omega arith

  prologue_admitted : (mode : Mode) → MayEnd mode →
      Stands mode (prologue panel request) (prologue panel request) × (mode_behind mode (prologue panel request) ≡ Some Pcl)
  prologue_admitted mode out = (record { admitted = by mode out; same = refl }, left mode out)
    where
      left : (mode : Mode) → MayEnd mode → mode_behind mode (prologue panel request) ≡ Some Pcl
      left Pcl out = refl
      left Frame out = absurd out
      left Pjl out = refl

      size_is : panel.size * 10_000 ≤ most
      size_is = let h : panel.size ≤ 999 = (within 1 999 panel.size set.values.size).1 in omega arith

      behind_first : AreAdmitted Pcl (drop 1 (prologue panel request))
      behind_first =
          let orientation : panel.orientation ≤ 3 = (within 0 3 panel.orientation set.values.orientation).1 in
          let copies : panel.copies ≤ 32_767 = (within 1 32_767 panel.copies set.values.copies).1 in
          let sides : panel.sides ≤ 2 = (within 0 2 panel.sides set.values.sides).1 in
          let tray : panel.tray ≤ 255 = (within 1 255 panel.tray set.values.tray).1 in
          let ending : panel.line_termination ≤ 3 = (within 0 3 panel.line_termination set.values.line_termination).1 in
          some (omega arith) refl (some (omega arith) refl (some (omega arith) refl (some (omega arith) refl (some spacing_is refl
          (some (can.number, can.letter) refl
          (some can.spacing refl
          (some can.pitch refl
          (some can.height refl
          (some can.style refl (some can.weight refl (some can.typeface refl (some (omega arith) refl none))))))))))))

      by : (mode : Mode) → MayEnd mode → AreAdmitted mode (prologue panel request)
      by Pcl out = some size_is refl behind_first
      by Frame out = absurd out
      by Pjl out = some size_is refl behind_first

  -- the spacing behind an orientation
  spaced : (item : Entry) (mode next : Mode) → follows mode item ≡ Some next → (items written : List Entry) → Stands next items written →
      Stands next items (written_behind panel item ++ written)
  spaced (Parameterized Orientation n) Pcl next e items written h = behind_turn next e items written h
    where
      behind_turn : (next : Mode) → Some Pcl ≡ Some next → (items written : List Entry) → Stands next items written →
          Stands next items (spacing panel.vmi ∷ written)
      behind_turn next e items written h =
          let same : Pcl ≡ next = cc in
          subst (λ (m : Mode). Stands m items (spacing panel.vmi ∷ written)) same
          (let k : Stands Pcl items written =
          subst (λ (m : Mode). Stands m items written) (sym same) h in record { admitted = some spacing_is refl k.admitted; same = k.same })
  spaced (Parameterized Orientation n) Frame next e items written h = absurd cc
  spaced (Parameterized Orientation n) Pjl next e items written h = behind_turn next e items written h
    where
      behind_turn : (next : Mode) → Some Pcl ≡ Some next → (items written : List Entry) → Stands next items written →
          Stands next items (spacing panel.vmi ∷ written)
      behind_turn next e items written h =
          let same : Pcl ≡ next = cc in
          subst (λ (m : Mode). Stands m items (spacing panel.vmi ∷ written)) same
          (let k : Stands Pcl items written =
          subst (λ (m : Mode). Stands m items written) (sym same) h in record { admitted = some spacing_is refl k.admitted; same = k.same })
  spaced item mode next e items written h = h

  -- an item and what is written behind it
  item_stands : (item : Entry) (mode next : Mode) → IsItem item → follows mode item ≡ Some next → (items written : List Entry) →
      Stands next items written → Stands mode (item ∷ items) (item ∷ written)
  item_stands item mode next is e items written h = record {
    admitted = some is e h.admitted;
    same = ap (λ m. mode_after m written) e ∙ (h.same ∙ ap (λ m. mode_after m items) (sym e));
  }

  -- and what is written before it
  prologue_stands : (item : Entry) (mode next : Mode) → MayEnd mode → needs_no_prologue item ≡ false → follows mode item ≡ Some next →
      (items written : List Entry) → Stands Pcl (item ∷ items) (item ∷ written) →
      Stands mode (item ∷ items) (prologue panel request ++ item ∷ written)
  prologue_stands item mode next out needs e items written h =
      let first = prologue_admitted mode out in
      record {
        admitted = AreAdmitted-append Pcl (prologue panel request) (item ∷ written) first.0.admitted first.1 h.admitted;
        same =
            mode_behind-append mode Pcl (prologue panel request) (item ∷ written) first.1
            ∙ (h.same ∙ (ap (λ m. mode_after m items) (prologue_then mode out item next needs e) ∙ ap (λ m. mode_after m items) (sym e)));
      }

  pub pinned_stands : (items : List Entry) (mode : Mode) (due : Bool) → (due ≡ true → MayEnd mode) → AreAdmitted mode items →
      Stands mode items (pinned_items panel request due items)
  pinned_stands [] mode due out none = record { admitted = none; same = refl }
  pinned_stands (item ∷ items) mode due out (some {next = next} is e others) =
      by due (needs_no_prologue item) refl out
      (spaced item mode next e items rest (pinned_stands items next (is_due_behind due item) (due_outside mode next due item e) others))
    where
      rest : List Entry
      rest = pinned_items panel request (is_due_behind due item) items

      by : (due needs : Bool) → needs_no_prologue item ≡ needs → (due ≡ true → MayEnd mode) →
          Stands next items (written_behind panel item ++ rest) →
          Stands mode (item ∷ items) (cond (due && not needs) (prologue panel request) [] ++ item ∷ written_behind panel item ++ rest)
      by true false needs out h =
          prologue_stands item mode next (out refl) needs e items (written_behind panel item ++ rest)
          (item_stands item Pcl next is (prologue_then mode (out refl) item next needs e) items (written_behind panel item ++ rest) h)
      by true true needs out h = item_stands item mode next is e items (written_behind panel item ++ rest) h
      by false needs n out h = item_stands item mode next is e items (written_behind panel item ++ rest) h

-- ---- what is read

-- The spellings of the pinned items are read as these items, where a job's bytes are all items.
pub pinned_is_read : (printer : Printer) (panel : Panel) (set : CanBeSetTo printer panel) (job : List ℕ) (items : List Placed) (place : ℕ) →
    IsReading job (Whole items place) →
    let written = pinned_items panel (request_at printer.faces panel.font) true (entries items) in
    IsReading (spelled written) (Whole (placed_from 0 written) (place_behind 0 written))
pinned_is_read printer panel set job items place is =
    let written : List Entry = pinned_items panel (request_at printer.faces panel.font) true (entries items) in
    let read = (read_by_rules job (Whole items place)).complete is in
    let final : Mode = mode_of read.0 in
    let out : MayEnd final = mode_ends read.0 read.1 in
    let stands = pinned_stands printer panel set (entries items) Pcl true (λ e. tt) (items_admitted job (Whole items place) is) in
    (read_by_rules (spelled written) (Whole (placed_from 0 written) (place_behind 0 written))).sound
    (between final, ends_between final out, placed_reads Pcl final 0 written stands.admitted (stands.same ∙ reads_mode read.2))
