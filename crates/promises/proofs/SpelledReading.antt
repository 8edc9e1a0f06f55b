-- The spellings of items are read as these items, each where it stands.
use Rattle.std.proofs.Common.{◌≡◌, ℕ, ◌+◌, length, true, List, [], ◌∷◌, Some, ap, sym, ◌∙◌, subst}
use Rattle.pcl_items.specs.declared.item.Mode.{Mode}
use Rattle.pcl_items.specs.declared.item.Mode.TheVariants.{Pcl, Frame, Pjl}
use Rattle.pcl_items.specs.Spellings.Canon.{canon}
use Rattle.pcl_lexer.specs.Lexing.Contexts.{Context, MayEndAt}
use Rattle.pcl_lexer.specs.Lexing.Contexts as contexts
use Rattle.pcl_lexer.specs.Grammar.{MayEnd}
use Rattle.pcl_items.specs.Items.{Entry, Placed, entries}
use Rattle.pcl_lexer.specs.Modes.{between, mode_of}
use Rattle.pcl_lexer.specs.Reading.{ReadsTo, here, Whole, IsReading}
use Rattle.pcl_spelling.specs.Spellings.Spelled.{AreAdmitted, none, some, spelled}
use Rattle.pcl_items.specs.Modes.{mode_after, mode_behind}
use Rattle.pcl_spelling.proofs.Spellings.Canons.{has_canon}
use Rattle.pcl_lexer.proofs.Reading.ReadsTo.{ReadsTo-append}
use Rattle.pcl_spelling.proofs.Spellings.ReadAgain.{reads_mode}
use Rattle.pcl_lexer.proofs.Reading.Stopping.{read_by_rules}
use Rattle.page_machine.specs.Pinning.{placed_from, place_behind}

pub placed_reads : (mode final : Mode) (place : ℕ) (items : List Entry) → AreAdmitted mode items → mode_behind mode items ≡ Some final →
    ReadsTo true (between mode) place (spelled items) (placed_from place items) (between final) (place_behind place items) []
placed_reads mode final place [] none e =
    let same : mode ≡ final = cc in subst (λ (m : Mode). ReadsTo true (between mode) place [] [] (between m) place []) same here
placed_reads mode final place (item ∷ items) (some {next = next} is e others) behind =
    let later : mode_behind next items ≡ Some final = ap (λ m. mode_after m items) (sym e) ∙ behind in
    ReadsTo-append ((has_canon mode next item is e).reads true place (spelled items))
    (placed_reads next final (place + length (canon item)) items others later)

pub mode_ends : (context : Context) → MayEndAt context → MayEnd (mode_of context)
mode_ends contexts.Pcl h = tt
mode_ends (contexts.Sequence group) h = absurd h
mode_ends contexts.Frame h = absurd h
mode_ends (contexts.Letters mnemonic n) h = absurd h
mode_ends (contexts.Numbered numbers gap n) h = absurd h
mode_ends contexts.Pjl h = tt

pub ends_between : (mode : Mode) → MayEnd mode → MayEndAt (between mode)
ends_between Pcl h = tt
ends_between Frame h = absurd h
ends_between Pjl h = tt

-- so are those of the items of a job whose bytes are all items
pub spelled_is_read : (job : List ℕ) (items : List Placed) (place : ℕ) → IsReading job (Whole items place) →
    AreAdmitted Pcl (entries items) →
    IsReading (spelled (entries items)) (Whole (placed_from 0 (entries items)) (place_behind 0 (entries items)))
spelled_is_read job items place is admitted =
    let written : List Entry = entries items in
    let read = (read_by_rules job (Whole items place)).complete is in
    let final : Mode = mode_of read.0 in
    (read_by_rules (spelled written) (Whole (placed_from 0 written) (place_behind 0 written))).sound
    (between final, ends_between final (mode_ends read.0 read.1), placed_reads Pcl final 0 written admitted (reads_mode read.2))
