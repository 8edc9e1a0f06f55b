-- An item that is not whole has few bytes.
use Rattle.std.proofs.Common.{◌≡◌, ℕ, ◌≤◌, List, [], ◌∷◌, length, refl, sym, subst, ◌∙◌, arith}
use Rattle.std.specs.Prelude.{◌==◌, false, true}
use Rattle.std.proofs.lemmas.Bool.{cond_both}
use Rattle.std.proofs.lemmas.List.{length-append}
use Rattle.pcl_items.specs.declared.pcl.command.Group.{Group}
use Rattle.pcl_items.specs.declared.fault.LexCause.{LexCause}
use Rattle.pcl_items.specs.declared.fault.LexCause.TheVariants.{Truncated}
use Rattle.pcl_lexer.specs.Lexing.Contexts.{Context, Pcl, Sequence, Frame, Letters, Numbered, Pjl}
use Rattle.pcl_items.specs.declared.item.Mode.TheVariants as modes
use Rattle.pcl_items.specs.Escapes.Commands.{data_letter_of}
use Rattle.pcl_lexer.specs.Reader.{First, Open, by_pjl, first_of}
use Rattle.pcl_items.specs.PjlLines.First.{at_pjl}
use Rattle.pcl_lexer.specs.Lexing.State.{most_open}
use Rattle.pcl_lexer.specs.Faults as rules
use Rattle.pcl_lexer.specs.Faults.{IsCut, cut, CommandFault, number, no_letter, unknown_last, unknown_more, data_goes_on, no_count}
use Rattle.pcl_lexer.specs.Faults.{cut_data, cut_command, UngroupedFault, ungrouped_number, no_end, unknown_end, cut_ungrouped, UnitFault}
use Rattle.pcl_lexer.specs.Faults.{no_byte, cut_escape, no_sequence, no_character, cut_introducer, no_group, unknown_group, font, language}
use Rattle.pcl_lexer.proofs.Reading.ReadsTo.{same_between}
use Rattle.pcl_lexer.proofs.Escapes.FaultHeads.{TellsCommand, command_told, TellsUnit, unit_told}
use Rattle.pcl_lexer.proofs.PjlLines.Units.{line_waits}
use Rattle.pcl_lexer.proofs.PjlLines.Heads.{open_line}
use Rattle.pcl_lexer.proofs.Frames.Waiting.{frame_waits, letters_wait, numbers_wait}

field_short : (bytes : List ℕ) → IsCut bytes → length bytes ≤ 16
field_short _ (cut h short) = short

-- a field, a letter, and data of which a byte is wanting
command_short : (g : Group) (bytes : List ℕ) (cause : LexCause) → CommandFault g bytes cause → cause ≡ Truncated → length bytes ≤ 32783
command_short _ _ _ (number h) e = absurd cc
command_short _ _ _ (no_letter rest f ends no_capital no_small) e = absurd cc
command_short _ _ _ (unknown_last rest f capital none) e = absurd cc
command_short _ _ _ (unknown_more rest f capital none) e = absurd cc
command_short _ _ _ (data_goes_on d rest f) e = absurd cc
command_short _ _ _ (no_count d rest f none) e = absurd cc
command_short _ _ _ (cut_data {text = text} d bytes f h less) e =
    omega (arith, length-append text (data_letter_of d ∷ bytes), f.short, h.limited, less)
command_short _ _ _ (cut_command {bytes = bytes} h) e = omega (arith, field_short bytes h)

ungrouped_short : (i : ℕ) (bytes : List ℕ) (cause : LexCause) → UngroupedFault i bytes cause → cause ≡ Truncated → length bytes ≤ 16
ungrouped_short _ _ _ (ungrouped_number h) e = absurd cc
ungrouped_short _ _ _ (no_end rest f ends no_capital) e = absurd cc
ungrouped_short _ _ _ (unknown_end rest f capital none) e = absurd cc
ungrouped_short _ _ _ (cut_ungrouped {bytes = bytes} h) e = field_short bytes h

unit_short : (bytes : List ℕ) (cause : LexCause) → UnitFault modes.Pcl bytes cause → cause ≡ Truncated → length bytes ≤ most_open
unit_short _ _ (no_byte low h k) e = absurd cc
unit_short _ _ cut_escape e = omega arith
unit_short _ _ (no_sequence l h none e37 g) e = absurd cc
unit_short _ _ (no_character h) e = absurd cc
unit_short _ _ (cut_introducer h) e = omega arith
unit_short _ _ (no_group h k s) e = absurd cc
unit_short _ _ (unknown_group h s none) e = absurd cc
unit_short _ _ (rules.in_group {group = g} {bytes = bytes} {cause = cause} h) e = omega (arith, command_short g bytes cause h e)
unit_short _ _ (font {bytes = bytes} {cause = cause} k h) e = omega (arith, ungrouped_short 40 bytes cause h e)
unit_short _ _ (language {bytes = bytes} {cause = cause} k h) e = omega (arith, ungrouped_short 37 bytes cause h e)

between_short : (b : ℕ) (rest : List ℕ) → first_of false Pcl (b ∷ rest) ≡ Open → length (b ∷ rest) ≤ most_open
between_short b rest e =
    let is_open : first_of true Pcl (b ∷ rest) ≡ Open = sym (same_between false (b ∷ rest)) ∙ e in
    unit_short (b ∷ rest) Truncated (subst (TellsUnit (b ∷ rest)) is_open (unit_told b rest)) refl

line_short : (bytes : List ℕ) → by_pjl (at_pjl bytes) ≡ Open → length bytes ≤ most_open
line_short bytes e = omega (arith, line_waits bytes (open_line (at_pjl bytes) e))

pub open_is_short : (c : Context) (rest : List ℕ) → first_of false c rest ≡ Open → length rest ≤ most_open
unfolding first_of
open_is_short Pcl [] e = omega arith
open_is_short Pcl (b ∷ rest) e = between_short b rest e
open_is_short Pjl [] e = omega arith
open_is_short Pjl (b ∷ rest) e =
    cond_both (b == 64) _ _ (λ (f : First). f ≡ Open → length (b ∷ rest) ≤ most_open) (λ _ k. line_short (b ∷ rest) k)
    (λ _ k. between_short b rest k) e
open_is_short (Sequence g) rest e =
    let short = command_short g rest Truncated (subst (TellsCommand g rest) e (command_told g rest)) refl in
    omega (arith, short)
open_is_short Frame rest e = omega (arith, frame_waits rest e)
open_is_short (Letters m n) rest e = omega (arith, letters_wait m n rest e)
open_is_short (Numbered x gap n) rest e = omega (arith, numbers_wait x gap n rest e)
