-- What is begun and not decided goes on to an item or a fault: data to their end, and all else by a byte that is no part of
-- any sequence.
use Rattle.std.proofs.Common.{◌≡◌, ℕ, ◌+◌, ◌-◌, ◌<◌, ◌≤◌, List, [], ◌∷◌, ◌++◌, length, take, replicate, Option, None, Some, refl, sym, ap}
use Rattle.std.proofs.Common.{subst, ◌∙◌, arith, inl, inr}
use Rattle.std.specs.Prelude.{true, false, nat_lt}
use Rattle.std.proofs.lemmas.Bool.{cond_both, cond-false, le-ltb}
use Rattle.std.proofs.lemmas.List.{append_assoc, length-append, length-replicate}
use Rattle.pcl_items.specs.declared.pcl.command.DataCommand.{DataCommand}
use Rattle.pcl_items.specs.declared.pcl.command.Group.{Group}
use Rattle.pcl_items.specs.declared.fault.Name.TheVariants as names
use Rattle.pcl_items.specs.declared.fault.LexCause.{LexCause}
use Rattle.pcl_items.specs.declared.fault.LexCause.TheVariants.{Syntax, Truncated, NotInProfile, BadNumber, Pjl, EndInFrame}
use Rattle.pcl_lexer.specs.Lexing.Contexts.{Context, Pcl, Sequence}
use Rattle.pcl_lexer.specs.Lexing.Contexts as contexts
use Rattle.pcl_items.specs.declared.item.Mode.TheVariants as modes
use Rattle.pcl_items.specs.Escapes.Commands.{introducer_of, character_of, data_group_of, data_letter_of}
use Rattle.pcl_items.specs.Escapes.Value.{Amount, Counts}
use Rattle.pcl_items.specs.Escapes.ValueField.{IsField}
use Rattle.pcl_items.specs.Items.{Entry, Text, WithData, ExitLanguage}
use Rattle.pcl_items.specs.PjlLines.Exit.{exit_field, begins_with}
use Rattle.pcl_lexer.specs.Escapes.Field.{field_at, amount_of}
use Rattle.pcl_items.specs.Escapes.Codes.{escape}
use Rattle.pcl_lexer.specs.Reader.{First, Open, Begins, Faulty, behind, with_data, by_last_byte, after_field, command_in, by_termination}
use Rattle.pcl_lexer.specs.Reader.{after_ungrouped_field, without_group, after_introducer, after_parenthesis, after_escape, exit_or}
use Rattle.pcl_lexer.specs.Reader.{first_of}
use Rattle.pcl_lexer.specs.Faults as rules
use Rattle.pcl_lexer.specs.Faults.{CommandFault, number, no_letter, unknown_last, unknown_more, no_count, cut_data, cut_command}
use Rattle.pcl_lexer.specs.Faults.{UngroupedFault, ungrouped_number, no_end, unknown_end, cut_ungrouped, HasGroups, BeginsSmall, UnitFault}
use Rattle.pcl_lexer.specs.Faults.{no_byte, cut_escape, no_sequence, no_character, cut_introducer, no_group, unknown_group, font, language}
use Rattle.pcl_lexer.proofs.Escapes.Shapes.{cut_goes_on}
use Rattle.pcl_lexer.proofs.Escapes.FaultHeads.{TellsCommand, command_told, TellsUnit, unit_told}
use Rattle.pcl_lexer.proofs.Reading.ReadsTo.{same_between}
use Rattle.pcl_lexer.proofs.Reading.FaultRules.{font_read, percent_read}
use Rattle.pcl_lexer.proofs.Escapes.Counted.{counted}
use Rattle.pcl_lexer.proofs.Escapes.Heads.{by_count, group_read}

-- the bytes, and then a byte that goes on with no sequence
abbrev pub on : List ℕ → List ℕ
on bytes = bytes ++ 95 ∷ []

-- a fault of the end of all bytes
abbrev pub IsAtEnd : LexCause → Type 0
IsAtEnd Syntax = ⊥
IsAtEnd Truncated = Unit {0}
IsAtEnd (NotInProfile name) = ⊥
IsAtEnd BadNumber = ⊥
IsAtEnd Pjl = ⊥
IsAtEnd EndInFrame = Unit {0}

-- an item, or a fault other than those of the end
pub data Decided : First → Type 0 where
  by_item : {f : First} (entry : Entry) (len : ℕ) (next : Context) → f ≡ Begins entry len next → Decided f
  by_fault : {f : First} (cause : LexCause) → f ≡ Faulty cause → (IsAtEnd cause → ⊥) → Decided f

pub same : (f g : First) → f ≡ g → Decided g → Decided f
same f g e (by_item entry len next h) = by_item entry len next (e ∙ h)
same f g e (by_fault cause h other) = by_fault cause (e ∙ h) other

last_refuses : (o : Option Amount) (g : Group) (len : ℕ) (bytes : List ℕ) → Decided (by_last_byte o g len 95 bytes)
last_refuses None g len bytes = by_fault BadNumber refl (λ h. h)
last_refuses (Some a) g len bytes = by_fault Syntax refl (λ h. h)

-- bytes behind which a command is decided
record CommandGoesOn (g : Group) (bytes : List ℕ) : Type 0 where
  more : List ℕ
  decided : Decided (command_in g (bytes ++ more))

-- all data are there behind so many bytes more
data_goes_on : (d : DataCommand) (text : List ℕ) (a : Amount) (n : ℕ) (bytes : List ℕ) → IsField text a → Counts a n → length bytes < n →
    CommandGoesOn (data_group_of d) (text ++ data_letter_of d ∷ bytes)
data_goes_on d text a n bytes f h short =
    let more : List ℕ = replicate (n - length bytes) 0 in
    let all : n ≤ length (bytes ++ more) = omega (arith, length-append bytes more, length-replicate {A = ℕ} (n - length bytes) 0, short) in
    record {
      more = more;
      decided = by_item (WithData d (take n (bytes ++ more))) (length text + 1 + n) Pcl (
          ap (command_in (data_group_of d)) (append_assoc text (data_letter_of d ∷ bytes) more)
          ∙ by_count d text a (bytes ++ more) f
          ∙ ap (λ o. with_data d o (length text + 1) (bytes ++ more)) (counted a n h)
          ∙ cond-false (nat_lt (length (bytes ++ more)) n) _ _ (le-ltb (length (bytes ++ more)) n all));
    }

command_goes_on : (g : Group) (bytes : List ℕ) (cause : LexCause) → CommandFault g bytes cause → cause ≡ Truncated → CommandGoesOn g bytes
unfolding command_in
command_goes_on _ _ _ (number h) e = absurd cc
command_goes_on _ _ _ (no_letter rest f ends no_capital no_small) e = absurd cc
command_goes_on _ _ _ (unknown_last rest f capital none) e = absurd cc
command_goes_on _ _ _ (unknown_more rest f capital none) e = absurd cc
command_goes_on _ _ _ (rules.data_goes_on d rest f) e = absurd cc
command_goes_on _ _ _ (no_count d rest f none) e = absurd cc
command_goes_on _ _ _ (cut_data {text = text} {amount = a} {n = n} d bytes f h short) e = data_goes_on d text a n bytes f h short
command_goes_on _ _ _ (cut_command {group = g} {bytes = bytes} h) e =
    let c = cut_goes_on (after_field g) bytes 95 [] (omega arith) h in
    record {
      more = 95 ∷ [];
      decided =
          same (command_in g (on bytes)) (by_last_byte (amount_of c.0) g c.0.len 95 []) c.1 (last_refuses (amount_of c.0) g c.0.len []);
    }

end_refuses : (o : Option Amount) (i len : ℕ) → Decided (by_termination o i len 95)
end_refuses None i len = by_fault BadNumber refl (λ h. h)
end_refuses (Some a) i len = by_fault Syntax refl (λ h. h)

ungrouped_refuses : (i : ℕ) (bytes : List ℕ) (cause : LexCause) → UngroupedFault i bytes cause → cause ≡ Truncated →
    Decided (without_group i (on bytes))
unfolding without_group
ungrouped_refuses _ _ _ (ungrouped_number h) e = absurd cc
ungrouped_refuses _ _ _ (no_end rest f ends no_capital) e = absurd cc
ungrouped_refuses _ _ _ (unknown_end rest f capital none) e = absurd cc
ungrouped_refuses _ _ _ (cut_ungrouped {introducer = i} {bytes = bytes} h) e =
    let c = cut_goes_on (after_ungrouped_field i) bytes 95 [] (omega arith) h in
    same (without_group i (on bytes)) (by_termination (amount_of c.0) i c.0.len 95) c.1 (end_refuses (amount_of c.0) i c.0.len)

escape_refuses : Decided (first_of true Pcl (escape ∷ 95 ∷ []))
unfolding first_of after_escape
escape_refuses = by_fault (NotInProfile (names.Byte 95)) refl (λ h. h)

introducer_refuses : (b : ℕ) → HasGroups b → Decided (first_of true Pcl (escape ∷ b ∷ 95 ∷ []))
unfolding first_of after_escape after_introducer after_parenthesis without_group field_at amount_of
introducer_refuses b (inl e) = by_fault Syntax (ap (λ n. first_of true Pcl (escape ∷ n ∷ 95 ∷ [])) e) (λ h. h)
introducer_refuses b (inr (inl e)) = by_fault Syntax (ap (λ n. first_of true Pcl (escape ∷ n ∷ 95 ∷ [])) e) (λ h. h)
introducer_refuses b (inr (inr e)) = by_fault Syntax (ap (λ n. first_of true Pcl (escape ∷ n ∷ 95 ∷ [])) e) (λ h. h)

behind_decided : (n : ℕ) (f : First) → Decided f → Decided (behind n f)
behind_decided n f (by_item entry len next h) = by_item entry (n + len) next (ap (behind n) h)
behind_decided n f (by_fault cause h other) = by_fault cause (ap (behind n) h) other

exit_decided : (bytes : List ℕ) → Decided (without_group 37 bytes) → Decided (exit_or (without_group 37 bytes) bytes)
exit_decided bytes d = cond_both (begins_with exit_field bytes) _ _ Decided (λ _. by_item ExitLanguage 9 contexts.Pjl refl) (λ _. d)

not_small : (bytes : List ℕ) → (BeginsSmall bytes → ⊥) → BeginsSmall (on bytes) → ⊥
not_small [] h k = absurd (omega (arith, k.0))
not_small (b ∷ bytes) h k = h k

-- bytes behind which an item or a fault is decided
pub record GoesOn (c : Context) (rest : List ℕ) : Type 0 where
  pub more : List ℕ
  pub decided : Decided (first_of true c (rest ++ more))

by_byte : (c : Context) (rest : List ℕ) → Decided (first_of true c (on rest)) → GoesOn c rest
by_byte c rest d = record { more = 95 ∷ []; decided = d }

unit_goes_on : (bytes : List ℕ) (cause : LexCause) → UnitFault modes.Pcl bytes cause → cause ≡ Truncated → GoesOn Pcl bytes
unit_goes_on _ _ (no_byte low h k) e = absurd cc
unit_goes_on _ _ cut_escape e = by_byte Pcl (escape ∷ []) escape_refuses
unit_goes_on _ _ (no_sequence l h none e37 g) e = absurd cc
unit_goes_on _ _ (no_character h) e = absurd cc
unit_goes_on _ _ (cut_introducer {b = b} h) e = by_byte Pcl (escape ∷ b ∷ []) (introducer_refuses b h)
unit_goes_on _ _ (no_group h k s) e = absurd cc
unit_goes_on _ _ (unknown_group h s none) e = absurd cc
unit_goes_on _ _ (rules.in_group {group = g} {bytes = bytes} {cause = cause} h) e =
    let c = command_goes_on g bytes cause h e in
    record {
      more = c.more;
      decided =
          same (first_of true Pcl (escape ∷ introducer_of g ∷ character_of g ∷ (bytes ++ c.more)))
          (behind 3 (command_in g (bytes ++ c.more))) (group_read g (bytes ++ c.more))
          (behind_decided 3 (command_in g (bytes ++ c.more)) c.decided);
    }
unit_goes_on _ _ (font {bytes = bytes} {cause = cause} k h) e =
    by_byte Pcl (escape ∷ 40 ∷ bytes)
    (same (first_of true Pcl (on (escape ∷ 40 ∷ bytes))) (without_group 40 (on bytes)) (font_read (on bytes) (not_small bytes k))
    (ungrouped_refuses 40 bytes cause h e))
unit_goes_on _ _ (language {bytes = bytes} {cause = cause} k h) e =
    by_byte Pcl (escape ∷ 37 ∷ bytes)
    (same (first_of true Pcl (on (escape ∷ 37 ∷ bytes))) (exit_or (without_group 37 (on bytes)) (on bytes)) (percent_read (on bytes))
    (exit_decided (on bytes) (ungrouped_refuses 37 bytes cause h e)))

text_decides : Decided (first_of true Pcl (95 ∷ []))
unfolding first_of
text_decides = by_item (Text 95) 1 Pcl refl

-- where bytes between units, or in a combined sequence, decide nothing
pub between_goes_on : (rest : List ℕ) → first_of false Pcl rest ≡ Open → GoesOn Pcl rest
between_goes_on [] e = by_byte Pcl [] text_decides
between_goes_on (b ∷ rest) e =
    let is_open : first_of true Pcl (b ∷ rest) ≡ Open = sym (same_between false (b ∷ rest)) ∙ e in
    unit_goes_on (b ∷ rest) Truncated (subst (TellsUnit (b ∷ rest)) is_open (unit_told b rest)) refl

pub sequence_goes_on : (g : Group) (rest : List ℕ) → first_of false (Sequence g) rest ≡ Open → GoesOn (Sequence g) rest
unfolding first_of
sequence_goes_on g rest e =
    let c = command_goes_on g rest Truncated (subst (TellsCommand g rest) e (command_told g rest)) refl in
    record { more = c.more; decided = c.decided }
