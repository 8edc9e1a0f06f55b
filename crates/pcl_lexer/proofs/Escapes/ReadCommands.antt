-- Parameterized commands that stand first.
use Rattle.std.proofs.Common.{◌≡◌, ℕ, ◌+◌, ◌≤◌, ◌<◌, ◌-◌, List, [], ◌∷◌, length, get_or, take, drop, Bool, true, false, None, Some, sym, ap}
use Rattle.std.proofs.Common.{subst, ◌∙◌, arith}
use Rattle.std.specs.Prelude.{nat_le, Option, IfSome}
use Rattle.std.proofs.lemmas.Bool.{cond-true, cond-false, and_from, le-leb}
use Rattle.pcl_items.specs.declared.pcl.command.Group.{Group}
use Rattle.pcl_items.specs.declared.pcl.command.Group.TheVariants.{RasterData}
use Rattle.pcl_items.specs.declared.pcl.command.Command.{Command}
use Rattle.pcl_lexer.specs.declared.pcl.field.EndedField.{EndedField}
use Rattle.pcl_lexer.specs.declared.pcl.parameterized.ReadCommand.{ReadCommand}
use Rattle.pcl_lexer.specs.Lexing.Contexts.{Pcl, Sequence}
use Rattle.pcl_items.specs.Escapes.Commands.{introducer_of, group_of, group_at, command_at, data_command_at}
use Rattle.pcl_lexer.specs.Escapes.FieldEnd.{Ended, field_end}
use Rattle.pcl_items.specs.Items.{Parameterized, WithData, amount}
use Rattle.pcl_lexer.specs.Reader.{Begins, behind, named, by_last_letter, by_other_letter, by_last_byte, command_in, is_group_or_parameter}
use Rattle.pcl_lexer.specs.Reader.{is_termination, first_of}
use Rattle.pcl_items.specs.Escapes.Value.{Amount}
use Rattle.pcl_lexer.specs.Lexing.FirstView.{context_view}
use Rattle.pcl_lexer.specs.declared.pcl.command_with_data.ReadWithData.{ReadWithData}
use Rattle.pcl_lexer.specs.Escapes.ReadCommands.{IsAhead, IsInGroup, IsEndedBy, IsAheadWithData, IsInGroupWithData, first_with_data}
use Rattle.std.proofs.lemmas.List.{take_all, take_rest, drop-drop}
use Rattle.pcl_lexer.proofs.Escapes.FieldEnds.{command_by}
use Rattle.pcl_lexer.proofs.Escapes.Heads.{group_read}
use Rattle.pcl_lexer.proofs.Reading.ReadsTo.{same_between}
use Rattle.pcl_lexer.proofs.Escapes.Tables.{group_found, command_found, capital_letter, no_data}

-- behind ESC and the two characters of a group stands what the group has there
pub behind_group : (whole : Bool) (i c : ℕ) (g : Group) (bytes : List ℕ) → group_at i c ≡ Some g →
    first_of whole Pcl (27 ∷ i ∷ c ∷ bytes) ≡ behind 3 (command_in g bytes)
behind_group whole i c g bytes e =
    let characters = group_found i c g e in
    same_between whole (27 ∷ i ∷ c ∷ bytes)
    ∙ ap (λ n. first_of true Pcl (27 ∷ n ∷ c ∷ bytes)) characters.0
    ∙ ap (λ n. first_of true Pcl (27 ∷ introducer_of g ∷ n ∷ bytes)) characters.1
    ∙ group_read g bytes

-- the letter of a command is a capital one, and of no command with data
record IsLetter (g : Group) (letter : ℕ) (c : Command) : Type 0 where
  low : 65 ≤ letter
  high : letter ≤ 90
  no_data : data_command_at g letter ≡ None

letter_found : (g : Group) (letter : ℕ) (c : Command) → command_at g letter ≡ Some c → IsLetter g letter c
letter_found g letter c e =
    let found = command_found g letter c e in
    let capital = capital_letter c in
    record {
      low = subst (λ (n : ℕ). 65 ≤ n) (sym found.1) capital.0;
      high = subst (λ (n : ℕ). n ≤ 90) (sym found.1) capital.1;
      no_data = ap (λ h. data_command_at h letter) found.0 ∙ ap (λ n. data_command_at (group_of c) n) found.1 ∙ no_data c;
    }

-- the command that a small letter names, and the one that a capital letter names
pub named_small : (g : Group) (a : Amount) (len last : ℕ) (bytes : List ℕ) (c : Command) → 96 ≤ last → command_at g (last - 32) ≡ Some c →
    by_last_byte (Some a) g len last bytes ≡ Begins (Parameterized c a) (len + 1) (Sequence g)
named_small g a len last bytes c small e =
    let letter = letter_found g (last - 32) c e in
    let yes : is_group_or_parameter last ≡ true =
    and_from (nat_le 96 last) (nat_le last 126) (le-leb 96 last small) (le-leb last 126 (omega (arith, letter.high))) in
    cond-true (is_group_or_parameter last) _ _ yes
    ∙ ap (λ o. by_other_letter o g (last - 32) a (len + 1)) letter.no_data
    ∙ ap (λ o. named o g (last - 32) a (len + 1) (Sequence g)) e

pub named_capital : (g : Group) (a : Amount) (len last : ℕ) (bytes : List ℕ) (c : Command) → last < 96 → command_at g last ≡ Some c →
    by_last_byte (Some a) g len last bytes ≡ Begins (Parameterized c a) (len + 1) Pcl
named_capital g a len last bytes c small e =
    let letter = letter_found g last c e in
    let no : is_group_or_parameter last ≡ false = grind (arith, small) in
    let yes : is_termination last ≡ true =
    and_from (nat_le 64 last) (nat_le last 94) (le-leb 64 last (omega (arith, letter.low))) (le-leb last 94 (omega (arith, letter.high))) in
    cond-false (is_group_or_parameter last) _ _ no
    ∙ cond-true (is_termination last) _ _ yes
    ∙ ap (λ o. by_last_letter o g last a (len + 1) bytes) letter.no_data
    ∙ ap (λ o. named o g last a (len + 1) Pcl) e

-- the same of a slice of the bytes behind these characters
pub behind_characters : (whole : Bool) (g : Group) (bytes : List ℕ) → 2 ≤ length bytes →
    group_at (get_or bytes 0 0) (get_or bytes 1 0) ≡ Some g →
    first_of whole Pcl (27 ∷ bytes) ≡ behind 3 (command_in g (take (length bytes - 2) (drop 2 bytes)))
behind_characters whole g [] two e = absurd (omega (arith, two))
behind_characters whole g (i ∷ []) two e = absurd (omega (arith, two))
behind_characters whole g (i ∷ c ∷ bytes) two e =
    let count : length (i ∷ c ∷ bytes) - 2 ≡ length bytes = omega arith in
    let all : take (length (i ∷ c ∷ bytes) - 2) bytes ≡ bytes =
    ap (λ n. take n bytes) count ∙ take_all (length bytes) bytes (omega arith) in
    behind_group whole i c g bytes e ∙ ap (λ l. behind 3 (command_in g l)) (sym all)

-- bytes behind an escape character
pub behind_escape : (bytes : List ℕ) → 1 ≤ length bytes → get_or bytes 0 0 ≡ 27 → 27 ∷ take (length bytes - 1) (drop 1 bytes) ≡ bytes
behind_escape [] one e = absurd (omega (arith, one))
behind_escape (b ∷ bytes) one e =
    let count : length (b ∷ bytes) - 1 ≡ length bytes = omega arith in
    let all : take (length (b ∷ bytes) - 1) bytes ≡ bytes = ap (λ n. take n bytes) count ∙ take_all (length bytes) bytes (omega arith) in
    ap (λ n. n ∷ take (length (b ∷ bytes) - 1) bytes) (sym e) ∙ ap (λ l. b ∷ l) all

-- the command of a group, where the three bytes before its field stand too
pub command_behind : (read : ReadCommand) (g : Group) (bytes : List ℕ) → 3 ≤ length bytes → get_or bytes 0 0 ≡ 27 →
    group_at (get_or bytes 1 0) (get_or bytes 2 0) ≡ Some g →
    IsInGroup read g (take (length bytes - 3) (drop 3 bytes)) → IsAhead (record read { len = 3 + read.len }) Pcl bytes
command_behind read g [] three e found h = absurd (omega (arith, three))
command_behind read g (b0 ∷ []) three e found h = absurd (omega (arith, three))
command_behind read g (b0 ∷ b1 ∷ []) three e found h = absurd (omega (arith, three))
command_behind read g (b0 ∷ b1 ∷ b2 ∷ bytes) three e found h =
    let size : length (b0 ∷ b1 ∷ b2 ∷ bytes) - 3 ≡ length bytes = omega arith in
    let all : take (length (b0 ∷ b1 ∷ b2 ∷ bytes) - 3) bytes ≡ bytes =
    ap (λ n. take n bytes) size ∙ take_all (length bytes) bytes (omega arith) in (
      λ whole. ap (λ n. first_of whole Pcl (n ∷ b1 ∷ b2 ∷ bytes)) e ∙ behind_group whole b1 b2 g bytes found
          ∙ ap (λ l. behind 3 (command_in g l)) (sym all) ∙ ap (behind 3) h.0,
      omega (arith, h.1, ap length all),
    )

-- the command of a group, behind another of it
pub command_ahead : (read : ReadCommand) (g : Group) (bytes : List ℕ) →
    IsInGroup read g (take (length bytes - 0) (drop 0 bytes)) → IsAhead (record read { len = 0 + read.len }) (Sequence g) bytes
unfolding first_of
command_ahead read g bytes h =
    let len : read.len ≡ 0 + read.len = omega arith in
    let Here : ReadCommand → Type 0 = λ same. IsInGroup same g bytes in
    let here : IsInGroup read g bytes = subst (λ (l : List ℕ). IsInGroup read g l) (take_rest bytes 0) h in
    let same : IsInGroup (record read { len = 0 + read.len }) g bytes = subst (λ n. Here (record read { len = n })) len here in
    (λ whole. same.0, same.1)

-- the data of a command, where the three bytes before its field stand too
pub with_data_behind : (read : ReadWithData) (bytes : List ℕ) → 2 ≤ length bytes → read.count.bytes ≤ read.len →
    behind 3 (first_with_data read (take (length bytes - 2) (drop 2 bytes)))
    ≡ first_with_data (record read { len = 3 + read.len }) (27 ∷ bytes)
with_data_behind read [] two h = absurd (omega (arith, two))
with_data_behind read (i ∷ []) two h = absurd (omega (arith, two))
with_data_behind read (i ∷ c ∷ bytes) two h =
    let size : length (i ∷ c ∷ bytes) - 2 ≡ length bytes = omega arith in
    let all : take (length (i ∷ c ∷ bytes) - 2) bytes ≡ bytes = ap (λ n. take n bytes) size ∙ take_all (length bytes) bytes (omega arith) in
    let n = read.count.bytes in
    let before : 3 + (read.len - n) ≡ 3 + read.len - n = omega (arith, h) in
    let same : drop (read.len - n) bytes ≡ drop (3 + read.len - n) (27 ∷ i ∷ c ∷ bytes) =
    drop-drop (read.len - n) 3 (27 ∷ i ∷ c ∷ bytes) ∙ ap (λ m. drop m (27 ∷ i ∷ c ∷ bytes)) before in
    ap (λ l. behind 3 (first_with_data read l)) all
    ∙ ap (λ l. Begins (WithData read.command (take n l)) (3 + read.len) (context_view read.next)) same

-- the row of a raster, where the three bytes before its field stand too
pub row_behind : (read : ReadWithData) (bytes : List ℕ) → 3 ≤ length bytes → get_or bytes 0 0 ≡ 27 → get_or bytes 1 0 ≡ 42 →
    get_or bytes 2 0 ≡ 98 →
    IsInGroupWithData read RasterData (take (length bytes - 3) (drop 3 bytes)) →
    IsAheadWithData (record read { len = 3 + read.len }) Pcl bytes
row_behind read [] three e i c h = absurd (omega (arith, three))
row_behind read (b0 ∷ []) three e i c h = absurd (omega (arith, three))
row_behind read (b0 ∷ b1 ∷ []) three e i c h = absurd (omega (arith, three))
row_behind read (b0 ∷ b1 ∷ b2 ∷ bytes) three e i c h =
    let size : length (b0 ∷ b1 ∷ b2 ∷ bytes) - 3 ≡ length bytes = omega arith in
    let all : take (length (b0 ∷ b1 ∷ b2 ∷ bytes) - 3) bytes ≡ bytes =
    ap (λ n. take n bytes) size ∙ take_all (length bytes) bytes (omega arith) in
    let size2 : length (b1 ∷ b2 ∷ bytes) - 2 ≡ length bytes = omega arith in
    let all2 : take (length (b1 ∷ b2 ∷ bytes) - 2) bytes ≡ bytes =
    ap (λ n. take n bytes) size2 ∙ take_all (length bytes) bytes (omega arith) in
    let group : group_at b1 b2 ≡ Some RasterData = (λ k. group_at (i k) (c k)) in
    let longer : ReadWithData = record read { len = 3 + read.len } in
    let read_here : command_in RasterData bytes ≡ first_with_data read bytes =
    ap (command_in RasterData) (sym all) ∙ h.0 ∙ ap (first_with_data read) all in
    let behind_three : behind 3 (first_with_data read bytes) ≡ first_with_data longer (27 ∷ b1 ∷ b2 ∷ bytes) =
    ap (λ l. behind 3 (first_with_data read l)) (sym all2) ∙ with_data_behind read (b1 ∷ b2 ∷ bytes) (omega arith) h.1.1 in (
      λ whole. ap (λ n. first_of whole Pcl (n ∷ b1 ∷ b2 ∷ bytes)) e ∙ behind_group whole b1 b2 RasterData bytes group
          ∙ ap (behind 3) read_here ∙ behind_three ∙ ap (λ n. first_with_data longer (n ∷ b1 ∷ b2 ∷ bytes)) (sym e),
      (omega (arith, h.1.0, ap length all), omega (arith, h.1.1)),
    )

-- the command that ends a field is that of its group
pub in_group : (result : Option ReadCommand) (g : Group) (field : EndedField) (bytes : List ℕ) →
    Ended (amount field.number) field.len field.last ≡ field_end bytes → field.len < length bytes →
    IfSome result (λ read. IsEndedBy read g field) → IfSome result (λ read. IsInGroup read g bytes)
in_group None g field bytes e inside h = tt
in_group (Some read) g field bytes e inside h =
    (sym (command_by g bytes _ e) ∙ h.0 (drop (field.len + 1) bytes), omega (arith, h.1, inside))
