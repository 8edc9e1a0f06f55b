-- Laws of the table of commands, computed from it.
use Rattle.std.proofs.Common.{◌≡◌, ◌≤◌, ℕ, List, [], ◌∷◌, map, length, Bool, true, false, refl, arith, if◌then◌else◌}
use Rattle.std.specs.Prelude.{nat_le, not, ◌&&◌, ◌||◌}
use Rattle.std.specs.List.{AllByRecursion, list_all}
use Rattle.std.specs.Str.{bytes_eq}
use Rattle.std.proofs.lemmas.Bool.{and_parts, leb-true}
use Rattle.command_names.specs.CommandNames.{IsName, command_name, is_taken, key_of, name_of, named_by, table, texts_of}
use Rattle.command_names.specs.declared.chapters.TheConstants.{CHAPTERS}
use Rattle.command_names.specs.Language.{TellLanguage, are_apart, is_of_language, is_told, language, rises}

-- ---- the language

rising : list_all (λ chapter. rises [] (map key_of (texts_of chapter))) CHAPTERS ≡ true
unfolding texts_of
rising = refl

apart : are_apart (map key_of table) ≡ true
unfolding table texts_of
apart = refl

each : list_all (is_told table) language ≡ true
unfolding table texts_of
each = refl

only : list_all (λ text. not (is_taken text) || is_of_language (key_of text)) table ≡ true
unfolding table texts_of
only = refl

pub tells_language : TellLanguage CHAPTERS
unfolding table
tells_language = record { rising = rising; apart = apart; each = each; only = only }

-- ---- the length of names

abbrev is_short : List ℕ → Bool
is_short text = nat_le (length (name_of text)) 60 && list_all (nat_le 32) (name_of text)

each_short : list_all is_short table ≡ true
unfolding table texts_of
each_short = refl

shown_by_test : (name : List ℕ) → list_all (nat_le 32) name ≡ true → AllByRecursion (λ byte. 32 ≤ byte) name
shown_by_test [] e = tt
shown_by_test (b ∷ name) e =
    let both = and_parts (nat_le 32 b) (list_all (nat_le 32) name) e in (leb-true 32 b both.0, shown_by_test name both.1)

name_by_test : (text : List ℕ) → is_short text ≡ true → IsName (name_of text)
name_by_test text e =
    let both = and_parts (nat_le (length (name_of text)) 60) (list_all (nat_le 32) (name_of text)) e in
    record { short = leb-true (length (name_of text)) 60 both.0; shown = shown_by_test (name_of text) both.1 }

named_short : (texts : List (List ℕ)) (key : List ℕ) → list_all is_short texts ≡ true → IsName (named_by key texts)
named_short [] key e = record { short = omega arith; shown = tt }
named_short (text ∷ texts) key e =
    let both = and_parts (is_short text) (list_all is_short texts) e in
    elim (bytes_eq (key_of text) key) as (λ b. IsName (if b then name_of text else named_by key texts)) [
      | true ↦ name_by_test text both.0
      | false ↦ named_short texts key both.1
    ]

pub name_is_short : (key : List ℕ) → IsName (command_name key)
name_is_short key = named_short table key each_short
