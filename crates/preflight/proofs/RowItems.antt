-- What the lexer answers of a row of a raster.
use Rattle.std.proofs.Common.{◌≡◌, subst}
use Rattle.std.specs.Prelude.{Option, None, Some}
use Rattle.pcl_lexer.specs.declared.lexer.PlacedRow.{PlacedRow}
use Rattle.pcl_lexer.specs.Lexing.Contexts.{Pcl}
use Rattle.pcl_lexer.specs.Lexing.Meaning.{IsNext, IsNextRow, answer_of_row}
use Rattle.pcl_lexer.specs.Lexing.State.{LexerState}

module _ (old new : LexerState) (answer : Option PlacedRow) (next : IsNextRow old answer new) where
  pub row_is_next : (row : PlacedRow) → answer ≡ Some row → IsNext old (answer_of_row row) new × (old.context ≡ Pcl)
  row_is_next row is = subst (λ a. IsNextRow old a new) is next

  pub none_is_next : answer ≡ None → new ≡ old
  none_is_next is = subst (λ a. IsNextRow old a new) is next
