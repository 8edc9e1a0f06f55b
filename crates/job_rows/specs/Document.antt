-- How the document begins and ends.
use Rattle.std.specs.Prelude.{ℕ, List, ◌++◌, codes, flat_map}
use Rattle.job_rows.specs.declared.page_parts.TheConstants.{FOOT, HEAD, ROWS_START}
use Rattle.job_rows.specs.Escapes.{html_text}

-- a printer by its name
unfoldable pub fleet_item : List ℕ → List ℕ
fleet_item name = codes "<li>" ++ html_text name ++ codes "</li>\n"

abbrev pub fleet_part : List (List ℕ) → List ℕ
fleet_part names = flat_map fleet_item names

-- The fixed parts are shut: a proof that does not open them meets none of their letters.
unfoldable pub document_head : List ℕ
document_head = HEAD.now

unfoldable pub before_rows : List ℕ
before_rows = ROWS_START.now

-- the style and the printers stand before all rows
abbrev pub document_start : List (List ℕ) → List ℕ
document_start names = document_head ++ fleet_part names ++ before_rows

-- the counts and the filter behind them
unfoldable pub document_end : List ℕ
document_end = FOOT.now
