use Rattle.std.proofs.Common.{◌≡◌, length, take, true}
use Rattle.std.specs.List.{list_all}
use Rattle.device_profile.specs.Words.{words_of}
use Rattle.device_profile.specs.GeometryLine.{is_row_number, row_numbers_of}
use Rattle.device_profile.proofs.RowNumbers.{row_numbers_with}
use Rattle.device_profile.proofs.geometry_line.row_numbers.Given as goal

abbrev pub invariant-loop-i : goal.invariant-loop-i
invariant-loop-i l =
    (row_numbers_of (words_of l.words) ≡ row_numbers_with (take l.i l.numbers) (words_of l.rest))
    × (list_all is_row_number (take l.i l.numbers) ≡ true)
    × (length l.numbers ≡ 12)
