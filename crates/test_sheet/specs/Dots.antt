-- Lengths of a profile in the units of the sheet.
use Rattle.std.specs.Prelude.{ℕ, ◌+◌, ◌/◌, min}
use Rattle.std.specs.Int.{div_ceil}
use Rattle.tick_length.specs.Measures.{ticks_per_tenth_millimetre}

-- a dot, which is 1/300 inch and the sheet's PCL unit, in ticks
abbrev pub dot : ℕ
dot = 121_920_000

-- the most dots that a command can give
abbrev pub most_dots : ℕ
most_dots = 65_535

-- the whole dots in so many ticks, and the dots that cover them
abbrev pub dots_in : ℕ → ℕ
dots_in ticks = min most_dots (ticks / dot)

abbrev pub dots_over : ℕ → ℕ
dots_over ticks = min most_dots (div_ceil ticks dot)

-- so many ticks in dots, and in tenths of a millimetre, to the nearest
abbrev pub nearest_dots : ℕ → ℕ
nearest_dots ticks = (ticks + 60_960_000) / dot

abbrev pub tenths_of_millimetres : ℕ → ℕ
tenths_of_millimetres ticks = (ticks + 72_000_000) / ticks_per_tenth_millimetre
