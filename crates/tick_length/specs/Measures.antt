-- How many ticks the lengths have by which jobs and profiles count.
use Rattle.std.specs.Prelude.{ℕ}

abbrev pub ticks_per_inch : ℕ
ticks_per_inch = 36_576_000_000

-- half an inch: the default top margin, and how far text ends by default above the foot of the logical page
abbrev pub ticks_per_half_inch : ℕ
ticks_per_half_inch = 18_288_000_000

-- 1/7200 inch, in which a profile gives lengths
abbrev pub ticks_per_7200th : ℕ
ticks_per_7200th = 5_080_000

abbrev pub ticks_per_tenth_millimetre : ℕ
ticks_per_tenth_millimetre = 144_000_000

-- a plotter unit of HP-GL/2, which is 0.025 mm
abbrev pub ticks_per_plotter_unit : ℕ
ticks_per_plotter_unit = 36_000_000
