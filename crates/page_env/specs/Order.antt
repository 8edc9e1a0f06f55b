-- The one order in which the findings of a step are reported, and in which it reads the fields of the panel.
use Rattle.std.specs.Prelude.{ℕ, ◌==◌, nat_le, ◌&&◌, ◌||◌, not, Bool, true, false, length, map, position, unwrap_or}
use Rattle.std.specs.Prelude.{List, [], ◌∷◌, ◌++◌}
use Rattle.device_profile.specs.declared.field.Field.{Field}
use Rattle.device_profile.specs.declared.field.Field.TheVariants.{Size, Orientation, Vmi, Font, Copies, Sides, Tray}
use Rattle.device_profile.specs.declared.field.Field.TheVariants.{LineTerm}
use Rattle.page_env.specs.declared.finding.Finding.{Finding}
use Rattle.page_env.specs.declared.finding.Finding.TheVariants as findings
use Rattle.page_env.specs.Effect.{Check, TableLine}

-- the numbers of all findings of a step, in the order in which they are reported
abbrev pub report_order : List ℕ
report_order =
    24 ∷ 10 ∷ 11 ∷ 18 ∷ 19 ∷ 20 ∷ 21 ∷ 22 ∷ 23 ∷ 25 ∷ 26 ∷ 27 ∷ 28 ∷ 30 ∷ 36
    ∷ 12
    ∷ 13 ∷ 14 ∷ 31 ∷ 34 ∷ 15 ∷ 16 ∷ 17 ∷ 29 ∷ 32 ∷ []

abbrev pub number_of : Finding → ℕ
number_of findings.BadValue = 10
number_of findings.NotOnDevice = 11
number_of (findings.Unset field) = 12
number_of findings.NoFont = 13
number_of (findings.NoGlyph code) = 14
number_of findings.OffPage = 15
number_of findings.PastRightMargin = 16
number_of findings.NotPrintable = 17
number_of findings.StackFull = 18
number_of findings.StackEmpty = 19
number_of findings.NoMacro = 20
number_of findings.MacroDepth = 21
number_of findings.MacroMemory = 22
number_of findings.InMacro = 23
number_of findings.DefinitionOpen = 24
number_of findings.RasterNotStarted = 25
number_of findings.RasterLocked = 26
number_of findings.RasterTooBig = 27
number_of findings.NoPen = 28
number_of findings.OutsideFrame = 29
number_of findings.EmptyRectangle = 30
number_of findings.Inexact = 31
number_of findings.MarginIgnored = 32
number_of findings.RotatedRaster = 34
number_of findings.ManyItems = 36

-- the place of a number in that order
abbrev pub rank_of : ℕ → ℕ
rank_of number = unwrap_or (position (λ other. other == number) report_order) (length report_order)

abbrev pub rank : Finding → ℕ
rank finding = rank_of (number_of finding)

-- the place of a field among the panel's
abbrev pub field_rank : Field → ℕ
field_rank Size = 0
field_rank Orientation = 1
field_rank Vmi = 2
field_rank Font = 3
field_rank Copies = 4
field_rank Sides = 5
field_rank Tray = 6
field_rank LineTerm = 7

-- each number is at least the one before it
abbrev pub rises_from : ℕ → List ℕ → Bool
rises_from n [] = true
rises_from n (m ∷ ms) = nat_le n m && rises_from m ms

abbrev pub rises : List ℕ → Bool
rises [] = true
rises (n ∷ ns) = rises_from n ns

abbrev pub ranks : List Check → List ℕ
ranks checks = map (λ c. rank c.finding) checks

abbrev pub is_unset_finding : Finding → Bool
is_unset_finding (findings.Unset field) = true
is_unset_finding _ = false

-- some check finds that a field is unset
abbrev pub find_unset : List Check → Bool
find_unset [] = false
find_unset (c ∷ cs) = is_unset_finding c.finding || find_unset cs

-- The checks before the reading, what is unset, and the checks after it stand in the order of their findings;
-- and that a field is unset is found by the reading alone.
abbrev pub is_in_order : TableLine → Bool
is_in_order line =
    not (find_unset line.checks_before) && not (find_unset line.checks_after)
    && rises (ranks line.checks_before ++ rank_of 12 ∷ ranks line.checks_after)

-- the fields that are read stand in the order of the panel's
abbrev pub reads_in_order : TableLine → Bool
reads_in_order line = rises (map field_rank line.reads)
