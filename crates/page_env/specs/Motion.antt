-- Motion and line ends: VMI, line spacing, HMI, line termination, and the control codes CR, LF, FF and `ESC =` (`&l#C`,
-- `&l#D`, `&k#H`, `&k#G`).
use Rattle.std.specs.Prelude.{ℕ, ℤ, pos, ◌/◌, ◌==◌, ◌&&◌, ◌||◌, not, cond, false, Bool, ◌+ℤ◌, int_lt, Some, None, List}
use Rattle.std.specs.Prelude.{[], ◌∷◌}
use Rattle.std.specs.List.{list_any}
use Rattle.pcl_items.specs.Escapes.Value.{Amount}
use Rattle.device_profile.specs.Printer.{Printer}
use Rattle.page_env.specs.declared.finding.Finding.TheVariants.{BadValue, OffPage}
use Rattle.page_env.specs.declared.motion.Feed.{Feed}
use Rattle.page_env.specs.declared.motion.LineTermination.{LineTermination}
use Rattle.device_profile.specs.declared.field.Field.{Field}
use Rattle.device_profile.specs.declared.field.Field.TheVariants.{LineTerm}
use Rattle.page_env.specs.declared.motion.Feed.TheVariants.{Line as WholeLine, HalfLine}
use Rattle.page_env.specs.Settings.{State, with_job}
use Rattle.page_env.specs.Numbers.{is_whole_between, is_whole_from, whole_of, is_up_to}
use Rattle.page_env.specs.Places.{page_and_line_reads, geometry_of, bottom_of, vertical_place, line_of}
use Rattle.page_env.specs.Effect.{check, TableLine, moving, reading, setting, Transition, Step, Closes, Ends, Behind}

-- ---- how far lines and columns are apart

abbrev pub with_vmi : State → ℕ → State
with_vmi s vmi = record s {
  settings = record s.settings {
    fields = record s.settings.fields { vmi = vmi };
    unset = record s.settings.unset { vmi = false };
  };
}

-- `&l#C` vertical motion index, from 0 to 335 times 1/48 inch
abbrev pub set_vmi : State → Amount → TableLine
set_vmi s n = setting (check (not (is_up_to 3_350_000 n)) BadValue ∷ []) (with_vmi s n.ten_thousandths)

abbrev pub line_spacings : List ℕ
line_spacings = 1 ∷ 2 ∷ 3 ∷ 4 ∷ 6 ∷ 8 ∷ 12 ∷ 16 ∷ 24 ∷ 48 ∷ []

-- `&l#D` line spacing: so many lines an inch, a divisor of 48
abbrev pub set_line_spacing : State → Amount → TableLine
set_line_spacing s n =
    setting (check (not (is_whole_from 1 n && list_any (λ lines. lines == whole_of n) line_spacings)) BadValue ∷ [])
    (with_vmi s (480_000 / whole_of n))

-- `&k#H` horizontal motion index, from 0 to 840 times 1/120 inch
abbrev pub set_hmi : State → Amount → TableLine
set_hmi s n =
    setting (check (not (is_up_to 8_400_000 n)) BadValue ∷ [])
    (with_job s (record s.settings.job { hmi = Some n.ten_thousandths }))

-- ---- feeds

-- the cursor goes home
abbrev pub at_home : State → State
at_home s = record s { cursor = record s.cursor { y = None } }

-- how far a feed goes, where a line has so many ticks
abbrev pub distance_of : Feed → ℕ → ℕ
distance_of WholeLine line = line
distance_of HalfLine line = line / 2

-- where a feed leads
abbrev pub fed_to : State → Feed → ℤ
fed_to s feed = vertical_place s +ℤ pos (distance_of feed (line_of s))

-- whether a place lies past the bottom margin, where the perforation is skipped
abbrev pub is_past_bottom : Printer → State → ℤ → Bool
is_past_bottom printer s y = s.settings.job.skips_perforation && int_lt (bottom_of printer s) y

-- a feed to a place of the page, which may lie below the logical page only where the perforation is skipped
abbrev pub feed_down : Printer → State → ℤ → TableLine
feed_down printer s y = record {
  checks_before = [];
  reads = page_and_line_reads;
  checks_after = check (not s.settings.job.skips_perforation && int_lt (geometry_of printer s).logical_height
      y) OffPage ∷ [];
  state = record s { cursor = record s.cursor { y = Some y } };
  marks = [];
}

-- a feed: past the bottom margin the page is closed and the cursor goes home, where the perforation is skipped
abbrev pub feed_by : Printer → State → Feed → Transition
feed_by printer s by =
    cond (is_past_bottom printer s (fed_to s by)) (Closes (reading s page_and_line_reads) false at_home)
    (Step (feed_down printer s (fed_to s by)))

-- `ESC =`
abbrev pub half_line_feed : Printer → State → Transition
half_line_feed printer s = feed_by printer s HalfLine

-- ---- line termination: CR, LF and FF read it as a step of their own;
-- a return finds nothing, so what comes with it goes on from where it led

-- `&k#G` line termination
abbrev pub set_line_termination : State → Amount → TableLine
set_line_termination s n = setting (check (not (is_whole_between 0 3 n)) BadValue ∷ []) (record s {
  settings = record s.settings {
    fields = record s.settings.fields { line_termination = whole_of n };
    unset = record s.settings.unset { line_termination = false };
  };
})

-- 1 and 3 feed a line at each CR, 2 and 3 return at each LF and FF
abbrev pub termination_of : ℕ → LineTermination
termination_of value =
    record { feeds_at_return = (value == 1) || (value == 3); returns_at_feed = (value == 2) || (value == 3) }

abbrev pub line_termination : State → LineTermination
line_termination s = termination_of s.settings.fields.line_termination

-- what CR, LF and FF read before all else
abbrev pub line_termination_reads : List Field
line_termination_reads = LineTerm ∷ []

-- CR: the cursor goes to the left margin
abbrev pub carriage_return : State → State
carriage_return s = record s { cursor = record s.cursor { x = s.settings.job.left_margin } }

-- a return, and a line feed where line termination has it so
abbrev pub return_with : Printer → LineTermination → State → Transition
return_with printer termination s =
    cond termination.feeds_at_return (feed_by printer (carriage_return s) WholeLine) (Step (moving (carriage_return s)))

-- LF and FF return to the left margin first, where line termination has it so
abbrev pub before_feed : LineTermination → State → State
before_feed termination s = cond termination.returns_at_feed (carriage_return s) s

-- CR
abbrev pub return_line : Printer → State → Transition
return_line printer s = Behind line_termination_reads (return_with printer (line_termination s) s)

-- LF
abbrev pub line_feed : Printer → State → Transition
line_feed printer s = Behind line_termination_reads (feed_by printer (before_feed (line_termination s) s) WholeLine)

-- FF closes a page without a mark, too
abbrev pub form_feed : State → Transition
form_feed s = Behind line_termination_reads (Ends (moving (before_feed (line_termination s) s)))
