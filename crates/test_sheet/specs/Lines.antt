-- Lines of words, from the top of a page down.
use Rattle.std.specs.Prelude.{ℕ, unsigned_abs, ◌+◌, ◌*◌, max, List}
use Rattle.device_profile.specs.Faces.{Face}
use Rattle.test_sheet.specs.declared.area.Area.{Area}
use Rattle.test_sheet.specs.Dots.{dots_over}
use Rattle.test_sheet.specs.Marks.{words_at}

-- how far lines of a face are apart: 1/6 inch, or as high as its characters
abbrev pub line_height : Face → ℕ
line_height face = max 50 (dots_over (unsigned_abs face.ascent + unsigned_abs face.descent))

-- the top of a line, of which the first is 0
unfoldable pub line_top : Area → Face → ℕ → ℕ
line_top area face line = area.top + 10 + line * line_height face

-- the baseline of a line
unfoldable pub baseline : Area → Face → ℕ → ℕ
baseline area face line = line_top area face line + dots_over (unsigned_abs face.ascent)

-- where lines begin, clear of a rule at the left
abbrev pub indent : Area → ℕ
indent area = area.left + 30

unfoldable pub words_on : Area → Face → ℕ → List ℕ → List ℕ
words_on area face line words = words_at area face (indent area) (baseline area face line) words
