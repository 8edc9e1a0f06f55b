-- Lines of text that stand next in both jobs, and print the same in both.
use Rattle.std.specs.Prelude.{◌≡◌, ℕ, ◌+◌, ◌≤◌, List, [], ◌∷◌, ◌++◌, None, true, length, take}
use Rattle.pcl_lexer.specs.Lexing.Passing.{ahead_of}
use Rattle.device_profile.specs.declared.panel.Panel.{Panel}
use Rattle.device_profile.specs.Printer.{Printer}
use Rattle.page_env.specs.declared.text_lines.TextAppearance.{TextAppearance}
use Rattle.page_env.specs.declared.text_lines.TextLines.{TextLines}
use Rattle.page_env.specs.declared.text_lines.TextPlace.{TextPlace}
use Rattle.page_env.specs.TextLines.{GoAs, behind}
use Rattle.page_env.specs.TextMeasure.{AreLinesFrom, TextMeasure}
use Rattle.page_machine.specs.Event.{Event}
use Rattle.page_machine.specs.TextLines.{glyph_events}
use Rattle.streams.specs.Source.{SourceState}
use Rattle.comparison.specs.Comparison.{Made, made_at}
use Rattle.comparison.specs.Comparing.{Following, HasFollowed, still_made}
use Rattle.comparison.specs.Running.{HasRun, RunState, is_open}

-- ---- what they make

-- the marks of bytes that go from a place on the page
abbrev pub text_events : TextAppearance → TextPlace → List ℕ → List Event
text_events look from [] = []
text_events look from (code ∷ codes) = glyph_events look from code ++ text_events look (behind look code from) codes

-- each made by the item of its byte, the first of which stands at this place in the job
abbrev pub text_made : TextAppearance → TextPlace → ℕ → List ℕ → List Made
text_made look from place [] = []
text_made look from place (code ∷ codes) =
    made_at place (glyph_events look from code) ++ text_made look (behind look code from) (place + 1) codes

-- ---- where they stand next

-- the first bytes ahead of a job
abbrev pub codes_ahead : TextLines → RunState → List ℕ
codes_ahead lines run = take lines.count (ahead_of run.lexer)

-- these go from where the job stands, with characters of this look
pub record GoNext (look : TextAppearance) (from : TextPlace) (lines : TextLines) (run : RunState) : Type 0 where
  pub some : 1 ≤ lines.count
  pub ahead : lines.count ≤ length (ahead_of run.lexer)
  pub no_definition : run.machine.macros.definition ≡ None
  pub go : GoAs run.machine.printer run.machine.page look from (codes_ahead lines run) lines

-- so many of the first bytes of both go from a place by both measures, with one look
pub record AreLinesOfBoth (one other : TextMeasure) (from : TextPlace) (bytes others : List ℕ) (lines : TextLines)
    : Type 0 where
  pub some : 1 ≤ lines.count
  pub look : other.look ≡ one.look
  pub same : take lines.count bytes ≡ take lines.count others
  pub first : AreLinesFrom one from bytes lines
  pub second : AreLinesFrom other from others lines

-- they stand next in both jobs, all of whose events were compared
pub record GoInBoth (lines : TextLines) (old : RunState) (new : Following) : Type 0 where
  pub look : TextAppearance
  pub from : TextPlace
  pub old_next : GoNext look from lines old
  pub new_next : GoNext look from lines new.run
  pub same : codes_ahead lines old ≡ codes_ahead lines new.run
  pub level : still_made new ≡ []
  pub running : is_open new.run.progress ≡ true

-- ---- that they were carried out

-- a job carried them out, each as an item
abbrev pub PassesLines : TextLines → RunState → RunState → Type 0
PassesLines lines old new =
    (look : TextAppearance) (from : TextPlace) → GoNext look from lines old →
    (printer : Printer) (panel : Panel) (first now : SourceState) (made : List Made) →
    HasRun printer panel first now made old →
    HasRun printer panel first now (made ++ text_made look from old.lexer.place (codes_ahead lines old)) new

-- so did the job that follows, and they count as compared
abbrev pub FollowsLines : TextLines → Following → Following → Type 0
FollowsLines lines old new =
    (look : TextAppearance) (from : TextPlace) → GoNext look from lines old.run →
    (printer : Printer) (panel : Panel) (first now : SourceState) (taken : List Made) →
    HasFollowed printer panel first now taken old →
    HasFollowed printer panel first now
    (taken ++ text_made look from old.run.lexer.place (codes_ahead lines old.run)) new
