-- Lines of text: bytes that go one after another, text and the ends of its lines.
use Rattle.std.specs.Prelude.{◌≡◌, ℕ, true, pos, ◌+◌, ◌==◌, ◌||◌, not, cond, ◌+ℤ◌, ◌-ℤ◌, Bool, Option, Some, None, List}
use Rattle.std.specs.Prelude.{[], ◌∷◌}
use Rattle.std.specs.List.{AllByRecursion}
use Rattle.pcl_items.specs.Lines.{IsOfLines, line_item}
use Rattle.device_profile.specs.declared.font.CodeRange.{CodeRange}
use Rattle.device_profile.specs.declared.panel.Panel.{Panel}
use Rattle.device_profile.specs.Faces.{is_text_of}
use Rattle.device_profile.specs.Printer.{Printer}
use Rattle.page_env.specs.declared.mark.Bounds.{Bounds}
use Rattle.page_env.specs.declared.mark.Glyph.{Glyph}
use Rattle.page_env.specs.declared.page.Page.{Page}
use Rattle.page_env.specs.declared.text_lines.TextAppearance.{TextAppearance}
use Rattle.page_env.specs.declared.text_lines.TextLines.{TextLines}
use Rattle.page_env.specs.declared.text_lines.TextPlace.{TextPlace}
use Rattle.page_env.specs.Settings.{Settings, settings_at, state_at}
use Rattle.page_env.specs.Mark.{characters_of}
use Rattle.page_env.specs.Effect.{Goes, effect_of}
use Rattle.page_env.specs.Table.{transition_of}

-- ---- one byte, from a place

-- the left margin, and a line further down
abbrev pub at_left : TextAppearance → TextPlace → TextPlace
at_left look place = record place { x = look.left }

abbrev pub a_line_down : TextAppearance → TextPlace → TextPlace
a_line_down look place = record place { y = place.y +ℤ look.line }

-- Where a byte leads: CR to the left margin, LF a line down, either with the other where line termination has it so,
-- and what is text a column on.
abbrev pub behind : TextAppearance → ℕ → TextPlace → TextPlace
behind look code place =
    cond (code == 13)
    (cond look.termination.feeds_at_return (a_line_down look (at_left look place)) (at_left look place))
    (cond (code == 10) (a_line_down look (cond look.termination.returns_at_feed (at_left look place) place))
    (record place { x = place.x +ℤ pos look.column }))

-- it makes no mark
abbrev pub is_blank : ℕ → Bool
is_blank code = (code == 13) || ((code == 10) || (code == 32))

-- the box of a character with its reference point at the place
abbrev pub box_at : TextAppearance → TextPlace → Bounds
box_at look place =
    let x = look.origin.x +ℤ place.x in
    let y = look.origin.y +ℤ place.y in
    record { left = x; top = y -ℤ look.ascent; right = x +ℤ look.advance; bottom = y +ℤ look.descent }

-- the character of a byte, if it has one
abbrev pub glyph_at : TextAppearance → TextPlace → ℕ → Option Glyph
glyph_at look place code =
    cond (is_blank code) None
    (Some (record { code = code; request = look.request; y = look.origin.y +ℤ place.y; bounds = box_at look place }))

-- a page with its cursor at a place
abbrev pub page_at : TextPlace → Page → Page
page_at place page = record page { cursor = record { x = place.x; y = Some place.y } }

-- the page behind a byte: the cursor is where it leads, and what is not blank makes a mark
abbrev pub page_behind : TextAppearance → TextPlace → ℕ → Page → Page
page_behind look place code page =
    record (page_at (behind look code place) page) { marked = not (is_blank code) || page.marked }

-- its item goes, whatever the panel, with the character that looks so
pub record GoesAt (printer : Printer) (look : TextAppearance) (place : TextPlace) (page : Page)
    (code : ℕ) : Type 0 where
  pub byte : IsOfLines code
  pub no_raster : page.raster ≡ None
  pub goes : (panel : Panel) (defaults : Settings) →
      effect_of (settings_at panel page.env) (transition_of printer defaults (state_at panel page) (line_item code))
      ≡ Goes (state_at panel (page_behind look place code page)) (characters_of (glyph_at look place code))

-- ---- bytes one after another

-- each of the bytes goes
abbrev pub AllGo : Printer → TextAppearance → TextPlace → Page → List ℕ → Type 0
AllGo printer look place page [] = Unit {0}
AllGo printer look place page (code ∷ codes) =
    GoesAt printer look place page code
    × AllGo printer look (behind look code place) (page_behind look place code page) codes

-- the place behind all of them, and the page
abbrev pub place_behind : TextAppearance → List ℕ → TextPlace → TextPlace
place_behind look [] place = place
place_behind look (code ∷ codes) place = place_behind look codes (behind look code place)

abbrev pub page_behind_all : TextAppearance → TextPlace → List ℕ → Page → Page
page_behind_all look place [] page = page
page_behind_all look place (code ∷ codes) page =
    page_behind_all look (behind look code place) codes (page_behind look place code page)

-- how many of the bytes make a mark
abbrev pub glyph_count : List ℕ → ℕ
glyph_count [] = 0
glyph_count (code ∷ codes) = cond (is_blank code) 0 1 + glyph_count codes

-- the cursor of a page stands at a place
abbrev pub StandsAt : Page → TextPlace → Type 0
StandsAt page place = page.cursor ≡ record { x = place.x; y = Some place.y }

-- the bytes go from where the cursor stands, and lead so far, with so many characters
pub record GoAs (printer : Printer) (page : Page) (look : TextAppearance) (from : TextPlace) (bytes : List ℕ)
    (lines : TextLines) : Type 0 where
  pub stands : StandsAt page from
  pub go : AllGo printer look from page bytes
  pub end : lines.end ≡ place_behind look bytes from
  pub glyphs : lines.glyphs ≡ glyph_count bytes

-- how many of the bytes are no spaces
abbrev pub inked_count : List ℕ → ℕ
inked_count [] = 0
inked_count (code ∷ codes) = cond (code == 32) 0 1 + inked_count codes

-- bytes of text that can go in a face with these codes
abbrev pub CanGoIn : List CodeRange → List ℕ → Type 0
CanGoIn ranges codes = AllByRecursion (λ code. is_text_of ranges code ≡ true) codes
