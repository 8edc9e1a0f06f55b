-- The marks of two pages in their order, as a diff matches them.
use Rattle.std.specs.Prelude.{ℕ, zero, suc, ◌+◌, nat_le, Bool, true, false, ◌&&◌, List, [], ◌∷◌, ◌++◌, length, drop}
use Rattle.std.specs.Prelude.{take, find, unwrap_or, if◌then◌else◌}
use Rattle.page_comparison.specs.declared.differences.PageDifference.{PageDifference}
use Rattle.page_comparison.specs.declared.setting.Setting.{Setting}
use Rattle.page_comparison.specs.declared.standing.Standing.{Standing}
use Rattle.page_comparison.specs.declared.turn.Turn.{Turn}
use Rattle.page_comparison.specs.Marks.{is_near_mark}
use Rattle.page_comparison.specs.Pages.{MadeMark}
use Rattle.page_comparison.specs.Told.{behind, first_standing, left_out, next_place}

-- ---- where both go on alike

abbrev pub next_near : ℕ → List MadeMark → List MadeMark → Bool
next_near within (a ∷ old) (b ∷ new) = is_near_mark within a b
next_near within _ _ = true

-- the next two marks of both are near, or the next ones where a page has no more; or both are at their ends
abbrev pub go_alike : ℕ → List MadeMark → List MadeMark → Bool
go_alike within [] [] = true
go_alike within (a ∷ old) (b ∷ new) = is_near_mark within a b && next_near within old new
go_alike within _ _ = false

-- there are so many to be left out, and behind them both go on alike
abbrev pub is_resumed : ℕ → List MadeMark → List MadeMark → Turn → Bool
is_resumed within old new turn =
    nat_le turn.old (length old) && nat_le turn.new (length new)
    && go_alike within (drop turn.old old) (drop turn.new new)

-- ---- how many are left out

abbrev pub leaving : (old new : ℕ) → Turn
leaving old new = record { old = old; new = new; same = false }

-- so many of OLD and of NEW, and then always one more of OLD and one less of NEW
abbrev pub splits : (old new : ℕ) → List Turn
splits old zero = leaving old 0 ∷ []
splits old (suc new) = leaving old (suc new) ∷ splits (old + 1) new

-- so many together, with the fewest of OLD first, and then always one more together
unfoldable pub leavings : (together times : ℕ) → List Turn
leavings together zero = []
leavings together (suc times) = splits 0 together ++ leavings (together + 1) times

-- so many of one page alone
abbrev pub run_of : (many : ℕ) → List Turn
run_of many = leaving 0 many ∷ leaving many 0 ∷ []

-- so many of one page alone, and then always one more
unfoldable pub runs : (many times : ℕ) → List Turn
runs many zero = []
runs many (suc times) = run_of many ++ runs (many + 1) times

-- The ways to go on alike, the nearest first: by up to 64 marks that are left out together, and behind these by a
-- longer run of marks, of up to 4,096, that one page alone has.
unfoldable pub ways : List Turn
ways = leavings 1 64 ++ runs 65 4032

-- the nearest way, or else the next two marks are a pair
unfoldable pub nearest : ℕ → List MadeMark → List MadeMark → Turn
nearest within old new = unwrap_or (find (is_resumed within old new) ways) (leaving 1 1)

-- The next turn: near marks are taken for the same, or marks are left out. Where one page has no more, the rest of the
-- other is left out.
abbrev pub turn_of : ℕ → List MadeMark → List MadeMark → Turn
turn_of within [] new = leaving 0 (length new)
turn_of within (a ∷ old) [] = leaving (length (a ∷ old)) 0
turn_of within (a ∷ old) (b ∷ new) =
    if is_near_mark within a b then record { old = 1; new = 1; same = true } else nearest within (a ∷ old) (b ∷ new)

-- ---- all turns

abbrev pub turn_told : Setting → Standing → List MadeMark → List MadeMark → Turn → List PageDifference
turn_told setting at old new turn =
    if turn.same then []
    else left_out setting.within (next_place setting.old_end (drop turn.old old))
    (next_place setting.new_end (drop turn.new new)) at (take turn.old old) (take turn.new new)

-- the differences of the rests of two pages, in so many turns
abbrev pub in_order : Setting → (turns : ℕ) → Standing → List MadeMark → List MadeMark → List PageDifference
in_order setting zero at old new = []
in_order setting (suc turns) at old new =
    let turn = turn_of setting.within old new in
    turn_told setting at old new turn
    ++ in_order setting turns (behind turn.old turn.new at) (drop turn.old old) (drop turn.new new)

-- those of two pages: each turn leaves fewer marks
abbrev pub all_in_order : Setting → List MadeMark → List MadeMark → List PageDifference
all_in_order setting old new =
    in_order setting (length old + length new) (first_standing setting.page) old new
