-- What sequences without a group there are: an introducer, a number and a termination character.
use Rattle.std.specs.Prelude.{ℕ, ◌==◌, ◌&&◌, ◌||◌, nat_le, not, Bool, true, false, Option, None, Some, if◌then◌else◌}
use Rattle.pcl_items.specs.declared.number.Sign.{Sign}
use Rattle.pcl_items.specs.declared.number.Sign.TheVariants.{Absent, Plus, Minus}
use Rattle.pcl_items.specs.declared.frame.Handover.{Handover}
use Rattle.pcl_items.specs.declared.frame.Handover.TheVariants.{Previous, Current}
use Rattle.pcl_items.specs.Escapes.Value.{Amount, is_whole, whole_part}
use Rattle.pcl_items.specs.Items.{Entry, SymbolSet, DefaultFont, EnterFrame, LeaveFrame}
use Rattle.pcl_items.specs.Escapes.SetLetters.{is_set_letter}

abbrev pub is_minus : Sign → Bool
is_minus Absent = false
is_minus Plus = false
is_minus Minus = true

-- the number 3, which is not negative
abbrev pub is_three : Amount → Bool
is_three amount = (amount.ten_thousandths == 30000) && not (is_minus amount.sign)

-- a number and a letter behind `(`
abbrev pub font_at : Amount → ℕ → Option Entry
font_at amount letter =
    if is_set_letter letter then Some (SymbolSet amount letter)
    else if (letter == 64) && is_three amount then Some DefaultFont else None

-- whose position a number hands over
abbrev pub handover_of : Amount → Option Handover
handover_of amount =
    if amount.ten_thousandths == 0 then Some Previous
    else if (amount.ten_thousandths == 10000) && not (is_minus amount.sign) then Some Current else None

abbrev pub leaving : Option Handover → Option Entry
leaving None = None
leaving (Some handover) = Some (LeaveFrame handover)

abbrev pub entering : Option Handover → Option Entry
entering None = None
entering (Some handover) = Some (EnterFrame handover)

-- a number and a letter behind `%`: in a frame, and in mode PCL
abbrev pub leave_at : Amount → ℕ → Option Entry
leave_at amount letter = if letter == 65 then leaving (handover_of amount) else None

abbrev pub language_at : Amount → ℕ → Option Entry
language_at amount letter = if letter == 66 then entering (handover_of amount) else leave_at amount letter

-- the item of an introducer, a number and a termination character
abbrev pub ungrouped_at : ℕ → Amount → ℕ → Option Entry
ungrouped_at introducer amount letter =
    if introducer == 40 then font_at amount letter else if introducer == 37 then language_at amount letter else None

-- how many bytes of data the number counts, unless it is not whole, negative or too large
abbrev pub count_of : Amount → Option ℕ
count_of amount =
    if is_whole amount
    && (nat_le amount.ten_thousandths 327670000 && (not (is_minus amount.sign) || (amount.ten_thousandths == 0)))
    then Some (whole_part amount)
    else None
