-- A sentence is short, and has no control code before its end.
use Rattle.std.proofs.Common.{ℕ, ◌+◌, ◌-◌, ◌^◌, ◌==◌, ◌<◌, ◌≤◌, List, [], ◌∷◌, ◌++◌, length, codes, refl, arith, get_or, Option, None, Some}
use Rattle.std.proofs.Common.{ℤ, pos, negsuc, suc, ◌/◌, ◌%◌, unsigned_abs, Bool, Result, Ok, Err}
use Rattle.std.specs.Prelude.{IfOk, decimal, flat_map}
use Rattle.std.specs.Fmt.{signed_decimal}
use Rattle.std.specs.List.{AllByRecursion}
use Rattle.std.proofs.lemmas.List.{length-append}
use Rattle.pcl_items.specs.declared.pcl.command.DataCommand.{DataCommand}
use Rattle.pcl_items.specs.declared.pcl.command.DataCommand.TheVariants.{TransparentText, RasterRow}
use Rattle.pcl_items.specs.declared.fault.LexCause.{LexCause}
use Rattle.pcl_items.specs.declared.fault.LexCause.TheVariants.{Syntax, Truncated, NotInProfile, BadNumber, Pjl, EndInFrame}
use Rattle.pcl_items.specs.declared.fault.Name.{Name}
use Rattle.pcl_items.specs.declared.fault.Name.TheVariants as fault_names
use Rattle.pcl_items.specs.declared.number.Number.{Number}
use Rattle.pcl_items.specs.declared.number.Sign.{Sign}
use Rattle.pcl_items.specs.declared.number.Sign.TheVariants.{Absent, Plus, Minus}
use Rattle.pcl_items.specs.declared.item.SimpleItem.{SimpleItem}
use Rattle.pcl_items.specs.declared.item.SimpleItem.TheVariants as simple
use Rattle.pcl_items.specs.Spellings.Canon.{amount_text, canon}
use Rattle.pcl_items.specs.Escapes.Commands.{character_of, introducer_of, letter_of}
use Rattle.pcl_items.specs.Items.{amount, simple_view}
use Rattle.pcl_items.specs.Escapes.ValueField.{sign_text}
use Rattle.pcl_spelling.proofs.Spellings.Canonical.{setting_spelled}
use Rattle.pcl_spelling.proofs.Frames.Canonical.{coordinate_spelled}
use Rattle.device_profile.specs.declared.field.Field.{Field}
use Rattle.device_profile.specs.declared.field.Field.TheVariants.{Size}
use Rattle.device_profile.specs.declared.font.FontRequest.{FontRequest}
use Rattle.page_env.specs.declared.finding.Finding.{Finding}
use Rattle.page_env.specs.declared.finding.Finding.TheVariants.{BadValue, NoFont, NoGlyph, Unset}
use Rattle.page_env.specs.Order.{number_of}
use Rattle.verdict.specs.declared.reason.Reason.{Reason}
use Rattle.verdict.specs.declared.reason.Reason.TheVariants.{Fault, Finding as Found, Differs, Unpinnable}
use Rattle.verdict.specs.declared.verdict.Verdict.{Verdict}
use Rattle.verdict.specs.declared.verdict.Verdict.TheVariants.{Pass, Fail}
use Rattle.verdict.specs.Numbers.{cause_number, reason_number}
use Rattle.line_words.specs.Figures.{escaped_byte, named}
use Rattle.device_profile.specs.Field.{field_name}
use Rattle.line_words.specs.Reason.{bare_cause_name, bare_finding_name, bare_name, brackets, name_words, reason_words, short_cause}
use Rattle.line_words.specs.Reason.{short_finding, short_reason, named_byte}
use Rattle.shown_bytes.specs.Decimals.{amount as shown_amount, digit, magnitude_text, minus, with_hundredths}
use Rattle.shown_bytes.specs.Lengths.{millimetres, signed_hundredths}
use Rattle.shown_bytes.specs.Lettered.{lettered}
use Rattle.shown_bytes.specs.Shown.{shown, shown_byte, shown_text}
use Rattle.judgement.specs.declared.failing_item.FailingItem.{FailingItem}
use Rattle.judgement.specs.declared.failing_item.FailingItem.TheVariants.{Text, Simple, WithData, Line}
use Rattle.judgement.specs.declared.failing_item.Judgement.{Judgement}
use Rattle.judgement.specs.declared.failing_item.MissingFont.{MissingFont}
use Rattle.judgement.specs.declared.failing_item.SheetSpot.{SheetSpot}
use Rattle.streams.specs.declared.error.Error.{Error}
use Rattle.streams.specs.declared.error.Error.TheVariants.{Memory, Read, Write, Turns, NoProfile, Items}
use Rattle.job_reports.specs.CommandWords.{code_words, command_words, font_commands, look_words, setting_words, weight_words}
use Rattle.job_reports.specs.JobSentences.{AreNumbers, IsFailingItemOfNumbers, IsOfParts, IsPageOfNumber, IsSentence, IsVerdictOfNumbers}
use Rattle.job_reports.specs.JobSentences.{IsFaceOfNumbers, IsFontOfNumbers, IsRequestOfNumbers, font_behind, font_phrase}
use Rattle.job_reports.specs.JobSentences.{IsSpotOfNumbers, IsWithin, left_phrase, on_page, on_sheet, place_phrase}
use Rattle.job_reports.specs.JobSentences.{answer_phrase, at_command, cause_phrase, claim_by, error_phrase, fails_where, few_words}
use Rattle.job_reports.specs.JobSentences.{first_of, for_each, for_printer, is_bad_value, job_claim, job_sentence, last_of, named_first}
use Rattle.job_reports.specs.JobSentences.{lacked, reason_phrase, refusal, subject, top_phrase, verdict_phrase, what_fails}
use Rattle.job_reports.specs.Kinds.{kind_by}
use Rattle.job_reports.specs.LeftOut.{left_out_of, value_words}
use Rattle.job_reports.specs.RefusedNames.{called, refused_name, value_key, value_name}
use Rattle.command_names.specs.CommandNames.{command_name}
use Rattle.command_names.proofs.TableLaws.{name_is_short}
use Rattle.job_reports.specs.declared.kind.Kind.{Kind}
use Rattle.job_reports.specs.declared.kind.Kind.TheVariants as kinds
use Rattle.job_reports.specs.declared.left_out.LeftOut.{LeftOut}
use Rattle.job_reports.specs.declared.left_out.LeftOut.TheVariants as left_outs
use Rattle.job_reports.specs.Reports.{Reported, failing_item_of, cursor_of, font_of, number_told, page_of, verdict_told}
use Rattle.requests.specs.Status.{error_words}
use Rattle.job_reports.proofs.Within.{amount_part, lettered_part, minus_part}
use Rattle.job_reports.proofs.Within.{code_part, decimal_part, escaped_part, first_part, flat_part, joined, last_part, literal, name_at}
use Rattle.job_reports.proofs.Within.{name_shown, named_part, nothing, one_of, short_decimal_part, shown_byte_part, shown_part, wider}

-- ---- the item that a job fails at

sign_short : (sign : Sign) → length (sign_text sign) ≤ 1
sign_short Absent = omega arith
sign_short Plus = omega arith
sign_short Minus = omega arith

number_short : (number : Number) → length (amount_text (amount number)) ≤ 17
number_short number =
    omega (
      arith,
      length-append (sign_text number.sign) (magnitude_text number.ten_thousandths),
      sign_short number.sign,
      (setting_spelled number.ten_thousandths number.within).field.short,
    )

simple_short : (item : SimpleItem) → length (canon (simple_view item)) ≤ 36
simple_short simple.CarriageReturn = omega arith
simple_short simple.LineFeed = omega arith
simple_short simple.FormFeed = omega arith
simple_short simple.Reset = omega arith
simple_short simple.ClearMargins = omega arith
simple_short simple.HalfLineFeed = omega arith
simple_short (simple.Parameterized command number) =
    let text : List ℕ = amount_text (amount number) in
    omega (arith, length-append text (letter_of command ∷ []), number_short number)
simple_short (simple.SymbolSet letter number) =
    let text : List ℕ = amount_text (amount number) in
    omega (arith, length-append text (letter.code ∷ []), number_short number)
simple_short simple.DefaultFont = omega arith
simple_short (simple.EnterFrame handover) = omega arith
simple_short (simple.LeaveFrame handover) = omega arith
simple_short simple.Initialize = omega arith
simple_short (simple.Set setting magnitude) =
    let text : List ℕ = magnitude_text magnitude.ten_thousandths in
    omega (arith, length-append text (59 ∷ []), (setting_spelled magnitude.ten_thousandths magnitude.within).field.short)
simple_short (simple.Move motion None) = omega arith
simple_short (simple.Move motion (Some to)) =
    let x : List ℕ = signed_decimal to.x.units in
    let y : List ℕ = signed_decimal to.y.units in
    omega (
      arith,
      length-append x (44 ∷ y),
      length-append (x ++ 44 ∷ y) (59 ∷ []),
      (coordinate_spelled to.x.units to.x.within).numeral.short,
      (coordinate_spelled to.y.units to.y.within).numeral.short,
    )
simple_short simple.ExitLanguage = omega arith

simple_part : (item : SimpleItem) → IsWithin 144 (flat_map code_words (canon (simple_view item)))
simple_part item =
    let text : List ℕ = canon (simple_view item) in
    wider 144 (flat_map code_words text) (omega (arith, simple_short item)) (flat_part code_words code_part text)

counting_part : (command : DataCommand) (count : ℕ) → count < 2 ^ 64 → IsWithin 144 (command_words (WithData command count))
counting_part TransparentText count h =
    wider 144 _ (omega arith)
    (joined (codes "ESC &p") _ (literal 6 _ refl refl) (joined (decimal count) (88 ∷ []) (decimal_part count h) (literal 1 _ refl refl)))
counting_part RasterRow count h =
    wider 144 _ (omega arith)
    (joined (codes "ESC *b") _ (literal 6 _ refl refl) (joined (decimal count) (87 ∷ []) (decimal_part count h) (literal 1 _ refl refl)))

command_part : (failing_item : FailingItem) → IsFailingItemOfNumbers (Some failing_item) → IsWithin 144 (command_words failing_item)
command_part (Text code) h =
    wider 144 _ (omega arith) (joined (codes "character ") (escaped_byte code) (literal 10 _ refl refl) (escaped_part code))
command_part (Simple item) h = simple_part item
command_part (WithData command count) h = counting_part command count h
command_part Line h = literal 144 _ refl refl

at_part : (failing_item : Option FailingItem) → IsFailingItemOfNumbers failing_item → IsWithin 146 (at_command failing_item)
at_part None h = nothing 146
at_part (Some failing_item) h = joined (codes ", ") (command_words failing_item) (literal 2 _ refl refl) (command_part failing_item h)

-- ---- the name of what is not checked

by_key : (key : List ℕ) → IsWithin 60 (command_name key)
by_key key = record { short = (name_is_short key).short; shown = (name_is_short key).shown }

value_name_part : (value : Option (List ℕ)) → IsWithin 60 (value_name value)
value_name_part None = nothing 60
value_name_part (Some key) = by_key key

called_part : (name : List ℕ) → IsWithin 60 name → IsWithin 62 (called name)
called_part name h =
    one_of 62 (length name == 0) [] (codes ", " ++ name) (λ e. nothing 62) (joined (codes ", ") name (literal 2 _ refl refl) h)

on_page_part : (page : Option ℕ) → IsPageOfNumber page → IsWithin 29 (on_page page)
on_page_part None h = nothing 29
on_page_part (Some page) h = named_part 9 (codes " on page ") page refl refl h

-- a number of so many hundredths
hundredths_part : (n : ℕ) → n ≤ 10 ^ 12 → IsWithin 16 (with_hundredths n)
hundredths_part n h =
    joined (decimal (n / 100)) _ (short_decimal_part 13 (n / 100) (omega arith) (omega (arith, h)) (omega (arith, h)))
    (one_of 3 (n % 100 == 0) [] (46 ∷ digit (n / 10) ∷ digit n ∷ []) (λ e. nothing 3) (
    record {
      short = omega arith;
      shown = (omega arith, (omega arith, (omega arith, tt)));
    }
    ))

signed_part : (n : ℤ) → unsigned_abs n ≤ 10 ^ 12 → IsWithin 17 (signed_hundredths n)
unfolding signed_hundredths
signed_part (pos n) h = wider 17 _ (omega arith) (hundredths_part n h)
signed_part (negsuc n) h = joined (45 ∷ []) _ (literal 1 _ refl refl) (hundredths_part (suc n) h)

-- a length of 64 bits
millimetres_part : (ticks : ℤ) → unsigned_abs ticks ≤ 2 ^ 63 → IsWithin 17 (millimetres ticks)
unfolding millimetres
millimetres_part (pos n) h = signed_part (pos (n / 14_400_000)) (omega (arith, h))
millimetres_part (negsuc n) h = signed_part (negsuc (n / 14_400_000)) (omega (arith, h))

left_part : (x : ℤ) → unsigned_abs x ≤ 2 ^ 63 → IsWithin 36 (left_phrase x)
unfolding left_phrase
left_part x h =
    joined (codes ", " ++ millimetres x) (codes " mm from the left")
    (joined (codes ", ") (millimetres x) (literal 2 _ refl refl) (millimetres_part x h)) (literal 17 _ refl refl)

top_part : (y : ℤ) → unsigned_abs y ≤ 2 ^ 63 → IsWithin 38 (top_phrase y)
unfolding top_phrase
top_part y h =
    joined (codes " and " ++ millimetres y) (codes " mm from the top")
    (joined (codes " and ") (millimetres y) (literal 5 _ refl refl) (millimetres_part y h)) (literal 16 _ refl refl)

on_sheet_part : (cursor : Option SheetSpot) → IsSpotOfNumbers cursor → IsWithin 74 (on_sheet cursor)
on_sheet_part None h = nothing 74
on_sheet_part (Some spot) h = joined (left_phrase spot.x) (top_phrase spot.y) (left_part spot.x h.0) (top_part spot.y h.1)

place_part : (place : ℕ) (page : Option ℕ) (cursor : Option SheetSpot) → place < 2 ^ 64 → IsPageOfNumber page → IsSpotOfNumbers cursor →
    IsWithin 132 (place_phrase place page cursor)
place_part place page cursor h k s =
    let front : List ℕ = named (codes " at byte ") place in
    joined (front ++ on_page page) (on_sheet cursor)
    (joined front (on_page page) (named_part 9 (codes " at byte ") place refl refl h) (on_page_part page k)) (on_sheet_part cursor s)

-- ---- the commands that ask for a font

-- a number of so many ten-thousandths between two texts
amount_behind : {most : ℕ} (front : List ℕ) (n : ℕ) (back : List ℕ) → IsWithin most front → n < 2 ^ 32 → IsWithin 1 back →
    IsWithin (most + 12) (front ++ shown_amount n ++ back)
amount_behind front n back f h k =
    wider _ _ (omega arith) (joined (front ++ shown_amount n) back (joined front (shown_amount n) f (amount_part n h)) k)

setting_part : (font : FontRequest) → IsRequestOfNumbers font → IsWithin 36 (setting_words font)
unfolding setting_words
setting_part font h =
    let spacing : List ℕ = shown_amount font.spacing ++ codes "p" in
    let pitch : List ℕ = spacing ++ shown_amount font.pitch ++ codes "h" in
    amount_behind pitch font.height (codes "v")
    (amount_behind spacing font.pitch (codes "h")
    (joined (shown_amount font.spacing) (codes "p") (amount_part font.spacing h.spacing) (literal 1 _ refl refl)) h.pitch
    (literal 1 _ refl refl))
    h.height (literal 1 _ refl refl)

weight_part : (weight : ℤ) → unsigned_abs weight < 2 ^ 32 → IsWithin 13 (weight_words weight)
unfolding weight_words
weight_part weight h = amount_behind (minus weight) (unsigned_abs weight) (codes "b") (minus_part weight) h (literal 1 _ refl refl)

look_part : (font : FontRequest) → IsRequestOfNumbers font → IsWithin 37 (look_words font)
unfolding look_words
look_part font h =
    let style : List ℕ = shown_amount font.style ++ codes "s" in
    amount_behind (style ++ weight_words font.weight) font.typeface (codes "T")
    (joined style (weight_words font.weight)
    (joined (shown_amount font.style) (codes "s") (amount_part font.style h.style) (literal 1 _ refl refl))
    (weight_part font.weight h.weight))
    h.typeface (literal 1 _ refl refl)

font_commands_part : (font : FontRequest) → IsRequestOfNumbers font → IsWithin 97 (font_commands font)
unfolding font_commands
font_commands_part font h =
    let set : List ℕ = codes "ESC (" ++ lettered font.symbol_set.number font.symbol_set.letter in
    joined (set ++ codes " ESC (s" ++ setting_words font) (look_words font)
    (joined (set ++ codes " ESC (s") (setting_words font)
    (joined set (codes " ESC (s")
    (joined (codes "ESC (") (lettered font.symbol_set.number font.symbol_set.letter) (literal 5 _ refl refl)
    (lettered_part font.symbol_set.number font.symbol_set.letter h.number h.letter))
    (literal 7 _ refl refl))
    (setting_part font h))
    (look_part font h)

font_behind_part : (most : ℕ) (words : List ℕ) (font : Option FontRequest) → IsWithin most words → IsFaceOfNumbers font →
    IsWithin (most + 97) (font_behind words font)
font_behind_part most words None w h = nothing (most + 97)
font_behind_part most words (Some font) w h = joined words (font_commands font) w (font_commands_part font h)

font_part : (font : Option MissingFont) → IsFontOfNumbers font → IsWithin 213 (font_phrase font)
font_part None h = nothing 213
font_part (Some font) h =
    joined (font_behind (codes ", ") (Some font.asked)) (font_behind (codes "; the nearest is ") font.nearest)
    (font_behind_part 2 (codes ", ") (Some font.asked) (literal 2 _ refl refl) h.0)
    (font_behind_part 17 (codes "; the nearest is ") font.nearest (literal 17 _ refl refl) h.1)

-- ---- what is wrong

short_cause_part : (cause : LexCause) → IsWithin 80 (short_cause cause)
short_cause_part Syntax = literal 80 _ refl refl
short_cause_part Truncated = literal 80 _ refl refl
short_cause_part (NotInProfile name) = literal 80 _ refl refl
short_cause_part BadNumber = literal 80 _ refl refl
short_cause_part Pjl = literal 80 _ refl refl
short_cause_part EndInFrame = literal 80 _ refl refl

short_finding_part : (finding : Finding) → IsWithin 80 (short_finding finding)
short_finding_part BadValue = literal 80 _ refl refl
short_finding_part _ = literal 80 _ refl refl

short_part : (reason : Reason) → IsWithin 80 (short_reason reason)
short_part (Fault cause) = short_cause_part cause
short_part (Found finding) = short_finding_part finding
short_part Differs = literal 80 _ refl refl
short_part Unpinnable = literal 80 _ refl refl

cause_name_part : (cause : LexCause) → IsWithin 20 (bare_cause_name cause)
cause_name_part Syntax = literal 20 _ refl refl
cause_name_part Truncated = literal 20 _ refl refl
cause_name_part (NotInProfile name) = literal 20 _ refl refl
cause_name_part BadNumber = literal 20 _ refl refl
cause_name_part Pjl = literal 20 _ refl refl
cause_name_part EndInFrame = literal 20 _ refl refl

finding_name_part : (finding : Finding) → IsWithin 20 (bare_finding_name finding)
finding_name_part BadValue = literal 20 _ refl refl
finding_name_part _ = literal 20 _ refl refl

bare_part : (reason : Reason) → IsWithin 20 (bare_name reason)
bare_part (Fault cause) = cause_name_part cause
bare_part (Found finding) = finding_name_part finding
bare_part Differs = literal 20 _ refl refl
bare_part Unpinnable = literal 20 _ refl refl

name_words_part : (name : Name) → IsWithin 9 (name_words name)
name_words_part (fault_names.Byte b) = wider 9 _ (omega arith) (shown_part b)
name_words_part (fault_names.Pair a b) = wider 9 _ (omega arith) (joined (named_byte a) (named_byte b) (shown_part a) (shown_part b))
name_words_part (fault_names.Command group letter) =
    joined (named_byte (introducer_of group) ++ named_byte (character_of group)) (named_byte letter)
    (joined (named_byte (introducer_of group)) (named_byte (character_of group)) (shown_part (introducer_of group))
    (shown_part (character_of group)))
    (shown_part letter)

field_part : (field : Field) → IsWithin 11 (field_name field)
field_part Size = literal 11 _ refl refl
field_part _ = literal 11 _ refl refl

in_brackets : (n : ℕ) (text : List ℕ) → IsWithin n text → n ≤ 11 → IsWithin 13 (codes "(" ++ text ++ codes ")")
in_brackets n text h l =
    wider 13 _ (omega (arith, l))
    (joined (codes "(" ++ text) (codes ")") (joined (codes "(") text (literal 1 _ refl refl) h) (literal 1 _ refl refl))

brackets_part : (reason : Reason) → IsWithin 13 (brackets reason)
brackets_part (Fault (NotInProfile name)) = in_brackets 9 (name_words name) (name_words_part name) (omega arith)
brackets_part (Found (Unset field)) = in_brackets 11 (field_name field) (field_part field) (omega arith)
brackets_part _ = nothing 13

finding_number : (finding : Finding) → number_of finding < 100
finding_number BadValue = omega arith
finding_number _ = omega arith

cause_number_small : (cause : LexCause) → cause_number cause < 100
cause_number_small Syntax = omega arith
cause_number_small _ = omega arith

number_small : (reason : Reason) → reason_number reason < 100
number_small (Fault cause) = cause_number_small cause
number_small (Found finding) = finding_number finding
number_small Differs = omega arith
number_small Unpinnable = omega arith

reason_part : {name field : ℕ} (reason : Reason) → IsWithin name (bare_name reason) → IsWithin field (brackets reason) →
    IsWithin (3 + (name + field)) (reason_words reason)
reason_part reason n k =
    let number : List ℕ = decimal (reason_number reason) in
    let small : reason_number reason < 100 = number_small reason in
    joined (number ++ codes " ") _
    (joined number (codes " ") (short_decimal_part 2 (reason_number reason) (omega arith) (omega (arith, small)) (omega (arith, small)))
    (literal 1 _ refl refl))
    (joined (bare_name reason) (brackets reason) n k)

value_part : (left_out : Option LeftOut) → IsWithin 62 (value_words left_out)
value_part None = literal 62 _ refl refl
value_part (Some left_outs.Decimals) = literal 62 _ refl refl
value_part (Some left_outs.Proportional) = literal 62 _ refl refl
value_part (Some left_outs.Compression) = literal 62 _ refl refl
value_part (Some left_outs.Resolution) = literal 62 _ refl refl
value_part (Some left_outs.Scaling) = literal 62 _ refl refl
value_part (Some left_outs.Pattern) = literal 62 _ refl refl
value_part (Some left_outs.Permanent) = literal 62 _ refl refl
value_part (Some left_outs.Pen) = literal 62 _ refl refl
value_part (Some left_outs.ThinLine) = literal 62 _ refl refl
value_part (Some left_outs.InMacro) = literal 62 _ refl refl

few_words_part : (left_out : Option LeftOut) (reason : Reason) → IsWithin 80 (few_words left_out reason)
few_words_part left_out reason =
    one_of 80 (is_bad_value reason) (value_words left_out) (short_reason reason)
    (λ e. wider 80 _ (omega arith) (value_part left_out)) (short_part reason)

lacked_part : (font : Option MissingFont) → IsFontOfNumbers font → (reason : Reason) → IsWithin 213 (lacked font reason)
lacked_part font h (Found NoFont) = font_part font h
lacked_part font h (Found (NoGlyph code)) =
    wider 213 _ (omega arith) (joined (codes " ") (escaped_byte code) (literal 1 _ refl refl) (escaped_part code))
lacked_part font h _ = nothing 213

-- of parts that are so long
phrase_part : {few more name field : ℕ} (left_out : Option LeftOut) (font : Option MissingFont) (reason : Reason) →
    IsWithin few (few_words left_out reason) → IsWithin more (lacked font reason) → IsWithin name (bare_name reason) →
    IsWithin field (brackets reason) → IsWithin (few + more + name + field + 8) (reason_phrase left_out font reason)
phrase_part left_out font reason f l n k =
    let words : List ℕ = codes ": " ++ few_words left_out reason in
    let front : List ℕ = words ++ lacked font reason in
    wider _ _ (omega arith)
    (joined ((front ++ codes " (") ++ reason_words reason) (codes ")")
    (joined (front ++ codes " (") (reason_words reason)
    (joined front (codes " (")
    (joined words (lacked font reason) (joined (codes ": ") (few_words left_out reason) (literal 2 _ refl refl) f) l)
    (literal 2 _ refl refl))
    (reason_part reason n k))
    (literal 1 _ refl refl))

reason_phrase_part : (left_out : Option LeftOut) (font : Option MissingFont) → IsFontOfNumbers font → (reason : Reason) →
    IsWithin 334 (reason_phrase left_out font reason)
reason_phrase_part left_out font h reason =
    phrase_part left_out font reason (few_words_part left_out reason) (lacked_part font h reason) (bare_part reason)
    (brackets_part reason)

unchecked_phrase_part : (left_out : Option LeftOut) (font : Option MissingFont) (name : Name) →
    IsWithin 77 (reason_phrase left_out font (Fault (NotInProfile name)))
unchecked_phrase_part left_out font name =
    let reason : Reason = Fault (NotInProfile name) in
    phrase_part left_out font reason (literal 44 _ refl refl) (nothing 0) (literal 12 _ refl refl) (brackets_part reason)

value_phrase_part : (left_out : Option LeftOut) (font : Option MissingFont) →
    IsWithin 78 (reason_phrase left_out font (Found BadValue))
value_phrase_part left_out font =
    phrase_part left_out font (Found BadValue) (value_part left_out) (nothing 0) (literal 8 _ refl refl) (nothing 0)

-- ---- what fails, and why

module _ (front : List ℕ) (font : Option MissingFont) (failing_item : Option FailingItem) (f : IsWithin 132 front)
    (asked : IsFontOfNumbers font) (h : IsFailingItemOfNumbers failing_item) where
  abbrev failure : Reason → List ℕ
  failure reason =
      front ++ what_fails (at_command failing_item) (value_key failing_item) reason
      ++ reason_phrase (left_out_of failing_item) font reason

  -- behind a name that is so long a reason that is so long
  named_failure : {m n : ℕ} (reason : Reason) → m + n ≤ 334 → IsWithin m (called (refused_name (value_key failing_item) reason)) →
      IsWithin n (reason_phrase (left_out_of failing_item) font reason) → IsWithin 612 (failure reason)
  named_failure reason l k w =
      let name : List ℕ = called (refused_name (value_key failing_item) reason) in
      let what : List ℕ = at_command failing_item ++ name in
      wider 612 _ (omega (arith, l))
      (joined (front ++ what) (reason_phrase (left_out_of failing_item) font reason)
      (joined front what f (joined (at_command failing_item) name (at_part failing_item h) k)) w)

  -- a name stands before short reasons alone
  failure_part : (reason : Reason) → IsWithin 612 (failure reason)
  failure_part (Fault (NotInProfile name)) =
      named_failure (Fault (NotInProfile name)) (omega arith) (called_part (command_name (name_words name)) (by_key (name_words name)))
      (unchecked_phrase_part (left_out_of failing_item) font name)
  failure_part (Found BadValue) =
      named_failure (Found BadValue) (omega arith) (called_part (value_name (value_key failing_item))
      (value_name_part (value_key failing_item)))
      (value_phrase_part (left_out_of failing_item) font)
  failure_part reason =
      named_failure reason (omega arith) (nothing 0) (reason_phrase_part (left_out_of failing_item) font asked reason)

-- ---- the answer

verdict_part : (page : Option ℕ) (cursor : Option SheetSpot) (font : Option MissingFont) (failing_item : Option FailingItem)
    (verdict : Verdict) → IsPageOfNumber page → IsSpotOfNumbers cursor → IsFontOfNumbers font →
    IsFailingItemOfNumbers failing_item → IsVerdictOfNumbers verdict →
    IsWithin 612 (verdict_phrase (fails_where page cursor font failing_item) verdict)
verdict_part page cursor font failing_item (Pass pages marks) p s asked h k =
    let front : List ℕ = named (codes " (pages=") pages in
    let back : List ℕ = named (codes " marks=") marks in
    wider 612 _ (omega arith)
    (joined (front ++ back) (codes ")")
    (joined front back (named_part 8 (codes " (pages=") pages refl refl k.0)
    (named_part 7 (codes " marks=") marks refl refl k.1))
    (literal 1 _ refl refl))
verdict_part page cursor font failing_item (Fail place profile reason) p s asked h k =
    failure_part (place_phrase place page cursor) font failing_item (place_part place page cursor k p s) asked h reason

subject_part : (names : List (List ℕ)) (number : ℕ) → AllByRecursion (IsWithin 32) names → IsWithin 32 (subject names number)
subject_part names number h =
    one_of 32 (number == 0) (codes "each printer") (get_or names (number - 1) []) (λ e. literal 32 _ refl refl)
    (name_at names (number - 1) h)

for_each_part : (is_each : Bool) (names : List (List ℕ)) → AllByRecursion (IsWithin 32) names → IsWithin 37 (for_each is_each names)
for_each_part is_each names h =
    one_of 37 is_each (codes " for " ++ get_or names 0 []) []
    (λ e. joined (codes " for ") (get_or names 0 []) (literal 5 _ refl refl) (name_at names 0 h)) (nothing 37)

module _ (who each : List ℕ) (h : IsWithin 32 who) (k : IsWithin 37 each) where
  refused : IsWithin 67 (who ++ codes " refuses this job")
  refused = wider 67 _ (omega arith) (joined who (codes " refuses this job") h (literal 17 _ refl refl))

  refusal_part : (kind : Kind) → IsWithin 67 (refusal kind who each)
  refusal_part kinds.Unchecked = joined (codes "pclcheck cannot judge this job") each (literal 30 _ refl refl) k
  refusal_part kinds.Wrong = wider 67 _ (omega arith) (joined (codes "this job is wrong") each (literal 17 _ refl refl) k)
  refusal_part kinds.Printer = refused
  refusal_part kinds.Panel = refused
  refusal_part kinds.Differs = refused

  claim_part : (left_out : Option LeftOut) (answer : Result Verdict Error) → IsWithin 67 (claim_by who each left_out answer)
  claim_part left_out (Ok (Pass pages marks)) =
      wider 67 _ (omega arith) (joined who (codes " prints this job") h (literal 16 _ refl refl))
  claim_part left_out (Ok (Fail place profile reason)) = refusal_part (kind_by left_out reason)
  claim_part left_out (Err error) = nothing 67

error_part : (error : Error) → IsWithin 40 (error_phrase error)
error_part Memory = literal 40 _ refl refl
error_part Read = literal 40 _ refl refl
error_part Write = literal 40 _ refl refl
error_part Turns = literal 40 _ refl refl
error_part NoProfile = literal 40 _ refl refl
error_part Items = literal 40 _ refl refl

error_words_part : (error : Error) → IsWithin 20 (error_words error)
error_words_part Memory = literal 20 _ refl refl
error_words_part Read = literal 20 _ refl refl
error_words_part Write = literal 20 _ refl refl
error_words_part Turns = literal 20 _ refl refl
error_words_part NoProfile = literal 20 _ refl refl
error_words_part Items = literal 20 _ refl refl

for_part : (names : List (List ℕ)) (number : ℕ) → AllByRecursion (IsWithin 32) names → IsWithin 37 (for_printer names number)
for_part names number h =
    one_of 37 (number == 0) [] (codes " for " ++ get_or names (number - 1) []) (λ e. nothing 37)
    (joined (codes " for ") _ (literal 5 _ refl refl) (name_at names (number - 1) h))

cause_part : (cause : Option (List ℕ)) → IsWithin 205 (cause_phrase cause)
cause_part None = nothing 205
cause_part (Some words) =
    joined (codes ": ") (first_of 200 (shown words)) (literal 2 _ refl refl)
    (first_part 200 (shown words) (flat_part shown_byte shown_byte_part words).shown)

answer_part : (report : Reported) (answer : Result Verdict Error) → AllByRecursion (IsWithin 32) report.names →
    IsPageOfNumber (page_of report.answer) → IsSpotOfNumbers (cursor_of report.answer) → IsFontOfNumbers (font_of report.answer) →
    IsFailingItemOfNumbers (failing_item_of report.answer) → IfOk answer IsVerdictOfNumbers → IsWithin 679 (answer_phrase report answer)
answer_part report (Ok verdict) h p s asked k l =
    joined (job_claim report)
    (verdict_phrase
    (fails_where (page_of report.answer) (cursor_of report.answer) (font_of report.answer) (failing_item_of report.answer)) verdict)
    (claim_part (subject report.names (number_told report.is_each (verdict_told report.answer))) (for_each report.is_each report.names)
    (subject_part report.names _ h) (for_each_part report.is_each report.names h) (left_out_of (failing_item_of report.answer))
    (verdict_told report.answer))
    (verdict_part (page_of report.answer) (cursor_of report.answer) (font_of report.answer) (failing_item_of report.answer) verdict p s
    asked k l)
answer_part report (Err error) h p s asked k l =
    let front : List ℕ = error_phrase error ++ for_printer report.names (number_told report.is_each (Err error)) in
    wider 679 _ (omega arith)
    (joined (((front ++ cause_phrase report.cause) ++ codes " (") ++ error_words error) (codes ")")
    (joined ((front ++ cause_phrase report.cause) ++ codes " (") (error_words error)
    (joined (front ++ cause_phrase report.cause) (codes " (")
    (joined front (cause_phrase report.cause) (joined (error_phrase error) _ (error_part error) (for_part report.names _ h))
    (cause_part report.cause))
    (literal 2 _ refl refl)) (error_words_part error)) (literal 1 _ refl refl))

-- ---- the sentence

failing_item_numbers : (answer : Result Judgement Error) → IfOk answer AreNumbers → IsFailingItemOfNumbers (failing_item_of answer)
failing_item_numbers (Ok judgement) h = h.1
failing_item_numbers (Err error) h = tt

page_number : (answer : Result Judgement Error) → IfOk answer AreNumbers → IsPageOfNumber (page_of answer)
page_number (Ok judgement) h = h.2
page_number (Err error) h = tt

spot_numbers : (answer : Result Judgement Error) → IfOk answer AreNumbers → IsSpotOfNumbers (cursor_of answer)
spot_numbers (Ok judgement) h = h.3
spot_numbers (Err error) h = tt

font_numbers : (answer : Result Judgement Error) → IfOk answer AreNumbers → IsFontOfNumbers (font_of answer)
font_numbers (Ok judgement) h = h.4
font_numbers (Err error) h = tt

verdict_numbers : (answer : Result Judgement Error) → IfOk answer AreNumbers → IfOk (verdict_told answer) IsVerdictOfNumbers
verdict_numbers (Ok judgement) h = h.0
verdict_numbers (Err error) h = tt

named_first_part : (name : List ℕ) → IsWithin 505 (named_first name)
named_first_part name =
    joined (last_of 500 (shown_text name)) (codes ": ") (last_part 500 (shown_text name) (name_shown name)) (literal 2 _ refl refl)

pub sentence_is_short : (report : Reported) → IsOfParts report → IsSentence (job_sentence report)
sentence_is_short report h =
    let answer : List ℕ = answer_phrase report (verdict_told report.answer) in (
      named_first report.job ++ answer,
      refl,
      wider 1_199 _ (omega arith)
          (joined (named_first report.job) answer (named_first_part report.job)
          (answer_part report (verdict_told report.answer) h.names (page_number report.answer h.numbers)
          (spot_numbers report.answer h.numbers) (font_numbers report.answer h.numbers) (failing_item_numbers report.answer h.numbers)
          (verdict_numbers report.answer h.numbers))),
    )
