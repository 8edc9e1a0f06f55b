-- What is begun of a frame and not decided goes on to a fault at once.
use Rattle.std.proofs.Common.{◌≡◌, ℕ, ◌+◌, ◌<◌, ◌≤◌, List, [], ◌∷◌, ◌++◌, length, drop, Bool, true, false, cond, Option, None, Some, refl}
use Rattle.std.proofs.Common.{sym, ap, subst, ◌∙◌, arith}
use Rattle.std.specs.Prelude.{ℤ, ◌==◌, nat_lt}
use Rattle.std.specs.Char.{digit_value}
use Rattle.std.specs.Str.Parse.{AllDigits}
use Rattle.std.proofs.lemmas.Bool.{cond_both, cond-true, cond-false, lt-ltb, le-ltb, ltb-false}
use Rattle.std.proofs.lemmas.List.{append_assoc, append-nil, length-append}
use Rattle.pcl_lexer.specs.declared.frame.Kind.{Kind}
use Rattle.pcl_lexer.specs.declared.frame.Kind.TheVariants as kinds
use Rattle.pcl_items.specs.declared.frame.Motion.{Motion}
use Rattle.pcl_items.specs.declared.frame.Setting.{Setting}
use Rattle.pcl_items.specs.declared.frame.Mnemonic.{Mnemonic}
use Rattle.pcl_items.specs.declared.frame.Mnemonic.TheVariants as mnemonics
use Rattle.pcl_lexer.specs.declared.frame.Gap.{Gap}
use Rattle.pcl_lexer.specs.declared.frame.Gap.TheVariants as gaps
use Rattle.pcl_items.specs.declared.fault.Name.TheVariants as names
use Rattle.pcl_items.specs.declared.fault.LexCause.{LexCause}
use Rattle.pcl_items.specs.declared.fault.LexCause.TheVariants.{Syntax, NotInProfile, BadNumber}
use Rattle.pcl_lexer.specs.Frames.Kinds.{kind_of}
use Rattle.pcl_items.specs.Frames.Mnemonics.{capital, mnemonic_at}
use Rattle.pcl_items.specs.Escapes.Value.{Amount}
use Rattle.pcl_items.specs.Escapes.ValueField.{sign_text, IsShape}
use Rattle.pcl_lexer.specs.Escapes.Field.{Field, field_at, amount_of}
use Rattle.pcl_items.specs.Items.{Entry, Reset, ExitLanguage}
use Rattle.pcl_items.specs.PjlLines.Exit.{exit_field, begins_with}
use Rattle.pcl_lexer.specs.Lexing.Contexts.{Context, Pcl, Sequence, Frame, Letters, Numbered, Pjl, Numbers, Single, Odd, Even}
use Rattle.pcl_lexer.specs.Frames.Number.{coordinate_of, setting_of, Numeral, Cut, Wrong, Read, has_digit, read_or, number_end, numeral_at}
use Rattle.pcl_lexer.specs.Escapes.Ungrouped.{leave_at}
use Rattle.pcl_lexer.specs.Frames.Reader.{by_language, after_language_field, language_in, left_by, in_command, second_letter, after_letter}
use Rattle.pcl_lexer.specs.Frames.Reader.{after_frame_escape, by_kind, at_frame, single, first_of_pair, second_of_pair, first_number}
use Rattle.pcl_lexer.specs.Frames.Reader.{letters_by, after_letters, further, ended_by, ended, with_comma, by_figure, numbers_by}
use Rattle.pcl_lexer.specs.Frames.Reader.{after_numbers}
use Rattle.pcl_lexer.specs.Reader.{First, Open, Passes, Begins, Faulty, is_termination, command_in, exit_or, first_of}
use Rattle.pcl_lexer.specs.Faults.{IsCut, cut}
use Rattle.pcl_lexer.proofs.Escapes.Shapes.{cut_goes_on, cut_shape, shape_len}
use Rattle.pcl_lexer.proofs.Reading.ReadsTo.{same_between}
use Rattle.pcl_lexer.proofs.PjlLines.Exits.{no_more_exit}
use Rattle.pcl_lexer.proofs.PjlLines.Heads.{same_in_pjl}
use Rattle.pcl_lexer.proofs.PjlLines.Opening.{pjl_goes_on}
use Rattle.pcl_lexer.proofs.Lexing.Opening.{on, IsAtEnd, Decided, by_item, by_fault, GoesOn, between_goes_on, sequence_goes_on}

-- a fault other than those of the end
pub record Refuses (f : First) : Type 0 where
  pub cause : LexCause
  pub is : f ≡ Faulty cause
  pub other : IsAtEnd cause → ⊥

refused : (f : First) (cause : LexCause) → f ≡ Faulty cause → (IsAtEnd cause → ⊥) → Refuses f
refused f cause e h = record { cause = cause; is = e; other = h }

-- what the end of all bytes makes of what is open: it ends there
abbrev pub IsEnding : List ℕ → First → Type 0
IsEnding rest Open = Unit {0}
IsEnding rest (Passes len next) = drop len rest ≡ []
IsEnding rest (Begins item len next) = drop len rest ≡ []
IsEnding rest (Faulty cause) = ⊥

-- Bytes with which what is open goes on to a fault at once, though the end of all bytes makes no fault of it; or bytes that
-- make an item of it, outside frames, where the end decides nothing.
pub data Opened (c : Context) (rest : List ℕ) : Type 0 where
  refuses : (more : List ℕ) → Refuses (first_of true c (rest ++ more)) → IsEnding rest (first_of true c rest) → Opened c rest
  completes : (more : List ℕ) (entry : Entry) (len : ℕ) (next : Context) → first_of true c (rest ++ more) ≡ Begins entry len next →
      first_of true c rest ≡ Open → Opened c rest

-- ---- a number of a frame that is cut

-- 17 characters more
abbrev zeros : List ℕ
zeros = 48 ∷ 48 ∷ 48 ∷ 48 ∷ 48 ∷ 48 ∷ 48 ∷ 48 ∷ 48 ∷ 48 ∷ 48 ∷ 48 ∷ 48 ∷ 48 ∷ 48 ∷ 48 ∷ 48 ∷ []

with_zeros : (ds : List ℕ) → AllDigits 10 ds → AllDigits 10 (ds ++ zeros)
with_zeros [] h =
    let d : digit_value 48 < 10 = omega arith in (d, (d, (d, (d, (d, (d, (d, (d, (d, (d, (d, (d, (d, (d, (d, (d, (d, tt)))))))))))))))))
with_zeros (d ∷ ds) h = (h.0, with_zeros ds h.1)

read_or_cut : {A : Type 0} (o : Option A) (len : ℕ) → read_or (Wrong BadNumber) o len ≡ Cut → ⊥
read_or_cut None len e = absurd cc
read_or_cut (Some x) len e = absurd cc

digit_cut : {A : Type 0} (digit : Bool) (o : Option A) (len : ℕ) → cond digit (read_or (Wrong BadNumber) o len) (Wrong Syntax) ≡ Cut → ⊥
digit_cut true o len e = read_or_cut o len e
digit_cut false o len e = absurd cc

-- where the bytes end in it
pub record IsCutNumber (bytes : List ℕ) : Type 0 where
  pub short : (field_at bytes).len ≤ 16
  pub end : drop (field_at bytes).len bytes ≡ []

pub cut_number : {A : Type 0} (value : Field → Option A) (bytes : List ℕ) → numeral_at value false bytes ≡ Cut → IsCutNumber bytes
unfolding numeral_at
cut_number value bytes e = by_len (nat_lt 16 (field_at bytes).len) refl (drop (field_at bytes).len bytes) refl e
  where
    by_len : (b : Bool) → nat_lt 16 (field_at bytes).len ≡ b → (rest : List ℕ) → drop (field_at bytes).len bytes ≡ rest →
        cond b (Wrong BadNumber) (number_end false (has_digit (field_at bytes)) (value (field_at bytes)) (field_at bytes).len rest) ≡ Cut →
        IsCutNumber bytes
    by_len true k rest d e = absurd cc
    by_len false k [] d e = record { short = ltb-false 16 (field_at bytes).len k; end = d }
    by_len false k (c ∷ rest) d e = absurd (digit_cut (has_digit (field_at bytes)) (value (field_at bytes)) (field_at bytes).len e)

at_least : (text : List ℕ) → length (text ++ zeros) ≤ (field_at ((text ++ zeros) ++ [])).len → 16 < (field_at (text ++ zeros)).len
at_least text h =
    let all : length (text ++ zeros) ≤ (field_at (text ++ zeros)).len =
    subst (λ (l : List ℕ). length (text ++ zeros) ≤ (field_at l).len) (append-nil (text ++ zeros)) h in
    omega (arith, length-append text zeros, all)

longer : (bytes : List ℕ) → IsCutNumber bytes → 16 < (field_at (bytes ++ zeros)).len
longer bytes c = go (cut_shape bytes c.short c.end)
  where
    go : {bytes : List ℕ} → IsCut bytes → 16 < (field_at (bytes ++ zeros)).len
    go (cut {text = text} {whole = w} {sign = s} {fraction = None} h short) =
        let more : IsShape (text ++ zeros) s (w ++ zeros) None = record {
          spelled =
              ap (λ t. t ++ zeros) (h.spelled ∙ ap (λ t. sign_text s ++ t) (append-nil w)) ∙ append_assoc (sign_text s) w zeros
              ∙ ap (λ t. sign_text s ++ t) (sym (append-nil (w ++ zeros)));
          digits = (with_zeros w h.digits.0, tt);
        } in
        at_least text (shape_len (text ++ zeros) s (w ++ zeros) None [] more)
    go (cut {text = text} {whole = w} {sign = s} {fraction = Some ds} h short) =
        let more : IsShape (text ++ zeros) s w (Some (ds ++ zeros)) = record {
          spelled =
              ap (λ t. t ++ zeros) h.spelled ∙ append_assoc (sign_text s) (w ++ 46 ∷ ds) zeros
              ∙ ap (λ t. sign_text s ++ t) (append_assoc w (46 ∷ ds) zeros);
          digits = (h.digits.0, with_zeros ds h.digits.1);
        } in
        at_least text (shape_len (text ++ zeros) s w (Some (ds ++ zeros)) [] more)

cut_refuses : {A : Type 0} (value : Field → Option A) (bytes : List ℕ) → numeral_at value false bytes ≡ Cut →
    numeral_at value true (bytes ++ zeros) ≡ Wrong BadNumber
unfolding numeral_at
cut_refuses value bytes e =
    cond-true (nat_lt 16 (field_at (bytes ++ zeros)).len) _ _
    (lt-ltb 16 (field_at (bytes ++ zeros)).len (longer bytes (cut_number value bytes e)))

-- what the end of all bytes makes of it
abbrev IsCutOrRead : {A : Type 0} → List ℕ → Numeral A → Type 0
IsCutOrRead bytes Cut = Unit {0}
IsCutOrRead bytes (Wrong cause) = ⊥
IsCutOrRead bytes (Read x len) = drop len bytes ≡ []

value_ends : {A : Type 0} (bytes : List ℕ) (o : Option A) (len : ℕ) → drop len bytes ≡ [] → IsCutOrRead bytes (read_or Cut o len)
value_ends bytes None len d = tt
value_ends bytes (Some x) len d = d

cut_ends : {A : Type 0} (value : Field → Option A) (bytes : List ℕ) → numeral_at value false bytes ≡ Cut →
    IsCutOrRead bytes (numeral_at value true bytes)
unfolding numeral_at
cut_ends value bytes e =
    let c = cut_number value bytes e in
    subst (IsCutOrRead bytes)
    (sym
    (cond-false (nat_lt 16 (field_at bytes).len) _ _ (le-ltb 16 (field_at bytes).len c.short)
    ∙ ap (number_end true (has_digit (field_at bytes)) (value (field_at bytes)) (field_at bytes).len) c.end))
    (cond_both (has_digit (field_at bytes)) _ _ (IsCutOrRead bytes)
    (λ _. value_ends bytes (value (field_at bytes)) (field_at bytes).len c.end) (λ _. tt))

-- ---- enter PCL mode

termination_told : (o : Option Amount) (len : ℕ) → Refuses (by_language o len 95)
termination_told None len = refused _ BadNumber refl (λ h. h)
termination_told (Some a) len = refused _ Syntax refl (λ h. h)

left_closed : (o : Option Entry) (c len : ℕ) → left_by o c len ≡ Open → ⊥
left_closed None c len e = absurd cc
left_closed (Some item) c len e = absurd cc

pub language_closed : (o : Option Amount) (len c : ℕ) → by_language o len c ≡ Open → ⊥
language_closed None len c = λ e. absurd cc
language_closed (Some a) len c =
    cond_both (is_termination c) _ _ (λ f. f ≡ Open → ⊥) (λ _. left_closed (leave_at a c) c (len + 3)) (λ _ e. absurd cc)

pub language_cut : (bytes : List ℕ) → language_in bytes ≡ Open → IsCutNumber bytes
unfolding language_in
language_cut bytes e = by_len (nat_lt 16 (field_at bytes).len) refl (drop (field_at bytes).len bytes) refl e
  where
    by_len : (b : Bool) → nat_lt 16 (field_at bytes).len ≡ b → (rest : List ℕ) → drop (field_at bytes).len bytes ≡ rest →
        cond b (Faulty BadNumber) (after_language_field (field_at bytes) rest) ≡ Open → IsCutNumber bytes
    by_len true k rest d e = absurd cc
    by_len false k [] d e = record { short = ltb-false 16 (field_at bytes).len k; end = d }
    by_len false k (c ∷ rest) d e = absurd (language_closed (amount_of (field_at bytes)) (field_at bytes).len c e)

language_refuses : (bytes : List ℕ) → language_in bytes ≡ Open → Refuses (language_in (on bytes))
unfolding language_in
language_refuses bytes e =
    let n = language_cut bytes e in
    let c = cut_goes_on after_language_field bytes 95 [] (omega arith) (cut_shape bytes n.short n.end) in
    let r = termination_told (amount_of c.0) c.0.len in
    record { cause = r.cause; is = c.1 ∙ r.is; other = r.other }

-- ---- what is open in a frame

-- what a number makes
abbrev IsMaker : {A : Type 0} → (Numeral A → First) → Type 0
IsMaker {A = A} make =
    (make (Wrong BadNumber) ≡ Faulty BadNumber) × (make Cut ≡ Open) × ((r : Numeral A) → make r ≡ Open → r ≡ Cut)
    × ((rest : List ℕ) (r : Numeral A) → IsCutOrRead rest r → IsEnding rest (make r))

made_opened : {A : Type 0} (value : Field → Option A) (make : Numeral A → First) (c : Context) (rest : List ℕ) → IsMaker make →
    ((whole : Bool) (more : List ℕ) → first_of whole c (rest ++ more) ≡ make (numeral_at value whole (rest ++ more))) →
    first_of false c rest ≡ Open → Opened c rest
made_opened value make c rest m reads e =
    let here_is : first_of false c rest ≡ make (numeral_at value false rest) =
    ap (first_of false c) (sym (append-nil rest)) ∙ reads false [] ∙ ap (λ l. make (numeral_at value false l)) (append-nil rest) in
    let whole_is : first_of true c rest ≡ make (numeral_at value true rest) =
    ap (first_of true c) (sym (append-nil rest)) ∙ reads true [] ∙ ap (λ l. make (numeral_at value true l)) (append-nil rest) in
    let is_cut : numeral_at value false rest ≡ Cut = m.2 (numeral_at value false rest) (sym here_is ∙ e) in
    refuses zeros
    (refused (first_of true c (rest ++ zeros)) BadNumber (reads true zeros ∙ ap make (cut_refuses value rest is_cut) ∙ m.0) (λ h. h))
    (subst (IsEnding rest) (sym whole_is) (m.3 rest (numeral_at value true rest) (cut_ends value rest is_cut)))

single_maker : (n : ℕ) (s : Setting) → IsMaker (single n (λ a. Single s a))
single_maker n s = (refl, refl, open_is, ending)
  where
    open_is : (r : Numeral ℕ) → single n (λ a. Single s a) r ≡ Open → r ≡ Cut
    open_is Cut e = refl
    open_is (Wrong cause) e = absurd cc
    open_is (Read x len) e = absurd cc

    ending : (rest : List ℕ) (r : Numeral ℕ) → IsCutOrRead rest r → IsEnding rest (single n (λ a. Single s a) r)
    ending rest Cut h = tt
    ending rest (Wrong cause) h = h
    ending rest (Read x len) h = h

first_maker : (n : ℕ) (motion : Motion) → IsMaker (first_of_pair n motion)
first_maker n motion = (refl, refl, open_is, ending)
  where
    open_is : (r : Numeral ℤ) → first_of_pair n motion r ≡ Open → r ≡ Cut
    open_is Cut e = refl
    open_is (Wrong cause) e = absurd cc
    open_is (Read x len) e = absurd cc

    ending : (rest : List ℕ) (r : Numeral ℤ) → IsCutOrRead rest r → IsEnding rest (first_of_pair n motion r)
    ending rest Cut h = tt
    ending rest (Wrong cause) h = h
    ending rest (Read x len) h = h

second_maker : (motion : Motion) (x : ℤ) → IsMaker (second_of_pair motion x)
second_maker motion x = (refl, refl, open_is, ending)
  where
    open_is : (r : Numeral ℤ) → second_of_pair motion x r ≡ Open → r ≡ Cut
    open_is Cut e = refl
    open_is (Wrong cause) e = absurd cc
    open_is (Read y len) e = absurd cc

    ending : (rest : List ℕ) (r : Numeral ℤ) → IsCutOrRead rest r → IsEnding rest (second_of_pair motion x r)
    ending rest Cut h = tt
    ending rest (Wrong cause) h = h
    ending rest (Read y len) h = h

word_number : (k : Kind) (m : Mnemonic) (n b : ℕ) (rest : List ℕ) →
    ((whole : Bool) (more : List ℕ) → first_of whole (Letters m n) (b ∷ (rest ++ more)) ≡ first_number whole m n (b ∷ (rest ++ more))) →
    first_of false (Letters m n) (b ∷ rest) ≡ Open → Opened (Letters m n) (b ∷ rest)
word_number k mnemonics.Initialize n b rest reads e =
    let no : Faulty BadNumber ≡ Open =
    sym (reads false []) ∙ ap (λ l. first_of false (Letters mnemonics.Initialize n) (b ∷ l)) (append-nil rest) ∙ e in
    absurd cc
word_number k (mnemonics.Sets s) n b rest reads e =
    made_opened setting_of (single n (λ a. Single s a)) (Letters (mnemonics.Sets s) n) (b ∷ rest) (single_maker n s) reads e
word_number k (mnemonics.Moves motion) n b rest reads e =
    made_opened coordinate_of (first_of_pair n motion) (Letters (mnemonics.Moves motion) n) (b ∷ rest) (first_maker n motion) reads e

further_opened : (x : Numbers) (gap : Gap) (n b : ℕ) (rest : List ℕ) →
    ((whole : Bool) (more : List ℕ) → first_of whole (Numbered x gap n) (b ∷ (rest ++ more)) ≡ further whole x (b ∷ (rest ++ more))) →
    first_of false (Numbered x gap n) (b ∷ rest) ≡ Open → Opened (Numbered x gap n) (b ∷ rest)
further_opened (Single s a) gap n b rest reads e =
    let no : Faulty BadNumber ≡ Open =
    sym (reads false []) ∙ ap (λ l. first_of false (Numbered (Single s a) gap n) (b ∷ l)) (append-nil rest) ∙ e in
    absurd cc
further_opened (Odd motion x) gap n b rest reads e =
    made_opened coordinate_of (second_of_pair motion x) (Numbered (Odd motion x) gap n) (b ∷ rest) (second_maker motion x) reads e
further_opened (Even motion) gap n b rest reads e =
    made_opened coordinate_of (first_of_pair 0 motion) (Numbered (Even motion) gap n) (b ∷ rest) (first_maker 0 motion) reads e

letters_opened : (k : Kind) (m : Mnemonic) (n b : ℕ) (rest : List ℕ) → kind_of b ≡ k → letters_by k false m n (b ∷ rest) ≡ Open →
    first_of false (Letters m n) (b ∷ rest) ≡ Open → Opened (Letters m n) (b ∷ rest)
unfolding first_of after_letters
letters_opened kinds.Sign m n b rest k e f =
    word_number kinds.Sign m n b rest (λ whole more. ap (λ j. letters_by j whole m n (b ∷ (rest ++ more))) k) f
letters_opened kinds.Figure m n b rest k e f =
    word_number kinds.Figure m n b rest (λ whole more. ap (λ j. letters_by j whole m n (b ∷ (rest ++ more))) k) f
letters_opened kinds.White m n b rest k e f = absurd cc
letters_opened kinds.Semicolon m n b rest k e f = absurd cc
letters_opened kinds.Letter m n b rest k e f = absurd cc
letters_opened kinds.Escape m n b rest k e f = absurd cc
letters_opened kinds.Comma m n b rest k e f = absurd cc
letters_opened kinds.Other m n b rest k e f = absurd cc

pub ended_open : (x : Numbers) (gap : Gap) → ended_by x gap ≡ Open → ⊥
ended_open x gaps.Comma e = absurd cc
ended_open (Single s a) gaps.Straight e = absurd cc
ended_open (Single s a) gaps.Spaced e = absurd cc
ended_open (Odd motion x) gaps.Straight e = absurd cc
ended_open (Odd motion x) gaps.Spaced e = absurd cc
ended_open (Even motion) gaps.Straight e = absurd cc
ended_open (Even motion) gaps.Spaced e = absurd cc

pub comma_open : (x : Numbers) (gap : Gap) (n : ℕ) → with_comma x gap n ≡ Open → ⊥
comma_open x gaps.Comma n e = absurd cc
comma_open x gaps.Straight n e = absurd cc
comma_open x gaps.Spaced n e = absurd cc

figure_opened : (x : Numbers) (gap : Gap) (n b : ℕ) (rest : List ℕ) → kind_of b ≡ kinds.Figure → by_figure false x gap (b ∷ rest) ≡ Open →
    first_of false (Numbered x gap n) (b ∷ rest) ≡ Open → Opened (Numbered x gap n) (b ∷ rest)
unfolding first_of after_numbers
figure_opened x gaps.Straight n b rest k e f = absurd cc
figure_opened x gaps.Spaced n b rest k e f =
    further_opened x gaps.Spaced n b rest (λ whole more. ap (λ j. numbers_by j whole x gaps.Spaced n (b ∷ (rest ++ more))) k) f
figure_opened x gaps.Comma n b rest k e f =
    further_opened x gaps.Comma n b rest (λ whole more. ap (λ j. numbers_by j whole x gaps.Comma n (b ∷ (rest ++ more))) k) f

numbers_opened : (k : Kind) (x : Numbers) (gap : Gap) (n b : ℕ) (rest : List ℕ) → kind_of b ≡ k →
    numbers_by k false x gap n (b ∷ rest) ≡ Open → first_of false (Numbered x gap n) (b ∷ rest) ≡ Open →
    Opened (Numbered x gap n) (b ∷ rest)
unfolding first_of after_numbers
numbers_opened kinds.Sign x gap n b rest k e f =
    further_opened x gap n b rest (λ whole more. ap (λ j. numbers_by j whole x gap n (b ∷ (rest ++ more))) k) f
numbers_opened kinds.Figure x gap n b rest k e f = figure_opened x gap n b rest k e f
numbers_opened kinds.White x gap n b rest k e f = absurd cc
numbers_opened kinds.Comma x gap n b rest k e f = absurd (comma_open x gap n e)
numbers_opened kinds.Semicolon x gap n b rest k e f = absurd (ended_open x gap e)
numbers_opened kinds.Letter x gap n b rest k e f = absurd (ended_open x gap e)
numbers_opened kinds.Escape x gap n b rest k e f = absurd (ended_open x gap e)
numbers_opened kinds.Other x gap n b rest k e f = absurd cc

-- the end of all bytes there
numbers_ending : (x : Numbers) (gap : Gap) → IsEnding [] (ended x gap)
numbers_ending x gaps.Comma = tt
numbers_ending (Single s a) gaps.Straight = refl
numbers_ending (Single s a) gaps.Spaced = refl
numbers_ending (Odd motion x) gaps.Straight = tt
numbers_ending (Odd motion x) gaps.Spaced = tt
numbers_ending (Even motion) gaps.Straight = refl
numbers_ending (Even motion) gaps.Spaced = refl

-- at the end of the bytes in a command
letters_end : (m : Mnemonic) (n : ℕ) → Opened (Letters m n) []
unfolding first_of after_letters kind_of
letters_end m n = refuses (95 ∷ []) (refused _ Syntax refl (λ h. h)) refl

numbers_end : (x : Numbers) (gap : Gap) (n : ℕ) → Opened (Numbered x gap n) []
unfolding first_of after_numbers kind_of
numbers_end x gap n = refuses (95 ∷ []) (refused _ Syntax refl (λ h. h)) (numbers_ending x gap)

-- ---- between commands

open_ending : (rest : List ℕ) (f : First) → f ≡ Open → IsEnding rest f
open_ending rest f e = subst (IsEnding rest) (sym e) tt

-- a byte more makes no universal exit
exit_refuses : (rest : List ℕ) → exit_or (language_in rest) rest ≡ Open → Refuses (exit_or (language_in (on rest)) (on rest))
exit_refuses rest e = go (begins_with exit_field rest) refl (begins_with exit_field (on rest)) refl e
  where
    go : (a : Bool) → begins_with exit_field rest ≡ a → (b : Bool) → begins_with exit_field (on rest) ≡ b →
        cond a (Begins ExitLanguage 9 Pjl) (language_in rest) ≡ Open → Refuses (cond b (Begins ExitLanguage 9 Pjl) (language_in (on rest)))
    go true f b g e = absurd cc
    go false f true g e = absurd (no_more_exit rest f g)
    go false f false g e = language_refuses rest e

after_letter_refuses : (a : ℕ) (rest : List ℕ) → after_letter a rest ≡ Open → Refuses (after_letter a (on rest))
unfolding kind_of
after_letter_refuses a [] e = refused _ Syntax refl (λ h. h)
after_letter_refuses a (b ∷ rest) e = absurd (second_open (kind_of b) a b e)
  where
    command_open : (o : Option Mnemonic) (a b : ℕ) → in_command o a b ≡ Open → ⊥
    command_open None a b e = absurd cc
    command_open (Some m) a b e = absurd cc

    second_open : (k : Kind) (a b : ℕ) → second_letter k a b ≡ Open → ⊥
    second_open kinds.Letter a b e = command_open (mnemonic_at (capital a) (capital b)) (capital a) (capital b) e
    second_open kinds.White a b e = absurd cc
    second_open kinds.Comma a b e = absurd cc
    second_open kinds.Semicolon a b e = absurd cc
    second_open kinds.Escape a b e = absurd cc
    second_open kinds.Sign a b e = absurd cc
    second_open kinds.Figure a b e = absurd cc
    second_open kinds.Other a b e = absurd cc

frame_escape_refuses : (rest : List ℕ) → after_frame_escape rest ≡ Open → Refuses (after_frame_escape (on rest))
frame_escape_refuses [] e = refused _ (NotInProfile (names.Byte 95)) refl (λ h. h)
frame_escape_refuses (b ∷ rest) e = go (b == 69) (b == 37) e
  where
    go : (x y : Bool) →
        cond x (Begins Reset 2 Pcl) (cond y (exit_or (language_in rest) rest) (Faulty (NotInProfile (names.Byte b)))) ≡ Open →
        Refuses (cond x (Begins Reset 2 Pcl) (cond y (exit_or (language_in (on rest)) (on rest)) (Faulty (NotInProfile (names.Byte b)))))
    go true y e = absurd cc
    go false true e = exit_refuses rest e
    go false false e = absurd cc

kind_refuses : (k : Kind) (b : ℕ) (rest : List ℕ) → by_kind k b rest ≡ Open → Refuses (by_kind k b (on rest))
kind_refuses kinds.Letter b rest e = after_letter_refuses b rest e
kind_refuses kinds.Escape b rest e = frame_escape_refuses rest e
kind_refuses kinds.White b rest e = absurd cc
kind_refuses kinds.Comma b rest e = absurd cc
kind_refuses kinds.Semicolon b rest e = absurd cc
kind_refuses kinds.Sign b rest e = absurd cc
kind_refuses kinds.Figure b rest e = absurd cc
kind_refuses kinds.Other b rest e = absurd cc

-- outside frames
by_more : (c : Context) (rest : List ℕ) → first_of true c rest ≡ Open → GoesOn c rest → Opened c rest
by_more c rest e g = go g.decided
  where
    go : Decided (first_of true c (rest ++ g.more)) → Opened c rest
    go (by_item entry len next h) = completes g.more entry len next h e
    go (by_fault cause h other) = refuses g.more (refused _ cause h other) (subst (IsEnding rest) (sym e) tt)

pub opened : (c : Context) (rest : List ℕ) → first_of false c rest ≡ Open → Opened c rest
unfolding first_of at_frame after_letters after_numbers kind_of
opened Pcl rest e = by_more Pcl rest (sym (same_between false rest) ∙ e) (between_goes_on rest e)
opened (Sequence g) rest e = by_more (Sequence g) rest e (sequence_goes_on g rest e)
opened Pjl rest e = by_more Pjl rest (sym (same_in_pjl false rest) ∙ e) (pjl_goes_on rest e)
opened Frame [] e = refuses (95 ∷ []) (refused _ Syntax refl (λ h. h)) tt
opened Frame (b ∷ rest) e = refuses (95 ∷ []) (kind_refuses (kind_of b) b rest e) (open_ending (b ∷ rest) _ e)
opened (Letters m n) [] e = letters_end m n
opened (Letters m n) (b ∷ rest) e = letters_opened (kind_of b) m n b rest refl e e
opened (Numbered x gap n) [] e = numbers_end x gap n
opened (Numbered x gap n) (b ∷ rest) e = numbers_opened (kind_of b) x gap n b rest refl e e

-- where no byte is left, each step ends there
pub end_ending : (c : Context) → IsEnding [] (first_of true c [])
unfolding first_of at_frame after_letters after_numbers command_in field_at
end_ending Pcl = tt
end_ending (Sequence g) = tt
end_ending Pjl = tt
end_ending Frame = tt
end_ending (Letters m n) = refl
end_ending (Numbered x gap n) = numbers_ending x gap
