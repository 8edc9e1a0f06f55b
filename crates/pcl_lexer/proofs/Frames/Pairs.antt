-- A pair of coordinates that is read at once is read by steps.
use Rattle.std.proofs.Common.{◌≡◌, ℕ, ◌+◌, ◌-◌, ◌<◌, ◌≤◌, List, [], ◌∷◌, ◌++◌, length, get_or, take, drop, Bool, true, false, Option, None}
use Rattle.std.proofs.Common.{Some, refl, sym, ap, subst, ◌∙◌, ◌⊎◌, inl, inr, arith}
use Rattle.std.specs.Prelude.{ℤ, ◌==◌, nat_lt, IfSome, IsTrue}
use Rattle.std.proofs.lemmas.Bool.{cond-false, le-ltb, eqb-true}
use Rattle.std.proofs.lemmas.List.{at_drop_more, get_or-drop, get_or-take, length-drop}
use Rattle.pcl_lexer.specs.declared.pcl.field.Digits.{Digits}
use Rattle.pcl_items.specs.declared.frame.PlotterCoordinate.{PlotterCoordinate}
use Rattle.pcl_items.specs.declared.number.Sign.{Sign}
use Rattle.pcl_items.specs.declared.number.Sign.TheVariants.{Absent, Plus, Minus}
use Rattle.pcl_lexer.specs.declared.frame.Kind.TheVariants as kinds
use Rattle.pcl_items.specs.declared.frame.Motion.{Motion}
use Rattle.pcl_items.specs.declared.frame.Mnemonic.TheVariants.{Moves}
use Rattle.pcl_lexer.specs.declared.frame.Gap.TheVariants.{Straight, Comma}
use Rattle.pcl_lexer.specs.declared.frame.pair.Lead.{Lead}
use Rattle.pcl_lexer.specs.declared.frame.pair.ReadCoordinate.{ReadCoordinate}
use Rattle.pcl_lexer.specs.declared.frame.pair.ReadPair.{ReadPair}
use Rattle.pcl_lexer.specs.Frames.Kinds.{kind_of}
use Rattle.pcl_items.specs.Frames.Mnemonics.{capital, mnemonic_at}
use Rattle.pcl_items.specs.Items.{Entry, Move, at}
use Rattle.pcl_lexer.specs.Lexing.Contexts.{Context, Frame, Letters, Numbered, Numbers, Odd, Even, item_place}
use Rattle.pcl_lexer.specs.Escapes.Field.{field_at, digits, decimal, sign_at, sign_len, has_point}
use Rattle.pcl_lexer.specs.Frames.Number.{coordinate_by, coordinate_of, has_digit, number_end, numeral_at}
use Rattle.pcl_lexer.specs.Frames.NumberText.{IsCoordinate}
use Rattle.pcl_lexer.specs.Frames.Grammar.{IsEnd}
use Rattle.pcl_lexer.specs.Frames.Reader.{first_of_pair, second_of_pair, further, after_letters, after_numbers, letters_by}
use Rattle.pcl_lexer.specs.Reader.{Begins, Passes, first_of}
use Rattle.pcl_lexer.specs.Reading.{ReadsTo, passes}
use Rattle.pcl_lexer.specs.Frames.Pairs.{IsBareAhead, IsPairAhead, Leads, NamesMotion, HasLetters, LeadsCommand, IsCoordinateAhead, Stands}
use Rattle.pcl_lexer.proofs.Escapes.Tables.{by_test}
use Rattle.pcl_lexer.proofs.Escapes.Digits.{digits_in_front, limited, rest_from, rest_is, parts_without_point}
use Rattle.pcl_lexer.proofs.Frames.Figures.{coordinate_known, digit_known}
use Rattle.pcl_lexer.proofs.Frames.Numerals.{NumberRead, TellsNumeral, numeral_told, coordinates, positive_digit}
use Rattle.pcl_lexer.proofs.Frames.NumberStarts.{IsLed, led, coordinate_led}
use Rattle.pcl_lexer.proofs.Frames.Reads.{letters_number, numbers_number, number_comma, letters_read, separator_read, pairs_end}
use Rattle.pcl_lexer.proofs.Frames.Reads.{decided_behind}
use Rattle.pcl_lexer.proofs.Reading.ReadsTo.{ReadsTo-at, ReadsTo-append}
use Rattle.pcl_lexer.proofs.Frames.Skipping.{one_pass}
use Rattle.pcl_lexer.proofs.Lexing.Stepped.{one_item}

-- ---- a coordinate

coordinate_stands : (bytes : List ℕ) (s : Sign) (start len n : ℕ) (x : ℤ) → s ≡ sign_at bytes → start ≡ sign_len (sign_at bytes) →
    len ≡ length (digits (rest_from bytes start)) →
    n ≡ limited 8388608 (decimal (digits (rest_from bytes start))) → has_point (drop (start + len) bytes) ≡ false → 0 < len →
    start + len ≤ 16 → start + len < length bytes → coordinate_by s n true ≡ Some x →
    Stands bytes x (start + len)
unfolding numeral_at
coordinate_stands bytes s start len n x is start_is len_is n_is none some short inside e whole =
    let end = start + len in
    let read = parts_without_point bytes s start len is start_is len_is none in
    let size : (field_at bytes).len ≡ end = ap (λ f. f.len) read in
    let value : coordinate_of (field_at bytes) ≡ Some x = sym (coordinate_known _ _ _ _ _ n true read n_is refl) ∙ e in
    let digit : has_digit (field_at bytes) ≡ true =
    sym (digit_known _ _ _ _ _ len read (omega (arith, len_is))) ∙ positive_digit len some in
    let fits : (field_at bytes).len ≤ 16 = omega (arith, size, short) in
    cond-false (nat_lt 16 (field_at bytes).len) _ _ (le-ltb 16 (field_at bytes).len fits)
    ∙ ap (λ k. number_end whole (has_digit (field_at bytes)) (coordinate_of (field_at bytes)) k (drop k bytes)) size
    ∙ ap (λ d. number_end whole d (coordinate_of (field_at bytes)) end (drop end bytes)) digit
    ∙ ap (λ o. number_end whole true o end (drop end bytes)) value
    ∙ at_drop_more (number_end whole true (Some x) end) bytes end 0 inside

no_point : (bytes : List ℕ) (i b : ℕ) → i < length bytes → b ≡ get_or bytes i 0 → (b ≡ 46 → ⊥) → has_point (drop i bytes) ≡ false
no_point bytes i b inside is h =
    let other : (b == 46) ≡ false = by_test (b == 46) (λ e. h (eqb-true b 46 e)) in
    at_drop_more has_point bytes i 0 inside ∙ ap (λ c. c == 46) (sym is) ∙ other

short_sign : (s : Sign) → sign_len s ≤ 1
short_sign Absent = omega arith
short_sign Plus = omega arith
short_sign Minus = omega arith

-- it stands among the first n bytes behind its sign, with this byte behind it
pub coordinate_in_front : (n : ℕ) (bytes : List ℕ) (s : Sign) (start : ℕ) (found : Digits) (last : ℕ) (x : PlotterCoordinate) → n ≤ 15 →
    s ≡ sign_at bytes → start ≡ sign_len (sign_at bytes) → n ≤ length (rest_from bytes start) →
    found.len ≡ length (digits (take n (rest_from bytes start))) →
    found.number ≡ limited 8388608 (decimal (digits (take n (rest_from bytes start)))) → 0 < found.len → found.len < n →
    last ≡ get_or (take n (rest_from bytes start)) found.len 0 → (last ≡ 46 → ⊥) → coordinate_by s found.number true ≡ Some x.units →
    IsCoordinateAhead (record { coordinate = x; len = start + found.len; last = last }) bytes
coordinate_in_front n bytes s start found last x few is start_is long len_is number_is some short last_is other value =
    let rest : List ℕ = rest_from bytes start in
    let all : digits (take n rest) ≡ digits rest = digits_in_front n rest (omega (arith, len_is, short)) in
    let inside : start + found.len < length bytes = omega (arith, short, long, ap length (rest_is bytes start), length-drop start bytes) in
    let behind : last ≡ get_or bytes (start + found.len) 0 =
    last_is ∙ get_or-take n rest found.len 0 short ∙ ap (λ l. get_or l found.len 0) (rest_is bytes start)
    ∙ get_or-drop start bytes found.len 0 in
    let fits : start + found.len ≤ 16 = omega (arith, short, few, start_is, short_sign (sign_at bytes)) in
    record {
      number =
          coordinate_stands bytes s start found.len found.number x.units is start_is (len_is ∙ ap length all)
          (number_is ∙ ap (λ ds. limited 8388608 (decimal ds)) all)
          (no_point bytes (start + found.len) last inside behind other) some fits inside value;
      last = behind;
      within = inside;
    }

led_more : (text rest : List ℕ) → IsLed text → IsLed (text ++ rest)
led_more _ rest (led text h) = led (text ++ rest) h

begins_number : (bytes : List ℕ) (x : ℤ) (len : ℕ) → Stands bytes x len → IsLed bytes
begins_number bytes x len h =
    let r : NumberRead IsCoordinate bytes x len =
    subst (TellsNumeral IsCoordinate bytes) (h true) (numeral_told coordinate_of IsCoordinate coordinates bytes) in
    subst IsLed (sym r.whole) (led_more r.text (drop len bytes) (coordinate_led r.text x r.is))

first_led : (whole : Bool) (motion : Motion) (n : ℕ) (bytes : List ℕ) → IsLed bytes →
    first_of whole (Letters (Moves motion) n) bytes ≡ first_of_pair n motion (numeral_at coordinate_of whole bytes)
unfolding first_of after_letters
first_led whole motion n _ (led {b = b} text h) = letters_number whole (kind_of b) (Moves motion) n (b ∷ text) h

further_led : (whole : Bool) (x : Numbers) (n : ℕ) (bytes : List ℕ) → IsLed bytes →
    first_of whole (Numbered x Comma n) bytes ≡ further whole x bytes
unfolding first_of after_numbers
further_led whole x n _ (led {b = b} text h) = numbers_number whole (kind_of b) x Comma n (b ∷ text) h (λ e. absurd cc)

-- ---- what stands before a pair

comma_kind : kind_of 44 ≡ kinds.Comma
unfolding kind_of
comma_kind = refl

p_kind : kind_of 80 ≡ kinds.Letter
unfolding kind_of
p_kind = refl

semicolon_kind : kind_of 59 ≡ kinds.Semicolon
unfolding kind_of
semicolon_kind = refl

newline_kind : kind_of 10 ≡ kinds.White
unfolding kind_of
newline_kind = refl

comma_first : (whole : Bool) (x : Numbers) (n : ℕ) (bytes : List ℕ) → 1 ≤ length bytes → get_or bytes 0 0 ≡ 44 →
    first_of whole (Numbered x Straight n) bytes ≡ Passes 1 (Numbered x Comma (n + 1))
comma_first whole x n [] some e = absurd (omega (arith, some))
comma_first whole x n (b ∷ bytes) some e = number_comma whole x Straight n b bytes (ap kind_of e ∙ comma_kind) tt

with_count : {whole : Bool} {c : Context} {x : Numbers} {from to k n : ℕ} {bytes rest : List ℕ} → k ≡ n →
    ReadsTo whole c from bytes [] (Numbered x Straight k) to rest → ReadsTo whole c from bytes [] (Numbered x Straight n) to rest
with_count {whole = whole} {c = c} {x = x} {from = from} {to = to} {bytes = bytes} {rest = rest} e h =
    subst (λ (i : ℕ). ReadsTo whole c from bytes [] (Numbered x Straight i) to rest) e h

pub comma_leads : (motion : Motion) (place : ℕ) (bytes : List ℕ) → 1 ≤ length bytes → get_or bytes 0 0 ≡ 44 →
    Leads (record { len = 1; place = place + 1; motion = motion; is_further = true }) (Numbered (Even motion) Straight 0) place bytes
comma_leads motion place bytes some e = record {
  reads = λ whole x len h.
      let gap : Context = Numbered (Even motion) Comma 1 in
      let number =
      further_led whole (Even motion) 1 (drop 1 bytes) (begins_number (drop 1 bytes) x len h) ∙ ap (first_of_pair 0 motion) (h whole) in
      with_count (omega arith)
      (passes 1 gap (comma_first whole (Even motion) 0 bytes some e)
      (one_pass whole gap (Numbered (Odd motion x) Straight (0 + len)) bytes 1 place len number));
  behind = omega arith;
  within = some;
  same = λ is. refl;
}

letters_first : (motion : Motion) (bytes : List ℕ) → 2 ≤ length bytes → get_or bytes 0 0 ≡ 80 → NamesMotion (get_or bytes 1 0) motion →
    HasLetters motion bytes
letters_first motion [] two e h = absurd (omega (arith, two))
letters_first motion (a ∷ []) two e h = absurd (omega (arith, two))
letters_first motion (a ∷ b ∷ bytes) two e h =
    let letter : kind_of a ≡ kinds.Letter = ap kind_of e ∙ p_kind in
    record {
      first =
          λ whole. letters_read whole a b bytes (Moves motion) letter h.letter (ap (λ c. mnemonic_at (capital c) (capital b)) e ∙ h.named);
      ends =
          λ whole other n.
          pairs_end whole other Straight n (a ∷ b ∷ bytes) (decided_behind whole a (b ∷ bytes)) tt (subst IsEnd (sym letter) tt);
      within = two;
    }

pub some_letters : (bytes : List ℕ) (result : Option Motion) → 2 ≤ length bytes → get_or bytes 0 0 ≡ 80 →
    IfSome result (λ motion. NamesMotion (get_or bytes 1 0) motion) → IfSome result (λ motion. HasLetters motion bytes)
some_letters bytes None two e h = tt
some_letters bytes (Some motion) two e h = letters_first motion bytes two e h

letters_read_at : (whole : Bool) (motion : Motion) (i place : ℕ) (bytes : List ℕ) (x : ℤ) (len : ℕ) → HasLetters motion (drop i bytes) →
    Stands (drop (i + 2) bytes) x len →
    ReadsTo whole Frame (place + i) (drop i bytes) [] (Numbered (Odd motion x) Straight (2 + len)) (place + (i + 2 + len))
    (drop (i + 2 + len) bytes)
letters_read_at whole motion i place bytes x len letters h =
    let number =
    first_led whole motion 2 (drop (i + 2) bytes) (begins_number (drop (i + 2) bytes) x len h) ∙ ap (first_of_pair 2 motion) (h whole) in
    ReadsTo-append (one_pass whole Frame (Letters (Moves motion) 2) bytes i place 2 (letters.first whole))
    (one_pass whole (Letters (Moves motion) 2) (Numbered (Odd motion x) Straight (2 + len)) bytes (i + 2) place len number)

pub letters_lead : (motion : Motion) (place : ℕ) (bytes : List ℕ) → HasLetters motion bytes →
    LeadsCommand (record { len = 2; place = place; motion = motion; is_further = false }) place bytes
letters_lead motion place bytes letters = record {
  leads = record {
    reads =
        λ whole x len h.
        with_count (omega arith) (ReadsTo-at (omega arith) refl refl (letters_read_at whole motion 0 place bytes x len letters h));
    behind = omega arith;
    within = letters.within;
    same = λ is. absurd cc;
  };
  ends = letters.ends;
  letters =
      λ whole. ReadsTo-at (omega arith) refl refl (one_pass whole Frame (Letters (Moves motion) 2) bytes 0 place 2 (letters.first whole));
  placed = refl;
  first = refl;
}

semicolon_passes : (whole : Bool) (bytes : List ℕ) → 1 ≤ length bytes → get_or bytes 0 0 ≡ 59 → first_of whole Frame bytes ≡ Passes 1 Frame
semicolon_passes whole [] some e = absurd (omega (arith, some))
semicolon_passes whole (b ∷ rest) some e = separator_read whole b rest (inr (ap kind_of e ∙ semicolon_kind))

semicolon_ends : (whole : Bool) (motion : Motion) (n : ℕ) (bytes : List ℕ) → 1 ≤ length bytes → get_or bytes 0 0 ≡ 59 →
    first_of whole (Numbered (Even motion) Straight n) bytes ≡ Passes 0 Frame
semicolon_ends whole motion n [] some e = absurd (omega (arith, some))
semicolon_ends whole motion n (b ∷ rest) some e =
    pairs_end whole motion Straight n (b ∷ rest) (decided_behind whole b rest) tt (subst IsEnd (sym (ap kind_of e ∙ semicolon_kind)) tt)

-- behind bytes that are passed between commands
module _ (i : ℕ) (motion : Motion) (place : ℕ) (bytes : List ℕ) (inside : i ≤ length bytes)
    (passed : (whole : Bool) → ReadsTo whole Frame place bytes [] Frame (place + i) (drop i bytes))
    (ends : (whole : Bool) (other : Motion) (n : ℕ) → first_of whole (Numbered (Even other) Straight n) bytes ≡ Passes 0 Frame)
    (letters : HasLetters motion (drop i bytes)) where
  passed_leads : LeadsCommand (record { len = i + 2; place = place + i; motion = motion; is_further = false }) place bytes
  passed_leads = record {
    leads = record {
      reads =
          λ whole x len number.
          with_count (omega arith) (ReadsTo-append (passed whole) (letters_read_at whole motion i place bytes x len letters number));
      behind = omega arith;
      within = omega (arith, inside, letters.within, length-drop i bytes);
      same = λ is. absurd cc;
    };
    ends = ends;
    letters =
        λ whole. ReadsTo-append (passed whole) (one_pass whole Frame (Letters (Moves motion) 2) bytes i place 2 (letters.first whole));
    placed = omega arith;
    first = refl;
  }

semicolon_passed : (whole : Bool) (place : ℕ) (bytes : List ℕ) → 1 ≤ length bytes → get_or bytes 0 0 ≡ 59 →
    ReadsTo whole Frame place bytes [] Frame (place + 1) (drop 1 bytes)
semicolon_passed whole place bytes some e =
    ReadsTo-at (omega arith) refl refl (one_pass whole Frame Frame bytes 0 place 1 (semicolon_passes whole bytes some e))

pub semicolon_leads : (motion : Motion) (place : ℕ) (bytes : List ℕ) → 1 ≤ length bytes → get_or bytes 0 0 ≡ 59 →
    HasLetters motion (rest_from bytes 1) →
    LeadsCommand (record { len = 3; place = place + 1; motion = motion; is_further = false }) place bytes
semicolon_leads motion place bytes some e h =
    passed_leads 1 motion place bytes some (λ whole. semicolon_passed whole place bytes some e)
    (λ whole other n. semicolon_ends whole other n bytes some e) (subst (HasLetters motion) (rest_is bytes 1) h)

newline_passes : (whole : Bool) (bytes : List ℕ) → 1 ≤ length bytes → get_or bytes 0 0 ≡ 10 → first_of whole Frame bytes ≡ Passes 1 Frame
newline_passes whole [] some e = absurd (omega (arith, some))
newline_passes whole (b ∷ rest) some e = separator_read whole b rest (inl (ap kind_of e ∙ newline_kind))

pub line_leads : (motion : Motion) (place : ℕ) (bytes : List ℕ) → 2 ≤ length bytes → get_or bytes 0 0 ≡ 59 → get_or bytes 1 0 ≡ 10 →
    HasLetters motion (rest_from bytes 2) →
    LeadsCommand (record { len = 4; place = place + 2; motion = motion; is_further = false }) place bytes
line_leads motion place bytes some e e' h =
    let first : 1 ≤ length bytes = omega (arith, some) in
    let more : 1 ≤ length (drop 1 bytes) = omega (arith, some, length-drop 1 bytes) in
    passed_leads 2 motion place bytes some
    (λ whole. ReadsTo-append (semicolon_passed whole place bytes first e)
    (one_pass whole Frame Frame bytes 1 place 1 (newline_passes whole (drop 1 bytes) more (get_or-drop 1 bytes 0 0 ∙ e'))))
    (λ whole other n. semicolon_ends whole other n bytes first e) (subst (HasLetters motion) (rest_is bytes 2) h)

-- behind whole pairs
command_leads : (lead : Lead) (motion : Motion) (place : ℕ) (bytes : List ℕ) → LeadsCommand lead place bytes →
    Leads lead (Numbered (Even motion) Straight 0) place bytes
command_leads lead motion place bytes h = record {
  reads =
      λ whole x len number. passes 0 Frame (h.ends whole motion 0) (ReadsTo-at (omega arith) refl refl (h.leads.reads whole x len number));
  behind = h.leads.behind;
  within = h.leads.within;
  same = λ (is : IsTrue lead.is_further). absurd (let both : true ≡ false = sym is ∙ h.first in cc);
}

pub some_command : (result : Option Lead) (motion : Motion) (place : ℕ) (bytes : List ℕ) →
    IfSome result (λ lead. LeadsCommand lead place bytes) →
    IfSome result (λ lead. Leads lead (Numbered (Even motion) Straight 0) place bytes)
some_command None motion place bytes h = tt
some_command (Some lead) motion place bytes h = command_leads lead motion place bytes h

-- ---- a command without coordinates

letters_end : (whole : Bool) (motion : Motion) (b : ℕ) (rest : List ℕ) → (b ≡ 59) ⊎ (b ≡ 80) →
    first_of whole (Letters (Moves motion) 2) (b ∷ rest) ≡ Begins (Move motion None) 0 Frame
unfolding first_of after_letters
letters_end whole motion b rest (inl e) = ap (λ kind. letters_by kind whole (Moves motion) 2 (b ∷ rest)) (ap kind_of e ∙ semicolon_kind)
letters_end whole motion b rest (inr e) = ap (λ kind. letters_by kind whole (Moves motion) 2 (b ∷ rest)) (ap kind_of e ∙ p_kind)

module _ (lead : Lead) (place : ℕ) (bytes : List ℕ) (h : LeadsCommand lead place bytes) (inside : lead.len < length bytes)
    (e : (get_or bytes lead.len 0 ≡ 59) ⊎ (get_or bytes lead.len 0 ≡ 80)) where
  pub bare_stands : IsBareAhead lead Frame place bytes
  bare_stands = record {
    reads = λ whole.
        let item : Entry = Move lead.motion None in
        let context : Context = Letters (Moves lead.motion) 2 in
        let first : first_of whole context (drop lead.len bytes) ≡ Begins item 0 Frame =
        at_drop_more (first_of whole context) bytes lead.len 0 inside ∙ letters_end whole lead.motion (get_or bytes lead.len 0) _ e in
        let last = one_item whole context Frame bytes lead.len place 0 item first in
        let stands : item_place context (place + lead.len) ≡ lead.place = omega (arith, h.placed) in
        let same : lead.len + 0 ≡ lead.len = omega arith in
        subst (λ (p : ℕ). ReadsTo whole Frame place bytes (at p item ∷ []) Frame (place + lead.len) (drop lead.len bytes)) stands
        (subst
        (λ (k : ℕ).
        ReadsTo whole Frame place bytes (at (item_place context (place + lead.len)) item ∷ []) Frame (place + k) (drop k bytes))
        same (ReadsTo-append (h.letters whole) last));
    within = h.leads.within;
  }

  pub bare_behind : (motion : Motion) → IsBareAhead lead (Numbered (Even motion) Straight 0) place bytes
  bare_behind motion = record {
    reads = λ whole. passes 0 Frame (h.ends whole motion 0) (ReadsTo-at (omega arith) refl refl (bare_stands.reads whole));
    within = h.leads.within;
  }

-- ---- the pair

abbrev pub pair_of : Lead → ReadCoordinate → ReadCoordinate → ReadPair
pair_of lead x y = record {
  len = lead.len + x.len + 1 + y.len;
  place = lead.place;
  motion = lead.motion;
  to = record { x = x.coordinate; y = y.coordinate };
  is_further = lead.is_further;
}

pub pair_stands : (lead : Lead) (x y : ReadCoordinate) (context : Context) (place : ℕ) (bytes : List ℕ) → Leads lead context place bytes →
    IsCoordinateAhead x (rest_from bytes lead.len) → x.last ≡ 44 →
    IsCoordinateAhead y (rest_from bytes (lead.len + x.len + 1)) → IsPairAhead (pair_of lead x y) context place bytes
pair_stands lead x y context place bytes h first comma second =
    let a = lead.len + x.len in
    let to_first : IsCoordinateAhead x (drop lead.len bytes) = subst (IsCoordinateAhead x) (rest_is bytes lead.len) first in
    let to_second : IsCoordinateAhead y (drop (a + 1) bytes) = subst (IsCoordinateAhead y) (rest_is bytes (a + 1)) second in
    let k = place + lead.len + x.len - lead.place in
    let odd : Numbers = Odd lead.motion x.coordinate.units in
    let item : Entry = Move lead.motion (Some (x.coordinate.units, y.coordinate.units)) in
    let gap : Context = Numbered odd Comma (k + 1) in
    let some : 1 ≤ length (drop a bytes) = omega (arith, to_first.within, length-drop lead.len bytes, length-drop a bytes) in
    let same : a + 0 ≡ a = omega arith in
    let is : get_or (drop a bytes) 0 0 ≡ 44 =
    get_or-drop a bytes 0 0 ∙ ap (λ k. get_or bytes k 0) same ∙ sym (get_or-drop lead.len bytes x.len 0) ∙ sym to_first.last ∙ comma in
    let stands : item_place gap (place + (a + 1)) ≡ lead.place = omega (arith, h.behind) in
    record {
      reads = λ whole.
          let begun = h.reads whole x.coordinate.units x.len to_first.number in
          let passed = one_pass whole (Numbered odd Straight k) gap bytes a place 1 (comma_first whole odd k (drop a bytes) some is) in
          let number =
          further_led whole odd (k + 1) (drop (a + 1) bytes) (begins_number _ _ _ to_second.number)
          ∙ ap (second_of_pair lead.motion x.coordinate.units) (to_second.number whole) in
          let last = one_item whole gap (Numbered (Even lead.motion) Straight 0) bytes (a + 1) place y.len item number in
          subst
          (λ (p : ℕ). ReadsTo whole context place bytes (at p item ∷ []) (Numbered (Even lead.motion) Straight 0)
          (place + (a + 1 + y.len)) (drop (a + 1 + y.len) bytes))
          stands
          (ReadsTo-append begun (ReadsTo-append passed last));
      within = omega (arith, to_second.within, length-drop (a + 1) bytes);
      same = h.same;
    }
