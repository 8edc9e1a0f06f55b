-- A line as it is read, and by the rules.
use Rattle.std.proofs.Common.{◌≡◌, ℕ, zero, suc, ◌≤◌, List, [], ◌∷◌, ◌++◌, length, Bool, true, false, cond, Option, None, Some, refl, sym}
use Rattle.std.proofs.Common.{ap, subst, ◌∙◌, arith}
use Rattle.std.proofs.Common.{inl, inr}
use Rattle.std.specs.Prelude.{◌==◌, ◌||◌, ◌⊎◌, not}
use Rattle.std.proofs.lemmas.Bool.{and_from, cond_both, cond-true}
use Rattle.std.proofs.lemmas.List.{append-nil, append_assoc, length-append}
use Rattle.pcl_items.specs.declared.pjl.Word.{Word}
use Rattle.pcl_items.specs.declared.pjl.Word.TheVariants as words
use Rattle.pcl_items.specs.PjlLines.Text.{is_blank, is_name_byte, is_quotable, PjlCommand, JobBegins, JobEnds, EnterPcl, name, display}
use Rattle.pcl_items.specs.PjlLines.Text.{language, pcl}
use Rattle.pcl_items.specs.PjlLines.Reader.{front, past, is_word, past_byte, past_blanks, past_equals, past_text, past_value, is_name}
use Rattle.pcl_items.specs.PjlLines.Reader.{past_part, parts_behind, are_parts, is_pcl, is_language, with_text}
use Rattle.pcl_lexer.specs.PjlLines.Syntax as rules
use Rattle.pcl_lexer.specs.PjlLines.Syntax.{Each, AreBlanks, IsWord, BeginsSolid, EndsSolid, IsEquals, IsName, IsPart, AreParts, IsText}
use Rattle.pcl_lexer.specs.PjlLines.Syntax.{AreWords, IsPjlCommand}
use Rattle.pcl_lexer.proofs.PjlLines.Spans.{both_true, Stops, front_is, past_is, front_past, each_front, stops_past, value_of, byte_there}
use Rattle.pcl_lexer.proofs.PjlLines.Spans.{word_told, word_read, is_upper, letters}

-- ---- an equals sign

-- an equals sign, and what stands behind it
pub record Equals (bytes rest : List ℕ) : Type 0 where
  pub sign : List ℕ
  pub is_sign : IsEquals sign
  pub text : bytes ≡ sign ++ rest
  pub stops : Stops is_blank rest

pub sign_read : (sign rest : List ℕ) → IsEquals sign → Stops is_blank rest → past_equals (sign ++ rest) ≡ Some rest
sign_read sign rest (rules.equals before after hb ha) s =
    ap (λ l. past_equals l) (append_assoc before (61 ∷ after) rest)
    ∙ ap (λ l. past_blanks (past_byte 61 l)) (past_is is_blank before (61 ∷ (after ++ rest)) hb refl)
    ∙ ap (λ l. Some l) (past_is is_blank after rest ha s)

sign_behind : (bytes rest : List ℕ) (o : Option (List ℕ)) → past_byte 61 (past is_blank bytes) ≡ o → past_blanks o ≡ Some rest →
    Equals bytes rest
sign_behind bytes rest None e h = absurd cc
sign_behind bytes rest (Some more) e h =
    let r : past is_blank more ≡ rest = ap value_of h in
    let b = byte_there 61 (past is_blank bytes) more e in
    record {
      sign = front is_blank bytes ++ 61 ∷ front is_blank more;
      is_sign = rules.equals (front is_blank bytes) (front is_blank more) (each_front is_blank bytes) (each_front is_blank more);
      text =
          front_past is_blank bytes
          ∙ ap (λ l. front is_blank bytes ++ l) (b ∙ ap (λ l. 61 ∷ l) (front_past is_blank more ∙ ap (λ l. front is_blank more ++ l) r))
          ∙ sym (append_assoc (front is_blank bytes) (61 ∷ front is_blank more) rest);
      stops = subst (Stops is_blank) r (stops_past is_blank more);
    }

pub sign_told : (bytes rest : List ℕ) → past_equals bytes ≡ Some rest → Equals bytes rest
sign_told bytes rest h = sign_behind bytes rest (past_byte 61 (past is_blank bytes)) refl h

-- no letter stands at its front
blank_letter : (c d : Bool) → c ≡ true → not (c || d) ≡ false
blank_letter true d h = refl
blank_letter false d h = absurd cc

before_sign : (before after rest : List ℕ) → AreBlanks before → Stops is_name_byte ((before ++ 61 ∷ after) ++ rest)
before_sign [] after rest h = refl
before_sign (b ∷ before) after rest h = blank_letter (is_blank b) (b == 61) h.0

sign_stops : (sign rest : List ℕ) → IsEquals sign → Stops is_name_byte (sign ++ rest)
sign_stops sign rest (rules.equals before after hb ha) = before_sign before after rest hb

-- ---- a part

-- the word that may have parts of these names
abbrev pub word_of : Bool → Word
word_of true = words.Job
word_of false = words.EndOfJob

pub record Part (job : Bool) (bytes rest : List ℕ) : Type 0 where
  pub part : List ℕ
  pub is_part : IsPart (word_of job) part
  pub text : bytes ≡ part ++ rest

or_read : (a b : Bool) → (a ≡ true) ⊎ (b ≡ true) → (a || b) ≡ true
or_read true b h = refl
or_read false b (inl h) = absurd cc
or_read false b (inr h) = h

or_told : (a b : Bool) → (a || b) ≡ true → (a ≡ true) ⊎ (b ≡ true)
or_told true b h = inl refl
or_told false b h = inr h

name_read : (job : Bool) (title : List ℕ) → IsName (word_of job) title → is_name job title ≡ true
name_read true title (inl h) = or_read (is_word title name) (is_word title display) (inl (word_read title name h))
name_read true title (inr h) = or_read (is_word title name) (is_word title display) (inr (word_read title display h))
name_read false title h = word_read title name h

name_of : (title : List ℕ) → (is_word title name ≡ true) ⊎ (is_word title display ≡ true) → IsName words.Job title
name_of title (inl h) = inl (word_told title name h)
name_of title (inr h) = inr (word_told title display h)

name_told : (job : Bool) (title : List ℕ) → is_name job title ≡ true → IsName (word_of job) title
name_told true title h = name_of title (or_told (is_word title name) (is_word title display) h)
name_told false title h = word_told title name h

of_letters : (title capitals : List ℕ) → IsWord capitals title → Each is_upper capitals → Each is_name_byte title
of_letters title capitals h e = letters title (subst (Each is_upper) (sym h) e)

name_letters : (job : Bool) (title : List ℕ) → IsName (word_of job) title → Each is_name_byte title
name_letters true title (inl h) = of_letters title name h (refl, (refl, (refl, (refl, tt))))
name_letters true title (inr h) = of_letters title display h (refl, (refl, (refl, (refl, (refl, (refl, (refl, tt)))))))
name_letters false title h = of_letters title name h (refl, (refl, (refl, (refl, tt))))

quoted : (text rest : List ℕ) → Each is_quotable text → past_value (Some (34 ∷ ((text ++ 34 ∷ []) ++ rest))) ≡ Some rest
quoted text rest h =
    ap (λ l. past_byte 34 (past is_quotable l)) (append_assoc text (34 ∷ []) rest)
    ∙ ap (past_byte 34) (past_is is_quotable text (34 ∷ rest) h refl)

pub part_read : (job : Bool) (part rest : List ℕ) → IsPart (word_of job) part → past_part job (part ++ rest) ≡ Some rest
unfolding past_part
part_read job part rest (rules.part {sign = sign} title text hn hs ht) =
    let value = 34 ∷ (text ++ 34 ∷ []) in
    let behind : part ++ rest ≡ title ++ (sign ++ (value ++ rest)) =
    append_assoc title (sign ++ value) rest ∙ ap (λ l. title ++ l) (append_assoc sign value rest) in
    let ls = name_letters job title hn in
    let st = sign_stops sign (value ++ rest) hs in
    ap (past_part job) behind
    ∙ cond-true (is_name job (front is_name_byte (title ++ (sign ++ (value ++ rest))))) _ None
    (ap (is_name job) (front_is is_name_byte title (sign ++ (value ++ rest)) ls st) ∙ name_read job title hn)
    ∙ ap (λ l. past_value (past_equals l)) (past_is is_name_byte title (sign ++ (value ++ rest)) ls st)
    ∙ ap past_value (sign_read sign (value ++ rest) hs refl)
    ∙ quoted text rest ht

-- what is read of a value
record Value (bytes rest : List ℕ) : Type 0 where
  text : List ℕ
  is_text : Each is_quotable text
  spelled : bytes ≡ 34 ∷ (text ++ 34 ∷ rest)

value_behind : (bytes rest : List ℕ) (o : Option (List ℕ)) → past_byte 34 bytes ≡ o → past_text o ≡ Some rest → Value bytes rest
value_behind bytes rest None e h = absurd cc
value_behind bytes rest (Some more) e h = record {
  text = front is_quotable more;
  is_text = each_front is_quotable more;
  spelled =
      byte_there 34 bytes more e
      ∙ ap (λ l. 34 ∷ l)
      (front_past is_quotable more ∙ ap (λ l. front is_quotable more ++ l) (byte_there 34 (past is_quotable more) rest h));
}

part_from : (job : Bool) (bytes rest value : List ℕ) → IsName (word_of job) (front is_name_byte bytes) →
    Equals (past is_name_byte bytes) value → Value value rest → Part job bytes rest
part_from job bytes rest value n e v = record {
  part = front is_name_byte bytes ++ (e.sign ++ 34 ∷ (v.text ++ 34 ∷ []));
  is_part = rules.part (front is_name_byte bytes) v.text n e.is_sign v.is_text;
  text =
      front_past is_name_byte bytes
      ∙ ap (λ l. front is_name_byte bytes ++ l)
      (e.text ∙ ap (λ l. e.sign ++ l) (v.spelled ∙ ap (λ l. 34 ∷ l) (sym (append_assoc v.text (34 ∷ []) rest)))
      ∙ sym (append_assoc e.sign (34 ∷ (v.text ++ 34 ∷ [])) rest))
      ∙ sym (append_assoc (front is_name_byte bytes) (e.sign ++ 34 ∷ (v.text ++ 34 ∷ [])) rest);
}

part_by_value : (job : Bool) (bytes rest : List ℕ) (o : Option (List ℕ)) → IsName (word_of job) (front is_name_byte bytes) →
    past_equals (past is_name_byte bytes) ≡ o → past_value o ≡ Some rest → Part job bytes rest
part_by_value job bytes rest None n e h = absurd cc
part_by_value job bytes rest (Some value) n e h =
    part_from job bytes rest value n (sign_told (past is_name_byte bytes) value e) (value_behind value rest (past_byte 34 value) refl h)

part_by_name : (job : Bool) (bytes rest : List ℕ) (c : Bool) → is_name job (front is_name_byte bytes) ≡ c →
    cond c (past_value (past_equals (past is_name_byte bytes))) None ≡ Some rest → Part job bytes rest
part_by_name job bytes rest true e h =
    part_by_value job bytes rest (past_equals (past is_name_byte bytes)) (name_told job (front is_name_byte bytes) e) refl h
part_by_name job bytes rest false e h = absurd cc

pub part_told : (job : Bool) (bytes rest : List ℕ) → past_part job bytes ≡ Some rest → Part job bytes rest
unfolding past_part
part_told job bytes rest h = part_by_name job bytes rest (is_name job (front is_name_byte bytes)) refl h

-- ---- parts

parts_from : (job : Bool) (n : ℕ) (text : List ℕ) (o : Option (List ℕ)) → past_part job text ≡ o → parts_behind job n o ≡ true →
    AreParts (word_of job) text
unfolding parts_behind
parts_from job n text None e h = absurd cc
parts_from job n text (Some []) e h =
    let p = part_told job text [] e in
    subst (AreParts (word_of job)) (sym (p.text ∙ append-nil p.part)) (rules.one p.is_part)
parts_from job zero text (Some (b ∷ bytes)) e h = absurd cc
parts_from job (suc n) text (Some (b ∷ bytes)) e h =
    let p = part_told job text (b ∷ bytes) e in
    let t = both_true (is_blank b) (parts_behind job n (past_part job (past is_blank bytes))) h in
    let others = parts_from job n (past is_blank bytes) (past_part job (past is_blank bytes)) refl t.1 in
    subst (AreParts (word_of job)) (sym (p.text ∙ ap (λ l. p.part ++ b ∷ l) (front_past is_blank bytes)))
    (rules.more b (front is_blank bytes) p.is_part t.0 (each_front is_blank bytes) others)

pub parts_told : (n : ℕ) (b : ℕ) (text : List ℕ) → are_parts true n (b ∷ text) ≡ true → AreParts words.Job (b ∷ text)
parts_told n b text h = parts_from true n (b ∷ text) (past_part true (b ∷ text)) refl h

-- one part alone
one_from : (text : List ℕ) (o : Option (List ℕ)) → past_part false text ≡ o → parts_behind false 0 o ≡ true → IsPart words.EndOfJob text
unfolding parts_behind
one_from text None e h = absurd cc
one_from text (Some []) e h =
    let p = part_told false text [] e in
    subst (IsPart words.EndOfJob) (sym (p.text ∙ append-nil p.part)) p.is_part
one_from text (Some (b ∷ bytes)) e h = absurd cc

no_blank : (c d : Bool) → not (c || d) ≡ true → c ≡ false
no_blank true d h = absurd cc
no_blank false d h = refl

letter_begins : (b : ℕ) → is_name_byte b ≡ true → is_blank b ≡ false
letter_begins b h = no_blank (is_blank b) (b == 61) h

-- a name is some text, with no blank in front
name_begins : (title capitals rest : List ℕ) (c : ℕ) → IsWord (c ∷ capitals) title → Each is_name_byte title →
    Stops is_blank (title ++ rest)
name_begins [] capitals rest c w h = absurd cc
name_begins (b ∷ title) capitals rest c w h = letter_begins b h.0

title_begins : (title rest : List ℕ) → IsName words.Job title → Stops is_blank (title ++ rest)
title_begins title rest (inl h) = name_begins title (65 ∷ 77 ∷ 69 ∷ []) rest 78 h (name_letters true title (inl h))
title_begins title rest (inr h) = name_begins title (73 ∷ 83 ∷ 80 ∷ 76 ∷ 65 ∷ 89 ∷ []) rest 68 h (name_letters true title (inr h))

part_begins : (part rest : List ℕ) → IsPart words.Job part → Stops is_blank (part ++ rest)
part_begins part rest (rules.part {sign = sign} title text hn hs ht) =
    subst (Stops is_blank) (sym (append_assoc title (sign ++ 34 ∷ (text ++ 34 ∷ [])) rest))
    (title_begins title ((sign ++ 34 ∷ (text ++ 34 ∷ [])) ++ rest) hn)

parts_begin : (text : List ℕ) → AreParts words.Job text → Stops is_blank text
parts_begin text (rules.one h) = subst (Stops is_blank) (append-nil text) (part_begins text [] h)
parts_begin text (rules.more {part = part} {parts = parts} b blanks h e hb others) = part_begins part (b ∷ (blanks ++ parts)) h

pub parts_read : (n : ℕ) (text : List ℕ) → length text ≤ n → AreParts words.Job text → parts_behind true n (past_part true text) ≡ true
unfolding parts_behind
parts_read n text l (rules.one h) = ap (parts_behind true n) (ap (past_part true) (sym (append-nil text)) ∙ part_read true text [] h)
parts_read zero text l (rules.more {part = part} {parts = parts} b blanks h e hb others) =
    absurd (omega (arith, l, length-append part (b ∷ (blanks ++ parts))))
parts_read (suc n) text l (rules.more {part = part} {parts = parts} b blanks h e hb others) =
    ap (parts_behind true (suc n)) (part_read true part (b ∷ (blanks ++ parts)) h)
    ∙ and_from (is_blank b) (parts_behind true n (past_part true (past is_blank (blanks ++ parts)))) e
    (ap (λ t. parts_behind true n (past_part true t)) (past_is is_blank blanks parts hb (parts_begin parts others))
    ∙ parts_read n parts (omega (arith, l, length-append part (b ∷ (blanks ++ parts)), length-append blanks parts)) others)

-- ---- the language

language_letters : (title : List ℕ) → IsWord language title → Each is_name_byte title
language_letters title h = of_letters title language h (refl, (refl, (refl, (refl, (refl, (refl, (refl, (refl, tt))))))))

pcl_begins : (value : List ℕ) → IsWord pcl value → Stops is_blank value
pcl_begins value h =
    subst (Stops is_blank) (append-nil value) (name_begins value (67 ∷ 76 ∷ []) [] 80 h (of_letters value pcl h (refl, (refl, (refl, tt)))))

pub language_read : (sign title value : List ℕ) → IsWord language title → IsEquals sign → IsWord pcl value →
    is_language (title ++ (sign ++ value)) ≡ true
unfolding is_language
language_read sign title value ht hs hv =
    let ls = language_letters title ht in
    let st = sign_stops sign value hs in
    and_from (is_word (front is_name_byte (title ++ (sign ++ value))) language)
    (is_pcl (past_equals (past is_name_byte (title ++ (sign ++ value)))))
    (ap (λ l. is_word l language) (front_is is_name_byte title (sign ++ value) ls st) ∙ word_read title language ht)
    (ap (λ l. is_pcl (past_equals l)) (past_is is_name_byte title (sign ++ value) ls st)
    ∙ ap is_pcl (sign_read sign value hs (pcl_begins value hv)) ∙ word_read value pcl hv)

language_from : (text : List ℕ) (o : Option (List ℕ)) → IsWord language (front is_name_byte text) →
    past_equals (past is_name_byte text) ≡ o → is_pcl o ≡ true → IsText words.Enter text EnterPcl
language_from text None w e h = absurd cc
language_from text (Some value) w e h =
    let s = sign_told (past is_name_byte text) value e in
    subst (λ t. IsText words.Enter t EnterPcl) (sym (front_past is_name_byte text ∙ ap (λ l. front is_name_byte text ++ l) s.text))
    (rules.enter (front is_name_byte text) value w s.is_sign (word_told value pcl h))

pub language_told : (text : List ℕ) → is_language text ≡ true → IsText words.Enter text EnterPcl
unfolding is_language
language_told text h =
    let t = both_true (is_word (front is_name_byte text) language) (is_pcl (past_equals (past is_name_byte text))) h in
    language_from text (past_equals (past is_name_byte text)) (word_told (front is_name_byte text) language t.0) refl t.1

-- ---- a word and its text

job_read : (text : List ℕ) → AreParts words.Job text → are_parts true (length text) text ≡ true
job_read [] h = refl
job_read (b ∷ text) h = let e : length (b ∷ text) ≤ length (b ∷ text) = omega arith in parts_read (length (b ∷ text)) (b ∷ text) e h

end_read : (text : List ℕ) → IsPart words.EndOfJob text → are_parts false 0 text ≡ true
unfolding parts_behind
end_read [] h = refl
end_read (b ∷ text) h = ap (parts_behind false 0) (ap (past_part false) (sym (append-nil (b ∷ text))) ∙ part_read false (b ∷ text) [] h)

pub text_read : (word : Word) (text : List ℕ) (line : PjlCommand) → IsText word text line → with_text (Some word) text ≡ Some line
text_read word text line rules.remark = refl
text_read word text line rules.job = refl
text_read word text line (rules.named_job h) = cond-true (are_parts true (length text) text) (Some (JobBegins text)) None (job_read text h)
text_read word text line rules.job_end = refl
text_read word text line (rules.named_end h) = cond-true (are_parts false 0 text) (Some (JobEnds text)) None (end_read text h)
text_read word text line (rules.enter {sign = sign} title value ht hs hv) =
    cond-true (is_language (title ++ (sign ++ value))) (Some EnterPcl) None (language_read sign title value ht hs hv)

-- a line that is read, by the line that it is
abbrev pub Told : Word → List ℕ → Option PjlCommand → Type 0
Told word text None = Unit {0}
Told word text (Some line) = IsText word text line

job_told : (text : List ℕ) → are_parts true (length text) text ≡ true → IsText words.Job text (JobBegins text)
job_told [] h = rules.job
job_told (b ∷ text) h = rules.named_job (parts_told (length (b ∷ text)) b text h)

end_told : (text : List ℕ) → are_parts false 0 text ≡ true → IsText words.EndOfJob text (JobEnds text)
end_told [] h = rules.job_end
end_told (b ∷ text) h = rules.named_end (one_from (b ∷ text) (past_part false (b ∷ text)) refl h)

pub text_told : (word : Word) (text : List ℕ) → Told word text (with_text (Some word) text)
text_told words.Comment text = rules.remark
text_told words.Job text = cond_both (are_parts true (length text) text) _ _ (Told words.Job text) (λ h. job_told text h) (λ _. tt)
text_told words.EndOfJob text = cond_both (are_parts false 0 text) _ _ (Told words.EndOfJob text) (λ h. end_told text h) (λ _. tt)
text_told words.Enter text = cond_both (is_language text) _ _ (Told words.Enter text) (λ h. language_told text h) (λ _. tt)
