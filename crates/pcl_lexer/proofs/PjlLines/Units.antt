-- Lines with their newline, as they are read and by the rules.
use Rattle.std.proofs.Common.{◌≡◌, ℕ, ◌+◌, ◌<◌, ◌≤◌, List, [], ◌∷◌, ◌++◌, length, take, drop, Bool, true, false, Option, None, Some, refl}
use Rattle.std.proofs.Common.{sym, ap, subst, ◌∙◌, arith}
use Rattle.std.specs.Prelude.{◌==◌, not, nat_lt}
use Rattle.std.specs.List.{prefix_len}
use Rattle.std.proofs.lemmas.Bool.{eqb-true, cond_both, cond-true, cond-false}
use Rattle.std.proofs.lemmas.Bool.Decides.{nat_tests}
use Rattle.std.proofs.lemmas.List.{append-nil, append_assoc, length-append, take-append-drop}
use Rattle.std.proofs.lemmas.List.Folds.{length-prefix_len}
use Rattle.pcl_items.specs.declared.fault.LexCause.{LexCause}
use Rattle.pcl_items.specs.declared.fault.LexCause.TheVariants.{Pjl, Truncated}
use Rattle.pcl_items.specs.PjlLines.Text.{is_inside, PjlCommand}
use Rattle.pcl_items.specs.PjlLines.Reader.{front, past, pjl_command_of}
use Rattle.pcl_lexer.specs.PjlLines.Syntax.{Each, IsPjlCommand}
use Rattle.pcl_items.specs.PjlLines.First.{FirstPjl, Open, Begins, Faulty, read_pjl, by_newline, at_pjl}
use Rattle.pcl_lexer.specs.PjlLines.Units as rules
use Rattle.pcl_lexer.specs.PjlLines.Units.{IsPjlUnit, PjlFault}
use Rattle.pcl_lexer.proofs.PjlLines.Laws.{LineAgrees, BeginsWith, first_of_fault, LinesByRules, LineStays, LineWaits}
use Rattle.pcl_lexer.proofs.PjlLines.Spans.{Stops, front_len, front_is, past_is, front_past, each_front, stops_past, each_take, len_take}
use Rattle.pcl_lexer.proofs.PjlLines.Spans.{front_more}
use Rattle.pcl_lexer.proofs.PjlLines.Agreement.{pjl_read, line_told}

pub line_agrees : (text : List ℕ) (line : PjlCommand) → LineAgrees text line
line_agrees text line = record { sound = line_told text line; complete = pjl_read text line }

-- ---- by the rules, so read

not_long : (n : ℕ) → n < 1024 → nat_lt 1023 n ≡ false
not_long n h = grind (arith, nat_tests)

is_long : (n : ℕ) → 1024 ≤ n → nat_lt 1023 n ≡ true
is_long n h = grind (arith, nat_tests)

long_is : (n : ℕ) → nat_lt 1023 n ≡ true → 1024 ≤ n
long_is n h = grind (arith, nat_tests)

short_is : (n : ℕ) → nat_lt 1023 n ≡ false → n < 1024
short_is n h = grind (arith, nat_tests)

newline_read : (text rest : List ℕ) → Each is_inside text → length text < 1024 →
    at_pjl (text ++ 10 ∷ rest) ≡ read_pjl (pjl_command_of text) (length text)
unfolding at_pjl
newline_read text rest e l =
    let n : prefix_len is_inside (text ++ 10 ∷ rest) ≡ length text = front_len is_inside text (10 ∷ rest) e refl in
    let f : front is_inside (text ++ 10 ∷ rest) ≡ text = front_is is_inside text (10 ∷ rest) e refl in
    let p : past is_inside (text ++ 10 ∷ rest) ≡ 10 ∷ rest = past_is is_inside text (10 ∷ rest) e refl in
    cond-false (nat_lt 1023 (prefix_len is_inside (text ++ 10 ∷ rest))) _ _ (ap (nat_lt 1023) n ∙ not_long (length text) l)
    ∙ ap (λ v. by_newline v (front is_inside (text ++ 10 ∷ rest)) (prefix_len is_inside (text ++ 10 ∷ rest))) p
    ∙ ap (λ v. read_pjl (pjl_command_of v) (prefix_len is_inside (text ++ 10 ∷ rest))) f
    ∙ ap (read_pjl (pjl_command_of text)) n

pub unit_read : (text rest : List ℕ) (line : PjlCommand) → IsPjlUnit text line → at_pjl (text ++ rest) ≡ Begins line (length text)
unit_read text rest line (rules.whole_line words h e l) =
    let n : length words + 1 ≡ length (words ++ 10 ∷ []) = omega (arith, length-append words (10 ∷ [])) in
    ap at_pjl (append_assoc words (10 ∷ []) rest) ∙ newline_read words rest e l
    ∙ ap (λ o. read_pjl o (length words)) (pjl_read words line h) ∙ ap (Begins line) n

no_line_read : (text : List ℕ) (o : Option PjlCommand) → pjl_command_of text ≡ o → ((line : PjlCommand) → IsPjlCommand text line → ⊥) →
    o ≡ None
no_line_read text None e h = refl
no_line_read text (Some line) e h = absurd (h line (line_told text line e))

cut_read : (text : List ℕ) → Each is_inside text → length text < 1024 → at_pjl text ≡ Open
unfolding at_pjl
cut_read text e l =
    let n : prefix_len is_inside text ≡ length text =
    ap (prefix_len is_inside) (sym (append-nil text)) ∙ front_len is_inside text [] e tt in
    let p : past is_inside text ≡ [] = ap (past is_inside) (sym (append-nil text)) ∙ past_is is_inside text [] e tt in
    cond-false (nat_lt 1023 (prefix_len is_inside text)) _ _ (ap (nat_lt 1023) n ∙ not_long (length text) l)
    ∙ ap (λ v. by_newline v (front is_inside text) (prefix_len is_inside text)) p

long_read : (text rest : List ℕ) → Each is_inside text → length text ≡ 1024 → at_pjl (text ++ rest) ≡ Faulty Pjl
unfolding at_pjl
long_read text rest e l =
    cond-true (nat_lt 1023 (prefix_len is_inside (text ++ rest))) _ _
    (is_long (prefix_len is_inside (text ++ rest)) (omega (arith, l, front_more is_inside text rest e)))

pub fault_read : (bytes : List ℕ) (cause : LexCause) → PjlFault bytes cause → at_pjl bytes ≡ first_of_fault cause
fault_read bytes cause (rules.no_line text rest e l h) =
    newline_read text rest e l ∙ ap (λ o. read_pjl o (length text)) (no_line_read text (pjl_command_of text) refl h)
fault_read bytes cause (rules.long_line text rest e l) = long_read text rest e l
fault_read bytes cause (rules.cut_line e l) = cut_read bytes e l

-- ---- what is read, by the rules

abbrev Tells : List ℕ → FirstPjl → Type 0
Tells bytes Open = PjlFault bytes Truncated
Tells bytes (Begins line len) = BeginsWith bytes line len
Tells bytes (Faulty cause) = PjlFault bytes cause × (cause ≡ Pjl)

is_so : (c : Bool) → not c ≡ false → c ≡ true
is_so true h = refl
is_so false h = absurd cc

newline_is : (b : ℕ) → is_inside b ≡ false → b ≡ 10
newline_is b h = eqb-true b 10 (is_so (b == 10) h)

abbrev N : List ℕ → ℕ
N bytes = prefix_len is_inside bytes

by_pjl : (bytes rest : List ℕ) (o : Option PjlCommand) → pjl_command_of (front is_inside bytes) ≡ o →
    bytes ≡ front is_inside bytes ++ 10 ∷ rest → length (front is_inside bytes) ≡ N bytes → N bytes < 1024 →
    Tells bytes (read_pjl o (N bytes))
by_pjl bytes rest None e q n l =
    let none : (line : PjlCommand) → IsPjlCommand (front is_inside bytes) line → ⊥ =
    λ line h. let r = sym e ∙ pjl_read (front is_inside bytes) line h in absurd cc in (
      subst (λ t. PjlFault t Pjl) (sym q)
          (rules.no_line (front is_inside bytes) rest (each_front is_inside bytes) (omega (arith, n, l)) none),
      refl,
    )
by_pjl bytes rest (Some line) e q n l = record {
  text = front is_inside bytes ++ 10 ∷ [];
  rest = rest;
  unit = rules.whole_line (front is_inside bytes) (line_told (front is_inside bytes) line e) (each_front is_inside bytes) (omega (
    arith,
    n,
    l,
  ));
  all = q ∙ sym (append_assoc (front is_inside bytes) (10 ∷ []) rest);
  size = omega (arith, n, length-append (front is_inside bytes) (10 ∷ []));
}

by_rest : (bytes v : List ℕ) → past is_inside bytes ≡ v → N bytes < 1024 → Tells bytes (by_newline v (front is_inside bytes) (N bytes))
by_rest bytes [] e l =
    let q : bytes ≡ front is_inside bytes =
    front_past is_inside bytes ∙ ap (λ t. front is_inside bytes ++ t) e ∙ append-nil (front is_inside bytes) in
    subst (λ t. PjlFault t Truncated) (sym q)
    (rules.cut_line (each_front is_inside bytes) (omega (arith, l, length-prefix_len is_inside bytes)))
by_rest bytes (b ∷ rest) e l =
    let ten : b ≡ 10 = newline_is b (subst (Stops is_inside) e (stops_past is_inside bytes)) in
    let q : bytes ≡ front is_inside bytes ++ 10 ∷ rest =
    front_past is_inside bytes ∙ ap (λ t. front is_inside bytes ++ t) (e ∙ ap (λ n. n ∷ rest) ten) in
    by_pjl bytes rest (pjl_command_of (front is_inside bytes)) refl q (length-prefix_len is_inside bytes) l

too_long : (bytes : List ℕ) → 1024 ≤ N bytes → PjlFault bytes Pjl
too_long bytes l =
    let f = front is_inside bytes in
    let q : bytes ≡ take 1024 f ++ (drop 1024 f ++ past is_inside bytes) =
    front_past is_inside bytes ∙ ap (λ t. t ++ past is_inside bytes) (sym (take-append-drop 1024 f))
    ∙ append_assoc (take 1024 f) (drop 1024 f) (past is_inside bytes) in
    subst (λ t. PjlFault t Pjl) (sym q)
    (rules.long_line (take 1024 f) (drop 1024 f ++ past is_inside bytes) (each_take is_inside 1024 f (each_front is_inside bytes))
    (len_take 1024 f (omega (arith, l, length-prefix_len is_inside bytes))))

tells : (bytes : List ℕ) → Tells bytes (at_pjl bytes)
unfolding at_pjl
tells bytes =
    cond_both (nat_lt 1023 (N bytes)) _ _ (Tells bytes) (λ h. (too_long bytes (long_is (N bytes) h), refl))
    (λ h. by_rest bytes (past is_inside bytes) refl (short_is (N bytes) h))

pub lines_by_rules : (bytes : List ℕ) → LinesByRules bytes
lines_by_rules bytes = record {
  line = λ line len e. subst (Tells bytes) e (tells bytes);
  line_is_read = λ line len b. ap at_pjl b.all ∙ unit_read b.text b.rest line b.unit ∙ ap (Begins line) (sym b.size);
  fault = λ cause e. (subst (Tells bytes) e (tells bytes)).0;
  cut = λ e. subst (Tells bytes) e (tells bytes);
  fault_is_read = fault_read bytes;
}

-- ---- more bytes

fault_stays : (bytes more : List ℕ) (cause : LexCause) → PjlFault bytes cause → cause ≡ Pjl → at_pjl (bytes ++ more) ≡ Faulty cause
fault_stays bytes more cause (rules.no_line text rest e l h) p =
    ap at_pjl (append_assoc text (10 ∷ rest) more) ∙ fault_read (text ++ 10 ∷ (rest ++ more)) Pjl (rules.no_line text (rest ++ more) e l h)
fault_stays bytes more cause (rules.long_line text rest e l) p = ap at_pjl (append_assoc text rest more) ∙ long_read text (rest ++ more) e l
fault_stays bytes more cause (rules.cut_line e l) p = absurd cc

stays : (bytes more : List ℕ) (f : FirstPjl) → Tells bytes f → (f ≡ Open → ⊥) → at_pjl (bytes ++ more) ≡ f
stays bytes more Open t h = absurd (h refl)
stays bytes more (Begins line len) t h =
    ap (λ b. at_pjl (b ++ more)) t.all ∙ ap at_pjl (append_assoc t.text t.rest more) ∙ unit_read t.text (t.rest ++ more) line t.unit
    ∙ ap (Begins line) (sym t.size)
stays bytes more (Faulty cause) t h = fault_stays bytes more cause t.0 t.1

pub line_stays : (bytes : List ℕ) → LineStays bytes
line_stays bytes more h = stays bytes more (at_pjl bytes) (tells bytes) h

cut_short : (bytes : List ℕ) (cause : LexCause) → PjlFault bytes cause → cause ≡ Truncated → length bytes ≤ 1023
cut_short bytes cause (rules.no_line text rest e l h) p = absurd cc
cut_short bytes cause (rules.long_line text rest e l) p = absurd cc
cut_short bytes cause (rules.cut_line e l) p = omega (arith, l)

pub line_waits : (bytes : List ℕ) → LineWaits bytes
line_waits bytes e = cut_short bytes Truncated (subst (Tells bytes) e (tells bytes)) refl
