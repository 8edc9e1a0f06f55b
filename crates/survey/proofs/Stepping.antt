-- What one step of a survey comes to.
use Rattle.std.proofs.Common.{◌≡◌, ℕ, ◌+◌, ◌<◌, ◌≤◌, List, [], ◌∷◌, ◌++◌, length, drop, get_or, Bool, true, false, Option, Some, refl, sym}
use Rattle.std.proofs.Common.{ap, subst, ◌∙◌, arith, append-nil, option_to_list}
use Rattle.std.proofs.lemmas.List.{drop-append-le, drop-drop}
use Rattle.pcl_items.specs.declared.fault.LexCause.{LexCause}
use Rattle.pcl_items.specs.Items.{Entry, Placed}
use Rattle.pcl_lexer.specs.Lexing.Contexts.{Context}
use Rattle.pcl_lexer.specs.Reader.{First, Open, Begins, Faulty, first_of}
use Rattle.pcl_lexer.specs.Reading.{ReadsTo, here, passes, begins, left}
use Rattle.pcl_lexer.proofs.Lexing.Decided.{stays_decided}
use Rattle.pcl_lexer.proofs.Lexing.Spans.{begins-taken, passes-taken}
use Rattle.pcl_lexer.proofs.Lexing.Stepped.{one_item}
use Rattle.pcl_lexer.proofs.Reading.ReadsTo.{ReadsTo-at, ReadsTo-append, grows}
use Rattle.survey.specs.declared.refusal.Refusal.{Refusal}
use Rattle.survey.specs.declared.part.Part.{Part}
use Rattle.survey.specs.declared.part.Turn.{Turn}
use Rattle.survey.specs.Passing.{passed, taken}
use Rattle.survey.specs.Survey.{Standing, Reads, Passes, Tells, reads, turns, next_turn, turn_at, standing_of}
use Rattle.survey.specs.Turns.{fault_turn}
use Rattle.survey.specs.Carriers.Steps.{Leads}
use Rattle.survey.proofs.Turning.{turn_stays, turn_within, passed_within}

-- ---- more bytes

-- what is read of a front is read of all bytes
pub extends : (whole : Bool) {c d : Context} {p q : ℕ} {bytes rest : List ℕ} {items : List Placed} (more : List ℕ) →
    (whole ≡ true → more ≡ []) → ReadsTo whole c p bytes items d q rest → ReadsTo true c p (bytes ++ more) items d q (rest ++ more)
extends false more none h = grows true more refl h
extends true {c = c} {d = d} {p = p} {q = q} {bytes = bytes} {rest = rest} {items = items} more none h =
    let same_bytes : bytes ≡ bytes ++ more = sym (append-nil bytes) ∙ ap (λ l. bytes ++ l) (sym (none refl)) in
    let same_rest : rest ≡ rest ++ more = sym (append-nil rest) ∙ ap (λ l. rest ++ l) (sym (none refl)) in
    subst (λ (l : List ℕ). ReadsTo true c p (bytes ++ more) items d q l) same_rest (ReadsTo-at refl same_bytes refl h)

-- a fault of a front is one of all bytes
pub fault_extends : (whole : Bool) (c : Context) (rest more : List ℕ) (cause : LexCause) → (whole ≡ true → more ≡ []) →
    first_of whole c rest ≡ Faulty cause → first_of true c (rest ++ more) ≡ Faulty cause
fault_extends true c rest more cause none e =
    let same : rest ++ more ≡ rest = ap (λ l. rest ++ l) (none refl) ∙ append-nil rest in
    ap (λ l. first_of true c l) same ∙ e
fault_extends false c rest more cause none e =
    stays_decided c rest true more (λ o. let both : Open ≡ Faulty cause = sym o ∙ e in absurd cc) ∙ e

-- ---- what is left

pub reads_left : {w : Bool} {c d : Context} {p q : ℕ} {bytes rest : List ℕ} {items : List Placed} → ReadsTo w c p bytes items d q rest →
    left d rest ≤ left c bytes
reads_left here = omega arith
reads_left (passes {whole = w} {context = c} {bytes = bytes} len next e h) =
    omega (arith, reads_left h, (passes-taken w c bytes len next e).less)
reads_left (begins {whole = w} {context = c} {bytes = bytes} entry len next e h) =
    omega (arith, reads_left h, (begins-taken w c bytes entry len next e).less)

-- ---- a step

-- items that are read
pub reads_lead : (whole : Bool) (c d : Context) (p q : ℕ) (bytes rest : List ℕ) (items : List Placed) →
    ReadsTo whole c p bytes items d q rest → Leads whole (Reads c) p bytes [] (Reads d) q rest
reads_lead whole c d p q bytes rest items h = λ more others none t. reads (extends whole more none h) t

-- a turn, behind items that are read or none
pub turn_leads : (whole : Bool) (c : Context) (place : ℕ) (rest : List ℕ) (cause : LexCause) → first_of whole c rest ≡ Faulty cause →
    Leads whole (Reads c) place rest (option_to_list (fault_turn c cause place (get_or rest 0 0)).told)
    (standing_of (fault_turn c cause place (get_or rest 0 0)).onto) (place + taken (fault_turn c cause place (get_or rest 0 0)))
    (drop (taken (fault_turn c cause place (get_or rest 0 0))) rest)
turn_leads whole c place rest cause e = λ more others none t.
    let next : Turn = fault_turn c cause place (get_or rest 0 0) in
    let first : first_of true c (rest ++ more) ≡ Faulty cause = fault_extends whole c rest more cause none e in
    let is : next_turn true (Reads c) place (rest ++ more) ≡ Some next =
    ap (λ (f : First). turn_at f c place (rest ++ more)) first ∙ ap Some (turn_stays whole c rest more cause place e) in
    let behind : drop (taken next) rest ++ more ≡ drop (taken next) (rest ++ more) =
    sym (drop-append-le (taken next) rest more (turn_within whole c rest cause place e)) in
    turns next is (subst (λ (l : List ℕ). Tells (standing_of next.onto) (place + taken next) l others) behind t)

-- a byte that is passed over
pub pass_leads : (whole : Bool) (part : Part) (place b : ℕ) (rest : List ℕ) →
    Leads whole (Passes part) place (b ∷ rest) (option_to_list (passed part place b).told) (standing_of (passed part place b).onto)
    (place + taken (passed part place b)) (drop (taken (passed part place b)) (b ∷ rest))
pass_leads whole part place b rest = λ more others none t.
    let next : Turn = passed part place b in
    let behind : drop (taken next) (b ∷ rest) ++ more ≡ drop (taken next) (b ∷ (rest ++ more)) =
    sym (drop-append-le (taken next) (b ∷ rest) more (passed_within next b rest)) in
    turns next refl (subst (λ (l : List ℕ). Tells (standing_of next.onto) (place + taken next) l others) behind t)

-- an item in a window, behind bytes that end none
pub item_leads : (whole : Bool) (c d next : Context) (p dropped at len : ℕ) (bytes window : List ℕ) (entry : Entry) →
    ReadsTo whole c p bytes [] d (dropped + at) (drop at window) → first_of whole d (drop at window) ≡ Begins entry len next →
    Leads whole (Reads c) p bytes [] (Reads next) (dropped + (at + len)) (drop (at + len) window)
item_leads whole c d next p dropped at len bytes window entry h e =
    reads_lead whole c next p (dropped + (at + len)) bytes (drop (at + len) window) _
    (ReadsTo-append h (one_item whole d next window at dropped len entry e))
