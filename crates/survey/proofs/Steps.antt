-- The steps of a survey over a window, by what stands ahead in it.
use Rattle.std.proofs.Common.{◌≡◌, ℕ, ◌+◌, ◌*◌, ◌<◌, ◌≤◌, ◌==◌, List, [], ◌∷◌, ◌++◌, length, drop, get_or, Bool, true, false, refl, sym}
use Rattle.std.proofs.Common.{suc, Option, None, ap, subst, ◌∙◌, arith, drop-cons, option_to_list}
use Rattle.std.proofs.lemmas.Bool.Decides.{nat_tests}
use Rattle.std.proofs.lemmas.List.{drop-drop, length-drop}
use Rattle.pcl_items.specs.declared.fault.LexCause.{LexCause}
use Rattle.pcl_items.specs.Items.{Entry, Placed}
use Rattle.pcl_lexer.specs.declared.lexer.ahead.Ahead.{Ahead}
use Rattle.pcl_lexer.specs.declared.lexer.first.Context as code_context
use Rattle.pcl_lexer.specs.declared.lexer.first.First as code_first
use Rattle.pcl_lexer.specs.declared.lexer.first.First.TheVariants as firsts
use Rattle.pcl_lexer.specs.declared.lexer.first.Head.{Head}
use Rattle.pcl_lexer.specs.Lexing.Ahead.{StandsAhead}
use Rattle.pcl_lexer.specs.Fault.{cause_at_end, end_cause, is_none_left}
use Rattle.pcl_lexer.specs.Lexing.Contexts.{Context, Pcl, Sequence, Frame, Letters, Numbered, Pjl, counted, item_place}
use Rattle.pcl_lexer.specs.Lexing.FirstView.{context_view, first_view, head_view, Within, len_of, counted_after}
use Rattle.pcl_lexer.specs.Reader.{First, Open, Begins, Faulty, first_of}
use Rattle.pcl_lexer.specs.Reading.{ReadsTo, here, passes, begins, left}
use Rattle.pcl_lexer.proofs.Lexing.Spans.{begins-taken, passes-taken}
use Rattle.survey.specs.declared.refusal.Refusal.{Refusal}
use Rattle.survey.specs.declared.part.Onto.{Onto}
use Rattle.survey.specs.declared.part.Onto.TheVariants as onto
use Rattle.survey.specs.declared.part.Part.{Part}
use Rattle.survey.specs.declared.part.Turn.{Turn}
use Rattle.survey.specs.declared.step.Standing as code_standing
use Rattle.survey.specs.declared.step.Standing.TheVariants as standings
use Rattle.survey.specs.Passing.{passed, taken}
use Rattle.survey.specs.Survey.{Standing, Reads, Passes, at_end, ends_so, standing_of}
use Rattle.survey.specs.Turns.{fault_turn}
use Rattle.survey.specs.Carriers.Steps.{Leads, IsStep, counted_in, due, rank, standing_view, waiting_at}
use Rattle.survey.proofs.Stepping.{item_leads, pass_leads, reads_lead, reads_left, turn_leads}
use Rattle.survey.proofs.Surveying.{leads_on}
use Rattle.survey.proofs.Turning.{passed_less, passed_within, turn_less, turn_within}

-- ---- the end of all bytes

none_left_is : (bytes : List ℕ) → (length bytes == 0) ≡ is_none_left bytes
none_left_is [] = refl
none_left_is (b ∷ bytes) =
    let some : (length (b ∷ bytes) == 0) ≡ false = grind (arith, nat_tests) in some

pub reads_end : (context : Context) (place : ℕ) (bytes : List ℕ) (none_left : Bool) (cause : Option LexCause) (item : ℕ)
    (told : Option Refusal) → none_left ≡ (length bytes == 0) → cause ≡ cause_at_end context none_left →
    item ≡ item_place context place → told ≡ ends_so cause item → told ≡ at_end (Reads context) place bytes
reads_end context place bytes none_left cause item told left_is cause_is item_is told_is =
    let same : cause ≡ end_cause context bytes =
    cause_is ∙ ap (λ (none : Bool). cause_at_end context none) (left_is ∙ none_left_is bytes) in
    told_is ∙ (ap (λ (o : Option LexCause). ends_so o item) same ∙ ap (λ (n : ℕ). ends_so (end_cause context bytes) n) item_is)

-- ---- what is left, and what is counted

rank_small : (c : Context) → rank c ≤ 2
rank_small Pcl = omega arith
rank_small (Sequence g) = omega arith
rank_small Frame = omega arith
rank_small (Letters m n) = omega arith
rank_small (Numbered x gap n) = omega arith
rank_small Pjl = omega arith

reads_due : {w : Bool} {c d : Context} {p q : ℕ} {bytes rest : List ℕ} {items : List Placed} → ReadsTo w c p bytes items d q rest →
    due (Reads d) rest ≤ due (Reads c) bytes
reads_due here = omega arith
reads_due (passes {whole = w} {context = c} {context2 = d} {bytes = bytes} len next e h) =
    omega (arith, reads_left h, (passes-taken w c bytes len next e).less, rank_small d)
reads_due (begins {whole = w} {context = c} {context2 = d} {bytes = bytes} entry len next e h) =
    omega (arith, reads_left h, (begins-taken w c bytes entry len next e).less, rank_small d)

onto_counts : (next : Onto) → counted_in (standing_of next) ≡ 0
onto_counts onto.Page = refl
onto_counts (onto.Group group) = refl
onto_counts onto.Frame = refl
onto_counts onto.Lines = refl
onto_counts (onto.Part part) = refl

-- at equal places
leads_at : (whole : Bool) (a b c : Standing) (p q r : ℕ) (xs ys zs : List ℕ) (told : List Refusal) → b ≡ c → q ≡ r → ys ≡ zs →
    Leads whole a p xs told b q ys → Leads whole a p xs told c r zs
leads_at whole a b c p q r xs ys zs told e f g h =
    subst (λ (s : Standing). Leads whole a p xs told s r zs) e
    (subst (λ (n : ℕ). Leads whole a p xs told b n zs) f (subst (λ (l : List ℕ). Leads whole a p xs told b q l) g h))

-- ---- by what stands ahead

module _ (whole : Bool) (context : Context) (dropped start : ℕ) (window : List ℕ) (ahead : Ahead)
    (h : StandsAhead whole context start window ahead) (counts : counted context ≤ dropped + start) where
  abbrev last : Context
  last = context_view ahead.context

  abbrev rest : List ℕ
  rest = drop ahead.start window

  counts_ahead : counted last ≤ dropped + ahead.start
  counts_ahead = omega (arith, h.counts, counts)

  -- an item
  module _ (len : ℕ) (head : Head) (next : code_context.Context) (is : ahead.first ≡ firsts.Begins len head next) where
    abbrev entry : Entry
    entry = head_view head len rest

    first : first_of whole last rest ≡ Begins entry len (context_view next)
    first = sym h.first_is ∙ ap (first_view rest) is

    within : len ≤ length rest
    within = (begins-taken whole last rest entry len (context_view next) first).within

    begins_less : due (Reads (context_view next)) (drop (ahead.start + len) window) < due (Reads context) (drop start window)
    begins_less =
        let less : left (context_view next) (drop len rest) < left last rest =
        (begins-taken whole last rest entry len (context_view next) first).less in
        let same : drop len rest ≡ drop (ahead.start + len) window = drop-drop len ahead.start window in
        let there : left (context_view next) (drop (ahead.start + len) window) < left last rest =
        subst (λ (l : List ℕ). left (context_view next) l < left last rest) same less in
        omega (arith, there, reads_due (h.reads dropped), rank_small (context_view next))

    pub begins_step : IsStep whole (Reads context) dropped start window
        (record { at = ahead.start + len; standing = standings.Reads next; told = None; waits = false })
    begins_step = record {
      inside = omega (arith, within, h.inside, length-drop ahead.start window);
      counts = omega (arith, (begins-taken whole last rest entry len (context_view next) first).counts, counts_ahead);
      leads =
          item_leads whole context last (context_view next) (dropped + start) dropped ahead.start len (drop start window) window entry
          (h.reads dropped) first;
      less = λ e. begins_less;
      no_more = omega (arith, begins_less);
      waits = λ e. absurd cc;
      untold = λ e. absurd cc;
    }

  -- a fault
  module _ (cause : LexCause) (is : ahead.first ≡ firsts.Faulty cause) (standing : code_standing.Standing)
      (stands : standing_view standing
      ≡ standing_of (fault_turn last cause (dropped + ahead.start) (get_or rest 0 0)).onto) where
    abbrev turn : Turn
    turn = fault_turn last cause (dropped + ahead.start) (get_or rest 0 0)

    faulty : first_of whole last rest ≡ Faulty cause
    faulty = sym h.first_is ∙ ap (first_view rest) is

    pub faulty_step : IsStep whole (Reads context) dropped start window
        (record { at = ahead.start + taken turn; standing = standing; told = turn.told; waits = false })
    faulty_step =
        let place : dropped + ahead.start + taken turn ≡ dropped + (ahead.start + taken turn) = omega arith in
        let behind : drop (taken turn) rest ≡ drop (ahead.start + taken turn) window = drop-drop (taken turn) ahead.start window in
        let less : due (standing_of turn.onto) (drop (taken turn) rest) < due (Reads last) rest =
        turn_less whole last rest cause (dropped + ahead.start) faulty in
        let there : due (standing_view standing) (drop (ahead.start + taken turn) window) < due (Reads last) rest =
        subst (λ (l : List ℕ). due (standing_view standing) l < due (Reads last) rest) behind
        (subst (λ (s : Standing). due s (drop (taken turn) rest) < due (Reads last) rest) (sym stands) less) in
        let here : due (standing_view standing) (drop (ahead.start + taken turn) window) < due (Reads context) (drop start window) =
        omega (arith, there, reads_due (h.reads dropped)) in
        record {
          inside =
              omega (arith, turn_within whole last rest cause (dropped + ahead.start) faulty, h.inside, length-drop ahead.start window);
          counts = omega (arith, ap counted_in stands, onto_counts turn.onto);
          leads =
              leads_at whole (Reads context) (standing_of turn.onto) (standing_view standing) (dropped + start)
              (dropped + ahead.start + taken turn) (dropped + (ahead.start + taken turn)) (drop start window) (drop (taken turn) rest)
              (drop (ahead.start + taken turn) window) (option_to_list turn.told) (sym stands) place behind
              (leads_on whole (Reads context) (Reads last) (standing_of turn.onto) (dropped + start) (dropped + ahead.start)
              (dropped + ahead.start + taken turn) (drop start window) rest (drop (taken turn) rest) [] (option_to_list turn.told)
              (reads_lead whole context last (dropped + start) (dropped + ahead.start) (drop start window) rest [] (h.reads dropped))
              (turn_leads whole last (dropped + ahead.start) rest cause faulty));
          less = λ e. here;
          no_more = omega (arith, here);
          waits = λ e. absurd cc;
          untold = λ e. absurd cc;
        }

  -- as the code makes it
  pub faulty_made : (cause : LexCause) → ahead.first ≡ firsts.Faulty cause → (standing : code_standing.Standing) (next : Turn) (b len : ℕ) →
      b ≡ get_or rest 0 0 → next ≡ fault_turn last cause (dropped + ahead.start) b → len ≡ taken next →
      standing_view standing ≡ standing_of next.onto → IsStep whole (Reads context) dropped start window
      (record { at = ahead.start + len; standing = standing; told = next.told; waits = false })
  faulty_made cause is standing next b len b_is next_is len_is stands =
      let made : Turn = fault_turn last cause (dropped + ahead.start) (get_or rest 0 0) in
      let same : next ≡ made = next_is ∙ ap (λ (n : ℕ). fault_turn last cause (dropped + ahead.start) n) b_is in
      let there : standing_view standing ≡ standing_of made.onto = stands ∙ ap (λ (t : Turn). standing_of t.onto) same in
      subst (λ (n : ℕ). IsStep whole (Reads context) dropped start window
      (record { at = ahead.start + n; standing = standing; told = next.told; waits = false }))
      (sym len_is)
      (subst (λ (t : Turn). IsStep whole (Reads context) dropped start window
      (record { at = ahead.start + taken t; standing = standing; told = t.told; waits = false }))
      (sym same) (faulty_step cause is standing there))

  -- nothing more
  pub waits_step : ahead.first ≡ firsts.Open → IsStep whole (Reads context) dropped start window
      (waiting_at ahead.start (standings.Reads ahead.context))
  waits_step is = record {
    inside = h.inside;
    counts = counts_ahead;
    leads = reads_lead whole context last (dropped + start) (dropped + ahead.start) (drop start window) rest [] (h.reads dropped);
    less = λ e. absurd cc;
    no_more = reads_due (h.reads dropped);
    waits = λ e. sym h.first_is ∙ ap (first_view rest) is;
    untold = λ e. refl;
  }

  pub passes_none : (len : ℕ) (next : code_context.Context) → ahead.first ≡ firsts.Passes len next → ⊥
  passes_none len next is = h.stops len (context_view next) (ap (first_view rest) is)

-- ---- bytes that are passed over

pub passed_step : (whole : Bool) (part : Part) (dropped start : ℕ) (window : List ℕ) (b : ℕ) (behind : List ℕ)
    (standing : code_standing.Standing) → start ≤ length window → drop start window ≡ b ∷ behind →
    standing_view standing ≡ standing_of (passed part (dropped + start) b).onto →
    IsStep whole (Passes part) dropped start window (record {
      at = start + taken (passed part (dropped + start) b);
      standing = standing;
      told = (passed part (dropped + start) b).told;
      waits = false;
    })
passed_step whole part dropped start window b behind standing inside is stands =
    let turn : Turn = passed part (dropped + start) b in
    let place : dropped + start + taken turn ≡ dropped + (start + taken turn) = omega arith in
    let after : drop (taken turn) (b ∷ behind) ≡ drop (start + taken turn) window =
    ap (drop (taken turn)) (sym is) ∙ drop-drop (taken turn) start window in
    let leads : Leads whole (Passes part) (dropped + start) (b ∷ behind) (option_to_list turn.told) (standing_view standing)
    (dropped + (start + taken turn)) (drop (start + taken turn) window) =
    leads_at whole (Passes part) (standing_of turn.onto) (standing_view standing) (dropped + start) (dropped + start + taken turn)
    (dropped + (start + taken turn)) (b ∷ behind) (drop (taken turn) (b ∷ behind)) (drop (start + taken turn) window)
    (option_to_list turn.told) (sym stands) place after (pass_leads whole part (dropped + start) b behind) in
    let less : due (standing_view standing) (drop (start + taken turn) window) < due (Passes part) (b ∷ behind) =
    subst (λ (l : List ℕ). due (standing_view standing) l < due (Passes part) (b ∷ behind)) after
    (subst (λ (s : Standing). due s (drop (taken turn) (b ∷ behind)) < due (Passes part) (b ∷ behind)) (sym stands)
    (passed_less part (dropped + start) b behind)) in
    let here : due (standing_view standing) (drop (start + taken turn) window) < due (Passes part) (drop start window) =
    subst (λ (l : List ℕ). due (standing_view standing) (drop (start + taken turn) window) < due (Passes part) l) (sym is) less in
    record {
      inside = omega (arith, passed_within turn b behind, inside, ap length is, length-drop start window);
      counts = omega (arith, ap counted_in stands, onto_counts turn.onto);
      leads =
          subst (λ (l : List ℕ). Leads whole (Passes part) (dropped + start) l (option_to_list turn.told) (standing_view standing)
          (dropped + (start + taken turn)) (drop (start + taken turn) window)) (sym is) leads;
      less = λ e. here;
      no_more = omega (arith, here);
      waits = λ e. absurd cc;
      untold = λ e. absurd cc;
    }

-- as the code makes it
pub passed_made : (whole : Bool) (part : Part) (dropped start : ℕ) (window : List ℕ) (standing : code_standing.Standing) (next : Turn)
    (len : ℕ) → start < length window → next ≡ passed part (dropped + start) (get_or window start 0) → len ≡ taken next →
    standing_view standing ≡ standing_of next.onto → IsStep whole (Passes part) dropped start window
    (record { at = start + len; standing = standing; told = next.told; waits = false })
passed_made whole part dropped start window standing next len within next_is len_is stands =
    let b : ℕ = get_or window start 0 in
    let made : Turn = passed part (dropped + start) b in
    let there : standing_view standing ≡ standing_of made.onto = stands ∙ ap (λ (t : Turn). standing_of t.onto) next_is in
    let inside : start ≤ length window = omega arith in
    subst (λ (n : ℕ). IsStep whole (Passes part) dropped start window
    (record { at = start + n; standing = standing; told = next.told; waits = false }))
    (sym len_is)
    (subst (λ (t : Turn). IsStep whole (Passes part) dropped start window
    (record { at = start + taken t; standing = standing; told = t.told; waits = false }))
    (sym next_is)
    (passed_step whole part dropped start window b (drop (suc start) window) standing inside (drop-cons window start 0 within) there))

pub empty_step : (whole : Bool) (part : Part) (dropped start : ℕ) (window : List ℕ) → start ≤ length window → drop start window ≡ [] →
    IsStep whole (Passes part) dropped start window
    (waiting_at start (standings.Passes part))
empty_step whole part dropped start window inside is = record {
  inside = inside;
  counts = omega arith;
  leads = λ more others none t. t;
  less = λ e. absurd cc;
  no_more = omega arith;
  waits = λ e. is;
  untold = λ e. refl;
}
