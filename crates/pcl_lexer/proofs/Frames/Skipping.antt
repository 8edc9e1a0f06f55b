-- Bytes of a frame that end no item are passed over, up to what stands first behind them.
use Rattle.std.proofs.Common.{◌≡◌, ℕ, ◌+◌, ◌<◌, ◌≤◌, List, [], length, drop, Bool, refl, sym, ap, subst, ◌∙◌, arith}
use Rattle.std.proofs.lemmas.List.{drop-drop, length-drop}
use Rattle.pcl_lexer.specs.declared.lexer.ahead.Ahead.{Ahead}
use Rattle.pcl_lexer.specs.declared.lexer.first.First as code
use Rattle.pcl_lexer.specs.declared.lexer.first.First.TheVariants as firsts
use Rattle.pcl_lexer.specs.declared.lexer.first.Context as code_context
use Rattle.pcl_lexer.specs.Lexing.Contexts.{Context, counted}
use Rattle.pcl_lexer.specs.Reader.{Passes, first_of}
use Rattle.pcl_lexer.specs.Lexing.FirstView.{context_view, first_view, Within, FirstHasPjl, len_of, counted_after}
use Rattle.pcl_lexer.specs.Reading.{ReadsTo, here, passes, left}
use Rattle.pcl_lexer.specs.Lexing.Ahead.{StandsAhead}
use Rattle.pcl_lexer.proofs.Reading.ReadsTo.{ReadsTo-at, ReadsTo-append}
use Rattle.pcl_lexer.proofs.Lexing.Spans.{passes-taken}

-- so far no item has ended
pub record PassesTo (whole : Bool) (context : Context) (start : ℕ) (window : List ℕ) (next : Context) (end : ℕ) : Type 0 where
  pub reads : (dropped : ℕ) → ReadsTo whole context (dropped + start) (drop start window) [] next (dropped + end) (drop end window)
  pub inside : end ≤ length window
  pub counts : counted next + start ≤ counted context + end

pub stays_here : (whole : Bool) (context : Context) (start : ℕ) (window : List ℕ) → start ≤ length window →
    PassesTo whole context start window context start
stays_here whole context start window h = record { reads = λ dropped. here; inside = h; counts = omega arith }

pub one_pass : (whole : Bool) (c next : Context) (window : List ℕ) (start dropped len : ℕ) →
    first_of whole c (drop start window) ≡ Passes len next →
    ReadsTo whole c (dropped + start) (drop start window) [] next (dropped + (start + len)) (drop (start + len) window)
one_pass whole c next window start dropped len e =
    let place : dropped + start + len ≡ dropped + (start + len) = omega arith in
    subst (λ (l : List ℕ). ReadsTo whole c (dropped + start) (drop start window) [] next (dropped + (start + len)) l)
    (drop-drop len start window)
    (passes len next e (ReadsTo-at refl refl place here))

-- the first of the bytes there, by the code
abbrev IsPass : Bool → Context → List ℕ → code.First → ℕ → code_context.Context → Type 0
IsPass whole c bytes first len next = (first_view bytes first ≡ first_of whole c bytes) × (first ≡ firsts.Passes len next)

passed : (whole : Bool) (c : Context) (bytes : List ℕ) (first : code.First) (len : ℕ) (next : code_context.Context) →
    IsPass whole c bytes first len next → first_of whole c bytes ≡ Passes len (context_view next)
passed whole c bytes first len next p = sym p.0 ∙ ap (first_view bytes) p.1

pub passes_on : (whole : Bool) (context : Context) (start : ℕ) (window : List ℕ) (c : Context) (end : ℕ) (first : code.First) (len : ℕ)
    (next : code_context.Context) →
    PassesTo whole context start window c end → IsPass whole c (drop end window) first len next →
    PassesTo whole context start window (context_view next) (end + len)
passes_on whole context start window c end first len next h p =
    let e = passed whole c (drop end window) first len next p in
    let t = passes-taken whole c (drop end window) len (context_view next) e in
    record {
      reads = λ dropped. ReadsTo-append (h.reads dropped) (one_pass whole c (context_view next) window end dropped len e);
      inside = omega (arith, t.within, length-drop end window, h.inside);
      counts = omega (arith, t.counts, h.counts);
    }

pub less_left : (whole : Bool) (c : Context) (window : List ℕ) (end : ℕ) (first : code.First) (len : ℕ) (next : code_context.Context) →
    IsPass whole c (drop end window) first len next → left (context_view next) (drop (end + len) window) < left c (drop end window)
less_left whole c window end first len next p =
    let t = passes-taken whole c (drop end window) len (context_view next) (passed whole c (drop end window) first len next p) in
    subst (λ (l : List ℕ). left (context_view next) l < left c (drop end window)) (drop-drop len end window) t.less

-- the counts stay small
pub still_counts : (whole : Bool) (context c : Context) (start end most : ℕ) (window : List ℕ) → PassesTo whole context start window c end →
    start ≤ length window →
    counted context + length (drop start window) ≤ most → counted c + length (drop end window) ≤ most
still_counts whole context c start end most window h inside bound =
    omega (arith, h.counts, h.inside, inside, bound, length-drop start window, length-drop end window)

no_pass : (bytes : List ℕ) (first : code.First) → ((len : ℕ) (next : code_context.Context) → first ≡ firsts.Passes len next → ⊥) → (len : ℕ)
    (next : Context) → first_view bytes first ≡ Passes len next → ⊥
no_pass bytes firsts.Open h len next e = absurd cc
no_pass bytes (firsts.Passes n d) h len next e = absurd (h n d refl)
no_pass bytes (firsts.Begins n head d) h len next e = absurd cc
no_pass bytes (firsts.Faulty cause) h len next e = absurd cc

-- what stands behind them
pub stands_ahead : (whole : Bool) (context : Context) (start : ℕ) (window : List ℕ) (ahead : Ahead) →
    PassesTo whole context start window (context_view ahead.context) ahead.start →
    first_view (drop ahead.start window) ahead.first ≡ first_of whole (context_view ahead.context) (drop ahead.start window) →
    Within (length (drop ahead.start window)) ahead.first →
    FirstHasPjl (drop ahead.start window) ahead.first →
    counted_after (first_view (drop ahead.start window) ahead.first)
    ≤ counted (context_view ahead.context) + len_of (first_view (drop ahead.start window) ahead.first) →
    ((len : ℕ) (next : code_context.Context) → ahead.first ≡ firsts.Passes len next → ⊥) →
    StandsAhead whole context start window ahead
stands_ahead whole context start window ahead h e w l k n = record {
  reads = h.reads;
  inside = h.inside;
  counts = h.counts;
  first_is = e;
  stops = no_pass (drop ahead.start window) ahead.first n;
  within = w;
  line = l;
  after = k;
}
