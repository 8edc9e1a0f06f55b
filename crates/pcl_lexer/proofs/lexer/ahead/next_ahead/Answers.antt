use Rattle.std.proofs.Common.{◌≡◌, ◌+◌, ◌-◌, ◌^◌, ◌≤◌, ℕ, List, Bool, length, take, drop, sym, subst}
use Rattle.std.proofs.lemmas.List.{take_rest}
use Rattle.pcl_lexer.specs.declared.lexer.first.Context as code_context
use Rattle.pcl_lexer.specs.declared.lexer.first.First as code
use Rattle.pcl_lexer.specs.Lexing.Contexts.{counted}
use Rattle.pcl_lexer.specs.Lexing.FirstView.{context_view, first_view, Within}
use Rattle.pcl_lexer.specs.Reader.{first_of}
use Rattle.pcl_lexer.proofs.Frames.Skipping.{stays_here, passes_on, less_left, still_counts, stands_ahead}
use Rattle.pcl_lexer.proofs.Lexing.Spans.{first_counted}
use Rattle.pcl_lexer.proofs.PjlLines.Heads.{first_has_line}
use Rattle.pcl_lexer.proofs.lexer.ahead.next_ahead.Goals as goal

-- what stands first in the slice stands first from its place on
there : (window : List ℕ) (at : ℕ) (first : code.First) (whole : Bool) (context : code_context.Context) →
    first_view (take (length window - at) (drop at window)) first
    ≡ first_of whole (context_view context) (take (length window - at) (drop at window)) →
    first_view (drop at window) first ≡ first_of whole (context_view context) (drop at window)
there window at first whole context =
    subst (λ (l : List ℕ). first_view l first ≡ first_of whole (context_view context) l) (take_rest window at)

pub loop-len-init : goal.loop-len-init
loop-len-init c = stays_here c.args.whole (context_view c.args.context) c.args.start c.args.window.now c.requires.inside

pub loop-len-preserved : goal.loop-len-preserved
loop-len-preserved c =
    let first = there c.args.window.now c.loop-len.at c.first_ahead.result c.args.whole c.loop-len.before c.first_ahead.ensures.first in
    passes_on c.args.whole (context_view c.args.context) c.args.start c.args.window.now (context_view c.loop-len.before) c.loop-len.at
    c.first_ahead.result c.in-Passes.len c.in-Passes.next c.loop-len.invariant (first, c.in-Passes.is)

pub loop-len-smaller : goal.loop-len-smaller
loop-len-smaller c =
    let first = there c.args.window.now c.loop-len.at c.first_ahead.result c.args.whole c.loop-len.before c.first_ahead.ensures.first in
    less_left c.args.whole (context_view c.loop-len.before) c.args.window.now c.loop-len.at c.first_ahead.result c.in-Passes.len
    c.in-Passes.next (first, c.in-Passes.is)

pub first_ahead-requires : goal.first_ahead-requires
first_ahead-requires c =
    let window = c.args.window.now in
    let at = c.loop-len.at in
    subst (λ (l : List ℕ). counted (context_view c.loop-len.before) + length l ≤ 2 ^ 62) (sym (take_rest window at))
    (still_counts c.args.whole (context_view c.args.context) (context_view c.loop-len.before) c.args.start at
    (2 ^ 62) window c.loop-len.invariant c.requires.inside c.requires.counts)

pub returns-in_default : goal.returns-in_default
returns-in_default c =
    let window = c.args.window.now in
    let at = c.loop-len.at in
    let before = c.loop-len.before in
    let result = c.first_ahead.result in
    let first = there window at result c.args.whole before c.first_ahead.ensures.first in
    let within = subst (λ (l : List ℕ). Within (length l) result) (take_rest window at) c.first_ahead.ensures.within in
    stands_ahead c.args.whole (context_view c.args.context) c.args.start window _ c.loop-len.invariant first within
    (first_has_line result c.args.whole before (drop at window) first)
    (first_counted result c.args.whole before (drop at window) first)
    c.in_default.not-Passes
