use Rattle.std.proofs.Common.{ℕ, List, get_or, ap, subst, sym, ◌∙◌}
use Rattle.std.proofs.lemmas.List.{take_rest}
use Rattle.pcl_lexer.specs.Lexing.FirstView.{context_view}
use Rattle.survey.specs.declared.step.Step.{Step}
use Rattle.survey.specs.Survey.{Reads}
use Rattle.survey.specs.Carriers.Steps.{IsStep}
use Rattle.survey.proofs.Steps.{begins_step, faulty_made, passes_none, waits_step}
use Rattle.survey.proofs.step.read_at.Goals as goal

pub returns-in-Begins : goal.returns-in-Begins
returns-in-Begins c =
    begins_step c.args.whole (context_view c.args.context) c.args.dropped c.args.start c.args.window.now c.next_ahead-start.result
    c.next_ahead-start.ensures c.requires.counts c.in-Begins.len _ c.in-Begins.next c.in-Begins.is

pub returns-in-Faulty : goal.returns-in-Faulty
returns-in-Faulty c =
    let window : List ℕ = c.args.window.now in
    faulty_made c.args.whole (context_view c.args.context) c.args.dropped c.args.start window c.next_ahead-start.result
    c.next_ahead-start.ensures c.requires.counts c.in-Faulty.cause c.in-Faulty.is c.of.result c.fault_turn-next.result
    c.first_byte-byte.result c.taken.result
    (c.first_byte-byte.ensures ∙ ap (λ (l : List ℕ). get_or l 0 0) (take_rest window c.next_ahead-start.result.start))
    c.fault_turn-next.ensures c.taken.ensures.bytes c.of.ensures

pub returns-in-Open : goal.returns-in-Open
returns-in-Open c =
    subst (λ (s : Step). IsStep c.args.whole (Reads (context_view c.args.context)) c.args.dropped c.args.start c.args.window.now s)
    (sym c.waiting.ensures)
    (waits_step c.args.whole (context_view c.args.context) c.args.dropped c.args.start c.args.window.now c.next_ahead-start.result
    c.next_ahead-start.ensures c.requires.counts c.in-Open.is)

pub returns-in-Passes : goal.returns-in-Passes
returns-in-Passes c =
    absurd (passes_none c.args.whole (context_view c.args.context) c.args.dropped c.args.start c.args.window.now
    c.next_ahead-start.result c.next_ahead-start.ensures c.requires.counts _ _ c.in-Passes.is)
