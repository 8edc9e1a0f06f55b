use Rattle.std.proofs.Common.{◌+◌, ap, rules}
use Rattle.named_inputs.proofs.FleetFacts.{named_all, named_front, named_more}
use Rattle.profile_commands.proofs.ReadTexts.{AreRead-next, stops_at, stops_behind}
use Rattle.profile_commands.proofs.lint.read_all.Goals as goal

pub returns-in-Err-clause-none : goal.returns-in-Err-clause-none
returns-in-Err-clause-none g c =
    let start = g.T.ProfileTexts.text_of c.args.texts.now in
    stops_at start (λ word. word.now) c.args.words.now c.loop-word.word-index _ _ _ _ _ _ _ _ _ _ (search rules)
    (ap g.E.Outlet.state c.loop-word.invariant.2) c.loop-word.invariant.3 c.in-Err.ensures.none

pub returns-in_default-clause-none : goal.returns-in_default-clause-none
returns-in_default-clause-none g c =
    let start = g.T.ProfileTexts.text_of c.args.texts.now in
    let now = g.T.ProfileTexts.text_of c.loop-word.texts in
    let read =
    AreRead-next start now (λ word. word.now) c.args.words.now c.loop-word.word-index _ _ _ _ _ _
    (search rules) c.loop-word.invariant.1 c.loop-word.invariant.3 c.in-Ok.ensures.text in
    stops_behind start (λ word. word.now) c.args.words.now (c.loop-word.word-index + 1) _ _ _ _ _ _ read
    (ap g.E.Outlet.state (search rules))

pub loop-word-preserved : goal.loop-word-preserved
loop-word-preserved g c =
    let start = g.T.ProfileTexts.text_of c.args.texts.now in
    let now = g.T.ProfileTexts.text_of c.loop-word.texts in (
      search rules,
      search rules,
      search rules,
      rw c.in-Ok-push_text.ensures
          (AreRead-next start now (λ word. word.now) c.args.words.now c.loop-word.word-index _ _ _ _ _ _
          (search rules) c.loop-word.invariant.1 c.loop-word.invariant.3 c.in-Ok.ensures.text),
      named_more (λ word. word.now) c.args.words.now c.loop-word.word-index _ _ _ _ (search rules) c.loop-word.invariant.4
          c.read_text.ensures.named,
    )

pub returns-in-Err-clause-named : goal.returns-in-Err-clause-named
returns-in-Err-clause-named g c =
    named_front (λ word. word.now) c.args.words.now c.loop-word.word-index _ _ _ _ (search rules) c.loop-word.invariant.4
    c.read_text.ensures.named

pub returns-in_default-clause-named : goal.returns-in_default-clause-named
returns-in_default-clause-named g c =
    named_front (λ word. word.now) c.args.words.now c.loop-word.word-index _ _ _ _ (search rules) c.loop-word.invariant.4
    c.read_text.ensures.named

pub returns-clause-named : goal.returns-clause-named
returns-clause-named g c =
    named_all (λ word. word.now) c.args.words.now c.loop-word.word-index _ _ c.loop-word.invariant.4 (search rules)
