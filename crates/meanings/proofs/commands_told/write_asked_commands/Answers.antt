use Rattle.std.proofs.Common.{rules, option_map, sym, ◌∙◌}
use Rattle.streams.proofs.OutletFacts.{Adds-none}
use Rattle.meanings.proofs.ExplainFacts.{told_cut, told_more, told_past, told_to_the_end}
use Rattle.meanings.specs.CommandsTold.{asks_of}
use Rattle.meanings.proofs.commands_told.write_asked_commands.Goals.{then-asks_of+in_ok-write_text, else-asks_of}
use Rattle.meanings.proofs.commands_told.write_asked_commands.Goals as goal

pub returns-in_err-write_text-clause-text : goal.returns-in_err-write_text-clause-text
returns-in_err-write_text-clause-text g c =
    told_cut (asks_of (option_map (λ word. word.now) c.args.code))
    (λ text. text.now) c.args.commands.now c.loop-text.text-index _ _ _ _ (search rules)
    c.loop-text.invariant.1 _ (search rules) c.as_bytes.ensures.value (search rules) c.write_text.ensures.text.front

pub loop-text-init : goal.loop-text-init
loop-text-init g c = (search rules, Adds-none _)

pub loop-text-preserved : goal.loop-text-preserved
loop-text-preserved g c =
    elim c.if-asks_of.branch [
      | then-asks_of+in_ok-write_text w ↦ (
        search rules,
        rw w.stdout-is
            (told_more (asks_of (option_map (λ word. word.now) c.args.code))
            (λ text. text.now) c.args.commands.now c.loop-text.text-index _ _ _ _
            (search rules) c.loop-text.invariant.1 _ w.as_bytes.ensures.value (search rules)
            (w.write_text.ensures.text.whole (search rules))),
      )
      | else-asks_of w ↦ (
        search rules,
        rw w.stdout-is
            (told_past (asks_of (option_map (λ word. word.now) c.args.code))
            (λ text. text.now) c.args.commands.now c.loop-text.text-index _ _ _
            (search rules) c.loop-text.invariant.1 (sym c.asks_of.ensures ∙ w.if-asks_of.false)),
      )
    ]

pub returns-clause-text : goal.returns-clause-text
returns-clause-text g c =
    told_to_the_end (asks_of (option_map (λ word. word.now) c.args.code))
    (λ text. text.now) c.args.commands.now c.loop-text.text-index _ _ c.loop-text-test.false c.loop-text.invariant.1
