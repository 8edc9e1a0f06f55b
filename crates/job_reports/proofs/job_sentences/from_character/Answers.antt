use Rattle.std.proofs.Common.{◌∙◌, ◌<◌, arith, length, sym}
use Rattle.std.proofs.lemmas.List.{at_drop_all, take_rest}
use Rattle.job_reports.specs.JobSentences.{from_character}
use Rattle.job_reports.proofs.Cutting.{itself_at, past_at}
use Rattle.job_reports.proofs.job_sentences.from_character.Goals as goal

pub returns-then-begins_character : goal.returns-then-begins_character
returns-then-begins_character c =
    let text = c.args.text.now in
    let start = c.loop-start.start in
    let within : start < length text = omega arith in
    rw take_rest
    (itself_at text start c.begins_character.result within c.begins_character.ensures c.if-begins_character.true
    ∙ c.loop-start.invariant)

pub loop-start-preserved : goal.loop-start-preserved
loop-start-preserved c =
    let text = c.args.text.now in
    let start = c.loop-start.start in
    let within : start < length text = omega arith in
    sym (past_at text start c.begins_character.result within c.begins_character.ensures c.if-begins_character.false)
    ∙ c.loop-start.invariant

pub returns : goal.returns
returns c =
    sym (at_drop_all from_character c.args.text.now c.loop-start.start c.loop-start-test.false) ∙ c.loop-start.invariant
