use Rattle.std.proofs.Common.{string_bytes}
use Rattle.many_jobs.proofs.JsonTextFacts.{more_plain, more_doubled}
use Rattle.many_jobs.proofs.json_texts.with_backslashes_doubled.Goals.{then-character-eq92+in_ok-push, else-character-eq92}
use Rattle.many_jobs.proofs.json_texts.with_backslashes_doubled.Goals as goal

pub loop-character-preserved : goal.loop-character-preserved
loop-character-preserved c =
    elim c.if-character-eq92.branch [
      | then-character-eq92+in_ok-push w ↦
          more_doubled c.in-Some.character c.loop-character.yielded _
          (string_bytes w.push.new.self) _ w.if-character-eq92.true c.loop-character.invariant
          w.in_ok-push.ensures.bytes (cc c.in_ok-push-2.ensures.bytes)
      | else-character-eq92 w ↦
          more_plain c.in-Some.character c.loop-character.yielded _ _ w.if-character-eq92.false c.loop-character.invariant
          (cc c.in_ok-push-2.ensures.bytes)
    ]
