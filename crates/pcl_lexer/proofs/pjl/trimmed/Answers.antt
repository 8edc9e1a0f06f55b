use Rattle.std.proofs.Common.{◌∙◌, sym, arith}
use Rattle.pcl_lexer.proofs.PjlLines.Trims.{solid_last, none_left}
use Rattle.pcl_lexer.proofs.pjl.trimmed.Goals as goal
use Rattle.pcl_lexer.proofs.pjl.trimmed.Goals.{then-loop-len-test+else-is_blank, else-loop-len-test}

pub returns : goal.returns
returns c =
    elim c.loop-len-test.branch [
      | then-loop-len-test+else-is_blank w ↦
          sym (solid_last c.args.bytes.now c.loop-len.len w.loop-len-test.true c.loop-len.invariant.0
          (sym w.is_blank.ensures ∙ w.if-is_blank.false))
          ∙ c.loop-len.invariant.1
      | else-loop-len-test w ↦ none_left c.args.bytes.now c.loop-len.len (omega arith) c.loop-len.invariant.1
    ]
