use Rattle.profile_commands.proofs.AskedPapers.{line_told}
use Rattle.profile_commands.proofs.new.refuse_paper.Goals as goal

pub returns-in-Unknown-clause-line : goal.returns-in-Unknown-clause-line
returns-in-Unknown-clause-line g c =
    line_told _ _ _ _ _ _ _ _ c.in-Unknown.is c.as_bytes-model.ensures.value c.as_bytes-paper.ensures.value c.write_pieces.ensures

pub returns-in-NotHeld-clause-line : goal.returns-in-NotHeld-clause-line
returns-in-NotHeld-clause-line g c =
    line_told _ _ _ _ _ _ _ _ c.in-NotHeld.is c.as_bytes-model.ensures.value c.as_bytes-paper.ensures.value
    c.write_pieces-in-NotHeld.ensures

pub returns-in-Repeated-clause-line : goal.returns-in-Repeated-clause-line
returns-in-Repeated-clause-line g c =
    line_told _ _ _ _ _ _ _ _ c.in-Repeated.is c.as_bytes-model.ensures.value c.as_bytes-paper.ensures.value
    c.write_pieces-in-Repeated.ensures
