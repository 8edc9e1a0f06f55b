use Rattle.std.proofs.Common.{ap, sym, subst, IfOk}
use Rattle.named_inputs.specs.FileState.{FileState}
use Rattle.named_inputs.specs.Texts.{IsTextBy}
use Rattle.named_inputs.proofs.file_texts.FileTextsProfileTexts.read_text.Goals as goal

pub returns-in-Ok-clause-reads : goal.returns-in-Ok-clause-reads
returns-in-Ok-clause-reads g c =
    let read = c.read_named-result in
    subst (λ pieces. IfOk read.result (λ text. IsTextBy pieces text.items))
    (sym (ap (λ (s : FileState). s.reads) c.self.view_is)) read.ensures.reads
