use Rattle.std.proofs.Common.{◌∙◌, ap, option_map, sym}
use Rattle.named_inputs.specs.FileJobs.{is_input}
use Rattle.file_requests.proofs.OnFiles.{answered_by_file}
use Rattle.file_requests.proofs.profiles.from_pjl.Goals as goal

pub from_input-requires-clause-input : goal.from_input-requires-clause-input
from_input-requires-clause-input g c = ap is_input (sym c.as_bytes.ensures.value) ∙ sym c.is_input.ensures ∙ c.if-is_input.true

pub returns : goal.returns
returns g c =
    let is = ap is_input (sym c.as_bytes.ensures.value) ∙ sym c.is_input.ensures ∙ c.if-is_input.false in
    answered_by_file c.args.answer.now _ (option_map (λ word. word.now) c.args.base) _ _ _ _ _ _ _ _ _ _ _ _ _ _ _
    c.new-texts.ensures.given c.new-source.ensures.file c.profile_from_pjl-status.ensures.left
    c.new-texts.ensures.named c.profile_from_pjl-status.ensures.named c.end.ensures
    is c.new-source.ensures.path c.read.ensures
