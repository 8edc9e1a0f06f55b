use Rattle.command_names.proofs.TableLaws.{tells_language}
use Rattle.command_names.proofs.laws.commands_are_told.Goals as goal

pub returns : goal.returns
returns c = tells_language
