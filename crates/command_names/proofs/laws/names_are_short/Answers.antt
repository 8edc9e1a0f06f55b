use Rattle.command_names.proofs.TableLaws.{name_is_short}
use Rattle.command_names.proofs.laws.names_are_short.Goals as goal

pub returns : goal.returns
returns c = name_is_short
