use Rattle.std.proofs.Common.{subst}
use Rattle.std.proofs.lemmas.List.{take_rest}
use Rattle.pcl_spelling.specs.Spellings.Spelled.{NothingStands}
use Rattle.pcl_spelling.proofs.Spellings.ReadAgain.{nothing_there}
use Rattle.pcl_spelling.proofs.spelling.item_at.Goals as goal

pub returns-in-None : goal.returns-in-None
returns-in-None c =
    nothing_there c.args.mode c.args.bytes.now c.args.at
    (subst (λ bytes. NothingStands c.args.mode bytes 0) (take_rest c.args.bytes.now c.args.at) c.in-None.ensures)
