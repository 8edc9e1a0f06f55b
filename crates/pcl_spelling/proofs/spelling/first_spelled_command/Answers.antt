use Rattle.std.proofs.Common.{true, refl}
use Rattle.pcl_items.specs.declared.item.Mode.TheVariants.{Pcl}
use Rattle.pcl_spelling.proofs.Spellings.ReadAgain.{spelled_stands, stands_as}
use Rattle.pcl_spelling.proofs.spelling.first_spelled_command.Goals as goal

pub returns : goal.returns
returns c =
    stands_as Pcl c.args.bytes.now 0 _ _ (spelled_stands c.args.bytes.now c.requires _ _ _ (c.in_ok-read.ensures.0 true)) refl
