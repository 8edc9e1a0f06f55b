use Rattle.std.proofs.Common.{sym, subst}
use Rattle.std.specs.Prelude.{MatchOption}
use Rattle.pcl_items.specs.declared.item.Mode.{Mode}
use Rattle.pcl_items.specs.Items.{view}
use Rattle.pcl_spelling.specs.Spellings.Spelled.{StandsAt, NothingStands}
use Rattle.pcl_spelling.proofs.spelling.first_spelled.Goals as goal

pub returns-in-Pcl : goal.returns-in-Pcl
returns-in-Pcl c =
    subst
    (λ (mode : Mode). MatchOption c.first_spelled_between.result (NothingStands mode c.args.bytes.now 0)
    (λ found. StandsAt mode c.args.bytes.now 0 (view found.0) found.1 found.2))
    (sym c.in-Pcl.is) c.first_spelled_between.ensures

pub returns-in-Frame : goal.returns-in-Frame
returns-in-Frame c =
    subst
    (λ (mode : Mode). MatchOption c.first_of_frame.result (NothingStands mode c.args.bytes.now 0)
    (λ found. StandsAt mode c.args.bytes.now 0 (view found.0) found.1 found.2))
    (sym c.in-Frame.is) c.first_of_frame.ensures

pub returns-in-Pjl : goal.returns-in-Pjl
returns-in-Pjl c =
    subst
    (λ (mode : Mode). MatchOption c.first_in_pjl.result (NothingStands mode c.args.bytes.now 0)
    (λ found. StandsAt mode c.args.bytes.now 0 (view found.0) found.1 found.2))
    (sym c.in-Pjl.is) c.first_in_pjl.ensures
