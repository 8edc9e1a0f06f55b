-- What an item that is kept stands for.
use Rattle.pcl_items.specs.declared.owned.OwnedItem.{OwnedItem}
use Rattle.pcl_items.specs.declared.owned.OwnedItem.TheVariants as owned
use Rattle.pcl_items.specs.Items.{Entry, Text, simple_view, WithData, PjlLine}
use Rattle.pcl_items.specs.PjlLines.View.{owned_pjl_view}

-- the same of an item that is kept
abbrev pub owned_view : {A : Type 0} → OwnedItem A → Entry
owned_view (owned.Text byte) = Text byte.code
owned_view (owned.Simple item) = simple_view item
owned_view (owned.WithData command «data») = WithData command «data».bytes.items
owned_view (owned.PjlLine spelled) = PjlLine (owned_pjl_view spelled.command)
