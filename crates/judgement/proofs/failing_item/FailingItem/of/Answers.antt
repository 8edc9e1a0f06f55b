use Rattle.std.proofs.Common.{ap}
use Rattle.pcl_items.specs.Items.{view}
use Rattle.pcl_items.specs.PjlLines.View.{pjl_view}
use Rattle.judgement.proofs.failing_item.FailingItem.of.Goals as goal

pub returns-in-PjlLine : goal.returns-in-PjlLine
returns-in-PjlLine c = (pjl_view c.in-PjlLine.field-0.command, ap view c.in-PjlLine.is)
