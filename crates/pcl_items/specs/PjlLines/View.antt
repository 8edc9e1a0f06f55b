-- Lines without where their texts lie in memory.
use Rattle.pcl_items.specs.declared.pjl.PjlCommand as code
use Rattle.pcl_items.specs.declared.pjl.PjlCommand.TheVariants as lines
use Rattle.pcl_items.specs.declared.owned.OwnedPjlCommand as owned
use Rattle.pcl_items.specs.declared.owned.OwnedPjlCommand.TheVariants as kept
use Rattle.pcl_items.specs.PjlLines.Text.{PjlCommand, Bare, Remark, JobBegins, JobEnds, EnterPcl}

abbrev pub pjl_view : code.PjlCommand → PjlCommand
pjl_view lines.Bare = Bare
pjl_view (lines.Remark text) = Remark text.now
pjl_view (lines.JobBegins text) = JobBegins text.now
pjl_view (lines.JobEnds text) = JobEnds text.now
pjl_view lines.EnterPcl = EnterPcl

abbrev pub owned_pjl_view : {A : Type 0} → owned.OwnedPjlCommand A → PjlCommand
owned_pjl_view kept.Bare = Bare
owned_pjl_view (kept.Remark text) = Remark text.items
owned_pjl_view (kept.JobBegins text) = JobBegins text.items
owned_pjl_view (kept.JobEnds text) = JobEnds text.items
owned_pjl_view kept.EnterPcl = EnterPcl
