use Rattle.std.proofs.Common.{◌∙◌, List, ℕ, ap, sym}
use Rattle.job_rows.specs.Links.{behind_slash}
use Rattle.job_rows.proofs.links.last_part.Goals as goal

pub loop-first-preserved : goal.loop-first-preserved
loop-first-preserved c =
    ap (λ (part : List ℕ). behind_slash part c.in-Some.behind.now) c.later_part-part.ensures
    ∙ sym (ap (behind_slash c.loop-first.part.now) c.in-Some.ensures.cut) ∙ c.loop-first.invariant

pub returns : goal.returns
returns c = sym (ap (behind_slash c.loop-first.part.now) c.in_default.ensures.cut) ∙ c.loop-first.invariant
