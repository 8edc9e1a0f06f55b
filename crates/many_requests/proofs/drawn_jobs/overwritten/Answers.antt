use Rattle.std.proofs.Common.{◌∙◌, List, inl, inr, refl, subst}
use Rattle.compare_command.specs.Compare.{asked_for}
use Rattle.streams.specs.Used.{FileUse}
use Rattle.many_requests.specs.DrawnJobs.{FindsInput}
use Rattle.many_requests.proofs.LookFacts.{found_behind}
use Rattle.many_requests.proofs.drawn_jobs.overwritten.Goals as goal

pub returns-then-is_old : goal.returns-then-is_old
returns-then-is_old g c =
    (c.args.asked.now.old_name.now, inl refl, c.is_same_file-is_old.ensures.told c.if-is_old.true)

pub returns-then-is_new : goal.returns-then-is_new
returns-then-is_new g c = (
  c.args.asked.now.new_name.now,
  inr refl,
  found_behind _ c.args.used.now c.is_same_file-is_old.new.self c.is_same_file-is_new.new.self
      (c.is_same_file-is_old.ensures.quiet c.if-is_old.false)
      (c.is_same_file-is_new.ensures.told c.if-is_new.true),
)

pub returns : goal.returns
returns g c =
    subst
    (λ (used : List FileUse). FindsInput (asked_for c.args.asked.now) c.args.path.now c.overwritten_profile.result used
    c.overwritten_profile.new.used)
    (c.is_same_file-is_new.ensures.quiet c.if-is_new.false ∙ c.is_same_file-is_old.ensures.quiet c.if-is_old.false)
    c.overwritten_profile.ensures
