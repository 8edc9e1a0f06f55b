use Rattle.std.proofs.Common.{[], ◌∷◌, arith, inl, inr, refl, sym}
use Rattle.std.specs.Prelude.{Contains}
use Rattle.file_requests.proofs.OnFiles.{picture_left}
use Rattle.file_requests.proofs.job_texts.picture.Goals as goal

pub returns-then-is_pipe : goal.returns-then-is_pipe
returns-then-is_pipe g c =
    let jobs = c.args.asked.now.job.now ∷ [] in
    let is_one : Contains jobs c.as_bytes-then-is_pipe.result.now = (0, omega arith, sym c.as_bytes-then-is_pipe.ensures.value) in
    inr (c.refuse_pipe.ensures jobs is_one, refl, refl)

pub returns : goal.returns
returns g c =
    let asked = c.args.asked.now in
    let left = c.picture-status.ensures in
    inl
    (picture_left asked.setting.profile.now asked.setting.choices.now asked.selection asked.job.now _ _ _ _ _ _ _ _ _ _ _ _ _ _ _ _ _
    _ _ _
    c.new-texts.ensures.given c.new-first.ensures.file c.new-second.ensures.file
    left.left left.read left.write left.turns left.refusal left.refused left.choice
    c.new-texts.ensures.named left.named c.end.ensures
    c.new-first.ensures.path c.new-second.ensures.path c.read.ensures c.read-2.ensures)
