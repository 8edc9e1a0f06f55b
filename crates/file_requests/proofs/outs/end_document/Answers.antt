use Rattle.std.proofs.Common.{◌∙◌, inl, inr, refl, sym}
use Rattle.file_requests.proofs.outs.end_document.Goals as goal

pub returns-in-Ok : goal.returns-in-Ok
returns-in-Ok g c =
    let ended = c.in-Ok.ensures.ended in
    inl (refl, ended.0, ended.1 ∙ c.is_whole.ensures)

pub returns-in-Err : goal.returns-in-Err
returns-in-Err g c =
    let failed = c.in-Err.ensures.failed in
    inr (refl, sym c.is_whole.ensures ∙ failed.0, failed.1, failed.2)
