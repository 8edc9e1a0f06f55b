use Rattle.std.proofs.Common.{[], Err, Ok, false, subst}
use Rattle.device_profile.specs.declared.panel.Panel.{Panel}
use Rattle.requests.specs.declared.selection.DrawnPages.TheVariants.{One}
use Rattle.requests.specs.declared.selection.Selection.{Selection}
use Rattle.job_picture.specs.JobPicture.{picture_rendering}
use Rattle.many_jobs.specs.JobRow.{IsRightText}
use Rattle.many_jobs.proofs.JobRow.{limited_stopped, text_had}
use Rattle.many_jobs.proofs.kept_readings.read_page.Goals as goal

pub returns-in-Ok : goal.returns-in-Ok
returns-in-Ok g c =
    let page : Selection = record { pages = One c.args.page; has_boxes = false } in
    let start = g.S.Source.state c.args.job.now in
    let after = g.S.Source.state c.picture_of.new.reader in
    subst
    (λ (panel : Panel).
    IsRightText (picture_rendering c.args.printer.now panel page []) start after (Ok c.into_bytes.result.items))
    c.first_panel-panel.ensures.value
    (text_had (picture_rendering c.args.printer.now c.first_panel-panel.result page []) start after _ _
    _ c.into_bytes.result.items c.in-Ok.ensures c.new-text.ensures.bytes c.into_bytes.ensures)

pub returns-in-Err : goal.returns-in-Err
returns-in-Err g c =
    let page : Selection = record { pages = One c.args.page; has_boxes = false } in
    let start = g.S.Source.state c.args.job.now in
    let after = g.S.Source.state c.picture_of.new.reader in
    subst
    (λ (panel : Panel). IsRightText (picture_rendering c.args.printer.now panel page []) start after (Err c.in-Err.error))
    c.first_panel-panel.ensures.value
    (limited_stopped (picture_rendering c.args.printer.now c.first_panel-panel.result page []) start after _ _
    c.in-Err.error c.in-Err.ensures)
