use Rattle.std.proofs.Common.{◌++◌, ◌∙◌, ap, flat_map}
use Rattle.std.proofs.lemmas.List.{take_all}
use Rattle.shown_bytes.proofs.Further.{further}
use Rattle.device_profile.specs.declared.geometry.Geometry.{Geometry}
use Rattle.test_sheet.specs.MeasuredPage.{measured_pages, measured_part}
use Rattle.test_sheet.proofs.measured_page.push_measured_pages.Goals as goal

pub loop-page-preserved : goal.loop-page-preserved
loop-page-preserved g c =
    further (measured_part c.args.name.now c.args.face.now c.args.sizes.now) c.args.pages.now c.loop-page.page-index c.page-item.result
    c.args.text.now.items c.loop-page.text.items c.push_measured_part.new.text.items
    c.loop-page-test.true c.loop-page.invariant
    (c.in_ok-push_measured_part.ensures
    ∙ ap
    (λ (page : Geometry). c.loop-page.text.items ++ measured_part c.args.name.now c.args.face.now c.args.sizes.now page)
    c.page-item.is)

pub returns : goal.returns
unfolding measured_pages
returns g c =
    c.loop-page.invariant
    ∙ ap (λ pages. c.args.text.now.items ++ flat_map (measured_part c.args.name.now c.args.face.now c.args.sizes.now) pages)
    (take_all _ _ c.loop-page-test.false)
