use Rattle.std.proofs.Common.{◌++◌, ◌∙◌, ap, flat_map}
use Rattle.std.proofs.lemmas.List.{take_all}
use Rattle.shown_bytes.proofs.Further.{further}
use Rattle.device_profile.specs.declared.geometry.Geometry.{Geometry}
use Rattle.profile_show.specs.Pages.{page_lines}
use Rattle.profile_show.proofs.pages.push_each.Goals as goal

pub loop-page-preserved : goal.loop-page-preserved
loop-page-preserved g c =
    further (page_lines c.args.profile.now.geometries) c.args.pages.now c.loop-page.page-index c.page-item.result
    c.args.text.now.items c.loop-page.text.items c.push_page.new.text.items
    c.loop-page-test.true c.loop-page.invariant
    (c.in_ok-push_page.ensures
    ∙ ap (λ (page : Geometry). c.loop-page.text.items ++ page_lines c.args.profile.now.geometries page) c.page-item.is)

pub returns : goal.returns
returns g c =
    let part = page_lines c.args.profile.now.geometries in
    c.loop-page.invariant
    ∙ ap (λ pages. c.args.text.now.items ++ flat_map part pages) (take_all _ _ c.loop-page-test.false)
