use Rattle.std.proofs.Common.{codes, refl}
use Rattle.comparison_picture.specs.declared.marks.Layer.TheVariants.{Apart}
use Rattle.comparison_picture.specs.DrawnPages.{compared_page}
use Rattle.comparison_picture.specs.Sheets.{new_group, new_layer}
use Rattle.comparison_picture.proofs.Appending.{three_appended}
use Rattle.comparison_picture.proofs.sheets.push_new_group.Goals as goal

pub returns : goal.returns
unfolding new_group
returns g c =
    three_appended c.extend_from_slice-2.result c.args.text.now.items _ _ _ (codes "<g class=\"differs new\">\n")
    (new_layer Apart (compared_page c.args.page.now)) (codes "</g>\n") _ c.in_ok-extend_from_slice.ensures.items
    c.in_ok-push_new_layer.ensures c.extend_from_slice-2.ensures.items refl
