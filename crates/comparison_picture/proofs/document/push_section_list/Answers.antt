use Rattle.std.proofs.Common.{◌++◌, codes, sym}
use Rattle.comparison_picture.specs.declared.lists.ListForm.TheVariants.{Rows}
use Rattle.comparison_picture.specs.Document.{section_list}
use Rattle.comparison_picture.specs.FixedParts.{list_head}
use Rattle.comparison_picture.specs.Lists.{list_text}
use Rattle.comparison_picture.proofs.Appending.{three_appended}
use Rattle.comparison_picture.proofs.document.push_section_list.Goals as goal

pub returns : goal.returns
unfolding section_list
returns g c =
    three_appended c.extend_from_slice.result c.args.text.now.items _ _ _ list_head (list_text Rows 1000 c.as_slice.result.now)
    (codes "</tbody>\n</table>\n</div>\n</section>\n") _ c.in_ok-push_list_head.ensures c.in_ok-push_list.ensures
    c.extend_from_slice.ensures.items
    (λ i. list_head ++ list_text Rows 1000 (sym c.as_slice.ensures.value i) ++ codes "</tbody>\n</table>\n</div>\n</section>\n")
