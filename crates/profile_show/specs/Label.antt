-- The fixed words of the lines.
use Rattle.std.specs.Prelude.{ℕ, List, codes}
use Rattle.profile_show.specs.declared.label.Label.{Label}
use Rattle.profile_show.specs.declared.label.Label.TheVariants.{Unset, Pages, LogicalPage, FromLeft, FromTop}
use Rattle.profile_show.specs.declared.label.Label.TheVariants.{PrintableArea, Advance, Ascent, Descent, Per7200}

unfoldable pub label : Label → List ℕ
label Unset = codes "    a job that does not set it fails by "
label Pages = codes "pages, in dots of 1/300 inch:\n"
label LogicalPage = codes "    logical page: "
label FromLeft = codes " from the left, "
label FromTop = codes " from the top"
label PrintableArea = codes "    printable area: "
label Advance = codes "    advance "
label Ascent = codes ", ascent "
label Descent = codes ", descent "
label Per7200 = codes " (1/7200 inch)\n"
