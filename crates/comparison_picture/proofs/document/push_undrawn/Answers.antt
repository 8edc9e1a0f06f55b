use Rattle.std.proofs.Common.{◌++◌, Bool, [], ap, codes, decimal, if◌then◌else◌}
use Rattle.std.proofs.lemmas.Bool.{ne_eqb}
use Rattle.comparison_picture.specs.Document.{undrawn_part}
use Rattle.comparison_picture.proofs.Appending.{three_appended}
use Rattle.comparison_picture.proofs.document.push_undrawn.Goals as goal

pub returns : goal.returns
unfolding undrawn_part
returns g c =
    let part = codes "<p>Pages that differ, too, and are not drawn: " ++ decimal c.args.undrawn ++ codes "</p>\n" in
    three_appended c.extend_from_slice-2.result c.args.text.now.items _ _ _
    (codes "<p>Pages that differ, too, and are not drawn: ") (decimal c.args.undrawn) (codes "</p>\n") _
    c.in_ok-extend_from_slice.ensures.items c.in_ok-push_number.ensures c.extend_from_slice-2.ensures.items
    (ap (λ (t : Bool). if t then [] else part) (ne_eqb c.args.undrawn 0 c.if-undrawn-eq0.false))
