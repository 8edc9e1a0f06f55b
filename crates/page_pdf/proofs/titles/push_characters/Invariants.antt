use Rattle.std.proofs.Common.{◌≡◌, ◌++◌}
use Rattle.std.specs.List.{flat_map}
use Rattle.page_pdf.specs.Titles.{character_units}
use Rattle.page_pdf.proofs.titles.push_characters.Given as goal

abbrev pub invariant-loop-character : goal.invariant-loop-character
invariant-loop-character g l = l.text.items ≡ l.initial.text.items ++ flat_map character_units l.yielded
