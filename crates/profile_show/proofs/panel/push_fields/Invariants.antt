use Rattle.std.proofs.Common.{◌≡◌, ◌++◌, flat_map, take}
use Rattle.profile_show.specs.Panel.{field_lines}
use Rattle.profile_show.proofs.panel.push_fields.Given as goal

abbrev pub invariant-loop-field : goal.invariant-loop-field
invariant-loop-field g l = l.text.items ≡ l.initial.text.items ++ flat_map (field_lines l.profile) (take l.field-index l.fields)
