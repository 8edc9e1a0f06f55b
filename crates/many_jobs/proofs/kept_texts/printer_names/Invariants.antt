use Rattle.std.proofs.Common.{◌≡◌, map, take}
use Rattle.device_profile.specs.Name.{printer_name}
use Rattle.many_jobs.proofs.kept_texts.printer_names.Given as goal

abbrev pub invariant-loop-text : goal.invariant-loop-text
invariant-loop-text g l = map (λ name. name.items) l.names.items ≡ map printer_name (map (λ text. text.items) (take l.text-index l.texts))
