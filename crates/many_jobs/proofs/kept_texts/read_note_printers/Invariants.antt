use Rattle.std.proofs.Common.{map, take, true}
use Rattle.many_jobs.specs.KeptTexts.{AreNotePrinters}
use Rattle.many_jobs.proofs.kept_texts.read_note_printers.Given as goal

abbrev pub invariant-loop-text : goal.invariant-loop-text
invariant-loop-text g l = AreNotePrinters true (map (λ text. text.items) (take l.text-index l.texts)) l.printers.items
