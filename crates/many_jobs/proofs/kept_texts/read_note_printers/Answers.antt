use Rattle.std.proofs.Common.{◌+◌, [], ◌∷◌, ◌++◌, ◌≡◌, ◌∙◌, Ok, Vec, ap, get_or, map, rules, subst, sym, take, true, ℕ, List}
use Rattle.device_profile.specs.Printer.{Printer}
use Rattle.device_profile.specs.Text.{printer_of_text}
use Rattle.many_jobs.specs.KeptTexts.{AreNotePrinters}
use Rattle.many_jobs.proofs.JobChecks.{note_printers_more}
use Rattle.many_jobs.proofs.kept_texts.read_note_printers.Goals as goal

pub loop-text-preserved : goal.loop-text-preserved
loop-text-preserved g c =
    let i = c.loop-text.text-index in
    let texts = c.args.texts.now in
    let printers = c.loop-text.printers.items in
    let bytes : Vec ℕ g.row.A.Denot → List ℕ = λ text. text.items in
    let is : printer_of_text (bytes (get_or texts i c.text-item.result)) ≡ Ok c.in-Ok.printer =
    subst (λ (text : List ℕ). printer_of_text text ≡ Ok c.in-Ok.printer)
    (c.as_slice.ensures.value ∙ ap bytes c.text-item.is) c.in-Ok.ensures in
    subst (λ (ps : List Printer). AreNotePrinters true (map bytes (take (i + 1) texts)) ps)
    (sym (c.in_ok-push.ensures.items ∙ ap (λ (p : Printer). printers ++ p ∷ []) c.limit_items.ensures))
    (note_printers_more bytes texts i c.text-item.result printers c.in-Ok.printer (search rules) c.loop-text.invariant is)
