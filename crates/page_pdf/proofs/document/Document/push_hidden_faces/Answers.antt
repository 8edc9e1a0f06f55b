use Rattle.page_pdf.specs.Document.{fixed_of, hidden_written}
use Rattle.page_pdf.specs.declared.fixed_objects.FixedObject.TheVariants as fixed
use Rattle.page_pdf.proofs.Steps.{four_written}
use Rattle.page_pdf.proofs.document.Document.push_hidden_faces.Goals as goal

pub returns : goal.returns
unfolding hidden_written
returns g c =
    four_written c.push_fixed-4.result (fixed_of fixed.HiddenPc8) (fixed_of fixed.HiddenPc850) (fixed_of fixed.HiddenRoman8)
    (fixed_of fixed.Horizontal)
    c.args.text.now.items c.push_fixed.new.text.items c.push_fixed-2.new.text.items c.push_fixed-3.new.text.items
    c.push_fixed-4.new.text.items
    c.args.self.now c.push_fixed.new.self c.push_fixed-2.new.self c.push_fixed-3.new.self c.push_fixed-4.new.self
    c.in_ok-push_fixed.ensures c.in_ok-push_fixed-2.ensures c.in_ok-push_fixed-3.ensures
    c.push_fixed-4.ensures
