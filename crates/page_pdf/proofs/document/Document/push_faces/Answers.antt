use Rattle.page_pdf.specs.Document.{faces_written, fixed_of, four}
use Rattle.page_pdf.specs.declared.fixed_objects.FixedObject.TheVariants as fixed
use Rattle.page_pdf.proofs.Steps.{four_written, then_written}
use Rattle.page_pdf.proofs.document.Document.push_faces.Goals as goal

pub returns : goal.returns
unfolding faces_written
returns g c =
    let four_others =
    four_written c.push_fixed-5.result (fixed_of fixed.Upright) (fixed_of fixed.Bold) (fixed_of fixed.Italic) (fixed_of fixed.BoldItalic)
    c.push_fixed.new.text.items c.push_fixed-2.new.text.items c.push_fixed-3.new.text.items c.push_fixed-4.new.text.items
    c.push_fixed-5.new.text.items
    c.push_fixed.new.self c.push_fixed-2.new.self c.push_fixed-3.new.self c.push_fixed-4.new.self c.push_fixed-5.new.self
    c.in_ok-push_fixed-2.ensures c.in_ok-push_fixed-3.ensures c.in_ok-push_fixed-4.ensures
    c.push_fixed-5.ensures in
    then_written c.push_fixed-5.result (fixed_of fixed.Resources c.args.self.now)
    (four (fixed_of fixed.Upright) (fixed_of fixed.Bold) (fixed_of fixed.Italic) (fixed_of fixed.BoldItalic))
    c.args.text.now.items c.push_fixed.new.text.items c.push_fixed-5.new.text.items c.push_fixed.new.self c.push_fixed-5.new.self
    c.in_ok-push_fixed.ensures four_others
