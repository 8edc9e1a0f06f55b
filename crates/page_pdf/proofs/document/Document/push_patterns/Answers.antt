use Rattle.page_pdf.specs.Document.{fixed_of, four, patterns_written}
use Rattle.page_pdf.specs.declared.fixed_objects.FixedObject.TheVariants as fixed
use Rattle.page_pdf.proofs.Steps.{four_written, then_written}
use Rattle.page_pdf.proofs.document.Document.push_patterns.Goals as goal

pub returns : goal.returns
unfolding patterns_written
returns g c =
    let four_others =
    four_written c.push_fixed-5.result (fixed_of fixed.Rising) (fixed_of fixed.Falling) (fixed_of fixed.Cross) (fixed_of
    fixed.DiagonalCross)
    c.push_fixed.new.text.items c.push_fixed-2.new.text.items c.push_fixed-3.new.text.items c.push_fixed-4.new.text.items
    c.push_fixed-5.new.text.items
    c.push_fixed.new.self c.push_fixed-2.new.self c.push_fixed-3.new.self c.push_fixed-4.new.self c.push_fixed-5.new.self
    c.in_ok-push_fixed-2.ensures c.in_ok-push_fixed-3.ensures c.in_ok-push_fixed-4.ensures
    c.push_fixed-5.ensures in
    then_written c.push_fixed-5.result (fixed_of fixed.Vertical c.args.self.now)
    (four (fixed_of fixed.Rising) (fixed_of fixed.Falling) (fixed_of fixed.Cross) (fixed_of fixed.DiagonalCross))
    c.args.text.now.items c.push_fixed.new.text.items c.push_fixed-5.new.text.items c.push_fixed.new.self c.push_fixed-5.new.self
    c.in_ok-push_fixed.ensures four_others
