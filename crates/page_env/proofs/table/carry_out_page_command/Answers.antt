use Rattle.std.proofs.Common.{refl}
use Rattle.page_env.specs.Answers.{CarriesOut}
use Rattle.page_env.proofs.table.carry_out_page_command.Goals as goal

pub returns-in-Sides : goal.returns-in-Sides
returns-in-Sides g c = rw c.in-Sides.is c.choose_sides.ensures

pub returns-in-Source : goal.returns-in-Source
returns-in-Source g c = rw c.in-Source.is c.choose_source.ensures

pub returns-in-Size : goal.returns-in-Size
returns-in-Size g c = rw c.in-Size.is c.choose_size.ensures

pub returns-in-Orientation : goal.returns-in-Orientation
returns-in-Orientation g c = rw c.in-Orientation.is c.choose_orientation.ensures

pub returns-in-MacroControl : goal.returns-in-MacroControl
unfolding CarriesOut
returns-in-MacroControl g c = rw c.in-MacroControl.is (λ panel defaults. refl)
