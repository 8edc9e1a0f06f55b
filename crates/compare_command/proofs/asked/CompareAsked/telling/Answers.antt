use Rattle.std.proofs.Common.{Bool, ap, map}
use Rattle.compare_command.specs.Telling.{HowTold}
use Rattle.compare_command.proofs.asked.CompareAsked.telling.Goals as goal

pub returns : goal.returns
returns c =
    let asked = c.args.self.now in
    let told : Bool → HowTold = λ all. record {
      old_name = asked.old_name.now;
      new_name = asked.new_name.now;
      names = map (λ name. name.items) c.args.printers.now;
      form = asked.form;
      is_named = asked.is_named;
      is_all = all;
    } in ap told c.is_all.ensures
