use Rattle.std.proofs.Common.{ap}
use Rattle.page_comparison.specs.declared.differences.PageChange.{PageChange}
use Rattle.page_comparison.specs.declared.differences.PageDifference.{PageDifference}
use Rattle.compare_command.proofs.telling.difference_of.Goals as goal

pub returns : goal.returns
returns c =
    let difference = c.args.difference in
    let told : PageChange → PageDifference = λ change. record {
      page = difference.page;
      old_mark = difference.mark;
      new_mark = difference.mark;
      old_place = difference.old_place;
      new_place = difference.new_place;
      change = change;
    } in ap told c.change_of.ensures
