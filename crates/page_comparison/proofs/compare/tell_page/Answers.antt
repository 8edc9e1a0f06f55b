use Rattle.page_comparison.specs.Comparison.{ends_compared, marks_compared, setting_of}
use Rattle.page_comparison.specs.Pages.{made_page}
use Rattle.page_comparison.proofs.Keeping.{kept_both}
use Rattle.page_comparison.proofs.compare.tell_page.Goals as goal

pub returns : goal.returns
returns g c =
    let pair = c.args.pair.now in
    let near = c.args.nearness in
    let one = made_page pair.old in
    let other = made_page pair.new in
    kept_both (marks_compared near.any_order (setting_of near pair.number one other) one.marks other.marks)
    (ends_compared pair.number one other) c.args.listing.now c.tell_marks.new.listing c.tell_ends.new.listing
    c.in_ok-tell_marks.ensures c.in_ok-tell_ends.ensures
