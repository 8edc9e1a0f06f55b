use Rattle.std.proofs.Common.{◌≡◌, ◌<◌, ◌-◌, arith, drop, length, min, rules, take}
use Rattle.std.proofs.lemmas.Result.{on_ok_weaker}
use Rattle.page_comparison.specs.Kept.{kept_all}
use Rattle.page_comparison.specs.Pages.{made_marks}
use Rattle.page_comparison.specs.Told.{only_new}
use Rattle.page_comparison.proofs.Steps.{pair_more, pairs_end}
use Rattle.page_comparison.proofs.in_order.tell_left_out.Goals as goal

pub loop-index-preserved : goal.loop-index-preserved
loop-index-preserved g c =
    let inside : c.loop-index.index < min (length c.args.old.now) (length c.args.new.now) = omega arith in
    let in_old : c.loop-index.index < length c.args.old.now = omega (arith, inside) in
    let in_new : c.loop-index.index < length c.args.new.now = omega (arith, inside) in
    pair_more c.args.within c.args.next.0 c.args.next.1 c.args.old.now c.args.new.now c.loop-index.index c.index-old-index.result
    c.index-new-index.result in_old in_new c.index-old-index.is c.index-new-index.is c.loop-index.at c.behind-at.result
    c.behind-at.ensures c.loop-index.listing c.tell_pair.new.listing _ c.in_ok-tell_pair.ensures c.loop-index.invariant

pub returns : goal.returns
returns g c =
    let old = c.args.old.now in
    let new = c.args.new.now in
    let pairs = c.min-pairs.result in
    let pairs_are : pairs ≡ min (length old) (length new) = search rules in
    let here : c.loop-index.index ≡ pairs = omega arith in
    on_ok_weaker c.tell_only_new.result
    (λ (told :
    c.tell_only_new.new.listing
    ≡ kept_all (only_new c.args.next.0 c.loop-index.at (made_marks (take (length new - pairs) (drop pairs new))))
    c.tell_only_old.new.listing).
    pairs_end c.args.within c.args.next.0 c.args.next.1 old new pairs c.loop-index.index pairs_are here c.loop-index.at
    c.loop-index.listing
    c.tell_only_old.new.listing c.tell_only_new.new.listing _ c.in_ok-tell_only_old.ensures told c.loop-index.invariant)
    c.tell_only_new.ensures
