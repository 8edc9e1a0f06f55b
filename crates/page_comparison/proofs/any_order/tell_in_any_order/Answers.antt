use Rattle.std.proofs.Common.{◌≡◌, ◌+◌, ◌≤◌, ap, arith, length, ◌∙◌}
use Rattle.std.proofs.lemmas.Result.{on_ok_weaker}
use Rattle.page_comparison.specs.AnyOrder.{Matching, first_free, free_told, in_any_order}
use Rattle.page_comparison.specs.Kept.{kept_all}
use Rattle.page_comparison.specs.Pages.{made_mark, made_marks}
use Rattle.page_comparison.proofs.Free.{mark_end, mark_more, matched_long, none_long}
use Rattle.page_comparison.proofs.any_order.tell_in_any_order.Goals as goal

pub loop-index-init : goal.loop-index-init
loop-index-init g c =
    let new = made_marks c.args.new.now in
    let none = c.in_ok-bag.ensures in
    record {
      told =
          ap (λ (m : Matching). kept_all (in_any_order c.args.setting.now new 1 m (made_marks c.args.old.now)) c.args.listing.now) none;
      long = ap (λ (m : Matching). length m.taken) none ∙ none_long c.args.new.now;
      inside = omega arith;
    }

pub loop-index-preserved : goal.loop-index-preserved
loop-index-preserved g c =
    let new = made_marks c.args.new.now in
    let mark = made_mark c.index-old-index.result in
    let bag = c.loop-index.bag in
    let found = first_free c.args.setting.now.within mark new bag.taken in
    let matched = c.in_ok-tell_mark.ensures.matched in
    record {
      told =
          mark_more c.args.setting.now c.args.new.now c.args.old.now c.loop-index.index c.index-old-index.result c.loop-index-test.true
          c.index-old-index.is bag c.tell_mark.new.bag c.loop-index.listing c.tell_mark.new.listing _ c.in_ok-tell_mark.ensures.told
          matched c.loop-index.invariant.told;
      long =
          ap (λ (m : Matching). length m.taken) matched ∙ (matched_long mark found bag ∙ c.loop-index.invariant.long);
      inside = omega arith;
    }

pub returns : goal.returns
returns g c =
    let old = c.args.old.now in
    let new = c.args.new.now in
    let within : c.loop-index.index ≤ length old = c.loop-index.invariant.inside in
    on_ok_weaker c.tell_free.result
    (λ (told : c.tell_free.new.listing
    ≡ kept_all (free_told c.args.setting.now (length old + 1) 1 (made_marks new) c.loop-index.bag.taken) c.loop-index.listing).
    mark_end c.args.setting.now new old c.loop-index.index c.loop-index-test.false within c.loop-index.bag c.loop-index.listing
    c.tell_free.new.listing _ told c.loop-index.invariant.told)
    c.tell_free.ensures
