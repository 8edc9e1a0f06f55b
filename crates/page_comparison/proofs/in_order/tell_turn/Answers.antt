use Rattle.std.proofs.Common.{◌≡◌, take}
use Rattle.std.proofs.lemmas.Result.{on_ok_weaker}
use Rattle.page_comparison.specs.Kept.{kept_all}
use Rattle.page_comparison.specs.Pages.{made_marks}
use Rattle.page_comparison.specs.Told.{left_out}
use Rattle.page_comparison.proofs.Turns.{turn_left, turn_passed}
use Rattle.page_comparison.proofs.in_order.tell_turn.Goals as goal

pub returns-then-turn : goal.returns-then-turn
returns-then-turn g c =
    turn_passed c.args.setting.now c.args.at (made_marks c.args.old.now) (made_marks c.args.new.now) c.args.turn c.args.listing.now
    c.if-turn.true

pub returns : goal.returns
returns g c =
    let old_place = c.next_place-old_place.result in
    let new_place = c.next_place-new_place.result in
    on_ok_weaker c.tell_left_out.result
    (λ (told :
    c.tell_left_out.new.listing
    ≡ kept_all
    (left_out c.args.setting.now.within old_place new_place c.args.at (made_marks (take c.args.turn.old c.args.old.now))
    (made_marks (take c.args.turn.new c.args.new.now))) c.args.listing.now).
    turn_left c.args.setting.now c.args.at c.args.old.now c.args.new.now c.args.turn old_place new_place c.args.listing.now
    c.tell_left_out.new.listing c.if-turn.false c.next_place-old_place.ensures c.next_place-new_place.ensures told)
    c.tell_left_out.ensures
