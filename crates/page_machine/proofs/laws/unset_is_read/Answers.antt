use Rattle.page_machine.proofs.Reaching.{unset_read}
use Rattle.page_machine.proofs.laws.unset_is_read.Goals as goal

pub returns : goal.returns
returns c =
    let sound = c.items_are_sound.ensures in
    let untouched = c.items_leave_untouched.ensures in
    unset_read sound.items
    (λ printer. record { bytes = sound.bytes printer; moves = sound.moves printer }) untouched.items untouched.bytes untouched.moves
