-- What a comparison says of two jobs that a check passes.
use Rattle.std.proofs.Common.{◌≡◌, ℕ, List, ap, sym, ◌∙◌}
use Rattle.pcl_lexer.specs.Laws.{HasOneReading}
use Rattle.pcl_lexer.specs.Reading.{Reading, Whole}
use Rattle.device_profile.specs.Printer.{Printer}
use Rattle.page_machine.specs.Event.{Event}
use Rattle.page_machine.specs.Job.{events_of, plain_run}
use Rattle.comparison.proofs.Sameness.{one_reading_alone}
use Rattle.promises.specs.Comparisons.{SaysSameForAll}

pub says_same_for_all : ((bytes : List ℕ) → HasOneReading bytes) → (fleet : List Printer) (old new : List ℕ) →
    SaysSameForAll fleet old new
says_same_for_all one fleet old new old_pages old_marks new_pages new_marks of_old of_new first has_first at allowed_at same printer
    has_printer panel allowed old_reading new_reading is_old is_new =
    let old_whole : Reading = Whole of_old.items of_old.place in
    let new_whole : Reading = Whole of_new.items of_new.place in
    let events_are : of_old.events ≡ of_new.events =
    sym (of_old.runs first has_first at allowed_at).same
    ∙ (same old_whole new_whole of_old.spelled of_new.spelled ∙ (of_new.runs first has_first at allowed_at).same) in
    let events_from : Reading → List Event = λ reading. events_of (plain_run printer panel reading).items in
    ap events_from (one_reading_alone old (one old) old_reading old_whole is_old of_old.spelled)
    ∙ ((of_old.runs printer has_printer panel allowed).same
    ∙ (events_are
    ∙ (sym (of_new.runs printer has_printer panel allowed).same
    ∙ ap events_from (one_reading_alone new (one new) new_whole new_reading of_new.spelled is_new))))
