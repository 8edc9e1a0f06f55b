use Rattle.std.proofs.Common.{ap, subst, sym, ◌∙◌}
use Rattle.comparison.specs.declared.compare.Which.TheVariants.{Old, New}
use Rattle.page_comparison.specs.Reading.{IsErrorOfPages, is_unread_error}
use Rattle.compare_command.proofs.Compared.{memory_is_no_read}
use Rattle.compare_command.proofs.stops.stop_of_pages.Goals as goal

pub stop_of_reading-requires : goal.stop_of_reading-requires
stop_of_reading-requires g c = subst (λ error. IsErrorOfPages error) c.in-Unread.is c.requires

pub returns-in-Unread : goal.returns-in-Unread
returns-in-Unread g c old_read new_read of_old of_new =
    c.stop_of_reading.ensures old_read new_read (of_old ∙ ap (is_unread_error Old) c.in-Unread.is)
    (of_new ∙ ap (is_unread_error New) c.in-Unread.is)

pub returns-in-TooManyMarks : goal.returns-in-TooManyMarks
returns-in-TooManyMarks g c old_read new_read of_old of_new =
    let is = c.in-TooManyMarks.is in
    let which = c.in-TooManyMarks.page.which in
    record {
      is_error = tt;
      of_old = of_old ∙ (ap (is_unread_error Old) is ∙ sym (memory_is_no_read Old which));
      of_new = of_new ∙ (ap (is_unread_error New) is ∙ sym (memory_is_no_read New which));
    }

pub returns-in-Memory : goal.returns-in-Memory
returns-in-Memory g c old_read new_read of_old of_new = record {
  is_error = tt;
  of_old = of_old ∙ ap (is_unread_error Old) c.in-Memory.is;
  of_new = of_new ∙ ap (is_unread_error New) c.in-Memory.is;
}
