use Rattle.page_env.proofs.UntouchedFacts.{item_untouched, byte_untouched, move_untouched}
use Rattle.page_env.proofs.laws.items_leave_untouched.Goals as goal

pub returns : goal.returns
returns c = record { items = item_untouched; bytes = byte_untouched; moves = move_untouched }
