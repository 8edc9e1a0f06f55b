-- How an item of a macro begins: one fewer may be carried out behind it.
use Rattle.std.proofs.Common.{refl}
use Rattle.device_profile.specs.Printer.{Printer}
use Rattle.page_env.specs.Macros.{spend_item}
use Rattle.page_env.specs.Settings.{State}
use Rattle.page_env.specs.Sound.{plain_state, IsSound}

pub spend_is_sound : (printer : Printer) (s : State) → IsSound printer s (spend_item s) (spend_item (plain_state s))
spend_is_sound printer s = record {
  same = refl;
  ordered = refl;
  reads_ordered = refl;
  unmarked = λ h. (h, refl);
  inside = λ h. tt;
  size = refl;
  orientation = refl;
  room = λ h k. k;
}
