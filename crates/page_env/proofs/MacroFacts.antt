-- Facts of macros.
use Rattle.std.proofs.Common.{None, Some, refl}
use Rattle.device_profile.specs.Printer.{Printer}
use Rattle.page_env.specs.declared.macros.Control.TheVariants.{Begin, End, Execute, Call, EnableOverlay, DisableOverlay, DeleteAll, Delete}
use Rattle.page_env.specs.declared.macros.Control.TheVariants.{MakeTemporary}
use Rattle.page_env.specs.Sound.{IsSoundControl}
use Rattle.page_env.proofs.Sound.{quiet}

pub control_is_sound : (printer : Printer) → IsSoundControl printer
control_is_sound printer s known in_macro None = quiet refl refl refl refl refl refl refl refl
control_is_sound printer s known in_macro (Some Begin) = quiet refl refl refl refl refl refl refl refl
control_is_sound printer s known in_macro (Some End) = quiet refl refl refl refl refl refl refl refl
control_is_sound printer s known in_macro (Some Execute) = quiet refl refl refl refl refl refl refl refl
control_is_sound printer s known in_macro (Some Call) = quiet refl refl refl refl refl refl refl refl
control_is_sound printer s known in_macro (Some EnableOverlay) = quiet refl refl refl refl refl refl refl refl
control_is_sound printer s known in_macro (Some DisableOverlay) = quiet refl refl refl refl refl refl refl refl
control_is_sound printer s known in_macro (Some DeleteAll) = quiet refl refl refl refl refl refl refl refl
control_is_sound printer s known in_macro (Some Delete) = quiet refl refl refl refl refl refl refl refl
control_is_sound printer s known in_macro (Some MakeTemporary) = quiet refl refl refl refl refl refl refl refl
