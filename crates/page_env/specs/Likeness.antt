-- Items on printers that are alike but for the device.
use Rattle.std.specs.Prelude.{◌≡◌, ◌==◌, ◌||◌, ℕ, ℤ, Bool, true, false, None}
use Rattle.std.specs.Bool.{beq}
use Rattle.pcl_items.specs.declared.pcl.command.Command.{Command}
use Rattle.pcl_items.specs.declared.pcl.command.Command.TheVariants.{Sides, Source, MacroControl}
use Rattle.pcl_items.specs.Items.{Entry, Parameterized}
use Rattle.pcl_items.specs.Escapes.Value.{Amount}
use Rattle.device_profile.specs.Likeness.{IsLike}
use Rattle.device_profile.specs.Printer.{Printer, has_tray}
use Rattle.page_env.specs.Settings.{Settings, State}
use Rattle.page_env.specs.Numbers.{whole_of}
use Rattle.page_env.specs.Effect.{Transition, Step, Closes, Ends, Behind, Controls}
use Rattle.page_env.specs.Pens.{move_pen}
use Rattle.page_env.specs.Table.{transition_of}
use Rattle.page_env.specs.Text.{print_transparent}

-- Duplex and the paper source ask the device, and both printers answer the same.
-- A macro control asks what macros may take, and is never taken for alike.
abbrev pub command_asks_alike : Printer → Printer → Command → Amount → Bool
command_asks_alike p q Sides n = (whole_of n == 0) || beq p.has_duplex q.has_duplex
command_asks_alike p q Source n = beq (has_tray p (whole_of n)) (has_tray q (whole_of n))
command_asks_alike p q MacroControl n = false
command_asks_alike p q _ n = true

-- nothing else asks
abbrev pub asks_alike : Printer → Printer → Entry → Bool
asks_alike p q (Parameterized command n) = command_asks_alike p q command n
asks_alike p q _ = true

-- no overlay is enabled
abbrev pub HasNoOverlay : State → Type 0
HasNoOverlay s = s.settings.job.overlay ≡ None

-- no overlay is enabled where a transition closes the page
abbrev pub ClosesWithout : Transition → Type 0
ClosesWithout (Step line) = Unit {0}
ClosesWithout (Closes line sets_paper change) = HasNoOverlay line.state
ClosesWithout (Ends line) = HasNoOverlay line.state
ClosesWithout (Behind reads transition) = ClosesWithout transition
ClosesWithout (Controls t n) = ⊥

-- An item of which two printers ask the same goes the same way on both;
-- and none that runs no macro enables an overlay before it closes the page.
pub record GoesOnBoth (p q : Printer) (defaults : Settings) (item : Entry) : Type 0 where
  pub same : (s : State) → transition_of q defaults s item ≡ transition_of p defaults s item
  pub bare : (s : State) → HasNoOverlay s → ClosesWithout (transition_of p defaults s item)

-- the item goes alike on any two printers that are alike but for the device
abbrev pub GoesOnLike : Entry → Type 0
GoesOnLike item =
    (p q : Printer) (defaults : Settings) → IsLike p q → asks_alike p q item ≡ true → GoesOnBoth p q defaults item

-- so does each byte of transparent print data
abbrev pub ByteGoesOnLike : ℕ → Type 0
ByteGoesOnLike code =
    (p q : Printer) → IsLike p q → (s : State) → print_transparent q s code ≡ print_transparent p s code

-- so does each move of the pen
abbrev pub MoveGoesOnLike : ℤ × ℤ → Type 0
MoveGoesOnLike to = (p q : Printer) → IsLike p q → (s : State) → move_pen q s to ≡ move_pen p s to
