-- On printers that are alike but for the device items go the same way.
use Rattle.std.proofs.Common.{◌≡◌, ℕ, ℤ, Bool, true, false, not, ◌&&◌, cond, [], ◌∷◌, refl, ap, sym, ◌∙◌, subst}
use Rattle.std.specs.Prelude.{nat_lt, ◌==◌, ◌||◌}
use Rattle.std.specs.Bool.{beq}
use Rattle.std.specs.Cmp.{booleans_Decides}
use Rattle.std.proofs.lemmas.Bool.{eqb-true, false≢true}
use Rattle.pcl_items.specs.declared.pcl.command.Command.{Command}
use Rattle.pcl_items.specs.declared.pcl.command.Command.TheVariants.{Sides, Source, PageSize, Orientation, MacroControl}
use Rattle.pcl_items.specs.declared.pcl.command.DataCommand.TheVariants.{TransparentText, RasterRow}
use Rattle.pcl_items.specs.Items.{Entry, CarriageReturn, LineFeed, FormFeed, Reset, HalfLineFeed, Parameterized, WithData, ExitLanguage}
use Rattle.pcl_items.specs.Escapes.Value.{Amount}
use Rattle.device_profile.specs.Likeness.{with_device_of}
use Rattle.device_profile.specs.Printer.{Printer, has_tray}
use Rattle.page_env.specs.declared.finding.Finding.TheVariants.{BadValue, NotOnDevice}
use Rattle.page_env.specs.declared.motion.Feed.{Feed}
use Rattle.page_env.specs.declared.motion.Feed.TheVariants.{Line as WholeLine, HalfLine}
use Rattle.page_env.specs.Settings.{Settings, State}
use Rattle.page_env.specs.Numbers.{is_whole_between, whole_of}
use Rattle.page_env.specs.Effect.{check, checking, moving, reading, Transition, Step, Closes}
use Rattle.page_env.specs.JobControl.{sides_checks, set_sides}
use Rattle.page_env.specs.PageControl.{set_source}
use Rattle.page_env.specs.Motion.{at_home, carriage_return, fed_to, feed_by, feed_down, is_past_bottom, line_termination}
use Rattle.page_env.specs.Pens.{move_pen}
use Rattle.page_env.specs.Places.{page_and_line_reads}
use Rattle.page_env.specs.Table.{command_transition, transition_of}
use Rattle.page_env.specs.Text.{print_transparent}
use Rattle.page_env.specs.Likeness.{command_asks_alike, asks_alike, HasNoOverlay, ClosesWithout, GoesOnLike, ByteGoesOnLike, MoveGoesOnLike}

-- ---- the same way

module _ (p device : Printer) (defaults : Settings) where
  abbrev other : Printer
  other = with_device_of device p

  -- 0 asks nothing
  sides_same : (n : Amount) (simplex : Bool) → (whole_of n == 0) ≡ simplex → (simplex || beq p.has_duplex device.has_duplex) ≡ true →
      sides_checks other n ≡ sides_checks p n
  sides_same n true is e =
      let passes : (duplex : Bool) → (nat_lt 0 (whole_of n) && not duplex) ≡ false =
      λ duplex. ap (λ w. nat_lt 0 w && not duplex) (eqb-true (whole_of n) 0 is) in
      ap (λ refused. check (not (is_whole_between 0 2 n)) BadValue ∷ check refused NotOnDevice ∷ [])
      (passes device.has_duplex ∙ sym (passes p.has_duplex))
  sides_same n false is e =
      ap (λ duplex. sides_checks (record p { has_duplex = duplex }) n) (sym ((booleans_Decides p.has_duplex device.has_duplex).0 e))

  command_same : (command : Command) (n : Amount) → command_asks_alike p other command n ≡ true → (s : State) →
      command_transition other defaults s command n ≡ command_transition p defaults s command n
  command_same Sides n e s = ap (λ checks. Closes (checking s checks) true (λ t. set_sides t n)) (sides_same n (whole_of n == 0) refl e)
  command_same Source n e s =
      ap (λ held.
      Closes (checking s (check (not (is_whole_between 0 255 n)) BadValue ∷ check (nat_lt 0 (whole_of n) && not held) NotOnDevice ∷ []))
      true (λ t. set_source t n))
      (sym ((booleans_Decides (has_tray p (whole_of n)) (has_tray other (whole_of n))).0 e))
  command_same MacroControl n e s = absurd (false≢true e)
  -- all others ask nothing of the device
  command_same _ n e s = refl

  item_same : (item : Entry) → asks_alike p other item ≡ true → (s : State) →
      transition_of other defaults s item ≡ transition_of p defaults s item
  item_same (Parameterized command n) e s = command_same command n e s
  item_same _ e s = refl

-- ---- where the page is closed

either_without : (b : Bool) (m n : Transition) → ClosesWithout m → ClosesWithout n → ClosesWithout (cond b m n)
either_without true m n h k = h
either_without false m n h k = k

module _ (printer : Printer) where
  feed_without : (by : Feed) (s : State) → HasNoOverlay s → ClosesWithout (feed_by printer s by)
  feed_without by s e =
      either_without (is_past_bottom printer s (fed_to s by)) (Closes (reading s page_and_line_reads) false at_home)
      (Step (feed_down printer s (fed_to s by))) e tt

  fed_without : (b : Bool) (s : State) → HasNoOverlay s → ClosesWithout (feed_by printer (cond b (carriage_return s) s) WholeLine)
  fed_without true s e = feed_without WholeLine (carriage_return s) e
  fed_without false s e = feed_without WholeLine s e

  ended_without : (b : Bool) (s : State) → HasNoOverlay s → HasNoOverlay (cond b (carriage_return s) s)
  ended_without true s e = e
  ended_without false s e = e

module _ (p q : Printer) (defaults : Settings) where
  command_without : (command : Command) (n : Amount) → command_asks_alike p q command n ≡ true → (s : State) → HasNoOverlay s →
      ClosesWithout (command_transition p defaults s command n)
  command_without Sides n a s e = e
  command_without Source n a s e = e
  command_without PageSize n a s e = e
  command_without Orientation n a s e = e
  command_without MacroControl n a s e = absurd (false≢true a)
  command_without _ n a s e = tt

  item_without : (item : Entry) → asks_alike p q item ≡ true → (s : State) → HasNoOverlay s →
      ClosesWithout (transition_of p defaults s item)
  item_without CarriageReturn a s e =
      either_without (line_termination s).feeds_at_return (feed_by p (carriage_return s) WholeLine) (Step (moving (carriage_return s)))
      (feed_without p WholeLine (carriage_return s) e) tt
  item_without LineFeed a s e = fed_without p (line_termination s).returns_at_feed s e
  item_without FormFeed a s e = ended_without p (line_termination s).returns_at_feed s e
  item_without Reset a s e = e
  item_without ExitLanguage a s e = e
  item_without HalfLineFeed a s e = feed_without p HalfLine s e
  item_without (Parameterized command n) a s e = command_without command n a s e
  item_without (WithData TransparentText bytes) a s e = tt
  item_without (WithData RasterRow bytes) a s e = tt
  item_without _ a s e = tt

-- ---- both

pub item_goes : (item : Entry) → GoesOnLike item
item_goes item p q defaults like asks = record {
  same =
      λ s. subst (λ r. asks_alike p r item ≡ true → transition_of r defaults s item ≡ transition_of p defaults s item) (sym like)
      (λ a. item_same p q defaults item a s) asks;
  bare = item_without p q defaults item asks;
}

pub byte_goes : (code : ℕ) → ByteGoesOnLike code
byte_goes code p q like s = subst (λ r. print_transparent r s code ≡ print_transparent p s code) (sym like) refl

pub move_goes : (to : ℤ × ℤ) → MoveGoesOnLike to
move_goes to p q like s = subst (λ r. move_pen r s to ≡ move_pen p s to) (sym like) refl
