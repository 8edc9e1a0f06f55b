-- How the machines of a fleet stand before the first item.
use Rattle.std.proofs.Common.{◌≡◌, List, [], ◌∷◌, map, refl, ap, sym, ◌∙◌, subst}
use Rattle.std.specs.Prelude.{◌≢◌}
use Rattle.std.specs.List.{AllByRecursion}
use Rattle.macro_store.specs.Store.{Store}
use Rattle.device_profile.specs.declared.panel.Panel.{Panel}
use Rattle.device_profile.specs.Likeness.{IsLike}
use Rattle.device_profile.specs.Printer.{Printer}
use Rattle.page_env.specs.Settings.{settings_at, state_at, start_state}
use Rattle.page_machine.specs.declared.machine.Start.TheVariants.{Unknown}
use Rattle.page_machine.specs.Likeness.{standing_as}
use Rattle.page_machine.specs.Machine.{StartsFrom}
use Rattle.page_machine.specs.MachineState.{MachineState}
use Rattle.preflight.specs.declared.fleet_mode.FleetMode.{FleetMode}
use Rattle.preflight.specs.declared.fleet_mode.FleetMode.TheVariants.{Alone, Together, Defining, Apart}
use Rattle.preflight.specs.Carriers.Each.{Each}
use Rattle.preflight.specs.Carriers.FleetMode.{others_in, BeginsAs, DefinesNone, Follows, IsFormed}
use Rattle.preflight.specs.Carriers.Lockstep.{IsFresh}

defines_none : (printer : Printer) (m : MachineState) → IsFresh printer m → DefinesNone m
defines_none printer m fresh = ap (λ (s : Store). s.definition) fresh.new.macros

module _ (p : Printer) (first : MachineState) (begun : IsFresh p first) where
  -- on a printer that is like another a machine may stand where the one of that begins
  module _ (q : Printer) (like : IsLike p q) (m : MachineState) (fresh : IsFresh q m) where
    starts : StartsFrom q Unknown first.defaults
    starts = subst (λ r. StartsFrom r Unknown first.defaults) (sym like)
        (λ panel allowed. begun.new.defaults panel (record {
          size = allowed.size;
          orientation = allowed.orientation;
          vmi = allowed.vmi;
          font = allowed.font;
          copies = allowed.copies;
          sides = allowed.sides;
          tray = allowed.tray;
          line_termination = allowed.line_termination;
        }))

    begins : (panel : Panel) → state_at panel first.page ≡ start_state q.most_items (settings_at panel first.defaults)
    begins panel = begun.new.page panel ∙ ap (λ (r : Printer). start_state r.most_items (settings_at panel first.defaults)) (sym like)

    follower_begins : IsFresh q (standing_as first m)
    follower_begins = record {
      new = record {
        printer_is = fresh.new.printer_is;
        running = begun.new.running;
        defaults = starts;
        macros = fresh.new.macros;
        mode = begun.new.mode;
        page = begins;
      };
      ready = fresh.ready;
    }

    follower_follows : Follows first m
    follower_follows = (
      subst (λ r. IsLike r m.printer) (sym begun.new.printer_is) (subst (IsLike p) (sym fresh.new.printer_is) like),
      defines_none q m fresh,
    )

  followers_begin : (qs : List Printer) (ms : List MachineState) → AllByRecursion (IsLike p) qs → Each IsFresh qs ms →
      Each IsFresh qs (map (standing_as first) ms)
  followers_begin [] [] like fresh = tt
  followers_begin [] (m ∷ ms) like fresh = absurd fresh
  followers_begin (q ∷ qs) [] like fresh = absurd fresh
  followers_begin (q ∷ qs) (m ∷ ms) like fresh = (follower_begins q like.0 m fresh.0, followers_begin qs ms like.1 fresh.1)

  followers_follow : (qs : List Printer) (ms : List MachineState) → AllByRecursion (IsLike p) qs → Each IsFresh qs ms →
      AllByRecursion (Follows first) ms
  followers_follow [] [] like fresh = tt
  followers_follow [] (m ∷ ms) like fresh = absurd fresh
  followers_follow (q ∷ qs) [] like fresh = absurd fresh
  followers_follow (q ∷ qs) (m ∷ ms) like fresh = (follower_follows q like.0 m fresh.0, followers_follow qs ms like.1 fresh.1)

  some_machines : (qs : List Printer) (ms : List MachineState) → qs ≢ [] → Each IsFresh qs ms → ms ≢ []
  some_machines [] ms some fresh = absurd (some refl)
  some_machines (q ∷ qs) [] some fresh = absurd fresh
  some_machines (q ∷ qs) (m ∷ ms) some fresh = λ e. absurd cc

  none_machines : (qs : List Printer) (ms : List MachineState) → qs ≡ [] → Each IsFresh qs ms → ms ≡ []
  none_machines [] [] none fresh = refl
  none_machines [] (m ∷ ms) none fresh = absurd fresh
  none_machines (q ∷ qs) ms none fresh = absurd cc

  pub fleet_begins : (fleet_mode : FleetMode) (qs : List Printer) (ms : List MachineState) → BeginsAs fleet_mode p qs → Each IsFresh qs ms →
      Each IsFresh (p ∷ qs) (first ∷ others_in fleet_mode first ms)
  fleet_begins Alone qs ms begins_as fresh = (begun, subst (λ rs. Each IsFresh rs []) (sym begins_as) tt)
  fleet_begins Together qs ms begins_as fresh = (begun, followers_begin qs ms begins_as.0 fresh)
  fleet_begins Defining qs ms begins_as fresh = absurd begins_as
  fleet_begins Apart qs ms begins_as fresh = (begun, fresh)

  pub fleet_is_formed : (fleet_mode : FleetMode) (qs : List Printer) (ms : List MachineState) → BeginsAs fleet_mode p qs →
      Each IsFresh qs ms → IsFormed fleet_mode first ms
  fleet_is_formed Alone qs ms begins_as fresh = none_machines qs ms begins_as fresh
  fleet_is_formed Together qs ms begins_as fresh =
      (defines_none p first begun, followers_follow qs ms begins_as.0 fresh, some_machines qs ms begins_as.1 fresh)
  fleet_is_formed Defining qs ms begins_as fresh = absurd begins_as
  fleet_is_formed Apart qs ms begins_as fresh = tt
