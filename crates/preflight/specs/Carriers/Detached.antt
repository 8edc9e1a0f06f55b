-- Machines and a session without their profiles, and what they are for a fleet.
use Rattle.std.specs.Prelude.{◌≡◌, ◌+◌, ◌≤◌, ◌^◌, ℕ, List, [], ◌∷◌, length, false, None}
use Rattle.pcl_lexer.specs.Lexing.State.{LexerState, WantsMore}
use Rattle.pcl_lexer.specs.Modes.{mode_of}
use Rattle.device_profile.specs.Printer.{Printer}
use Rattle.page_machine.specs.Detached.{DetachedState, attached}
use Rattle.page_machine.specs.MachineState.{MachineState}
use Rattle.sinks.specs.declared.counts.Counts.{Counts}
use Rattle.preflight.specs.declared.check_state.CheckState.TheVariants.{Open}
use Rattle.preflight.specs.declared.fleet_mode.FleetMode.{FleetMode}
use Rattle.preflight.specs.Carriers.Checking.{printers_of}
use Rattle.preflight.specs.Carriers.FleetMode.{IsFormed, fleet_of}
use Rattle.preflight.specs.Carriers.Lockstep.{AreIn, AreRunning, Fleet}
use Rattle.preflight.specs.Session.{HasChecked, SessionState}

-- ---- machines

pub record DetachedFleet : Type 0 where
  pub fleet_mode : FleetMode
  pub first : DetachedState
  pub others : List DetachedState
  pub counts : Counts

-- the machines that they are on these printers, one by one
abbrev pub attached_each : List Printer → List DetachedState → List MachineState
attached_each [] machines = []
attached_each (printer ∷ printers) [] = []
attached_each (printer ∷ printers) (machine ∷ machines) = attached printer machine ∷ attached_each printers machines

-- what they are for a fleet
abbrev pub attached_fleet : List Printer → DetachedFleet → Fleet
attached_fleet [] machines = record { machines = []; counts = machines.counts }
attached_fleet (printer ∷ printers) machines =
    fleet_of machines.fleet_mode (attached printer machines.first) (attached_each printers machines.others)
    machines.counts

-- for this fleet they stand in a way in which machines may
abbrev pub AreFormed : List Printer → DetachedFleet → Type 0
AreFormed [] machines = ⊥
AreFormed (printer ∷ printers) machines =
    (length machines.others ≡ length printers)
    × IsFormed machines.fleet_mode (attached printer machines.first) (attached_each printers machines.others)

-- they are these machines, on their printers
pub record AreLeftOf (machines : Fleet) (left : DetachedFleet) : Type 0 where
  pub back : (fleet : List Printer) → printers_of machines.machines ≡ fleet →
      AreFormed fleet left × (attached_fleet fleet left ≡ machines)

-- ---- a session that is open

pub record DetachedCheck : Type 0 where
  pub lexer : LexerState
  pub machines : DetachedFleet
  pub total : ℕ

-- a session with these machines in which nothing is wrong
abbrev pub session_with : LexerState → Fleet → (total : ℕ) → SessionState
session_with lexer machines total = record {
  lexer = lexer;
  machines = machines.machines;
  counts = machines.counts;
  total = total;
  state = Open;
  failing_item = None;
}

-- what it is for a fleet
abbrev pub attached_session : List Printer → DetachedCheck → SessionState
attached_session fleet check = session_with check.lexer (attached_fleet fleet check.machines) check.total

-- a session that is open stands so
pub record IsUnderWay (session : SessionState) : Type 0 where
  pub open_input : session.lexer.ended ≡ false
  pub wants_more : WantsMore session.lexer
  pub running : AreRunning session.machines
  pub modes : AreIn (mode_of session.lexer.context) session.machines
  pub places : session.lexer.place + length session.lexer.rest ≡ session.total
  pub short : session.total ≤ 2 ^ 62

-- a session for this fleet, which may go on
pub record IsLeftFor (fleet : List Printer) (check : DetachedCheck) : Type 0 where
  pub formed : AreFormed fleet check.machines
  pub under_way : IsUnderWay (attached_session fleet check)

-- it was fed these bytes, for a check by this fleet
pub record WasFed (fleet : List Printer) (bytes : List ℕ) (check : DetachedCheck) : Type 0 where
  pub left : IsLeftFor fleet check
  pub checked : HasChecked fleet bytes (attached_session fleet check)

-- it was fed some bytes
pub record IsUsed (fleet : List Printer) (check : DetachedCheck) : Type 0 where
  pub bytes : List ℕ
  pub fed : WasFed fleet bytes check

-- it is this session, for the printers of that
pub record IsLeftOf (session : SessionState) (check : DetachedCheck) : Type 0 where
  pub back : (fleet : List Printer) → printers_of session.machines ≡ fleet →
      IsLeftFor fleet check × (attached_session fleet check ≡ session)
