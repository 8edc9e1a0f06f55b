-- Machines and a session that give up their profiles and take them again.
use Rattle.std.proofs.Common.{◌≡◌, ◌+◌, ◌<◌, ◌∙◌, ℕ, List, [], ◌∷◌, ◌++◌, append_assoc, ap, drop, get_or, length, map, refl, reverse}
use Rattle.std.proofs.Common.{subst, sym}
use Rattle.std.proofs.lemmas.List.{drop_more, length-map, map-append, reverse-append}
use Rattle.device_profile.specs.Printer.{Printer}
use Rattle.pcl_lexer.specs.Lexing.State.{LexerState}
use Rattle.page_machine.specs.Detached.{DetachedState, attached, detached}
use Rattle.page_machine.specs.Likeness.{standing_as}
use Rattle.page_machine.specs.MachineState.{MachineState}
use Rattle.sinks.specs.declared.counts.Counts.{Counts}
use Rattle.preflight.specs.declared.fleet_mode.FleetMode.{FleetMode}
use Rattle.preflight.specs.declared.fleet_mode.FleetMode.TheVariants.{Alone, Together, Defining, Apart}
use Rattle.preflight.specs.Carriers.Checking.{printers_of}
use Rattle.preflight.specs.Carriers.Detached.{AreFormed, AreLeftOf, DetachedFleet, IsLeftOf, IsUnderWay, attached_each}
use Rattle.preflight.specs.Carriers.Detached.{attached_fleet, session_with}
use Rattle.preflight.specs.Carriers.FleetMode.{IsFormed, fleet_of, others_in}
use Rattle.preflight.specs.Carriers.Lockstep.{Fleet}

-- ---- one machine after another

-- the last machine gives up its profile
pub one_left : (front : List MachineState) (machine : MachineState) (left left' : List DetachedState) (one : DetachedState) →
    one ≡ detached machine → left' ≡ left ++ one ∷ [] →
    map detached front ++ reverse left' ≡ map detached (front ++ machine ∷ []) ++ reverse left
one_left front machine left left' one is pushed =
    let turned : reverse left' ≡ detached machine ∷ reverse left =
    ap reverse pushed ∙ reverse-append left (one ∷ []) ∙ ap (λ (d : DetachedState). d ∷ reverse left) is in
    let parted : map detached (front ++ machine ∷ []) ++ reverse left ≡ map detached front ++ (detached machine ∷ reverse left) =
    ap (λ (ds : List DetachedState). ds ++ reverse left) (map-append detached front (machine ∷ []))
    ∙ append_assoc (map detached front) (detached machine ∷ []) (reverse left) in
    ap (λ (ds : List DetachedState). map detached front ++ ds) turned ∙ sym parted

-- the last one takes the next profile
pub one_attached : (printers : List Printer) (i : ℕ) (printer : Printer) (machines machines' : List MachineState)
    (machine : MachineState) (left front : List DetachedState) (one : DetachedState) → i < length printers →
    printer ≡ get_or printers i printer → left ≡ front ++ one ∷ [] → machine ≡ attached printer one →
    machines' ≡ machines ++ machine ∷ []
    → machines' ++ attached_each (drop (i + 1) printers) (reverse front) ≡ machines ++ attached_each (drop i printers) (reverse left)
one_attached printers i printer machines machines' machine left front one inside is split made pushed =
    let behind : List Printer = drop (i + 1) printers in
    let rest : List MachineState = attached_each behind (reverse front) in
    let turned : reverse left ≡ one ∷ reverse front = ap reverse split ∙ reverse-append front (one ∷ []) in
    let next : drop i printers ≡ printer ∷ behind =
    drop_more printers i printer inside ∙ ap (λ (p : Printer). p ∷ behind) (sym is) in
    let whole : machines ++ attached_each (drop i printers) (reverse left) ≡ machines ++ (attached printer one ∷ rest) =
    ap (λ (ps : List Printer). machines ++ attached_each ps (reverse left)) next
    ∙ ap (λ (ds : List DetachedState). machines ++ attached_each (printer ∷ behind) ds) turned in
    ap (λ (ms : List MachineState). ms ++ rest) pushed
    ∙ append_assoc machines (machine ∷ []) rest
    ∙ ap (λ (m : MachineState). machines ++ (m ∷ rest)) made
    ∙ sym whole

-- ---- all machines

-- each is itself again on its own printer
all_back : (machines : List MachineState) → attached_each (printers_of machines) (map detached machines) ≡ machines
all_back [] = refl
all_back (m ∷ ms) = ap (λ (rest : List MachineState). m ∷ rest) (all_back ms)

-- where the others stand is on their own printers
standing_printers : (first : MachineState) (others : List MachineState) →
    printers_of (map (standing_as first) others) ≡ printers_of others
standing_printers first [] = refl
standing_printers first (m ∷ ms) = ap (λ (ps : List Printer). m.printer ∷ ps) (standing_printers first ms)

printers_in : (fleet_mode : FleetMode) (first : MachineState) (others : List MachineState) → IsFormed fleet_mode first others →
    printers_of (others_in fleet_mode first others) ≡ printers_of others
printers_in Alone first others formed = ap printers_of (sym formed)
printers_in Together first others formed = standing_printers first others
printers_in Defining first others formed = refl
printers_in Apart first others formed = refl

module _ (fleet_mode : FleetMode) (first : MachineState) (others : List MachineState) (counts : Counts)
    (formed : IsFormed fleet_mode first others) where
  abbrev Left : DetachedFleet
  Left = record { fleet_mode = fleet_mode; first = detached first; others = map detached others; counts = counts }

  abbrev Whole : Fleet
  Whole = fleet_of fleet_mode first others counts

  on_own : (printer : Printer) (printers : List Printer) → first.printer ≡ printer →
      printers_of (others_in fleet_mode first others) ≡ printers →
      AreFormed (printer ∷ printers) Left × (attached_fleet (printer ∷ printers) Left ≡ Whole)
  on_own printer printers of_first of_others =
      let one : attached printer (detached first) ≡ first = ap (λ (p : Printer). attached p (detached first)) (sym of_first) in
      let own : printers ≡ printers_of others = sym of_others ∙ printers_in fleet_mode first others formed in
      let each : attached_each printers (map detached others) ≡ others =
      ap (λ (ps : List Printer). attached_each ps (map detached others)) own ∙ all_back others in
      let long : length (map detached others) ≡ length printers =
      length-map others detached
      ∙ sym (length-map others (λ machine. machine.printer))
      ∙ ap (λ (ps : List Printer). length ps) (sym own) in (
        (
          long,
          subst (λ (m : MachineState). IsFormed fleet_mode m (attached_each printers (map detached others))) (sym one)
              (subst (λ (ms : List MachineState). IsFormed fleet_mode first ms) (sym each) formed),
        ),
        ap (λ (m : MachineState). fleet_of fleet_mode m (attached_each printers (map detached others)) counts) one
            ∙ ap (λ (ms : List MachineState). fleet_of fleet_mode first ms counts) each,
      )

  for_fleet : (fleet : List Printer) → printers_of Whole.machines ≡ fleet → AreFormed fleet Left × (attached_fleet fleet Left ≡ Whole)
  for_fleet [] is = absurd cc
  for_fleet (printer ∷ printers) is =
      let of_first : first.printer ≡ printer = cc in
      let of_others : printers_of (others_in fleet_mode first others) ≡ printers = cc in
      on_own printer printers of_first of_others

  -- what is left of machines is these on their own printers
  pub left_of : AreLeftOf Whole Left
  left_of = record { back = for_fleet }

-- ---- a session

-- what is left of a session is that on its own printers
pub session_left : (lexer : LexerState) (machines : Fleet) (total : ℕ) (left : DetachedFleet) → AreLeftOf machines left →
    IsUnderWay (session_with lexer machines total) →
    IsLeftOf (session_with lexer machines total) (record { lexer = lexer; machines = left; total = total })
session_left lexer machines total left are under_way = record {
  back = λ fleet is.
      let back = are.back fleet is in
      let same : session_with lexer (attached_fleet fleet left) total ≡ session_with lexer machines total =
      ap (λ (ms : Fleet). session_with lexer ms total) back.1 in
      (record { formed = back.0; under_way = subst IsUnderWay (sym same) under_way }, same);
}
