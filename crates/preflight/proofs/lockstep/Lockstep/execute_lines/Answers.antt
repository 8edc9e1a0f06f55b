use Rattle.std.proofs.Common.{◌≡◌, ◌∷◌, ◌++◌, ℕ, List, Option, IfSome, map, take, drop, length, ap, sym, subst, ◌∙◌, arith}
use Rattle.pcl_items.specs.declared.item.Mode.TheVariants.{Pcl}
use Rattle.page_env.proofs.TextRooms.{measured_lines_go}
use Rattle.page_env.specs.declared.text_lines.TextAppearance.{TextAppearance}
use Rattle.page_env.specs.declared.text_lines.TextLines.{TextLines}
use Rattle.page_env.specs.TextLines.{GoAs}
use Rattle.page_env.specs.TextMeasure.{AreLinesFrom}
use Rattle.page_machine.specs.Event.{Marked}
use Rattle.page_machine.specs.MachineState.{MachineState}
use Rattle.page_machine.specs.TextLines.{PrintsLines}
use Rattle.sinks.specs.Counts.{counts_after}
use Rattle.sinks.specs.declared.counts.Counts.{Counts}
use Rattle.preflight.specs.Carriers.Each.{Each}
use Rattle.preflight.specs.declared.fleet_mode.FleetMode.{FleetMode}
use Rattle.preflight.specs.declared.fleet_mode.FleetMode.TheVariants.{Apart}
use Rattle.preflight.specs.Carriers.FleetMode.{IsFormed, others_in}
use Rattle.preflight.specs.Carriers.Lockstep.{AreIn, AreRunning, Fleet}
use Rattle.preflight.specs.Carriers.TextInStep.{GoOnAll, PrintInStep}
use Rattle.preflight.proofs.Executing.{written_back}
use Rattle.sinks.proofs.TextLines.{lines_of, shape_count, shapes_of}
use Rattle.preflight.proofs.TextInStep.{all_in_pcl, all_print, print_in_step, stay_formed}
use Rattle.preflight.proofs.lockstep.Lockstep.execute_lines.Given.{Over}
use Rattle.preflight.proofs.lockstep.Lockstep.execute_lines.Goals.{After-add_marks, in-Apart, in_default-fleet_mode, in-Apart-fleet_mode}
use Rattle.preflight.proofs.lockstep.Lockstep.execute_lines.Goals.{in_default-fleet_mode-2}
use Rattle.preflight.proofs.lockstep.Lockstep.execute_lines.Goals as goal

module _ (g : Over) (c : After-add_marks g) where
  abbrev look : TextAppearance
  look = c.in-Some.measure.look

  abbrev text : List ℕ
  text = take c.in-Some-found.lines.count c.args.bytes.now

  abbrev before : List MachineState
  before = c.self.inside.others.items

  abbrev behind : List MachineState
  behind = c.match-self-2.self-inside.others.items

  are_lines : AreLinesFrom c.in-Some.measure c.in-Some.from c.args.bytes.now c.in-Some-found.lines
  are_lines = elim c.match-self.branch [
    | in-Apart w ↦
        subst (λ (o : Option TextLines). IfSome o (λ lines. AreLinesFrom c.in-Some.measure c.in-Some.from c.args.bytes.now lines))
        (sym w.found-is ∙ c.in-Some-found.is) w.lines_on_all-found.ensures.lines
    | in_default-fleet_mode w ↦
        subst (λ (o : Option TextLines). IfSome o (λ lines. AreLinesFrom c.in-Some.measure c.in-Some.from c.args.bytes.now lines))
        (sym w.found-is ∙ c.in-Some-found.is) w.lines_ahead.ensures
  ]

  goes : GoAs c.self.inside.first.printer c.self.inside.first.page look c.in-Some.from text c.in-Some-found.lines
  goes =
      measured_lines_go c.self.inside.first.printer c.in-Some.measure c.self.inside.first.page c.in-Some.from c.args.bytes.now
      c.in-Some-found.lines c.in-Some.ensures.measure c.in-Some.ensures.stands are_lines

  prints : PrintsLines look c.in-Some.from text c.self.inside.first c.pass_lines.new.self
  prints = c.pass_lines.ensures look c.in-Some.from text c.in-Some.ensures.no_definition goes

  -- where each goes by itself they go on the others, too
  go_on : c.self.inside.fleet_mode ≡ Apart → GoOnAll look c.in-Some.from text before
  go_on apart = elim c.match-self.branch [
    | in-Apart w ↦
        subst (λ ms. GoOnAll look c.in-Some.from text ms) w.deref.ensures.value
        (subst
        (λ (o : Option TextLines).
        IfSome o (λ lines. GoOnAll look c.in-Some.from (take lines.count c.args.bytes.now) w.deref.result.now))
        (sym w.found-is ∙ c.in-Some-found.is) w.lines_on_all-found.ensures.go)
    | in_default-fleet_mode w ↦ absurd (w.in_default-fleet_mode.not-Apart apart)
  ]

  first_is : c.match-self-2.self-inside.first ≡ c.pass_lines.new.self
  first_is = elim c.match-self-2.branch [
    | in-Apart-fleet_mode w ↦ ap (λ s. s.first) w.self-inside-is
    | in_default-fleet_mode-2 w ↦ ap (λ s. s.first) w.self-inside-is
  ]

  fleet_mode_is : c.match-self-2.self-inside.fleet_mode ≡ c.self.inside.fleet_mode
  fleet_mode_is = elim c.match-self-2.branch [
    | in-Apart-fleet_mode w ↦ ap (λ s. s.fleet_mode) w.self-inside-is
    | in_default-fleet_mode-2 w ↦ ap (λ s. s.fleet_mode) w.self-inside-is
  ]

  counts_are : c.match-self-2.self-inside.counts ≡ c.self.inside.counts
  counts_are = elim c.match-self-2.branch [
    | in-Apart-fleet_mode w ↦ ap (λ s. s.counts) w.self-inside-is
    | in_default-fleet_mode-2 w ↦ ap (λ s. s.counts) w.self-inside-is
  ]

  others_print : c.self.inside.fleet_mode ≡ Apart → Each (PrintsLines look c.in-Some.from text) before behind
  others_print apart = elim c.match-self-2.branch [
    | in-Apart-fleet_mode w ↦
        let n = c.self.inside.others.len in
        let others = w.pass_lines_on_each.new.machines in
        let whole : take n (others ++ drop (length others) before) ≡ others =
        written_back n before others (omega (arith, w.pass_lines_on_each.auto.machines, w.deref_mut.ensures.len))
        (omega (arith, c.self.inside.others.ok.0)) in
        let go = subst (λ ms. GoOnAll look c.in-Some.from text ms) (sym w.deref_mut.ensures.value) (go_on apart) in
        let each =
        subst (λ ms. Each (PrintsLines look c.in-Some.from text) ms others) w.deref_mut.ensures.value
        (w.pass_lines_on_each.ensures look c.in-Some.from text go are_lines.end are_lines.glyphs) in
        subst (λ ms. Each (PrintsLines look c.in-Some.from text) before ms) (sym (ap (λ s. s.others.items) w.self-inside-is))
        (subst (λ ms. Each (PrintsLines look c.in-Some.from text) before ms) (sym whole) each)
    | in_default-fleet_mode-2 w ↦ absurd (w.in_default-fleet_mode-2.not-Apart apart)
  ]

  others_are : (c.self.inside.fleet_mode ≡ Apart → ⊥) → behind ≡ before
  others_are together = elim c.match-self-2.branch [
    | in-Apart-fleet_mode w ↦ absurd (together w.in-Apart-fleet_mode.is)
    | in_default-fleet_mode-2 w ↦ ap (λ s. s.others.items) w.self-inside-is
  ]

  running : AreRunning (c.self.inside.first ∷ others_in c.self.inside.fleet_mode c.self.inside.first before)
  running = subst (λ (f : Fleet). AreRunning f.machines) (sym c.self.view_is) c.requires.running

  formed : IsFormed c.self.inside.fleet_mode c.self.inside.first before
  formed = c.self.invariant running.0

  in_pcl : AreIn Pcl (c.self.inside.first ∷ others_in c.self.inside.fleet_mode c.self.inside.first before)
  in_pcl =
      all_in_pcl look c.in-Some.from text c.self.inside.fleet_mode c.self.inside.first before formed c.in-Some.ensures.mode go_on

pub returns-clause-short : goal.returns-clause-short
returns-clause-short g c = (are_lines g c).short

pub returns-clause-lines : goal.returns-clause-lines
returns-clause-lines g c = lines_of c.self.inside.first.printer (text g c) (look g c) c.in-Some.from c.self.inside.first.page (goes g c).go

pub invariant_of-self : goal.invariant_of-self
invariant_of-self g c = λ _.
    subst (λ m. IsFormed c.match-self-2.self-inside.fleet_mode m (behind g c)) (sym (first_is g c))
    (subst (λ (f : FleetMode). IsFormed f c.pass_lines.new.self (behind g c)) (sym (fleet_mode_is g c))
    (stay_formed c.items_go_on_like_printers.ensures.items (look g c) c.in-Some.from (text g c) c.self.inside.first c.pass_lines.new.self
    (goes g c).go (prints g c) c.self.inside.fleet_mode (before g c) (behind g c) (formed g c) c.in-Some.ensures.no_definition
    (others_are g c)))

pub returns-clause-step : goal.returns-clause-step
returns-clause-step g c =
    let first = c.self.inside.first in
    let fleet_mode = c.self.inside.fleet_mode in
    let shapes = shapes_of (look g c) c.in-Some.from (text g c) in
    let counted : c.add_marks.new.self ≡ counts_after (map Marked shapes) c.self.inside.counts =
    c.add_marks.ensures shapes (shape_count (text g c) (look g c) c.in-Some.from ∙ sym (goes g c).glyphs)
    ∙ ap (counts_after (map Marked shapes)) (counts_are g c) in
    let each =
    all_print c.items_go_on_like_printers.ensures.items (look g c) c.in-Some.from (text g c) first c.pass_lines.new.self (goes g c).go
    (prints g c) fleet_mode (before g c) (behind g c) (formed g c) c.in-Some.ensures.no_definition (others_print g c) (others_are g c) in
    subst
    (λ (f : Fleet). PrintInStep (text g c) f.machines
    (c.match-self-2.self-inside.first ∷ others_in c.match-self-2.self-inside.fleet_mode c.match-self-2.self-inside.first (behind g c))
    f.counts c.add_marks.new.self)
    c.self.view_is
    (subst
    (λ m. PrintInStep (text g c) (first ∷ others_in fleet_mode first (before g c))
    (m ∷ others_in c.match-self-2.self-inside.fleet_mode m (behind g c)) c.self.inside.counts c.add_marks.new.self)
    (sym (first_is g c))
    (subst
    (λ (f : FleetMode). PrintInStep (text g c) (first ∷ others_in fleet_mode first (before g c))
    (c.pass_lines.new.self ∷ others_in f c.pass_lines.new.self (behind g c)) c.self.inside.counts c.add_marks.new.self)
    (sym (fleet_mode_is g c))
    (subst
    (λ (counts : Counts). PrintInStep (text g c) (first ∷ others_in fleet_mode first (before g c))
    (c.pass_lines.new.self ∷ others_in fleet_mode c.pass_lines.new.self (behind g c)) c.self.inside.counts counts)
    (sym counted)
    (print_in_step (text g c) (look g c) c.in-Some.from (first ∷ others_in fleet_mode first (before g c))
    (c.pass_lines.new.self ∷ others_in fleet_mode c.pass_lines.new.self (behind g c)) c.self.inside.counts
    (running g c) (in_pcl g c) each))))
