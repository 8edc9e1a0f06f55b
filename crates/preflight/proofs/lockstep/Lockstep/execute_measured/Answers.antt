use Rattle.std.proofs.Common.{◌≡◌, ◌∷◌, ℕ, List, map, take, refl, sym, subst, ◌∙◌}
use Rattle.pcl_items.specs.declared.item.Mode.TheVariants.{Pcl}
use Rattle.page_env.proofs.TextRooms.{measured_lines_go}
use Rattle.page_env.specs.declared.text_lines.TextAppearance.{TextAppearance}
use Rattle.page_env.specs.TextLines.{GoAs}
use Rattle.page_machine.specs.Event.{Marked}
use Rattle.page_machine.specs.MachineState.{MachineState}
use Rattle.page_machine.specs.TextLines.{MeasuresLines, PrintsLines}
use Rattle.sinks.specs.Counts.{counts_after}
use Rattle.sinks.specs.declared.counts.Counts.{Counts}
use Rattle.preflight.specs.declared.fleet_mode.FleetMode.TheVariants.{Apart}
use Rattle.preflight.specs.Carriers.FleetMode.{IsFormed, others_in}
use Rattle.preflight.specs.Carriers.FormsInStep.{FirstKeeps, FirstMeasures}
use Rattle.preflight.specs.Carriers.Lockstep.{AreIn, AreRunning, Fleet}
use Rattle.preflight.specs.Carriers.TextInStep.{PrintInStep}
use Rattle.preflight.proofs.FormsInStep.{keeps_self, not_apart, prints_keep}
use Rattle.sinks.proofs.TextLines.{lines_of, shape_count, shapes_of}
use Rattle.preflight.proofs.TextInStep.{all_in_pcl, all_print, print_in_step, stay_formed}
use Rattle.preflight.proofs.lockstep.Lockstep.execute_measured.Given.{Over}
use Rattle.preflight.proofs.lockstep.Lockstep.execute_measured.Goals.{After-add_marks}
use Rattle.preflight.proofs.lockstep.Lockstep.execute_measured.Goals as goal

module _ (g : Over) (c : After-add_marks g) where
  abbrev look : TextAppearance
  look = c.args.measure.now.look

  abbrev text : List ℕ
  text = take c.lines_ahead-lines.result.count c.args.bytes.now

  abbrev others : List MachineState
  others = c.self.inside.others.items

  measures : MeasuresLines c.args.measure.now c.self.inside.first
  measures = subst (λ (f : Fleet). FirstMeasures c.args.measure.now f.machines) (sym c.self.view_is) c.requires.measured

  goes : GoAs c.self.inside.first.printer c.self.inside.first.page look c.in-Some.from text c.lines_ahead-lines.result
  goes =
      measured_lines_go c.self.inside.first.printer c.args.measure.now c.self.inside.first.page c.in-Some.from c.args.bytes.now
      c.lines_ahead-lines.result measures.measure c.in-Some.ensures c.lines_ahead-lines.ensures

  prints : PrintsLines look c.in-Some.from text c.self.inside.first c.pass_lines.new.self
  prints = c.pass_lines.ensures look c.in-Some.from text measures.no_definition goes

  apart_never : c.self.inside.fleet_mode ≡ Apart → ⊥
  apart_never = not_apart c.self.inside.fleet_mode c.in-Alone.is

  running : AreRunning (c.self.inside.first ∷ others_in c.self.inside.fleet_mode c.self.inside.first others)
  running = subst (λ (f : Fleet). AreRunning f.machines) (sym c.self.view_is) c.requires.running

  formed : IsFormed c.self.inside.fleet_mode c.self.inside.first others
  formed = c.self.invariant running.0

  in_pcl : AreIn Pcl (c.self.inside.first ∷ others_in c.self.inside.fleet_mode c.self.inside.first others)
  in_pcl =
      all_in_pcl look c.in-Some.from text c.self.inside.fleet_mode c.self.inside.first others formed measures.mode
      (λ apart. absurd (apart_never apart))

-- ---- where nothing is executed

pub returns-in_default-clause-kept : goal.returns-in_default-clause-kept
returns-in_default-clause-kept g c = keeps_self c.args.self.now.machines

pub returns-in_default-text_place-clause-kept : goal.returns-in_default-text_place-clause-kept
returns-in_default-text_place-clause-kept g c = keeps_self c.args.self.now.machines

-- ---- lines of text

pub returns-clause-short : goal.returns-clause-short
returns-clause-short g c = c.lines_ahead-lines.ensures.short

pub returns-clause-lines : goal.returns-clause-lines
returns-clause-lines g c = lines_of c.self.inside.first.printer (text g c) (look g c) c.in-Some.from c.self.inside.first.page (goes g c).go

pub invariant_of-self : goal.invariant_of-self
invariant_of-self g c = λ _.
    stay_formed c.items_go_on_like_printers.ensures.items (look g c) c.in-Some.from (text g c) c.self.inside.first c.pass_lines.new.self
    (goes g c).go (prints g c) c.self.inside.fleet_mode (others g c) (others g c) (formed g c)
    (measures g c).no_definition (λ _. refl)

pub returns-clause-kept : goal.returns-clause-kept
returns-clause-kept g c =
    subst
    (λ (f : Fleet). FirstKeeps f.machines
    (c.pass_lines.new.self ∷ others_in c.self.inside.fleet_mode c.pass_lines.new.self (others g c)))
    c.self.view_is (prints_keep (text g c) (look g c) c.in-Some.from c.self.inside.first c.pass_lines.new.self (prints g c))

pub returns-clause-step : goal.returns-clause-step
returns-clause-step g c =
    let first = c.self.inside.first in
    let fleet_mode = c.self.inside.fleet_mode in
    let shapes = shapes_of (look g c) c.in-Some.from (text g c) in
    let counted : c.add_marks.new.self ≡ counts_after (map Marked shapes) c.self.inside.counts =
    c.add_marks.ensures shapes (shape_count (text g c) (look g c) c.in-Some.from ∙ sym (goes g c).glyphs) in
    let each =
    all_print c.items_go_on_like_printers.ensures.items (look g c) c.in-Some.from (text g c) first c.pass_lines.new.self (goes g c).go
    (prints g c) fleet_mode (others g c) (others g c) (formed g c) (measures g c).no_definition
    (λ apart. absurd (apart_never g c apart)) (λ _. refl) in
    subst
    (λ (f : Fleet). PrintInStep (text g c) f.machines
    (c.pass_lines.new.self ∷ others_in fleet_mode c.pass_lines.new.self (others g c)) f.counts c.add_marks.new.self)
    c.self.view_is
    (subst
    (λ (counts : Counts). PrintInStep (text g c) (first ∷ others_in fleet_mode first (others g c))
    (c.pass_lines.new.self ∷ others_in fleet_mode c.pass_lines.new.self (others g c)) c.self.inside.counts counts)
    (sym counted)
    (print_in_step (text g c) (look g c) c.in-Some.from (first ∷ others_in fleet_mode first (others g c))
    (c.pass_lines.new.self ∷ others_in fleet_mode c.pass_lines.new.self (others g c)) c.self.inside.counts
    (running g c) (in_pcl g c) each))
