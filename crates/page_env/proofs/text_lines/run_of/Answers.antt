use Rattle.std.proofs.Common.{◌∙◌, ◌*◌, pos, length, ap, sym, subst}
use Rattle.std.specs.Prelude.{◌+ℤ◌}
use Rattle.tick_length.specs.Length.{IsInRange}
use Rattle.page_env.specs.TextMeasure.{TextMeasure}
use Rattle.page_env.proofs.TextRooms.{columns_in_range, run_inked, run_leads, run_room}
use Rattle.page_env.proofs.text_lines.run_of.Goals as goal

pub columns_behind-x-requires : goal.columns_behind-x-requires
columns_behind-x-requires g c = λ here.
    subst (λ (m : TextMeasure). IsInRange (c.args.place.x +ℤ pos (length c.args.bytes.now * m.look.column))) (sym c.measure.view_is)
    (columns_in_range c.args.measure.now (length c.args.bytes.now) c.args.place here c.requires.columns)

pub returns-clause-room : goal.returns-clause-room
returns-clause-room g c = run_room c.args.measure.now c.args.bytes.now c.args.place c.requires.columns c.requires.in_face

pub returns-clause-end : goal.returns-clause-end
returns-clause-end g c =
    let m = c.args.measure.now in
    let x =
    c.columns_behind-x.ensures
    ∙ ap (λ (n : TextMeasure). c.args.place.x +ℤ pos (length c.args.bytes.now * n.look.column)) c.measure.view_is in
    (λ i. record c.args.place { x = x i }) ∙ run_leads m.look m.codes c.args.bytes.now c.args.place c.requires.in_face

pub returns-clause-glyphs : goal.returns-clause-glyphs
returns-clause-glyphs g c = c.requires.inked ∙ run_inked c.args.measure.now.codes c.args.bytes.now c.requires.in_face
