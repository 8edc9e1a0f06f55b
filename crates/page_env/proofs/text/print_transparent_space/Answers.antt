use Rattle.std.proofs.Common.{[], pos, sym, ap, refl, ◌∙◌, ◌+ℤ◌}
use Rattle.page_env.specs.Settings.{state_at}
use Rattle.page_env.specs.Mark.{characters_of}
use Rattle.page_env.specs.Effect.{first_finding, Goes}
use Rattle.page_env.specs.Places.{column_with}
use Rattle.page_env.specs.Text.{edge_checks, transparent_space}
use Rattle.page_env.specs.Answers.{Marks}
use Rattle.page_env.proofs.Lines.{found_still, late_line, step_found}
use Rattle.page_env.proofs.TextJudging.{space_judged}
use Rattle.page_env.proofs.text.print_transparent_space.Goals as goal

pub returns-in_err-x : goal.returns-in_err-x
unfolding Marks
returns-in_err-x g c = (
  λ panel.
      let s = state_at panel c.args.page.now in
      let printer = c.args.profile.now in
      let geometry = c.in_ok-geometry.geometry in
      let width = geometry.logical_width in
      let x = c.args.page.now.cursor.x in
      let at_edge =
      ap (λ r. first_finding (edge_checks r width x (x +ℤ pos (column_with c.args.page.now.env.job.hmi c.in-Some.face.now))))
      (sym c.right_margin-right.ensures)
      ∙ ap (λ k. first_finding (edge_checks c.right_margin-right.result width x (x +ℤ pos k))) (sym c.column_width-column.ensures)
      ∙ c.in_err-x.ensures in
      step_found characters_of panel c.args.page.now _ _ _ (c.from_residual-in_err-x.ensures.1)
      (late_line s.settings (transparent_space printer s) (Goes (transparent_space printer s).state []) c.in_err-x.field-0.0 refl
      ((c.in_ok-geometry.ensures panel).0)
      (space_judged printer s c.in-Some.face.now geometry c.in_ok-geometry.field-0-1 c.in_ok-geometry.y c.in_ok-geometry.request
      ((c.in_ok-geometry.ensures panel).1) c.in-Some.ensures.face
      ∙ at_edge)),
  found_still c.args.page.now c.from_residual-in_err-x.result,
)
