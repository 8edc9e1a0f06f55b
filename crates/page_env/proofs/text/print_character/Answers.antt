use Rattle.page_env.specs.Settings.{state_at}
use Rattle.page_env.specs.Mark.{characters_of}
use Rattle.page_env.specs.Answers.{Marks}
use Rattle.page_env.proofs.Lines.{found_still, step_found}
use Rattle.page_env.proofs.TextJudging.{character_fails}
use Rattle.page_env.proofs.text.print_character.Goals as goal

pub returns-in_err-x : goal.returns-in_err-x
unfolding Marks
returns-in_err-x g c = (
  λ panel.
      step_found characters_of panel c.args.page.now _ _ _ (c.from_residual-in_err-x.ensures.1)
      (character_fails c.args.profile.now
      (state_at panel c.args.page.now) c.args.code c.in-Some.face.now c.in_ok-geometry.geometry c.in_ok-geometry.origin c.in_ok-geometry.y
      c.in_ok-geometry.request c.on_sheet-place.result.x c.on_sheet-place.result.y c.in_err-x.field-0.0
      ((c.in_ok-geometry.ensures panel).0) ((c.in_ok-geometry.ensures panel).1) c.on_sheet-place.ensures.x c.on_sheet-place.ensures.y
      c.in-Some.ensures.face c.in_err-x.ensures),
  found_still c.args.page.now c.from_residual-in_err-x.result,
)
