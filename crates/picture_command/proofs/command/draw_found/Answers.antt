use Rattle.std.proofs.Common.{◌≡◌, ◌∙◌, ap, refl, subst, sym, Result, Ok, Err, List, ℕ}
use Rattle.streams.specs.declared.error.Error.{Error}
use Rattle.renderings.specs.declared.outcome.Outcome.{Outcome}
use Rattle.renderings.specs.Expected.{Rendering, Renders}
use Rattle.requests.specs.Status.{is_refusal, is_stop_of_read, is_stop_of_write}
use Rattle.job_picture.specs.JobPicture.{picture_rendering}
use Rattle.picture_command.specs.Picture.{without_line_end}
use Rattle.picture_command.proofs.Commands.{Stays-none, change_ends, left_other, left_same, left_stopped, same_ends}
use Rattle.picture_command.proofs.command.draw_found.Goals as goal

pub returns-in-Err-clause-left : goal.returns-in-Err-clause-left
returns-in-Err-clause-left g c =
    let drawn = c.args.drawn.now in
    let rendering = λ (sentence : List ℕ). picture_rendering drawn.profile.now drawn.panel drawn.selection sentence in
    let sentence_is : c.without_line_end.result.now ≡ without_line_end c.args.found.now.text.items =
    c.without_line_end.ensures ∙ ap without_line_end c.as_slice.ensures.value in
    let rendered =
    subst
    (λ (sentence : List ℕ). Renders (rendering sentence) (g.S.Source.state c.args.job.now) (g.S.Source.state c.picture_of.new.reader)
    (g.O.Outlet.state c.args.stdout.now) (g.O.Outlet.state c.picture_of.new.writer) (Err c.in-Err.error))
    sentence_is c.in-Err.ensures in
    λ first first'. left_stopped drawn.names.job.now
    (rendering (without_line_end c.args.found.now.text.items)) _ c.in-Err.error c.args.found.now.outcome rendered (Stays-none _)

pub returns-in-Err-clause-turns : goal.returns-in-Err-clause-turns
returns-in-Err-clause-turns g c = λ is. c.in-Err.ensures.turns cc

pub returns-then-is_same-clause-left : goal.returns-then-is_same-clause-left
returns-then-is_same-clause-left g c =
    let drawn = c.args.drawn.now in
    let rendering = λ (sentence : List ℕ). picture_rendering drawn.profile.now drawn.panel drawn.selection sentence in
    let sentence_is : c.without_line_end.result.now ≡ without_line_end c.args.found.now.text.items =
    c.without_line_end.ensures ∙ ap without_line_end c.as_slice.ensures.value in
    let rendered =
    subst
    (λ (sentence : List ℕ). Renders (rendering sentence) (g.S.Source.state c.args.job.now) (g.S.Source.state c.picture_of.new.reader)
    (g.O.Outlet.state c.args.stdout.now) (g.O.Outlet.state c.picture_of.new.writer) (Ok c.in-Ok.outcome))
    sentence_is c.in-Ok.ensures in
    λ first first'. left_same drawn.names.job.now (rendering (without_line_end c.args.found.now.text.items)) _ c.args.found.now.outcome
    c.in-Ok.outcome c.status_of.result (c.if-is_same.ensures.same refl) c.status_of.ensures rendered.written (Stays-none _)

pub returns-then-is_same-clause-read : goal.returns-then-is_same-clause-read
returns-then-is_same-clause-read g c =
    c.in-Ok.ensures.read ∙ ((same_ends c.in-Ok.outcome).read ∙ ap is_stop_of_read (sym c.status_of.ensures))

pub returns-then-is_same-clause-write : goal.returns-then-is_same-clause-write
returns-then-is_same-clause-write g c =
    c.in-Ok.ensures.write ∙ ((same_ends c.in-Ok.outcome).write ∙ ap is_stop_of_write (sym c.status_of.ensures))

pub returns-then-is_same-clause-turns : goal.returns-then-is_same-clause-turns
returns-then-is_same-clause-turns g c = λ is. absurd ((same_ends c.in-Ok.outcome).turns (sym c.status_of.ensures ∙ is))

pub returns-then-is_same-clause-end : goal.returns-then-is_same-clause-end
returns-then-is_same-clause-end g c = ap is_refusal c.status_of.ensures ∙ (same_ends c.in-Ok.outcome).answer

pub returns-clause-left : goal.returns-clause-left
returns-clause-left g c =
    let drawn = c.args.drawn.now in
    let rendering = λ (sentence : List ℕ). picture_rendering drawn.profile.now drawn.panel drawn.selection sentence in
    let sentence_is : c.without_line_end.result.now ≡ without_line_end c.args.found.now.text.items =
    c.without_line_end.ensures ∙ ap without_line_end c.as_slice.ensures.value in
    let rendered =
    subst
    (λ (sentence : List ℕ). Renders (rendering sentence) (g.S.Source.state c.args.job.now) (g.S.Source.state c.picture_of.new.reader)
    (g.O.Outlet.state c.args.stdout.now) (g.O.Outlet.state c.picture_of.new.writer) (Ok c.in-Ok.outcome))
    sentence_is c.in-Ok.ensures in
    λ first first'. left_other drawn.names.job.now (rendering (without_line_end c.args.found.now.text.items)) _ c.tell_change.result
    c.args.found.now.outcome c.in-Ok.outcome c.tell_change.ensures (c.if-is_same.ensures.other refl) rendered.written

pub returns-clause-read : goal.returns-clause-read
returns-clause-read g c = c.in-Ok.ensures.read ∙ (change_ends c.tell_change.result _ _ _ c.tell_change.ensures).read

pub returns-clause-write : goal.returns-clause-write
returns-clause-write g c = c.in-Ok.ensures.write ∙ (change_ends c.tell_change.result _ _ _ c.tell_change.ensures).write

pub returns-clause-turns : goal.returns-clause-turns
returns-clause-turns g c = λ is. absurd ((change_ends c.tell_change.result _ _ _ c.tell_change.ensures).turns is)

pub returns-clause-end : goal.returns-clause-end
returns-clause-end g c = (change_ends c.tell_change.result _ _ _ c.tell_change.ensures).answer
