use Rattle.std.proofs.Common.{◌≡◌, ◌∙◌, ap, refl, subst, sym, Ok, Err}
use Rattle.streams.specs.declared.error.Error.TheVariants.{Turns}
use Rattle.renderings.specs.Expected.{Renders}
use Rattle.streams.specs.Errors.{is_read}
use Rattle.picture_command.specs.PageSearch.{search_rendering}
use Rattle.picture_command.specs.Picture.{IsErrorOfSearch}
use Rattle.picture_command.proofs.Commands.{kept_read, kept_stopped, kept_told, kept_turns, search_stops}
use Rattle.picture_command.proofs.command.find_pages.Goals as goal

pub returns-in-Ok-clause-told : goal.returns-in-Ok-clause-told
returns-in-Ok-clause-told g c =
    let drawn = c.args.drawn.now in
    let job = g.S.Source.state c.args.job.now in
    let job' = g.S.Source.state c.render_job.new.reader in
    kept_told (search_rendering drawn.profile.now drawn.panel drawn.selection drawn.names.job.now drawn.names.printers.now) job job'
    c.new-text.result c.render_job.new.writer c.in-Ok.outcome c.into_bytes.result.items
    (subst (λ rendering. Renders rendering job job' c.new-text.result c.render_job.new.writer (Ok c.in-Ok.outcome))
    c.new-search.ensures.rendering c.in-Ok.ensures)
    c.new-text.ensures.bytes c.into_bytes.ensures

pub returns-clause-stops : goal.returns-clause-stops
returns-clause-stops g c =
    let drawn = c.args.drawn.now in
    let job = g.S.Source.state c.args.job.now in
    let job' = g.S.Source.state c.render_job.new.reader in
    kept_stopped (search_rendering drawn.profile.now drawn.panel drawn.selection drawn.names.job.now drawn.names.printers.now) job job'
    c.new-text.result c.render_job.new.writer c.in-Err.error
    (subst (λ rendering. Renders rendering job job' c.new-text.result c.render_job.new.writer (Err c.in-Err.error))
    c.new-search.ensures.rendering c.in-Err.ensures)

pub returns-in-Ok-clause-read : goal.returns-in-Ok-clause-read
returns-in-Ok-clause-read g c = c.in-Ok.ensures.read

pub returns-clause-error : goal.returns-clause-error
returns-clause-error g c =
    subst IsErrorOfSearch (sym c.kept_error.ensures)
    (search_stops c.in-Err.error c.in-Err.ensures.never_no_profile c.in-Err.ensures.never_items)

pub returns-clause-read : goal.returns-clause-read
returns-clause-read g c = c.in-Err.ensures.read ∙ (kept_read c.in-Err.error ∙ ap is_read (sym c.kept_error.ensures))

pub returns-clause-turns : goal.returns-clause-turns
returns-clause-turns g c = λ is.
    let same : c.kept_error.result ≡ Turns = cc in
    c.in-Err.ensures.turns (ap Err (kept_turns c.in-Err.error (sym c.kept_error.ensures ∙ same)))
