use Rattle.std.proofs.Common.{◌++◌, ◌∙◌, List, ℕ, ap, inl, refl, subst, sym}
use Rattle.many_requests.specs.Documents.{WritesIfSound, lost_line}
use Rattle.many_requests.proofs.documents.tell_document.Goals as goal

pub returns-then-is_quiet : goal.returns-then-is_quiet
returns-then-is_quiet g c = inl refl

pub returns-in-Ok : goal.returns-in-Ok
returns-in-Ok g c =
    rw (sym c.is_quiet.ensures ∙ c.if-is_quiet.false)
    (subst
    (λ (text : List ℕ). WritesIfSound text (g.E.Outlet.state c.args.stderr.now) (g.E.Outlet.state c.write_if_sound.new.stderr))
    (c.as_slice.ensures.value ∙ c.in-Ok.ensures
    ∙ ap (λ (note : List ℕ). note ++ lost_line c.as_bytes.result.now c.cause_of.result.now) c.into_bytes-text.ensures
    ∙ ap (λ (job : List ℕ). c.args.note.taken ++ lost_line job c.cause_of.result.now) c.as_bytes.ensures.value
    ∙ ap (λ (cause : List ℕ). c.args.note.taken ++ lost_line c.args.job.now cause) c.cause_of.ensures)
    c.write_if_sound.ensures)

pub returns : goal.returns
returns g c = inl refl
