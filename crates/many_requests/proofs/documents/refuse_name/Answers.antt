use Rattle.std.proofs.Common.{◌∙◌, ap, map, refl, subst, sym}
use Rattle.streams.specs.Writing.{Writes}
use Rattle.many_requests.specs.Documents.{RefusesName, same_line}
use Rattle.many_requests.proofs.documents.refuse_name.Goals as goal

pub returns-in-Ok : goal.returns-in-Ok
returns-in-Ok g c = λ is.
    let jobs = map (λ job. job.now) c.args.jobs.now in
    let err = g.E.Outlet.state c.args.stderr.now in
    let err' = g.E.Outlet.state c.refuse_words.new.stderr in
    subst (λ status. RefusesName jobs status err err') (sym c.refuse_words.ensures.status) (
      c.args.job.now,
      is,
      subst (Writes err err')
          (c.as_slice.ensures.value ∙ c.in-Ok.ensures ∙ ap (same_line c.args.job.now) c.namesake.ensures)
          c.refuse_words.ensures.text,
    )

pub returns-in-Err : goal.returns-in-Err
returns-in-Err g c = λ is. refl
