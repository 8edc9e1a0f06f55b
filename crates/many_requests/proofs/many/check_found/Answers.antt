use Rattle.std.proofs.Common.{◌∙◌, inl, inr, map, option_map, refl, subst, sym}
use Rattle.many_jobs.specs.Asked.{asked_for}
use Rattle.many_requests.specs.Checks.{LeavesWith}
use Rattle.many_requests.specs.Lists.{RefusesList, list_fault}
use Rattle.many_requests.proofs.many.check_found.Goals as goal

pub returns-then-is_refused_list : goal.returns-then-is_refused_list
returns-then-is_refused_list g c =
    let err = g.E.Outlet.state c.args.stderr.now in
    let err' = g.E.Outlet.state c.refuse_list.new.stderr in
    inr (
      sym c.is_refused_list.ensures ∙ c.if-is_refused_list.true,
      subst (λ path. RefusesList path (list_fault c.args.names.now) c.refuse_list.result err err') c.path_of-path.ensures
          (subst (λ fault. RefusesList c.path_of-path.result.now fault c.refuse_list.result err err') c.list_fault.ensures
          c.refuse_list.ensures),
      refl,
      refl,
    )

pub returns : goal.returns
returns g c =
    let asked = asked_for c.args.many.now in
    inl (
      sym c.is_refused_list.ensures ∙ c.if-is_refused_list.false,
      subst
          (λ fleets. LeavesWith asked.telling.documents (option_map (λ path. path.now) c.args.words.now.names_from)
          (map (λ path. path.now) fleets) asked c.check_with_documents.result c.args.used.now c.check_with_documents.new.used
          (g.O.Outlet.state c.args.stdout.now) (g.O.Outlet.state c.check_with_documents.new.stdout)
          (g.E.Outlet.state c.args.stderr.now) (g.E.Outlet.state c.check_with_documents.new.stderr))
          c.as_slice-fleets.ensures.value c.check_with_documents.ensures,
    )
