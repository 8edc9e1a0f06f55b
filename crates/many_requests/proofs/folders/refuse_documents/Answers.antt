use Rattle.std.proofs.Common.{◌∙◌, inl, inr, refl, subst}
use Rattle.many_requests.proofs.Found.{none_weaker, some_weaker}
use Rattle.many_requests.specs.Folders.{RefusesFolder}
use Rattle.many_requests.proofs.folders.refuse_documents.Goals as goal

pub returns-in-Some-clause-refused : goal.returns-in-Some-clause-refused
returns-in-Some-clause-refused g c = inl (c.in-Some.ensures.refused, refl)

pub returns-in-None-clause-apart : goal.returns-in-None-clause-apart
returns-in-None-clause-apart g c =
    none_weaker c.refuse_folder.result (λ same. c.in-None.ensures.apart) c.refuse_folder.ensures.quiet

pub returns-in-None-clause-quiet : goal.returns-in-None-clause-quiet
returns-in-None-clause-quiet g c =
    none_weaker c.refuse_folder.result (λ same. same ∙ c.in-None.ensures.quiet) c.refuse_folder.ensures.quiet

pub returns-in-None-clause-unused : goal.returns-in-None-clause-unused
returns-in-None-clause-unused g c = c.refuse_folder.ensures.unused

pub returns-in-None-clause-refused : goal.returns-in-None-clause-refused
returns-in-None-clause-refused g c =
    let used' = c.refuse_folder.new.used in
    let err' = g.E.Outlet.state c.refuse_folder.new.stderr in
    some_weaker c.refuse_folder.result
    (λ status told. inr
    (subst (λ stderr. RefusesFolder c.args.folder.now status c.args.used.now used' (g.E.Outlet.state stderr) err')
    c.in-None.ensures.quiet told))
    c.refuse_folder.ensures.refused
