use Rattle.std.proofs.Common.{◌∙◌, List, ℕ, ap, refl, subst, sym}
use Rattle.streams.specs.Writing.{Writes}
use Rattle.many_requests.specs.Folders.{RefusesFolderFor, folder_line}
use Rattle.many_requests.proofs.folders.tell_cause.Goals as goal

pub returns-in-Ok : goal.returns-in-Ok
returns-in-Ok g c =
    let cause = c.args.cause.now in
    let err = g.E.Outlet.state c.args.stderr.now in
    let err' = g.E.Outlet.state c.refuse_words.new.stderr in
    subst (λ status. RefusesFolderFor c.args.folder.now cause status err err') (sym c.refuse_words.ensures.status)
    (subst (Writes err err')
    (c.as_slice.ensures.value ∙ c.in-Ok.ensures ∙ ap (λ (folder : List ℕ). folder_line folder cause) c.as_bytes.ensures.value)
    c.refuse_words.ensures.text)

pub returns-in-Err : goal.returns-in-Err
returns-in-Err g c = refl
