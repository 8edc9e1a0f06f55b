use Rattle.std.proofs.Common.{[], ◌∷◌, inl, inr, refl, subst, sym}
use Rattle.std.specs.Prelude.{Contains}
use Rattle.many_requests.proofs.drawn_jobs.compare_drawn_on_files.Goals as goal

pub returns : goal.returns
returns g c = inl (c.in_default.ensures.once, c.draw_unless_read.ensures)

pub returns-in-Some : goal.returns-in-Some
returns-in-Some g c =
    let words = c.args.asked.now in
    let jobs = words.old_name.now ∷ words.new_name.now ∷ [] in
    let is_one = subst (λ name. Contains jobs name) (sym c.as_bytes.ensures.value) c.in-Some.ensures.named in
    inr (c.refuse_pipe.ensures jobs is_one, refl, refl)
