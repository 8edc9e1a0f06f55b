use Rattle.std.proofs.Common.{rules, arith, ◌≡◌, ℤ, pos, cond, Some, None}
use Rattle.std.proofs.lemmas.Int.{ints, to_z-of_z}
use Rattle.page_env.specs.declared.cursor.Cursor.{Cursor}
use Rattle.page_env.specs.Places.{is_between}
use Rattle.page_env.specs.Frames.{x_on_page, y_on_page}
use Rattle.page_env.proofs.Ends.{both_taken}
use Rattle.page_env.proofs.frames.cursor_at.Goals as goal

pub returns : goal.returns
returns c =
    let g = c.args.geometry.now in
    let x : ℤ = x_on_page c.args.frame.now c.args.place.x in
    let y : ℤ = y_on_page c.args.frame.now c.args.place.y in
    let across : Some c.in_ok-x.x ≡ cond (is_between (pos 0) g.logical_width x) (Some x) None =
    first_of (search rules, grind (arith, to_z-of_z)) in
    let down : Some c.from_ticks.result ≡ cond (is_between (pos 0) g.logical_height y) (Some y) None =
    first_of (search rules, grind (arith, to_z-of_z)) in
    let make : ℤ → ℤ → Cursor = λ u v. record { x = u; y = Some v } in
    both_taken (is_between (pos 0) g.logical_width x)
    (is_between (pos 0) g.logical_height y) make x c.in_ok-x.x y c.from_ticks.result across down

pub from_ticks-requires : goal.from_ticks-requires
from_ticks-requires c = grind (arith, ints, c.ticks.ensures)
