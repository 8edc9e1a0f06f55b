use Rattle.std.proofs.Common.{rules, ◌≡◌, ◌&&◌, ℤ, Bool, cond, Some, None}
use Rattle.page_env.specs.declared.mark.Bounds.{Bounds}
use Rattle.page_env.specs.Mark.{is_inside}
use Rattle.page_env.specs.Places.{is_between}
use Rattle.page_env.specs.Text.{character_box}
use Rattle.page_env.proofs.Ends.{both_taken}
use Rattle.page_env.proofs.text.box_inside.Goals as goal

pub returns : goal.returns
unfolding is_inside
returns g c =
    let geometry = c.args.geometry.now in
    let box = character_box c.args.face.now c.args.place.x c.args.place.y in
    let is_across : ℤ → Bool = is_between geometry.printable_left geometry.printable_right in
    let is_down : ℤ → Bool = is_between geometry.printable_top geometry.printable_bottom in
    let across :
    Some (c.in_ok-left.left, c.in_ok-left.right) ≡ cond (is_across box.left && is_across box.right) (Some (box.left, box.right)) None =
    search rules in
    let top : Some c.in_ok-top.top ≡ cond (is_down box.top) (Some box.top) None = search rules in
    let bottom : Some c.in_ok-bottom.bottom ≡ cond (is_down box.bottom) (Some box.bottom) None = search rules in
    let down :
    Some (c.in_ok-top.top, c.in_ok-bottom.bottom) ≡ cond (is_down box.top && is_down box.bottom) (Some (box.top, box.bottom)) None =
    both_taken (is_down box.top) (is_down box.bottom) (λ t b. (t, b)) box.top c.in_ok-top.top box.bottom c.in_ok-bottom.bottom top bottom in
    let make : ℤ × ℤ → ℤ × ℤ → Bounds = λ x y. record { left = x.0; top = y.0; right = x.1; bottom = y.1 } in
    both_taken (is_across box.left && is_across box.right) (is_down box.top && is_down box.bottom) make
    (box.left, box.right) (c.in_ok-left.left, c.in_ok-left.right) (box.top, box.bottom) (c.in_ok-top.top, c.in_ok-bottom.bottom) across down
