use Rattle.std.proofs.Common.{rules, ◌≡◌, ◌∙◌, ap, ℤ, ◌&&◌, Bool, cond, Some, None}
use Rattle.page_env.specs.declared.mark.Bounds.{Bounds}
use Rattle.page_env.specs.declared.mark.PenLine.{PenLine}
use Rattle.page_env.specs.Mark.{line_bounds, is_inside}
use Rattle.page_env.specs.Places.{is_between}
use Rattle.page_env.specs.Pens.{place_of, line_between}
use Rattle.page_env.proofs.Ends.{both_taken, first_missing, second_missing}
use Rattle.page_env.proofs.pens.line_inside.Goals as goal

pub returns-in_err-x0 : goal.returns-in_err-x0
unfolding is_inside
returns-in_err-x0 c =
    let g = c.args.geometry.now in
    let line : PenLine = line_between c.args.origin c.args.frame.now c.args.width (place_of c.args.start) (place_of c.args.end) in
    let box : Bounds = line_bounds line in
    let x_fits : Bool = is_between g.printable_left g.printable_right box.left && is_between g.printable_left g.printable_right box.right in
    let y_fits : Bool = is_between g.printable_top g.printable_bottom box.top && is_between g.printable_top g.printable_bottom box.bottom in
    let x : ℤ × ℤ = (line.x0, line.x1) in
    let xs : None ≡ cond x_fits (Some x) None = search rules in
    let none : c.from_residual.result ≡ None = search rules in
    none ∙ first_missing x_fits y_fits x line xs

pub returns-in_err-y0 : goal.returns-in_err-y0
unfolding is_inside
returns-in_err-y0 c =
    let g = c.args.geometry.now in
    let line : PenLine = line_between c.args.origin c.args.frame.now c.args.width (place_of c.args.start) (place_of c.args.end) in
    let box : Bounds = line_bounds line in
    let x_fits : Bool = is_between g.printable_left g.printable_right box.left && is_between g.printable_left g.printable_right box.right in
    let y_fits : Bool = is_between g.printable_top g.printable_bottom box.top && is_between g.printable_top g.printable_bottom box.bottom in
    let x : ℤ × ℤ = (line.x0, line.x1) in
    let y : ℤ × ℤ = (line.y0, line.y1) in
    let taken_x : ℤ × ℤ = (c.in_ok-x0.x0, c.in_ok-x0.x1) in
    let xs : Some taken_x ≡ cond x_fits (Some x) None = search rules in
    let ys : None ≡ cond y_fits (Some y) None = search rules in
    let none : c.from_residual-in_err-y0.result ≡ None = search rules in
    none ∙ second_missing x_fits y_fits x taken_x y line xs ys

pub returns : goal.returns
unfolding is_inside
returns c =
    let g = c.args.geometry.now in
    let line : PenLine = line_between c.args.origin c.args.frame.now c.args.width (place_of c.args.start) (place_of c.args.end) in
    let box : Bounds = line_bounds line in
    let x_fits : Bool = is_between g.printable_left g.printable_right box.left && is_between g.printable_left g.printable_right box.right in
    let y_fits : Bool = is_between g.printable_top g.printable_bottom box.top && is_between g.printable_top g.printable_bottom box.bottom in
    let x : ℤ × ℤ = (line.x0, line.x1) in
    let y : ℤ × ℤ = (line.y0, line.y1) in
    let taken_x : ℤ × ℤ = (c.in_ok-x0.x0, c.in_ok-x0.x1) in
    let taken_y : ℤ × ℤ = (c.in_ok-y0.y0, c.in_ok-y0.y1) in
    let xs : Some taken_x ≡ cond x_fits (Some x) None = search rules in
    let ys : Some taken_y ≡ cond y_fits (Some y) None = search rules in
    let make : ℤ → ℤ × ℤ → ℤ × ℤ → PenLine = λ w u v. record { width = w; x0 = u.0; y0 = v.0; x1 = u.1; y1 = v.1 } in
    ap (λ w. Some (make w taken_x taken_y)) c.length_in.ensures ∙ both_taken x_fits y_fits (make line.width) x taken_x y taken_y xs ys
