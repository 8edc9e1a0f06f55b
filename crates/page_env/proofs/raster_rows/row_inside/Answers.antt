use Rattle.std.proofs.Common.{rules, arith, ◌≡◌, ◌∙◌, ap, sym, ℕ, ℤ, ◌*◌, pos, drop, ◌&&◌, Bool, true, false, cond, Option, Some, None}
use Rattle.std.proofs.Common.{option_map}
use Rattle.std.specs.Prelude.{◌+ℤ◌}
use Rattle.std.proofs.lemmas.Int.{to_z-of_z}
use Rattle.std.proofs.lemmas.List.{take_rest}
use Rattle.page_env.specs.declared.mark.Bounds.{Bounds}
use Rattle.std.specs.Int.{w64, cast_signed, cast_unsigned}
use Rattle.page_env.specs.Mark.{PixelRow, pixel_of, white_ahead, black_end, row_of, row_bounds, is_inside}
use Rattle.page_env.specs.Places.{is_between}
use Rattle.page_env.specs.Rasters.{row_from}
use Rattle.page_env.proofs.Ends.{left_missing, right_missing, down_missing, none_missing}
use Rattle.page_env.proofs.raster_rows.row_inside.Goals as goal

pub returns-then-not-pixel_lies_between : goal.returns-then-not-pixel_lies_between
unfolding is_inside
returns-then-not-pixel_lies_between c =
    let g = c.args.geometry.now in
    let pixel = pixel_of c.args.resolution in
    let row : PixelRow = row_from c.args.resolution c.args.place.x c.args.place.y c.args.black.now in
    let box : Bounds = row_bounds row in
    let no : c.pixel_lies_between.result ≡ false = search rules in
    let start : c.first_byte-left.result ≡ row.x =
    c.first_byte-left.ensures.value ∙ ap (λ n. c.args.place.x +ℤ pos (8 * n * pixel)) c.requires.blank in
    let end : c.black_end.result ≡ black_end row.bytes =
    c.black_end.ensures.value ∙ ap black_end (take_rest c.args.black.now c.args.blank)
    ∙ ap (λ n. black_end (drop n c.args.black.now)) c.requires.blank in
    let same : cast_signed w64 (cast_unsigned w64 c.first_byte-left.result) ≡ c.first_byte-left.result =
    grind (arith, to_z-of_z, c.first_byte-left.ensures.near) in
    let at : c.pixel_lies_between.result ≡ is_between g.printable_left g.printable_right box.right =
    c.pixel_lies_between.ensures
    ∙ ap (λ x. is_between g.printable_left g.printable_right (x +ℤ pos (c.black_end.result * pixel))) (same ∙ start)
    ∙ ap (λ n. is_between g.printable_left g.printable_right (row.x +ℤ pos (n * pixel))) end in
    right_missing (is_between g.printable_left g.printable_right box.left) (is_between g.printable_left g.printable_right box.right)
    (is_between g.printable_top g.printable_bottom box.top && is_between g.printable_top g.printable_bottom box.bottom) row (sym at ∙ no)

pub returns-in_err-x : goal.returns-in_err-x
unfolding is_inside
returns-in_err-x c =
    let g = c.args.geometry.now in
    let pixel = pixel_of c.args.resolution in
    let row : PixelRow = row_from c.args.resolution c.args.place.x c.args.place.y c.args.black.now in
    let box : Bounds = row_bounds row in
    let starts : ℤ → ℕ → Option ℤ =
    λ left white. cond (is_between g.printable_left g.printable_right (left +ℤ pos (white * pixel))) (Some left) None in
    let start : c.first_byte-left.result ≡ row.x =
    c.first_byte-left.ensures.value ∙ ap (λ n. c.args.place.x +ℤ pos (8 * n * pixel)) c.requires.blank in
    let same : cast_signed w64 (cast_unsigned w64 c.first_byte-left.result) ≡ c.first_byte-left.result =
    grind (arith, to_z-of_z, c.first_byte-left.ensures.near) in
    let white : c.white_ahead.result ≡ white_ahead row.bytes =
    c.white_ahead.ensures.value ∙ ap white_ahead (take_rest c.args.black.now c.args.blank)
    ∙ ap (λ n. white_ahead (drop n c.args.black.now)) c.requires.blank in
    let at_left : c.row_start.result ≡ starts row.x (white_ahead row.bytes) =
    c.row_start.ensures ∙ ap (λ left. starts left c.white_ahead.result) (same ∙ start) ∙ ap (starts row.x) white in
    ap (option_map row_of) c.from_residual.ensures
    ∙ left_missing (is_between g.printable_left g.printable_right box.left) (is_between g.printable_left g.printable_right box.right)
    (is_between g.printable_top g.printable_bottom box.top && is_between g.printable_top g.printable_bottom box.bottom) row.x row
    (sym c.in_err-x.was ∙ at_left)

pub returns-in_err-y : goal.returns-in_err-y
unfolding is_inside
returns-in_err-y c =
    let g = c.args.geometry.now in
    let row : PixelRow = row_from c.args.resolution c.args.place.x c.args.place.y c.args.black.now in
    let box : Bounds = row_bounds row in
    ap (option_map row_of) c.from_residual-in_err-y.ensures
    ∙ down_missing (is_between g.printable_left g.printable_right box.left && is_between g.printable_left g.printable_right box.right)
    (is_between g.printable_top g.printable_bottom box.top && is_between g.printable_top g.printable_bottom box.bottom) row.y row
    (sym c.in_err-y.was ∙ c.row_top.ensures)

pub returns : goal.returns
unfolding is_inside
returns c =
    let g = c.args.geometry.now in
    let pixel = pixel_of c.args.resolution in
    let black = c.args.black.now in
    let row : PixelRow = row_from c.args.resolution c.args.place.x c.args.place.y black in
    let box : Bounds = row_bounds row in
    let is_across : ℤ → Bool = is_between g.printable_left g.printable_right in
    let starts : ℤ → ℕ → Option ℤ = λ left white. cond (is_across (left +ℤ pos (white * pixel))) (Some left) None in
    let start : c.first_byte-left.result ≡ row.x =
    c.first_byte-left.ensures.value ∙ ap (λ n. c.args.place.x +ℤ pos (8 * n * pixel)) c.requires.blank in
    let same : cast_signed w64 (cast_unsigned w64 c.first_byte-left.result) ≡ c.first_byte-left.result =
    grind (arith, to_z-of_z, c.first_byte-left.ensures.near) in
    let white : c.white_ahead.result ≡ white_ahead row.bytes =
    c.white_ahead.ensures.value ∙ ap white_ahead (take_rest black c.args.blank) ∙ ap (λ n. white_ahead (drop n black)) c.requires.blank in
    let at_left : c.row_start.result ≡ starts row.x (white_ahead row.bytes) =
    c.row_start.ensures ∙ ap (λ left. starts left c.white_ahead.result) (same ∙ start) ∙ ap (starts row.x) white in
    let end : c.black_end.result ≡ black_end row.bytes =
    c.black_end.ensures.value ∙ ap black_end (take_rest black c.args.blank) ∙ ap (λ n. black_end (drop n black)) c.requires.blank in
    let yes : c.pixel_lies_between.result ≡ true = search rules in
    let at_right : c.pixel_lies_between.result ≡ is_across box.right =
    c.pixel_lies_between.ensures ∙ ap (λ left. is_across (left +ℤ pos (c.black_end.result * pixel))) (same ∙ start)
    ∙ ap (λ n. is_across (row.x +ℤ pos (n * pixel))) end in
    let bytes = take_rest black c.args.blank ∙ ap (λ n. drop n black) c.requires.blank in
    let make : ℤ → ℤ → PixelRow = λ x y. record { resolution = c.args.resolution; x = x; y = y; bytes = row.bytes } in
    ap (λ b. Some (record { resolution = c.args.resolution; x = c.in_ok-x.x; y = c.in_ok-y.y; bytes = b })) bytes
    ∙ none_missing (is_across box.left) (is_across box.right)
    (is_between g.printable_top g.printable_bottom box.top && is_between g.printable_top g.printable_bottom box.bottom) make
    row.x c.in_ok-x.x row.y c.in_ok-y.y (sym c.in_ok-x.was ∙ at_left) (sym at_right ∙ yes) (sym c.in_ok-y.was ∙ c.row_top.ensures)
