use Rattle.std.proofs.Common.{arith, ◌≡◌, sym, ◌∙◌, ap, ◌+ℤ◌, ◌-ℤ◌}
use Rattle.std.proofs.lemmas.Int.{ints}
use Rattle.page_env.specs.Mark.{is_inside}
use Rattle.page_env.specs.Text.{character_box}
use Rattle.page_env.proofs.TextJudging.{taken_is, taken_as, left_as}
use Rattle.page_env.proofs.text.glyph_inside.Goals as goal

pub returns-in-None : goal.returns-in-None
returns-in-None g c =
    let box = character_box c.args.face.now c.args.place.x c.args.place.y in
    left_as (is_inside c.args.geometry.now box) box _ (sym c.in-None.is ∙ c.box_inside.ensures)

pub baseline-y-requires-clause-between : goal.baseline-y-requires-clause-between
baseline-y-requires-clause-between g c =
    let box = character_box c.args.face.now c.args.place.x c.args.place.y in
    let is : c.in-Some.bounds ≡ box =
    taken_is (is_inside c.args.geometry.now box) box c.in-Some.bounds (sym c.in-Some.is ∙ c.box_inside.ensures) in
    let top : c.in-Some.bounds.top ≡ c.args.place.y -ℤ c.args.face.now.ascent = ap (λ b. b.top) is in
    let bottom : c.in-Some.bounds.bottom ≡ c.args.place.y +ℤ c.args.face.now.descent = ap (λ b. b.bottom) is in
    let line : c.in-Some.bounds.top +ℤ c.args.face.now.ascent ≡ c.in-Some.bounds.bottom -ℤ c.args.face.now.descent = omega (arith, ints) in
    ap (λ a. c.in-Some.bounds.top +ℤ a) c.ascent.ensures.value ∙ line ∙ sym (ap (λ a. c.in-Some.bounds.bottom -ℤ a) c.descent.ensures.value)

pub returns-in-Some : goal.returns-in-Some
returns-in-Some g c =
    let box = character_box c.args.face.now c.args.place.x c.args.place.y in
    let was = sym c.in-Some.is ∙ c.box_inside.ensures in
    let is : c.in-Some.bounds ≡ box = taken_is (is_inside c.args.geometry.now box) box c.in-Some.bounds was in
    let top : c.in-Some.bounds.top ≡ c.args.place.y -ℤ c.args.face.now.ascent = ap (λ b. b.top) is in
    let line : c.in-Some.bounds.top +ℤ c.args.face.now.ascent ≡ c.args.place.y = omega (arith, ints) in
    taken_as (is_inside c.args.geometry.now box) box c.in-Some.bounds _ _ was
    (ap (λ b. record { code = c.args.code; request = c.args.request; y = c.baseline-y.result; bounds = b }) is
    ∙ ap (λ y. record { code = c.args.code; request = c.args.request; y = y; bounds = box })
    (c.baseline-y.ensures ∙ ap (λ a. c.in-Some.bounds.top +ℤ a) c.ascent.ensures.value ∙ line))
