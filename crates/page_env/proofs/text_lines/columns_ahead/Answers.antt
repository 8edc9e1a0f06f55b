use Rattle.std.proofs.Common.{◌≡◌, ◌≤◌, ℤ, pos, true, subst, sym, arith}
use Rattle.std.specs.Prelude.{◌-ℤ◌, ◌≤ℤ◌}
use Rattle.page_env.specs.TextLines.{box_at}
use Rattle.page_env.specs.TextMeasure.{HaveColumns, TextMeasure, edge_from, lies_in}
use Rattle.page_env.proofs.TextRuns.{columns, begins_inside}
use Rattle.page_env.proofs.text_lines.columns_ahead.Goals as goal

-- the last place where a character ends in the printable area
abbrev last_of : TextMeasure → ℤ
last_of m = (m.bounds.area.right -ℤ m.look.origin.x) -ℤ m.look.advance

pub columns_up_to-requires : goal.columns_up_to-requires
columns_up_to-requires g c =
    subst (λ z. c.args.place.now.x ≤ℤ z) (sym c.in-Some.ensures.value) (begins_inside c.args.measure.now c.args.place.now c.requires.inside)

pub returns-then-fit_columns-clause-columns : goal.returns-then-fit_columns-clause-columns
returns-then-fit_columns-clause-columns g c =
    let fit = c.fit_columns.ensures in
    let place = c.args.place.now in
    subst
    (λ m. c.edge_from-edge.result ≡ edge_from m place.x → c.in-Some.last ≡ last_of m → lies_in m.bounds.area (box_at m.look place) ≡ true →
    pos 0 ≤ℤ m.look.advance → HaveColumns m place c.args.most)
    c.measure.view_is
    (λ is last inside ahead. columns _ c.edge_from-edge.result fit.in_range.1 ahead place c.args.most fit.in_range.0 (sym is) inside
    (λ some. let e = fit.columns c.if-fit_columns.true in rw last at e))
    c.edge_from-edge.ensures c.in-Some.ensures.value c.requires.inside c.in-Some.ensures.ahead

pub returns-else-fit_columns-clause-columns : goal.returns-else-fit_columns-clause-columns
returns-else-fit_columns-clause-columns g c =
    let up_to = c.columns_up_to.ensures in
    let place = c.args.place.now in
    let n = c.min.result in
    let less : n ≤ c.columns_up_to.result = omega (arith, c.min.ensures) in
    subst
    (λ m. c.edge_from-edge.result ≡ edge_from m place.x → c.in-Some.last ≡ last_of m → lies_in m.bounds.area (box_at m.look place) ≡ true →
    pos 0 ≤ℤ m.look.advance → HaveColumns m place n)
    c.measure.view_is
    (λ is last inside ahead. columns _ c.edge_from-edge.result up_to.in_range.1 ahead place n up_to.in_range.0 (sym is) inside
    (λ some. let e = up_to.columns n some less in rw last at e))
    c.edge_from-edge.ensures c.in-Some.ensures.value c.requires.inside c.in-Some.ensures.ahead
