use Rattle.std.proofs.Common.{◌≡◌, sym, ap, ◌∙◌, rules}
use Rattle.page_env.specs.declared.page.PenPlace.{PenPlace}
use Rattle.page_env.specs.Pens.{place_of}
use Rattle.page_env.specs.Plot.{lies_within}
use Rattle.page_env.proofs.plot.led.Goals as goal

pub returns-clause-inside : goal.returns-clause-inside
returns-clause-inside c =
    let target = c.target_of-target.result in
    let place : PenPlace = record { x = c.from_ticks-x.result; y = c.from_ticks-y.result } in
    let at_x : c.from_ticks-x.result ≡ target.x = search rules in
    let at_y : c.from_ticks-y.result ≡ target.y = search rules in
    let same : place ≡ place_of target = λ i. record { x = at_x i; y = at_y i } in
    ap (lies_within c.args.bounds.now) same ∙ sym c.lies_within.ensures.within ∙ c.if-not-lies_within.false

pub returns-clause-place : goal.returns-clause-place
returns-clause-place c =
    let target = c.target_of-target.result in
    let place : PenPlace = record { x = c.from_ticks-x.result; y = c.from_ticks-y.result } in
    let at_x : c.from_ticks-x.result ≡ target.x = search rules in
    let at_y : c.from_ticks-y.result ≡ target.y = search rules in
    let same : place ≡ place_of target = λ i. record { x = at_x i; y = at_y i } in
    same ∙ c.target_of-target.ensures
