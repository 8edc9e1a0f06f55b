use Rattle.std.proofs.Common.{ap, refl, sym, ◌∙◌}
use Rattle.sinks.specs.Owned.{event_of}
use Rattle.comparison.specs.Comparing.{Following}
use Rattle.comparison.proofs.Following.{next_still, none_still, still_inside}
use Rattle.page_comparison.specs.Pages.{made_page}
use Rattle.page_comparison.specs.Reading.{page_at_end}
use Rattle.page_comparison.proofs.PageSteps.{few_at_end, few_more, over_now, passed}
use Rattle.page_comparison.proofs.reading.take_event.Goals as goal

pub pass-requires : goal.pass-requires
pass-requires g c =
    let next = next_still c.args.job.now (event_of c.in-Some.event.now) (sym c.in-Some.ensures) in
    still_inside c.args.job.now _ next.0 next.1

pub returns-in-None-clause-taken : goal.returns-in-None-clause-taken
returns-in-None-clause-taken g c =
    let job = c.args.job.now in
    let none = sym c.in-None.ensures in (
      refl,
      over_now job none (c.requires (none_still job none)),
      c.end_at.ensures ∙ ap (λ n. page_at_end n (made_page c.args.page.now)) c.place-place.ensures,
    )

pub returns-in_ok-goes_on-in-Some-clause-taken : goal.returns-in_ok-goes_on-in-Some-clause-taken
returns-in_ok-goes_on-in-Some-clause-taken g c =
    let event = event_of c.in-Some.event.now in
    let behind =
    passed c.args.job.now c.pass.new.self c.place-place.result event c.place-place.ensures c.in-Some.ensures c.pass.ensures in (
      record { place = c.place-place.result; event = event },
      behind.0,
      behind.1,
      c.in_ok-goes_on-in-Some.ensures.goes_on,
      c.in_ok-goes_on-in-Some.ensures.page,
    )

pub returns-in_ok-goes_on-in-Some-clause-number : goal.returns-in_ok-goes_on-in-Some-clause-number
returns-in_ok-goes_on-in-Some-clause-number g c = ap (λ (f : Following). f.run.number) c.pass.ensures

pub returns-in-None-clause-few : goal.returns-in-None-clause-few
returns-in-None-clause-few g c =
    few_at_end c.place-place.result (made_page c.args.page.now) (made_page c.end_at.new.self) c.end_at.ensures

pub returns-in_ok-goes_on-in-Some-clause-few : goal.returns-in_ok-goes_on-in-Some-clause-few
returns-in_ok-goes_on-in-Some-clause-few g c =
    few_more (record { place = c.place-place.result; event = event_of c.in-Some.event.now }) (made_page c.args.page.now)
    (made_page c.take.new.self) c.in_ok-goes_on-in-Some.ensures.page
