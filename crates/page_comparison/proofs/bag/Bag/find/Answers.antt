use Rattle.std.proofs.Common.{◌≡◌, ◌≤◌, ◌<◌, Some, arith, get_or, length, replicate, slice_get, subst, sym, take, true, ◌∙◌}
use Rattle.std.proofs.lemmas.Option.{slice_get-get_or}
use Rattle.page_comparison.specs.AnyOrder.{Matching, first_free}
use Rattle.page_comparison.specs.Pages.{made_mark, made_marks}
use Rattle.page_comparison.proofs.Free.{free_end, free_found, free_more, free_start}
use Rattle.page_comparison.proofs.bag.Bag.find.Goals as goal

pub loop-place-init : goal.loop-place-init
loop-place-init g c =
    let taken = c.args.self.now.taken in
    let front = c.self.inside.front in
    let view = c.self.view_is in
    let inside : front ≤ length taken =
    subst (λ (m : Matching). front ≤ length m.taken) view c.self.invariant.0 in
    let marked : take front taken ≡ replicate front true =
    subst (λ (m : Matching). take front m.taken ≡ replicate front true) view c.self.invariant.1 in
    free_start c.args.within (made_mark c.args.one.now) c.args.marks.now taken front inside c.requires marked

pub loop-place-preserved : goal.loop-place-preserved
loop-place-preserved g c =
    let taken = c.args.self.now.taken in
    let place = c.loop-place.place in
    let state = get_or taken place true in
    let within : place < length taken = omega arith in
    let got : slice_get taken place ≡ Some state = slice_get-get_or taken place true within in
    free_more c.args.within (made_mark c.args.one.now) c.args.marks.now taken place c.index-marks-place.result state
    c.loop-place-test.true c.index-marks-place.is got (sym (c.is_match.ensures state got) ∙ c.if-is_match.false)
    (first_free c.args.within (made_mark c.args.one.now) (made_marks c.args.marks.now) taken) c.loop-place.invariant

pub returns-then-is_match-clause-free : goal.returns-then-is_match-clause-free
returns-then-is_match-clause-free g c =
    let taken = c.args.self.now.taken in
    let place = c.loop-place.place in
    let state = get_or taken place true in
    let within : place < length taken = omega arith in
    let got : slice_get taken place ≡ Some state = slice_get-get_or taken place true within in
    free_found c.args.within (made_mark c.args.one.now) c.args.marks.now taken place c.index-marks-place.result state
    c.loop-place-test.true c.index-marks-place.is got (sym (c.is_match.ensures state got) ∙ c.if-is_match.true)
    (first_free c.args.within (made_mark c.args.one.now) (made_marks c.args.marks.now) taken) c.loop-place.invariant

pub returns-clause-free : goal.returns-clause-free
returns-clause-free g c =
    free_end c.args.within (made_mark c.args.one.now) c.args.marks.now c.args.self.now.taken c.loop-place.place
    c.loop-place-test.false (first_free c.args.within (made_mark c.args.one.now) (made_marks c.args.marks.now) c.args.self.now.taken)
    c.loop-place.invariant
