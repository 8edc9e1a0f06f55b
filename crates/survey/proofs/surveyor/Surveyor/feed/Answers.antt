use Rattle.std.proofs.Common.{◌≡◌, ◌+◌, ◌≤◌, ◌^◌, ◌++◌, ◌∙◌, List, ℕ, length, drop, ap, arith, length-append, length-drop, subst, sym}
use Rattle.survey.specs.Carriers.Surveying.{SurveyState, most_left}
use Rattle.survey.proofs.Surveyors.{fed_state}
use Rattle.survey.proofs.surveyor.Surveyor.feed.Goals as goal

pub invariant_of-self-2 : goal.invariant_of-self-2
invariant_of-self-2 g c =
    let l = c.self.inside in
    let piece = c.args.piece.now in
    let rest = drop l.at l.window.items in
    let short : length rest ≤ most_left =
    subst (λ (s : SurveyState). length s.rest ≤ most_left) (sym c.self.view_is) c.requires.short in
    let total : l.dropped + l.at + length rest + length piece ≤ 2 ^ 62 =
    subst (λ (s : SurveyState). s.place + length s.rest + length piece ≤ 2 ^ 62) (sym c.self.view_is) c.requires.total in
    let fed : c.extend_from_slice.new.self.items ≡ rest ++ piece =
    c.in_ok-extend_from_slice.ensures.items ∙ ap (λ (bytes : List ℕ). bytes ++ piece) c.remove_front.ensures.items in
    let size : length c.extend_from_slice.new.self.items ≡ length rest + length piece =
    ap length fed ∙ length-append rest piece in
    let held = c.extend_from_slice.new.self.ok.0 in (
      omega arith,
      omega (arith, held, size, short, c.requires.piece),
      omega (arith, held, size, total),
      omega (arith, c.self.invariant.3),
    )

pub returns : goal.returns
returns g c =
    let l = c.self.inside in
    let piece = c.args.piece.now in
    fed_state c.args.self.now l.job l.table l.standing l.dropped l.at l.window.items c.extend_from_slice.new.self.items piece c.self.view_is
    (c.in_ok-extend_from_slice.ensures.items ∙ ap (λ (bytes : List ℕ). bytes ++ piece) c.remove_front.ensures.items)
