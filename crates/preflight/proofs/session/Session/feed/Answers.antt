use Rattle.std.proofs.Common.{◌≡◌, ◌-◌, [], ◌++◌, take, drop, length, sym, ap, ◌∙◌, inr, rules, arith}
use Rattle.std.proofs.lemmas.Result.{err_from_is_err_and}
use Rattle.preflight.specs.Session.{SessionState}
use Rattle.preflight.proofs.Sessions.{checks_on_none, judged_in_part, judged_not_open, judged_not_stopped, judged_state, not_turns}
use Rattle.preflight.proofs.Sessions.{part_checked, part_is, part_judged, part_split, still_judged, stopped_by, stopped_not_open}
use Rattle.preflight.proofs.session.Session.feed.Goals as goal

pub returns-in-Judged-clause-fed : goal.returns-in-Judged-clause-fed
returns-in-Judged-clause-fed g c =
    still_judged c.args.self.now c.args.piece.now c.in-Judged.field-0
    (sym (ap (λ (s : SessionState). s.state) c.self.view_is) ∙ c.in-Judged.is)

pub returns-in_err-came-clause-stopped : goal.returns-in_err-came-clause-stopped
returns-in_err-came-clause-stopped g c =
    let same = err_from_is_err_and c.from_residual.result c.from_residual.ensures.1 in
    let came = c.in_err-came.ensures (c.args.self.now, tt) _ c.loop-rest.invariant.2 in
    rw (same.1, same.2) (stopped_by c.in_err-came.field-0.0 c.piece.new.self.state came.0.0 came.0.1)

pub returns-in_err-came-clause-turns : goal.returns-in_err-came-clause-turns
returns-in_err-came-clause-turns g c = λ is.
    let same = err_from_is_err_and c.from_residual.result c.from_residual.ensures.1 in
    let came = c.in_err-came.ensures (c.args.self.now, tt) _ c.loop-rest.invariant.2 in
    let total : c.self.inside.total ≡ c.args.self.now.total = ap (λ (s : SessionState). s.total) c.self.view_is in
    let ready = c.self.invariant c.in-Open.is in
    rw (same.1, same.2) (
      λ turns. absurd (not_turns c.in_err-came.field-0.0 came.0.0 turns),
      λ past. absurd (omega (arith, past, total, ready.5, c.if-piece-self.false)),
    )

pub returns-in_err-came-clause-errors : goal.returns-in_err-came-clause-errors
returns-in_err-came-clause-errors g c = λ is.
    let same = err_from_is_err_and c.from_residual.result c.from_residual.ensures.1 in
    let came = c.in_err-came.ensures (c.args.self.now, tt) _ c.loop-rest.invariant.2 in
    rw (same.1, same.2) (inr came.0.0)

pub returns-in_err-came-clause-total : goal.returns-in_err-came-clause-total
returns-in_err-came-clause-total g c = λ is.
    let came = c.in_err-came.ensures (c.args.self.now, tt) _ c.loop-rest.invariant.2 in
    absurd (stopped_not_open c.piece.new.self.state _ came.0.1 is)

pub loop-rest-preserved : goal.loop-rest-preserved
loop-rest-preserved g c =
    let so_far = c.loop-rest.invariant in
    let rest = c.loop-rest.rest.now in
    let n = c.min-count.result in (
      so_far.0 ++ take n rest,
      part_split so_far.0 rest c.args.piece.now n so_far.1,
      part_checked c.args.self.now c.piece.new.self so_far.0 (take n rest) c.in_ok-came.came
          (c.in_ok-came.ensures (c.args.self.now, tt) _ so_far.2) c.in-None.is,
    )

pub returns-in-Some-clause-fed : goal.returns-in-Some-clause-fed
returns-in-Some-clause-fed g c = λ fleet bytes checked.
    let so_far = c.loop-rest.invariant in
    let rest = c.loop-rest.rest.now in
    let n = c.min-count.result in
    let mid = c.loop-rest.self in
    let came = c.in_ok-came.ensures (mid, tt) [] (checks_on_none mid so_far.2.is_open so_far.2.open_input so_far.2.wants_more) in
    judged_in_part c.args.self.now c.piece.new.self fleet bytes checked mid so_far.0 (take n rest)
    (take (length rest - n) (drop n rest)) c.args.piece.now c.in-Some.field-0 so_far.2
    (so_far.1 ∙ ap (λ l. so_far.0 ++ l) (part_is rest n)) (search rules)
    (part_judged mid c.piece.new.self [] (take n rest) c.in_ok-came.came came c.in-Some.field-0 c.in-Some.is)

pub returns-in-Some-clause-stopped : goal.returns-in-Some-clause-stopped
returns-in-Some-clause-stopped g c =
    let so_far = c.loop-rest.invariant in
    let part = take c.min-count.result c.loop-rest.rest.now in
    let mid = c.loop-rest.self in
    let came = c.in_ok-came.ensures (mid, tt) [] (checks_on_none mid so_far.2.is_open so_far.2.open_input so_far.2.wants_more) in
    judged_not_stopped c.piece.new.self.state c.in-Some.field-0
    (judged_state mid c.piece.new.self part c.in-Some.field-0 (search rules)
    (part_judged mid c.piece.new.self [] part c.in_ok-came.came came c.in-Some.field-0 c.in-Some.is))

pub returns-in-Some-clause-total : goal.returns-in-Some-clause-total
returns-in-Some-clause-total g c = λ is.
    let so_far = c.loop-rest.invariant in
    let part = take c.min-count.result c.loop-rest.rest.now in
    let mid = c.loop-rest.self in
    let came = c.in_ok-came.ensures (mid, tt) [] (checks_on_none mid so_far.2.is_open so_far.2.open_input so_far.2.wants_more) in
    absurd (judged_not_open c.piece.new.self.state c.in-Some.field-0
    (judged_state mid c.piece.new.self part c.in-Some.field-0 (search rules)
    (part_judged mid c.piece.new.self [] part c.in_ok-came.came came c.in-Some.field-0 c.in-Some.is))
    is)
