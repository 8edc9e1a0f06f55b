use Rattle.std.proofs.Common.{◌≡◌, ◌∷◌, [], inl, inr, refl, rules}
use Rattle.profile_commands.proofs.Sheets.{end_refuses_none, fails_by, passes, told_refuses_none}
use Rattle.profile_commands.proofs.sheet.write_sheet.Goals as goal

pub returns-in-Err-clause-refused : goal.returns-in-Err-clause-refused
returns-in-Err-clause-refused g c = λ is. absurd (end_refuses_none c.end_of_check.result c.end_of_check.ensures.end is)

pub returns-in-None-clause-left : goal.returns-in-None-clause-left
returns-in-None-clause-left g c =
    let one : c.as_slice.result.now ≡ c.args.profile ∷ [] = search rules in
    inl (
      passes c.args.profile _ c.args.job.now c.in-Ok.verdict one c.in-None.ensures c.in-Ok.ensures.exact c.in-Ok.ensures.promise,
      c.write_out.ensures.written,
      refl,
    )

pub returns-clause-left : goal.returns-clause-left
returns-clause-left g c =
    let one : c.as_slice.result.now ≡ c.args.profile ∷ [] = search rules in
    inr (inl (
      c.in-Some.failure,
      fails_by c.args.profile _ c.args.job.now c.in-Ok.verdict c.in-Some.failure one c.in-Some.ensures c.in-Ok.ensures.exact,
      c.refuse.ensures,
      refl,
    ))

pub returns-clause-refused : goal.returns-clause-refused
returns-clause-refused g c = λ is. absurd (told_refuses_none c.refuse.result _ _ _ _ c.refuse.ensures is)
