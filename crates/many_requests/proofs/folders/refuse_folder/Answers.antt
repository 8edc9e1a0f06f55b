use Rattle.std.proofs.Common.{◌++◌, ◌∷◌, [], inl, inr, refl}
use Rattle.streams.specs.Used.{NotEntered}
use Rattle.many_requests.proofs.LookFacts.{fault_told, no_fault_told}
use Rattle.many_requests.proofs.folders.refuse_folder.Goals as goal

pub returns-in-Ok-None-clause-unused : goal.returns-in-Ok-None-clause-unused
returns-in-Ok-None-clause-unused g c =
    no_fault_told c.enter.result _ c.args.used.now c.enter.new.self c.in-Ok-None.is c.in-Ok-None.field-0-is c.enter.ensures.quiet

pub returns-in-Ok-Some-clause-refused : goal.returns-in-Ok-Some-clause-refused
returns-in-Ok-Some-clause-refused g c =
    inl (
      fault_told c.enter.result _ (c.args.used.now ++ NotEntered c.args.folder.now ∷ []) c.enter.new.self c.in-Ok-Some.is _
          c.in-Ok-Some.field-0-is c.enter.ensures.told,
      c.tell_folder.ensures,
    )

pub returns-in-Err-clause-refused : goal.returns-in-Err-clause-refused
returns-in-Err-clause-refused g c = inr (refl, c.in-Err.ensures.refused, refl)
