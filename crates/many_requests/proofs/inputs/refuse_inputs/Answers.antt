use Rattle.std.proofs.Common.{rules, IsTrue, inr, map}
use Rattle.many_jobs.specs.Asked.{asked_for}
use Rattle.many_requests.specs.Inputs.{is_apart}
use Rattle.many_requests.proofs.inputs.refuse_inputs.Goals as goal

pub returns-in-Some-clause-refused : goal.returns-in-Some-clause-refused
returns-in-Some-clause-refused g c =
    let apart : IsTrue (is_apart (asked_for c.args.many.now)) = search rules in
    inr (apart, c.refuse_pipe.ensures (map (λ name. name.now) c.args.many.now.jobs.now) c.in-Some.ensures)
