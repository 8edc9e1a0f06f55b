use Rattle.many_jobs.proofs.JsonObjectFacts.{no_float-put}
use Rattle.many_jobs.proofs.json_object.Object.put.Goals as goal

pub invariant_of-self : goal.invariant_of-self
invariant_of-self c = record {
  no_float = no_float-put c.put.result c.args.key.now _ _ _ c.put.ensures.ok c.put.ensures.err c.requires c.args.self.now.no_float;
}
