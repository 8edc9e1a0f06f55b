use Rattle.std.proofs.Common.{arith}
use Rattle.many_jobs.proofs.JsonTextFacts.{IsAscii-shown}
use Rattle.many_jobs.proofs.json_texts.shown_text.Goals as goal

pub text_of-requires : goal.text_of-requires
text_of-requires c =
    rw (c.in_ok-push_shown.ensures, c.new-words.ensures.items) (IsAscii-shown c.args.name.now (λ k. omega (arith, c.type_inv.name k)))
