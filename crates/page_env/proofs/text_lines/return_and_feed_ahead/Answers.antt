use Rattle.std.proofs.Common.{◌∷◌}
use Rattle.page_env.proofs.TextRooms.{return_and_feed}
use Rattle.page_env.proofs.text_lines.return_and_feed_ahead.Goals as goal

pub returns-clause-lines : goal.returns-clause-lines
returns-clause-lines g c = λ rest.
    return_and_feed c.args.measure.now c.args.place rest c.in_ok-first.first c.in-Some.second c.in_ok-first.ensures.some
    c.in-Some.ensures.some (c.in_ok-first.ensures.lines (10 ∷ rest)) (c.in-Some.ensures.lines rest)
