use Rattle.std.proofs.Common.{rules}
use Rattle.requests.proofs.Writing.{pieces_more, Writes-cut}
use Rattle.requests.proofs.status.write_pieces.Goals as goal

pub returns-in_err-write_text : goal.returns-in_err-write_text
returns-in_err-write_text g c =
    Writes-cut (λ piece. piece.now) c.args.pieces.now c.loop-piece.piece-index _ _ _ _ (search rules)
    (search rules) c.loop-piece.invariant.1 c.write_text.ensures.text.front

pub loop-piece-preserved : goal.loop-piece-preserved
loop-piece-preserved g c = (
  search rules,
  pieces_more (λ piece. piece.now) c.args.pieces.now c.loop-piece.piece-index _ _ _ _ (search rules) c.loop-piece.invariant.1
      (c.write_text.ensures.text.whole (search rules)),
)
