use Rattle.std.proofs.Common.{◌≡◌, arith}
use Rattle.pcl_lexer.specs.Lexing.FirstView.{context_view}
use Rattle.pcl_lexer.proofs.Frames.Pairs.{pair_stands}
use Rattle.pcl_lexer.proofs.frame.pair.pair_in.Goals as goal

pub returns : goal.returns
returns c =
    let comma : c.in_ok-x.x.last ≡ 44 = omega (arith, c.if-x-ne44.false) in
    pair_stands c.in_ok-lead.lead c.in_ok-x.x c.in_ok-y.y
    (context_view c.args.context) c.args.place c.args.bytes.now c.in_ok-lead.ensures c.in_ok-x.ensures comma c.in_ok-y.ensures
