use Rattle.std.proofs.Common.{◌∙◌, refl, sym}
use Rattle.pclcheck_c.specs.Sessions.{printers_for}
use Rattle.pclcheck_c.proofs.Sessions.{going_by, kept_by, over_by}
use Rattle.pclcheck_c.proofs.kept_session.KeptSession.come_to_end.Goals as goal

pub ended-requires : goal.ended-requires
ended-requires c = going_by _ _ (sym c.replace-check.ensures.value) (printers_for c.args.fleet.now c.args.self.now) c.requires

pub returns : goal.returns
returns c =
    let printers = printers_for c.args.fleet.now c.args.self.now in
    let was = c.replace-check.ensures.value in
    record {
      printer_is = refl;
      ended = λ bytes kept. c.ended.ensures.ended bytes (kept_by _ _ (sym was) printers bytes kept);
      over = c.ended.ensures.over;
      again = λ over. c.ended.ensures.again (over_by _ _ (sym was) over) ∙ was;
    }
