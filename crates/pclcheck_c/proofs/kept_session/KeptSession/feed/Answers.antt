use Rattle.std.proofs.Common.{refl, sym}
use Rattle.pclcheck_c.specs.Sessions.{printers_for}
use Rattle.pclcheck_c.proofs.Sessions.{going_by, kept_by}
use Rattle.pclcheck_c.proofs.kept_session.KeptSession.feed.Goals as goal

pub fed-requires : goal.fed-requires
fed-requires c = going_by _ _ (sym c.replace-check.ensures.value) (printers_for c.args.fleet.now c.args.self.now) c.requires

pub returns : goal.returns
returns c =
    let printers = printers_for c.args.fleet.now c.args.self.now in
    record {
      printer_is = refl;
      fed = λ bytes kept. c.fed.ensures.fed bytes (kept_by _ _ (sym c.replace-check.ensures.value) printers bytes kept);
      going = c.fed.ensures.going;
      number_is = c.progress_number.ensures;
    }
