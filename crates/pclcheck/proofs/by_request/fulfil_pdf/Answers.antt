use Rattle.pclcheck.proofs.Fulfilling.{other_than_pdf}
use Rattle.pclcheck.proofs.by_request.fulfil_pdf.Goals as goal

pub unreachable-requires : goal.unreachable-requires
unreachable-requires g c = other_than_pdf c.args.request.now c.requires.pdf c.in_default.not-Pdf
