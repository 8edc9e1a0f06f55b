use Rattle.std.proofs.Common.{refl, ◌++◌}
use Rattle.page_machine.specs.Event.{Ended}
use Rattle.renderings.specs.PageTexts.{event_line}
use Rattle.renderings.proofs.Renderings.{AddsFront-none}
use Rattle.renderings.proofs.WrittenTexts.{if_err}
use Rattle.renderings.proofs.pages.PageTextMarkSink.page.Goals as goal

pub returns-in_err-push_page-clause-err : goal.returns-in_err-push_page-clause-err
returns-in_err-push_page-clause-err g c =
    if_err c.from_residual.result (
      refl,
      refl,
      AddsFront-none (g.W.Outlet.state c.args.self.now.outlet.now)
          (c.args.self.now.kept.now.items ++ event_line c.args.self.now.page (Ended c.args.page)),
    )
