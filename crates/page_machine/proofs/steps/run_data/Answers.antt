use Rattle.std.proofs.Common.{◌≡◌, ap, sym, ◌∙◌}
use Rattle.pcl_items.specs.declared.pcl.command.DataCommand.TheVariants.{RasterRow, TransparentText}
use Rattle.pcl_items.specs.Items.{WithData}
use Rattle.page_env.specs.Settings.{state_at}
use Rattle.page_machine.specs.Run.{begun_run}
use Rattle.page_machine.proofs.Composed.{Follows-handed, Follows-is}
use Rattle.page_machine.proofs.Still.{still_handed_on}
use Rattle.page_machine.proofs.steps.run_data.Goals as goal

pub returns-in_err-run_bytes-in-TransparentText-clause-run : goal.returns-in_err-run_bytes-in-TransparentText-clause-run
returns-in_err-run_bytes-in-TransparentText-clause-run g c = λ conditions.
    Follows-handed _ _ _ _ _ _ _ c.in_err-run_bytes-in-TransparentText.field-0.0 c.from_residual.result c.from_residual.ensures.1
    (Follows-is _ _ _ _ _ _ _ _ _
    (λ panel. ap
    (λ command. begun_run c.args.profile.now (conditions panel) (WithData command c.args.lent.bytes.now) (state_at panel c.args.page.now))
    c.in-TransparentText.is)
    (c.in_err-run_bytes-in-TransparentText.ensures conditions))

pub returns-in_ok-run_bytes-in-TransparentText-clause-run : goal.returns-in_ok-run_bytes-in-TransparentText-clause-run
returns-in_ok-run_bytes-in-TransparentText-clause-run g c = λ conditions.
    Follows-is _ _ _ _ _ _ _ _ _
    (λ panel. ap
    (λ command. begun_run c.args.profile.now (conditions panel) (WithData command c.args.lent.bytes.now) (state_at panel c.args.page.now))
    c.in-TransparentText.is)
    (c.in_ok-run_bytes-in-TransparentText.ensures conditions)

pub returns-in_err-run_row-in-RasterRow-clause-run : goal.returns-in_err-run_row-in-RasterRow-clause-run
returns-in_err-run_row-in-RasterRow-clause-run g c = λ conditions.
    Follows-handed _ _ _ _ _ _ _ c.in_err-run_row-in-RasterRow.field-0.0 c.from_residual-in_err-run_row-in-RasterRow.result
    c.from_residual-in_err-run_row-in-RasterRow.ensures.1
    (Follows-is _ _ _ _ _ _ _ _ _
    (λ panel. ap
    (λ command. begun_run c.args.profile.now (conditions panel) (WithData command c.args.lent.bytes.now) (state_at panel c.args.page.now))
    c.in-RasterRow.is)
    (c.in_err-run_row-in-RasterRow.ensures.run conditions))

pub returns-in_ok-run_row-in-RasterRow-clause-run : goal.returns-in_ok-run_row-in-RasterRow-clause-run
returns-in_ok-run_row-in-RasterRow-clause-run g c = λ conditions.
    Follows-is _ _ _ _ _ _ _ _ _
    (λ panel. ap
    (λ command. begun_run c.args.profile.now (conditions panel) (WithData command c.args.lent.bytes.now) (state_at panel c.args.page.now))
    c.in-RasterRow.is)
    (c.in_ok-run_row-in-RasterRow.ensures.run conditions)

pub returns-in_err-run_bytes-in-TransparentText-clause-still : goal.returns-in_err-run_bytes-in-TransparentText-clause-still
returns-in_err-run_bytes-in-TransparentText-clause-still g c = λ row.
    let both : TransparentText ≡ RasterRow = sym c.in-TransparentText.is ∙ row in absurd cc

pub returns-in_err-run_row-in-RasterRow-clause-still : goal.returns-in_err-run_row-in-RasterRow-clause-still
returns-in_err-run_row-in-RasterRow-clause-still g c = λ row.
    still_handed_on c.args.page.now c.run_row.new.page c.in_err-run_row-in-RasterRow.field-0.0
    c.from_residual-in_err-run_row-in-RasterRow.result c.from_residual-in_err-run_row-in-RasterRow.ensures.1
    c.in_err-run_row-in-RasterRow.ensures.still
