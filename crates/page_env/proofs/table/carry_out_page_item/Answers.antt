use Rattle.page_env.proofs.table.carry_out_page_item.Goals as goal

pub returns-in-CarriageReturn : goal.returns-in-CarriageReturn
returns-in-CarriageReturn g c = rw c.in-CarriageReturn.is c.return_line.ensures

pub returns-in-LineFeed : goal.returns-in-LineFeed
returns-in-LineFeed g c = rw c.in-LineFeed.is c.line_feed.ensures

pub returns-in-HalfLineFeed : goal.returns-in-HalfLineFeed
returns-in-HalfLineFeed g c = rw c.in-HalfLineFeed.is c.half_line_feed.ensures

pub returns-in-FormFeed : goal.returns-in-FormFeed
returns-in-FormFeed g c = rw c.in-FormFeed.is c.form_feed.ensures

pub returns-in-Reset : goal.returns-in-Reset
returns-in-Reset g c = rw c.in-Reset.is c.reset.ensures

pub returns-in-ExitLanguage : goal.returns-in-ExitLanguage
returns-in-ExitLanguage g c = rw c.in-ExitLanguage.is c.reset-in-ExitLanguage.ensures

pub returns-in-Command : goal.returns-in-Command
returns-in-Command g c = rw c.in-Command.is c.carry_out_page_command.ensures
