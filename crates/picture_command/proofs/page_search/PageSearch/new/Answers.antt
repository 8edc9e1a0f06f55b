use Rattle.picture_command.proofs.Searches.{search_start}
use Rattle.picture_command.proofs.page_search.PageSearch.new.Goals as goal

pub returns-clause-rendering : goal.returns-clause-rendering
returns-clause-rendering g c =
    search_start c.args.selection c.args.names.now.job.now c.args.names.now.printers.now c.args.profile.now c.args.panel.now c.new.result
    c.none.result c.new.ensures c.none.ensures
