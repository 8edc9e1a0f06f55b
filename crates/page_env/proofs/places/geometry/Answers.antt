use Rattle.std.proofs.Common.{[]}
use Rattle.std.proofs.lemmas.Result.{err_from_is_err_and}
use Rattle.page_env.specs.Places.{page_reads}
use Rattle.page_env.proofs.places.geometry.Goals as goal

pub returns-in_err-size : goal.returns-in_err-size
unfolding page_reads
returns-in_err-size g c =
    let ends = err_from_is_err_and c.from_residual.result c.from_residual.ensures.1 in
    rw (ends.1, ends.2) (c.in_err-size.ensures.unset [])
