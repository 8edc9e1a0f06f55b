use Rattle.std.proofs.Common.{List, ap, inr, map, refl, subst, sym, ◌∙◌}
use Rattle.std.proofs.lemmas.Simd.{map-map}
use Rattle.compare_command.specs.Golden.{PairNames, golden_for}
use Rattle.many_requests.specs.GoldenJobs.{LeavesInFolder, golden_names, golden_with, pair_by}
use Rattle.many_requests.proofs.compared_jobs.compare_in_folder.Goals as goal

pub returns-in_default : goal.returns-in_default
returns-in_default g c = inr (refl, refl, refl, refl)

pub returns : goal.returns
returns g c =
    subst
    (λ (pairs : List PairNames). LeavesInFolder (golden_with pairs (golden_for c.args.asked.now)) c.compare_golden_jobs.result
    c.args.used.now c.compare_golden_jobs.new.used (g.O.Outlet.state c.args.stdout.now)
    (g.O.Outlet.state c.compare_golden_jobs.new.stdout) (g.E.Outlet.state c.args.stderr.now)
    (g.E.Outlet.state c.compare_golden_jobs.new.stderr))
    (ap (map golden_names) c.as_slice.ensures.value
    ∙ (c.in-Ok.ensures ∙ sym (map-map (pair_by c.args.folder.now) (λ job. job.now) c.args.jobs.now)))
    c.compare_golden_jobs.ensures
