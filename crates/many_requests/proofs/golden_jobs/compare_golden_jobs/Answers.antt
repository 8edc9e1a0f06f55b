use Rattle.std.proofs.Common.{List, ap, inl, inr, map, refl, subst, ◌∙◌}
use Rattle.compare_command.specs.Golden.{PairNames, golden_for, names_of}
use Rattle.many_requests.specs.GoldenJobs.{LeavesGoldenFiles, golden_with}
use Rattle.many_requests.proofs.golden_jobs.compare_golden_jobs.Goals as goal

pub returns-in_default : goal.returns-in_default
returns-in_default g c = inr (refl, refl, refl, refl)

pub returns : goal.returns
returns g c =
    inl (subst
    (λ (pairs : List PairNames). LeavesGoldenFiles (golden_with pairs (golden_for c.args.asked.now)) c.compare_golden_files.result
    c.args.used.now c.compare_golden_files.new.used (g.O.Outlet.state c.args.stdout.now)
    (g.O.Outlet.state c.compare_golden_files.new.stdout) (g.E.Outlet.state c.args.stderr.now)
    (g.E.Outlet.state c.compare_golden_files.new.stderr))
    (ap (map names_of) c.as_slice.ensures.value ∙ c.in-Ok.ensures) c.compare_golden_files.ensures)
