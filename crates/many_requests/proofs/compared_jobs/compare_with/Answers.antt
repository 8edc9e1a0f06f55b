use Rattle.std.proofs.Common.{List, map, subst, sym, Bor, ℕ}
use Rattle.requests.specs.declared.compare_words.ComparedJobs.{ComparedJobs}
use Rattle.many_requests.specs.Comparisons.{LeavesWith, golden_by}
use Rattle.many_requests.specs.GoldenJobs.{LeavesInFolder, golden_in}
use Rattle.many_requests.proofs.compared_jobs.compare_with.Goals as goal

pub returns-in-Pair : goal.returns-in-Pair
returns-in-Pair g c =
    subst
    (λ (jobs : ComparedJobs). LeavesWith jobs c.args.words.now (map (λ word. word.now) c.args.printers.now) c.compare_pair.result
    c.args.used.now c.compare_pair.new.used (g.O.Outlet.state c.args.stdout.now) (g.O.Outlet.state c.compare_pair.new.stdout)
    (g.E.Outlet.state c.args.stderr.now) (g.E.Outlet.state c.compare_pair.new.stderr))
    (sym c.in-Pair.is) c.compare_pair.ensures

pub returns-in-Golden : goal.returns-in-Golden
returns-in-Golden g c =
    let printers = map (λ word. word.now) c.args.printers.now in
    subst
    (λ (jobs : ComparedJobs). LeavesWith jobs c.args.words.now printers c.compare_in_folder.result c.args.used.now
    c.compare_in_folder.new.used (g.O.Outlet.state c.args.stdout.now) (g.O.Outlet.state c.compare_in_folder.new.stdout)
    (g.E.Outlet.state c.args.stderr.now) (g.E.Outlet.state c.compare_in_folder.new.stderr))
    (sym c.in-Golden.is)
    (subst
    (λ (jobs : List (Bor (List ℕ))). LeavesInFolder
    (golden_in c.in-Golden.folder.now (map (λ job. job.now) jobs) (golden_by c.args.words.now printers)) c.compare_in_folder.result
    c.args.used.now c.compare_in_folder.new.used (g.O.Outlet.state c.args.stdout.now)
    (g.O.Outlet.state c.compare_in_folder.new.stdout) (g.E.Outlet.state c.args.stderr.now)
    (g.E.Outlet.state c.compare_in_folder.new.stderr))
    c.as_slice.ensures.value c.compare_in_folder.ensures)
