use Rattle.std.proofs.Common.{◌&&◌, Bool, List, drop, map}
use Rattle.streams.specs.Outlet.{OutletState}
use Rattle.streams.specs.Used.{FileUse}
use Rattle.many_requests.specs.AskedDocuments.{documents_asked}
use Rattle.many_requests.specs.Documents.{WritesDocuments}
use Rattle.many_requests.proofs.documents.write_all.Given as goal

-- what is written of the jobs from here on is written of all
abbrev pub invariant-loop-job : goal.invariant-loop-job
invariant-loop-job g l =
    (others : Bool) (used' : List FileUse) (err' : OutletState) →
    WritesDocuments (documents_asked l.documents) (map (λ job. job.now) (drop l.job-index l.jobs)) others l.used used'
    (g.E.Outlet.state l.stderr) err' →
    WritesDocuments (documents_asked l.documents) (map (λ job. job.now) l.jobs) (l.is_well && others) l.initial.used used'
    (g.E.Outlet.state l.initial.stderr) err'
