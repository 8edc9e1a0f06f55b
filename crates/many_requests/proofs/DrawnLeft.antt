-- What is left of a comparison of jobs of which none was read, with a picture in a file that is written.
use Rattle.std.proofs.Common.{◌≡◌, ◌∙◌, ◌++◌, ◌∷◌, ℕ, Bool, true, List, [], Option, ap, inl, inr, map, subst}
use Rattle.compare_command.specs.Compare.{Asked}
use Rattle.compare_command.specs.Drawing.{LeavesDrawn}
use Rattle.compare_command.specs.declared.drawing.Drawn.{Drawn}
use Rattle.named_inputs.specs.Texts.{AsksInOrder, text_named}
use Rattle.requests.specs.declared.status.Status.{Status}
use Rattle.streams.proofs.Uses.{one_written}
use Rattle.streams.specs.Ended.{JobRead}
use Rattle.streams.specs.Files.{FileOutletState, no_outlet, no_source}
use Rattle.streams.specs.Outlet.{OutletState}
use Rattle.streams.specs.Used.{FileUse, TextsAt, read_of_job, written_at}
use Rattle.many_requests.proofs.AskedLeft.{uses_all}
use Rattle.many_requests.specs.DrawnJobs.{EndsDrawn, LeavesDrawnJobs, PutsDrawn}

puts_drawn : (into : List ℕ) (drawn : Drawn) (status : Status) (file : OutletState) (file' : FileOutletState) →
    EndsDrawn drawn status file file' → PutsDrawn into drawn status file (written_at into file'.outlet file'.is_put)
puts_drawn into drawn status file file' (inl same) =
    inl (same.0, ap (λ (o : OutletState). written_at into o file'.is_put) same.1 ∙ ap (λ (b : Bool). written_at into file b) same.2)
puts_drawn into drawn status file file' (inr stop) =
    let unput : OutletState = record file { failed = true } in
    inr (
      stop.0,
      stop.1,
      ap (λ (o : OutletState). written_at into o file'.is_put) stop.2 ∙ ap (λ (b : Bool). written_at into unput b) stop.3,
    )

-- of jobs and texts of which none was read, where the printers are those that words name
pub drawn_left : (known : List (Option (List ℕ))) (given texts unasked named : List (List ℕ)) (read_failed : Bool) (asked : Asked)
    (before ended : List JobRead) (into to : List ℕ) (drawn : Drawn) (status : Status) (file file' : OutletState)
    (over : FileOutletState) (used early between used' : List FileUse) (out out' err err' : OutletState)
    → known ≡ map text_named asked.printers → before ≡ [] → given ≡ [] → file ≡ no_outlet
    → LeavesDrawn known given texts asked (λ name. no_source) drawn before ended file file' out out' err err'
    → EndsDrawn drawn status file' over
    → unasked ≡ [] → AsksInOrder asked.printers unasked named → early ≡ used ++ TextsAt named texts read_failed ∷ []
    → between ≡ early ++ map read_of_job ended → to ≡ into → used' ≡ between ++ written_at to over.outlet over.is_put ∷ []
    → LeavesDrawnJobs asked into status used used' out out' err err'
drawn_left known given texts unasked named read_failed asked before ended into to drawn status file file' over used early between used'
    out out' err err' known_is none unread unwritten left end unnamed order of_texts of_jobs is_out written = record {
      ended = ended;
      texts = texts;
      read_failed = read_failed;
      between = between;
      uses = uses_all asked.printers texts unasked named read_failed ended used early between unnamed order of_texts of_jobs;
      drawn = drawn;
      file = file';
      one = written_at into over.outlet over.is_put;
      used_are = one_written between used' into to over.outlet over.is_put is_out written;
      put = puts_drawn into drawn status file' over end;
      left =
          subst (λ ks. LeavesDrawn ks [] texts asked (λ name. no_source) drawn [] ended no_outlet file' out out' err err') known_is
          (subst (λ o. LeavesDrawn known [] texts asked (λ name. no_source) drawn [] ended o file' out out' err err') unwritten
          (subst (λ g. LeavesDrawn known g texts asked (λ name. no_source) drawn [] ended file file' out out' err err') unread
          (subst (λ jobs. LeavesDrawn known given texts asked (λ name. no_source) drawn jobs ended file file' out out' err err') none
          left)));
    }
