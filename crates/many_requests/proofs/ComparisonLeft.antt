-- What is left of a comparison of jobs of which none was read.
use Rattle.std.proofs.Common.{◌≡◌, ◌++◌, ◌∷◌, ℕ, Bool, IsFalse, List, [], Option, inl, map, subst}
use Rattle.compare_command.specs.Compare.{Asked, LeavesCompared}
use Rattle.named_inputs.specs.Texts.{AsksInOrder, text_named}
use Rattle.requests.specs.declared.status.Status.{Status}
use Rattle.streams.specs.Ended.{JobRead}
use Rattle.streams.specs.Files.{no_source}
use Rattle.streams.specs.Outlet.{OutletState}
use Rattle.streams.specs.Used.{FileUse, TextsAt, read_of_job}
use Rattle.many_requests.specs.Comparisons.{LeavesOnFiles}
use Rattle.many_requests.specs.Reads.{reads_input_twice}
use Rattle.many_requests.proofs.AskedLeft.{uses_all}

-- of jobs and texts of which none was read, where the printers are those that words name
pub compared_left : (known : List (Option (List ℕ))) (given texts unasked named : List (List ℕ)) (read_failed : Bool) (asked : Asked)
    (before ended : List JobRead) (status : Status) (used between used' : List FileUse) (out out' err err' : OutletState)
    → IsFalse (reads_input_twice asked) → known ≡ map text_named asked.printers → before ≡ [] → given ≡ []
    → LeavesCompared known given texts asked (λ name. no_source) status before ended out out' err err'
    → unasked ≡ [] → AsksInOrder asked.printers unasked named → between ≡ used ++ TextsAt named texts read_failed ∷ []
    → used' ≡ between ++ map read_of_job ended → LeavesOnFiles asked status used used' out out' err err'
compared_left known given texts unasked named read_failed asked before ended status used between used' out out' err err' once known_is
    none unread left unnamed order of_texts of_jobs =
    inl (
      once,
      ended,
      texts,
      read_failed,
      uses_all asked.printers texts unasked named read_failed ended used between used' unnamed order of_texts of_jobs,
      subst (λ ks. LeavesCompared ks [] texts asked (λ name. no_source) status [] ended out out' err err') known_is
          (subst (λ g. LeavesCompared known g texts asked (λ name. no_source) status [] ended out out' err err') unread
          (subst (λ jobs. LeavesCompared known given texts asked (λ name. no_source) status jobs ended out out' err err') none left)),
    )
