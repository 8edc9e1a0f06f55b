-- What is left of a check of jobs of which none was read.
use Rattle.std.proofs.Common.{◌≡◌, ◌++◌, ◌∷◌, ℕ, Bool, IsFalse, List, [], Option, inl, map, subst}
use Rattle.many_jobs.specs.CheckMany.{Asked, LeavesMany}
use Rattle.many_jobs.specs.JobChecks.{work}
use Rattle.named_inputs.specs.Texts.{AsksInOrder, text_named}
use Rattle.requests.specs.declared.status.Status.{Status}
use Rattle.requests.specs.Status.{is_stop_of_write}
use Rattle.streams.proofs.Uses.{others_behind, texts_read}
use Rattle.streams.specs.Ended.{JobRead}
use Rattle.streams.specs.Files.{no_source}
use Rattle.streams.specs.Outlet.{OutletState}
use Rattle.streams.specs.Used.{FileUse, TextsAt, read_of_job}
use Rattle.many_requests.specs.Checks.{LeavesAsked, UsesAll}
use Rattle.many_requests.specs.Inputs.{reads_input_again}

-- the texts of words, of which none was asked for before, and then jobs
pub uses_all : (words texts unasked named : List (List ℕ)) (failed : Bool) (jobs : List JobRead) (used between used' : List FileUse)
    → unasked ≡ [] → AsksInOrder words unasked named → between ≡ used ++ TextsAt named texts failed ∷ []
    → used' ≡ between ++ map read_of_job jobs → UsesAll words texts failed jobs used used'
uses_all words texts unasked named failed jobs used between used' none order told read = (
  order.0,
  order.1,
  order.2,
  others_behind used between used' (TextsAt order.0 texts failed) (map read_of_job jobs)
      (texts_read used between unasked named texts order.0 failed none order.3 told) read,
)

-- of jobs and texts of which none was read, where the printers are those that words name
pub asked_left : (known : List (Option (List ℕ))) (given texts unasked named : List (List ℕ)) (read_failed : Bool)
    (names_from : Option (List ℕ)) (asked : Asked) (before ended : List JobRead) (status : Status) (used between used' : List FileUse)
    (out out' told err err' : OutletState)
    → IsFalse (reads_input_again names_from asked) → known ≡ map text_named asked.printers → before ≡ [] → given ≡ [] → told ≡ err
    → LeavesMany known given texts read_failed asked (λ name. no_source) status (work out before) (work out' ended) told err'
    → out'.failed ≡ is_stop_of_write status
    → unasked ≡ [] → AsksInOrder asked.printers unasked named → between ≡ used ++ TextsAt named texts read_failed ∷ []
    → used' ≡ between ++ map read_of_job ended → LeavesAsked names_from asked status used used' out out' err err'
asked_left known given texts unasked named read_failed names_from asked before ended status used between used' out out' told err err' once
    known_is none unread quiet left write unnamed order of_texts of_jobs =
    inl (
      once,
      ended,
      texts,
      read_failed,
      uses_all asked.printers texts unasked named read_failed ended used between used' unnamed order of_texts of_jobs,
      subst (λ ks. LeavesMany ks [] texts read_failed asked (λ name. no_source) status (work out []) (work out' ended) err err') known_is
          (subst
          (λ g. LeavesMany known g texts read_failed asked (λ name. no_source) status (work out []) (work out' ended) err err') unread
          (subst
          (λ jobs. LeavesMany known given texts read_failed asked (λ name. no_source) status (work out jobs) (work out' ended) err err')
          none
          (subst
          (λ e. LeavesMany known given texts read_failed asked (λ name. no_source) status (work out before) (work out' ended) e err')
          quiet left))),
      write,
    )
