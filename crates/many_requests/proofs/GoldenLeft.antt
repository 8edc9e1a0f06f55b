-- What is left of comparisons of pairs of jobs of which none was read.
use Rattle.std.proofs.Common.{◌≡◌, ◌++◌, ◌∷◌, ◌||◌, ℕ, Bool, IsFalse, List, [], Option, ap, inl, map, refl, subst}
use Rattle.std.specs.List.{list_any}
use Rattle.compare_command.specs.Golden.{Golden, LeavesGolden}
use Rattle.many_jobs.specs.JobChecks.{work}
use Rattle.named_inputs.specs.Texts.{AsksInOrder, text_named}
use Rattle.requests.specs.declared.status.Status.{Status}
use Rattle.streams.specs.Ended.{JobRead}
use Rattle.streams.specs.Files.{no_source}
use Rattle.streams.specs.Outlet.{OutletState}
use Rattle.streams.specs.Used.{FileUse, TextsAt, read_of_job}
use Rattle.many_requests.specs.GoldenJobs.{LeavesGoldenFiles, names_input}
use Rattle.many_requests.proofs.AskedLeft.{uses_all}

-- one of what comes of elements passes a test just where one of them does whose image passes it
pub any_of_map : {X Y : Type 0} (test : Y → Bool) (f : X → Y) (xs : List X) →
    list_any test (map f xs) ≡ list_any (λ x. test (f x)) xs
any_of_map test f [] = refl
any_of_map test f (x ∷ xs) = ap (λ (b : Bool). test (f x) || b) (any_of_map test f xs)

-- of jobs and texts of which none was read, where the printers are those that words name
pub golden_left : (known : List (Option (List ℕ))) (given texts unasked named : List (List ℕ)) (read_failed : Bool) (golden : Golden)
    (before ended : List JobRead) (status : Status) (used between used' : List FileUse) (out out' told err err' : OutletState)
    → IsFalse (names_input golden) → known ≡ map text_named golden.printers → before ≡ [] → given ≡ [] → told ≡ err
    → LeavesGolden known given texts golden (λ name. no_source) status (work out before) (work out' ended) told err'
    → unasked ≡ [] → AsksInOrder golden.printers unasked named → between ≡ used ++ TextsAt named texts read_failed ∷ []
    → used' ≡ between ++ map read_of_job ended → LeavesGoldenFiles golden status used used' out out' err err'
golden_left known given texts unasked named read_failed golden before ended status used between used' out out' told err err' once known_is
    none unread quiet left unnamed order of_texts of_jobs =
    inl (
      once,
      ended,
      texts,
      read_failed,
      uses_all golden.printers texts unasked named read_failed ended used between used' unnamed order of_texts of_jobs,
      subst (λ ks. LeavesGolden ks [] texts golden (λ name. no_source) status (work out []) (work out' ended) err err') known_is
          (subst (λ g. LeavesGolden known g texts golden (λ name. no_source) status (work out []) (work out' ended) err err') unread
          (subst (λ jobs. LeavesGolden known given texts golden (λ name. no_source) status (work out jobs) (work out' ended) err err') none
          (subst (λ e. LeavesGolden known given texts golden (λ name. no_source) status (work out before) (work out' ended) e err') quiet
          left))),
    )
