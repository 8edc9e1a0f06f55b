-- What is had of what words ask for.
use Rattle.std.proofs.Common.{◌≡◌, ◌≢◌, ◌≤◌, ◌+◌, ◌++◌, ℕ, Bor, List, [], Option, None, Some, ap, arith, inl, inr, length, length-append}
use Rattle.std.proofs.Common.{map, option_map, refl, subst}
use Rattle.std.specs.Prelude.{IsSomeAnd}
use Rattle.std.proofs.lemmas.List.{length-map, nil_from_length}
use Rattle.streams.specs.Outlet.{OutletState}
use Rattle.job_reports.specs.Refusals.{TellsOfNames}
use Rattle.requests.specs.declared.status.Status.{Status}
use Rattle.many_requests.specs.Checks.{LacksSome}

-- the names of jobs cannot be read
pub names_lack : (fleets : List (List ℕ)) (path : Option (Bor (List ℕ))) (status : Status) (told err err' : OutletState)
    → told ≡ err → IsSomeAnd path (λ word. TellsOfNames word.now status told err')
    → LacksSome fleets (option_map (λ word. word.now) path) status err err'
names_lack fleets None status told err err' quiet ends = absurd ends
names_lack fleets (Some word) status told err err' quiet ends =
    inr (inl (word.now, refl, subst (λ e. TellsOfNames word.now status e err') quiet ends))

-- words that name a printer or a fleet, of which each names one, name some printer
pub some_printer : {S : Type 0} (printers fleets : List (Bor (List ℕ))) (of_fleets : List S) (bytes : S → List ℕ)
    (all : List (Bor (List ℕ)))
    → printers ++ fleets ≢ [] → length (map (λ word. word.now) fleets) ≤ length (map bytes of_fleets)
    → map (λ word. word.now) all ≡ map (λ word. word.now) printers ++ map bytes of_fleets → all ≢ []
some_printer printers fleets of_fleets bytes all some counted are none =
    let now : Bor (List ℕ) → List ℕ = λ word. word.now in
    let each : length fleets ≤ length of_fleets = simp length-map at counted in
    let lengths : length all ≡ length printers + length of_fleets =
    simp (length-append, length-map) at (ap length are) in
    let nothing : length all ≡ 0 = ap length none in
    some (nil_from_length (printers ++ fleets) (simp length-append (omega arith)))
