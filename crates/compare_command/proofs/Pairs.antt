-- What is told of one pair of jobs after another.
use Rattle.std.proofs.Common.{◌≡◌, ◌+◌, ◌<◌, ◌≤◌, ℕ, List, ◌∷◌, length, map, drop, get_or, Result, Ok, Err, IfOk, IfErr, OnOk}
use Rattle.std.proofs.Common.{IsFalse, IsTrue, Option, ap, inl, inr, refl, subst, sym, ◌∙◌}
use Rattle.std.proofs.lemmas.List.{drop_all, drop_more}
use Rattle.device_profile.specs.Printer.{Printer}
use Rattle.streams.specs.declared.error.Error.{Error}
use Rattle.streams.specs.declared.error.Error.TheVariants.{Write}
use Rattle.streams.specs.Ended.{JobRead}
use Rattle.streams.specs.Outlet.{Adds, AddsFront}
use Rattle.streams.specs.Source.{SourceState}
use Rattle.requests.specs.declared.status.Status.{Status}
use Rattle.requests.specs.declared.status.Status.TheVariants.{Stopped}
use Rattle.many_jobs.specs.JobChecks.{Work}
use Rattle.comparison.specs.declared.compare.Which.{Which}
use Rattle.compare_command.specs.declared.asked.JobPair.{JobPair}
use Rattle.compare_command.specs.declared.found.Found.{Found}
use Rattle.compare_command.specs.declared.golden.Ending.{Ending}
use Rattle.compare_command.specs.declared.golden.Ending.TheVariants.{HasNoVerdict}
use Rattle.compare_command.specs.declared.golden.PairTold.{PairTold}
use Rattle.compare_command.specs.Compare.{Asked, FindsFor, StopsJobs, telling_of}
use Rattle.compare_command.specs.Golden.{Golden, IsCut, IsTold, LeavesPairs, TellsPair, asked_by, ending_of, names_of}
use Rattle.compare_command.specs.Golden.{status_at, stop_text, worse}
use Rattle.compare_command.specs.Outcomes.{same_counts}
use Rattle.compare_command.specs.Telling.{found_text}

-- ---- the text of a pair

pub of_found : {E : Type 0} (r : Result PairTold E) (asked : Asked) (fleet : List Printer) (names given : List (List ℕ))
    (start : List ℕ → SourceState) (ended ended' : List JobRead) (found : Found) → given ≡ names →
    FindsFor asked fleet start found ended ended' →
    IfOk r (λ told. told.text.items ≡ found_text (telling_of asked given) found.number found.outcome) →
    IfOk r (λ told. told.ending ≡ ending_of (same_counts found.outcome)) →
    IfOk r (λ told. TellsPair asked fleet names start ended ended' told.text.items told.ending)
of_found (Ok told) asked fleet names given start ended ended' found names_are finds text_is counts =
    inl (record {
      found = found;
      finds = finds;
      text_is = text_is ∙ ap (λ (n : List (List ℕ)). found_text (telling_of asked n) found.number found.outcome) names_are;
      counts = counts;
    })
of_found (Err e) asked fleet names given start ended ended' found names_are finds text_is counts = tt

pub of_stop : {E : Type 0} (r : Result PairTold E) (asked : Asked) (fleet : List Printer) (names given : List (List ℕ))
    (start : List ℕ → SourceState) (ended ended' : List JobRead) (which : Which) (error : Error) → given ≡ names →
    StopsJobs asked.old_name asked.new_name which error ended ended' →
    IfOk r (λ told. (cause : Option (List ℕ)) × (told.text.items ≡ stop_text asked given which error cause)) →
    IfOk r (λ told. told.ending ≡ HasNoVerdict) →
    IfOk r (λ told. TellsPair asked fleet names start ended ended' told.text.items told.ending)
of_stop (Ok told) asked fleet names given start ended ended' which error names_are stops text_is counts =
    inr (record {
      which = which;
      error = error;
      cause = text_is.0;
      stops = stops;
      text_is = text_is.1 ∙ ap (λ (n : List (List ℕ)). stop_text asked n which error text_is.0) names_are;
      counts = counts;
    })
of_stop (Err e) asked fleet names given start ended ended' which error names_are stops text_is counts = tt

-- ---- written

module _ (asked : Asked) (fleet : List Printer) (names : List (List ℕ)) (start : List ℕ → SourceState) (old new : Work)
    (text given : List ℕ) (ending : Ending) (given_is : given ≡ text)
    (tells : TellsPair asked fleet names start old.ended new.ended text ending) where
  pub pair_told : (r : Result Ending Error) → IfOk r (λ written. written ≡ ending) → OnOk r (Adds old.out new.out given) →
      IfOk r (λ written. IsTold asked fleet names start written old new)
  pair_told (Ok written) is adds = record {
    text = text;
    tells = subst (λ e. TellsPair asked fleet names start old.ended new.ended text e) (sym is) tells;
    written = subst (λ t. Adds old.out new.out t) given_is adds;
  }
  pair_told (Err error) is adds = tt

  pub pair_cut : (r : Result Ending Error) → IfErr r (λ error. error ≡ Write) → IfErr r (λ error. IsTrue new.out.failed) →
      IfErr r (λ error. AddsFront old.out new.out given) → IfErr r (λ error. IsCut error asked fleet names start old new)
  pair_cut (Ok written) is failed front = tt
  pair_cut (Err error) is failed front =
      subst (λ e. IsCut e asked fleet names start old new) (sym is)
      (text, ending, tells, failed, subst (λ t. AddsFront old.out new.out t) given_is front)

-- ---- one pair after another

module _ (golden : Golden) (fleet : List Printer) (names : List (List ℕ)) (start begun : List ℕ → SourceState)
    (same : begun ≡ start) (pairs : List JobPair) (i : ℕ) (d : JobPair) (inside : i < length pairs) (asked : Asked)
    (asked_is : asked ≡ asked_by golden (names_of (get_or pairs i d))) (ending : Ending) (old : Work) where
  rest_is : map names_of (drop i pairs) ≡ names_of (get_or pairs i d) ∷ map names_of (drop (i + 1) pairs)
  rest_is = ap (map names_of) (drop_more pairs i d inside)

  -- the pair is told, and it goes on with the next
  pub told_more : (told : Ending) (between : Work) → IsTold asked fleet names begun told old between → (ending' : Ending) →
      ending' ≡ worse ending told → (status : Status) (new : Work) →
      LeavesPairs golden fleet names start (map names_of (drop (i + 1) pairs)) ending' status between new →
      LeavesPairs golden fleet names start (map names_of (drop i pairs)) ending status old new
  told_more told between is_told ending' ending_is status new on =
      subst (λ rest. LeavesPairs golden fleet names start rest ending status old new) (sym rest_is)
      (inl (
        told,
        between,
        subst (λ (a : Asked). IsTold a fleet names start told old between) asked_is
            (subst (λ (s : List ℕ → SourceState). IsTold asked fleet names s told old between) same is_told),
        subst (λ (e : Ending). LeavesPairs golden fleet names start (map names_of (drop (i + 1) pairs)) e status between new)
            ending_is on,
      ))

  -- its text is cut, and it is over
  pub cut_here : (error : Error) (new : Work) → IsCut error asked fleet names begun old new →
      LeavesPairs golden fleet names start (map names_of (drop i pairs)) ending (Stopped error) old new
  cut_here error new is_cut =
      subst (λ rest. LeavesPairs golden fleet names start rest ending (Stopped error) old new) (sym rest_is)
      (inr (
        error,
        subst (λ (a : Asked). IsCut error a fleet names start old new) asked_is
            (subst (λ (s : List ℕ → SourceState). IsCut error asked fleet names s old new) same is_cut),
        refl,
      ))

-- there is no pair more
pub told_all : (golden : Golden) (fleet : List Printer) (names : List (List ℕ)) (start : List ℕ → SourceState)
    (pairs : List JobPair) (i : ℕ) (ending : Ending) (status : Status) (old : Work) → length pairs ≤ i → status ≡ status_at ending →
    IsFalse old.out.failed → LeavesPairs golden fleet names start (map names_of (drop i pairs)) ending status old old
told_all golden fleet names start pairs i ending status old over ends working =
    subst (λ (rest : List JobPair). LeavesPairs golden fleet names start (map names_of rest) ending status old old)
    (sym (drop_all i pairs over)) (ends, working, refl)
