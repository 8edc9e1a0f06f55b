-- Jobs that are tallied one behind another, and what is told of that.
use Rattle.std.proofs.Common.{◌≡◌, ◌⊎◌, ℕ, ◌+◌, ◌<◌, ◌≤◌, List, [], ◌∷◌, ◌++◌, length, map, take, get_or, true, false, refl, ap, sym, subst}
use Rattle.std.proofs.Common.{◌∙◌, IfErr, OnOk, Result, drop, suc, inl, inr, arith, length-take-le}
use Rattle.std.proofs.Math.Seq.{split_at}
use Rattle.std.proofs.lemmas.Result.{IfErr-weaker, on_ok_weaker}
use Rattle.std.proofs.lemmas.List.{length-map, map-append, map_more, take_all}
use Rattle.streams.specs.declared.error.Error.{Error}
use Rattle.streams.specs.declared.error.Error.TheVariants.{Memory, Read, Write, Turns, NoProfile, Items}
use Rattle.streams.specs.Ended.{JobRead, job_read}
use Rattle.streams.specs.Outlet.{OutletState, Adds, AddsFront}
use Rattle.streams.specs.Source.{SourceState}
use Rattle.streams.specs.Writing.{Writes}
use Rattle.requests.specs.declared.many_words.Form.{Form}
use Rattle.requests.specs.declared.status.Status.{Status}
use Rattle.requests.specs.declared.status.Status.TheVariants.{Help, Stopped}
use Rattle.survey.specs.Surveys.{IsErrorOfSurvey, IsTallied}
use Rattle.survey.specs.Tally.{Tally, no_refusals}
use Rattle.survey.specs.Command.{AreTallied, EndsUnsurveyed, IsNextTallied, IsStop, LeavesSurvey, StopsAmong, StopsAt}
use Rattle.survey.specs.Command.{WritesSurvey, survey_text}

-- ---- one job

pub job_is_next : (start : List ℕ → SourceState) (name word : List ℕ) (before state : SourceState) (ended ended' : List JobRead)
    (number : ℕ) (old new : Tally) → word ≡ name → before ≡ start word → ended' ≡ ended ++ job_read word state ∷ [] →
    IsTallied before state number old new → IsNextTallied start name ended ended' number old new
job_is_next start name word before state ended ended' number old new word_is begun ends h = (
  state,
  subst (λ (n : List ℕ). ended' ≡ ended ++ job_read n state ∷ []) word_is ends,
  subst (λ (s : SourceState). IsTallied s state number old new) (begun ∙ ap start word_is) h,
)

pub jobs_next : {E : Type 0} (r : Result (Unit {0}) E) (start : List ℕ → SourceState) (name word : List ℕ)
    (before state : SourceState) (ended ended' : List JobRead) (number : ℕ) (old new : Tally) → word ≡ name → before ≡ start word →
    ended' ≡ ended ++ job_read word state ∷ [] → OnOk r (IsTallied before state number old new) →
    OnOk r (IsNextTallied start name ended ended' number old new)
jobs_next r start name word before state ended ended' number old new word_is begun ends h =
    on_ok_weaker r (job_is_next start name word before state ended ended' number old new word_is begun ends) h

-- an error that is no failed read stops the work
pub error_stops : (error : Error) → IsErrorOfSurvey error → (error ≡ Read → ⊥) → IsStop (Stopped error)
error_stops Memory h other = tt
error_stops Read h other = absurd (other refl)
error_stops Turns h other = tt
error_stops Write h other = absurd h
error_stops NoProfile h other = absurd h
error_stops Items h other = absurd h

-- ---- one job behind another

-- one more
pub tallied_more : (start : List ℕ → SourceState) (names : List (List ℕ)) (name : List ℕ) (ended between ended' : List JobRead)
    (number : ℕ) (old mid new : Tally) → AreTallied start names ended between number old mid →
    IsNextTallied start name between ended' (number + length names) mid new →
    AreTallied start (names ++ name ∷ []) ended ended' number old new
tallied_more start [] name ended between ended' number old mid new h next =
    let first : IsNextTallied start name ended ended' (number + 0) old new =
    subst (λ (tally : Tally). IsNextTallied start name ended ended' (number + 0) tally new) h.1
    (subst (λ (states : List JobRead). IsNextTallied start name states ended' (number + 0) mid new) h.0 next) in
    let same : number + 0 ≡ number = omega arith in
    (ended', new, subst (λ n. IsNextTallied start name ended ended' n old new) same first, (refl, refl))
tallied_more start (other ∷ names) name ended between ended' number old mid new h next =
    let same : number + length (other ∷ names) ≡ number + 1 + length names = omega arith in
    let behind : IsNextTallied start name between ended' (number + 1 + length names) mid new =
    subst (λ n. IsNextTallied start name between ended' n mid new) same next in
    (h.0, h.1, h.2, tallied_more start names name h.0 between ended' (number + 1) h.1 mid new h.3 behind)

-- one more of a list
pub tallied_next : {X : Type 0} (start begun : List ℕ → SourceState) (f : X → List ℕ) (xs : List X) (i : ℕ) (d : X)
    (ended between ended' : List JobRead) (old mid new : Tally) → i < length xs → begun ≡ start →
    AreTallied start (map f (take i xs)) ended between 0 old mid → IsNextTallied begun (f (get_or xs i d)) between ended' i mid new →
    AreTallied start (map f (take (i + 1) xs)) ended ended' 0 old new
tallied_next start begun f xs i d ended between ended' old mid new within same h next =
    let front : List (List ℕ) = map f (take i xs) in
    let name : List ℕ = f (get_or xs i d) in
    let size : i ≡ 0 + length front = omega (arith, length-map (take i xs) f, length-take-le i xs (omega arith)) in
    let from : IsNextTallied start name between ended' i mid new =
    subst (λ (s : List ℕ → SourceState). IsNextTallied s name between ended' i mid new) same next in
    let here : IsNextTallied start name between ended' (0 + length front) mid new =
    subst (λ (n : ℕ). IsNextTallied start name between ended' n mid new) size from in
    subst (λ (names : List (List ℕ)). AreTallied start names ended ended' 0 old new) (sym (map_more f xs i d within))
    (tallied_more start front name ended between ended' 0 old mid new h here)

-- all of it
pub tallied_all : {X : Type 0} (start : List ℕ → SourceState) (f : X → List ℕ) (xs : List X) (i : ℕ) (ended ended' : List JobRead)
    (old new : Tally) → length xs ≤ i → AreTallied start (map f (take i xs)) ended ended' 0 old new →
    AreTallied start (map f xs) ended ended' 0 old new
tallied_all {X} start f xs i ended ended' old new h =
    subst (λ (ys : List X). AreTallied start (map f ys) ended ended' 0 old new) (take_all i xs h)

-- one of the list was not surveyed
pub stops_among : {X : Type 0} (start : List ℕ → SourceState) (f : X → List ℕ) (xs : List X) (i : ℕ) (d : X) (old mid : Tally)
    (status : Status) (ended between ended' : List JobRead) (err quiet err' : OutletState) → i < length xs → quiet ≡ err →
    AreTallied start (map f (take i xs)) ended between 0 old mid →
    EndsUnsurveyed (f (get_or xs i d)) status between ended' quiet err' →
    StopsAmong start (map f xs) old status ended ended' err err'
stops_among {X} start f xs i d old mid status ended between ended' err quiet err' within same tallied ends =
    let name : List ℕ = f (get_or xs i d) in
    let whole : map f xs ≡ map f (take i xs) ++ name ∷ map f (drop (suc i) xs) =
    ap (map f) (split_at xs i d within) ∙ map-append f (take i xs) (get_or xs i d ∷ drop (suc i) xs) in (
      map f (take i xs),
      map f (drop (suc i) xs),
      name,
      between,
      mid,
      whole,
      tallied,
      subst (λ (begun : OutletState). EndsUnsurveyed name status between ended' begun err') same ends,
    )

-- it was ended
pub stops_next : {T : Type 0} (r : Result T Status) (name word : List ℕ) (state : SourceState) (ended ended' : List JobRead)
    (err err' : OutletState) → word ≡ name → ended' ≡ ended ++ job_read word state ∷ [] →
    IfErr r (λ status. StopsAt name status err err') → IfErr r (λ status. EndsUnsurveyed name status ended ended' err err')
stops_next r name word state ended ended' err err' word_is ends h =
    IfErr-weaker r (λ status. StopsAt name status err err') (λ status. EndsUnsurveyed name status ended ended' err err')
    (λ status stops. (state, subst (λ (n : List ℕ). ended' ≡ ended ++ job_read n state ∷ []) word_is ends, stops)) h

-- ---- what is written

pub written_whole : (text : List ℕ) (out out' : OutletState) → Writes out out' text → out'.failed ≡ false → WritesSurvey text Help out out'
written_whole text out out' written working = (working, written.whole working)

pub written_in_part : (text : List ℕ) (out out' : OutletState) → Writes out out' text → out'.failed ≡ true →
    WritesSurvey text (Stopped Write) out out'
written_in_part text out out' written failed = (failed, written.front)

-- all jobs were surveyed
pub survey_left : (form : Form) (names : List (List ℕ)) (start : List ℕ → SourceState) (status : Status)
    (ended ended' : List JobRead) (out out' err err' : OutletState) (old new table : Tally) → old ≡ no_refusals → table ≡ new →
    AreTallied start names ended ended' 0 old new →
    WritesSurvey (survey_text form names table) status out out' → err' ≡ err →
    LeavesSurvey form names start status ended ended' out out' err err'
survey_left form names start status ended ended' out out' err err' old new table none table_is tallied written quiet =
    inl (
      new,
      subst (λ (t : Tally). AreTallied start names ended ended' 0 t new) none tallied,
      subst (λ (t : Tally). WritesSurvey (survey_text form names t) status out out') table_is written,
      quiet,
    )

-- one of them was not
pub stopped_of_none : (start : List ℕ → SourceState) (names : List (List ℕ)) (old : Tally) (status : Status)
    (ended ended' : List JobRead) (err err' : OutletState) → old ≡ no_refusals →
    StopsAmong start names old status ended ended' err err' → StopsAmong start names no_refusals status ended ended' err err'
stopped_of_none start names old status ended ended' err err' none stopped =
    subst (λ (tally : Tally). StopsAmong start names tally status ended ended' err err') none stopped
