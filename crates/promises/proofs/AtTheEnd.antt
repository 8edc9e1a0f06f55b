-- A Pass tells that the end was read: bytes that may go on may go on, or end, with a fault.
use Rattle.std.proofs.Common.{◌≡◌, ℕ, zero, suc, ◌+◌, ◌<◌, List, [], ◌∷◌, ◌++◌, drop, true, false, Option, None, Some, refl, ap, sym, ◌∙◌}
use Rattle.std.proofs.Common.{subst, append-nil, arith, inl, inr}
use Rattle.pcl_items.specs.declared.fault.LexCause.{LexCause}
use Rattle.pcl_items.specs.declared.fault.LexCause.TheVariants.{NotInProfile}
use Rattle.pcl_items.specs.declared.fault.Name.TheVariants as names
use Rattle.pcl_lexer.specs.Lexing.Contexts.{Context, Pcl, item_place}
use Rattle.pcl_items.specs.Items.{Placed, at}
use Rattle.pcl_lexer.specs.Reader.{First, Open, Passes, Begins, Faulty, first_of}
use Rattle.pcl_lexer.specs.Fault.{end_cause, IsFault}
use Rattle.pcl_lexer.specs.Reading.{Reading, Stopped, IsReading, ReadsTo, here, passes, begins, left}
use Rattle.pcl_lexer.specs.Laws.{HasOneReading}
use Rattle.pcl_lexer.proofs.Lexing.Decided.{stays_decided}
use Rattle.pcl_lexer.proofs.Frames.Opening.{Opened, refuses, completes, opened}
use Rattle.pcl_lexer.proofs.Reading.Readings.{whole_end}
use Rattle.pcl_lexer.proofs.Reading.ReadsTo.{grows}
use Rattle.pcl_lexer.proofs.Lexing.Spans.{begins-taken, passes-taken}
use Rattle.pcl_lexer.proofs.Reading.Stopping.{read_by_rules}
use Rattle.device_profile.specs.Printer.{Printer}
use Rattle.page_machine.specs.Event.{Event}
use Rattle.page_machine.specs.Job.{events_of}
use Rattle.verdict.specs.declared.verdict.Verdict.TheVariants.{Pass}
use Rattle.streams.specs.Pieces.{ByReads, HasEnd}
use Rattle.streams.specs.Source.{SourceState}
use Rattle.judgement.specs.Wrong.{Wrong, first_run, first_wrong}
use Rattle.judgement.specs.Verdict.{IsExact, verdict_by, verdict_of, runs_of}
use Rattle.streams.proofs.Pieces.{ended_or_open}
use Rattle.preflight.proofs.StillOpen.{byte_0, behind_whole}

-- ---- how far bytes are read that may go on

-- nothing is decided there, or a fault
abbrev IsStill : First → Type 0
IsStill Open = Unit {0}
IsStill (Passes len next) = ⊥
IsStill (Begins entry len next) = ⊥
IsStill (Faulty cause) = Unit {0}

record ReadUpTo (c : Context) (p : ℕ) (bytes : List ℕ) : Type 0 where
  items : List Placed
  context : Context
  place : ℕ
  rest : List ℕ
  reads : ReadsTo false c p bytes items context place rest
  still : IsStill (first_of false context rest)

-- behind what stands first
step_on : (c : Context) (p : ℕ) (bytes : List ℕ) (f : First) → first_of false c bytes ≡ f →
    ((next : Context) (len : ℕ) → left next (drop len bytes) < left c bytes → ReadUpTo next (p + len) (drop len bytes)) → ReadUpTo c p bytes
step_on c p bytes Open e more = record { items = []; context = c; place = p; rest = bytes; reads = here; still = subst IsStill (sym e) tt }
step_on c p bytes (Passes len next) e more =
    let r = more next len (passes-taken false c bytes len next e).less in
    record { items = r.items; context = r.context; place = r.place; rest = r.rest; reads = passes len next e r.reads; still = r.still }
step_on c p bytes (Begins entry len next) e more =
    let r = more next len (begins-taken false c bytes entry len next e).less in
    record {
      items = at (item_place c p) entry ∷ r.items;
      context = r.context;
      place = r.place;
      rest = r.rest;
      reads = begins entry len next e r.reads;
      still = r.still;
    }
step_on c p bytes (Faulty cause) e more =
    record { items = []; context = c; place = p; rest = bytes; reads = here; still = subst IsStill (sym e) tt }

read_up_to : (n : ℕ) (c : Context) (p : ℕ) (bytes : List ℕ) → left c bytes < n → ReadUpTo c p bytes
read_up_to zero c p bytes h = absurd (omega arith)
read_up_to (suc n) c p bytes h =
    step_on c p bytes (first_of false c bytes) refl (λ next len less. read_up_to n next (p + len) (drop len bytes) (omega (arith, less, h)))

-- a reading that stops is passed by no fleet
fail_by : (wrong : Option Wrong) (items : List Placed) (place : ℕ) (cause : LexCause) (events : List Event) (pages marks : ℕ) →
    Pass pages marks ≡ verdict_by wrong (Stopped items place cause) events → ⊥
fail_by (Some w) items place cause events pages marks e = absurd cc
fail_by None items place cause events pages marks e = absurd cc

stopped_fails : (fleet : List Printer) (items : List Placed) (place : ℕ) (cause : LexCause) (pages marks : ℕ) →
    Pass pages marks ≡ verdict_of fleet (Stopped items place cause) → ⊥
stopped_fails fleet items place cause pages marks e =
    let runs = runs_of fleet (Stopped items place cause) in
    fail_by (first_wrong runs) items place cause (events_of (first_run runs)) pages marks e

module _ (fleet : List Printer) (bytes : List ℕ) (pages marks : ℕ) (one : (job : List ℕ) → HasOneReading job)
    (known : (more : List ℕ) → IsExact fleet (bytes ++ more) (Pass pages marks)) where
  abbrev so_far : ReadUpTo Pcl 0 bytes
  so_far = read_up_to (suc (left Pcl bytes)) Pcl 0 bytes (omega arith)

  -- with these bytes behind them no fault stands there
  no_fault : (more : List ℕ) (cause : LexCause) →
      IsFault true (first_of true so_far.context (so_far.rest ++ more)) so_far.context (so_far.rest ++ more) cause → ⊥
  no_fault more cause fault =
      let job : List ℕ = bytes ++ more in
      let reading : Reading = Stopped so_far.items (item_place so_far.context so_far.place) cause in
      let stops : IsReading job reading = (read_by_rules job reading).sound (record {
        last = so_far.context;
        end = so_far.place;
        rest = so_far.rest ++ more;
        reads = grows true more refl so_far.reads;
        at_end = refl;
        fault = fault;
      }) in
      let exact = known more in
      let same : exact.0 ≡ reading = (one job).only exact.0 exact.1 ∙ sym ((one job).only reading stops) in
      stopped_fails fleet so_far.items (item_place so_far.context so_far.place) cause pages marks (exact.2 ∙ ap (verdict_of fleet) same)

  faulty_fails : (cause : LexCause) → first_of false so_far.context so_far.rest ≡ Faulty cause → ⊥
  faulty_fails cause e =
      let stays : first_of true so_far.context (so_far.rest ++ []) ≡ Faulty cause =
      stays_decided so_far.context so_far.rest true [] (λ o. let both : Open ≡ Faulty cause = sym o ∙ e in absurd cc) ∙ e in
      no_fault [] cause (subst (λ (f : First). IsFault true f so_far.context (so_far.rest ++ []) cause) (sym stays) refl)

  end_fails : (o : Option LexCause) → end_cause so_far.context so_far.rest ≡ o → first_of true so_far.context so_far.rest ≡ Open → ⊥
  end_fails (Some cause) at_end e =
      let ends = subst (λ (f : First). IsFault true f so_far.context so_far.rest cause) (sym e) at_end in
      no_fault [] cause
      (subst (λ (l : List ℕ). IsFault true (first_of true so_far.context l) so_far.context l cause) (sym (append-nil so_far.rest)) ends)
  end_fails None at_end e =
      let whole = whole_end so_far.context so_far.rest at_end in
      no_fault (0 ∷ []) (NotInProfile (names.Byte 0))
      (behind_whole so_far.context so_far.rest (0 ∷ []) (NotInProfile (names.Byte 0)) whole.1 (byte_0 so_far.context whole.0))

  opened_fails : Opened so_far.context so_far.rest → ⊥
  opened_fails (refuses more r ending) =
      no_fault more r.cause (subst (λ (f : First). IsFault true f so_far.context (so_far.rest ++ more) r.cause) (sym r.is) refl)
  opened_fails (completes more entry len next e is_open) = end_fails (end_cause so_far.context so_far.rest) refl is_open

  still_fails : (f : First) → first_of false so_far.context so_far.rest ≡ f → IsStill f → ⊥
  still_fails Open e h = opened_fails (opened so_far.context so_far.rest e)
  still_fails (Passes len next) e h = h
  still_fails (Begins entry len next) e h = h
  still_fails (Faulty cause) e h = faulty_fails cause e

  not_all_pass : ⊥
  not_all_pass = still_fails (first_of false so_far.context so_far.rest) refl so_far.still

pub pass_is_ended : ((bytes : List ℕ) → HasOneReading bytes) → (fleet : List Printer) (old new : SourceState) (pages marks : ℕ) →
    ByReads old new (λ job. IsExact fleet job (Pass pages marks)) → HasEnd old new
pass_is_ended one fleet old new pages marks by =
    elim (ended_or_open by.pieces) [
      | inl ended ↦ (ended.0, ended.1, by.given ∙ ap (λ ps. old.given ++ ps) ended.2)
      | inr open_ ↦ absurd (not_all_pass fleet open_.0 pages marks one (λ more. by.each (open_.0 ++ more) (open_.1 more)))
    ]
