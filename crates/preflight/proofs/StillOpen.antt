-- Bytes that decide no further item and no fault leave the verdict open: they go on in two ways.
use Rattle.std.proofs.Common.{◌≡◌, ◌+◌, ◌≤◌, ◌<◌, ℕ, Bool, true, false, List, Option, None, Some, [], ◌∷◌, ◌++◌, refl, ap, sym, ◌∙◌, subst}
use Rattle.std.proofs.Common.{append-nil, arith}
use Rattle.pcl_items.specs.declared.fault.LexCause.{LexCause}
use Rattle.pcl_items.specs.declared.fault.LexCause.TheVariants.{NotInProfile}
use Rattle.pcl_items.specs.declared.fault.Name.TheVariants as names
use Rattle.pcl_lexer.specs.Lexing.Contexts.{Context, Pcl, Sequence, Frame, Letters, Numbered, Pjl, Single, Odd, Even, counted, item_place}
use Rattle.pcl_lexer.specs.Lexing.Contexts.{MayEndAt}
use Rattle.pcl_items.specs.Items.{Entry, Placed}
use Rattle.pcl_lexer.specs.Reader.{First, Open, Begins, first_of}
use Rattle.pcl_lexer.specs.Fault.{end_cause, IsFault}
use Rattle.pcl_lexer.specs.Laws.{HasOneReading}
use Rattle.pcl_lexer.specs.Lexing.State.{LexerState, WantsMore}
use Rattle.pcl_lexer.specs.Lexing.Meaning.{HasRead}
use Rattle.pcl_lexer.specs.Reading.{Reading, Stopped, IsReading, items_of, ReadsTo, here, passes, begins, IsReadFrom}
use Rattle.pcl_lexer.proofs.Frames.Opening.{Refuses, IsEnding, Opened, refuses, completes, opened}
use Rattle.pcl_lexer.proofs.Reading.Readings.{one_only, one_reading, fault_last, whole_end}
use Rattle.pcl_lexer.proofs.Reading.ReadsTo.{ReadsTo-append, closes, grows, behind_front}
use Rattle.pcl_lexer.proofs.Lexing.Spans.{begins-taken, passes-taken}
use Rattle.pcl_lexer.proofs.Lexing.Steps.{open_end, with_items, read_behind, behind_end}
use Rattle.pcl_lexer.proofs.Reading.Stopping.{read_by_rules}
use Rattle.device_profile.specs.Printer.{Printer}
use Rattle.page_machine.specs.MachineState.{MachineState}
use Rattle.sinks.specs.declared.counts.Counts.{Counts}
use Rattle.verdict.specs.declared.reason.Reason.TheVariants.{Fault as FaultOfBytes}
use Rattle.verdict.specs.declared.verdict.Verdict.{Verdict}
use Rattle.verdict.specs.declared.verdict.Verdict.TheVariants.{Fail}
use Rattle.streams.specs.Pieces.{MayBeBy, Spell}
use Rattle.judgement.specs.Verdict.{IsExact, IsFirst, LeavesOpen, verdict_of}
use Rattle.preflight.specs.Carriers.Checking.{HasExecuted}
use Rattle.preflight.proofs.Answered.{is_all}
use Rattle.preflight.proofs.Completed.{item_takes}
use Rattle.preflight.proofs.FaultVerdicts.{stops_there}
use Rattle.preflight.proofs.Fleets.{bytes_faulty}

-- ---- places

-- what is read leads on
ahead : {w : Bool} {c d : Context} {p q : ℕ} {bytes rest : List ℕ} {items : List Placed} → ReadsTo w c p bytes items d q rest →
    p + counted d ≤ q + counted c
ahead here = omega arith
ahead (passes {whole = w} {context = c} {bytes = bytes} len next e h) = omega (arith, ahead h, (passes-taken w c bytes len next e).counts)
ahead (begins {whole = w} {context = c} {bytes = bytes} entry len next e h) =
    omega (arith, ahead h, (begins-taken w c bytes entry len next e).counts)

-- an item stands before the place where it is read by what is counted
counted_back : (c : Context) (q : ℕ) → q ≤ item_place c q + counted c
counted_back Pcl q = omega arith
counted_back (Sequence g) q = omega arith
counted_back Frame q = omega arith
counted_back (Letters m n) q = omega arith
counted_back (Numbered (Single s a) gap n) q = omega arith
counted_back (Numbered (Odd motion x) gap n) q = omega arith
counted_back (Numbered (Even motion) gap n) q = omega arith
counted_back Pjl q = omega arith

-- where an item begins that takes more bytes than are counted behind it, the bytes do not stop
no_stop : (bytes : List ℕ) (items more_items : List Placed) (c : Context) (place : ℕ) (rest : List ℕ) (entry : Entry) (len : ℕ)
    (next : Context) (cause : LexCause) → item_place c place + counted next < place + len → ReadsTo true Pcl 0 bytes items c place rest →
    first_of true c rest ≡ Begins entry len next → IsReadFrom Pcl 0 bytes (Stopped more_items (item_place c place) cause) → ⊥
no_stop bytes items more_items c place rest entry len next cause takes reads e stops =
    let front = ReadsTo-append reads (begins entry len next e here) in
    let behind = behind_front front stops.reads (fault_last stops.last stops.rest cause stops.fault) in
    absurd (omega (arith, ahead behind.reads, counted_back stops.last stops.end, takes, stops.at_end))

-- ---- verdicts

-- a job has one verdict
one_verdict : (fleet : List Printer) (job : List ℕ) (a b : Verdict) → IsExact fleet job a → IsFirst fleet job b → a ≡ b
one_verdict fleet job a b first second =
    let one : HasOneReading job = one_reading job in
    first.2 ∙ ap (verdict_of fleet) (one.only first.0 first.1 ∙ sym (one.only second.0 second.1)) ∙ sym second.2

one_cause : (place : ℕ) (a b : LexCause) → Fail place 0 (FaultOfBytes a) ≡ Fail place 0 (FaultOfBytes b) → a ≡ b
one_cause place a b e = cc

one_byte : (a b : ℕ) → NotInProfile (names.Byte a) ≡ NotInProfile (names.Byte b) → a ≡ b
one_byte a b e = cc

-- two bytes that are no items where a job may end
pub byte_0 : (c : Context) → MayEndAt c → IsFault true (first_of true c (0 ∷ [])) c (0 ∷ []) (NotInProfile (names.Byte 0))
unfolding first_of
byte_0 Pcl ends = refl
byte_0 Pjl ends = refl
byte_0 (Sequence g) ends = absurd ends
byte_0 Frame ends = absurd ends
byte_0 (Letters m n) ends = absurd ends
byte_0 (Numbered x gap n) ends = absurd ends

byte_1 : (c : Context) → MayEndAt c → IsFault true (first_of true c (1 ∷ [])) c (1 ∷ []) (NotInProfile (names.Byte 1))
unfolding first_of
byte_1 Pcl ends = refl
byte_1 Pjl ends = refl
byte_1 (Sequence g) ends = absurd ends
byte_1 Frame ends = absurd ends
byte_1 (Letters m n) ends = absurd ends
byte_1 (Numbered x gap n) ends = absurd ends

-- behind whole items
pub behind_whole : (c : Context) (rest more : List ℕ) (cause : LexCause) → rest ≡ [] → IsFault true (first_of true c more) c more cause →
    IsFault true (first_of true c (rest ++ more)) c (rest ++ more) cause
behind_whole c rest more cause f h = subst (λ (l : List ℕ). IsFault true (first_of true c (l ++ more)) c (l ++ more) cause) (sym f) h

module _ (fleet : List Printer) (bytes : List ℕ) (lexer : LexerState) (machines : List MachineState) (counts : Counts)
    (executed : HasExecuted fleet bytes lexer machines counts) (goes_on : lexer.ended ≡ false) where
  abbrev place_here : ℕ
  place_here = item_place lexer.context lexer.place

  -- the bytes, and behind them these, which make a fault
  fault_behind : (more : List ℕ) (cause : LexCause) →
      IsFault true (first_of true lexer.context (lexer.rest ++ more)) lexer.context (lexer.rest ++ more) cause →
      IsFirst fleet (bytes ++ more) (Fail place_here 0 (FaultOfBytes cause))
  fault_behind more cause fault =
      let all : List ℕ = bytes ++ more in
      let behind : LexerState =
      record { rest = lexer.rest ++ more; place = lexer.place; context = lexer.context; ended = true; held = 0 } in
      let reads : HasRead behind all executed.items = record { reads = grows true more goes_on executed.reads.reads } in
      let reading : Reading = Stopped executed.items place_here cause in
      let there : IsReadFrom Pcl 0 all reading =
      record { last = lexer.context; end = lexer.place; rest = lexer.rest ++ more; reads = reads.reads; at_end = refl; fault = fault } in
      let is : IsReading all reading = (read_by_rules all reading).sound there in
      bytes_faulty fleet all behind machines counts
      (record {
        some = executed.some;
        items = executed.items;
        reads = reads;
        done = executed.done;
        agreed = executed.agreed;
        counts_are = executed.counts_are;
        along = executed.along;
      })
      true place_here cause
      (λ job may. subst (λ (j : List ℕ). IsReading j reading) (sym (may.1 ∙ ap (λ rest. all ++ rest) (may.2 refl) ∙ append-nil all)) is)
      all (is_all true all)

  module _ (verdict : Verdict) (known : (more : List ℕ) → IsExact fleet (bytes ++ more) verdict) where
    -- so the verdict is that fault
    is_fault : (more : List ℕ) (cause : LexCause) →
        IsFault true (first_of true lexer.context (lexer.rest ++ more)) lexer.context (lexer.rest ++ more) cause →
        verdict ≡ Fail place_here 0 (FaultOfBytes cause)
    is_fault more cause fault =
        one_verdict fleet (bytes ++ more) verdict (Fail place_here 0 (FaultOfBytes cause)) (known more) (fault_behind more cause fault)

    -- and all bytes that the job may have stop at it
    stops_here : (cause : LexCause) → verdict ≡ Fail place_here 0 (FaultOfBytes cause) → (job : List ℕ) → IsExact fleet job verdict →
        (items : List Placed) × IsReadFrom Pcl 0 job (Stopped items place_here cause)
    stops_here cause is job exact =
        let fails : IsExact fleet job (Fail place_here 0 (FaultOfBytes cause)) = subst (IsExact fleet job) is exact in
        let stopped : fails.0 ≡ Stopped (items_of fails.0) place_here cause = stops_there fleet fails.0 place_here cause fails.2 in
        let reading : IsReading job (Stopped (items_of fails.0) place_here cause) =
        subst (λ (r : Reading). IsReading job r) stopped fails.1 in
        (items_of fails.0, (read_by_rules job (Stopped (items_of fails.0) place_here cause)).complete reading)

    -- they may go on to a fault, and end with another or none
    not_refused : (more : List ℕ) → Refuses (first_of true lexer.context (lexer.rest ++ more)) →
        IsEnding lexer.rest (first_of true lexer.context lexer.rest) → ⊥
    not_refused more r ending =
        let fault = subst (λ (f : First). IsFault true f lexer.context (lexer.rest ++ more) r.cause) (sym r.is) refl in
        let stops =
        stops_here r.cause (is_fault more r.cause fault) bytes
        (subst (λ (l : List ℕ). IsExact fleet l verdict) (append-nil bytes) (known [])) in
        let end = open_end lexer.context lexer.place lexer.rest ending in
        let all = read_behind end.reading (closes executed.reads.reads) end.read in
        let last = one_only bytes (with_items executed.items end.reading) (Stopped stops.0 place_here r.cause) all stops.1 in
        r.other (behind_end executed.items end.reading end.at_end stops.0 place_here r.cause last)

    -- they may go on to an item, and end with a fault there, or with none, and then with this or that byte
    not_completed : (more : List ℕ) (entry : Entry) (len : ℕ) (next : Context) →
        first_of true lexer.context (lexer.rest ++ more) ≡ Begins entry len next → first_of true lexer.context lexer.rest ≡ Open → ⊥
    not_completed more entry len next e is_open = by_end (end_cause lexer.context lexer.rest) refl
      where
        by_end : (o : Option LexCause) → end_cause lexer.context lexer.rest ≡ o → ⊥
        by_end (Some cause) at_end =
            let ends : IsFault true (first_of true lexer.context lexer.rest) lexer.context lexer.rest cause =
            subst (λ (f : First). IsFault true f lexer.context lexer.rest cause) (sym is_open) at_end in
            let fault =
            subst (λ (l : List ℕ). IsFault true (first_of true lexer.context l) lexer.context l cause) (sym (append-nil lexer.rest)) ends in
            let stops = stops_here cause (is_fault [] cause fault) (bytes ++ more) (known more) in
            no_stop (bytes ++ more) executed.items stops.0 lexer.context lexer.place (lexer.rest ++ more) entry len next cause
            (item_takes lexer.context lexer.rest more entry len next is_open e lexer.place)
            (grows true more goes_on executed.reads.reads) e stops.1
        by_end None at_end =
            let whole = whole_end lexer.context lexer.rest at_end in
            let by_0 =
            is_fault (0 ∷ []) (NotInProfile (names.Byte 0))
            (behind_whole lexer.context lexer.rest (0 ∷ []) (NotInProfile (names.Byte 0)) whole.1 (byte_0 lexer.context whole.0)) in
            let by_1 =
            is_fault (1 ∷ []) (NotInProfile (names.Byte 1))
            (behind_whole lexer.context lexer.rest (1 ∷ []) (NotInProfile (names.Byte 1)) whole.1 (byte_1 lexer.context whole.0)) in
            absurd (omega (
              arith,
              one_byte 0 1 (one_cause place_here (NotInProfile (names.Byte 0)) (NotInProfile (names.Byte 1)) (sym by_0 ∙ by_1)),
            ))

    not_opened : Opened lexer.context lexer.rest → ⊥
    not_opened (refuses more r ending) = not_refused more r ending
    not_opened (completes more entry len next e is_open) = not_completed more entry len next e is_open

  pub leaves_open : (pieces : List (List ℕ)) → Spell pieces bytes → WantsMore lexer → LeavesOpen fleet pieces
  leaves_open pieces spelled wanted verdict exact =
      let known =
      λ (more : List ℕ). exact (bytes ++ more) (subst (λ ps. MayBeBy ps (bytes ++ more)) (append-nil pieces) (spelled.led [] more tt)) in
      not_opened verdict known (opened lexer.context lexer.rest wanted)
