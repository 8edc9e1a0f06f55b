-- What a piece and the end make of a session.
use Rattle.std.proofs.Common.{◌≡◌, ◌+◌, ◌-◌, ◌≤◌, ◌↔◌, ℕ, true, false, List, [], ◌∷◌, ◌++◌, length, take, drop, refl, ap, sym, ◌∙◌, subst}
use Rattle.std.proofs.Common.{append_assoc, append-nil, length-append, take-append-drop, Option, None, Some, Result, Ok, Err, IfOk, IfErr}
use Rattle.std.proofs.Common.{arith}
use Rattle.std.proofs.lemmas.List.{take_rest}
use Rattle.pcl_lexer.specs.Lexing.State.{WantsMore}
use Rattle.pcl_lexer.specs.Lexing.Meaning.{MayBe}
use Rattle.device_profile.specs.Printer.{Printer}
use Rattle.preflight.specs.declared.check_state.CheckState.{CheckState}
use Rattle.preflight.specs.declared.check_state.CheckState.TheVariants.{Open, Judged, Stopped}
use Rattle.streams.specs.Pieces.{MayBeBy, Spell}
use Rattle.streams.specs.declared.error.Error.{Error}
use Rattle.streams.specs.declared.error.Error.TheVariants.{Memory, Turns}
use Rattle.streams.specs.Driving.{ComesByEnd, ComesByPiece, IsErrorOfPiece}
use Rattle.preflight.specs.Session.{SessionState, ChecksTo, HasChecked, ChecksOn, IsJudged, IsOutOfMemory}
use Rattle.preflight.specs.Judgement.{IsJudgementOn}
use Rattle.preflight.specs.Where.{page_with}
use Rattle.preflight.specs.Carriers.Checking.{FailsBy, HasExecuted}
use Rattle.streams.proofs.Pieces.{spell_more, spell_none}
use Rattle.preflight.proofs.FailingItems.{right_failing}
use Rattle.preflight.proofs.Promises.{FailsSay}
use Rattle.verdict.specs.Failing.{failing}
use Rattle.verdict.specs.declared.failure.Failure.{Failure}
use Rattle.verdict.specs.declared.verdict.Verdict.{Verdict}

-- ---- from one session to another

-- no byte
pub checks_on_none : (session : SessionState) → session.state ≡ Open → session.lexer.ended ≡ false → WantsMore session.lexer →
    ChecksOn session [] session
checks_on_none session is open_input wanted = record {
  is_open = is;
  total_is = omega arith;
  open_input = open_input;
  wants_more = wanted;
  checked = λ fleet base h. subst (λ l. HasChecked fleet l session) (sym (append-nil base)) h;
}

-- what stands behind a session that is open
pub opened : (session : SessionState) (fleet : List Printer) (bytes : List ℕ) → session.state ≡ Open → HasChecked fleet bytes session →
    HasExecuted fleet bytes session.lexer session.machines session.counts × (session.total ≡ length bytes)
opened session fleet bytes is checked = subst (λ s. ChecksTo s fleet bytes session) is checked

module _ (first old new : SessionState) (bytes : List ℕ) (goes : ChecksOn first bytes old) where
  -- one more piece is checked
  pub checks_more : (piece : List ℕ) → new.state ≡ Open → new.total ≡ old.total + length piece → new.lexer.ended ≡ false →
      WantsMore new.lexer
      → ((fleet : List Printer) (base : List ℕ) → HasExecuted fleet base old.lexer old.machines old.counts →
      HasExecuted fleet (base ++ piece) new.lexer new.machines new.counts)
      → ChecksOn first (bytes ++ piece) new
  checks_more piece is total_is open_input wanted more = record {
    is_open = is;
    total_is = omega (arith, total_is, goes.total_is, length-append bytes piece);
    open_input = open_input;
    wants_more = wanted;
    checked = λ fleet base h.
        let before = opened old fleet (base ++ bytes) goes.is_open (goes.checked fleet base h) in
        let same : (base ++ bytes) ++ piece ≡ base ++ (bytes ++ piece) = append_assoc base bytes piece in
        subst (λ l. HasChecked fleet l new) same
        (subst (λ s. ChecksTo s fleet ((base ++ bytes) ++ piece) new) (sym is)
        (more fleet (base ++ bytes) before.0, omega (arith, total_is, before.1, length-append (base ++ bytes) piece)));
  }

  -- or the job fails, whatever follows
  pub judged_by_piece : FailsSay → (piece : List ℕ) (failure : Failure) (verdict : Verdict) → verdict ≡ failing failure →
      new.state ≡ Judged verdict
      → ((fleet : List Printer) (base : List ℕ) → HasExecuted fleet base old.lexer old.machines old.counts → (job : List ℕ) →
      MayBe false (base ++ piece) job → FailsBy fleet job failure new.failing_item new.counts new.machines)
      → (pieces : List (List ℕ)) → Spell pieces (bytes ++ piece) → IsJudged first verdict pieces new
  judged_by_piece says piece failure verdict is state_is fails pieces spelled = record {
    state_is = state_is;
    right = λ fleet base h rest may.
        let before = opened old fleet (base ++ bytes) goes.is_open (goes.checked fleet base h) in
        let split = spelled.leads [] rest (subst (λ ps. MayBeBy ps rest) (sym (append-nil pieces)) may) in
        let job_is : base ++ rest ≡ ((base ++ bytes) ++ piece) ++ split.0 =
        ap (λ l. base ++ l) split.1
        ∙ (sym (append_assoc base (bytes ++ piece) split.0)
        ∙ ap (λ l. l ++ split.0) (sym (append_assoc base bytes piece))) in
        right_failing says fleet (base ++ rest) failure verdict new.failing_item new.counts new.machines is
        (fails fleet (base ++ bytes) before.0 (base ++ rest) (split.0, job_is, λ e. let both : false ≡ true = e in absurd cc));
  }

  -- the end came
  pub judged_at_end : (verdict : Verdict) → new.state ≡ Judged verdict
      → ((fleet : List Printer) (base : List ℕ) → HasExecuted fleet base old.lexer old.machines old.counts → old.total ≡ length base →
      IsJudgementOn fleet base verdict new.failing_item (page_with verdict new.counts) new.machines)
      → (pieces : List (List ℕ)) → Spell pieces bytes → IsJudged first verdict (pieces ++ [] ∷ []) new
  judged_at_end verdict state_is finishes pieces spelled = record {
    state_is = state_is;
    right = λ fleet base h rest may.
        let before = opened old fleet (base ++ bytes) goes.is_open (goes.checked fleet base h) in
        let split = spelled.leads ([] ∷ []) rest may in
        let job_is : base ++ rest ≡ base ++ bytes = ap (λ l. base ++ l) (split.1 ∙ ap (λ more. bytes ++ more) split.2 ∙ append-nil bytes) in
        subst (λ l. IsJudgementOn fleet l verdict new.failing_item (page_with verdict new.counts) new.machines) (sym job_is)
        (finishes fleet (base ++ bytes) before.0 before.1);
  }

-- ---- a piece, part by part

-- the rest begins with a part of it
pub part_is : (rest : List ℕ) (n : ℕ) → rest ≡ take n rest ++ take (length rest - n) (drop n rest)
part_is rest n = sym (take-append-drop n rest) ∙ ap (λ l. take n rest ++ l) (sym (take_rest rest n))

pub part_split : (front rest piece : List ℕ) (n : ℕ) → piece ≡ front ++ rest →
    piece ≡ (front ++ take n rest) ++ take (length rest - n) (drop n rest)
part_split front rest piece n e =
    e ∙ (ap (λ l. front ++ l) (part_is rest n) ∙ sym (append_assoc front (take n rest) (take (length rest - n) (drop n rest))))

module _ (first now : SessionState) (bytes part : List ℕ) (came : Option Verdict)
    (h : ComesByPiece ChecksOn IsJudged IsOutOfMemory first bytes part now (Ok came)) where
  pub part_checked : came ≡ None → ChecksOn first (bytes ++ part) now
  part_checked is = subst (λ o. ComesByPiece ChecksOn IsJudged IsOutOfMemory first bytes part now (Ok o)) is h

  pub part_judged : (verdict : Verdict) → came ≡ Some verdict → (pieces : List (List ℕ)) → Spell pieces (bytes ++ part) →
      IsJudged first verdict pieces now
  part_judged verdict is = subst (λ o. ComesByPiece ChecksOn IsJudged IsOutOfMemory first bytes part now (Ok o)) is h

-- a session that is stopped answers the error that stopped it
pub stopped_by : (error : Error) (state : CheckState) → error ≡ Memory → state ≡ Stopped Memory → (e : Error) →
    let refused : Result Unit Error =
    Err error in let other : Result Unit Error = Err e in (refused ≡ other) ↔ (state ≡ Stopped e)
stopped_by error state is stands e = (λ same. cc, λ same. cc)

pub not_turns : (error : Error) → error ≡ Memory → let refused : Result Unit Error =
    Err error in let turns : Result Unit Error = Err Turns in refused ≡ turns → ⊥
not_turns error is same = absurd cc

-- ---- what a session says

module _ (first now : SessionState) (fleet : List Printer) (base : List ℕ) (h : HasChecked fleet base first) where
  -- the part of a piece behind this front came to the verdict, whatever the rest of the piece is
  pub judged_in_part : (mid : SessionState) (front part later piece : List ℕ) (verdict : Verdict) → ChecksOn first front mid →
      piece ≡ front ++ (part ++ later) → 1 ≤ length part
      → ((pieces : List (List ℕ)) → Spell pieces ([] ++ part) → IsJudged mid verdict pieces now) → HasChecked fleet (base ++ piece) now
  judged_in_part mid front part later piece verdict goes piece_is some judged =
      let spelled : Spell (part ∷ []) part = spell_more [] [] part (omega (arith, some)) spell_none in
      let is = judged (part ∷ []) spelled in
      subst (λ s. ChecksTo s fleet (base ++ piece) now) (sym is.state_is)
      (λ job may.
      let more : List ℕ = later ++ may.0 in
      let rest_is : (base ++ piece) ++ may.0 ≡ (base ++ front) ++ (part ++ more) =
      ap (λ l. (base ++ l) ++ may.0) piece_is
      ∙ (ap (λ l. l ++ may.0) (sym (append_assoc base front (part ++ later)))
      ∙ (append_assoc (base ++ front) (part ++ later) may.0
      ∙ ap (λ l. (base ++ front) ++ l) (append_assoc part later may.0))) in
      subst (λ l. IsJudgementOn fleet l verdict now.failing_item (page_with verdict now.counts) now.machines) (sym (may.1 ∙ rest_is))
      (is.right fleet (base ++ front) (goes.checked fleet base h) (part ++ more) (spelled.led [] more tt)))

  -- the end came behind no further piece
  pub judged_now : (verdict : Verdict) → ((pieces : List (List ℕ)) → Spell pieces [] → IsJudged first verdict (pieces ++ [] ∷ []) now) →
      IsJudgementOn fleet base verdict now.failing_item (page_with verdict now.counts) now.machines
  judged_now verdict judged =
      subst (λ l. IsJudgementOn fleet l verdict now.failing_item (page_with verdict now.counts) now.machines) (append-nil base)
      ((judged [] spell_none).right fleet base h [] refl)

  -- the verdict was known before
  pub judged_before : (verdict : Verdict) → first.state ≡ Judged verdict →
      IsJudgementOn fleet base verdict first.failing_item (page_with verdict first.counts) first.machines
  judged_before verdict is = subst (λ s. ChecksTo s fleet base first) is h base ([], sym (append-nil base), λ e. refl)

-- a part that came to the verdict
pub judged_state : (mid now : SessionState) (part : List ℕ) (verdict : Verdict) → 1 ≤ length part →
    ((pieces : List (List ℕ)) → Spell pieces ([] ++ part) → IsJudged mid verdict pieces now) → now.state ≡ Judged verdict
judged_state mid now part verdict some judged = (judged (part ∷ []) (spell_more [] [] part (omega (arith, some)) spell_none)).state_is

pub judged_not_stopped : (state : CheckState) (verdict : Verdict) → state ≡ Judged verdict → (e : Error) → let fed : Result Unit Error =
    Ok record {} in let other : Result Unit Error = Err e in (fed ≡ other) ↔ (state ≡ Stopped e)
judged_not_stopped state verdict is e = (λ same. absurd cc, λ same. absurd cc)

pub judged_not_open : (state : CheckState) (verdict : Verdict) → state ≡ Judged verdict → state ≡ Open → ⊥
judged_not_open state verdict is open_is = absurd cc

pub stopped_not_open : (state : CheckState) (error : Error) → state ≡ Stopped error → state ≡ Open → ⊥
stopped_not_open state error is open_is = absurd cc

-- what the end came to, for a session that was open
pub end_right : (first now : SessionState) (result : Result Verdict Error) → ComesByEnd IsJudged IsOutOfMemory first [] now result →
    IfOk result
    (λ verdict. (fleet : List Printer) (bytes : List ℕ) → HasChecked fleet bytes first →
    IsJudgementOn fleet bytes verdict now.failing_item (page_with verdict now.counts) now.machines)
end_right first now (Ok verdict) h = λ fleet bytes checked. judged_now first now fleet bytes checked verdict h
end_right first now (Err error) h = tt

pub end_error : (first now : SessionState) (result : Result Verdict Error) → ComesByEnd IsJudged IsOutOfMemory first [] now result →
    IfErr result (λ error. error ≡ Memory)
end_error first now (Ok verdict) h = tt
end_error first now (Err error) h = h.0.0

-- once the verdict is known, a piece changes nothing
pub still_judged : (session : SessionState) (piece : List ℕ) (verdict : Verdict) → session.state ≡ Judged verdict →
    (fleet : List Printer) (bytes : List ℕ) → HasChecked fleet bytes session → HasChecked fleet (bytes ++ piece) session
still_judged session piece verdict is fleet bytes h =
    let known = subst (λ s. ChecksTo s fleet bytes session) is h in
    subst (λ s. ChecksTo s fleet (bytes ++ piece) session) (sym is)
    (λ job may. known job (piece ++ may.0, may.1 ∙ append_assoc bytes piece may.0, λ e. absurd cc))

-- a session that was begun
pub session_begun : (session : SessionState) (fleet : List Printer) → session.state ≡ Open → session.total ≡ 0 →
    HasExecuted fleet [] session.lexer session.machines session.counts → HasChecked fleet [] session
session_begun session fleet is none executed = subst (λ s. ChecksTo s fleet [] session) (sym is) (executed, none)

-- the error that a session stopped with is want of memory
pub out_of_memory : (state : CheckState) (error : Error) → state ≡ Stopped error → error ≡ Memory →
    ((error ≡ Memory) × (state ≡ Stopped Memory)) × IsErrorOfPiece error
out_of_memory state error is memory = ((memory, is ∙ ap Stopped memory), subst IsErrorOfPiece (sym memory) tt)
