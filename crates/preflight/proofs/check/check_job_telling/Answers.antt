use Rattle.std.proofs.Common.{◌≡◌, Result, Ok, Err, refl, ap, inl, inr, subst, sym}
use Rattle.std.proofs.lemmas.Result.{err_from_is_err_and}
use Rattle.streams.specs.Pieces.{ByReads}
use Rattle.judgement.specs.declared.failing_item.Judgement.{Judgement}
use Rattle.streams.specs.declared.error.Error.{Error}
use Rattle.streams.specs.declared.error.Error.TheVariants.{Memory, Read, Turns}
use Rattle.judgement.specs.FailingItem.{IsTold}
use Rattle.preflight.specs.Where.{IsOnPage}
use Rattle.judgement.specs.Verdict.{IsExact, VerdictHolds}
use Rattle.preflight.proofs.Judging.{asked, exact, headline, known_ok, needed, never_items, never_write, paged, placed, still_open, told}
use Rattle.preflight.proofs.Judging.{was_open}
use Rattle.preflight.proofs.check.check_job_telling.Goals as goal

same_error : (a b : Error) (x y : Result Judgement Error) → x ≡ Err a → y ≡ Err b → x ≡ y → a ≡ b
same_error a b x y left right e = cc

pub returns-in_err-verdict-clause-never_write : goal.returns-in_err-verdict-clause-never_write
returns-in_err-verdict-clause-never_write g c =
    let same = err_from_is_err_and c.from_residual-in_err-verdict.result c.from_residual-in_err-verdict.ensures.1 in
    rw (same.1, same.2)
    (never_write (c.in_ok-session.session, tt) (c.read_job.new.consumer, tt) _ _
    (Err c.in_err-verdict.field-0.0) c.in_err-verdict.ensures.stopped)

pub returns-in_err-verdict-clause-never_items : goal.returns-in_err-verdict-clause-never_items
returns-in_err-verdict-clause-never_items g c =
    let same = err_from_is_err_and c.from_residual-in_err-verdict.result c.from_residual-in_err-verdict.ensures.1 in
    rw (same.1, same.2)
    (never_items (c.in_ok-session.session, tt) (c.read_job.new.consumer, tt) _ _
    (Err c.in_err-verdict.field-0.0) c.in_err-verdict.ensures.stopped)

pub returns-clause-exact : goal.returns-clause-exact
returns-clause-exact g c =
    exact c.args.fleet.now (c.in_ok-session.session, tt) (c.read_job.new.consumer, tt) c.in_ok-session.ensures.none _ _
    (Ok c.in_ok-verdict.verdict) c.in_ok-verdict.ensures.answered

pub returns-clause-headline : goal.returns-clause-headline
returns-clause-headline g c =
    headline c.args.fleet.now (c.in_ok-session.session, tt) (c.read_job.new.consumer, tt) c.in_ok-session.ensures.none _ _
    (Ok c.in_ok-verdict.verdict) c.in_ok-verdict.ensures.answered

pub returns-clause-known_exact : goal.returns-clause-known_exact
returns-clause-known_exact g c =
    known_ok _ _ (λ job verdict. IsExact c.args.fleet.now job verdict) (Ok c.in_ok-verdict.verdict) (returns-clause-exact g c)

pub returns-clause-known_headline : goal.returns-clause-known_headline
returns-clause-known_headline g c =
    known_ok _ _ (λ job verdict. VerdictHolds c.args.fleet.now job verdict) (Ok c.in_ok-verdict.verdict) (returns-clause-headline g c)

pub returns-clause-told : goal.returns-clause-told
returns-clause-told g c =
    subst
    (λ failing_item. ByReads (g.S.Source.state c.args.reader.now) (g.S.Source.state c.read_job.new.reader)
    (λ job. IsTold job c.in_ok-verdict.verdict failing_item))
    (sym c.failing_item.ensures.value)
    (told c.args.fleet.now (c.in_ok-session.session, tt) (c.read_job.new.consumer, tt) c.in_ok-session.ensures.none _ _
    (Ok c.in_ok-verdict.verdict) c.in_ok-verdict.ensures.answered)

pub returns-clause-known_told : goal.returns-clause-known_told
returns-clause-known_told g c =
    known_ok _ _ (λ job verdict. IsTold job verdict c.failing_item.result) (Ok c.in_ok-verdict.verdict) (returns-clause-told g c)

pub returns-clause-paged : goal.returns-clause-paged
returns-clause-paged g c =
    subst
    (λ page. ByReads (g.S.Source.state c.args.reader.now) (g.S.Source.state c.read_job.new.reader)
    (λ job. IsOnPage c.args.fleet.now job c.in_ok-verdict.verdict page))
    (sym c.page.ensures)
    (paged c.args.fleet.now (c.in_ok-session.session, tt) (c.read_job.new.consumer, tt) c.in_ok-session.ensures.none _ _
    (Ok c.in_ok-verdict.verdict) c.in_ok-verdict.ensures.answered)

pub returns-clause-known_paged : goal.returns-clause-known_paged
returns-clause-known_paged g c =
    known_ok _ _ (λ job verdict. IsOnPage c.args.fleet.now job verdict c.page.result) (Ok c.in_ok-verdict.verdict)
    (returns-clause-paged g c)

pub returns-clause-placed : goal.returns-clause-placed
returns-clause-placed g c =
    placed c.args.fleet.now (c.in_ok-session.session, tt) (c.read_job.new.consumer, tt) c.in_ok-session.ensures.none _ _
    (Ok c.in_ok-verdict.verdict) c.in_ok-verdict.ensures.answered c.cursor.result c.cursor.ensures

pub returns-clause-asked : goal.returns-clause-asked
returns-clause-asked g c =
    asked c.args.fleet.now (c.in_ok-session.session, tt) (c.read_job.new.consumer, tt) c.in_ok-session.ensures.none _ _
    (Ok c.in_ok-verdict.verdict) c.in_ok-verdict.ensures.answered c.font.result c.font.ensures

pub returns-clause-needed : goal.returns-clause-needed
returns-clause-needed g c =
    needed c.args.fleet.now (c.in_ok-session.session, tt) (c.read_job.new.consumer, tt) c.in_ok-session.ensures.none _ _
    (Ok c.in_ok-verdict.verdict) c.in_ok-verdict.ensures.answered

pub returns-in_err-verdict-clause-long : goal.returns-in_err-verdict-clause-long
returns-in_err-verdict-clause-long g c =
    let same = err_from_is_err_and c.from_residual-in_err-verdict.result c.from_residual-in_err-verdict.ensures.1 in
    rw (same.1, same.2) (λ turns. c.in_err-verdict.ensures.long (ap Err (same_error c.in_err-verdict.field-0.0 Turns _ _ refl refl turns)))

pub returns-in_err-verdict-clause-still_open : goal.returns-in_err-verdict-clause-still_open
returns-in_err-verdict-clause-still_open g c =
    let same = err_from_is_err_and c.from_residual-in_err-verdict.result c.from_residual-in_err-verdict.ensures.1 in
    rw (same.1, same.2)
    (λ failed.
    still_open c.args.fleet.now (c.in_ok-session.session, tt) (c.read_job.new.consumer, tt) c.in_ok-session.ensures.none _ _
    (Err c.in_err-verdict.field-0.0) c.in_err-verdict.ensures.stopped
    (ap Err (same_error c.in_err-verdict.field-0.0 Read _ _ refl refl failed)))

pub returns-in_err-session-clause-was_open : goal.returns-in_err-session-clause-was_open
returns-in_err-session-clause-was_open g c = λ memory. inl refl

pub returns-in_err-verdict-clause-was_open : goal.returns-in_err-verdict-clause-was_open
returns-in_err-verdict-clause-was_open g c =
    let same = err_from_is_err_and c.from_residual-in_err-verdict.result c.from_residual-in_err-verdict.ensures.1 in
    rw (same.1, same.2)
    (λ memory.
    inr
    (was_open c.args.fleet.now (c.in_ok-session.session, tt) (c.read_job.new.consumer, tt) c.in_ok-session.ensures.none _ _
    (Err c.in_err-verdict.field-0.0) Memory c.in_err-verdict.ensures.stopped
    (ap Err (same_error c.in_err-verdict.field-0.0 Memory _ _ refl refl memory))))
