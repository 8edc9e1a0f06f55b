-- A search that goes on is not over: of two faults that may come next, each has its outcome or its sentence.
use Rattle.std.proofs.Common.{◌≡◌, ◌∙◌, ◌++◌, ℕ, Bool, true, false, List, [], ◌∷◌, None, Ok, refl, ap, arith, lit<}
use Rattle.std.specs.Prelude.{codes, decimal, if◌then◌else◌}
use Rattle.std.proofs.lemmas.Fmt.{decimal_injective}
use Rattle.std.proofs.lemmas.List.{append_cancel_left, append_cancel_right}
use Rattle.pcl_items.specs.declared.fault.LexCause.TheVariants.{Truncated}
use Rattle.pcl_lexer.specs.Reading.{Stopped}
use Rattle.page_machine.specs.MachineState.{MachineState}
use Rattle.sinks.specs.declared.counts.Counts.{Counts}
use Rattle.verdict.specs.declared.failure.Failure.{Failure}
use Rattle.verdict.specs.Failing.{failing, fault_at}
use Rattle.line_words.specs.Figures.{named}
use Rattle.renderings.specs.declared.outcome.Outcome.TheVariants.{Done as AllDone}
use Rattle.renderings.specs.Carriers.Rests.{place_told}
use Rattle.renderings.specs.Expected.{IsOver}
use Rattle.renderings.specs.Outcomes.{fails_with}
use Rattle.requests.specs.declared.selection.Selection.{Selection}
use Rattle.requests.specs.Selection.{is_drawn}
use Rattle.job_reports.specs.Groups.{Groups}
use Rattle.job_reports.specs.JobSentences.{FailsAt, claim_by, fails_at, for_each, named_first, on_page, on_sheet}
use Rattle.job_reports.specs.JobSentences.{place_phrase}
use Rattle.job_reports.specs.JobSentences.{reason_phrase, subject, verdict_phrase}
use Rattle.job_reports.specs.Reports.{number_told}
use Rattle.picture_command.specs.Carriers.{search_from}
use Rattle.picture_command.specs.PageSearch.{Searched, missing_part, on_open_page, open_page, sentence}

-- the fault of bytes that end too early, here
abbrev early : ℕ → Failure
early place = fault_at place Truncated

-- where no item stands, on the page that is open
abbrev nowhere : Counts → FailsAt
nowhere counts = on_open_page counts (fails_at None None)

-- ---- the sentence names the place

-- numbers of one digit behind a name, whatever stands behind them
digits_differ : (name rest : List ℕ) → named name 0 ++ rest ≡ named name 1 ++ rest → ⊥
digits_differ name rest same =
    let numbers : named name 0 ≡ named name 1 = append_cancel_right (named name 0) (named name 1) rest same in
    absurd (omega (
      arith,
      decimal_injective 0 1 (lit< tt) (lit< tt) (append_cancel_left name (decimal 0) (decimal 1) numbers),
    ))

-- who is told of goes by no place
same_number : (is_each : Bool) →
    number_told is_each (Ok (failing (early 1))) ≡ number_told is_each (Ok (failing (early 0)))
same_number true = refl
same_number false = refl

module _ (job : List ℕ) (group : Groups) (counts : Counts) where
  abbrev number : ℕ → ℕ
  number place = number_told group.is_each (Ok (failing (early place)))

  -- the printer of this number refuses a job whose bytes end too early
  abbrev refuses : ℕ → List ℕ
  refuses printer =
      claim_by (subject group.names printer) (for_each group.is_each group.names) (nowhere counts).left_out
      (Ok (failing (early 0)))

  abbrev phrase : ℕ → List ℕ
  phrase place = verdict_phrase (nowhere counts) (failing (early place))

  abbrev line : ℕ → List ℕ
  line place = sentence job group (nowhere counts) (failing (early place))

  -- behind the same text, too
  sentences_differ : (text : List ℕ) → text ++ line 0 ≡ text ++ line 1 → ⊥
  sentences_differ text same =
      let words : named_first job ++ (refuses (number 0) ++ phrase 0)
      ≡ named_first job ++ (refuses (number 1) ++ phrase 1) =
      append_cancel_right (named_first job ++ (refuses (number 0) ++ phrase 0))
      (named_first job ++ (refuses (number 1) ++ phrase 1)) (10 ∷ [])
      (append_cancel_left text (line 0) (line 1) same) in
      let claims : refuses (number 0) ++ phrase 0 ≡ refuses (number 1) ++ phrase 1 =
      append_cancel_left (named_first job) (refuses (number 0) ++ phrase 0) (refuses (number 1) ++ phrase 1) words in
      let phrases : phrase 0 ≡ phrase 1 =
      append_cancel_left (refuses (number 1)) (phrase 0) (phrase 1)
      (ap (λ printer. refuses printer ++ phrase 0) (same_number group.is_each) ∙ claims) in
      let page : List ℕ = on_page (nowhere counts).page in
      let sheet : List ℕ = on_sheet (nowhere counts).cursor in
      let here : ℕ → List ℕ = λ place. place_phrase place (nowhere counts).page (nowhere counts).cursor in
      let places : here 0 ++ (nowhere counts).words ≡ here 1 ++ (nowhere counts).words =
      append_cancel_right (here 0 ++ (nowhere counts).words) (here 1 ++ (nowhere counts).words)
      (reason_phrase (nowhere counts).left_out (nowhere counts).font (early 0).reason) phrases in
      digits_differ (codes " at byte ") page
      (append_cancel_right (named (codes " at byte ") 0 ++ page) (named (codes " at byte ") 1 ++ page) sheet
      (append_cancel_right (here 0) (here 1) (nowhere counts).words places))

  -- ---- what is told

  module _ (selection : Selection) where
    -- of a failure, on a page that is searched for or before it
    abbrev told : Bool → Failure → Searched
    told drawn failure =
        if drawn
        then (record { text = sentence job group (nowhere counts) (failing failure); outcome = fails_with failure })
        else (record {
          text = missing_part selection job counts ++ sentence job group (nowhere counts) (failing failure);
          outcome = AllDone;
        })

    differs : (drawn : Bool) → (told drawn (early 0)).text ≡ (told drawn (early 1)).text →
        (told drawn (early 0)).outcome ≡ (told drawn (early 1)).outcome → ⊥
    differs true text outcome = let places : 0 ≡ 1 = ap place_told outcome in absurd (omega (arith, places))
    differs false text outcome = sentences_differ (missing_part selection job counts) text

-- what is due goes by what follows
pub search_matters : (selection : Selection) (job : List ℕ) (group : Groups) (machine : MachineState)
    (counts : Counts) → IsOver (search_from selection job group machine counts) → ⊥
search_matters selection job group machine counts over =
    let same = over (Stopped [] 0 Truncated) (Stopped [] 1 Truncated) in
    differs job group counts selection (is_drawn selection (open_page counts)) same.0 same.1
