-- One step of a survey, over a window of the job.
use Rattle.std.specs.Prelude.{◌≡◌, ℕ, ◌+◌, ◌*◌, ◌<◌, ◌≤◌, List, [], ◌++◌, length, drop, Bool, true, false}
use Rattle.std.specs.Prelude.{None, option_to_list}
use Rattle.pcl_lexer.specs.Lexing.Contexts.{Context, Pcl, Sequence, Frame, Letters, Numbered, Pjl, counted}
use Rattle.pcl_lexer.specs.Lexing.FirstView.{context_view}
use Rattle.pcl_lexer.specs.Reading.{left}
use Rattle.survey.specs.declared.refusal.Refusal.{Refusal}
use Rattle.survey.specs.declared.step.Standing as code_standing
use Rattle.survey.specs.declared.step.Standing.TheVariants as standings
use Rattle.survey.specs.declared.step.Step.{Step}
use Rattle.survey.specs.Survey.{Standing, Reads, Passes, Tells, Waits}

-- as the code has it
abbrev pub standing_view : code_standing.Standing → Standing
standing_view (standings.Reads context) = Reads (context_view context)
standing_view (standings.Passes part) = Passes part

-- how many bytes before these are counted
abbrev pub counted_in : Standing → ℕ
counted_in (Reads context) = counted context
counted_in (Passes part) = 0

-- between units a fault takes a byte; elsewhere it need not, and what is passed over then takes one, or reading begins
-- between units
abbrev pub rank : Context → ℕ
rank Pcl = 0
rank (Sequence group) = 2
rank Frame = 0
rank (Letters mnemonic n) = 2
rank (Numbered numbers gap n) = 2
rank Pjl = 0

-- what is left to be surveyed, which each step makes less
abbrev pub due : Standing → List ℕ → ℕ
due (Reads context) bytes = 3 * left context bytes + rank context
due (Passes part) bytes = 6 * length bytes + 1

-- What is surveyed from the one, whatever follows its bytes, is told behind this of the other.
abbrev pub Leads : Bool → Standing → ℕ → List ℕ → List Refusal → Standing → ℕ → List ℕ → Type 0
Leads whole old place bytes told new place' rest =
    (more : List ℕ) (others : List Refusal) → (whole ≡ true → more ≡ []) →
    Tells new place' (rest ++ more) others → Tells old place (bytes ++ more) (told ++ others)

-- nothing more, behind so many bytes
abbrev pub waiting_at : ℕ → code_standing.Standing → Step
waiting_at at standing = record { at = at; standing = standing; told = None; waits = true }

pub record IsStep (whole : Bool) (standing : Standing) (dropped start : ℕ) (window : List ℕ) (step : Step)
    : Type 0 where
  pub inside : step.at ≤ length window
  pub counts : counted_in (standing_view step.standing) ≤ dropped + step.at
  pub leads : Leads whole standing (dropped + start) (drop start window) (option_to_list step.told)
      (standing_view step.standing) (dropped + step.at) (drop step.at window)
  pub less : step.waits ≡ false →
      due (standing_view step.standing) (drop step.at window) < due standing (drop start window)
  pub no_more : due (standing_view step.standing) (drop step.at window) ≤ due standing (drop start window)
  pub waits : step.waits ≡ true → Waits whole (standing_view step.standing) (drop step.at window)
  pub untold : step.waits ≡ true → option_to_list step.told ≡ []
