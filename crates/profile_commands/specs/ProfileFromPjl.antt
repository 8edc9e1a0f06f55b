-- What the command `profile from-pjl` leaves.
use Rattle.std.specs.Prelude.{◌≡◌, ◌⊎◌, ℕ, List, [], ◌∷◌, ◌++◌, map, codes, decimal, Option, Some, None, take, Bool}
use Rattle.pjl_answer.specs.declared.answered.AnswerError.{AnswerError}
use Rattle.pjl_answer.specs.declared.answered.AnswerError.TheVariants.{LongAnswer, NoAnswer, Base, LongText}
use Rattle.pjl_answer.specs.declared.answered.AnswerError.TheVariants.{Mismatch as OtherText, Memory as NoMemory}
use Rattle.pjl_answer.specs.Answered.{IsAnswered, IsAnswerError}
use Rattle.pjl_answer.specs.AskedPapers.{asked_papers}
use Rattle.streams.specs.Writing.{Writes}
use Rattle.printer_models.specs.declared.panel_lists.PanelLists.TheVariants.{Fixed}
use Rattle.printer_models.specs.Model.{model_named}
use Rattle.printer_models.specs.NewText.{DescribesAsked}
use Rattle.printer_models.specs.Paper.{word_of}
use Rattle.profile_commands.specs.ProfileNew.{mismatch_line}
use Rattle.profile_commands.specs.ProfileReading.{IsRead, TellsFailedRead, TellsNoText}
use Rattle.profile_commands.specs.WholeText.{WritesWhole}
use Rattle.profile_lint.specs.Lint.{faults_text}
use Rattle.shown_bytes.specs.Shown.{shown}
use Rattle.streams.specs.Outlet.{OutletState}
use Rattle.streams.specs.Pieces.{ByReads}
use Rattle.streams.specs.Source.{SourceState}
use Rattle.job_reports.specs.Refusals.{TellsLine}
use Rattle.requests.specs.declared.status.Status.{Status}
use Rattle.requests.specs.declared.status.Trouble.{Trouble}
use Rattle.requests.specs.declared.status.Trouble.TheVariants.{Refused, Mismatch}

-- what the source gave: its first 65,537 bytes, or all
abbrev pub IsAnswerBy : SourceState → SourceState → List ℕ → Type 0
IsAnswerBy old new answer = ByReads old new (λ input. answer ≡ take 65_537 input)

-- the text of the model `generic`, with the papers that an answer asks for
abbrev pub IsGenericFor : List ℕ → List ℕ → Type 0
IsGenericFor answer base = DescribesAsked (model_named (codes "generic")) (map word_of (asked_papers answer)) Fixed base

-- what the answer is put into: the text that was read under the word, or without one that of `generic`
abbrev pub IsBase : (List ℕ → Option (List ℕ)) → Option (List ℕ) → List (List ℕ) → List (List ℕ) → List ℕ → List ℕ →
    Type 0
IsBase text_of (Some word) old new answer base = IsRead (text_of word) old new base
IsBase text_of None old new answer base = IsGenericFor answer base × (new ≡ old)

-- the text under the word was asked for, where there is one, and no other
abbrev pub AsksBase : Option (List ℕ) → (old new : List (List ℕ)) → Type 0
AsksBase (Some word) old new = new ≡ old ++ word ∷ []
AsksBase None old new = new ≡ old

-- so, or no text was asked for
abbrev pub AsksBaseIfAny : Option (List ℕ) → (old new : List (List ℕ)) → Type 0
AsksBaseIfAny base old new = AsksBase base old new ⊎ (new ≡ old)

-- the word of what an answer is put into
abbrev pub base_word : Option (List ℕ) → List ℕ
base_word (Some word) = word
base_word None = codes "generic"

-- the word of an answer, and its line at which stands what no printer answers
abbrev pub odd_answer : List ℕ → ℕ → List ℕ
odd_answer answer line =
    shown answer ++ codes ":" ++ decimal line ++ codes ": this is not a printer's answer to '@PJL INFO VARIABLES'\n"

-- THE TABLE OF REFUSALS: what standard error is told of an answer, by its word, that is put into a text under a word
abbrev pub refusal : List ℕ → List ℕ → List ℕ → AnswerError → List ℕ
refusal answer word base LongAnswer =
    codes "error: '" ++ (shown answer ++ codes "' has more than 65536 bytes, which no answer has\n")
refusal answer word base (NoAnswer line) = odd_answer answer line
refusal answer word base (Base fault) = faults_text word base
refusal answer word base LongText =
    codes "error: with the answer '" ++ (shown word ++ codes "' would have more than 65536 bytes\n")
refusal answer word base OtherText = mismatch_line
refusal answer word base NoMemory = []

-- what stands in the way
abbrev pub trouble_of : AnswerError → Trouble
trouble_of OtherText = Mismatch
trouble_of _ = Refused

-- The text with what the answer tells is written, and its warnings are told; or it is refused, and nothing is written.
abbrev pub LeavesWithAnswer : List ℕ → List ℕ → List ℕ → List ℕ → Status → OutletState → OutletState → OutletState →
    OutletState → Type 0
LeavesWithAnswer word base_named answer base status out out' err err' =
    ((text : List ℕ) × (lines : List ℕ) × IsAnswered answer base text lines × WritesWhole text status out out'
    × Writes err err' lines)
    ⊎ ((error : AnswerError) × IsAnswerError answer base error
    × TellsLine status (trouble_of error) (refusal word base_named base error) err err' × (out' ≡ out))

-- Why there is nothing to put an answer into:
-- the text under the word cannot be read, or that of `generic` is not that of its tables.
abbrev pub TellsNoBase : Option (List ℕ) → List (List ℕ) → List (List ℕ) → Bool → Status → OutletState → OutletState →
    Type 0
TellsNoBase (Some word) old new failed status err err' = TellsNoText word old new failed status err err'
TellsNoBase None old new failed status err err' = (new ≡ old) × TellsLine status Mismatch mismatch_line err err'

-- what is left of an answer that was read
abbrev pub LeavesOfAnswer : (List ℕ → Option (List ℕ)) → List ℕ → Option (List ℕ) → List (List ℕ) → List (List ℕ) →
    Bool → List ℕ → Status → OutletState → OutletState → OutletState → OutletState → Type 0
LeavesOfAnswer text_of word base_named old new failed answer status out out' err err' =
    ((base : List ℕ) × IsBase text_of base_named old new answer base
    × LeavesWithAnswer word (base_word base_named) answer base status out out' err err')
    ⊎ (TellsNoBase base_named old new failed status err err' × (out' ≡ out))

-- what is left of an answer, by the reads of its source; where these fail no profile is read
abbrev pub LeavesAnswered : SourceState → SourceState → (List ℕ → Option (List ℕ)) → List ℕ → Option (List ℕ) →
    List (List ℕ) → List (List ℕ) → Bool → Status → OutletState → OutletState → OutletState → OutletState → Type 0
LeavesAnswered source source' text_of word base_named old new failed status out out' err err' =
    ((answer : List ℕ) × IsAnswerBy source source' answer
    × LeavesOfAnswer text_of word base_named old new failed answer status out out' err err')
    ⊎ ((new ≡ old) × TellsFailedRead (codes "ERROR read answer ") word source'.failed status err err' × (out' ≡ out))
