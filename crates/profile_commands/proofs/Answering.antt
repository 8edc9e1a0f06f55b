-- An answer that is refused.
use Rattle.std.proofs.Common.{◌≡◌, ℕ, Bool, Bor, List, Option, None, Some, codes, inl, inr, option_map, refl, subst, sym, unwrap_or}
use Rattle.pjl_answer.specs.declared.answered.AnswerError.{AnswerError}
use Rattle.pjl_answer.specs.Answered.{IsAnswerError}
use Rattle.profile_commands.specs.ProfileFromPjl.{IsBase, LeavesOfAnswer, base_word, refusal, trouble_of}
use Rattle.streams.specs.Outlet.{OutletState}
use Rattle.job_reports.specs.Refusals.{TellsLine}
use Rattle.requests.specs.declared.status.Status.{Status}

-- the word of what an answer is put into
pub base_word_is : (base : Option (Bor (List ℕ))) (d : Bor (List ℕ)) → d.now ≡ codes "generic" →
    base_word (option_map (λ word. word.now) base) ≡ (unwrap_or base d).now
base_word_is None d generic = sym generic
base_word_is (Some word) d generic = refl

pub refused : (text_of : List ℕ → Option (List ℕ)) (word : List ℕ) (base : Option (List ℕ)) (old new : List (List ℕ)) (failed : Bool)
    (answer text slice named : List ℕ) (error : AnswerError) (status : Status) (out err now err' : OutletState)
    → IsBase text_of base old new answer text → slice ≡ text → IsAnswerError answer slice error → named ≡ base_word base → now ≡ err
    → TellsLine status (trouble_of error) (refusal word named slice error) now err'
    → LeavesOfAnswer text_of word base old new failed answer status out out err err'
refused text_of word base old new failed answer text slice named error status out err now err' is_base is_slice
    is_error is_named quiet told =
    inl (
      text,
      is_base,
      inr (
        error,
        subst (λ t. IsAnswerError answer t error) is_slice is_error,
        subst (λ t. TellsLine status (trouble_of error) (refusal word (base_word base) t error) err err') is_slice
            (subst (λ n. TellsLine status (trouble_of error) (refusal word n slice error) err err') is_named
            (subst (λ e. TellsLine status (trouble_of error) (refusal word named slice error) e err') quiet told)),
        refl,
      ),
    )
