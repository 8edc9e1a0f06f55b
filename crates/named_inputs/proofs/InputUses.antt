-- What the reading of a word adds to the history of files.
use Rattle.std.proofs.Common.{◌≡◌, ◌++◌, ◌∷◌, ℕ, Bool, List, [], append-nil, false, subst, sym, true}
use Rattle.std.specs.Prelude.{if◌then◌else◌}
use Rattle.streams.proofs.Uses.{one_read}
use Rattle.streams.specs.Source.{SourceState}
use Rattle.streams.specs.Used.{FileUse, read_at}
use Rattle.named_inputs.specs.FileJobs.{is_input, reads_named}

-- nothing, where it is standard input
pub input_read : (used : List FileUse) (word : List ℕ) (source : SourceState)
    → is_input word ≡ true → used ≡ used ++ reads_named word source
input_read used word source is =
    subst (λ (b : Bool). used ≡ used ++ (if b then [] else read_at word source ∷ [])) (sym is) (sym (append-nil used))

-- the file at the path that the word is, where it is not
pub file_read : (used used' : List FileUse) (word at : List ℕ) (source : SourceState) → is_input word ≡ false → at ≡ word
    → used' ≡ used ++ read_at at source ∷ [] → used' ≡ used ++ reads_named word source
file_read used used' word at source is place more =
    subst (λ (b : Bool). used' ≡ used ++ (if b then [] else read_at word source ∷ [])) (sym is)
    (one_read used used' word at source place more)
