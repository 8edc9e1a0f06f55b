-- What a call hands out that explains a code.
use Rattle.std.specs.Prelude.{◌≡◌, ℕ, List, [], ◌∷◌, Option, None, Some, IsFalse, IsTrue, ⊤}
use Rattle.meanings.specs.CommandsTold.{is_unheard, told}
use Rattle.foreign_calls.specs.Answers.{Told}
use Rattle.foreign_calls.specs.declared.why.Why.{Why}
use Rattle.foreign_calls.specs.declared.why.Why.TheVariants.{Stopped, NotText, Unheard}

-- no bytes are no code
abbrev pub code_asked : List ℕ → Option (List ℕ)
code_asked [] = None
code_asked (byte ∷ bytes) = Some (byte ∷ bytes)

-- what these texts, or those of commands, tell of a code, or all of them
abbrev pub IsExplained : (texts commands : List (List ℕ)) → (code : Option (List ℕ)) → Told → Type 0
IsExplained texts commands code explained =
    IsFalse (is_unheard texts commands code) × (explained.text ≡ told texts commands code)

-- why there is no text: none is about the code, it is no UTF-8, or work stopped
abbrev pub IsUnheard : (texts commands : List (List ℕ)) → (code : Option (List ℕ)) → Why → Type 0
IsUnheard texts commands code Unheard = IsTrue (is_unheard texts commands code)
IsUnheard texts commands code NotText = ⊤
IsUnheard texts commands code (Stopped error) = ⊤
IsUnheard texts commands code _ = ⊥
