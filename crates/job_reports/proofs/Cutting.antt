-- A text from the first byte on that begins a character, as a loop over its bytes finds it.
use Rattle.std.proofs.Common.{◌≡◌, ◌∙◌, ◌+◌, ◌<◌, ◌∷◌, ℕ, Bool, true, false, List, ap, drop, get_or, if◌then◌else◌, length, sym}
use Rattle.std.proofs.lemmas.List.{drop_more}
use Rattle.job_reports.specs.JobSentences.{begins_character, from_character}

module _ (text : List ℕ) (i : ℕ) (told : Bool) (h : i < length text) (is : told ≡ begins_character (get_or text i 0)) where
  -- the byte at a place begins one
  pub itself_at : told ≡ true → drop i text ≡ from_character (drop i text)
  itself_at holds =
      drop_more text i 0 h
      ∙ ap (λ b. if b then get_or text i 0 ∷ drop (i + 1) text else from_character (drop (i + 1) text)) (sym (sym is ∙ holds))
      ∙ ap from_character (sym (drop_more text i 0 h))

  -- it goes on with one
  pub past_at : told ≡ false → from_character (drop i text) ≡ from_character (drop (i + 1) text)
  past_at fails =
      ap from_character (drop_more text i 0 h)
      ∙ ap (λ b. if b then get_or text i 0 ∷ drop (i + 1) text else from_character (drop (i + 1) text)) (sym is ∙ fails)
