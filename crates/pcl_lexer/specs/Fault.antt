-- The fault that stands where no item does.
use Rattle.std.specs.Prelude.{◌≡◌, List, [], ◌∷◌, ℕ, Bool, true, false, Option, None, Some}
use Rattle.pcl_items.specs.declared.fault.LexCause.{LexCause}
use Rattle.pcl_items.specs.declared.fault.LexCause.TheVariants.{Truncated, EndInFrame}
use Rattle.pcl_lexer.specs.Lexing.Contexts.{Context, Pcl, Frame, Pjl}
use Rattle.pcl_lexer.specs.Reader.{First, Open, Passes, Begins, Faulty}

-- what the end of all bytes is, where they decide nothing: no bytes are left, or some
abbrev pub cause_at_end : Context → Bool → Option LexCause
cause_at_end Pcl true = None
cause_at_end Pjl true = None
cause_at_end Frame true = Some EndInFrame
cause_at_end context none_left = Some Truncated

abbrev pub is_none_left : List ℕ → Bool
is_none_left [] = true
is_none_left (b ∷ rest) = false

abbrev pub end_cause : Context → List ℕ → Option LexCause
end_cause context rest = cause_at_end context (is_none_left rest)

abbrev pub IsFault : Bool → First → Context → List ℕ → LexCause → Type 0
IsFault whole (Faulty cause) context rest cause' = cause' ≡ cause
IsFault whole (Passes len next) context rest cause' = ⊥
IsFault whole (Begins item len next) context rest cause' = ⊥
IsFault false Open context rest cause' = ⊥
IsFault true Open context rest cause' = end_cause context rest ≡ Some cause'
