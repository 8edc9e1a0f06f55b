-- The values of one field are set without those of another.
use Rattle.std.proofs.Common.{◌≡◌, ◌⊎◌, inl, inr, ℕ, List, refl}
use Rattle.device_profile.specs.declared.field.Field.{Field}
use Rattle.device_profile.specs.declared.field.Field.TheVariants.{Size, Orientation, Vmi, Font, Copies, Sides, Tray, LineTerm}
use Rattle.device_profile.specs.Choices.{Choices, values_in, with_values}

-- the two are one field, which has the values that are set
pub record AreSame (a b : Field) : Type 0 where
  pub same : a ≡ b
  pub set : (choices : Choices) (values : List ℕ) → values_in (with_values choices a values) b ≡ values

-- the two are fields of which each keeps its values where those of the other are set
pub record AreApart (a b : Field) : Type 0 where
  pub first_kept : (choices : Choices) (values : List ℕ) → values_in (with_values choices b values) a ≡ values_in choices a
  pub second_kept : (choices : Choices) (values : List ℕ) → values_in (with_values choices a values) b ≡ values_in choices b
  pub either_order : (choices : Choices) (of_a of_b : List ℕ) →
      with_values (with_values choices a of_a) b of_b ≡ with_values (with_values choices b of_b) a of_a

-- two fields are the same or apart
pub same_or_apart : (a b : Field) → AreSame a b ⊎ AreApart a b
same_or_apart Size Size = inl (record { same = refl; set = λ choices values. refl })
same_or_apart Orientation Orientation = inl (record { same = refl; set = λ choices values. refl })
same_or_apart Vmi Vmi = inl (record { same = refl; set = λ choices values. refl })
same_or_apart Font Font = inl (record { same = refl; set = λ choices values. refl })
same_or_apart Copies Copies = inl (record { same = refl; set = λ choices values. refl })
same_or_apart Sides Sides = inl (record { same = refl; set = λ choices values. refl })
same_or_apart Tray Tray = inl (record { same = refl; set = λ choices values. refl })
same_or_apart LineTerm LineTerm = inl (record { same = refl; set = λ choices values. refl })
same_or_apart a b =
    inr (record { first_kept = λ choices values. refl; second_kept = λ choices values. refl; either_order = λ choices of_a of_b. refl })
