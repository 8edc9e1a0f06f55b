-- What is written of a command of a frame.
use Rattle.std.specs.Prelude.{ℕ, ℤ}
use Rattle.pcl_items.specs.declared.frame.Motion.{Motion}
use Rattle.pcl_items.specs.declared.frame.Setting.{Setting}
use Rattle.pcl_lexer.specs.declared.frame.Gap.{Gap}
use Rattle.pcl_lexer.specs.declared.frame.Gap.TheVariants.{Straight, Spaced, Comma}

-- The numbers of a command of a frame so far: the one of a setting;
-- a first coordinate whose second is due; whole pairs, which are items already.
pub data Numbers : Type 0 where
  Single : (setting : Setting) (amount : ℕ) → Numbers
  Odd : (motion : Motion) (x : ℤ) → Numbers
  Even : (motion : Motion) → Numbers

-- the gap with white space behind it
abbrev pub spaced : Gap → Gap
spaced Straight = Spaced
spaced Spaced = Spaced
spaced Comma = Comma
