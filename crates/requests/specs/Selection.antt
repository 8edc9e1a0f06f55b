-- What is drawn of a job: which pages.
use Rattle.std.specs.Prelude.{ℕ, ◌==◌, nat_lt, Bool, true, false}
use Rattle.requests.specs.declared.selection.DrawnPages.{DrawnPages}
use Rattle.requests.specs.declared.selection.DrawnPages.TheVariants.{All, One}
use Rattle.requests.specs.declared.selection.Selection.{Selection}

-- the page of this number is among these
abbrev pub is_among : DrawnPages → ℕ → Bool
is_among All n = true
is_among (One number) n = number == n

-- the picture of the page of this number, which is among them, has the patterns: in a document the first alone
abbrev pub bears_patterns : DrawnPages → ℕ → Bool
bears_patterns All n = n == 1
bears_patterns (One number) n = true

-- the page of this number lies behind all of them
abbrev pub is_past : DrawnPages → ℕ → Bool
is_past All n = false
is_past (One number) n = nat_lt number n

-- the same of those that are drawn
abbrev pub is_drawn : Selection → ℕ → Bool
is_drawn selection n = is_among selection.pages n

abbrev pub has_patterns : Selection → ℕ → Bool
has_patterns selection n = bears_patterns selection.pages n

abbrev pub is_behind : Selection → ℕ → Bool
is_behind selection n = is_past selection.pages n
