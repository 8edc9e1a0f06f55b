-- The commands of the pool that are kept beside their spellings.
use Rattle.std.specs.Prelude.{◌≡◌, ℕ, ◌+◌, ◌^◌, ◌<◌, ◌≤◌, length, take, drop, List}
use Rattle.std.specs.List.{All}
use Rattle.pcl_items.specs.declared.item.Mode.TheVariants.{Pcl}
use Rattle.pcl_items.specs.Items.{Parameterized, amount}
use Rattle.pcl_spelling.specs.Spellings.Spelled.{StandsAt}
use Rattle.macro_store.specs.declared.commands.StoredCommand.{StoredCommand}

-- the spelling of a command stands where it is said to stand
abbrev pub IsStored : List ℕ → StoredCommand → Type 0
IsStored pool stored = StandsAt Pcl pool stored.at (Parameterized stored.command (amount stored.number)) stored.end Pcl

abbrev pub AreStored : List ℕ → List StoredCommand → Type 0
AreStored pool commands = All (IsStored pool) commands

abbrev pub EndBefore : ℕ → List StoredCommand → Type 0
EndBefore place commands = All (λ stored. stored.end ≤ place) commands

-- the bytes of a body stand at a place of a pool in which the commands stand, too
pub record LiesInPool (at : ℕ) (rest : List ℕ) (commands : List StoredCommand) : Type 0 where
  pub pool : List ℕ
  pub few : length pool < 2 ^ 64
  pub within : at + length rest ≤ length pool
  pub part : rest ≡ take (length rest) (drop at pool)
  pub stored : AreStored pool commands
