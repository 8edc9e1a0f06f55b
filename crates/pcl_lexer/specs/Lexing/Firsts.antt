-- What may stand first in bytes.
use Rattle.std.specs.Prelude.{ℕ, ◌+◌, List, Bool, if◌then◌else◌}
use Rattle.std.specs.Int.{is_in_range}
use Rattle.pcl_items.specs.declared.fault.LexCause.{LexCause}
use Rattle.pcl_lexer.specs.Lexing.Contexts.{Context, Pjl}
use Rattle.pcl_items.specs.Items.{Entry, ExitLanguage}
use Rattle.pcl_items.specs.PjlLines.Exit.{exit_field, begins_with}

-- The bytes decide nothing yet, or begin with so many bytes that end no item, or with the last so many
-- bytes of an item, or with a fault.
pub data First : Type 0 where
  Open : First
  Passes : (len : ℕ) (next : Context) → First
  Begins : (item : Entry) (len : ℕ) (next : Context) → First
  Faulty : (cause : LexCause) → First

-- with n bytes before it
abbrev pub behind : ℕ → First → First
behind n Open = Open
behind n (Passes len next) = Passes (n + len) next
behind n (Begins item len next) = Begins item (n + len) next
behind n (Faulty cause) = Faulty cause

-- a parameter character goes on with the group, a termination character ends the sequence
abbrev pub is_group_or_parameter : ℕ → Bool
is_group_or_parameter c = is_in_range 96 126 c

abbrev pub is_termination : ℕ → Bool
is_termination c = is_in_range 64 94 c

-- after ESC and `%`: the universal exit, or else something other
abbrev pub exit_or : First → List ℕ → First
exit_or other bytes = if begins_with exit_field bytes then Begins ExitLanguage 9 Pjl else other
