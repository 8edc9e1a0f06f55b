-- The group of the command that stands next, where one may.
use Rattle.std.specs.Prelude.{◌==◌, ◌&&◌, ℕ, List, length, get_or, cond, nat_le, Option, Some, None}
use Rattle.pcl_items.specs.declared.pcl.command.Group.{Group}
use Rattle.pcl_items.specs.Escapes.Commands.{group_at}
use Rattle.pcl_lexer.specs.Lexing.Contexts.{Context, Pcl, Sequence}
use Rattle.pcl_lexer.specs.Lexing.State.{LexerState}

-- ESC and the two characters of a group
abbrev pub begun_group : List ℕ → Option Group
begun_group bytes =
    cond (nat_le 3 (length bytes) && (get_or bytes 0 0 == 27)) (group_at (get_or bytes 1 0) (get_or bytes 2 0)) None

-- in a combined sequence that of the sequence, and between items that of the bytes ahead
abbrev pub group_in : Context → List ℕ → Option Group
group_in Pcl bytes = begun_group bytes
group_in (Sequence group) bytes = Some group
group_in context bytes = None

abbrev pub group_ahead : LexerState → Option Group
group_ahead lexer = group_in lexer.context lexer.rest
