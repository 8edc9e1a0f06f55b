use Rattle.std.proofs.Common.{◌≡◌, ◌-◌, ◌∙◌, Some, sym, ap, arith, length, drop, get_or}
use Rattle.std.proofs.lemmas.List.{length-take, length-drop}
use Rattle.pcl_items.specs.Escapes.Commands.{group_at}
use Rattle.pcl_lexer.specs.Reader.{behind}
use Rattle.pcl_lexer.proofs.Escapes.ReadCommands.{behind_characters, with_data_behind}
use Rattle.pcl_lexer.proofs.pcl.command_with_data.escaped.Goals as goal

pub returns-in_ok-read-in-len2-up : goal.returns-in_ok-read-in-len2-up
returns-in_ok-read-in-len2-up c =
    let bytes = c.args.bytes.now in
    let two = c.in-len2-up.len_at_least in
    let known : group_at (get_or bytes 0 0) (get_or bytes 1 0) ≡ Some c.in_ok-group-in-len2-up.group =
    sym c.of.ensures ∙ c.in_ok-group-in-len2-up.was in
    let read = c.in_ok-read-in-len2-up.ensures in (
      λ whole. behind_characters whole c.in_ok-group-in-len2-up.group bytes two known ∙ ap (behind 3) read.0
          ∙ with_data_behind c.in_ok-read-in-len2-up.read bytes two read.1.1,
      (omega (arith, read.1.0, two, length-take (length bytes - 2) (drop 2 bytes), length-drop 2 bytes), omega (arith, read.1.1)),
    )
