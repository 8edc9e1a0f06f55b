use Rattle.std.proofs.Common.{◌≡◌, ◌+◌, ◌-◌, ◌∙◌, ℕ, List, length, take, drop, Some, subst, sym, ap, get_or, arith}
use Rattle.pcl_items.specs.Escapes.Commands.{group_at}
use Rattle.pcl_items.specs.declared.pcl.command.Group.{Group}
use Rattle.pcl_lexer.specs.Lexing.Contexts.{Context}
use Rattle.pcl_lexer.specs.Lexing.FirstView.{context_view}
use Rattle.pcl_lexer.specs.Escapes.ReadCommands.{IsAhead, IsInGroup}
use Rattle.pcl_lexer.proofs.Escapes.ReadCommands.{command_ahead, command_behind}
use Rattle.pcl_lexer.proofs.pcl.parameterized.parameterized_in.Goals as goal
use Rattle.pcl_lexer.proofs.pcl.parameterized.parameterized_in.Goals.{in-Sequence, in-Pcl+in-27+in_ok-group-in-Pcl+in_default-group}

pub returns : goal.returns
returns c =
    let bytes : List ℕ = c.args.bytes.now in
    let read = c.in_ok-read.read in
    let Behind : ℕ → Context → Type 0 = λ n context. IsAhead (record read { len = n + read.len }) context bytes in
    let Stands : (Group × ℕ) → Type 0 = λ begun. Behind begun.1 (context_view c.args.context) in
    let InGroup : (Group × ℕ) → Type 0 =
    λ begun. IsInGroup read begun.0 (take (length bytes - begun.1) (drop begun.1 bytes)) in
    let found : InGroup c.match-context.group = c.in_ok-read.ensures in
    elim c.match-context.branch [
      | in-Sequence w ↦
          subst Stands (sym w.group-is)
          (subst (Behind 0) (sym (ap context_view w.in-Sequence.is))
          (command_ahead read w.in-Sequence.group bytes (subst InGroup w.group-is found)))
      | in-Pcl+in-27+in_ok-group-in-Pcl+in_default-group w ↦
          let group = w.in_ok-group-in-Pcl.group in
          let known : group_at (get_or bytes 1 0) (get_or bytes 2 0) ≡ Some group = sym w.of.ensures ∙ w.in_ok-group-in-Pcl.was in
          subst Stands (sym w.group-is)
          (subst (Behind 3) (sym (ap context_view w.in-Pcl.is))
          (command_behind read group bytes (omega arith) (omega arith) known (subst InGroup w.group-is found)))
    ]
