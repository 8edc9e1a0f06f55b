use Rattle.std.proofs.Common.{sym, ap, ◌∙◌}
use Rattle.std.specs.Option.{option_map}
use Rattle.pcl_items.specs.PjlLines.View.{pjl_view}
use Rattle.pcl_lexer.proofs.PjlLines.Canonical.{line_here}
use Rattle.pcl_lexer.proofs.pjl.first.at_pjl.Goals as goal

pub invariant_of-result : goal.invariant_of-result
invariant_of-result c =
    record {
      spelled =
          line_here c.args.bytes.now c.inside_len-len.result (pjl_view c.in-Some.command) c.inside_len-len.ensures.length
          c.if-len-gt-MOST_INSIDE.false (sym c.pjl_command_of.ensures ∙ ap (option_map pjl_view) c.in-Some.is);
    }
