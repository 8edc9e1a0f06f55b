use Rattle.std.proofs.Common.{◌≡◌, List, length, true, sym, subst, ◌∙◌}
use Rattle.std.specs.Prelude.{nat_lt}
use Rattle.std.proofs.lemmas.Bool.{eq-eqb, not-false}
use Rattle.pcl_items.specs.declared.pcl.command.Command.TheVariants as commands
use Rattle.pcl_items.specs.Items.{amount}
use Rattle.page_env.specs.declared.cursor.Cursor.{Cursor}
use Rattle.page_env.specs.CursorPositioning.{stack_room}
use Rattle.page_env.specs.Forms.{FormGoes}
use Rattle.page_env.proofs.FormFacts.{push_goes}
use Rattle.page_env.proofs.forms.push_on.Goals as goal

pub returns-clause-goes : goal.returns-clause-goes
returns-clause-goes c = λ printer has.
    let page = c.args.page.now in
    let n = amount c.args.n in
    let room : nat_lt (length page.stack) stack_room ≡ true = not-false _ (sym c.is_full.ensures.full ∙ c.if-is_full.false) in
    subst (λ (stack : List Cursor). FormGoes printer commands.CursorStack n 0 page (record page { stack = stack })) (sym c.push.ensures)
    (push_goes printer page n c.requires.whole c.in_ok-here.here c.in_ok-here.was room (eq-eqb _ 0 c.requires.push))
