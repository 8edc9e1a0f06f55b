use Rattle.std.proofs.Common.{◌∙◌, ◌++◌, ap, codes}
use Rattle.shown_bytes.specs.Shown.{shown}
use Rattle.profile_commands.proofs.Sheets.{in_order}
use Rattle.profile_commands.proofs.sheet.refusal_line.Goals as goal

pub returns : goal.returns
returns g c =
    in_order _ _ _ _ _ _ _ _ _ _
    (c.in_ok-extend_from_slice.ensures.items ∙ ap (λ l. l ++ codes "error: the sheet for '") c.new-line.ensures.items)
    c.in_ok-push_shown.ensures c.in_ok-extend_from_slice-2.ensures.items c.in_ok-extend_from_slice-3.ensures.items
    (ap shown c.as_bytes.ensures.value) (c.as_slice.ensures.value ∙ c.in_ok-line_of_failure.ensures)
