use Rattle.std.proofs.Common.{◌∙◌, cond, pos, Some, None, ap, sym}
use Rattle.tick_length.specs.declared.unit.Unit.TheVariants.{FortyEighthInch}
use Rattle.device_profile.specs.declared.field.Field.TheVariants.{Vmi}
use Rattle.page_env.specs.Settings.{is_from_panel, value_at}
use Rattle.page_env.specs.Places.{ticks_in}
use Rattle.page_env.proofs.text_lines.line_ends.Goals as goal

pub returns-clause-known : goal.returns-clause-known
returns-clause-known c = λ known panel.
    let read = c.in-Ok-Ok.ensures panel in
    let vmi = c.in-Ok-Ok.ensures' in (
      read.0,
      ap (λ cell. cond (is_from_panel cell) (Some Vmi) None) vmi,
      read.1,
      ap (λ cell. pos (ticks_in FortyEighthInch (value_at panel.vmi cell))) vmi ∙ sym c.length_in.ensures,
    )
