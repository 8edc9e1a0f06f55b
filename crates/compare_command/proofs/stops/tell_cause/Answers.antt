use Rattle.std.proofs.Common.{◌≡◌, arith, option_map, refl, subst}
use Rattle.std.proofs.lemmas.Grind.{common_steps}
use Rattle.streams.specs.Writing.{Writes}
use Rattle.job_reports.specs.Refusals.{unread}
use Rattle.compare_command.proofs.stops.tell_cause.Goals as goal

pub returns : goal.returns
returns g c =
    let cause = option_map (λ words. words.now) c.args.cause in
    let told : c.as_slice.result.now ≡ unread c.args.front.now c.args.name.now cause = grind (arith, common_steps) in (
      cause,
      (
        refl,
        subst (λ text. Writes (g.E.Outlet.state c.args.stderr.now) (g.E.Outlet.state c.write_text.new.outlet) text) told
            c.write_text.ensures.text,
      ),
    )
