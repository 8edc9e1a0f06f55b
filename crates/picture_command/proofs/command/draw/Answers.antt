use Rattle.std.proofs.Common.{◌≡◌, ◌∙◌, ◌||◌, ap, inl, inr, refl, subst, sym}
use Rattle.std.proofs.Math.Bool.{or-false}
use Rattle.streams.specs.Errors.{is_err_of_read}
use Rattle.streams.specs.Writing.{Writes}
use Rattle.picture_command.proofs.Commands.{Stays-none, draws_told, search_writes}
use Rattle.picture_command.proofs.command.draw.Goals as goal

pub returns-in-Err-clause-left : goal.returns-in-Err-clause-left
returns-in-Err-clause-left g c = inl ((refl, Stays-none _), Stays-none _, c.in-Err.ensures.stops)

pub returns-in-Err-clause-read : goal.returns-in-Err-clause-read
returns-in-Err-clause-read g c =
    ap (λ failed. (g.S.Source.state c.find_pages.new.job).failed || failed) c.requires.second
    ∙ (or-false (g.S.Source.state c.find_pages.new.job).failed
    ∙ (c.find_pages.ensures.read
    ∙ ap is_err_of_read c.in-Err.is))

pub returns-in-Err-clause-write : goal.returns-in-Err-clause-write
returns-in-Err-clause-write g c = c.requires.stdout ∙ search_writes c.in-Err.error c.in-Err.ensures.error

pub returns-in-Err-clause-turns : goal.returns-in-Err-clause-turns
returns-in-Err-clause-turns g c = λ is. inl (c.in-Err.ensures.turns cc)

pub returns-then-is_missing-clause-left : goal.returns-then-is_missing-clause-left
returns-then-is_missing-clause-left g c = record {
  text = c.in-Ok.found.text.items;
  outcome = c.in-Ok.found.outcome;
  told = c.in-Ok.ensures.told;
  behind = record {
    missing = λ missing. record {
      status_is = refl;
      undrawn = (refl, Stays-none _);
      told =
          subst (Writes (g.E.Outlet.state c.args.stderr.now) (g.E.Outlet.state c.write_text.new.outlet)) c.as_slice.ensures.value
          c.write_text.ensures.text;
    };
    drawn = λ drawn. absurd cc;
  };
}

pub returns-then-is_missing-clause-read : goal.returns-then-is_missing-clause-read
returns-then-is_missing-clause-read g c =
    ap (λ failed. (g.S.Source.state c.find_pages.new.job).failed || failed) c.requires.second
    ∙ (or-false (g.S.Source.state c.find_pages.new.job).failed
    ∙ (c.find_pages.ensures.read
    ∙ ap is_err_of_read c.in-Ok.is))

pub returns-clause-left : goal.returns-clause-left
returns-clause-left g c =
    let drawn = c.args.drawn.now in
    draws_told c.draw_found.result drawn.profile.now drawn.panel drawn.selection drawn.names.job.now drawn.names.printers.now _ record {
      text = c.in-Ok.found.text.items;
      outcome = c.in-Ok.found.outcome;
      told = c.in-Ok.ensures.told;
      behind = record { missing = λ missing. absurd cc; drawn = λ drawn. c.draw_found.ensures.left _ _ };
    }

pub returns-clause-read : goal.returns-clause-read
returns-clause-read g c =
    ap (λ failed. failed || (g.S.Source.state c.draw_found.new.job).failed) (c.find_pages.ensures.read ∙ ap is_err_of_read c.in-Ok.is)
    ∙ c.draw_found.ensures.read

pub returns-clause-turns : goal.returns-clause-turns
returns-clause-turns g c = λ is. inr (c.draw_found.ensures.turns is)
