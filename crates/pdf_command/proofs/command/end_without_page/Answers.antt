use Rattle.std.proofs.Common.{◌≡◌, ◌∙◌, IsFalse, IsTrue, ap, refl, subst, sym, true≢false}
use Rattle.picture_command.specs.PageSearch.{search_rendering}
use Rattle.picture_command.specs.Picture.{StopsSearch, TellsOutcome, is_missing}
use Rattle.requests.specs.declared.selection.Selection.{Selection}
use Rattle.streams.specs.Errors.{is_err_of_read}
use Rattle.streams.specs.Writing.{Writes}
use Rattle.subcommands.proofs.Leaves.{Stays-none}
use Rattle.pdf_command.proofs.command.end_without_page.Goals as goal

-- ---- it could not be read

pub returns-in-Err-clause-found : goal.returns-in-Err-clause-found
returns-in-Err-clause-found g c =
    let pages = c.args.pages.now in
    let stops =
    subst
    (λ (selection : Selection).
    StopsSearch (search_rendering pages.profile.now pages.panel selection pages.wanted.job.now pages.wanted.printers.now)
    (g.S.Source.state c.args.job.now) (g.S.Source.state c.find_pages.new.job))
    c.first_wanted.ensures c.in-Err.ensures.stops in
    (c.in-Err.ensures.error, stops, Stays-none _)

pub returns-in-Err-clause-read : goal.returns-in-Err-clause-read
returns-in-Err-clause-read g c = c.find_pages.ensures.read ∙ ap is_err_of_read c.in-Err.is

pub returns-in-Err-clause-turns : goal.returns-in-Err-clause-turns
returns-in-Err-clause-turns g c = λ is. c.in-Err.ensures.turns cc

pub returns-in-Err-clause-quiet : goal.returns-in-Err-clause-quiet
returns-in-Err-clause-quiet g c = λ there. refl

-- ---- it does not have the page

pub returns-then-is_missing-clause-found : goal.returns-then-is_missing-clause-found
returns-then-is_missing-clause-found g c =
    let pages = c.args.pages.now in
    let found = c.in-Ok.found in
    let told =
    subst
    (λ (selection : Selection).
    TellsOutcome (search_rendering pages.profile.now pages.panel selection pages.wanted.job.now pages.wanted.printers.now)
    (g.S.Source.state c.args.job.now) (g.S.Source.state c.find_pages.new.job) found.text.items found.outcome)
    c.first_wanted.ensures c.in-Ok.ensures.told in
    let missing =
    subst (λ (selection : Selection). IsTrue (is_missing selection found.text.items found.outcome)) c.first_wanted.ensures
    (sym c.if-is_missing.ensures) in (
      refl,
      record {
        text = found.text.items;
        outcome = found.outcome;
        told = told;
        missing = missing;
        line =
            subst (Writes (g.E.Outlet.state c.args.stderr.now) (g.E.Outlet.state c.write_text.new.outlet)) c.as_slice.ensures.value
            c.write_text.ensures.text;
      },
    )

pub returns-then-is_missing-clause-read : goal.returns-then-is_missing-clause-read
returns-then-is_missing-clause-read g c = c.find_pages.ensures.read ∙ ap is_err_of_read c.in-Ok.is

pub returns-then-is_missing-clause-turns : goal.returns-then-is_missing-clause-turns
returns-then-is_missing-clause-turns g c = λ is. absurd cc

pub returns-then-is_missing-clause-quiet : goal.returns-then-is_missing-clause-quiet
returns-then-is_missing-clause-quiet g c = λ there. absurd (true≢false there)

-- ---- it has the page

pub returns-clause-found : goal.returns-clause-found
returns-clause-found g c =
    let pages = c.args.pages.now in
    let found = c.in-Ok.found in
    record {
      text = found.text.items;
      outcome = found.outcome;
      told =
          subst
          (λ (selection : Selection).
          TellsOutcome (search_rendering pages.profile.now pages.panel selection pages.wanted.job.now pages.wanted.printers.now)
          (g.S.Source.state c.args.job.now) (g.S.Source.state c.find_pages.new.job) found.text.items found.outcome)
          c.first_wanted.ensures c.in-Ok.ensures.told;
      there =
          subst (λ (selection : Selection). IsFalse (is_missing selection found.text.items found.outcome)) c.first_wanted.ensures
          (sym c.if-is_missing.ensures);
    }

pub returns-clause-read : goal.returns-clause-read
returns-clause-read g c = c.find_pages.ensures.read ∙ ap is_err_of_read c.in-Ok.is

pub returns-clause-quiet : goal.returns-clause-quiet
returns-clause-quiet g c = λ there. refl
