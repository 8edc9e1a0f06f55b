use Rattle.std.proofs.Common.{[], ap, append-nil, get_or, map, refl, rules, subst, sym, ◌∙◌}
use Rattle.std.specs.Prelude.{string_bytes}
use Rattle.std.proofs.lemmas.Result.{err_from_is_err_and}
use Rattle.many_jobs.specs.FleetFile.{TellsOfFleet}
use Rattle.many_requests.proofs.Contained.{contained}
use Rattle.many_requests.proofs.Fleets.{asked_all, reads_all, reads_more, reads_none}
use Rattle.named_inputs.proofs.FleetFacts.{named_more}
use Rattle.many_requests.proofs.many.read_fleets.Goals as goal

pub loop-path-init : goal.loop-path-init
loop-path-init g c = record {
  working = c.requires.texts;
  same = refl;
  quiet = refl;
  asked = sym (append-nil (g.T.ProfileTexts.named c.args.texts.now));
  read =
      reads_none (g.T.ProfileTexts.text_of c.args.texts.now) (g.T.ProfileTexts.given c.args.texts.now) _
      (ap (map string_bytes) c.new-words.ensures.items);
}

pub loop-path-preserved : goal.loop-path-preserved
loop-path-preserved g c =
    let path = get_or c.args.paths.now c.loop-path.path-index (record { ref_ptr = (0, 0); now = [] }) in
    record {
      working = c.in_ok-read_fleet_file.ensures.working;
      same = c.read_fleet_file.ensures.same ∙ c.loop-path.invariant.same;
      quiet = c.in_ok-read_fleet_file.ensures.quiet ∙ c.loop-path.invariant.quiet;
      asked =
          named_more (λ path. path.now) c.args.paths.now c.loop-path.path-index _ _ _ _ c.loop-path-test.true
          c.loop-path.invariant.asked c.read_fleet_file.ensures.asked;
      read =
          reads_more string_bytes (g.T.ProfileTexts.text_of c.args.texts.now)
          (g.T.ProfileTexts.text_of c.loop-path.texts) c.args.paths.now c.loop-path.path-index path
          (g.T.ProfileTexts.given c.args.texts.now) (g.T.ProfileTexts.given c.loop-path.texts)
          (g.T.ProfileTexts.given c.read_fleet_file.new.texts)
          c.loop-path.words.items c.read_fleet_file.new.words.items c.loop-path-test.true
          (search rules) c.loop-path.invariant.same c.loop-path.invariant.read c.in_ok-read_fleet_file.ensures.named;
    }

pub returns-in_err-read_fleet_file-clause-end : goal.returns-in_err-read_fleet_file-clause-end
returns-in_err-read_fleet_file-clause-end g c =
    let ends = err_from_is_err_and c.from_residual.result c.from_residual.ensures.1 in
    let path = get_or c.args.paths.now c.loop-path.path-index (record { ref_ptr = (0, 0); now = [] }) in
    rw (ends.1, ends.2) (
      path.now,
      contained c.args.paths.now c.loop-path.path-index _ c.loop-path-test.true,
      subst
          (λ err.
          TellsOfFleet path.now c.in_err-read_fleet_file.field-0.0 (g.E.Outlet.state err) (g.E.Outlet.state c.read_fleet_file.new.stderr))
          c.loop-path.invariant.quiet c.in_err-read_fleet_file.ensures.end,
    )

pub returns-clause-read : goal.returns-clause-read
returns-clause-read g c =
    reads_all (g.T.ProfileTexts.text_of c.args.texts.now) c.args.paths.now c.loop-path.path-index (g.T.ProfileTexts.given c.args.texts.now)
    (g.T.ProfileTexts.given c.loop-path.texts) (map string_bytes c.loop-path.words.items)
    (search rules) c.loop-path.invariant.read

pub returns-clause-asked : goal.returns-clause-asked
returns-clause-asked g c = asked_all c.args.paths.now c.loop-path.path-index _ _ (search rules) c.loop-path.invariant.asked
