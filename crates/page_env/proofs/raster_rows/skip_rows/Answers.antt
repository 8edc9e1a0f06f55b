use Rattle.std.proofs.Common.{rules, ◌≡◌, ℤ, ℕ, true, false, not, cond, Some, None, option_map, [], ◌∷◌, refl, ap, sym, ◌∙◌}
use Rattle.std.specs.Prelude.{int_lt}
use Rattle.std.specs.Option.{option_map_or}
use Rattle.pcl_items.specs.Items.{amount}
use Rattle.page_env.specs.declared.finding.Finding.TheVariants.{BadValue, RasterTooBig, OffPage}
use Rattle.page_env.specs.Settings.{state_at}
use Rattle.page_env.specs.Places.{vertical_place}
use Rattle.page_env.specs.Numbers.{is_whole_between, whole_of}
use Rattle.page_env.specs.Effect.{check, first_finding, Goes}
use Rattle.page_env.specs.Answers.{Marks}
use Rattle.page_env.specs.Rasters.{not_started, passes_height, raster_behind, place_behind, past_foot, skip_rows}
use Rattle.page_env.proofs.Lines.{late_line, goes_line}
use Rattle.page_env.proofs.Judging.{is_late, is_taken, taken-at}
use Rattle.page_env.proofs.raster_rows.skip_rows.Goals as goal

pub returns-in-None : goal.returns-in-None
unfolding Marks
returns-in-None g c = (
  λ panel.
      let s = state_at panel c.args.page.now in
      let n = amount c.args.n in
      let line = skip_rows c.args.profile.now s n in
      let resolution = s.settings.job.raster.resolution in
      let geometry = c.in_ok-geometry.geometry in
      let whole : is_whole_between 0 32_767 n ≡ true = search rules in
      let height : passes_height (whole_of n) c.in-Some.raster ≡ false = search rules in
      let checks_before : first_finding line.checks_before ≡ None =
      (λ i. first_finding
      (check (not (whole i)) BadValue ∷ not_started (c.in-Some.is i)
      ∷ check (option_map_or (passes_height (whole_of n)) (c.in-Some.is i) false) RasterTooBig ∷ []))
      ∙ ap (λ b. cond b (Some RasterTooBig) None) height in
      let past : int_lt geometry.logical_height (place_behind resolution c.in_ok-geometry.y (whole_of n)) ≡ true =
      ap (λ rows. int_lt geometry.logical_height (place_behind resolution c.in_ok-geometry.y rows)) (sym c.whole_of-2.ensures)
      ∙ is_late _ (place_behind resolution c.in_ok-geometry.y c.whole_of-2.result) (sym c.in-None.is ∙ c.place_behind.ensures) in
      let after : first_finding line.checks_after ≡ Some OffPage =
      ap (λ r. first_finding (past_foot r.0 resolution r.1 (whole_of n) ∷ [])) ((c.in_ok-geometry.ensures panel).1)
      ∙ ap (λ b. cond b (Some OffPage) None) past in
      late_line s.settings line (Goes line.state []) OffPage checks_before ((c.in_ok-geometry.ensures panel).0) after,
  record { env = refl; cursor = refl },
)

pub returns-in-Some-place_behind : goal.returns-in-Some-place_behind
unfolding Marks
returns-in-Some-place_behind g c = (
  λ panel.
      let s = state_at panel c.args.page.now in
      let n = amount c.args.n in
      let line = skip_rows c.args.profile.now s n in
      let resolution = s.settings.job.raster.resolution in
      let geometry = c.in_ok-geometry.geometry in
      let whole : is_whole_between 0 32_767 n ≡ true = search rules in
      let height : passes_height (whole_of n) c.in-Some.raster ≡ false = search rules in
      let checks_before : first_finding line.checks_before ≡ None =
      (λ i. first_finding
      (check (not (whole i)) BadValue ∷ not_started (c.in-Some.is i)
      ∷ check (option_map_or (passes_height (whole_of n)) (c.in-Some.is i) false) RasterTooBig ∷ []))
      ∙ ap (λ b. cond b (Some RasterTooBig) None) height in
      let below : ℕ → ℤ = place_behind resolution c.in_ok-geometry.y in
      let taken = sym c.in-Some-place_behind.is ∙ c.place_behind.ensures in
      let stays : int_lt geometry.logical_height (below (whole_of n)) ≡ false =
      ap (λ rows. int_lt geometry.logical_height (below rows)) (sym c.whole_of-2.ensures)
      ∙ is_taken _ (below c.whole_of-2.result) c.in-Some-place_behind.y taken in
      let after : first_finding line.checks_after ≡ None =
      ap (λ r. first_finding (past_foot r.0 resolution r.1 (whole_of n) ∷ [])) ((c.in_ok-geometry.ensures panel).1)
      ∙ ap (λ b. cond b (Some OffPage) None) stays in
      let place : place_behind resolution (vertical_place s) (whole_of n) ≡ c.in-Some-place_behind.y =
      ap (λ r. place_behind resolution r.1 (whole_of n)) ((c.in_ok-geometry.ensures panel).1) ∙ ap below (sym c.whole_of-2.ensures)
      ∙ taken-at _ (below c.whole_of-2.result) c.in-Some-place_behind.y taken in
      let left : raster_behind (whole_of n) c.in-Some.raster ≡ c.in-Some-raster_behind.behind = search rules in
      let raster : option_map (raster_behind (whole_of n)) s.raster ≡ Some c.in-Some-raster_behind.behind =
      ap (option_map (raster_behind (whole_of n))) c.in-Some.is ∙ ap Some left in
      goes_line s.settings line (Goes line.state []) checks_before ((c.in_ok-geometry.ensures panel).0) after
      ∙ (λ i. Goes (record s { cursor = record s.cursor { y = Some (place i) }; raster = raster i }) []),
  tt,
)
