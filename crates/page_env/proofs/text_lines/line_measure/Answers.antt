use Rattle.std.proofs.Common.{◌≡◌, ◌∙◌, cond, Option, None, Some, false, refl, ap, sym}
use Rattle.std.specs.Prelude.{◌-ℤ◌, unwrap_or}
use Rattle.std.specs.Option.{is_some, option_copied}
use Rattle.device_profile.specs.declared.geometry.Geometry.{Geometry}
use Rattle.device_profile.specs.Faces.{face_for}
use Rattle.page_env.specs.Settings.{half_inch}
use Rattle.page_env.specs.Text.{text_reads}
use Rattle.page_env.specs.TextMeasure.{area_of}
use Rattle.page_env.proofs.text_lines.line_measure.Goals as goal

none_is : {X : Type 0} (o : Option X) → is_some o ≡ false → o ≡ None
none_is None e = refl
none_is (Some x) e = absurd cc

pub returns : goal.returns
unfolding text_reads
returns g c =
    let page = c.args.page.now in
    let job = page.env.job in
    let bounds = c.text_bounds-bounds.ensures in
    λ panel.
    let known = c.in-Some.ensures panel in
    record {
      read = λ y. known.0;
      request = known.3;
      face = c.in_ok-face.face.now;
      face_is = ap (face_for c.args.profile.now.faces) known.3 ∙ sym c.font.ensures.face ∙ ap option_copied c.in_ok-face.was;
      looks = record {
        advance = sym c.advance.ensures.value;
        ascent = sym c.ascent.ensures.value;
        descent = sym c.descent.ensures.value;
        codes_are = refl;
      };
      origin = known.2;
      column = sym c.column_width.ensures;
      left = refl;
      area = ap area_of known.1 ∙ sym bounds.area;
      width = ap (λ (q : Geometry). q.logical_width) known.1 ∙ sym bounds.width;
      right = ap (λ (q : Geometry). unwrap_or job.right_margin q.logical_width) known.1 ∙ sym bounds.right;
      foot =
          ap
          (λ (q : Geometry).
          cond job.skips_perforation (unwrap_or job.bottom_margin (q.logical_height -ℤ half_inch)) q.logical_height)
          known.1
          ∙ sym bounds.foot;
      ends = λ ends_lines.
          let e = c.line_ends-ends.ensures.known (sym bounds.ends_lines ∙ ends_lines) panel in
          record { read = e.0; line_read = e.1; termination = e.2; line = e.3 };
      no_raster = none_is page.raster (sym c.is_some.ensures ∙ c.if-is_some.false);
    }
