use Rattle.std.proofs.Common.{◌≡◌, ◌∙◌, Option, None, Some, is_some, false, refl, sym}
use Rattle.page_env.proofs.forms.form_bounds.Goals as goal

is_none : {X : Type 0} (o : Option X) → is_some o ≡ false → o ≡ None
is_none None e = refl
is_none (Some x) e = absurd cc

pub returns : goal.returns
returns g c = record {
  geometry = c.in-Some.geometry.now;
  has = record {
    no_raster = is_none c.args.page.now.raster (sym c.is_some.ensures ∙ c.if-is_some.false);
    read = λ panel. (c.in-Some.ensures panel).0;
    geometry = λ panel. (c.in-Some.ensures panel).1;
  };
  bound = record {
    width = refl;
    height = refl;
    origin = c.origin_on.ensures;
    area = c.area_of.ensures;
    top = refl;
    unit = c.ticks_each.ensures.value;
  };
}
