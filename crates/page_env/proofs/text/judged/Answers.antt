use Rattle.std.proofs.Common.{rules, ◌≡◌, true, Bool, not, pos, ◌+ℤ◌, ℤ, None, Some, unwrap_or, cond}
use Rattle.std.specs.Prelude.{◌&&◌, int_lt}
use Rattle.device_profile.specs.Faces.{has_code}
use Rattle.page_env.specs.declared.finding.Finding.TheVariants.{NoGlyph, OffPage, PastRightMargin}
use Rattle.page_env.specs.Places.{column_with}
use Rattle.page_env.proofs.TextJudging.{found_at_edge}
use Rattle.page_env.proofs.text.judged.Goals as goal

pub returns-in-Err : goal.returns-in-Err
returns-in-Err g c =
    let page = c.args.page.now in
    let page_x : ℤ = page.cursor.x in
    let right : ℤ = unwrap_or page.env.job.right_margin c.args.geometry.now.logical_width in
    let behind : ℤ = page_x +ℤ pos (column_with page.env.job.hmi c.args.face.now) in
    let left : Bool = int_lt page_x right in
    let has : has_code c.args.face.now.codes c.args.code ≡ true = search rules in
    let edge : cond (not left && int_lt c.args.geometry.now.logical_width behind) (Some OffPage)
    (cond (left && int_lt right behind) (Some PastRightMargin) None)
    ≡ Some c.in-Err.finding =
    search rules in
    found_at_edge (has_code c.args.face.now.codes c.args.code) (not left && int_lt c.args.geometry.now.logical_width behind)
    (left && int_lt right behind) (NoGlyph c.args.code) OffPage PastRightMargin c.in-Err.finding _ has edge
