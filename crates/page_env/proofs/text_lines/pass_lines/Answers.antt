use Rattle.std.proofs.Common.{◌≡◌, ◌∙◌, ◌==◌, not, ◌||◌, ap, sym, arith}
use Rattle.std.proofs.lemmas.Bool.Decides.{nat_tests}
use Rattle.page_env.specs.TextLines.{page_at, place_behind}
use Rattle.page_env.proofs.TextRooms.{behind_all}
use Rattle.page_env.proofs.text_lines.pass_lines.Goals as goal
use Rattle.page_env.proofs.text_lines.pass_lines.Goals.{then-lines-ne0, else-lines-ne0}

pub returns : goal.returns
returns c = λ printer look from bytes h.
    let page = c.args.page.now in
    let lines = c.args.lines.now in
    let marked : c.if-lines-ne0.page ≡ (not (lines.glyphs == 0) || page.marked) =
    elim c.if-lines-ne0.branch [
      | then-lines-ne0 w ↦ grind (arith, nat_tests, w.page-is, w.if-lines-ne0.true)
      | else-lines-ne0 w ↦ grind (arith, nat_tests, w.page-is, w.if-lines-ne0.false)
    ] in
    (λ i. record (page_at (h.end i) page) { marked = marked i })
    ∙ ap (λ n. record (page_at (place_behind look bytes from) page) { marked = not (n == 0) || page.marked }) h.glyphs
    ∙ sym (behind_all bytes look from page h.stands)
