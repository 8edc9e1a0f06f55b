use Rattle.std.proofs.Common.{[], ◌∷◌, ap, subst, sym, ◌∙◌}
use Rattle.std.specs.Prelude.{string_bytes}
use Rattle.many_jobs.specs.FleetFile.{AddsBytes}
use Rattle.many_jobs.proofs.FleetWords.{adds_none, adds_one, line_words-none, line_words-one}
use Rattle.many_jobs.proofs.fleet_file.push_word.Goals as goal

pub returns-then-is_passed_over : goal.returns-then-is_passed_over
returns-then-is_passed_over g c =
    let words = c.args.words.now.items in
    subst (AddsBytes string_bytes words words)
    (sym (line_words-none c.args.path.now c.args.line.now (sym c.is_passed_over.ensures ∙ c.if-is_passed_over.true)))
    (adds_none string_bytes words)

pub returns : goal.returns
returns g c =
    let old = c.args.words.now.items in
    let new = c.push.new.self.items in
    let word = ap (λ bytes. bytes ∷ []) c.in_ok-word.ensures in
    subst (AddsBytes string_bytes old new)
    (word ∙ sym (line_words-one c.args.path.now c.args.line.now (sym c.is_passed_over.ensures ∙ c.if-is_passed_over.false)))
    (adds_one string_bytes old new c.in_ok-word.word c.in_ok-push.ensures.items)
