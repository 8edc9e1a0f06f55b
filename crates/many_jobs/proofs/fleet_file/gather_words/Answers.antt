use Rattle.std.proofs.Common.{rules, subst, ◌∙◌}
use Rattle.std.specs.Prelude.{string_bytes}
use Rattle.many_jobs.specs.FleetFile.{AddsBytes, fleet_words}
use Rattle.many_jobs.proofs.FleetWords.{adds_fleet}
use Rattle.many_jobs.proofs.fleet_file.gather_words.Goals as goal

pub returns-clause-named : goal.returns-clause-named
returns-clause-named g c =
    let path = c.args.path.now in
    let old = c.args.words.now.items in
    let new = c.push_words.new.words.items in
    let adds =
    subst (λ text. AddsBytes string_bytes old new (fleet_words path text))
    (c.in-Ok-from_utf8.ensures.cases.0 ∙ c.as_slice.ensures.value) c.in_ok-push_words.ensures in
    adds_fleet string_bytes (g.T.ProfileTexts.text_of c.args.texts.now) path _ _ old new c.in-Ok.text.items
    (search rules) (search rules) c.in-Ok.ensures.bytes adds (search rules)
