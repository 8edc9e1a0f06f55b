use Rattle.std.proofs.Common.{flat_map, map, subst, sym}
use Rattle.std.proofs.lemmas.Iterator.Consumers.{YieldsList-end}
use Rattle.std.proofs.lemmas.Iterator.Splits.{YieldsList-from_lines}
use Rattle.std.specs.Prelude.{string_bytes}
use Rattle.many_jobs.specs.FleetFile.{AddsBytes, line_words, words_at}
use Rattle.many_jobs.proofs.FleetWords.{adds_more, adds_none, words_more}
use Rattle.many_jobs.proofs.fleet_file.push_words.Goals as goal

pub loop-line-init : goal.loop-line-init
loop-line-init g c = adds_none string_bytes c.args.words.now.items

pub loop-line-preserved : goal.loop-line-preserved
loop-line-preserved g c =
    let path = c.args.path.now in
    let line = c.in-Some.line in
    let before = flat_map (words_at path) (map (λ line. line.now) c.loop-line.yielded) in
    let words =
    subst (λ trimmed. AddsBytes string_bytes c.loop-line.words.items c.push_word.new.words.items (line_words path trimmed))
    c.trim.ensures.trim c.in_ok-push_word.ensures in
    subst (AddsBytes string_bytes c.args.words.now.items c.push_word.new.words.items) (sym (words_more path c.loop-line.yielded line))
    (adds_more string_bytes c.args.words.now.items c.loop-line.words.items c.push_word.new.words.items before
    (words_at path line.now) c.loop-line.invariant words)

pub returns : goal.returns
returns g c =
    let path = c.args.path.now in
    let all =
    YieldsList-end
    (YieldsList-from_lines c.args.text.now cc) c.loop-line.yielded _ c.loop-line.yielded_by _ _ c.in-None.is c.next.ensures.steps in
    subst (λ named. AddsBytes string_bytes c.args.words.now.items c.loop-line.words.items (flat_map (words_at path) named))
    all.0 c.loop-line.invariant
