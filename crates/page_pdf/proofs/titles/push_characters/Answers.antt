use Rattle.std.proofs.Common.{◌∙◌, ◌++◌, ℕ, List, sym, ap, map-id}
use Rattle.std.specs.List.{flat_map}
use Rattle.std.proofs.lemmas.Iterator.{YieldsList-from_chars}
use Rattle.std.proofs.lemmas.Iterator.Consumers.{YieldsList-end}
use Rattle.std.proofs.lemmas.List.{flat_map_more}
use Rattle.page_pdf.specs.Titles.{character_units}
use Rattle.page_pdf.proofs.titles.push_characters.Goals as goal

pub loop-character-preserved : goal.loop-character-preserved
loop-character-preserved g c =
    c.in_ok-push_character.ensures
    ∙ ap (λ (l : List ℕ). l ++ character_units c.in-Some.character) c.loop-character.invariant
    ∙ flat_map_more character_units _ c.loop-character.yielded c.in-Some.character

pub returns : goal.returns
returns g c =
    let end = YieldsList-end (YieldsList-from_chars c.args.told.now c.utf8.told cc) c.loop-character.yielded _
    c.loop-character.yielded_by _ _ c.in-None.is c.next.ensures.steps in
    c.loop-character.invariant
    ∙ ap (λ (cs : List ℕ). c.args.text.now.items ++ flat_map character_units cs) (sym (map-id c.loop-character.yielded) ∙ end.0)
