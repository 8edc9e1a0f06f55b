use Rattle.std.proofs.Common.{◌≡◌, ◌++◌, ◌∙◌, ℕ, Bool, List, [], true, false, ap, refl, sym}
use Rattle.meanings.specs.Explanations.{end_of_explain}
use Rattle.requests.specs.declared.status.Status.TheVariants.{Help, Usage}
use Rattle.foreign_calls.proofs.explaining.explained_of.Goals as goal

helped : (unheard failed : Bool) → end_of_explain unheard failed ≡ Help → (unheard ≡ false) × (failed ≡ false)
helped false false is = (refl, refl)
helped false true is = cc
helped true failed is = cc

refused : (unheard failed : Bool) → end_of_explain unheard failed ≡ Usage → unheard ≡ true
refused true failed is = refl
refused false false is = cc
refused false true is = cc

-- what stands behind nothing is all
all_added : (before after added : List ℕ) → after ≡ before ++ added → before ≡ [] → after ≡ added
all_added before after added adds empty = adds ∙ ap (λ front. front ++ added) empty

pub returns-in-Help-clause-explained : goal.returns-in-Help-clause-explained
returns-in-Help-clause-explained g c =
    let said = c.explain.ensures in
    let ends = helped _ _ (sym said.status ∙ c.in-Help.is) in
    let adds = (said.text ends.0).whole ends.1 in
    (ends.0, c.into_bytes.ensures ∙ all_added _ _ _ adds.taken c.new-text.ensures.bytes)

pub returns-in-Usage-clause-why : goal.returns-in-Usage-clause-why
returns-in-Usage-clause-why g c = refused _ _ (sym c.explain.ensures.status ∙ c.in-Usage.is)
