use Rattle.std.proofs.Common.{◌≡◌, ◌↔◌, ◌∙◌, refl, sym, ap, subst, true≢false, List, ℕ, Option, Some, Result, Ok, Err}
use Rattle.std.proofs.Common.{IfErr, IfOk, IsNone, IsOkAnd, IsSomeAnd, IsTrue}
use Rattle.printer_models.specs.declared.model.Model.{Model}
use Rattle.printer_models.specs.declared.new_profile.NewError.{NewError}
use Rattle.printer_models.specs.declared.new_profile.NewError.TheVariants.{UnknownModel, Paper, Mismatch, Memory}
use Rattle.printer_models.specs.declared.paper.Paper.{Paper as Sheet}
use Rattle.printer_models.specs.Asked.{papers_asked}
use Rattle.printer_models.specs.Describes.{DescribesModel}
use Rattle.printer_models.specs.declared.panel_lists.PanelLists.{PanelLists}
use Rattle.printer_models.specs.NewText.{DescribesAsked, IsNewError, is_late}
use Rattle.printer_models.proofs.new_profile.new_text.Goals as goal

late_is_new : {T : Type 0} (answer : Result T NewError) (known : Option Model) (model : Model)
    (words : List (List ℕ)) (papers : List Sheet) → known ≡ Some model → papers_asked model words ≡ Ok papers →
    IfErr answer (λ error. IsTrue (is_late error)) → IfErr answer (IsNewError known words)
late_is_new (Ok x) known model words papers is asked late = tt
late_is_new (Err UnknownModel) known model words papers is asked late = absurd (true≢false (sym late))
late_is_new (Err (Paper fault)) known model words papers is asked late = absurd (true≢false (sym late))
late_is_new (Err Mismatch) known model words papers is asked late =
    subst (λ k. IsSomeAnd k (λ m. IsOkAnd (papers_asked m words) (λ ps. Unit {0}))) (sym is)
    (subst (λ r. IsOkAnd r (λ ps. Unit {0})) (sym asked) tt)
late_is_new (Err Memory) known model words papers is asked late = subst (λ k. IsSomeAnd k (λ m. Unit {0})) (sym is) tt

known_is_late : {T : Type 0} (answer : Result T NewError) (known : Option Model) (model : Model) →
    known ≡ Some model → IfErr answer (λ error. IsTrue (is_late error)) → (answer ≡ Err UnknownModel) ↔ IsNone known
known_is_late answer known model is late =
    let no_unknown : (answer ≡ Err UnknownModel) → ⊥ =
    λ unknown. true≢false (sym (subst (λ a. IfErr a (λ error. IsTrue (is_late error))) unknown late)) in
    (λ unknown. absurd (no_unknown unknown), λ none. absurd (true≢false (subst IsNone is none)))

described : {T : Type 0} (answer : Result T NewError) (bytes : T → List ℕ) (known : Option Model) (model : Model)
    (words : List (List ℕ)) (papers : List Sheet) (lists : PanelLists) → known ≡ Some model → papers_asked model words ≡ Ok papers →
    IfOk answer (λ text. DescribesModel model papers lists (bytes text)) →
    IfOk answer (λ text. DescribesAsked known words lists (bytes text))
described (Ok x) bytes known model words papers lists is asked told =
    subst (λ k. IsSomeAnd k (λ m. IsOkAnd (papers_asked m words) (λ ps. DescribesModel m ps lists (bytes x)))) (sym is)
    (subst (λ r. IsOkAnd r (λ ps. DescribesModel model ps lists (bytes x))) (sym asked) told)
described (Err e) bytes known model words papers lists is asked told = tt

pub returns-in_default-clause-text : goal.returns-in_default-clause-text
returns-in_default-clause-text g c = tt

pub returns-in_default-clause-err : goal.returns-in_default-clause-err
returns-in_default-clause-err g c = subst IsNone (sym c.in_default.is ∙ c.named.ensures) refl

pub returns-in_default-clause-unknown : goal.returns-in_default-clause-unknown
returns-in_default-clause-unknown g c = (λ is. subst IsNone (sym c.in_default.is ∙ c.named.ensures) refl, λ none. refl)

pub returns-clause-text : goal.returns-clause-text
returns-clause-text g c =
    described c.model_text.result (λ text. text.items) _ c.in-Some.model _ c.deref.result.now c.args.lists
    (sym c.named.ensures ∙ c.in-Some.is) (c.in_ok-papers.ensures ∙ ap Ok (sym c.deref.ensures.value)) c.model_text.ensures.text

pub returns-clause-err : goal.returns-clause-err
returns-clause-err g c =
    late_is_new c.model_text.result _ c.in-Some.model _ c.in_ok-papers.papers.items (sym c.named.ensures ∙ c.in-Some.is)
    c.in_ok-papers.ensures c.model_text.ensures.err

pub returns-clause-unknown : goal.returns-clause-unknown
returns-clause-unknown g c =
    known_is_late c.model_text.result _ c.in-Some.model (sym c.named.ensures ∙ c.in-Some.is) c.model_text.ensures.err
