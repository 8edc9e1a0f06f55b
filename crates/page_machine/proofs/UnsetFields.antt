-- What is known of the fields that are read where one of them is unset, or none is, whatever is watched.
use Rattle.std.proofs.Common.{◌≡◌, zero, suc, Bool, true, false, cond, ◌&&◌, ◌||◌, not, is_some, is_none}
use Rattle.std.proofs.Common.{List, [], ◌∷◌, refl, ap, sym, ◌∙◌, subst, Option, Some, None, arith}
use Rattle.std.specs.List.{Contains}
use Rattle.std.proofs.lemmas.Bool.{false≢true}
use Rattle.device_profile.specs.declared.field.Field.{Field}
use Rattle.device_profile.specs.declared.field.Field.TheVariants.{Size, Orientation, Vmi, Font, Copies, Sides, Tray, LineTerm}
use Rattle.page_env.specs.declared.macros.Control.{Control}
use Rattle.page_env.specs.declared.macros.Control.TheVariants.{Begin, End, Execute, Call, EnableOverlay, DisableOverlay, DeleteAll, Delete}
use Rattle.page_env.specs.declared.macros.Control.TheVariants.{MakeTemporary}
use Rattle.page_env.specs.declared.page.FontParts.{FontParts}
use Rattle.page_env.specs.Effect.{first_finding, is_unset, first_unset, TableLine, Effect, fails_or, judged}
use Rattle.page_env.specs.Effect as effect
use Rattle.page_env.specs.FontInForce.{are_set}
use Rattle.page_env.specs.Macros.{control_checks}
use Rattle.page_env.specs.Order.{find_unset}
use Rattle.page_env.specs.Settings.{Settings, State}
use Rattle.page_env.specs.Sound.{plain_settings, plain_state}
use Rattle.page_env.specs.Untouched.{is_some_part, unset_parts, names_font}
use Rattle.page_machine.specs.Run.{Run, Done}
use Rattle.page_machine.specs.Macros.{closing_reads}
use Rattle.page_machine.specs.Laws.{plain_ending, IsSet}
use Rattle.page_machine.proofs.Forget.{plain, first_unset-plain}

-- a field that is found unset is among those that are read
pub first_among : (settings : Settings) (reads : List Field) (field : Field) → first_unset settings reads ≡ Some field →
    Contains reads field × (is_unset settings field ≡ true)
first_among settings [] field e = absurd cc
first_among settings (f ∷ fs) field e = by (first_among settings fs field) (is_unset settings f) refl
  where
    at_head : Some f ≡ Some field → f ≡ field
    at_head e' = cc

    by : (first_unset settings fs ≡ Some field → Contains fs field × (is_unset settings field ≡ true)) → (b : Bool) →
        is_unset settings f ≡ b → Contains (f ∷ fs) field × (is_unset settings field ≡ true)
    by rest true is =
        let same : f ≡ field = at_head (sym (ap (λ b. cond b (Some f) (first_unset settings fs)) is) ∙ e) in
        ((zero, omega arith, same), subst (λ g. is_unset settings g ≡ true) same is)
    by rest false is =
        let later = rest (sym (ap (λ b. cond b (Some f) (first_unset settings fs)) is) ∙ e) in
        ((suc later.0.0, omega (arith, later.0.1), later.0.2), later.1)

pub among_font : (reads : List Field) → Contains reads Font → names_font reads ≡ true
among_font [] (k, h, is) = absurd (omega (arith, h))
among_font (Font ∷ fs) c = refl
among_font (Size ∷ fs) (zero, h, is) = absurd cc
among_font (Size ∷ fs) (suc k, h, is) = among_font fs (k, omega (arith, h), is)
among_font (Orientation ∷ fs) (zero, h, is) = absurd cc
among_font (Orientation ∷ fs) (suc k, h, is) = among_font fs (k, omega (arith, h), is)
among_font (Vmi ∷ fs) (zero, h, is) = absurd cc
among_font (Vmi ∷ fs) (suc k, h, is) = among_font fs (k, omega (arith, h), is)
among_font (Copies ∷ fs) (zero, h, is) = absurd cc
among_font (Copies ∷ fs) (suc k, h, is) = among_font fs (k, omega (arith, h), is)
among_font (Sides ∷ fs) (zero, h, is) = absurd cc
among_font (Sides ∷ fs) (suc k, h, is) = among_font fs (k, omega (arith, h), is)
among_font (Tray ∷ fs) (zero, h, is) = absurd cc
among_font (Tray ∷ fs) (suc k, h, is) = among_font fs (k, omega (arith, h), is)
among_font (LineTerm ∷ fs) (zero, h, is) = absurd cc
among_font (LineTerm ∷ fs) (suc k, h, is) = among_font fs (k, omega (arith, h), is)

-- some part is not set, unless all are
pub some_part : (parts : FontParts) → is_some_part (unset_parts parts) ≡ not (are_set parts)
some_part parts = by parts.symbol_set parts.spacing parts.pitch parts.height parts.style parts.weight parts.typeface
  where
    by : {A B C D E F G : Type 0} (a : Option A) (b : Option B) (c : Option C) (d : Option D) (e : Option E) (f : Option F) (g : Option G) →
        (is_none a || is_none b || is_none c || is_none d || is_none e || is_none f || is_none g)
        ≡ not (is_some a && is_some b && is_some c && is_some d && is_some e && is_some f && is_some g)
    by None b c d e f g = refl
    by (Some a) None c d e f g = refl
    by (Some a) (Some b) None d e f g = refl
    by (Some a) (Some b) (Some c) None e f g = refl
    by (Some a) (Some b) (Some c) (Some d) None f g = refl
    by (Some a) (Some b) (Some c) (Some d) (Some e) None g = refl
    by (Some a) (Some b) (Some c) (Some d) (Some e) (Some f) None = refl
    by (Some a) (Some b) (Some c) (Some d) (Some e) (Some f) (Some g) = refl

pub both_of : (touched watched : Bool) → cond touched watched false ≡ true → (touched ≡ true) × (watched ≡ true)
both_of true w e = (refl, e)
both_of false w e = absurd (false≢true e)

pub not_set : (b : Bool) → (b ≡ true → ⊥) → not b ≡ true
not_set true h = absurd (h refl)
not_set false h = refl

-- a line's plain checks find nothing, and nothing is unset: what it comes to
pub judged_plain : (settings : Settings) (line : TableLine) (e : Effect) → first_finding line.checks_before ≡ None →
    first_finding line.checks_after ≡ None → judged (plain_settings settings) line e ≡ e
judged_plain settings line e before behind =
    ap
    (λ o. fails_or o (effect.unset_or (first_unset (plain_settings settings) line.reads)
    (fails_or (first_finding line.checks_after) e))) before
    ∙ ap (λ o. effect.unset_or o (fails_or (first_finding line.checks_after) e)) (first_unset-plain settings line.reads)
    ∙ ap (λ o. fails_or o e) behind

pub control_checks_set : (known in_macro : Bool) (control : Option Control) → find_unset (control_checks known in_macro control) ≡ false
control_checks_set known in_macro None = refl
control_checks_set known in_macro (Some Begin) = refl
control_checks_set known in_macro (Some End) = refl
control_checks_set known in_macro (Some Execute) = refl
control_checks_set known in_macro (Some Call) = refl
control_checks_set known in_macro (Some EnableOverlay) = refl
control_checks_set known in_macro (Some DisableOverlay) = refl
control_checks_set known in_macro (Some DeleteAll) = refl
control_checks_set known in_macro (Some Delete) = refl
control_checks_set known in_macro (Some MakeTemporary) = refl

-- the five values of the page are set where its closing read them
pub closing_set : (settings : Settings) → first_unset settings closing_reads ≡ None →
    (settings.unset.size ≡ false) × (settings.unset.orientation ≡ false) × (settings.unset.copies ≡ false)
    × (settings.unset.sides ≡ false) × (settings.unset.tray ≡ false)
closing_set settings none =
    by settings.unset.size settings.unset.orientation settings.unset.copies settings.unset.sides settings.unset.tray none
  where
    by : (a b c d e : Bool) →
        cond a (Some Size) (cond b (Some Orientation) (cond c (Some Copies) (cond d (Some Sides) (cond e (Some Tray) None)))) ≡ None →
        (a ≡ false) × (b ≡ false) × (c ≡ false) × (d ≡ false) × (e ≡ false)
    by true b c d e h = absurd cc
    by false true c d e h = absurd cc
    by false false true d e h = absurd cc
    by false false false true e h = absurd cc
    by false false false false true h = absurd cc
    by false false false false false h = (refl, refl, refl, refl, refl)

-- a run that is done, and its plain run
pub plain_done : (r r' : Run) → (IsSet r.ending → r' ≡ plain r) → (t : State) → r.ending ≡ Done t → r'.ending ≡ Done (plain_state t)
plain_done r r' p t is = ap (λ (x : Run). x.ending) (p (subst IsSet (sym is) tt)) ∙ ap plain_ending is
