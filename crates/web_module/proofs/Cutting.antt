-- Lemmas on texts that stand one behind another.
use Rattle.std.proofs.Common.{◌≡◌, ◌+◌, ◌<◌, ◌≤◌, ℕ, List, [], ◌∷◌, ◌++◌, length, map, take, drop, get_or, Ok}
use Rattle.std.proofs.Common.{append-nil, append_assoc, add-one, drop-cons, length-append, refl, sym, ap, subst, ◌∙◌}
use Rattle.std.proofs.lemmas.List.{drop_all, map-append}
use Rattle.device_profile.specs.Name.{printer_name}
use Rattle.device_profile.specs.Printer.{Printer}
use Rattle.device_profile.specs.Text.{printer_of_text}
use Rattle.foreign_calls.specs.declared.why.Why.{Why}
use Rattle.foreign_calls.specs.Answers.{IsWhyOf}
use Rattle.web_module.specs.Printers.{Fleet, IsFleetOf, IsRefusedOf, IsWith, texts_of}

-- so many texts are read, and this is left
pub record IsCut (lengths text : List ℕ) (i : ℕ) (left : List ℕ) (fleet : Fleet) : Type 0 where
  pub read : List (List ℕ)
  pub count : length read ≡ i
  pub texts : texts_of lengths text ≡ read ++ texts_of (drop i lengths) left
  pub fleet_is : IsFleetOf read fleet

pub none_cut : (lengths text : List ℕ) (fleet : Fleet) → fleet.printers ≡ [] → fleet.names ≡ [] → IsCut lengths text 0 text fleet
none_cut lengths text fleet printers names = record {
  read = [];
  count = refl;
  texts = refl;
  fleet_is = (ap (map (λ (printer : Printer). Ok printer)) (sym printers), names);
}

-- the next text stands first in what is left
next_text : (lengths left : List ℕ) (i d : ℕ) → i < length lengths →
    texts_of (drop i lengths) left
    ≡ take (get_or lengths i d) left ∷ texts_of (drop (i + 1) lengths) (drop (get_or lengths i d) left)
next_text lengths left i d more =
    ap (λ (ns : List ℕ). texts_of ns left) (drop-cons lengths i d more)
    ∙ ap (λ (k : ℕ). take (get_or lengths i d) left ∷ texts_of (drop k lengths) (drop (get_or lengths i d) left))
    (sym (add-one i))

pub next_cut : (lengths text : List ℕ) (i d : ℕ) (left front behind : List ℕ) (old new : Fleet) → i < length lengths →
    IsCut lengths text i left old → front ≡ take (get_or lengths i d) left → behind ≡ drop (get_or lengths i d) left →
    IsWith front old new → IsCut lengths text (i + 1) behind new
next_cut lengths text i d left front behind old new more cut front_is behind_is added = record {
  read = cut.read ++ front ∷ [];
  count = length-append cut.read (front ∷ []) ∙ ap (λ (k : ℕ). k + 1) cut.count;
  texts = cut.texts ∙ ap (λ (ts : List (List ℕ)). cut.read ++ ts) (next_text lengths left i d more)
      ∙ ap (λ (t : List ℕ). cut.read ++ t ∷ texts_of (drop (i + 1) lengths) (drop (get_or lengths i d) left)) (sym front_is)
      ∙ ap (λ (t : List ℕ). cut.read ++ front ∷ texts_of (drop (i + 1) lengths) t) (sym behind_is)
      ∙ sym (append_assoc cut.read (front ∷ []) (texts_of (drop (i + 1) lengths) behind));
  fleet_is = (
    map-append printer_of_text cut.read (front ∷ [])
        ∙ ap (λ rs. rs ++ printer_of_text front ∷ []) cut.fleet_is.0
        ∙ ap (λ r. map (λ (printer : Printer). Ok printer) old.printers ++ r ∷ []) added.described
        ∙ sym (map-append (λ (printer : Printer). Ok printer) old.printers (added.printer ∷ []))
        ∙ ap (map (λ (printer : Printer). Ok printer)) (sym added.printers),
    added.names ∙ ap (λ (ns : List (List ℕ)). ns ++ printer_name front ∷ []) cut.fleet_is.1
        ∙ sym (map-append printer_name cut.read (front ∷ [])),
  );
}

pub refused_at : (lengths text : List ℕ) (i d : ℕ) (left front : List ℕ) (fleet : Fleet) (why : Why) → i < length lengths →
    IsCut lengths text i left fleet → front ≡ take (get_or lengths i d) left → IsWhyOf (i + 1) front why →
    IsRefusedOf (texts_of lengths text) why
refused_at lengths text i d left front fleet why more cut front_is refused = (
  cut.read,
  front,
  texts_of (drop (i + 1) lengths) (drop (get_or lengths i d) left),
  cut.texts ∙ ap (λ (ts : List (List ℕ)). cut.read ++ ts) (next_text lengths left i d more)
      ∙ ap (λ (t : List ℕ). cut.read ++ t ∷ texts_of (drop (i + 1) lengths) (drop (get_or lengths i d) left)) (sym front_is),
  subst (λ (k : ℕ). IsWhyOf (k + 1) front why) (sym cut.count) refused,
)

pub all_cut : (lengths text : List ℕ) (i : ℕ) (left : List ℕ) (fleet : Fleet) → length lengths ≤ i →
    IsCut lengths text i left fleet → IsFleetOf (texts_of lengths text) fleet
all_cut lengths text i left fleet all cut =
    subst (λ (ts : List (List ℕ)). IsFleetOf ts fleet)
    (sym (cut.texts ∙ ap (λ (ns : List ℕ). cut.read ++ texts_of ns left) (drop_all i lengths all) ∙ append-nil cut.read)) cut.fleet_is
