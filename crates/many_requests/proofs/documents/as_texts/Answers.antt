use Rattle.std.proofs.Common.{◌≡◌, ◌∙◌, Bor, List, None, Option, Some, ℕ}
use Rattle.std.specs.Prelude.{MatchOption}
use Rattle.std.specs.Str.{IsUtf8}
use Rattle.many_requests.proofs.documents.as_texts.Goals as goal

-- a text that is a name, and a path, where this is a text
of_name : (texts : Option (Bor (List ℕ) × Bor (List ℕ))) (text name path : List ℕ) → text ≡ name →
    MatchOption texts (IsUtf8 path → ⊥) (λ texts. (texts.0.now ≡ text) × (texts.1.now ≡ path)) →
    MatchOption texts (IsUtf8 name → IsUtf8 path → ⊥) (λ texts. (texts.0.now ≡ name) × (texts.1.now ≡ path))
of_name None text name path is found = λ valid. found
of_name (Some texts) text name path is found = (found.0 ∙ is, found.1)

pub returns-in-Ok : goal.returns-in-Ok
returns-in-Ok c =
    of_name c.with_path.result c.in-Ok.text.now c.args.name.now c.args.path.now c.in-Ok.ensures.cases.0 c.with_path.ensures

pub returns-in-Err : goal.returns-in-Err
returns-in-Err c = λ valid path. c.in-Err.ensures.cases.0 valid
