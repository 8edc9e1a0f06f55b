use Rattle.std.proofs.Common.{rules, Bor}
use Rattle.std.proofs.lemmas.Iterator.{YieldsList-from_slice}
use Rattle.std.proofs.lemmas.Iterator.Search.{all_from_yields_List}
use Rattle.device_profile.specs.declared.key.Key.{Key}
use Rattle.device_profile.specs.Text.{is_given}
use Rattle.device_profile.proofs.draft.Draft.is_complete.Goals as goal

pub returns : goal.returns
returns g c =
    all_from_yields_List {v = λ (key : Bor Key). key.now} (is_given c.args.self.now) _ _ c.all.result c.all.ensures.ran
    (YieldsList-from_slice _ c.iter.ensures.rest) (λ x b q called. search rules)
