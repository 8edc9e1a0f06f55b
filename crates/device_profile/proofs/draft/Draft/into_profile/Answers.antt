use Rattle.std.proofs.Common.{◌≡◌, IsTrue, subst, sym}
use Rattle.device_profile.specs.Draft.{Draft}
use Rattle.device_profile.specs.DraftFields.{draft_of_fields}
use Rattle.device_profile.specs.Given.{IsGiven}
use Rattle.device_profile.specs.Text.{is_complete, has_its_pages, has_its_choices}
use Rattle.device_profile.proofs.Finished.{is_valid-given}
use Rattle.device_profile.proofs.draft.Draft.into_profile.Goals as goal

pub invariant_of-result : goal.invariant_of-result
invariant_of-result g c =
    let draft : Draft = draft_of_fields c.self.inside in
    let back : c.args.self ≡ draft = sym c.self.view_is in
    rw (c.is_duplex-has_duplex.ensures, c.unwrap_or.ensures, c.unwrap_or-2.ensures, back)
    (is_valid-given draft (subst IsGiven back c.requires.given)
    (subst (λ d. IsTrue (is_complete d)) back c.requires.complete)
    (subst (λ d. IsTrue (has_its_pages d)) back c.requires.pages)
    (subst (λ d. IsTrue (has_its_choices d)) back c.requires.choices))
