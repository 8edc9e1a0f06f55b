-- Words and refusals, computed from the definitions alone.
use Rattle.std.proofs.Common.{◌≡◌, [], ◌∷◌, Some, None, refl}
use Rattle.std.specs.Prelude.{codes}
use Rattle.device_profile.specs.declared.fault.Cause.TheVariants.{Version}
use Rattle.device_profile.specs.declared.sample.Sample.TheVariants.{C}
use Rattle.device_profile.specs.Samples.{printer_a}
use Rattle.device_profile.specs.Text.{printer_of_text}
use Rattle.requests.specs.declared.status.Status.TheVariants.{Profile}
use Rattle.named_inputs.specs.Fleet.{RefusesFirst}
use Rattle.named_inputs.specs.Texts.{sample_named}

third_sample : sample_named (codes "@C") ≡ Some C
third_sample = refl

no_sample : sample_named (codes "@E") ≡ None
no_sample = refl

longer_word : sample_named (codes "@AB") ≡ None
longer_word = refl

-- of three texts, of which the first is not known, the second is refused
second_refused : RefusesFirst (None ∷ Some (codes "pclprofile 3\n") ∷ Some (codes "pclprofile 4\n") ∷ []) (Profile 2 1 Version)
unfolding printer_of_text
second_refused = record {
  texts_before = None ∷ [];
  text = Some (codes "pclprofile 3\n");
  after = Some (codes "pclprofile 4\n") ∷ [];
  in_order = refl;
  number_is = refl;
  printers = printer_a ∷ [];
  accepted = (tt, tt);
  holds = refl;
}
