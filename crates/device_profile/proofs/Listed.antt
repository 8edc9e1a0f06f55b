-- The lists of the code are those of the definitions.
use Rattle.std.proofs.Common.{◌≡◌, refl}
use Rattle.device_profile.specs.declared.field.TheConstants.Field.{ALL as all_fields}
use Rattle.device_profile.specs.declared.key.TheConstants.Key.{ALL as all_keys}
use Rattle.device_profile.specs.Field.{every_field}
use Rattle.device_profile.specs.Key.{every_key}

each_field : all_fields ≡ every_field
each_field = refl

each_key : all_keys ≡ every_key
each_key = refl
