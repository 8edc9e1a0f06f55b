-- A draft's fields, as definitions see them.
use Rattle.device_profile.specs.Draft.{Draft}
use Rattle.device_profile.specs.declared.draft.Draft.TheInside.{Inside}

abbrev pub draft_of_fields : {A : Type 0} → Inside A → Draft
draft_of_fields d = record {
  is_named = d.is_named;
  choices = d.choices;
  device_trays = d.device_trays.items;
  duplex = d.duplex;
  depth = d.depth;
  memory = d.memory;
  geometries = d.geometries.items;
  faces = d.faces.items;
}
