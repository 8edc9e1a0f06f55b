-- The keys of a profile's text, by their words.
use Rattle.std.specs.Prelude.{ℕ, List, [], ◌∷◌, codes}
use Rattle.device_profile.specs.declared.field.Field.TheVariants.{Size, Orientation, Vmi, Font, Copies, Sides, Tray}
use Rattle.device_profile.specs.declared.field.Field.TheVariants.{LineTerm}
use Rattle.device_profile.specs.declared.key.Key.{Key}
use Rattle.device_profile.specs.declared.key.Key.TheVariants.{Name, Choice, Trays, Duplex, Depth, Memory, Page, Face}
use Rattle.device_profile.specs.Field.{field_key}

-- all keys, in the order in which those that no line gives are told
abbrev pub every_key : List Key
every_key =
    Name ∷ Choice Size ∷ Choice Orientation ∷ Choice Vmi ∷ Choice Font
    ∷ Choice Copies ∷ Choice Sides ∷ Choice Tray ∷ Choice LineTerm
    ∷ Trays ∷ Duplex ∷ Depth ∷ Memory ∷ Page ∷ Face ∷ []

-- the word that a line of a key begins with
abbrev pub key_word : Key → List ℕ
key_word Name = codes "name"
key_word (Choice field) = field_key field
key_word Trays = codes "trays"
key_word Duplex = codes "duplex"
key_word Depth = codes "depth"
key_word Memory = codes "memory"
key_word Page = codes "geometry"
key_word Face = codes "face"
