-- Of a draft that is complete each key was given.
use Rattle.std.proofs.Common.{ℕ, ◌<◌, length, get_or, IsTrue, arith}
use Rattle.std.proofs.lemmas.List.Sums.{AllPass-from_list_all}
use Rattle.device_profile.specs.declared.field.Field.TheVariants.{Size, Orientation, Vmi, Font, Copies, Sides, Tray, LineTerm}
use Rattle.device_profile.specs.declared.key.Key.{Key}
use Rattle.device_profile.specs.declared.key.Key.TheVariants.{Name, Choice, Trays, Duplex, Depth, Memory, Page, Face as FaceRow}
use Rattle.device_profile.specs.Draft.{Draft}
use Rattle.device_profile.specs.Key.{every_key}
use Rattle.device_profile.specs.Text.{is_given, is_complete}

given_at : (draft : Draft) → IsTrue (is_complete draft) → (i : ℕ) → i < length every_key → IsTrue (is_given draft (get_or every_key i Name))
given_at draft complete i within = AllPass-from_list_all (is_given draft) every_key complete i Name within

pub each_given : (draft : Draft) → IsTrue (is_complete draft) → (key : Key) → IsTrue (is_given draft key)
each_given draft complete Name = given_at draft complete 0 (omega arith)
each_given draft complete (Choice Size) = given_at draft complete 1 (omega arith)
each_given draft complete (Choice Orientation) = given_at draft complete 2 (omega arith)
each_given draft complete (Choice Vmi) = given_at draft complete 3 (omega arith)
each_given draft complete (Choice Font) = given_at draft complete 4 (omega arith)
each_given draft complete (Choice Copies) = given_at draft complete 5 (omega arith)
each_given draft complete (Choice Sides) = given_at draft complete 6 (omega arith)
each_given draft complete (Choice Tray) = given_at draft complete 7 (omega arith)
each_given draft complete (Choice LineTerm) = given_at draft complete 8 (omega arith)
each_given draft complete Trays = given_at draft complete 9 (omega arith)
each_given draft complete Duplex = given_at draft complete 10 (omega arith)
each_given draft complete Depth = given_at draft complete 11 (omega arith)
each_given draft complete Memory = given_at draft complete 12 (omega arith)
each_given draft complete Page = given_at draft complete 13 (omega arith)
each_given draft complete FaceRow = given_at draft complete 14 (omega arith)
