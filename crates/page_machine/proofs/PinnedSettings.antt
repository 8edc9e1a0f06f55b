-- What a panel has that a job can set, a printer takes of a prologue.
use Rattle.std.proofs.Common.{◌≡◌, ℕ, ◌==◌, ◌&&◌, ◌||◌, nat_lt, nat_le, not, Bool, true, false, IsTrue, Option, Some, None, refl, ap, subst}
use Rattle.std.proofs.Common.{◌∙◌}
use Rattle.std.specs.Prelude.{IsSomeAnd}
use Rattle.std.specs.Option.{option_map_or}
use Rattle.std.proofs.lemmas.Bool.{and_parts, eqb-true}
use Rattle.std.proofs.Math.Dec.{leb-zero}
use Rattle.device_profile.specs.declared.panel.Panel.{Panel}
use Rattle.device_profile.specs.Faces.{Face, face_at, is_request}
use Rattle.device_profile.specs.Printer.{Printer, has_size, has_orientation, has_tray, are_sides, CanBeSetTo}
use Rattle.device_profile.specs.Values.{is_between}
use Rattle.page_env.specs.FontInForce.{request_at, no_request}
use Rattle.page_env.specs.Numbers.{whole_of, is_whole_between}
use Rattle.page_machine.specs.Pinning.{whole}
use Rattle.page_machine.proofs.PinnedStart.{CanBeSent, whole_of_whole, whole_between}

and_false : (b : Bool) → (b && false) ≡ false
and_false true = refl
and_false false = refl

or_false : (b : Bool) → IsTrue (b || false) → IsTrue b
or_false true h = refl
or_false false h = h

-- a value of a field as a whole number that a command takes
taken : (low high n : ℕ) → IsTrue (is_between low high n) → is_whole_between low high (whole n) ≡ true
taken low high n is =
    let parts = and_parts (nat_le low n) (nat_le n high) is in
    whole_between low high n parts.0 parts.1

-- what holds of a number holds of the whole part of its amount
of_whole : (p : ℕ → Bool) (n : ℕ) → IsTrue (p n) → p (whole_of (whole n)) ≡ true
of_whole p n is = ap p (whole_of_whole n) ∙ is

one_side : (duplex : Bool) (n : ℕ) → IsTrue (are_sides duplex n) → (nat_lt 0 n && not duplex) ≡ false
one_side true n is = and_false (nat_lt 0 n)
one_side false n is = ap (λ m. nat_lt 0 m && true) (eqb-true n 0 (or_false (n == 0) is))

tray_held : (tray : ℕ) (held : Bool) → IsTrue held → (nat_lt 0 tray && not held) ≡ false
tray_held tray true is = and_false (nat_lt 0 tray)
tray_held tray false is = absurd cc

fixed_spacing : (found : Option Face) → IsSomeAnd found (λ face. IsTrue (is_request face.request)) →
    (option_map_or (λ face. face.request) found no_request).spacing ≡ 0
fixed_spacing None is = absurd is
fixed_spacing (Some face) is =
    let p7 = and_parts _ _ is in
    let p6 = and_parts _ _ p7.0 in
    let p5 = and_parts _ _ p6.0 in
    let p4 = and_parts _ _ p5.0 in
    let p3 = and_parts _ _ p4.0 in
    let p2 = and_parts _ _ p3.0 in
    eqb-true face.request.spacing 0 p2.1

some_tray : (n : ℕ) → IsTrue (is_between 1 255 n) → (n == 0) ≡ false
some_tray n is = by (n == 0) refl
  where
    by : (b : Bool) → (n == 0) ≡ b → b ≡ false
    by true e =
        let some : IsTrue (nat_le 1 n) = (and_parts (nat_le 1 n) (nat_le n 255) is).0 in
        let none : nat_le 1 0 ≡ true = subst (λ m. nat_le 1 m ≡ true) (eqb-true n 0 e) some in
        absurd cc
    by false e = refl

module _ (printer : Printer) (panel : Panel) (set : CanBeSetTo printer panel) where
  pub can_be_sent : CanBeSent printer panel (request_at printer.faces panel.font)
  can_be_sent = record {
    size = taken 1 999 panel.size set.values.size;
    has_size = of_whole (has_size printer.geometries) panel.size set.size;
    orientation = taken 0 3 panel.orientation set.values.orientation;
    has_orientation = of_whole (has_orientation printer.geometries) panel.orientation set.orientation;
    copies = taken 1 32_767 panel.copies set.values.copies;
    sides = taken 0 2 panel.sides set.values.sides;
    duplex =
        ap (λ n. nat_lt 0 n && not printer.has_duplex) (whole_of_whole panel.sides) ∙ one_side printer.has_duplex panel.sides set.sides;
    tray =
        let parts = and_parts (nat_le 1 panel.tray) (nat_le panel.tray 255) set.values.tray in
        whole_between 0 255 panel.tray (leb-zero panel.tray) parts.1;
    has_tray =
        ap (λ n. nat_lt 0 n && not (has_tray printer n)) (whole_of_whole panel.tray)
        ∙ tray_held panel.tray (has_tray printer panel.tray) set.tray;
    vmi = (and_parts (nat_le 0 panel.vmi) (nat_le panel.vmi 3_350_000) set.values.vmi).1;
    spacing = fixed_spacing (face_at printer.faces panel.font) set.request;
    line_termination = taken 0 3 panel.line_termination set.values.line_termination;
  }

  pub tray_is_some : (panel.tray == 0) ≡ false
  tray_is_some = some_tray panel.tray set.values.tray
