use Rattle.std.proofs.Common.{◌≡◌, ◌-◌, ◌∷◌, ◌∙◌, List, ap, drop, length, refl, subst, sym, take}
use Rattle.device_profile.specs.Printer.{Printer}
use Rattle.preflight.specs.Carriers.Detached.{AreFormed, DetachedCheck, IsUnderWay, attached_fleet, attached_session, session_with}
use Rattle.preflight.specs.Carriers.Lockstep.{Fleet}
use Rattle.preflight.proofs.UnderWay.{first_and_others}
use Rattle.preflight.proofs.kept_check.DetachedSession.attach.Goals as goal

pub attach-requires : goal.attach-requires
attach-requires g c =
    let fleet = c.args.fleet.now in
    let printers : List Printer = c.first-item.result ∷ take (length fleet - 1) (drop 1 fleet) in
    let are : fleet ≡ printers = first_and_others fleet c.first-item.result c.in-len1-up.len_at_least c.first-item.is in
    subst (λ (check : DetachedCheck). AreFormed printers check.machines) (sym c.self.view_is)
    (subst (λ (ps : List Printer). AreFormed ps c.args.self.machines) are c.requires.formed)

pub invariant_of-result : goal.invariant_of-result
invariant_of-result g c = λ is_open.
    let fleet = c.args.fleet.now in
    let printers : List Printer = c.first-item.result ∷ take (length fleet - 1) (drop 1 fleet) in
    let are : fleet ≡ printers = first_and_others fleet c.first-item.result c.in-len1-up.len_at_least c.first-item.is in
    let inside = c.self.inside in
    let machines = c.in_ok-machines-in-len1-up in
    let before : IsUnderWay (session_with inside.lexer (attached_fleet printers inside.machines) inside.total) =
    subst (λ (check : DetachedCheck). IsUnderWay (attached_session printers check)) (sym c.self.view_is)
    (subst (λ (ps : List Printer). IsUnderWay (attached_session ps c.args.self)) are c.requires.under_way) in
    let now : IsUnderWay (session_with inside.lexer machines.machines inside.total) =
    subst (λ (m : Fleet). IsUnderWay (session_with inside.lexer m inside.total)) (sym machines.ensures) before in
    (now.open_input, now.wants_more, now.running, now.modes, now.places, now.short, refl)

pub returns-in_ok-machines-in-len1-up : goal.returns-in_ok-machines-in-len1-up
returns-in_ok-machines-in-len1-up g c =
    let fleet = c.args.fleet.now in
    let printers : List Printer = c.first-item.result ∷ take (length fleet - 1) (drop 1 fleet) in
    let are : fleet ≡ printers = first_and_others fleet c.first-item.result c.in-len1-up.len_at_least c.first-item.is in
    ap (λ (m : Fleet). session_with c.self.inside.lexer m c.self.inside.total) c.in_ok-machines-in-len1-up.ensures
    ∙ ap (λ (check : DetachedCheck). attached_session printers check) c.self.view_is
    ∙ ap (λ (ps : List Printer). attached_session ps c.args.self) (sym are)
