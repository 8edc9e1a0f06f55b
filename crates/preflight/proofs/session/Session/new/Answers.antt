use Rattle.std.proofs.Common.{◌+◌, ◌-◌, List, [], ◌∷◌, take, drop, length, refl, ap, sym, subst, arith}
use Rattle.device_profile.specs.Printer.{Printer}
use Rattle.pcl_lexer.specs.Lexing.State.{LexerState}
use Rattle.pcl_lexer.specs.Modes.{mode_of}
use Rattle.preflight.specs.Carriers.Checking.{HasExecuted}
use Rattle.preflight.specs.Carriers.Lockstep.{AreIn, machines_of, counts_of}
use Rattle.preflight.proofs.Sessions.{checks_on_none}
use Rattle.preflight.proofs.UnderWay.{all_in, all_running, executed_none, first_and_others}
use Rattle.preflight.proofs.session.Session.new.Goals as goal

pub invariant_of-result : goal.invariant_of-result
invariant_of-result g c = λ _.
    let lexer = c.new-in-len1-up in
    let printers : List Printer = c.first-item.result ∷ take (length c.args.fleet.now - 1) (drop 1 c.args.fleet.now) in
    let machines = machines_of c.in_ok-machines-in-len1-up.machines in
    let fresh = c.in_ok-machines-in-len1-up.ensures.machines in (
      ap (λ (s : LexerState). s.ended) lexer.ensures.start,
      lexer.ensures.wants_more,
      all_running printers machines fresh,
      subst (λ (s : LexerState). AreIn (mode_of s.context) machines) (sym lexer.ensures.start) (all_in printers machines fresh),
      ap (λ (s : LexerState). s.place + length s.rest) lexer.ensures.start,
      omega arith,
      refl,
    )

pub returns-in_ok-machines-in-len1-up-clause-none : goal.returns-in_ok-machines-in-len1-up-clause-none
returns-in_ok-machines-in-len1-up-clause-none g c =
    let lexer = c.new-in-len1-up in
    let machines = c.in_ok-machines-in-len1-up in
    let others : List Printer = c.first-item.result ∷ take (length c.args.fleet.now - 1) (drop 1 c.args.fleet.now) in
    let fleet = first_and_others c.args.fleet.now c.first-item.result c.in-len1-up.len_at_least c.first-item.is in (
      subst (λ printers. HasExecuted printers [] lexer.result (machines_of machines.machines) (counts_of machines.machines)) (sym fleet)
          (executed_none others lexer.result (machines_of machines.machines) (counts_of machines.machines)
          (omega arith) lexer.ensures.reads machines.ensures.machines machines.ensures.counts),
      refl,
    )

pub returns-in_ok-machines-in-len1-up-clause-fresh : goal.returns-in_ok-machines-in-len1-up-clause-fresh
returns-in_ok-machines-in-len1-up-clause-fresh g c =
    let lexer = c.new-in-len1-up in
    checks_on_none _ refl (ap (λ (s : LexerState). s.ended) lexer.ensures.start) lexer.ensures.wants_more
