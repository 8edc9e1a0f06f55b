use Rattle.std.proofs.Common.{◌≡◌, ◌+◌, ◌<◌, ◌^◌, ◌++◌, ap, arith, length, length-append, subst, sym, ◌∙◌}
use Rattle.pcl_lexer.specs.Lexing.State.{LexerState, WantsMore}
use Rattle.pcl_lexer.specs.Modes.{mode_of}
use Rattle.comparison.specs.Running.{HasRun, IsWaiting, RunState, is_open, work}
use Rattle.comparison.proofs.Running.{fed_run, less_by_piece, piece_taken}
use Rattle.comparison.proofs.running_job.RunningJob.take_piece.Goals as goal

pub feed-requires-clause-open : goal.feed-requires-clause-open
feed-requires-clause-open g c = ap (λ (s : RunState). s.lexer.ended) c.self.view_is ∙ c.requires.waits.unended

pub feed-requires-clause-wants_more : goal.feed-requires-clause-wants_more
feed-requires-clause-wants_more g c = subst (λ (s : RunState). WantsMore s.lexer) (sym c.self.view_is) c.requires.waits.wants_more

pub feed-requires-clause-total : goal.feed-requires-clause-total
feed-requires-clause-total g c =
    let l = c.self.inside in
    let ready = c.self.invariant (ap (λ (s : RunState). is_open s.progress) c.self.view_is ∙ c.requires.waits.running) in
    let few : l.reads < 2 ^ 40 = subst (λ (s : RunState). s.reads < 2 ^ 40) (sym c.self.view_is) c.requires.few in
    omega (arith, ready.2, ready.3, few, c.requires.short)

pub invariant_of-self-2 : goal.invariant_of-self-2
invariant_of-self-2 g c = λ running.
    let l = c.self.inside in
    let piece = c.args.piece.now in
    let ready = c.self.invariant running in
    let fed = c.in_ok-feed.ensures.ok in
    let few : l.reads < 2 ^ 40 = subst (λ (s : RunState). s.reads < 2 ^ 40) (sym c.self.view_is) c.requires.few in
    let stands : c.feed.new.self.place + length c.feed.new.self.rest ≡ l.lexer.place + length (l.lexer.rest ++ piece) =
    ap (λ (s : LexerState). s.place + length s.rest) fed in
    let size : length (l.lexer.rest ++ piece) ≡ length l.lexer.rest + length piece = length-append l.lexer.rest piece in (
      ready.0,
      ready.1 ∙ sym (ap (λ (s : LexerState). mode_of s.context) fed),
      omega (arith, stands, size, ready.2),
      omega (arith, ready.3, c.requires.short),
      omega (arith, few),
    )

pub returns-clause-fed : goal.returns-clause-fed
returns-clause-fed g c = λ printer panel first mid now made h given consumed.
    let l = c.self.inside in
    let fields : RunState = record {
      lexer = l.lexer;
      machine = l.machine;
      events = l.recorder.events;
      place = l.place;
      total = l.total;
      reads = l.reads;
      number = l.number;
      progress = l.progress;
    } in
    let piece = c.args.piece.now in
    let waits : IsWaiting fields = subst IsWaiting (sym c.self.view_is) c.requires.waits in
    piece_taken fields c.feed.new.self waits piece (length l.lexer.rest + length piece) c.in_ok-feed.ensures.ok
    c.in_ok-feed.ensures.reads c.requires.some printer panel first mid now made
    (subst (λ (s : RunState). HasRun printer panel first mid made s) (sym c.self.view_is) h) given consumed

pub returns-clause-less : goal.returns-clause-less
returns-clause-less g c =
    let l = c.self.inside in
    let fields : RunState = record {
      lexer = l.lexer;
      machine = l.machine;
      events = l.recorder.events;
      place = l.place;
      total = l.total;
      reads = l.reads;
      number = l.number;
      progress = l.progress;
    } in
    let piece = c.args.piece.now in
    let waits : IsWaiting fields = subst IsWaiting (sym c.self.view_is) c.requires.waits in
    let few : l.reads < 2 ^ 40 = subst (λ (s : RunState). s.reads < 2 ^ 40) (sym c.self.view_is) c.requires.few in
    let held = length l.lexer.rest + length piece in
    subst (λ (s : RunState). work (fed_run fields c.feed.new.self waits piece held c.in_ok-feed.ensures.ok) < work s) c.self.view_is
    (less_by_piece fields c.feed.new.self waits piece held c.in_ok-feed.ensures.ok c.requires.short few)

pub returns-clause-none : goal.returns-clause-none
returns-clause-none g c = ap (λ (s : RunState). s.events) c.self.view_is ∙ c.requires.waits.none

pub returns-clause-number : goal.returns-clause-number
returns-clause-number g c = ap (λ (s : RunState). s.number) c.self.view_is

pub returns-in_err-feed-clause-number : goal.returns-in_err-feed-clause-number
returns-in_err-feed-clause-number g c = ap (λ (s : RunState). s.number) c.self.view_is
