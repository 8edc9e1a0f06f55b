use Rattle.std.proofs.Common.{◌≡◌, ◌+◌, ◌∙◌, ◌++◌, ℕ, List, IfErr, IsTrue, length, refl, ap, sym, subst}
use Rattle.std.specs.Prelude.{⊤}
use Rattle.pcl_lexer.specs.Lexing.State.{LexerState}
use Rattle.pcl_lexer.specs.Modes.{mode_of}
use Rattle.streams.specs.declared.error.Error.{Error}
use Rattle.streams.specs.declared.error.Error.TheVariants.{Read, Turns}
use Rattle.renderings.specs.Expected.{TextStaysOpen, TextWasOpen, WritesDecided, WritesFront}
use Rattle.streams.specs.Errors.{is_write}
use Rattle.renderings.specs.Carriers.Rendered.{IsCutOff, RendersOn}
use Rattle.streams.proofs.Driving.{answer_gives, by_whose, never_items, never_none, of_read, own_read, stop_gives, stops_both}
use Rattle.streams.proofs.Driving.{write_status}
use Rattle.streams.specs.Driving.{StopsBy}
use Rattle.streams.specs.Pieces.{Spell}
use Rattle.renderings.proofs.Renderings.{nothing_decided, rendered_none}
use Rattle.renderings.proofs.OpenTexts.{leaves_open}
use Rattle.renderings.proofs.WrittenTexts.{decided_told, due_by, front_by, front_told, read_failed}
use Rattle.renderings.proofs.render.render_job.Goals as goal

pub read_job-requires-clause-fresh : goal.read_job-requires-clause-fresh
read_job-requires-clause-fresh g c = record {
  rendered =
      rendered_none (g.R.Renderer.rendering c.args.renderer.now) (g.W.Outlet.state c.args.writer.now) c.new.result c.new.ensures.reads;
  no_more = nothing_decided;
  total_is = refl;
  begun = refl;
  working = c.requires.writing;
  nothing_kept = c.new-2.ensures.items;
  mode = subst (λ (s : LexerState). g.R.Renderer.is_in c.args.renderer.now (mode_of s.context)) (sym c.new.ensures.start) c.requires.mode;
  open_input = ap (λ (s : LexerState). s.ended) c.new.ensures.start;
  wants_more = c.new.ensures.wants_more;
  fed = ap (λ (s : LexerState). s.place + length s.rest) c.new.ensures.start;
}

pub returns : goal.returns
returns g c =
    let result = c.read_job.result in
    let new = c.read_job.new in
    let stopped = c.read_job.ensures.stopped in
    let rendering = g.R.Renderer.rendering c.args.renderer.now in
    let source = g.S.Source.state c.args.reader.now in
    let source' = g.S.Source.state new.reader in
    let outlet = g.W.Outlet.state c.args.writer.now in
    let outlet' = g.W.Outlet.state new.outlet in
    let Open : List ℕ → Type 0 =
    λ bytes. RendersOn rendering outlet (g.R.Renderer.is_in new.consumer.renderer.now) bytes
    (g.R.Renderer.rendering new.consumer.renderer.now) outlet' new.consumer.kept.items 0 new.consumer.total new.consumer.lexer in
    let CutOff : List ℕ → Error → Type 0 = λ bytes error. IsCutOff rendering outlet bytes outlet' error in
    let Front : Error → Type 0 = λ _. WritesFront rendering source source' outlet outlet' in
    let Decided : Error → Type 0 = λ error. error ≡ Read → WritesDecided rendering source source' outlet outlet' in
    let decided : IfErr result Decided = stop_gives result stopped
    (λ error is.
    by_whose (Open is.bytes × Spell is.pieces is.bytes) (λ e. CutOff is.bytes e × (e ≡ Read → ⊥)) Decided error
    (stops_both (Open is.bytes) (Spell is.pieces is.bytes) (λ e. CutOff is.bytes e × (e ≡ Read → ⊥)) error
    (own_read (Open is.bytes) (CutOff is.bytes) error is.came) is.spelled)
    (λ h _. decided_told rendering outlet outlet' source source' is.pieces is.bytes is.given_is is.joined is.consumed _ _ _ _ _ _ h.0
    (g.met.R.Renderer.adds_at_fault new.consumer.renderer.now) h.1)
    (λ h turns. let both : Turns ≡ Read = turns in absurd cc)
    (λ e h read. absurd (h.1 read))) in
    let StaysOpen : Error → Type 0 = λ error. error ≡ Read → TextStaysOpen rendering source source' in
    let stays_open : IfErr result StaysOpen = stop_gives result stopped
    (λ error is read.
    let goes : Open is.bytes = subst (StopsBy (Open is.bytes) (CutOff is.bytes)) read is.came in
    let spelled : Spell is.pieces is.bytes = subst (StopsBy (Spell is.pieces is.bytes) (λ e. ⊤)) read is.spelled in (
      is.pieces,
      is.given_is,
      leaves_open rendering outlet outlet' (g.R.Renderer.is_in new.consumer.renderer.now) is.bytes
          (g.R.Renderer.rendering new.consumer.renderer.now) new.consumer.kept.items 0 new.consumer.total new.consumer.lexer goes
          (g.met.R.Renderer.rest_matters new.consumer.renderer.now) is.pieces spelled,
    )) in
    let still_open : IsTrue source'.failed → TextStaysOpen rendering source source' =
    λ failed. of_read result StaysOpen stays_open (read_failed result (sym c.read_job.ensures.read ∙ failed)) refl in
    record {
      written =
          answer_gives result c.read_job.ensures.answered
          (λ outcome is. due_by rendering outlet outlet' source source' _ outcome is.given_is is.known is.answered
          (record {
            pieces_before = is.pieces_before;
            last = is.last;
            given = is.given_is;
            short = is.short;
            left_open =
                leaves_open rendering outlet (g.W.Outlet.state is.between.1) (g.R.Renderer.is_in is.between.0.renderer.now) is.bytes
                (g.R.Renderer.rendering is.between.0.renderer.now) is.between.0.kept.items 0 is.between.0.total is.between.0.lexer
                is.left_open (g.met.R.Renderer.rest_matters is.between.0.renderer.now) is.pieces_before is.spelled;
          }));
      front = stop_gives result stopped
          (λ error is.
          let open_before = is.was_open in
          let was_open : TextWasOpen rendering source source' = (
            open_before.pieces_before,
            open_before.last,
            is.given_is ∙ ap (λ (pieces : List (List ℕ)). source.given ++ pieces) open_before.split,
            open_before.at_most_one,
            leaves_open rendering outlet (g.W.Outlet.state open_before.between.1) (g.R.Renderer.is_in open_before.between.0.renderer.now)
                open_before.bytes (g.R.Renderer.rendering open_before.between.0.renderer.now) open_before.between.0.kept.items 0
                open_before.between.0.total open_before.between.0.lexer open_before.left_open
                (g.met.R.Renderer.rest_matters open_before.between.0.renderer.now) open_before.pieces_before open_before.spelled,
          ) in
          by_whose (Open is.bytes) (CutOff is.bytes) Front error is.came
          (λ h. front_told rendering outlet outlet' source source' is.pieces is.bytes is.given_is is.joined is.consumed _ _ _ _ _ _ h
          was_open still_open)
          (λ h. front_told rendering outlet outlet' source source' is.pieces is.bytes is.given_is is.joined is.consumed _ _ _ _ _ _ h
          was_open still_open)
          (λ e h. front_by rendering outlet outlet' source source' is.pieces is.bytes is.given_is is.joined is.consumed was_open still_open
          h.front));
      decided = λ is. of_read result Decided decided is refl;
      read = c.read_job.ensures.read;
      write = write_status result outlet'.failed
          (answer_gives result c.read_job.ensures.answered (λ outcome is. is.answered.working))
          (stop_gives result stopped
          (λ error is. by_whose (Open is.bytes) (CutOff is.bytes) (λ e. outlet'.failed ≡ is_write e) error is.came (λ h. h.working)
          (λ h. h.working) (λ e h. h.status)));
      turns = c.read_job.ensures.turns;
      long = c.read_job.ensures.long;
      never_no_profile = stop_gives result stopped (λ error is. never_none (Open is.bytes) (CutOff is.bytes) error is.came);
      never_items = stop_gives result stopped (λ error is. never_items (Open is.bytes) (CutOff is.bytes) error is.came);
    }
