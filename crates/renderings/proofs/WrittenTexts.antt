-- What was written of a job when the rendering ended, or stopped.
use Rattle.std.proofs.Common.{◌≡◌, ℕ, false, List, [], ◌++◌, refl, ap, sym, ◌∙◌, subst, append-nil, Result, Ok, Err, IfErr, IfSome}
use Rattle.std.proofs.Common.{IsTrue, true, true≢false}
use Rattle.std.specs.Prelude.{IsErrOf}
use Rattle.std.specs.List.{concat}
use Rattle.std.specs.Io.KnownBytes.{Consumes}
use Rattle.pcl_items.specs.declared.fault.LexCause.{LexCause}
use Rattle.pcl_items.specs.declared.item.Mode.{Mode}
use Rattle.pcl_lexer.specs.Lexing.State.{LexerState}
use Rattle.pcl_lexer.specs.Lexing.Meaning.{Decides, Undecided}
use Rattle.pcl_lexer.specs.Reading.{Stopped, IsReading}
use Rattle.pcl_lexer.proofs.Lexing.Steps.{decides}
use Rattle.renderings.specs.declared.outcome.Outcome.{Outcome}
use Rattle.renderings.specs.Expected.{Rendering, TextNeedsReads, TextStaysOpen, TextWasOpen, WritesExpected, WritesFront, WritesDecided}
use Rattle.streams.specs.declared.error.Error.{Error}
use Rattle.streams.specs.declared.error.Error.TheVariants.{Memory, Read, Write, Turns, NoProfile, Items}
use Rattle.streams.specs.Errors.{is_err_of_read}
use Rattle.streams.specs.Outlet.{OutletState}
use Rattle.streams.specs.Pieces.{MayBeBy, Spell}
use Rattle.streams.specs.Source.{SourceState}
use Rattle.renderings.specs.Carriers.Rendering.{IsFrontFor}
use Rattle.renderings.specs.Carriers.Rendered.{IsRendered, RendersOn}
use Rattle.renderings.proofs.Renderings.{Puts-all, rendered_front}

-- the text is due for every job that may be by the pieces
pub due_by : (first : Rendering) (start written : OutletState) (source source' : SourceState) (pieces : List (List ℕ)) (outcome : Outcome) →
    source'.given ≡ source.given ++ pieces → IfSome source.remaining (MayBeBy pieces) → IsRendered first start pieces written outcome →
    TextNeedsReads first source source' → WritesExpected first source source' start written outcome
due_by first start written source source' pieces outcome given_is known rendered needed = record {
  text = rendered.text;
  adds = rendered.adds;
  due = record { pieces = pieces; given = given_is; each = rendered.due; known = known };
  needed = needed;
}

module _ (first : Rendering) (start written : OutletState) (source source' : SourceState) (pieces : List (List ℕ)) (bytes : List ℕ)
    (given_is : source'.given ≡ source.given ++ pieces) (joined : concat pieces ≡ bytes)
    (consumed : Consumes source.remaining source'.remaining bytes) where
  all_consumed : Consumes source.remaining source'.remaining (concat pieces)
  all_consumed = subst (Consumes source.remaining source'.remaining) (sym joined) consumed

  -- a front is written of what is due for the pieces
  pub front_by : TextWasOpen first source source' → (IsTrue source'.failed → TextStaysOpen first source source') →
      IsFrontFor first start written bytes → WritesFront first source source' start written
  front_by was_open still_open h = record {
    pieces = pieces;
    given_is = given_is;
    consumed = all_consumed;
    reading = h.0;
    spelled = subst (λ (l : List ℕ). IsReading l h.0) (sym joined) h.1;
    front = h.2;
    was_open = was_open;
    still_open = still_open;
  }

  module _ (is_in : Mode → Type 0) (rendering : Rendering) (kept : List ℕ) (total total' : ℕ) (lexer : LexerState)
      (goes : RendersOn first start is_in bytes rendering written kept total total' lexer) where
    -- what was rendered is a front
    pub front_told : TextWasOpen first source source' → (IsTrue source'.failed → TextStaysOpen first source source') →
        WritesFront first source source' start written
    front_told was_open still_open =
        front_by was_open still_open
        (rendered_front first start bytes lexer rendering written [] goes.rendered bytes ([], sym (append-nil bytes), λ e. refl))

    -- and all that the bytes decide
    pub decided_told : ((place : ℕ) (cause : LexCause) → rendering.text (Stopped [] place cause) ≡ rendering.at_fault [] place cause) →
        Spell pieces bytes → WritesDecided first source source' start written
    decided_told adds spelled = record {
      pieces = pieces;
      given_is = given_is;
      consumed = all_consumed;
      spelled = subst (Spell pieces) (sym joined) spelled;
      items = goes.rendered.items;
      decided = subst (λ (l : List ℕ). Decides false l goes.rendered.items) (sym joined)
          (subst (λ w. Decides w bytes goes.rendered.items) goes.open_input
          (decides lexer.ended bytes goes.rendered.items lexer.context lexer.place lexer.rest goes.rendered.reads.reads));
      no_more = subst (λ (l : List ℕ). Undecided l goes.rendered.items) (sym joined) goes.no_more;
      text = goes.rendered.text;
      adds = Puts-all start written goes.rendered.text goes.rendered.puts;
      due = λ place cause.
          ap (λ l. first.text (Stopped l place cause)) (sym (append-nil goes.rendered.items))
          ∙ (goes.rendered.due (Stopped [] place cause)
          ∙ ap (λ t. goes.rendered.text ++ t)
          (adds place cause
          ∙ (sym (goes.rendered.fault [] place cause)
          ∙ ap (λ l. first.at_fault l place cause) (append-nil goes.rendered.items))));
    }

-- what is said of an error is said of the result
pub if_err : {T E P : Type 0} (r : Result T E) → P → IfErr r (λ _. P)
if_err (Ok x) p = tt
if_err (Err e) p = p

-- a result that says that a read failed is that error
pub read_failed : {T : Type 0} (r : Result T Error) → is_err_of_read r ≡ true → IsErrOf r Read
read_failed (Ok x) is = absurd (true≢false (sym is))
read_failed (Err Memory) is = absurd (true≢false (sym is))
read_failed (Err Read) is = refl
read_failed (Err Write) is = absurd (true≢false (sym is))
read_failed (Err Turns) is = absurd (true≢false (sym is))
read_failed (Err NoProfile) is = absurd (true≢false (sym is))
read_failed (Err Items) is = absurd (true≢false (sym is))
