-- What was rendered so far leaves the text open.
use Rattle.std.proofs.Common.{◌∙◌, ℕ, List, sym, subst}
use Rattle.std.proofs.lemmas.List.{append_cancel_left}
use Rattle.pcl_items.specs.declared.item.Mode.{Mode}
use Rattle.pcl_lexer.specs.Lexing.Meaning.{Decides}
use Rattle.pcl_lexer.specs.Lexing.State.{LexerState}
use Rattle.pcl_lexer.proofs.Lexing.Steps.{decides}
use Rattle.renderings.specs.Expected.{Rendering, EndsText, IsOver, LeavesTextOpen}
use Rattle.renderings.specs.Carriers.Rendered.{RendersOn}
use Rattle.streams.specs.Outlet.{OutletState}
use Rattle.streams.specs.Pieces.{Spell}

module _ (first : Rendering) (start written : OutletState) (is_in : Mode → Type 0) (bytes : List ℕ) (rendering : Rendering)
    (kept : List ℕ) (total total' : ℕ) (lexer : LexerState)
    (goes : RendersOn first start is_in bytes rendering written kept total total' lexer) where
  -- of a text that has ended nothing that follows matters
  over : EndsText first goes.rendered.items → IsOver rendering
  over ends = λ one other.
      let same = ends one other in (
        append_cancel_left goes.rendered.text (rendering.text one) (rendering.text other)
            (sym (goes.rendered.due one) ∙ (same.0 ∙ goes.rendered.due other)),
        sym (goes.rendered.outcome one) ∙ (same.1 ∙ goes.rendered.outcome other),
      )

  pub leaves_open : (IsOver rendering → ⊥) → (pieces : List (List ℕ)) → Spell pieces bytes → LeavesTextOpen first pieces
  leaves_open matters pieces spelled = record {
    bytes = bytes;
    spelled = spelled;
    items = goes.rendered.items;
    decided =
        subst (λ w. Decides w bytes goes.rendered.items) goes.open_input
        (decides lexer.ended bytes goes.rendered.items lexer.context lexer.place lexer.rest goes.rendered.reads.reads);
    no_more = goes.no_more;
    goes_on = λ ends. matters (over ends);
  }
