-- A renderer that goes on has the room that its bytes leave.
use Rattle.std.proofs.Common.{◌+◌, ◌≤◌, ℕ, List, length, Bool, arith}
use Rattle.pcl_items.specs.declared.item.Mode.{Mode}
use Rattle.pcl_lexer.specs.Lexing.State.{LexerState}
use Rattle.renderings.specs.Expected.{Rendering}
use Rattle.streams.specs.Outlet.{OutletState}
use Rattle.renderings.specs.Carriers.Rendered.{CanRender, RendersOn}

pub renderer_leaves : {first_in : Mode → Type 0} {first_failed : Bool} {first_kept : List ℕ} {total : ℕ}
    {first_lexer : LexerState} {first : Rendering} {start : OutletState} {is_in : Mode → Type 0} {rendering : Rendering}
    {written : OutletState} {kept : List ℕ} {total' : ℕ} {lexer : LexerState}
    (bytes : List ℕ) (room more : ℕ) → CanRender first_in first_failed first_kept total first_lexer room →
    RendersOn first start is_in bytes rendering written kept total total' lexer → length bytes + more ≤ room →
    CanRender is_in written.failed kept total' lexer more
renderer_leaves bytes room more has goes fits = record {
  working = goes.working;
  nothing_kept = goes.nothing_kept;
  mode = goes.mode;
  open_input = goes.open_input;
  wants_more = goes.wants_more;
  fed = goes.fed;
  most = omega (arith, has.most, goes.total_is, fits);
}
