use Rattle.std.proofs.Common.{◌≡◌, ◌+◌, ℕ, List, length, IsFalse}
use Rattle.pcl_lexer.specs.Modes.{mode_of}
use Rattle.pcl_lexer.specs.Reading.{left}
use Rattle.renderings.specs.Expected.{Rendering}
use Rattle.streams.specs.Outlet.{OutletState}
use Rattle.renderings.specs.Carriers.Rendering.{HasRendered}
use Rattle.renderings.proofs.render.render_items.Given as goal

abbrev pub invariant-loop-read : goal.invariant-loop-read
invariant-loop-read g l = record {
  working : IsFalse (g.W.Outlet.state l.outlet).failed;
  ended : l.lexer.ended ≡ l.initial.lexer.ended;
  place : l.lexer.place + length l.lexer.rest ≡ l.initial.lexer.place + length l.initial.lexer.rest;
  mode : g.R.Renderer.is_in l.renderer (mode_of l.lexer.context);
  rendered : (first : Rendering) (start : OutletState) (bytes : List ℕ) →
      HasRendered first start bytes l.initial.lexer (g.R.Renderer.rendering l.initial.renderer)
      (g.W.Outlet.state l.initial.outlet) l.initial.kept.items →
      HasRendered first start bytes l.lexer (g.R.Renderer.rendering l.renderer) (g.W.Outlet.state l.outlet) l.kept.items;
}

abbrev pub decreases-loop-read : goal.decreases-loop-read
decreases-loop-read g l = left l.lexer.context l.lexer.rest
