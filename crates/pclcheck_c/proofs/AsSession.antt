-- A handle that holds a session, and its parts, own what a box at the same types owns.
use Rattle.std.proofs.Common.{[]}
use mir.Syntax.{impl, tnil, dnil}
use denote.Signature.{Slot, plain}
use Rattle.std_alloc.proofs.BoxSteps.Form.{Bx}
use Rattle.std_heap.specs.contracts.Global as Heap
use Rattle.std_heap.specs.contracts.GlobalAllocator.TheImpl.{ghosts, dict}
use Rattle.std_heap.proofs.Global.TheLaws as heap
use Rattle.pclcheck_c.specs.contracts.kept_session.KeptSession as Session
use Rattle.pclcheck_c.proofs.kept_session.KeptSession.TheLaws as session
use Rattle.pclcheck_c.specs.contracts.session_handle.SessionHandle as Handle
use Rattle.pclcheck_c.specs.contracts.parts.Parts as Parts

abbrev pub E : Bx
E = record {
  row = Session.the_row;
  laws = session.the_row_laws;
  al = record { row = Heap.the_row; laws = heap.the_row_laws; g = ghosts; d = dict; drops = impl [] tnil dnil };
}

abbrev pub FromParts : Slot 0
FromParts = plain (λ _. Parts.the_row Session.the_row Heap.the_row ghosts)

abbrev pub FromHandle : Slot 0
FromHandle = plain (λ _. Handle.the_row)

abbrev pub FromAllocator : Slot 0
FromAllocator = plain (λ _. Heap.the_row)
