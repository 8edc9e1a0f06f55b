-- A handle that holds a fleet, and its parts, own what a box at the same types owns.
use Rattle.std.proofs.Common.{◌≡◌, [], None, Option, Some, refl}
use Rattle.std.proofs.lemmas.Bool.{false≢true}
use Rattle.std.specs.Prelude.{IsSome}
use mir.Syntax.{impl, tnil, dnil}
use denote.Signature.{Slot, plain}
use Rattle.std_alloc.proofs.BoxSteps.Form.{Bx}
use Rattle.std_heap.specs.contracts.Global as Heap
use Rattle.std_heap.specs.contracts.GlobalAllocator.TheImpl.{ghosts, dict}
use Rattle.std_heap.proofs.Global.TheLaws as heap
use Rattle.pclcheck_c.specs.contracts.fleet.Fleet as Fleet
use Rattle.pclcheck_c.proofs.fleet.Fleet.TheLaws as fleet
use Rattle.pclcheck_c.specs.contracts.handle.FleetHandle as Handle
use Rattle.pclcheck_c.specs.contracts.parts.Parts as Parts

abbrev pub E : Bx
E = record {
  row = Fleet.the_row;
  laws = fleet.the_row_laws;
  al = record { row = Heap.the_row; laws = heap.the_row_laws; g = ghosts; d = dict; drops = impl [] tnil dnil };
}

abbrev pub FromParts : Slot 0
FromParts = plain (λ _. Parts.the_row Fleet.the_row Heap.the_row ghosts)

abbrev pub FromHandle : Slot 0
FromHandle = plain (λ _. Handle.the_row)

abbrev pub FromAllocator : Slot 0
FromAllocator = plain (λ _. Heap.the_row)

-- what an option has that has something
pub value_of : {T : Type 0} (o : Option T) → IsSome o → (x : T) × (o ≡ Some x)
value_of None some = absurd (false≢true some)
value_of (Some x) some = (x, refl)
