-- Lemmas on what is left on standard output.
use Rattle.std.proofs.Common.{◌≡◌, ℕ, List, Option, Result, Ok, Err, IfErr, refl, sym, subst}
use Rattle.std.specs.Prelude.{IsErrAnd}
use Rattle.std.proofs.KnownBytes.{Keeps-refl}
use Rattle.streams.specs.declared.error.Error.{Error}
use Rattle.streams.specs.declared.error.Error.TheVariants.{Memory, Read, Write, Turns, NoProfile, Items}
use Rattle.verdict.specs.declared.verdict.Verdict.{Verdict}
use Rattle.streams.specs.Outlet.{OutletState, Stays}
use Rattle.requests.specs.declared.status.Status.{Status}
use Rattle.requests.specs.declared.status.Status.TheVariants.{Pass, Fail, Help, Usage, Overwrites, NotAllowed, Told, Profile, Stopped}
use Rattle.named_inputs.specs.Fleet.{IsEndOfFleet}
use Rattle.subcommands.specs.Check.{Leaves, LeavesAtStop}

-- an outlet that was not written to
pub Stays-none : (a : OutletState) → Stays a a
Stays-none a = record { taken = refl; contents = Keeps-refl a.contents }

-- what holds of the verdict may be said in other words
pub LeavesAtStop-more : (error : Error) (P Q : Verdict → Type 0) (old new : OutletState) → ((verdict : Verdict) → P verdict → Q verdict) →
    LeavesAtStop error P old new → LeavesAtStop error Q old new
LeavesAtStop-more Memory P Q old new more left = left
LeavesAtStop-more Read P Q old new more left = left
LeavesAtStop-more Write P Q old new more left = (left.0, more left.0 left.1, left.2)
LeavesAtStop-more Turns P Q old new more left = left
LeavesAtStop-more NoProfile P Q old new more left = left
LeavesAtStop-more Items P Q old new more left = left

-- without memory nothing was written
pub LeavesAtStop-memory : (r : Result Verdict Error) (P : Verdict → Type 0) (a : OutletState) → IsErrAnd r (λ error. error ≡ Memory) →
    IfErr r (λ error. LeavesAtStop error P a a)
LeavesAtStop-memory (Ok verdict) P a is = tt
LeavesAtStop-memory (Err error) P a is = subst (λ e. LeavesAtStop e P a a) (sym is) (Stays-none a)

-- where there is no fleet, no line is written
pub no_line : (texts : List (Option (List ℕ))) (status : Status) (P : Verdict → Type 0) (a : OutletState) → IsEndOfFleet texts status →
    Leaves status P a a
no_line texts (Profile number line cause) P a end = Stays-none a
no_line texts (Stopped Memory) P a end = Stays-none a
no_line texts (Stopped Read) P a end = Stays-none a
no_line texts (Stopped Write) P a end = absurd end
no_line texts (Stopped Turns) P a end = absurd end
no_line texts (Stopped NoProfile) P a end = absurd end
no_line texts (Stopped Items) P a end = absurd end
no_line texts Pass P a end = absurd end
no_line texts Fail P a end = absurd end
no_line texts Help P a end = absurd end
no_line texts Usage P a end = absurd end
no_line texts (Overwrites input) P a end = absurd end
no_line texts (NotAllowed choice) P a end = absurd end
no_line texts (Told trouble) P a end = absurd end
