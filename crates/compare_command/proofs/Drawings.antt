-- OUT as it was created, and as it was before.
use Rattle.std.proofs.Common.{◌≡◌, ◌∙◌, ℕ, List, IsFalse, ap, false, inr, sym}
use Rattle.requests.specs.Status.{is_stop_of_write}
use Rattle.requests.specs.declared.status.Status.{Status}
use Rattle.requests.specs.declared.status.Status.TheVariants.{Pass, Fail, Help, Usage, Overwrites, NotAllowed, Told}
use Rattle.requests.specs.declared.status.Status.TheVariants.{Profile, Stopped}
use Rattle.streams.specs.Outlet.{OutletState}
use Rattle.streams.specs.declared.error.Error.TheVariants.{Memory, Read, Write, Turns, NoProfile, Items}
use Rattle.compare_command.specs.Drawing.{DrawsText, IsEndOfCreating}

-- it was created, and nothing was written
pub was_created : (old new : OutletState) → IsFalse old.failed → new ≡ record old { failed = false } → new ≡ old
was_created old new working created =
    created ∙ ap (λ f. let o : OutletState = record old { failed = f } in o) (sym working)

-- it was not, and nothing is drawn
pub not_created : (status : Status) (text : List ℕ) (old new : OutletState) → IsFalse old.failed → IsEndOfCreating status →
    new ≡ record old { failed = is_stop_of_write status } → DrawsText text status old new
not_created (Stopped Write) text old new working end is = (ap (λ (o : OutletState). o.failed) is, inr is)
not_created (Stopped Memory) text old new working end is = was_created old new working is
not_created (Stopped Read) text old new working end is = absurd end
not_created (Stopped Turns) text old new working end is = absurd end
not_created (Stopped NoProfile) text old new working end is = absurd end
not_created (Stopped Items) text old new working end is = absurd end
not_created Pass text old new working end is = absurd end
not_created Fail text old new working end is = absurd end
not_created Help text old new working end is = absurd end
not_created Usage text old new working end is = absurd end
not_created (Overwrites input) text old new working end is = absurd end
not_created (NotAllowed choice) text old new working end is = absurd end
not_created (Told trouble) text old new working end is = absurd end
not_created (Profile number line cause) text old new working end is = absurd end
