-- What an item does behind its own step: bytes that are printed one after another, and a move of the pen.
use Rattle.std.proofs.Common.{◌≡◌, ◌<◌, ◌+◌, ℕ, ℤ, zero, suc, Option, None, Some, List, [], ◌∷◌, take, drop, length, get_or, Err, refl, ap}
use Rattle.std.proofs.Common.{◌∙◌, arith}
use Rattle.device_profile.specs.declared.panel.Panel.{Panel}
use Rattle.device_profile.specs.Printer.{Printer}
use Rattle.page_env.specs.declared.page.Page.{Page}
use Rattle.page_machine.specs.declared.steps.Interruption.{Interruption}
use Rattle.page_machine.specs.Event.{Event}
use Rattle.page_machine.specs.Run.{Run, followed_by, Conditions, byte_run, printing, move_run, drawing}
use Rattle.page_machine.specs.Follows.{Follows}
use Rattle.page_machine.proofs.Composed.{Follows-stopped}

-- one byte more
printing-suc : (printer : Printer) (conditions : Conditions) (r : Run) (xs : List ℕ) (i d : ℕ) → i < length xs →
    printing printer conditions r (take (suc i) xs)
    ≡ followed_by (printing printer conditions r (take i xs)) (byte_run printer conditions (get_or xs i d))
printing-suc printer conditions r [] i d h = absurd (omega arith)
printing-suc printer conditions r (x ∷ xs) zero d h = refl
printing-suc printer conditions r (x ∷ xs) (suc i) d h =
    printing-suc printer conditions (followed_by r (byte_run printer conditions x)) xs i d (omega arith)

pub printing-next : (printer : Printer) (conditions : Conditions) (r : Run) (xs : List ℕ) (i d : ℕ) → i < length xs →
    printing printer conditions r (take (i + 1) xs)
    ≡ followed_by (printing printer conditions r (take i xs)) (byte_run printer conditions (get_or xs i d))
printing-next printer conditions r xs i d h =
    let one : i + 1 ≡ suc i = omega arith in
    ap (λ n. printing printer conditions r (take n xs)) one ∙ printing-suc printer conditions r xs i d h

-- the bytes before one, that one, and those behind it
pub printing-split : (printer : Printer) (conditions : Conditions) (r : Run) (xs : List ℕ) (i d : ℕ) → i < length xs →
    printing printer conditions r xs
    ≡ printing printer conditions
    (followed_by (printing printer conditions r (take i xs)) (byte_run printer conditions (get_or xs i d))) (drop (suc i) xs)
printing-split printer conditions r [] i d h = absurd (omega arith)
printing-split printer conditions r (x ∷ xs) zero d h = refl
printing-split printer conditions r (x ∷ xs) (suc i) d h =
    printing-split printer conditions (followed_by r (byte_run printer conditions x)) xs i d (omega arith)

-- what stopped a run stops it with the bytes that would follow
pub Follows-cut : {S : Type 0} (takes refuses : S → Event → S → Type 0) (F : Type 0) (old new : S) (page : Page) (printer : Printer)
    (conditions : Panel → Conditions) (run : Panel → Run) (halt : Interruption F) (codes : List ℕ) →
    Follows takes refuses run old new page (Err halt) →
    Follows takes refuses (λ panel. printing printer (conditions panel) (run panel) codes) old new page (Err halt)
Follows-cut takes refuses F old new page printer conditions run halt [] h = h
Follows-cut takes refuses F old new page printer conditions run halt (code ∷ codes) h =
    Follows-cut takes refuses F old new page printer conditions
    (λ panel. followed_by (run panel) (byte_run printer (conditions panel) code)) halt codes
    (Follows-stopped takes refuses F old new page page run (λ panel. byte_run printer (conditions panel) code) halt h)

-- and with the move of the pen that would follow
pub Follows-undrawn : {S : Type 0} (takes refuses : S → Event → S → Type 0) (F : Type 0) (old new : S) (page : Page) (printer : Printer)
    (conditions : Panel → Conditions) (run : Panel → Run) (halt : Interruption F) (to : Option (ℤ × ℤ)) →
    Follows takes refuses run old new page (Err halt) →
    Follows takes refuses (λ panel. drawing printer (conditions panel) (run panel) to) old new page (Err halt)
Follows-undrawn takes refuses F old new page printer conditions run halt None h = h
Follows-undrawn takes refuses F old new page printer conditions run halt (Some to) h =
    Follows-stopped takes refuses F old new page page run (λ panel. move_run printer (conditions panel) to) halt h
