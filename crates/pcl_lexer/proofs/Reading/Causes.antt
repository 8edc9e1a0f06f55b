-- What stands first is a fault, or the bytes end in it.
use Rattle.std.proofs.Common.{◌≡◌, refl, sym, subst}
use Rattle.pcl_items.specs.declared.fault.LexCause.{LexCause}
use Rattle.pcl_items.specs.declared.fault.LexCause.TheVariants.{Truncated}
use Rattle.pcl_lexer.specs.Lexing.Firsts.{First, Open, Passes, Begins, Faulty}

-- a fault, or the end of the bytes in an item
abbrev pub Causes : First → LexCause → Type 0
Causes Open cause = cause ≡ Truncated
Causes (Passes len next) cause = ⊥
Causes (Begins item len next) cause = ⊥
Causes (Faulty c) cause = cause ≡ c

pub causes_fault : (f : First) (cause : LexCause) → f ≡ Faulty cause → Causes f cause
causes_fault f cause e = subst (λ (g : First). Causes g cause) (sym e) refl

pub causes_open : (f : First) → f ≡ Open → Causes f Truncated
causes_open f e = subst (λ (g : First). Causes g Truncated) (sym e) refl
