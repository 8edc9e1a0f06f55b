-- What is begun in mode PJL and not decided goes on to an item or a fault: a line to its 1024th byte.
use Rattle.std.proofs.Common.{◌≡◌, ◌≢◌, ℕ, zero, suc, ◌-◌, List, [], ◌∷◌, ◌++◌, length, replicate, true, false, refl, sym, ap, subst, ◌∙◌}
use Rattle.std.proofs.Common.{arith}
use Rattle.std.specs.Prelude.{◌==◌}
use Rattle.std.proofs.lemmas.Bool.{eqb-true, eqb-false, cond_both}
use Rattle.std.proofs.lemmas.List.{append-nil, length-append, length-replicate}
use Rattle.pcl_items.specs.declared.fault.LexCause.{LexCause}
use Rattle.pcl_items.specs.declared.fault.LexCause.TheVariants as causes
use Rattle.pcl_lexer.specs.Lexing.Contexts.{Pcl, Pjl}
use Rattle.pcl_items.specs.Items.{Text}
use Rattle.pcl_items.specs.PjlLines.Text.{at_sign, is_inside}
use Rattle.pcl_lexer.specs.PjlLines.Syntax.{Each}
use Rattle.pcl_items.specs.PjlLines.First as lines
use Rattle.pcl_lexer.specs.PjlLines.Units.{PjlFault, no_line, long_line, cut_line}
use Rattle.pcl_lexer.specs.Reader.{First, Open, by_pjl, first_of}
use Rattle.pcl_lexer.proofs.PjlLines.Canonical.{each_append}
use Rattle.pcl_lexer.proofs.PjlLines.Units.{lines_by_rules}
use Rattle.pcl_lexer.proofs.PjlLines.Heads.{otherwise_read, line_begins, open_line}
use Rattle.pcl_lexer.proofs.Lexing.Opening.{Decided, by_item, by_fault, same, GoesOn, between_goes_on}

blanks_inside : (n : ℕ) → Each is_inside (replicate n 32)
blanks_inside zero = tt
blanks_inside (suc n) = (refl, blanks_inside n)

-- blanks up to the 1024th byte
line_goes_on : (bytes : List ℕ) (cause : LexCause) → PjlFault bytes cause → cause ≡ causes.Truncated →
    lines.at_pjl (bytes ++ replicate (1024 - length bytes) 32) ≡ lines.Faulty causes.Pjl
line_goes_on bytes cause (no_line text rest e l h) p = absurd cc
line_goes_on bytes cause (long_line text rest e l) p = absurd cc
line_goes_on bytes cause (cut_line e l) p =
    let n : ℕ = 1024 - length bytes in
    let all : List ℕ = bytes ++ replicate n 32 in
    let size : length all ≡ 1024 = omega (arith, l, length-append bytes (replicate n 32), length-replicate {A = ℕ} n 32) in
    ap lines.at_pjl (sym (append-nil all))
    ∙ (lines_by_rules (all ++ [])).fault_is_read causes.Pjl
    (long_line all [] (each_append is_inside bytes (replicate n 32) e (blanks_inside n)) size)

begun_line : (bytes : List ℕ) → by_pjl (lines.at_pjl (at_sign ∷ bytes)) ≡ Open → GoesOn Pjl (at_sign ∷ bytes)
begun_line bytes e =
    let cut = (lines_by_rules (at_sign ∷ bytes)).cut (open_line (lines.at_pjl (at_sign ∷ bytes)) e) in
    let more : List ℕ = replicate (1024 - length (at_sign ∷ bytes)) 32 in
    record {
      more = more;
      decided =
          by_fault causes.Pjl
          (line_begins true (bytes ++ more) ∙ ap by_pjl (line_goes_on (at_sign ∷ bytes) causes.Truncated cut refl)) (λ h. h);
    }

otherwise_goes_on : (b : ℕ) (rest : List ℕ) → b ≢ at_sign → GoesOn Pcl (b ∷ rest) → GoesOn Pjl (b ∷ rest)
otherwise_goes_on b rest h g = record {
  more = g.more;
  decided =
      same (first_of true Pjl (b ∷ (rest ++ g.more))) (first_of true Pcl (b ∷ (rest ++ g.more)))
      (otherwise_read true b (rest ++ g.more) h) g.decided;
}

text_decides : Decided (first_of true Pjl (95 ∷ []))
unfolding first_of
text_decides = by_item (Text 95) 1 Pcl refl

abbrev Goes : ℕ → List ℕ → First → Type 0
Goes b rest f = f ≡ Open → GoesOn Pjl (b ∷ rest)

pub pjl_goes_on : (rest : List ℕ) → first_of false Pjl rest ≡ Open → GoesOn Pjl rest
unfolding first_of
pjl_goes_on [] e = record { more = 95 ∷ []; decided = text_decides }
pjl_goes_on (b ∷ rest) e =
    cond_both (b == 64) _ _ (Goes b rest)
    (λ t. subst (λ (n : ℕ). Goes n rest (by_pjl (lines.at_pjl (n ∷ rest)))) (sym (eqb-true b 64 t)) (begun_line rest))
    (λ t k. otherwise_goes_on b rest (eqb-false b 64 t) (between_goes_on (b ∷ rest) k)) e
