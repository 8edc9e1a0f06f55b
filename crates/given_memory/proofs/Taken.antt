-- The two cases of what `take` gave, and memory as room for a type. Assumes `Logic`.
use Rattle.std.proofs.Common.{◌≡◌, ℕ, ◌%◌, ◌^◌, ◌<◌, ◌≤◌, List, [], ◌∷◌, ◌++◌, IfSome, None, Some}
use Rattle.std.proofs.Common.{sym, ap, subst, ◌∙◌, arith}
use seplogic.Ra.Ura.{Ura}
use mir.Syntax.{Ty, Width, w8, w16, w32, w64, w128}
use mir.Val.{Val, vcons, vnil, of_list, bytes}
use base.Logic.{ent, sep, wand, id⊢}
use base.Fml.{ftrue, froom}
use prog.Memory.{size, align, capped}
use prog.Align.{Dv, align_w, align-bytes}
use prog.Capped.{capped_is, capped_small}
use types.Logic.{Logic, sem}
use types.Kit.{Item, Goal, Seq, ‵, raw, ◌⊛◌, ◌$◌, ◌∵◌, !, qed, move, drop, use1, split, frame, fsplit, fpick, feq_l, done}
use types.Match.{live}
use denote.RattleType.{RattleType}
use denote.RawPtr.{block_ptr, in_a_block}
use denote.Shadow.{pure_l}
use denote.Steps.{nothing, only}
use Rattle.core.specs.contracts.option.Option as option
use Rattle.linked_list_allocator.specs.Ownership.{bytes_at}
use Rattle.linked_list_allocator.proofs.Nodes.{retypes}
use Rattle.linked_list_allocator.proofs.Values.{sized_val, sized_own, sized_told}
use Rattle.given_memory.specs.contracts.one_block.GivenMemory as given

abbrev pub Taken : RattleType
Taken = option.the_row given.the_row

abbrev pub Told : ℕ → ℕ → Taken.Denot → Type 0
Told n a x = IfSome x (λ m. (n ≤ m.size) × (m.size % 16 ≡ 0) × (n < 2 ^ 63) × (a ≤ 16))

divides_16 : (w : Width) → Dv (bytes w) 16
divides_16 w8 = tt
divides_16 w16 = tt
divides_16 w32 = tt
divides_16 w64 = tt
divides_16 w128 = tt

-- m bytes are room for a type of at most so many
pub hands_out : {M : Type 1} {𝓤 : Ura M} (𝓛 : Logic 𝓤) (τ : Ty) (b o m n a : ℕ) → capped (size τ) ≡ n
    → capped (align τ) ≡ a → n ≤ m → m % 16 ≡ 0 → n < 2 ^ 63 → a ≤ 16
    → ent 𝓤 (sem 𝓛 (bytes_at (block_ptr b o) m)) (sep 𝓤 (𝓛.H.room τ b o) (sem 𝓛 ftrue))
hands_out {𝓤 = 𝓤} 𝓛 τ b o m n a sized aligned holds whole small slim =
    let bounded : size τ < 2 ^ 63 = capped_small (size τ) (omega arith) in
    let same : n ≡ size τ = sym sized ∙ capped_is (size τ) (omega arith) in
    let short = subst (λ (k : ℕ). k ≤ m) same holds in
    let divides = subst (λ (k : ℕ). Dv k 16) (sym (align-bytes τ)) (divides_16 (align_w τ)) in
    qed 𝓛 (‵ (bytes_at (block_ptr b o) m) ∷ []) ∵
    use1 𝓛 (‵ (froom τ b o) ⊛ raw (wand 𝓤 (𝓛.H.room τ b o) (sem 𝓛 (bytes_at (block_ptr b o) m))))
    (retypes 𝓛 b τ o m whole short divides) $
    split ! $ frame ! $ drop ! $ nothing ! $ done !

module _ {M : Type 1} {𝓤 : Ura M} {𝓛 : Logic 𝓤} {K : Type 0} {Γ : List (Item 𝓤)} {G : Goal 𝓤 𝓛.H} where
  pub taken : K → (n a : ℕ) (x : Taken.Denot) (v : Val) → Told n a x
      → ((b o m : ℕ) → n ≤ m → m % 16 ≡ 0 → m < 2 ^ 64 → n < 2 ^ 63 → a ≤ 16
      → v ≡ live 1 (vcons (sized_val (block_ptr b o) m) vnil)
      → Seq K 𝓛 (‵ (bytes_at (block_ptr b o) m) ∷ Γ) G)
      → (v ≡ live 0 vnil → Seq K 𝓛 Γ G) → Seq K 𝓛 (‵ (Taken.own_val x (v ∷ [])) ∷ Γ) G
  taken t n a None v told some none =
      fpick t (λ us. fsplit t $ feq_l t (λ is. fpick t (λ vss. fsplit t $ feq_l t (λ is'. drop t $
      none (ap only is ∙ ap (λ (ws : List Val). live 0 (of_list ws)) is')))))
  taken t n a (Some w) v told some none =
      fpick t (λ us. fsplit t $ feq_l t (λ is. fpick t (λ vss. fsplit t $ feq_l t (λ is'.
      fsplit t $ move t (1 ∷ []) $ drop t $ fsplit t $ pure_l t (sized_own w.at w.size vss.0) (λ s.
      let parts = sized_told w.at w.size vss.0 s in
      let is_some = ap only is ∙ ap (λ (xs : List Val). live 1 (of_list xs)) (is' ∙ ap (λ (xs : List Val). xs ++ []) parts.0) in
      in_a_block t w.at (λ p. bytes_at p w.size) (id⊢ 𝓤 _) (λ b o e.
      some b o w.size told.0 told.1 parts.1 told.2 told.3
      (is_some ∙ (λ i. live 1 (vcons (sized_val (e i) w.size) vnil)))))))))
