-- `deallocate` gives the block up. Assumes `Logic`.
use Rattle.std.proofs.Common.{◌≡◌, List, [], ◌∷◌, ◌++◌, refl, w64}
use mir.Syntax.{Ty, Fn}
use mir.Val.{Val, vint, vptr, vunit}
use base.Logic.{SProp}
use base.Fml.{ftrue}
use prog.Memory.{size, align, capped}
use prog.Wp.{WpFn}
use contract.Monad.{fact}
use contract.Running.{tables}
use types.Kit.{‵, raw, ◌⊛◌, prop, ◌$◌, ◌∵◌, !, qed, by, move, keep, split, regoal, fjoin, feq_i}
use types.Run.{unit_lit, of_opd, returns, enter}
use types.ByLocal.{alloc_all, pass_all, free_all, look_at, sets}
use denote.RattleType.{owns}
use denote.RawPtr.{ptr_val, room_for}
use denote.Signature.{types_at}
use denote.Steps.{nothing}
use denote.Triple.Entry.{alive}
use denote.Triple.Walked.{Stays, stay_dropped, walk_of, Goes-dropped}
use Rattle.std.proofs.raw_atomic.Walks.{proved_at, leaves}
use Rattle.linked_list_allocator.proofs.Values.{ptr_typed}
use Rattle.linked_list_allocator.proofs.Walks.{slot_at}
use Rattle.given_memory.specs.contracts.one_block.OneBlockAllocator.deallocate.{ended, clauses}
use Rattle.given_memory.specs.contracts.one_block.OneBlockAllocator.deallocate.Key.{name as #self}
use Rattle.given_memory.proofs.one_block.OneBlockAllocator.deallocate.Statement.{statement}
use Rattle.given_memory.proofs.one_block.OneBlockAllocator.deallocate.Code as compiled

pub deallocate_spec : {M : Type 1} → statement M
deallocate_spec 𝓤 𝓛 𝓜 𝓡 wired =
    let H = 𝓛.H in
    let En₀ = ended in
    let c = clauses 𝓛 𝓜.mem 𝓡.returns in
    let fn : Fn = compiled.function in
    let ps = En₀.signature.params in
    let ks = En₀.kept in
    let stays : Stays ps ks = (
      stay_dropped (slot_at 0 ps) ks.0,
      (
        stay_dropped (slot_at 1 ps) ks.1.0,
        (stay_dropped (slot_at 2 ps) ks.1.1.0, (stay_dropped (slot_at 3 ps) ks.1.1.1.0, tt)),
      ),
    ) in
    let go₀ = Goes-dropped 𝓛 1 (slot_at 0 ps) ks.0 (λ κs x f. refl) in
    let go₁ = Goes-dropped 𝓛 1 (slot_at 1 ps) ks.1.0 (λ κs x f. refl) in
    let go₂ = Goes-dropped 𝓛 1 (slot_at 2 ps) ks.1.1.0 (λ κs x f. refl) in
    let go₃ = Goes-dropped 𝓛 1 (slot_at 3 ps) ks.1.1.1.0 (λ κs x f. refl) in
    let C = (tables 𝓤 H 𝓜 𝓡 𝓡.env).C in
    let Λ = (tables 𝓤 H 𝓜 𝓡 𝓡.env).Λ in
    proved_at 𝓛 En₀ stays c 𝓜 𝓡 (go₀, (go₁, (go₂, (go₃, tt)))) #self fn (compiled.unfolded 𝓤 H 𝓜 𝓡 wired) (λ z are.
    let Post : Val → SProp 𝓤 = (walk_of 𝓛 En₀ stays c).post z in
    let a = z.0.3 in
    let vss = z.0.4 in
    let τ : Ty = z.1 in
    let from = a.1.0 in
    let n = a.1.1.0 in
    let al = a.1.1.1.0 in
    let me : Val = vptr a.0.ref_ptr.0 a.0.ref_ptr.1 in
    let Asked : Type 0 = (capped (size τ) ≡ n) × (capped (align τ) ≡ al) in
    qed 𝓛 ((raw (alive 𝓛 En₀.signature z.0.0 z.0.1) ⊛ ‵ (owns (types_at ps z.0.0) a vss)) ∷
    (raw (fact 𝓤 Asked) ⊛ ‵ (room_for τ from) ⊛ ‵ ftrue) ∷ []) ∵ split ! $ keep ! (0 ∷ []) $
    regoal ! (λ (us : List Val). prop (WpFn 𝓤 H C Λ fn us Post))
    (λ i. are.0.0 i ++ (are.1.0 i ++ (are.1.1.0.0 i ++ (are.1.1.1.0.0 i ++ [])))) refl $
    enter ! C Λ fn (me ∷ ptr_val from ∷ vint w64 n ∷ vint w64 al ∷ []) Post $
    alloc_all ! (λ l. pass_all ! refl (
      (tt, tt),
      (
        ptr_typed from,
        ((tt, record { fits = are.1.1.0.1 }), ((tt, record { fits = are.1.1.1.0.1 }), tt)),
      ),
    ) $
    sets ! (of_opd ! (unit_lit !)) refl (tt, tt) $
    returns ! (look_at ! 0 refl) $ free_all ! refl $
    feq_i ! (List Val) (vunit ∷ []) (vunit ∷ []) refl $ nothing ! $ nothing ! $ nothing ! $ fjoin ! $ nothing ! $ fjoin ! $
    nothing ! $ fjoin ! $ nothing ! $ fjoin ! $ move ! (3 ∷ 0 ∷ 2 ∷ 1 ∷ []) $
    by ! (leaves 𝓛 En₀ stays c z (vunit) (tt) (tt, (tt, (tt, (tt, tt)))) (tt, (tt, (tt, (tt, tt)))))))
