use Rattle.std.proofs.Common.{◌≡◌, List, [], ◌∷◌, ◌++◌, refl, ap, ◌∙◌}
use Rattle.std.specs.Prelude.{Option, Some, IsSome}
use mir.Val.{Val, vptr}
use base.Logic.{SProp, emp, never, fst∗}
use prog.Wp.{WpFn}
use contract.Monad.{fact, fact_i}
use contract.Running.{tables}
use types.Logic.{sem}
use types.Kit.{‵, raw, ◌⊛◌, prop, ◌$◌, ◌∵◌, !, qed, by, move, keep, drop, use0, split, regoal, fsplit, fjoin, rewrite}
use types.Part.{whole, sub, agg}
use types.Run.{stop, fld, of_opd, no_more, and_then, returns, enter}
use types.ByLocal.{alloc_all, pass_all, free_all, look_at, get, get_in, sets}
use denote.RattleType.{RattleType, owns}
use denote.RawPtr.{Ptr, block_ptr, null_ptr, in_a_block}
use denote.Signature.{types_at, plain}
use denote.Steps.{nothing, heard}
use denote.Memory.{lone}
use mir.Raw.{raw as bare}
use denote.Triple.Entry.{alive}
use denote.Triple.Walked.{Stays, stay_dropped, walk_of, Goes-dropped}
use Rattle.core.proofs.alloc.Calls.{handle_tells}
use Rattle.std_alloc.specs.Box.Ownership.{box_owns}
use Rattle.std.proofs.raw_atomic.Walks.{proved_at, leaves}
use Rattle.std.proofs.alloc.Global.TheLaws as heap_laws
use Rattle.std.specs.contracts.alloc.Global as heap
use Rattle.std.specs.contracts.impls.GlobalAllocator.TheImpl.{ghosts}
use Rattle.pool_c.proofs.ParcelSlotValues.{told}
use Rattle.pool_c.proofs.Values.{both, al, loose_good, loose_in}
use Rattle.pool_c.specs.ParcelSlots.{parcel_slot_owns}
use Rattle.pool_c.specs.contracts.carried.Carried as inner
use Rattle.pool_c.specs.contracts.parcel_slot.ParcelSlot as slot
use Rattle.pool_c.specs.contracts.parcel_slot.ParcelSlot.into_loose.{ended, clauses}
use Rattle.pool_c.specs.contracts.parcel_slot.ParcelSlot.into_loose.Key.{name as #self}
use Rattle.pool_c.proofs.parcel_slot.ParcelSlot.into_loose.Statement.{statement}
use Rattle.pool_c.proofs.parcel_slot.ParcelSlot.into_loose.Code as code
use Rattle.pool_c.proofs.SlotValues.{word, some_of}

pub into_loose_spec : {M : Type 1} → statement M
into_loose_spec 𝓤 𝓛 𝓜 𝓡 wired =
    let H = 𝓛.H in let 𝓣 = tables 𝓤 H 𝓜 𝓡 𝓡.env in let fn = code.function in let c = clauses 𝓛 𝓜.mem 𝓡.returns in
    let R : RattleType = inner.the_row in let Z : RattleType = heap.the_row in let LZ = heap_laws.the_row_laws in
    let P = plain (λ _. slot.the_row) in let Q = plain (λ _. Z) in let hs : Stays ended.signature.params ended.kept =
    (stay_dropped P ended.kept.0, (stay_dropped Q ended.kept.1.0, tt)) in
    proved_at 𝓛 ended hs c 𝓜 𝓡 (
      Goes-dropped 𝓛 0 P ended.kept.0 (λ κs x f. refl),
      (
        Goes-dropped 𝓛 0 Q ended.kept.1.0
            (λ κs x f. refl),
        tt,
      ),
    ) #self fn (code.unfolded 𝓤 H 𝓜 𝓡 wired) (λ z are.
    let Post : Val → SProp 𝓤 = (walk_of 𝓛 ended hs c).post z in let s = z.0.3.0 in let a = z.0.3.1.0 in let Asked :
    Type 0 = IsSome s.held in
    qed 𝓛 ((raw (alive 𝓛 ended.signature z.0.0 z.0.1) ⊛ ‵ (owns (types_at ended.signature.params z.0.0) z.0.3 z.0.4)) ∷
    raw (fact 𝓤 Asked) ∷ []) ∵ move ! (1 ∷ []) $ heard ! Asked (λ there. let got = some_of s.held there in let x =
    got.0 in let asked = got.1 in
    split ! $ move ! (1 ∷ []) $ fsplit ! $ move ! (1 ∷ []) $ fsplit ! $ handle_tells (al R Z LZ ghosts) ! a z.0.4.1.0
    (λ h eh fits. move ! (2 ∷ []) $ fsplit ! $ drop ! $
    rewrite ! 0 (λ (held : Option (inner.the_row).Denot). ‵ (parcel_slot_owns s.at held)) asked refl $
    in_a_block ! s.at (λ p. box_owns (ghosts.dealloc_token a) R p x) (fst∗ 𝓤 (never 𝓤) (sem 𝓛 (ghosts.dealloc_token a
    (bare (lone R.mir)) null_ptr))) (λ b o e. let w : Val = both (vptr b o) h in
    let es : z.0.4.0 ≡ word (block_ptr b o) ∷ [] = told s.at z.0.4.0 are.0.0 ∙ ap (λ (p : Ptr). word p ∷ []) e in
    -- [the box; the handle; nothing; the tokens]
    regoal ! (λ (us : List Val). prop (WpFn 𝓤 H 𝓣.C 𝓣.Λ fn us Post)) (λ i. es i ++ (eh i ++ [])) refl $
    enter ! 𝓣.C 𝓣.Λ fn (word (block_ptr b o) ∷ h ∷ []) Post $ alloc_all ! (λ l. pass_all ! refl (
      (tt, (tt, tt)),
      (
        fits,
        tt,
      ),
    ) $
    sets ! (of_opd ! (get_in ! (fld ! refl (stop !)) (sub ! 0 refl (whole !)))) refl (tt, tt) $ sets ! (of_opd ! (get !
    refl)) refl (tt, tt) $
    sets ! (agg ! (and_then ! (get ! refl) (and_then ! (get ! refl) (no_more !)))) refl (loose_good R Z LZ ghosts b o h
    fits) $
    loose_in R Z LZ ghosts ! b o h a x $ returns ! (look_at ! 0 refl) $ free_all ! refl $
    use0 𝓛 (raw (fact 𝓤 (s.held ≡ Some x))) (fact_i 𝓤 (s.held ≡ Some x) (emp 𝓤) asked) $ nothing ! $ nothing ! $ fjoin
    ! $ nothing ! $ fjoin ! $
    -- [no parameters; what is told; the loose box; nothing; the tokens]
    keep ! (4 ∷ 0 ∷ 2 ∷ 1 ∷ []) $ by ! (leaves 𝓛 ended hs c z w (record { at = block_ptr b o; alloc = a; value = x })
    (tt, (tt, tt)) (tt, (tt, tt))))))))
