use Rattle.std.proofs.Common.{◌≡◌, [], ◌∷◌, refl, lit<}
use Rattle.std.specs.Prelude.{None}
use mir.Val.{Val}
use base.Logic.{SProp, emp}
use base.Fml.{ftrue}
use contract.Monad.{fact, fact_i}
use contract.Running.{tables}
use types.Kit.{‵, raw, ◌⊛◌, ◌$◌, ◌∵◌, !, qed, by, move, keep, use0, split, fjoin}
use types.Part.{agg}
use types.Run.{lit, no_more, and_then, returns, enter}
use types.ByLocal.{alloc_all, pass_all, free_all, look_at, sets}
use denote.RattleType.{owns}
use denote.RawPtr.{null_ptr}
use denote.Signature.{types_at}
use denote.Steps.{nothing}
use denote.Triple.Entry.{alive}
use denote.Triple.Walked.{Stays, walk_of}
use Rattle.std.proofs.raw_atomic.Walks.{proved_at, leaves}
use Rattle.pool_c.proofs.ParcelSlotValues.{Data, made}
use Rattle.pool_c.specs.contracts.parcel_slot.ParcelSlot as slot
use Rattle.pool_c.specs.contracts.parcel_slot.ParcelSlot.none.{ended, clauses}
use Rattle.pool_c.specs.contracts.parcel_slot.ParcelSlot.none.Key.{name as #self}
use Rattle.pool_c.proofs.parcel_slot.ParcelSlot.none.Statement.{statement}
use Rattle.pool_c.proofs.parcel_slot.ParcelSlot.none.Code as code
use Rattle.pool_c.proofs.SlotValues.{word}

pub none_spec : {M : Type 1} → statement M
none_spec 𝓤 𝓛 𝓜 𝓡 wired =
    let H = 𝓛.H in let 𝓣 = tables 𝓤 H 𝓜 𝓡 𝓡.env in let fn = code.function in let c = clauses 𝓛 𝓜.mem 𝓡.returns in
    let hs : Stays ended.signature.params ended.kept = tt in
    proved_at 𝓛 ended hs c 𝓜 𝓡 tt #self fn (code.unfolded 𝓤 H 𝓜 𝓡 wired) (λ z are.
    let Post : Val → SProp 𝓤 = (walk_of 𝓛 ended hs c).post z in let s : (slot.the_row).Denot = record {
      at = null_ptr;
      held = None;
    } in
    qed 𝓛 ((raw (alive 𝓛 ended.signature z.0.0 z.0.1) ⊛ ‵ (owns (types_at ended.signature.params z.0.0) z.0.3 z.0.4)) ∷
    ‵ ftrue ∷ []) ∵ split ! $
    enter ! 𝓣.C 𝓣.Λ fn [] Post $ alloc_all ! (λ l. pass_all ! refl tt $
    sets ! (agg ! (and_then ! (lit ! tt) (no_more !))) refl (tt, (record { fits = lit< tt }, tt)) $
    returns ! (look_at ! 0 refl) $ free_all ! refl $ keep ! (0 ∷ 1 ∷ []) $
    use0 𝓛 (raw (fact 𝓤 (s.held ≡ None))) (fact_i 𝓤 (s.held ≡ None) (emp 𝓤) refl) $
    nothing ! $ use0 𝓛 (‵ (Data.own_val (null_ptr, tt) (word null_ptr ∷ []))) (made 𝓛 null_ptr) $ fjoin ! $
    -- [the slot; what is told; the tokens; nothing]
    move ! (2 ∷ 3 ∷ 0 ∷ 1 ∷ []) $ by ! (leaves 𝓛 ended hs c z (word null_ptr) s tt tt)))
