-- `take` reads the value out, and leaves its bytes where they are. Assumes `Logic`.
use Rattle.atomic_table.proofs.Names.{◌≡◌, ℕ, List, [], ◌∷◌, refl, a_type, named, Val, vptr, inst_fn, SProp, emp, id⊢, Fml, ftrue, fsep, flft, ‵, raw, ◌⊛◌, at_ret, ◌$◌, ◌∵◌, !, qed, by, move, keep, drop, split, join, fsplit, fsplit3, fjoin, fjoin3, fpick, fpack, rewrite, use0, use1, feq_i, stop, fld, load, addr, of_opd, first, blocks, exec, look_raw, returns, enter, alloc_all, pass_all, free_all, look_at, get, get_in, through, sets, sets_last, env, sub, whole, tables, RattleType, owns, types_at, plain, nothing, param, layouts, Stays, walk_of, fact, fact_i, heard, mut_vals, mut_Tells, opens, closes, stay_ref, Goes-ref, cell_at, full_share}
use Rattle.std.specs.Prelude.{Option, Some, None, IsSome}
use Rattle.atomic_table.proofs.Walks.{proved, leaves}
use Rattle.std.proofs.VecSteps.Shapes.{after}
use denote.Laws.{Typed}
use denote.Param.{layout}
use denote.Param.Laws.{param_laws}
use denote.Struct.Struct.{as_fields}
use Rattle.ground.proofs.Walks.{plainly, one, one_had}
use Rattle.pool_table.specs.contracts.bare_slot.BareSlot as bare
use Rattle.pool_table.specs.contracts.bare_slot.BareSlot.take.{ended, clauses}
use Rattle.pool_table.specs.contracts.bare_slot.BareSlot.take.Key.{name as #self}
use Rattle.pool_table.proofs.bare_slot.BareSlot.take.Statement.{statement}
use Rattle.pool_table.proofs.bare_slot.BareSlot.take.Code as code

some_in : {A : Type 0} (o : Option A) → IsSome o → (x : A) × (o ≡ Some x)
some_in (Some x) is = (x, refl)
some_in None is = absurd (cc is)

pub take_spec : {M : Type 1} → statement M
take_spec 𝓤 𝓛 𝓜 𝓡 wired T L =
    let H = 𝓛.H in let 𝓣 = tables 𝓤 H 𝓜 𝓡 𝓡.env in let R : RattleType = param 0 T in let En = ended T in
    let inst = layouts (a_type ∷ []) (T, tt) in let fn = inst_fn inst code.function in
    let S : RattleType = bare.the_row R in let self = plain (λ _. S) in
    let hs : Stays En.signature.params En.kept = (stay_ref (0 ∷ []) tt self, tt) in
    let c = clauses T 𝓛 𝓜.mem 𝓡.returns in
    proved 𝓛 En hs c 𝓜 𝓡 (Goes-ref 𝓛 2 0 tt self, tt) (#self inst) fn (code.unfolded 𝓤 H 𝓜 𝓡 wired (T, tt))
    (λ κs. (mut_vals, tt)) (λ κs. (mut_Tells (named 0) κs.0 S, tt)) (λ κs qs bounds a gh are.
    let b : ℕ = a.0.ref_ptr.0 in let o : ℕ = a.0.ref_ptr.1 in let h : Option T.Denot = a.0.now in
    let y : (walk_of 𝓛 En hs c).Ghost = ((κs, qs, bounds, a, (vptr b o ∷ [], tt)), gh) in
    let Post : Val → SProp 𝓤 = (walk_of 𝓛 En hs c).post y in
    let others : Fml = fsep (flft κs.1.0 qs.1.0) ftrue in
    qed 𝓛 (((‵ (flft κs.0 qs.0) ⊛ ‵ others) ⊛ ‵ (owns (types_at En.signature.params κs) a y.0.4))
    ∷ (raw (fact 𝓤 _) ⊛ raw (fact 𝓤 (IsSome h))) ∷ []) ∵
    move ! (1 ∷ []) $ split ! $ drop ! $ heard ! (IsSome h) (λ some.
    let got = some_in h some in let x : T.Denot = got.0 in let out : Option T.Denot = None in
    let Told : Type 0 = (h ≡ Some x) × (out ≡ out) in
    split ! $ split ! $ move ! (2 ∷ []) $ fsplit ! $ fsplit3 ! $ keep ! (1 ∷ 2 ∷ 4 ∷ 5 ∷ []) $
    enter ! 𝓣.C 𝓣.Λ fn (vptr b o ∷ []) Post $ alloc_all ! (λ l. pass_all ! refl ((tt, tt), tt) $
    let Ev = env fn.locals l in
    opens ! tt S b o (λ ts. move ! (1 ∷ []) $
    rewrite ! 0 (λ (w : Option T.Denot). ‵ (S.own_val w ts)) got.1 refl $
    fsplit ! $ fpick ! (λ typed. drop ! $ use1 𝓛 (‵ ((plainly (R ∷ [])).own_val (x, tt) ts)) (id⊢ 𝓤 _) $
    one_had ! R (param_laws 0 T L) x ts (λ u is good.
    let v : Val = one u in let inner = as_fields (layout T ∷ []) (u ∷ []) (good, tt) in
    rewrite ! 1 (λ (us : List Val). ‵ (cell_at full_share S.mir us b o)) is refl $ move ! (1 ∷ []) $
    -- [the cell; the value; what closes; the others]
    sets ! (addr ! (through ! refl (stop !))) refl (tt, tt) $
    first ! $ blocks ! $
    sets_last ! (of_opd ! (load ! (through ! refl (stop !)) (look_raw ! 0 refl))) refl inner $
    exec ! 𝓣.C 𝓣.Λ Ev (after 2 fn.body) (at_ret Ev Post) $
    sets ! (of_opd ! (get ! refl)) refl inner $
    sets ! (of_opd ! (get_in ! (fld ! refl (stop !)) (sub ! 0 refl (whole !)))) refl good $
    sets ! (of_opd ! (get ! refl)) refl good $
    nothing ! $ nothing ! $ fpack ! (Typed S.mir (v ∷ [])) (λ _. ftrue) (inner, tt) $ fjoin ! $
    move ! (1 ∷ 0 ∷ 3 ∷ 4 ∷ 5 ∷ []) $ closes ! tt S None (v ∷ []) b o $
    feq_i ! (List Val) (vptr b o ∷ []) (vptr b o ∷ []) refl $ fjoin3 ! $ nothing ! $ move ! (1 ∷ 0 ∷ []) $ fjoin ! $
    -- [what is left of the reference; its token; the value; the others]
    move ! (1 ∷ 3 ∷ []) $ join ! $
    use0 𝓛 (raw (fact 𝓤 Told)) (fact_i 𝓤 Told (emp 𝓤) (got.1, refl)) $
    returns ! (look_at ! 0 refl) $ free_all ! refl $ keep ! (1 ∷ 2 ∷ 3 ∷ 0 ∷ []) $
    by ! (leaves 𝓛 En hs c y u x (None, tt) (tt, tt))))))))
