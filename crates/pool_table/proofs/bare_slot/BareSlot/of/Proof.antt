-- `of` lays the value in. Assumes `Logic`.
use Rattle.atomic_table.proofs.Names.{◌≡◌, List, [], ◌∷◌, ◌++◌, refl, sym, subst, a_type, Val, inst_fn, SProp, emp, ent, id⊢, ftrue, ‵, raw, ◌⊛◌, ◌$◌, ◌∵◌, !, qed, by, move, keep, drop, split, fsplit, fjoin, fpack, rewrite, suffices, use0, feq_i, of_opd, no_more, and_then, returns, enter, alloc_all, pass_all, free_all, look_at, get, sets, agg, tables, RattleType, Valss, owns, types_at, plain, nothing, param, layouts, alive, Stays, stay_dropped, Goes-dropped, walk_of, fact, fact_i, no, WpFn}
use Rattle.std.specs.Prelude.{Some}
use Rattle.atomic_table.proofs.Walks.{proved_at, leaves}
use Rattle.ground.proofs.Walks.{Good, one}
use lib.Dec.{T}
use mir.Syntax.{Ty}
use mir.Val.{has_ty, WT}
use denote.Laws.{Typed}
use denote.Param.{layout}
use denote.Param.Laws.{param_laws}
use denote.Struct.Struct.{within, as_fields}
use denote.Struct.Declared.{shape}
use Rattle.pool_table.specs.contracts.bare_slot.BareSlot as bare
use Rattle.pool_table.specs.contracts.bare_slot.BareSlot.TheInside as inside
use Rattle.pool_table.specs.contracts.bare_slot.BareSlot.of.{ended, clauses}
use Rattle.pool_table.specs.contracts.bare_slot.BareSlot.of.Key.{name as #self}
use Rattle.pool_table.proofs.bare_slot.BareSlot.of.Statement.{statement}
use Rattle.pool_table.proofs.bare_slot.BareSlot.of.Code as code

-- what has one machine value's type is that value
only_one : (τ : Ty) (vs : List Val) → Typed (τ ∷ []) vs
    → (v : Val) × (vs ≡ v ∷ []) × (T (has_ty τ v) × WT v)
only_one τ [] t = absurd t
only_one τ (v ∷ []) t = (v, refl, t.0)
only_one τ (v ∷ w ∷ vs) t = absurd t.1

pub of_spec : {M : Type 1} → statement M
of_spec 𝓤 𝓛 𝓜 𝓡 wired X L =
    let H = 𝓛.H in let 𝓣 = tables 𝓤 H 𝓜 𝓡 𝓡.env in let R : RattleType = param 0 X in let En = ended X in
    let c = clauses X 𝓛 𝓜.mem 𝓡.returns in
    let inst = layouts (a_type ∷ []) (X, tt) in let fn = inst_fn inst code.function in
    let S : RattleType = bare.the_row R in let D = shape (inside.the_type R) in let item = plain (λ _. R) in
    let hs : Stays En.signature.params En.kept = (stay_dropped item no, tt) in
    proved_at 𝓛 En hs c 𝓜 𝓡 (Goes-dropped 𝓛 1 item no (λ κs x f. refl), tt) (#self inst) fn
    (code.unfolded 𝓤 H 𝓜 𝓡 wired (X, tt)) (λ z are.
    let x : X.Denot = z.0.3.0 in let lawful = (param_laws 0 X L).lawful 𝓛 in
    let got = only_one (layout X) z.0.4.0 (lawful.typed x z.0.4.0 are.0) in
    let u : Val = got.0 in let good : Good R u = got.2 in let v : Val = one u in
    let inner = as_fields (layout X ∷ []) (u ∷ []) (good, tt) in
    let Post : Val → SProp 𝓤 = (walk_of 𝓛 En hs c).post z in
    let Run : List Val → SProp 𝓤 = λ ws. WpFn 𝓤 H 𝓣.C 𝓣.Λ fn ws Post in
    qed 𝓛 ((raw (alive 𝓛 En.signature z.0.0 z.0.1) ⊛ ‵ (owns (types_at En.signature.params z.0.0) z.0.3 z.0.4))
    ∷ raw ((c z.0.0 z.0.3).requires z.1) ∷ []) ∵
    keep ! (0 ∷ []) $ split ! $ move ! (1 ∷ []) $ fsplit ! $ move ! (1 ∷ []) $ drop ! $
    -- [the value; the tokens]
    rewrite ! 0 (λ (ws : List Val). ‵ (R.own_val x ws)) got.1 refl $
    nothing ! $ move ! (1 ∷ 0 ∷ []) $ fjoin ! $ feq_i ! (List Val) (v ∷ []) (v ∷ []) refl $ fjoin ! $
    fpack ! (Valss (R ∷ [])) (within D (x, tt) (v ∷ [])) (u ∷ [], tt) $
    nothing ! $ fpack ! (Typed S.mir (v ∷ [])) (λ _. ftrue) (inner, tt) $ fjoin ! $
    suffices ! (Run (u ∷ []))
    (subst (λ (ws : List Val). ent 𝓤 (Run (u ∷ [])) (Run ws)) (sym (λ i. got.1 i ++ [])) (id⊢ 𝓤 (Run (u ∷ [])))) $
    enter ! 𝓣.C 𝓣.Λ fn (u ∷ []) Post $ alloc_all ! (λ l. pass_all ! refl (good, tt) $
    sets ! (of_opd ! (get ! refl)) refl good $
    sets ! (agg ! (and_then ! (get ! refl) (no_more !))) refl inner $
    use0 𝓛 (raw (fact 𝓤 (Some x ≡ Some x))) (fact_i 𝓤 (Some x ≡ Some x) (emp 𝓤) refl) $
    nothing ! $ nothing ! $ fjoin ! $
    returns ! (look_at ! 0 refl) $ free_all ! refl $ keep ! (3 ∷ 0 ∷ 2 ∷ 1 ∷ []) $
    by ! (leaves 𝓛 En hs c z v (Some x) (tt, tt) (tt, tt))))
