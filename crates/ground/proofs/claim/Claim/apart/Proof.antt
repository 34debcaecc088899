-- `apart` compares what the two `&`s show. Assumes `Logic`.
use Rattle.std.proofs.Common.{◌≡◌, ◌<◌, List, [], ◌∷◌, ◌++◌, refl}
use seplogic.Ra.Ura.{Ura}
use mir.Syntax.{Fn}
use mir.Val.{Val, vptr, vunit}
use base.Logic.{SProp, ent}
use base.Fml.{Lft, ftrue, flft}
use prog.Memory.{Memory}
use prog.Routine.{Routine}
use prog.Wp.{Calls, Loops, WpFn, Tables}
use contract.Monad.{Fun, fact}
use contract.Running.{tables, tables_of}
use sound.WpLaws.{WpFn-mono}
use types.Logic.{Logic}
use types.Kit.{‵, raw, later, await, given, learn, use3, feq_i, ◌⊛◌, prop, ◌$◌, ◌∵◌, !, qed, move, drop, split, join, fsplit, fjoin, feq_l, regoal, suffices, done}
use types.Run.{enter, returns, of_opd, unit_lit}
use types.ByLocal.{alloc_all, pass_all, free_all, look_at, sets}
use denote.Exit.{yes}
use denote.RattleType.{owns}
use denote.Builtin.{RefOf}
use denote.Opens.{unhide}
use denote.Signature.{plain, types_at}
use denote.Steps.{nothing, heard}
use denote.Triple.Clauses.{Clauses, Ended, closing}
use denote.Triple.Entry.{alive}
use denote.Triple.Spec.{Meets, triple_of}
use denote.Triple.Table.{entered}
use denote.Triple.Walked.{says, Stays, stay_dropped, walk_of, ends_at, walk_Meets, Goes-dropped}
use Rattle.ground.specs.contracts.claim.Claim as Part
use Rattle.ground.specs.Ground.{ApartAt}
use Rattle.ground.proofs.ClaimLaws.{claims_seen_apart}
use Rattle.ground.specs.contracts.claim.Claim.apart as F
use Rattle.ground.specs.contracts.claim.Claim.apart.Key.{name as #self}
use Rattle.ground.proofs.claim.Claim.apart.Statement as stated
use Rattle.ground.proofs.claim.Claim.apart.Code as code

abbrev function : Fn
function = code.function

abbrev ended : Ended
ended = F.ended

abbrev stayed : Stays ended.signature.params ended.kept
stayed = (
  stay_dropped (RefOf (0 ∷ []) tt (plain (λ _. Part.the_row)) (λ _. tt)) yes,
  (stay_dropped (RefOf (0 ∷ []) tt (plain (λ _. Part.the_row)) (λ _. tt)) yes, tt),
)

module _ {M : Type 1} {𝓤 : Ura M} (𝓛 : Logic 𝓤) (at_mem : Memory → SProp 𝓤) (run : Routine → Fun 𝓤) where
  open 𝓛 use {H}

  abbrev held : Clauses 𝓤 ended
  held = F.clauses 𝓛 at_mem run

  module _ (C : Calls 𝓤 H) (Λ : Loops 𝓤 H) (z : (walk_of 𝓛 ended stayed held).Ghost) where
    abbrev Post : Val → SProp 𝓤
    Post = (walk_of 𝓛 ended stayed held).post z

    abbrev toks : SProp 𝓤
    toks = alive 𝓛 ended.signature z.0.0 z.0.1

    walks : ent 𝓤 ((walk_of 𝓛 ended stayed held).pre z)
        (WpFn 𝓤 H C Λ function ((walk_of 𝓛 ended stayed held).args z) Post)
    walks =
        let a = z.0.3 in
        let vss = z.0.4 in
        let x = a.0 in
        let y = a.1.0 in
        let s = x.now in
        let t = y.now in
        let κ : Lft = z.0.0.0 in
        let q = z.0.1.0 in
        let Asked = (0 < s.len) × (0 < t.len) in
        let Far = (t.name ≡ s.name) → ApartAt s.start s.len t.start t.len in
        qed 𝓛 (((‵ (flft κ q) ⊛ ‵ ftrue) ⊛ ‵ (owns (types_at ended.signature.params z.0.0) a vss)) ∷ raw (fact 𝓤 Asked)
        ∷ []) ∵
        move ! (1 ∷ []) $ heard ! Asked (λ asked. split ! $ split ! $ move ! (1 ∷ []) $ drop ! $ move ! (1 ∷ []) $
        -- [what the arguments own; the token]
        fsplit ! $ fsplit ! $ feq_l ! (λ is₀. unhide ! $ fsplit ! $ drop ! $ move ! (1 ∷ []) $
        fsplit ! $ fsplit ! $ feq_l ! (λ is₁. unhide ! $ fsplit ! $ drop ! $ move ! (1 ∷ []) $ drop ! $
        -- [of the second; of the first; the token]
        move ! (1 ∷ 0 ∷ 2 ∷ []) $
        use3 𝓛 (later (given Far (‵ (flft κ q))))
        (claims_seen_apart 𝓛 κ q s.name t.name s.start s.len t.start t.len asked.0 asked.1) $
        regoal ! (λ (us : List Val). prop (WpFn 𝓤 H C Λ function (us ++ (vss.1.0 ++ [])) Post)) is₀ refl $
        regoal ! (λ (us : List Val). prop
        (WpFn 𝓤 H C Λ function ((vptr x.ref_ptr.0 x.ref_ptr.1 ∷ []) ++ (us ++ [])) Post)) is₁ refl $
        enter ! C Λ function (vptr x.ref_ptr.0 x.ref_ptr.1 ∷ vptr y.ref_ptr.0 y.ref_ptr.1 ∷ []) Post $
        alloc_all ! (λ l. pass_all ! refl ((tt, tt), ((tt, tt), tt)) $
        await ! tt $ learn ! (λ far.
        sets ! (of_opd ! (unit_lit !)) refl (tt, tt) $
        returns ! (look_at ! 0 refl) $ free_all ! refl $
        suffices ! _ (ends_at 𝓛 ended stayed held z vunit tt (tt, (tt, tt)) (tt, (tt, tt))) $ says ! far $
        feq_i ! _ (vunit ∷ []) _ refl $ nothing ! $ nothing ! $ fjoin ! $ nothing ! $ fjoin ! $ nothing ! $
        move ! (3 ∷ 0 ∷ []) $ join ! $ done !)))))

  meets : (𝓣 : Tables 𝓤 H) → Meets 𝓛 ended.signature (WpFn 𝓤 H 𝓣.C 𝓣.Λ function) (closing 𝓛 ended held)
  meets 𝓣 =
      walk_Meets 𝓛 ended stayed (
        Goes-dropped 𝓛 1 (RefOf (0 ∷ []) tt (plain (λ _. Part.the_row)) (λ _. tt)) yes
            (λ κs x f. refl),
        (
          Goes-dropped 𝓛 1 (RefOf (0 ∷ []) tt (plain (λ _. Part.the_row)) (λ _. tt)) yes
              (λ κs x f. refl),
          tt,
        ),
      ) held
      (WpFn 𝓤 H 𝓣.C 𝓣.Λ function) (WpFn-mono 𝓤 H 𝓛.laws 𝓣 function) (walks 𝓣.C 𝓣.Λ)

pub apart_spec : {M : Type 1} → stated.statement M
unfolding tables_of
apart_spec 𝓤 𝓛 𝓜 𝓡 wired =
    let 𝓣 : Tables 𝓤 𝓛.H = tables_of 𝓤 𝓛.H 𝓜 (tables 𝓤 𝓛.H 𝓜 𝓡 𝓡.env) in
    entered 𝓤 𝓛.H (triple_of 𝓛 ended.signature (closing 𝓛 ended (held 𝓛 𝓜.mem 𝓡.returns))) 𝓣.C 𝓣.Λ #self function
    (code.unfolded 𝓤 𝓛.H 𝓜 𝓡 wired) (meets 𝓛 𝓜.mem 𝓡.returns 𝓣)
