-- `bytes` shows what lies there. Assumes `Logic`.
use Rattle.std.proofs.Common.{◌≡◌, ◌*◌, ◌^◌, ◌<◌, List, [], ◌∷◌, ◌++◌, length, refl, sym, ap, ◌∙◌, arith}
use seplogic.Ra.Ura.{Ura}
use mir.Syntax.{Fn, w64}
use mir.Val.{Val, vptr, vint}
use base.Logic.{SProp, ent, never, fst∗}
use base.Fml.{Lft, ftrue, flft}
use prog.Memory.{Memory}
use prog.Routine.{Routine}
use prog.Wp.{Calls, Loops, WpFn, Tables}
use contract.Monad.{Fun, fact}
use contract.Running.{tables, tables_of}
use sound.WpLaws.{WpFn-mono}
use types.Logic.{Logic, sem}
use types.Kit.{‵, raw, ◌⊛◌, at_ret, prop, ◌$◌, ◌∵◌, !, qed, move, drop, split, join, fsplit, fjoin, feq_l, feq_i, flt_l, flt_i, regoal, suffices, done}
use types.Part.{agg}
use types.Run.{enter, returns, of_opd, and_then, no_more, first, blocks, exec}
use types.ByLocal.{alloc_all, pass_all, free_all, look_at, get, sets, sets_last, env}
use denote.Exit.{yes}
use denote.RattleType.{owns}
use denote.RawPtr.{ptr_val, in_a_block}
use denote.Builtin.{RefOf, RawPtr, u8, usize}
use denote.Array.{Array}
use denote.Memory.{shared_of}
use denote.Opens.{hide, unhide}
use denote.Signature.{plain, types_at}
use denote.Slice.{slice_val}
use denote.Steps.{nothing, heard}
use denote.Triple.Clauses.{Clauses, Ended, closing}
use denote.Triple.Spec.{Meets, triple_of}
use denote.Triple.Table.{entered}
use denote.Triple.Walked.{says, Stays, stay_dropped, walk_of, ends_at, walk_Meets, Goes-dropped}
use Rattle.std.proofs.alloc.Calls.{Goes-blank}
use Rattle.std_alloc.proofs.VecSteps.Shapes.{after}
use Rattle.ground.specs.Ownership.{raw_bytes_shares}
use Rattle.ground.specs.contracts.raw_bytes.RawBytes as Part
use Rattle.ground.specs.contracts.raw_bytes.RawBytes.bytes as F
use Rattle.ground.specs.contracts.raw_bytes.RawBytes.bytes.Key.{name as #self}
use Rattle.ground.proofs.raw_bytes.RawBytes.bytes.Statement as stated
use Rattle.ground.proofs.raw_bytes.RawBytes.bytes.Code as code

abbrev function : Fn
function = code.function

abbrev ended : Ended
ended = F.ended

abbrev stayed : Stays ended.signature.params ended.kept
stayed = (
  stay_dropped (RefOf (0 ∷ []) tt (plain (λ _. Part.the_row)) (λ _. tt)) yes,
  (stay_dropped (plain (λ _. RawPtr)) yes, (stay_dropped (plain (λ _. usize)) yes, tt)),
)

module _ {M : Type 1} {𝓤 : Ura M} (𝓛 : Logic 𝓤) (at_mem : Memory → SProp 𝓤) (run : Routine → Fun 𝓤) where
  open 𝓛 use {H}

  abbrev held : Clauses 𝓤 ended
  held = F.clauses 𝓛 at_mem run

  module _ (C : Calls 𝓤 H) (Λ : Loops 𝓤 H) (z : (walk_of 𝓛 ended stayed held).Ghost) where
    abbrev Post : Val → SProp 𝓤
    Post = (walk_of 𝓛 ended stayed held).post z

    walks : ent 𝓤 ((walk_of 𝓛 ended stayed held).pre z)
        (WpFn 𝓤 H C Λ function ((walk_of 𝓛 ended stayed held).args z) Post)
    walks =
        let a = z.0.3 in
        let vss = z.0.4 in
        let x = a.0 in
        let s = x.now in
        let xs = s.items in
        let p = a.1.0 in
        let n = a.1.1.0 in
        let κ : Lft = z.0.0.0 in
        let q = z.0.1.0 in
        let Asked = (p ≡ s.ptr) × (length xs ≡ n) × (n < 2 ^ 63) in
        qed 𝓛 (((‵ (flft κ q) ⊛ ‵ ftrue) ⊛ ‵ (owns (types_at ended.signature.params z.0.0) a vss)) ∷ raw (fact 𝓤 Asked)
        ∷ []) ∵
        move ! (1 ∷ []) $ heard ! Asked (λ asked. split ! $ split ! $ move ! (1 ∷ []) $ drop ! $ move ! (1 ∷ []) $
        -- [what the arguments own; the token]
        fsplit ! $ fsplit ! $ feq_l ! (λ is₀. unhide ! $ fsplit ! $ drop ! $ move ! (1 ∷ []) $
        fsplit ! $ feq_l ! (λ is₁. fsplit ! $ fsplit ! $ feq_l ! (λ is₂. flt_l ! (λ fits. drop ! $
        -- [what the `&` shows; the token]
        in_a_block ! s.ptr (λ r. raw_bytes_shares r xs κ)
        (fst∗ 𝓤 (never 𝓤) (sem 𝓛 (shared_of (Array u8 (length xs)) xs 0 0 κ))) (λ b o at.
        fsplit ! $ drop ! $ fsplit ! $ drop ! $ hide ! $
        regoal ! (λ (us : List Val). prop
        (WpFn 𝓤 H C Λ function (us ++ (vss.1.0 ++ (vss.1.1.0 ++ []))) Post)) is₀ refl $
        regoal ! (λ (us : List Val). prop
        (WpFn 𝓤 H C Λ function ((vptr x.ref_ptr.0 x.ref_ptr.1 ∷ []) ++ (us ++ (vss.1.1.0 ++ []))) Post))
        (is₁ ∙ ap (λ r. ptr_val r ∷ []) (asked.0 ∙ at)) refl $
        regoal ! (λ (us : List Val). prop
        (WpFn 𝓤 H C Λ function ((vptr x.ref_ptr.0 x.ref_ptr.1 ∷ []) ++ ((vptr b o ∷ []) ++ (us ++ []))) Post)) is₂
        refl $
        enter ! C Λ function (vptr x.ref_ptr.0 x.ref_ptr.1 ∷ vptr b o ∷ vint w64 n ∷ []) Post $
        alloc_all ! (λ l. pass_all ! refl ((tt, tt), ((tt, tt), ((tt, record { fits = fits }), tt))) $
        first ! $ blocks ! $
        sets_last ! (agg ! (and_then ! (get ! refl) (and_then ! (get ! refl) (no_more !)))) refl
        (tt, (tt, (record { fits = fits }, tt))) $
        exec ! C Λ (env function.locals l) (after 1 function.body) (at_ret (env function.locals l) Post) $
        sets ! (of_opd ! (get ! refl)) refl (tt, (tt, (record { fits = fits }, tt))) $
        flt_i ! (length xs * 1) (2 ^ 63) (omega (arith, asked.1, asked.2)) $
        flt_i ! (length xs) (2 ^ 64) (omega (arith, asked.1, asked.2)) $ fjoin ! $
        feq_i ! (List Val) (slice_val (b, o) n ∷ []) (slice_val (b, o) (length xs) ∷ [])
        (ap (λ k. slice_val (b, o) k ∷ []) (sym asked.1)) $ fjoin ! $ fjoin ! $
        returns ! (look_at ! 0 refl) $ free_all ! refl $
        suffices ! _ (ends_at 𝓛 ended stayed held z (slice_val (b, o) n) (record { ref_ptr = (b, o); now = xs })
        (tt, (tt, (tt, tt))) (tt, (tt, (tt, tt)))) $ says ! refl $
        nothing ! $ nothing ! $ fjoin ! $ nothing ! $ fjoin ! $ nothing ! $ fjoin ! $ nothing ! $
        move ! (3 ∷ 0 ∷ []) $ join ! $ done !)))))))

  meets : (𝓣 : Tables 𝓤 H) → Meets 𝓛 ended.signature (WpFn 𝓤 H 𝓣.C 𝓣.Λ function) (closing 𝓛 ended held)
  meets 𝓣 =
      walk_Meets 𝓛 ended stayed (
        Goes-dropped 𝓛 1 (RefOf (0 ∷ []) tt (plain (λ _. Part.the_row)) (λ _. tt)) yes (λ κs x f. refl),
        (
          Goes-blank 𝓛 1 (plain (λ _. RawPtr)) yes (λ κs x f. tt),
          (Goes-blank 𝓛 1 (plain (λ _. usize)) yes (λ κs x f. tt), tt),
        ),
      ) held
      (WpFn 𝓤 H 𝓣.C 𝓣.Λ function) (WpFn-mono 𝓤 H 𝓛.laws 𝓣 function) (walks 𝓣.C 𝓣.Λ)

pub bytes_spec : {M : Type 1} → stated.statement M
unfolding tables_of
bytes_spec 𝓤 𝓛 𝓜 𝓡 wired =
    let 𝓣 : Tables 𝓤 𝓛.H = tables_of 𝓤 𝓛.H 𝓜 (tables 𝓤 𝓛.H 𝓜 𝓡 𝓡.env) in
    entered 𝓤 𝓛.H (triple_of 𝓛 ended.signature (closing 𝓛 ended (held 𝓛 𝓜.mem 𝓡.returns))) 𝓣.C 𝓣.Λ #self function
    (code.unfolded 𝓤 𝓛.H 𝓜 𝓡 wired) (meets 𝓛 𝓜.mem 𝓡.returns 𝓣)
