-- `bytes_mut` lends what lies there, and the bytes follow it. Assumes `Logic`.
use Rattle.std.proofs.Common.{◌≡◌, ℕ, ◌*◌, ◌^◌, ◌<◌, List, [], ◌∷◌, ◌++◌, length, refl, sym, ◌∙◌, arith, subst, Fits-lit}
use lib.ListN.{drop as drop_l}
use lib.Seq.{take_at as take_front}
use seplogic.Ra.Ura.{Ura}
use base.Fraction.{full_share}
use mir.Syntax.{Fn, named, w64}
use mir.Val.{Val, vptr, vint}
use base.Logic.{SProp, ent, sep, never, id⊢}
use base.Fml.{Lft, GName, Fml, ftrue, fsep, fat, flft}
use prog.Memory.{Memory}
use prog.Routine.{Routine}
use prog.Wp.{Calls, Loops, WpFn, Tables}
use contract.Monad.{Fun, fact}
use contract.Running.{tables, tables_of}
use sound.WpLaws.{WpFn-mono}
use types.Logic.{Logic, sem}
use types.Kit.{‵, raw, ◌⊛◌, some, later, await, pick, group, at_ret, prop, ◌$◌, ◌∵◌, !, qed, by, move, keep, use1, split, join, frame, fsplit, fsplit3, fjoin, fpack, feq_l, flt_l, rewrite, regoal, suffices, done}
use types.Part.{agg}
use types.Run.{enter, returns, of_opd, and_then, no_more, first, blocks, exec}
use types.ByLocal.{alloc_all, pass_all, free_all, look_at, get, sets, sets_last, env, take_at, give_at}
use types.SemTy.{cells}
use denote.Exit.{yes, no}
use denote.RattleType.{owns}
use denote.Memory.{mem, cell_at, part_of}
use denote.Array.{Array}
use denote.Param.{layout}
use denote.RawPtr.{Ptr, block_ptr, null_ptr, ptr_val, in_a_block}
use denote.RawPtr.Bytes.{bytes}
use denote.Index.{whole_in, whole_out}
use denote.Builtin.{RawPtr, u8, usize}
use denote.Signature.{plain, types_at, mut_ref_to}
use denote.Ref.{MutBor}
use denote.Slice.{MutSlice, slice_val}
use denote.Follow.{follows}
use denote.FollowSlice.{Elements, lends_Elements}
use denote.Steps.{nothing, heard, opens}
use denote.Triple.Clauses.{Clauses, Ended, closing}
use denote.Triple.Spec.{Meets, triple_of}
use denote.Triple.Table.{entered}
use denote.Triple.Walked.{says, Stays, stay_dropped, walk_of, ends_at, walk_Meets, Goes-spent_ref}
use Rattle.std.proofs.alloc.Calls.{Goes-blank}
use Rattle.std_alloc.proofs.VecSteps.Shapes.{after}
use Rattle.ground.specs.Ownership.{raw_bytes_owns}
use Rattle.ground.specs.Lending.{rewritten}
use Rattle.ground.proofs.RawBytesLaws.{loose, whole}
use Rattle.ground.proofs.Walks.{Good, plainly}
use Rattle.ground.specs.contracts.raw_bytes.RawBytes as Part
use Rattle.ground.specs.contracts.raw_bytes.RawBytes.bytes_mut as F
use Rattle.ground.specs.contracts.raw_bytes.RawBytes.bytes_mut.Key.{name as #self}
use Rattle.ground.proofs.raw_bytes.RawBytes.bytes_mut.Statement as stated
use Rattle.ground.proofs.raw_bytes.RawBytes.bytes_mut.Code as code

abbrev function : Fn
function = code.function

abbrev ended : Ended
ended = F.ended

abbrev stayed : Stays ended.signature.params ended.kept
stayed = (
  stay_dropped (mut_ref_to (0 ∷ []) tt (plain (λ _. Part.the_row))) no,
  (stay_dropped (plain (λ _. RawPtr)) yes, (stay_dropped (plain (λ _. usize)) yes, tt)),
)

-- a pointer is a machine value of its type
pointer_good : (p : Ptr) → Good RawPtr (ptr_val p)
pointer_good (block_ptr b o) = (tt, tt)
pointer_good null_ptr = (tt, Fits-lit tt)

module _ {M : Type 1} {𝓤 : Ura M} (𝓛 : Logic 𝓤) (rb ro : ℕ) (s : (Part.the_row).Denot) where
  module _ (vs : List Val) (b o : ℕ) where
    -- all but the bytes
    abbrev Rest : Fml
    Rest = fsep ((plainly []).own_val tt vs) (cell_at full_share (Part.the_row).mir vs rb ro)

    back : s.ptr ≡ block_ptr b o → (ws : List ℕ) → length ws ≡ length s.items
        → ent 𝓤 (sep 𝓤 (sem 𝓛 (cells (mem u8) ws b o)) (sem 𝓛 Rest))
        (sem 𝓛 ((mem Part.the_row).own_at (rewritten s ws) rb ro))
    unfolding part_of
    back at ws same =
        let all : (rewritten s ws).items ≡ ws = take_front ws (drop_l (length ws) s.items) (length s.items) same in
        qed 𝓛 (‵ (cells (mem u8) ws b o) ∷ ‵ Rest ∷ []) ∵
        use1 𝓛 (‵ (bytes full_share ws b o)) (whole_out 𝓛 u8 ws b o) $
        use1 𝓛 (‵ (raw_bytes_owns (block_ptr b o) ws)) (whole 𝓛 b o ws) $
        rewrite ! 0 (λ p. ‵ (raw_bytes_owns p ws)) (sym at) refl $
        rewrite ! 0 (λ ys. ‵ (raw_bytes_owns s.ptr ys)) (sym all) refl $
        move ! (1 ∷ []) $ fsplit ! $ move ! (0 ∷ 2 ∷ []) $ fjoin ! $ move ! (1 ∷ 0 ∷ []) $ fjoin ! $
        fpack ! (List Val) (λ us. fsep (cell_at full_share (Part.the_row).mir us rb ro)
        ((Part.the_row).own_val (rewritten s ws) us)) vs $ done !

module _ {M : Type 1} {𝓤 : Ura M} (𝓛 : Logic 𝓤) (at_mem : Memory → SProp 𝓤) (run : Routine → Fun 𝓤) where
  open 𝓛 use {H, A}

  abbrev held : Clauses 𝓤 ended
  held = F.clauses 𝓛 at_mem run

  module _ (C : Calls 𝓤 H) (Λ : Loops 𝓤 H) (z : (walk_of 𝓛 ended stayed held).Ghost) where
    abbrev Post : Val → SProp 𝓤
    Post = (walk_of 𝓛 ended stayed held).post z

    abbrev self : MutBor (Part.the_row).Denot
    self = z.0.3.0

    exits : (v : Val) (r : MutBor (List ℕ)) → r.now ≡ self.now.items
        → ent 𝓤 (sep 𝓤 (sem 𝓛 ((MutSlice (named 0) z.0.0.0 u8).own_val r (v ∷ []))) (sep 𝓤 (A.lft z.0.0.0 z.0.1.0)
        (sem 𝓛 (follows Part.the_row (Array u8 0) self.ghost_name r.ghost_name (rewritten self.now))))) (Post v)
    exits v r e =
        qed 𝓛 (‵ ((MutSlice (named 0) z.0.0.0 u8).own_val r (v ∷ [])) ∷ ‵ (flft z.0.0.0 z.0.1.0)
        ∷ ‵ (follows Part.the_row (Array u8 0) self.ghost_name r.ghost_name (rewritten self.now)) ∷ []) ∵
        suffices ! _ (ends_at 𝓛 ended stayed held z v r (tt, (tt, (tt, tt))) (tt, (tt, (tt, tt)))) $
        nothing ! $ nothing ! $ fjoin ! $ nothing ! $ fjoin ! $ nothing ! $ fjoin ! $ join ! $ nothing ! $
        move ! (2 ∷ 0 ∷ []) $ join ! $ join ! $ frame ! $ says ! e $ done !

    walks : ent 𝓤 ((walk_of 𝓛 ended stayed held).pre z)
        (WpFn 𝓤 H C Λ function ((walk_of 𝓛 ended stayed held).args z) Post)
    walks =
        let a = z.0.3 in
        let vss = z.0.4 in
        let x = a.0 in
        let s = x.now in
        let xs = s.items in
        let p = a.1.0 in
        let n = a.1.1.0 in
        let κ : Lft = z.0.0.0 in
        let q = z.0.1.0 in
        let γ : GName = x.ghost_name in
        let rb = x.ref_ptr.0 in
        let ro = x.ref_ptr.1 in
        let known = (Part.the_row).coded.code s in
        let Asked = (p ≡ s.ptr) × (length xs ≡ n) × (n < 2 ^ 63) in
        qed 𝓛 (((‵ (flft κ q) ⊛ ‵ ftrue) ⊛ ‵ (owns (types_at ended.signature.params z.0.0) a vss)) ∷ raw (fact 𝓤 Asked)
        ∷ []) ∵
        move ! (1 ∷ []) $ heard ! Asked (λ asked. split ! $ split ! $ move ! (2 ∷ []) $
        fsplit ! $ fsplit3 ! $ feq_l ! (λ is₀. move ! (2 ∷ []) $
        fsplit ! $ feq_l ! (λ is₁. fsplit ! $ fsplit ! $ feq_l ! (λ is₂. flt_l ! (λ fits. keep ! (1 ∷ 2 ∷ 3 ∷ []) $
        regoal ! (λ (us : List Val). prop
        (WpFn 𝓤 H C Λ function (us ++ (vss.1.0 ++ (vss.1.1.0 ++ []))) Post)) is₀ refl $
        regoal ! (λ (us : List Val). prop
        (WpFn 𝓤 H C Λ function ((vptr rb ro ∷ []) ++ (us ++ (vss.1.1.0 ++ []))) Post)) is₁ refl $
        regoal ! (λ (us : List Val). prop
        (WpFn 𝓤 H C Λ function ((vptr rb ro ∷ []) ++ ((ptr_val p ∷ []) ++ (us ++ []))) Post)) is₂ refl $
        enter ! C Λ function (vptr rb ro ∷ ptr_val p ∷ vint w64 n ∷ []) Post $
        alloc_all ! (λ l. pass_all ! refl ((tt, tt), (pointer_good p, ((tt, record { fits = fits }), tt))) $
        opens ! tt Part.the_row {h = s} rb ro (λ vs. move ! (1 ∷ []) $ fsplit ! $ move ! (1 ∷ []) $
        in_a_block ! s.ptr (λ r. raw_bytes_owns r xs) (id⊢ 𝓤 (never 𝓤)) (λ b o at.
        let roomy : length xs < 2 ^ 64 = omega (arith, asked.1, asked.2) in
        let fitting : length xs * 1 < 2 ^ 63 = omega (arith, asked.1, asked.2) in
        let others = sem 𝓛 (Rest 𝓛 rb ro s vs b o) in
        let way = back 𝓛 rb ro s vs b o at in
        let Lent = λ (δ : GName). Elements 𝓛 Part.the_row u8 (rewritten s) (named 0) κ q rb ro b o γ xs
        (roomy, fitting) others way δ in
        take_at ! 2 $ rewrite ! 0 (λ r. ‵ (fat full_share (layout RawPtr) (l 2) 0 (ptr_val r))) (asked.0 ∙ at) refl $
        give_at ! 2 $
        use1 𝓛 (‵ (bytes full_share xs b o)) (loose 𝓛 b o xs) $
        use1 𝓛 (‵ (cells (mem u8) xs b o)) (whole_in 𝓛 u8 xs b o) $
        first ! $ blocks ! $
        sets_last ! (agg ! (and_then ! (get ! refl) (and_then ! (get ! refl) (no_more !)))) refl
        (tt, (tt, (record { fits = fits }, tt))) $
        exec ! C Λ (env function.locals l) (after 1 function.body) (at_ret (env function.locals l) Post) $
        sets ! (of_opd ! (get ! refl)) refl (tt, (tt, (record { fits = fits }, tt))) $
        move ! (1 ∷ 2 ∷ []) $ fjoin ! $ move ! (2 ∷ 3 ∷ 4 ∷ 1 ∷ 0 ∷ []) $ group ! 5 $
        use1 𝓛 (later (some (λ (δ : GName). raw (Lent δ))))
        (lends_Elements 𝓛 Part.the_row u8 (rewritten s) (named 0) κ q rb ro b o γ xs (roomy, fitting) others way known
        known) $ await ! tt $ pick ! (λ δ.
        let r : MutBor (List ℕ) = record { ref_ptr = (b, o); ghost_name = δ; now = xs } in
        returns ! (look_at ! 0 refl) $ free_all ! refl $ keep ! (0 ∷ []) $
        by ! (subst (λ (k : ℕ). ent 𝓤 (Lent δ) (Post (slice_val (b, o) k))) asked.1
        (exits (slice_val (b, o) (length xs)) r refl)))))))))))

  meets : (𝓣 : Tables 𝓤 H) → Meets 𝓛 ended.signature (WpFn 𝓤 H 𝓣.C 𝓣.Λ function) (closing 𝓛 ended held)
  meets 𝓣 =
      walk_Meets 𝓛 ended stayed (
        Goes-spent_ref 𝓛 1 (0 ∷ []) tt (plain (λ _. Part.the_row)),
        (
          Goes-blank 𝓛 1 (plain (λ _. RawPtr)) yes (λ κs x f. tt),
          (Goes-blank 𝓛 1 (plain (λ _. usize)) yes (λ κs x f. tt), tt),
        ),
      ) held
      (WpFn 𝓤 H 𝓣.C 𝓣.Λ function) (WpFn-mono 𝓤 H 𝓛.laws 𝓣 function) (walks 𝓣.C 𝓣.Λ)

pub bytes_mut_spec : {M : Type 1} → stated.statement M
unfolding tables_of
bytes_mut_spec 𝓤 𝓛 𝓜 𝓡 wired =
    let 𝓣 : Tables 𝓤 𝓛.H = tables_of 𝓤 𝓛.H 𝓜 (tables 𝓤 𝓛.H 𝓜 𝓡 𝓡.env) in
    entered 𝓤 𝓛.H (triple_of 𝓛 ended.signature (closing 𝓛 ended (held 𝓛 𝓜.mem 𝓡.returns))) 𝓣.C 𝓣.Λ #self function
    (code.unfolded 𝓤 𝓛.H 𝓜 𝓡 wired) (meets 𝓛 𝓜.mem 𝓡.returns 𝓣)
