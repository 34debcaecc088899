-- What the arenas have out at the end of a run is what the live roots use.
use Rattle.std.proofs.Common.{◌≡◌, ℕ, ◌+◌, ◌≤◌, List, [], ◌∷◌, ◌++◌, length, refl, sym, ap, subst, arith, Bool, true, false, Some, ◌∙◌}
use Rattle.std.specs.Prelude.{◌<◌, map, IsTrue, slice_get}
use Rattle.std.specs.List.{list_any}
use Rattle.pool_law.specs.declared.id.RootId.{RootId}
use Rattle.pool_law.specs.declared.id.RegionId.{RegionId}
use Rattle.pool_law.specs.declared.note.Object.{Object}
use Rattle.pool_law.specs.declared.note.Did.{Did}
use Rattle.pool_law.specs.declared.note.Did.TheVariants.{Take, Give}
use Rattle.pool_law.specs.declared.run.Shape.{Shape}
use Rattle.pool_law.specs.Limits.{geometry_of}
use Rattle.pool_law.specs.Same.{same_taking, same_region}
use Rattle.pool_law.specs.Arenas.{Arena, new_arena, arena_step, is_out_of}
use Rattle.pool_law.specs.Histories.{after, arena_after}
use Rattle.pool_law.specs.Logs.{Logs, dids, of_lane, history_of, entry_of, entries_of}
use Rattle.pool_law.specs.Legal.{CountsAgree}
use Rattle.run_laws.proofs.PagedHistories.{HistoriesPaged}
use Rattle.pool_law.specs.Lives.{IsUse, UseEnds, arena_of, with_uses}
use Rattle.run_laws.specs.Conserved.{EndsAsArena, IsHeld, OutIsHeld}
use Rattle.arena_laws.specs.Slots.{ArenaHolds}
use Rattle.arena_laws.specs.Returns.{gives}
use Rattle.run_laws.specs.CacheCounts.{one_of, total_by}
use Rattle.pool_law.proofs.SameLemmas.{same_region-is}
use Rattle.pool_law.proofs.PatternLemmas.{same_taking-refl, same_region-refl}
use Rattle.arena_laws.proofs.ArenaLaw.{after-holds, new-holds}
use Rattle.arena_laws.proofs.GiveSteps.{IsOne}
use Rattle.arena_laws.proofs.ReturnLaw.{take_note-out, after-keeps, after-append, one-step, IsOne-last}
use Rattle.arena_laws.proofs.TakingLaw.{takings-in_order}
use Rattle.run_laws.proofs.LogEntries.{LanesAct}
use Rattle.run_laws.proofs.Placed.{placed, total-found, one-of-true}
use Rattle.run_laws.proofs.Totals.{takes, gives_of, gives_in}
use Rattle.run_laws.proofs.LifeLaw.{taken-of}
use Rattle.run_laws.proofs.EventLaw.{begins-in}
use Rattle.run_laws.proofs.Births.{use_event, use-does}
use Rattle.run_laws.proofs.Owners.{taken-at}
use Rattle.run_laws.proofs.ApartLaw.{split-at, any-at, same_taking-back, gives-it}
use Rattle.run_laws.proofs.LogParts.{Parts}
use Rattle.run_laws.proofs.OutTimes.{out_times, takes_taking, gives_taking, after-out, taking-once, total-at, total-less, total-append, out-one, decide, each-of, one-any}
use Rattle.run_laws.proofs.TakingUses.{lasting-kept, held-by}

module _ (shape : Shape) (logs : Logs) (holds : HistoriesPaged shape logs) (acts : LanesAct logs)
    (parts : (lane : ℕ) → lane < length logs → Parts lane (map (entry_of logs) (of_lane logs lane)))
    (counts : CountsAgree (entries_of logs)) where
  pub out-at_end : (number : ℕ) (a : Arena) → EndsAsArena shape logs number a → OutIsHeld logs number a
  out-at_end number a e =
      record {
        held = each-of (IsHeld logs) a.out (λ r o. held-one r o);
        out = λ root r u lasts live here. still root r u lasts here (is_out_of a r) refl;
      }
    where
      ds : List Did
      ds = dids (history_of (Object.Arena number) logs)

      start : ArenaHolds (geometry_of shape) number (new_arena (geometry_of shape) shape.chunks)
      start = new-holds (geometry_of shape) number holds.page shape.chunks

      held-one : (r : RegionId) → IsOne r a.out → IsHeld logs r
      held-one r o =
          let balance : total_by (gives_taking r) ds + out_times r a.out ≤ total_by (takes_taking r) ds + 0 =
          after-out (geometry_of shape) number r ds (new_arena (geometry_of shape) shape.chunks) a start e in
          let once : total_by (takes_taking r) ds ≤ 1 =
          (taking-once number 0 a.takings r ds (takings-in_order shape number ds a e)).0 in
          let out : 1 ≤ out_times r a.out = out-one r a.out o in
          let f : (i : ℕ) × (d : Did) × (slice_get ds i ≡ Some d)
          × (1 ≤ takes_taking r d) = total-found (takes_taking r) ds (omega (arith, balance, out)) in
          let t : (c : ℕ) × (x : RegionId) × (f.1 ≡ Take c x) × (same_taking x r ≡ true) = taken f.1 f.3 in
          let p : (Object.Arena number ≡ arena_of t.1)
          × ((t.1.uses ≡ 0) × (t.1.class ≡ t.0)) =
          placed shape holds.page (Object.Arena number) ds f.0 (Take t.0 t.1)
          (holds.accepted (Object.Arena number) refl) (f.2 ∙ ap (λ x. Some x) t.2) in
          let x_is : t.1 ≡ with_uses r 0 = same_taking-back t.1 r t.3 ∙ ap (λ n. with_uses r n) p.1.0 in
          let here : Object.Arena number ≡ arena_of r = p.0 ∙ ap arena_of x_is in
          let at : slice_get (dids (history_of (arena_of r) logs)) f.0
          ≡ Some (Take t.0 (with_uses r 0)) =
          ap (λ x. slice_get (dids (history_of x logs)) f.0) (sym here) ∙ f.2 ∙ ap (λ x. Some x) t.2
          ∙ ap (λ x. Some (Take t.0 x)) x_is in
          held-by shape logs holds acts parts counts r
          (omega (
            arith,
            total-at (takes (with_uses r 0)) (dids (history_of (arena_of r) logs)) f.0
                (Take t.0 (with_uses r 0)) at,
            ap one_of (same_region-refl (with_uses r 0)),
          ))
          (λ n. none n here (omega (arith, balance, once, out)))
        where
          taken : (d : Did) → 1 ≤ takes_taking r d
              → (c : ℕ) × (x : RegionId) × (d ≡ Take c x) × (same_taking x r ≡ true)
          taken (Take c x) h = (c, x, refl, one-of-true (same_taking x r) h)
          taken _ h = absurd (omega (arith, h))

          less : (n : ℕ) (d : Did) → gives_of (with_uses r n) d ≤ gives_taking r d
          less n (Give x) = go (same_region (with_uses r n) x) refl
            where
              go : (b : Bool) → same_region (with_uses r n) x ≡ b
                  → one_of (same_region (with_uses r n) x) ≤ one_of (same_taking x r)
              go false e = omega (arith, ap one_of e)
              go true e =
                  let same : same_taking x r ≡ true =
                  ap (λ y. same_taking y r) (sym (same_region-is (with_uses r n) x e)) ∙ same_taking-refl r in
                  omega (arith, ap one_of e, ap one_of same)
          less n _ = omega arith

          none : (n : ℕ) → Object.Arena number ≡ arena_of r → total_by (gives_taking r) ds ≡ 0
              → gives_in logs (with_uses r n) ≡ 0
          none n here zero_gives =
              omega (
                arith,
                total-less (gives_of (with_uses r n)) (gives_taking r) ds (less n),
                zero_gives,
                ap
                    (λ o. total_by (gives_of (with_uses r n)) (dids (history_of o logs))) here,
              )

      still : (root : RootId) (r : RegionId) → IsUse logs root r → (UseEnds logs root r → ⊥) → r.place.arena ≡ number
          → (b : Bool) → is_out_of a r ≡ b → IsTrue (is_out_of a r)
      still root r u lasts here true out = out
      still root r u lasts here false _ =
          let j : (j : ℕ) × (slice_get (dids (history_of (arena_of r) logs)) j ≡ Some (Take r.class (with_uses r 0))) =
          taken-at shape logs holds acts r
          (taken-of shape logs holds acts r.uses r
          (begins-in shape logs holds acts root r (use_event u) u.stands (use-does logs root r u))) in
          let at : slice_get ds j.0 ≡ Some (Take r.class (with_uses r 0)) =
          ap (λ k. slice_get (dids (history_of (Object.Arena k) logs)) j.0) (sym here) ∙ j.1 in
          let s : (between rest : List Did) × (ds ≡ (between ++ Take r.class (with_uses r 0) ∷ []) ++ rest)
          × ((m : ℕ) (z : Did) → slice_get between m ≡ Some z → (slice_get ds m ≡ Some z) × (m < j.0)) =
          split-at ds j.0 (Take r.class (with_uses r 0)) at in
          let x : (m : Arena) × (arena_after shape number (s.0 ++ Take r.class (with_uses r 0) ∷ []) ≡ Some m)
          × (after (arena_step (geometry_of shape) number) m s.1 ≡ Some a) =
          after-append (arena_step (geometry_of shape) number) (s.0 ++ Take r.class (with_uses r 0) ∷ []) s.1
          (new_arena (geometry_of shape) shape.chunks) a (ap (arena_after shape number) (sym s.2) ∙ e) in
          let y : (m : Arena) × (arena_after shape number s.0 ≡ Some m)
          × (after (arena_step (geometry_of shape) number) m (Take r.class (with_uses r 0) ∷ []) ≡ Some x.0) =
          after-append (arena_step (geometry_of shape) number) s.0 (Take r.class (with_uses r 0) ∷ [])
          (new_arena (geometry_of shape) shape.chunks) x.0 x.1 in
          let y_holds : ArenaHolds (geometry_of shape) number y.0 =
          after-holds (geometry_of shape) number s.0 (new_arena (geometry_of shape) shape.chunks) y.0 start y.1 in
          let x_holds : ArenaHolds (geometry_of shape) number x.0 =
          after-holds (geometry_of shape) number (s.0 ++ Take r.class (with_uses r 0) ∷ [])
          (new_arena (geometry_of shape) shape.chunks) x.0 start x.1 in
          let t : (z : RegionId) × (same_region (with_uses r 0) z ≡ true)
          × (x.0.out ≡ y.0.out ++ z ∷ []) = take_note-out (geometry_of shape) number y.0 x.0 r.class (with_uses r 0)
          y_holds (one-step (arena_step (geometry_of shape) number) y.0 x.0 (Take r.class (with_uses r 0))
          y.2) in
          let there : IsOne (with_uses r 0) x.0.out =
          subst (λ xs. IsOne (with_uses r 0) xs) (sym t.2)
          (subst (λ z. IsOne (with_uses r 0) (y.0.out ++ z ∷ [])) (same_region-is (with_uses r 0) t.0 t.1)
          (IsOne-last (with_uses r 0) y.0.out)) in
          decide (list_any (gives (with_uses r 0)) s.1)
          (λ kept. one-any (λ o. same_taking r o) (with_uses r 0) a.out
          (after-keeps (geometry_of shape) number s.1 x.0 a (with_uses r 0) x_holds x.2 there kept)
          (same_taking-refl r))
          (λ back.
          let m : (m : ℕ) × (z : Did) × (slice_get s.1 m ≡ Some z)
          × (gives (with_uses r 0) z ≡ true) = any-at (gives (with_uses r 0)) s.1 back in
          let g : (v : RegionId) × (m.1 ≡ Give v) × (same_taking v (with_uses r 0) ≡ true) =
          gives-it (with_uses r 0) m.1 m.3 in
          let v_is : g.0 ≡ with_uses r g.0.uses = same_taking-back g.0 r g.2 in
          let counted : gives_of (with_uses r g.0.uses) m.1
          ≡ 1 =
          ap (gives_of (with_uses r g.0.uses)) (g.1 ∙ ap (λ w. Give w) v_is)
          ∙ ap one_of (same_region-refl (with_uses r g.0.uses)) in
          absurd (omega (
            arith,
            counted,
            total-at (gives_of (with_uses r g.0.uses)) s.1 m.0 m.1 m.2,
            total-append (gives_of (with_uses r g.0.uses)) (s.0 ++ Take r.class (with_uses r 0) ∷ []) s.1,
            ap (total_by (gives_of (with_uses r g.0.uses))) s.2,
            ap (λ k. total_by (gives_of (with_uses r g.0.uses)) (dids (history_of (Object.Arena k) logs))) here,
            lasting-kept shape logs holds acts root r u lasts g.0.uses,
          )))
