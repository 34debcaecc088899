-- Regions of different takings that overlap: one came back before the other was taken.
use Rattle.std.proofs.Common.{⊎_elim, inl, inr, ◌≡◌, ℕ, zero, suc, ◌+◌, ◌≤◌, List, [], ◌∷◌, ◌++◌, refl, sym, ap, arith, Bool, true, false, Some, ◌∙◌, eq-eqb}
use Rattle.std.specs.Prelude.{◌⊎◌, ◌<◌, ◌==◌, IsTrue, slice_get}
use Rattle.std.specs.List.{list_any}
use Rattle.pool_law.specs.declared.id.RootId.{RootId}
use Rattle.pool_law.specs.declared.id.RegionId.{RegionId}
use Rattle.pool_law.specs.declared.note.Object.{Object}
use Rattle.pool_law.specs.declared.note.Did.{Did}
use Rattle.pool_law.specs.declared.note.Did.TheVariants.{Take, Give}
use Rattle.pool_law.specs.declared.run.Shape.{Shape}
use Rattle.pool_law.specs.Places.{Overlap}
use Rattle.pool_law.specs.Limits.{geometry_of}
use Rattle.pool_law.specs.Same.{same_taking}
use Rattle.pool_law.specs.Arenas.{Arena, new_arena, arena_step}
use Rattle.pool_law.specs.Histories.{after, arena_after}
use Rattle.pool_law.specs.Logs.{Logs, dids, history_of}
use Rattle.run_laws.proofs.PagedHistories.{HistoriesPaged}
use Rattle.pool_law.specs.Lives.{Done, IsUse, arena_of, with_uses}
use Rattle.pool_law.specs.Apart.{Before, LieApart}
use Rattle.arena_laws.specs.Returns.{gives}
use Rattle.pool_law.proofs.SameLemmas.{same_region-is}
use Rattle.pool_law.proofs.PatternLemmas.{same_taking-refl, both_true}
use Rattle.run_laws.proofs.LogEntries.{LanesAct}
use Rattle.arena_laws.proofs.ReturnLaw.{comes-back, after-append}
use Rattle.arena_laws.proofs.SlotLemmas.{three}
use Rattle.run_laws.proofs.Placed.{is-some}
use Rattle.run_laws.proofs.Totals.{births_in}
use Rattle.run_laws.proofs.LifeLaw.{taken-of}
use Rattle.run_laws.proofs.EventLaw.{done-at, begins-in}
use Rattle.run_laws.proofs.Births.{use_event, use-does}
use Rattle.run_laws.proofs.Owners.{taken-at}

pub split-at : (ds : List Did) (j : ℕ) (y : Did) → slice_get ds j ≡ Some y
    → (between rest : List Did) × (ds ≡ (between ++ y ∷ []) ++ rest)
    × ((m : ℕ) (z : Did) → slice_get between m ≡ Some z → (slice_get ds m ≡ Some z) × (m < j))
split-at [] j y e = absurd (cc e)
split-at (d ∷ ds) zero y e = let same : d ≡ y = cc e in ([], ds, ap (λ x. x ∷ ds) same, λ m z is. absurd (cc is))
split-at (d ∷ ds) (suc j) y e =
    let r : (between rest : List Did) × (ds ≡ (between ++ y ∷ []) ++ rest)
    × ((m : ℕ) (z : Did) → slice_get between m ≡ Some z → (slice_get ds m ≡ Some z) × (m < j)) =
    split-at ds j y e in
    (d ∷ r.0, r.1, ap (λ xs. d ∷ xs) r.2, members r.0 r.3)
  where
    members : (between : List Did)
        → ((m : ℕ) (z : Did) → slice_get between m ≡ Some z → (slice_get ds m ≡ Some z) × (m < j)) → (m : ℕ) (z : Did)
        → slice_get (d ∷ between) m ≡ Some z → (slice_get (d ∷ ds) m ≡ Some z) × (m < suc j)
    members between f zero z is = (is, omega arith)
    members between f (suc m) z is = let g : (slice_get ds m ≡ Some z) × (m < j) = f m z is in (g.0, omega (arith, g.1))

-- a list cut at two of its items
pub split-two : (ds : List Did) (i j : ℕ) (x y : Did) → slice_get ds i ≡ Some x → slice_get ds j ≡ Some y → i < j →
    (before between rest : List Did) × (ds ≡ (before ++ x ∷ (between ++ y ∷ [])) ++ rest)
    × ((m : ℕ) (z : Did) → slice_get between m ≡ Some z → (n : ℕ) × (slice_get ds n ≡ Some z) × (n < j))
split-two [] i j x y e d less = absurd (cc e)
split-two (w ∷ ds) i zero x y e d less = absurd (omega arith)
split-two (w ∷ ds) zero (suc j) x y e d less =
    let same : w ≡ x = cc e in
    let r : (between rest : List Did) × (ds ≡ (between ++ y ∷ []) ++ rest)
    × ((m : ℕ) (z : Did) → slice_get between m ≡ Some z → (slice_get ds m ≡ Some z) × (m < j)) =
    split-at ds j y d in (
      [],
      r.0,
      r.1,
      λ i. same i ∷ r.2 i,
      λ m z is. let g : (slice_get ds m ≡ Some z)
          × (m < j) = r.3 m z is in (suc m, g.0, omega (arith, g.1)),
    )
split-two (w ∷ ds) (suc i) (suc j) x y e d less =
    let r : (before between rest : List Did) × (ds ≡ (before ++ x ∷ (between ++ y ∷ [])) ++ rest)
    × ((m : ℕ) (z : Did) → slice_get between m ≡ Some z → (n : ℕ) × (slice_get ds n ≡ Some z) × (n < j)) =
    split-two ds i j x y e d (omega arith) in (
      w ∷ r.0,
      r.1,
      r.2,
      ap (λ xs. w ∷ xs) r.3,
      λ m z is. let g : (n : ℕ) × (slice_get ds n ≡ Some z)
          × (n < j) = r.4 m z is in (suc g.0, g.1, omega (arith, g.2)),
    )

pub any-at : (test : Did → Bool) (ds : List Did) → list_any test ds ≡ true
    → (m : ℕ) × (z : Did) × (slice_get ds m ≡ Some z) × (test z ≡ true)
any-at test [] e = absurd (cc e)
any-at test (d ∷ ds) e = go (test d) refl (any-at test ds) e
  where
    go : (b : Bool) → test d ≡ b → (list_any test ds ≡ true
        → (m : ℕ) × (z : Did) × (slice_get ds m ≡ Some z) × (test z ≡ true)) → list_any test (d ∷ ds) ≡ true
        → (m : ℕ) × (z : Did) × (slice_get (d ∷ ds) m ≡ Some z) × (test z ≡ true)
    go true here rest all = (0, d, refl, here)
    go false here rest all =
        let r : (m : ℕ) × (z : Did) × (slice_get ds m ≡ Some z) × (test z ≡ true) = rest (tail here all) in
        (suc r.0, r.1, r.2, r.3)
      where
        tail : test d ≡ false → list_any test (d ∷ ds) ≡ true → list_any test ds ≡ true
        tail no_here all = sym (rw no_here refl) ∙ all

pub same_taking-back : (x a : RegionId) → same_taking x a ≡ true → x ≡ with_uses a x.uses
same_taking-back x a e =
    same_region-is x (with_uses a x.uses) (both_true (same_taking x a) (x.uses == x.uses) e (eq-eqb x.uses x.uses refl))

pub gives-it : (r : RegionId) (d : Did) → gives r d ≡ true → (x : RegionId) × (d ≡ Give x) × (same_taking x r ≡ true)
gives-it r (Give x) e = (x, refl, e)
gives-it r _ e = absurd (cc e)

module _ (shape : Shape) (logs : Logs) (holds : HistoriesPaged shape logs) (acts : LanesAct logs) where
  use-in : (root : RootId) (r : RegionId) → IsUse logs root r → 1 ≤ births_in logs r
  use-in root r u = begins-in shape logs holds acts root r (use_event u) u.stands (use-does logs root r u)

  pub one-way : (number : ℕ) (a b : RegionId) (i j : ℕ) → number ≡ a.place.arena → number ≡ b.place.arena →
      slice_get (dids (history_of (Object.Arena number) logs)) i ≡ Some (Take a.class (with_uses a 0))
      → slice_get (dids (history_of (Object.Arena number) logs)) j ≡ Some (Take b.class (with_uses b 0)) →
      i < j → Overlap a.place b.place → Before logs a b
  one-way number a b i j of_a of_b at_a at_b less over =
      let ok : (x : Arena) × (arena_after shape number (dids (history_of (Object.Arena number) logs)) ≡ Some x) =
      is-some (arena_after shape number (dids (history_of (Object.Arena number) logs)))
      (holds.accepted (Object.Arena number) refl) in
      let s : (before between rest : List Did)
      × (dids (history_of (Object.Arena number) logs)
      ≡ (before ++ Take a.class (with_uses a 0) ∷ (between ++ Take b.class (with_uses b 0) ∷ [])) ++ rest)
      × ((m : ℕ) (z : Did) → slice_get between m ≡ Some z
      → (n : ℕ) × (slice_get (dids (history_of (Object.Arena number) logs)) n ≡ Some z) × (n < j)) =
      split-two (dids (history_of (Object.Arena number) logs)) i j (Take a.class (with_uses a 0))
      (Take b.class (with_uses b 0)) at_a at_b less in
      let begin : (x : Arena) × (arena_after shape number
      (s.0 ++ Take a.class (with_uses a 0) ∷ (s.1 ++ Take b.class (with_uses b 0) ∷ [])) ≡ Some x)
      × (after (arena_step (geometry_of shape) number) x s.2 ≡ Some ok.0) =
      after-append (arena_step (geometry_of shape) number)
      (s.0 ++ Take a.class (with_uses a 0) ∷ (s.1 ++ Take b.class (with_uses b 0) ∷ [])) s.2
      (new_arena (geometry_of shape) shape.chunks) ok.0 (ap (arena_after shape number) (sym s.3) ∙ ok.1) in
      let over0 : Overlap (with_uses a 0).place (with_uses b 0).place = over in
      let back : list_any (gives (with_uses a 0)) s.1
      ≡ true =
      comes-back shape number holds.page s.0 s.1 a.class b.class (with_uses a 0) (with_uses b 0) begin.0 begin.1
      over0 in
      let m : (m : ℕ) × (z : Did) × (slice_get s.1 m ≡ Some z)
      × (gives (with_uses a 0) z ≡ true) = any-at (gives (with_uses a 0)) s.1 back in
      let g : (x : RegionId) × (m.1 ≡ Give x) × (same_taking x (with_uses a 0) ≡ true) =
      gives-it (with_uses a 0) m.1 m.3 in
      let n : (n : ℕ) × (slice_get (dids (history_of (Object.Arena number) logs)) n ≡ Some m.1)
      × (n < j) = s.4 m.0 m.1 m.2 in
      let x_is : g.0 ≡ with_uses a g.0.uses = same_taking-back g.0 a g.2 in
      let there : slice_get (dids (history_of (arena_of a) logs)) n.0
      ≡ Some (Give (with_uses a g.0.uses)) =
      ap (λ k. slice_get (dids (history_of (Object.Arena k) logs)) n.0) (sym of_a) ∙ n.1 ∙ ap (λ x. Some x) g.1
      ∙ ap (λ x. Some (Give x)) x_is in
      let given : (x : Done logs (arena_of a) (Give (with_uses a g.0.uses)))
      × (x.number ≡ 1 + n.0) =
      done-at shape logs holds acts (arena_of a) refl n.0 (Give (with_uses a g.0.uses)) there in
      let taken : (x : Done logs (arena_of b) (Take b.class (with_uses b 0)))
      × (x.number ≡ 1 + j) = done-at shape logs holds acts (arena_of b) refl j (Take b.class (with_uses b 0))
      (ap (λ k. slice_get (dids (history_of (Object.Arena k) logs)) j) (sym of_b) ∙ at_b) in
      record { uses = g.0.uses; given = given.0; taken = taken.0; order = omega (arith, given.1, taken.1, n.2) }

  pub apart : LieApart logs
  apart first second a b u v ne over = go (same_taking a b) refl
    where
      go : (t : Bool) → same_taking a b ≡ t → IsTrue (same_taking a b) ⊎ (Before logs a b ⊎ Before logs b a)
      go true e = inl e
      go false e =
          let ta : (j : ℕ) × (slice_get (dids (history_of (arena_of a) logs)) j ≡ Some (Take a.class (with_uses a 0))) =
          taken-at shape logs holds acts a (taken-of shape logs holds acts a.uses a (use-in first a u)) in
          let tb : (j : ℕ) × (slice_get (dids (history_of (arena_of b) logs)) j ≡ Some (Take b.class (with_uses b 0))) =
          taken-at shape logs holds acts b (taken-of shape logs holds acts b.uses b (use-in second b v)) in
          let tb_a : slice_get (dids (history_of (arena_of a) logs)) tb.0
          ≡ Some (Take b.class (with_uses b 0)) =
          ap (λ k. slice_get (dids (history_of (Object.Arena k) logs)) tb.0) over.arena ∙ tb.1 in
          ⊎_elim
          (λ less. inr (inl (one-way a.place.arena a b ta.0 tb.0 refl over.arena ta.1 tb_a less over)))
          (λ o. ⊎_elim
          (λ equal.
          let both : Some (Take a.class (with_uses a 0)) ≡ Some (Take b.class (with_uses b 0)) = sym ta.1
          ∙ ap (slice_get (dids (history_of (arena_of a) logs))) equal ∙ tb_a in
          let same : with_uses a 0 ≡ with_uses b 0 = cc both in
          let yes : same_taking (with_uses a 0) (with_uses b 0)
          ≡ true = ap (λ x. same_taking (with_uses a 0) x) (sym same) ∙ same_taking-refl (with_uses a 0) in
          inl yes)
          (λ less. inr (inr (one-way a.place.arena b a tb.0 ta.0 over.arena refl tb_a ta.1 less
          (record { arena = sym over.arena; chunk = sym over.chunk; first = over.second; second = over.first }))))
          o)
          (three ta.0 tb.0)
