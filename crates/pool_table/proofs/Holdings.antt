-- The takings in a view's hands, after each kind of change of the view.
use Rattle.std.proofs.Common.{◌≡◌, ◌⊎◌, ⊎_elim, ℕ, ◌+◌, ◌<◌, true, cond, sym, refl, ap, ◌∙◌, subst, inl, inr, arith}
use Rattle.std.specs.Prelude.{Option, Some, None}
use Rattle.pool_law.specs.declared.id.RootId.{RootId}
use Rattle.pool_law.specs.declared.id.RegionId.{RegionId}
use Rattle.pool_law.specs.declared.note.Did.{Did}
use Rattle.pool_law.specs.declared.note.Did.TheVariants.{Take, Give, Hit, Kept, Shed, Birth, Grow, End}
use Rattle.pool_law.specs.declared.note.Noted.{Noted}
use Rattle.pool_law.specs.declared.note.Object.{Object}
use Rattle.pool_law.specs.Same.{same_taking}
use Rattle.history_laws.specs.NoteCounts.{is_taking, uses_in, weight_or}
use Rattle.history_laws.proofs.Names.{same_taking-key}
use Rattle.history_laws.proofs.ArenaTakings.{of_taking, uses_light}
use Rattle.pool_table.specs.declared.views.Entry.{Entry}
use Rattle.pool_table.specs.declared.views.Entry.TheVariants.{At}
use Rattle.pool_table.specs.declared.views.SeatView.{SeatView}
use Rattle.pool_table.specs.Counts.{weigh}
use Rattle.pool_table.specs.Hands.{from_arena, to_arena, from_cache, to_cache, from_place, to_place, uses_come, uses_gone, HasTaking, HasRegion, IsHeldRight, PutsDown}

-- what one entry takes into the hands, and lays down
abbrev pub takes_up : (RegionId → ℕ) → Entry → ℕ
takes_up w e = from_arena w e + (from_cache w e + from_place w e)

abbrev pub lays : (RegionId → ℕ) → Entry → ℕ
lays w e = to_arena w e + (to_cache w e + to_place w e)

-- an entry lays nothing of the taking down
pub record IsGrasp (q : RegionId) (e : Entry) : Type 0 where
  pub none : lays (is_taking q) e ≡ 0
  pub unused : lays (uses_in q) e ≡ 0
  pub light : takes_up (is_taking q) e ≡ 0 → takes_up (uses_in q) e ≡ 0

-- or the taking that is in hand, with the uses that it has
pub record IsLay (q : RegionId) (v : SeatView) (e : Entry) : Type 0 where
  pub one : lays (is_taking q) e ≡ 1
  pub light : takes_up (is_taking q) e ≡ 0 → takes_up (uses_in q) e ≡ 0
  pub taking : HasTaking q v
  pub uses : uses_gone q v + lays (uses_in q) e ≡ uses_come q v + to_place (is_taking q) e

abbrev pub Handles : RegionId → SeatView → Entry → Type 0
Handles q v e = IsGrasp q e ⊎ IsLay q v e

-- a view with the same entries
pub held_same : (q : RegionId) (v w : SeatView) → ((f : Entry → ℕ) → weigh f w ≡ weigh f v) → IsHeldRight q v
    → IsHeldRight q w
held_same q v w all k =
    let a = all (to_arena (is_taking q)) in let b = all (to_cache (is_taking q)) in let c =
    all (to_place (is_taking q)) in
    let d = all (from_arena (is_taking q)) in let e = all (from_cache (is_taking q)) in let f =
    all (from_place (is_taking q)) in
    let a' = all (to_arena (uses_in q)) in let b' = all (to_cache (uses_in q)) in let c' = all (to_place (uses_in q)) in
    let d' = all (from_arena (uses_in q)) in let e' = all (from_cache (uses_in q)) in let f' =
    all (from_place (uses_in q)) in
    let h = k.holds in let u = k.used in record {
      holds = omega (arith, a, b, c, d, e, f, h);
      used = omega (arith, c, a', b', c', d', e', f', u);
      emptied =
          λ z. let y = k.emptied (omega (arith, a, b, c, d, e, f, z)) in omega (arith, c, a', b', c', d', e', f', y);
    }

-- a view without entries
pub held_none : (q : RegionId) (v : SeatView) → ((f : Entry → ℕ) → weigh f v ≡ 0) → IsHeldRight q v
held_none q v z =
    let a = z (to_arena (is_taking q)) in let b = z (to_cache (is_taking q)) in let c = z (to_place (is_taking q)) in
    let a' = z (to_arena (uses_in q)) in let b' = z (to_cache (uses_in q)) in let c' = z (to_place (uses_in q)) in
    let d' = z (from_arena (uses_in q)) in let e' = z (from_cache (uses_in q)) in let f' = z (from_place (uses_in q)) in
    record {
      holds = omega (arith, a, b, c);
      used = omega (arith, a', b', c');
      emptied = λ _. omega (arith, c, a', b', c', d', e', f');
    }

-- a view with the entries of two
pub held_both : (q : RegionId) (u v w : SeatView) → ((f : Entry → ℕ) → weigh f w ≡ weigh f u + weigh f v)
    → IsHeldRight q u → IsHeldRight q v → IsHeldRight q w
held_both q u v w all j k =
    let a = all (to_arena (is_taking q)) in let b = all (to_cache (is_taking q)) in let c =
    all (to_place (is_taking q)) in
    let d = all (from_arena (is_taking q)) in let e = all (from_cache (is_taking q)) in let f =
    all (from_place (is_taking q)) in
    let a' = all (to_arena (uses_in q)) in let b' = all (to_cache (uses_in q)) in let c' = all (to_place (uses_in q)) in
    let d' = all (from_arena (uses_in q)) in let e' = all (from_cache (uses_in q)) in let f' =
    all (from_place (uses_in q)) in
    let h = j.holds in let i = k.holds in let m = j.used in let n = k.used in record {
      holds = omega (arith, a, b, c, d, e, f, h, i);
      used = omega (arith, c, a', b', c', d', e', f', m, n);
      emptied = λ z.
          let x = j.emptied (omega (arith, a, b, c, d, e, f, h, i, z)) in let y =
          k.emptied (omega (arith, a, b, c, d, e, f, h, i, z)) in
          omega (arith, c, a', b', c', d', e', f', x, y);
    }

-- a view with one entry more
pub held_more : (q : RegionId) (v w : SeatView) (e : Entry) → ((f : Entry → ℕ) → weigh f w ≡ weigh f v + f e)
    → Handles q v e → IsHeldRight q v → IsHeldRight q w
held_more q v w x all how k =
    let a = all (to_arena (is_taking q)) in let b = all (to_cache (is_taking q)) in let c =
    all (to_place (is_taking q)) in
    let d = all (from_arena (is_taking q)) in let e = all (from_cache (is_taking q)) in let f =
    all (from_place (is_taking q)) in
    let a' = all (to_arena (uses_in q)) in let b' = all (to_cache (uses_in q)) in let c' = all (to_place (uses_in q)) in
    let d' = all (from_arena (uses_in q)) in let e' = all (from_cache (uses_in q)) in let f' =
    all (from_place (uses_in q)) in
    let h = k.holds in let u = k.used in ⊎_elim
    (λ (g : IsGrasp q x). let z = g.none in let y = g.unused in record {
      holds = omega (arith, a, b, c, d, e, f, h, z);
      used = omega (arith, c, a', b', c', d', e', f', u, y);
      emptied = λ s.
          let none : takes_up (is_taking q) x ≡ 0 = omega (arith, a, b, c, d, e, f, h, z, s) in
          let light = g.light none in let old = k.emptied (omega (arith, a, b, c, d, e, f, h, z, s)) in
          omega (arith, c, a', b', c', d', e', f', old, y, light, z);
    })
    (λ (g : IsLay q v x). let z = g.one in let has = g.taking in let same = g.uses in record {
      holds = omega (arith, a, b, c, d, e, f, has, z);
      used = omega (arith, c, a', b', c', d', e', f', same);
      emptied = λ s.
          let none : takes_up (is_taking q) x ≡ 0 = omega (arith, a, b, c, d, e, f, has, z, s) in
          let light = g.light none in
          omega (arith, c, a', b', c', d', e', f', same, light);
    })
    how

-- the words for two regions of one taking say the same
module _ (v : SeatView) (q r : RegionId) (same : same_taking q r ≡ true) where
  takings : is_taking r ≡ is_taking q
  takings = λ i x. cond {A = ℕ} (sym (same_taking-key q r x same) i) 1 0

  uses : uses_in r ≡ uses_in q
  uses = λ i x. cond {A = ℕ} (sym (same_taking-key q r x same) i) x.uses 0

  pub taking_key : HasTaking r v → HasTaking q v
  taking_key has =
      subst (λ (w : RegionId → ℕ). weigh (to_arena w) v + (weigh (to_cache w) v + weigh (to_place w) v) < weigh
      (from_arena w) v + (weigh (from_cache w) v + weigh (from_place w) v)) takings has

  pub held_key : HasRegion r v → HasTaking q v × (uses_gone q v + r.uses ≡ uses_come q v)
  held_key has = (
    taking_key has.taking,
    subst (λ (y : (RegionId → ℕ) × (RegionId → ℕ)).
        weigh (to_arena y.0) v + (weigh (to_cache y.0) v + weigh (to_place y.0) v) + r.uses
        ≡ weigh (from_arena y.0) v + (weigh (from_cache y.0) v + weigh (from_place y.0) v) + weigh (to_place y.1) v)
        (λ i. (uses i, takings i)) has.uses,
  )

-- what a note does to a taking in hand
module _ (q : RegionId) (v : SeatView) (o : Object) (k : ℕ) (n : Noted) where
  abbrev entry : Did → Option RegionId → Entry
  entry d region = At o k (record { did = d; lane = n.lane; watch = n.watch; root = n.root; region = region })

  given : (r : RegionId) (region : Option RegionId) → HasRegion r v → Handles q v (entry (Give r) region)
  given r region has = ⊎_elim
      (λ (w : (is_taking q r ≡ 1) × (uses_in q r ≡ r.uses) × (same_taking q r ≡ true)).
      let key = held_key v q r w.2 has in let w0 = w.0 in let w1 = w.1 in let k1 = key.1 in
      inr (record {
        one = omega (arith, w0);
        light = λ _. refl;
        taking = key.0;
        uses =
            omega (arith, w1, k1);
      }))
      (λ (w : (is_taking q r ≡ 0) × (uses_in q r ≡ 0)). let w0 = w.0 in let w1 = w.1 in
      inl (record { none = omega (arith, w0); unused = omega (arith, w1); light = λ _. refl }))
      (of_taking q r)

  kept : (r : RegionId) (region : Option RegionId) → HasRegion r v → Handles q v (entry (Kept r) region)
  kept r region has = ⊎_elim
      (λ (w : (is_taking q r ≡ 1) × (uses_in q r ≡ r.uses) × (same_taking q r ≡ true)).
      let key = held_key v q r w.2 has in let w0 = w.0 in let w1 = w.1 in let k1 = key.1 in
      inr (record {
        one = omega (arith, w0);
        light = λ _. refl;
        taking = key.0;
        uses =
            omega (arith, w1, k1);
      }))
      (λ (w : (is_taking q r ≡ 0) × (uses_in q r ≡ 0)). let w0 = w.0 in let w1 = w.1 in
      inl (record { none = omega (arith, w0); unused = omega (arith, w1); light = λ _. refl }))
      (of_taking q r)

  born : (root : RootId) (x z : RegionId) (region : Option RegionId) → HasRegion z v
      → x ≡ record z { uses = z.uses + 1 } → Handles q v (entry (Birth root x) region)
  born root x z region has is = ⊎_elim
      (λ (w : (is_taking q x ≡ 1) × (uses_in q x ≡ x.uses) × (same_taking q x ≡ true)).
      let same : same_taking q z ≡ true = ap (λ (y : RegionId). same_taking q y) (sym is) ∙ w.2 in
      let more : x.uses ≡ z.uses + 1 = ap (λ (y : RegionId). y.uses) is in
      let key = held_key v q z same has in let w0 = w.0 in let w1 = w.1 in let k1 = key.1 in
      inr (record {
        one = omega (arith, w0);
        light = λ _. refl;
        taking = key.0;
        uses =
            omega (arith, w0, w1, k1, more);
      }))
      (λ (w : (is_taking q x ≡ 0) × (uses_in q x ≡ 0)). let w0 = w.0 in let w1 = w.1 in
      inl (record { none = omega (arith, w0); unused = omega (arith, w1); light = λ _. refl }))
      (of_taking q x)

  -- a region that goes with a note has no use of the taking where it isn't of it
  region_light : (region : Option RegionId) → weight_or (is_taking q) region ≡ 0 → weight_or (uses_in q) region ≡ 0
  region_light None z = refl
  region_light (Some r) z = uses_light q r z

  -- a growth lays down the region that it goes into, and takes up the one that it leaves
  grown : (c : ℕ) (x z : RegionId) (region : Option RegionId) → HasRegion z v → x ≡ record z { uses = z.uses + 1 }
      → Handles q v (entry (Grow c x) region)
  grown c x z region has is = ⊎_elim
      (λ (w : (is_taking q x ≡ 1) × (uses_in q x ≡ x.uses) × (same_taking q x ≡ true)).
      let same : same_taking q z ≡ true = ap (λ (y : RegionId). same_taking q y) (sym is) ∙ w.2 in
      let more : x.uses ≡ z.uses + 1 = ap (λ (y : RegionId). y.uses) is in
      let key = held_key v q z same has in let w0 = w.0 in let w1 = w.1 in let k1 = key.1 in
      inr (record {
        one = omega (arith, w0);
        light = λ n. let y = region_light region (omega (arith, n)) in
            omega (arith, y);
        taking = key.0;
        uses =
            omega (arith, w0, w1, k1, more);
      }))
      (λ (w : (is_taking q x ≡ 0) × (uses_in q x ≡ 0)). let w0 = w.0 in let w1 = w.1 in
      inl (record {
        none = omega (arith, w0);
        unused = omega (arith, w1);
        light = λ n. let y = region_light region (omega (arith, n)) in
            omega (arith, y);
      }))
      (of_taking q x)

  ended : (root : RootId) (region : Option RegionId) → Handles q v (entry (End root) region)
  ended root None = inl (record { none = refl; unused = refl; light = λ _. refl })
  ended root (Some r) =
      inl (record {
        none = refl;
        unused = refl;
        light = λ z. let y = uses_light q r (omega (arith, z)) in
            omega (arith, y);
      })

  handles : (d : Did) (region : Option RegionId) → PutsDown v d → Handles q v (entry d region)
  handles (Give r) region has = given r region has
  handles (Kept r) region has = kept r region has
  handles (Birth root x) region has = born root x has.1.0 region has.1.1 has.1.2
  handles (Grow c x) region has = grown c x has.0 region has.1 has.2
  handles (Take c r) region has =
      inl (record {
        none = refl;
        unused = refl;
        light = λ z. let y = uses_light q r (omega (arith, z)) in
            omega (arith, y);
      })
  handles (Hit r) region has =
      inl (record {
        none = refl;
        unused = refl;
        light = λ z. let y = uses_light q r (omega (arith, z)) in
            omega (arith, y);
      })
  handles (Shed r) region has =
      inl (record {
        none = refl;
        unused = refl;
        light = λ z. let y = uses_light q r (omega (arith, z)) in
            omega (arith, y);
      })
  handles (End root) region has = ended root region
  handles d region has = inl (record { none = refl; unused = refl; light = λ _. refl })

  pub note_handles : PutsDown v n.did → Handles q v (At o k n)
  note_handles has = handles n.did n.region has
