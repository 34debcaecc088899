-- Which move comes next behind which: what a life's state lets come, and how the two events are linked.
use Rattle.std.proofs.Common.{◌≡◌, ℕ, List, [], ◌∷◌, take, sym, subst}
use Rattle.std.specs.Prelude.{◌-◌}
use Rattle.pool_law.specs.declared.id.RegionId.{RegionId}
use Rattle.pool_law.specs.Logs.{Logs, dids, history_of}
use Rattle.pool_law.specs.Patterns.{one_more}
use Rattle.pool_law.specs.Lives.{Event, Happening, Move, Takes, Gives, Keeps, Hits, Sheds, Begins, Leaves, Follows, LivesOn, Got, Used, Freed, Cached, Dropped, cache_of}
use Rattle.run_laws.specs.CacheCounts.{puts, removes, total_by}
use Rattle.run_laws.specs.Hands.{Source}
use Rattle.run_laws.proofs.HandNotes.{Held}

-- what may come of a region that was got, is used, was left, lies in a cache, or was shed
abbrev pub FromGot : RegionId → Move → Type 0
FromGot r (Begins q x) = x ≡ one_more r
FromGot r (Keeps x) = x ≡ r
FromGot r (Gives x) = x ≡ r
FromGot r _ = ⊥

abbrev pub FromFreed : RegionId → Move → Type 0
FromFreed r (Keeps x) = x ≡ r
FromFreed r (Gives x) = x ≡ r
FromFreed r _ = ⊥

abbrev pub FromCached : RegionId → Move → Type 0
FromCached r (Hits x) = x ≡ r
FromCached r (Sheds x) = x ≡ r
FromCached r _ = ⊥

abbrev pub FromDropped : RegionId → Move → Type 0
FromDropped r (Gives x) = x ≡ r
FromDropped r _ = ⊥

-- what may come behind a move
abbrev pub Steps : Move → Move → Type 0
Steps (Takes c r) m = FromGot r m
Steps (Hits r) m = FromGot r m
Steps (Begins q r) (Leaves p x) = (p ≡ q) × (x ≡ r)
Steps (Begins q r) _ = ⊥
Steps (Leaves q r) m = FromFreed r m
Steps (Keeps r) m = FromCached r m
Steps (Sheds r) m = FromDropped r m
Steps (Gives r) m = ⊥

module _ (logs : Logs) where
  -- how often a region went into its cache before an event there, and how often it came out
  abbrev pub rank_in : RegionId → Event → ℕ
  rank_in r e = total_by (puts r) (take (e.number - 1) (dids (history_of (cache_of r) logs)))

  abbrev pub rank_out : RegionId → Event → ℕ
  rank_out r e = total_by (removes r) (take (e.number - 1) (dids (history_of (cache_of r) logs)))

  -- a region in a lane's hand goes from one event to the other, and one in a cache by its rank
  abbrev pub Link : Move → Event → Event → Type 0
  Link (Begins q r) e f = Unit {0}
  Link (Gives r) e f = ⊥
  Link (Keeps r) e f = rank_in r e ≡ rank_out r f
  Link _ e f = (from : Source) × (y : RegionId) × Held logs e.lane e.at f.at from y

  pub record Next (t u : Happening) : Type 0 where
    pub steps : Steps t.move u.move
    pub follows : Follows t.move t.event u.event
    pub link : Link t.move t.event u.event

  -- ---- A chain of moves is a life.

  abbrev pub LivesFrom : Move → List Move → Type 0
  LivesFrom (Takes c r) ms = LivesOn Got r ms
  LivesFrom (Hits r) ms = LivesOn Got r ms
  LivesFrom (Begins q r) ms = LivesOn (Used q) r ms
  LivesFrom (Leaves q r) ms = LivesOn Freed r ms
  LivesFrom (Keeps r) ms = LivesOn Cached r ms
  LivesFrom (Sheds r) ms = LivesOn Dropped r ms
  LivesFrom (Gives r) ms = ms ≡ []

  pub join : (m n : Move) (ms : List Move) → Steps m n → LivesFrom n ms → LivesFrom m (n ∷ ms)
  join (Takes c r) (Begins q x) ms s l = (s, l)
  join (Takes c r) (Keeps x) ms s l = (s, subst (λ y. LivesOn Cached y ms) s l)
  join (Takes c r) (Gives x) ms s l = subst (λ zs. LivesOn Got r (Gives x ∷ zs)) (sym l) s
  join (Takes c r) _ ms s l = absurd s
  join (Hits r) (Begins q x) ms s l = (s, l)
  join (Hits r) (Keeps x) ms s l = (s, subst (λ y. LivesOn Cached y ms) s l)
  join (Hits r) (Gives x) ms s l = subst (λ zs. LivesOn Got r (Gives x ∷ zs)) (sym l) s
  join (Hits r) _ ms s l = absurd s
  join (Begins q r) (Leaves p x) ms s l = (s.0, (s.1, subst (λ y. LivesOn Freed y ms) s.1 l))
  join (Begins q r) _ ms s l = absurd s
  join (Leaves q r) (Keeps x) ms s l = (s, subst (λ y. LivesOn Cached y ms) s l)
  join (Leaves q r) (Gives x) ms s l = subst (λ zs. LivesOn Freed r (Gives x ∷ zs)) (sym l) s
  join (Leaves q r) _ ms s l = absurd s
  join (Keeps r) (Hits x) ms s l = (s, subst (λ y. LivesOn Got y ms) s l)
  join (Keeps r) (Sheds x) ms s l = (s, subst (λ y. LivesOn Dropped y ms) s l)
  join (Keeps r) _ ms s l = absurd s
  join (Sheds r) (Gives x) ms s l = subst (λ zs. LivesOn Dropped r (Gives x ∷ zs)) (sym l) s
  join (Sheds r) _ ms s l = absurd s
  join (Gives r) n ms s l = absurd s
