-- What the lines say of takings: each region that anything happens to is told by its Take.
use Rattle.std.proofs.Common.{◌≡◌, ℕ, zero, suc, ◌+◌, ◌<◌, ◌%◌, List, [], ◌∷◌, Some, true, take, refl, sym, ap, subst, arith, ◌∙◌, eqb-true}
use Rattle.std.specs.Prelude.{◌==◌, ◌&&◌, slice_get}
use Rattle.std.specs.Option.{option_map}
use Rattle.size_classes.specs.Sizes.{size_at}
use Rattle.pool_law.specs.declared.id.RegionId.{RegionId}
use Rattle.pool_law.specs.declared.note.Did.{Did}
use Rattle.pool_law.specs.declared.note.Did.TheVariants.{Take}
use Rattle.pool_law.specs.declared.note.Note.{Note}
use Rattle.pool_law.specs.declared.note.Note.TheVariants.{At, Ref, Busy}
use Rattle.pool_law.specs.declared.note.Object.{Object}
use Rattle.pool_law.specs.declared.run.Shape.{Shape}
use Rattle.pool_law.specs.Arenas.{Arena, arena_step, new_arena}
use Rattle.pool_law.specs.Histories.{arena_after}
use Rattle.pool_law.specs.Limits.{geometry_of}
use Rattle.pool_law.specs.Lives.{Event, Happening, Happens, Life, RegionsLive, Stands, StandsAt, arena_of, region_of}
use Rattle.pool_law.specs.Logs.{Logs, dids, has_history, history_of, note_stands, of_lane}
use Rattle.pool_law.proofs.SameLemmas.{and-first, and-second}
use Rattle.arena_laws.specs.Takings.{IsTaking, TakenInOrder}
use Rattle.arena_laws.proofs.TakingLaw.{step-numbers, takings-in_order}
use Rattle.run_laws.proofs.Doings.{Does, told}
use Rattle.run_laws.proofs.EventLaw.{Noted, noted, take-noted}
use Rattle.run_laws.proofs.LogEntries.{LanesAct}
use Rattle.run_laws.proofs.OverlapLaw.{first-happens}
use Rattle.run_laws.proofs.PagedHistories.{HistoriesPaged}
use Rattle.run_laws.proofs.Placed.{all-at, is-some, step-at}
use Rattle.run_text.specs.Lines.{Line, formed, keyed, last_taken, region_with, said, taken, taken_by, taking_key, told_from, with_uses}
use Rattle.text_laws.proofs.LastSays.{keyed-own, keyed-some, last-only}
use Rattle.text_laws.proofs.TextPlaces.{Placed, ahead, placed-at, there-at}

-- ---- A history of an arena has each number of a taking once.

taking-above : (number n m : ℕ) (ds : List Did) (j c : ℕ) (r : RegionId) → TakenInOrder number n ds m
    → slice_get ds j ≡ Some (Take c r) → n < r.taking
taking-above number n m [] j c r order e = absurd (cc e)
taking-above number n m (Take class x ∷ ds) zero c r order e =
    let same : x ≡ r = cc e in omega (arith, order.0.taking, ap (λ y. y.taking) same)
taking-above number n m (Take class x ∷ ds) (suc j) c r order e =
    omega (arith, taking-above number (n + 1) m ds j c r order.1 e)
taking-above number n m (_ ∷ ds) zero c r order e = absurd (cc e)
taking-above number n m (_ ∷ ds) (suc j) c r order e = taking-above number n m ds j c r order e

taking-at_once : (number n m : ℕ) (ds : List Did) (i j c d : ℕ) (r x : RegionId) → TakenInOrder number n ds m
    → slice_get ds i ≡ Some (Take c r) → slice_get ds j ≡ Some (Take d x) → r.taking ≡ x.taking → i ≡ j
taking-at_once number n m [] i j c d r x order e f same = absurd (cc e)
taking-at_once number n m (Take class y ∷ ds) zero zero c d r x order e f same = refl
taking-at_once number n m (Take class y ∷ ds) zero (suc j) c d r x order e f same =
    let is : y ≡ r = cc e in
    absurd (omega (
      arith,
      taking-above number (n + 1) m ds j d x order.1 f,
      order.0.taking,
      ap (λ z. z.taking) is,
      same,
    ))
taking-at_once number n m (Take class y ∷ ds) (suc i) zero c d r x order e f same =
    let is : y ≡ x = cc f in
    absurd (omega (
      arith,
      taking-above number (n + 1) m ds i c r order.1 e,
      order.0.taking,
      ap (λ z. z.taking) is,
      same,
    ))
taking-at_once number n m (Take class y ∷ ds) (suc i) (suc j) c d r x order e f same =
    ap suc (taking-at_once number (n + 1) m ds i j c d r x order.1 e f same)
taking-at_once number n m (_ ∷ ds) zero j c d r x order e f same = absurd (cc e)
taking-at_once number n m (_ ∷ ds) (suc i) zero c d r x order e f same = absurd (cc f)
taking-at_once number n m (_ ∷ ds) (suc i) (suc j) c d r x order e f same =
    ap suc (taking-at_once number n m ds i j c d r x order e f same)

-- what a Take in an arena's history says of its region
taking-says : (shape : Shape) (number : ℕ) (ds : List Did) (a : Arena) (j c : ℕ) (r : RegionId)
    → arena_after shape number ds ≡ Some a → slice_get ds j ≡ Some (Take c r)
    → (n : ℕ) × IsTaking number c n r
taking-says shape number ds a j c r e there =
    let s : (m : Arena) × (n : Arena) × (arena_after shape number (take j ds) ≡ Some m)
    × (arena_step (geometry_of shape) number m (Take c r) ≡ Some n) =
    step-at (arena_step (geometry_of shape) number) ds (new_arena (geometry_of shape) shape.chunks) a j (Take c r) e
    there in
    let t : IsTaking number c s.0.takings r × (s.1.takings ≡ s.0.takings + 1) =
    step-numbers (geometry_of shape) number s.0 s.1 (Take c r) s.3 in
    (s.0.takings, t.0)

-- the region that a note takes is of its did
taken-did : (d : Did) (r : RegionId) → taken_by (said d) ≡ Some r → (c : ℕ) × (d ≡ Take c r)
taken-did (Take c x) r e = let same : x ≡ r = cc e in (c, ap (Take c) same)
taken-did _ r e = absurd (cc e)

pub taken-note : (n : Note) (r : RegionId) → taken n ≡ Some r → (o : Object) × (k c : ℕ) × (n ≡ At o k (Take c r))
taken-note (At o k d) r e = let t = taken-did d r e in (o, k, t.0, ap (At o k) t.1)
taken-note (Ref root d) r e = absurd (cc e)
taken-note (Busy held) r e = absurd (cc e)

module _ (shape : Shape) (logs : Logs) (holds : HistoriesPaged shape logs) (acts : LanesAct logs) where
  -- two takings of one arena and number are one
  one-taking : (e f : Event) (c d : ℕ) (r x : RegionId) → Stands logs e → Stands logs f → e.did ≡ Take c r
      → f.did ≡ Take d x → taking_key r ≡ taking_key x → r ≡ x
  one-taking e f c d r x s t is_r is_x key =
      let arena : r.place.arena ≡ x.place.arena = ap (λ (k : ℕ × ℕ). k.0) key in
      let number : r.taking ≡ x.taking = ap (λ (k : ℕ × ℕ). k.1) key in
      let here : e.object ≡ arena_of r = (take-noted shape logs holds acts r c e s is_r).0 in
      let there : f.object ≡ arena_of r =
      (take-noted shape logs holds acts x d f t is_x).0 ∙ ap Object.Arena (sym arena) in
      let m : Noted shape logs holds acts e = noted shape logs holds acts e s (ap has_history here) in
      let n : Noted shape logs holds acts f = noted shape logs holds acts f t (ap has_history there) in
      let at_m : slice_get (dids (history_of (arena_of r) logs)) m.index ≡ Some (Take c r) =
      ap (λ o. slice_get (dids (history_of o logs)) m.index) (sym here) ∙ m.there ∙ ap (λ y. Some y) is_r in
      let at_n : slice_get (dids (history_of (arena_of r) logs)) n.index ≡ Some (Take d x) =
      ap (λ o. slice_get (dids (history_of o logs)) n.index) (sym there) ∙ n.there ∙ ap (λ y. Some y) is_x in
      let a : (a : Arena) × (arena_after shape r.place.arena (dids (history_of (arena_of r) logs)) ≡ Some a) =
      is-some (arena_after shape r.place.arena (dids (history_of (arena_of r) logs)))
      (holds.accepted (arena_of r) refl) in
      let index : m.index ≡ n.index =
      taking-at_once r.place.arena 0 a.0.takings (dids (history_of (arena_of r) logs)) m.index n.index c d r x
      (takings-in_order shape r.place.arena (dids (history_of (arena_of r) logs)) a.0 a.1) at_m at_n number in
      let both : Some (Take c r) ≡ Some (Take d x) =
      sym at_m ∙ ap (slice_get (dids (history_of (arena_of r) logs))) index ∙ at_n in
      cc both

  -- a region that was taken is what the last line says that tells of its taking
  pub taken-told : (e : Event) (c : ℕ) (r : RegionId) → Stands logs e → e.did ≡ Take c r
      → last_taken (told_from 0 logs) (taking_key r) ≡ Some r
  taken-told e c r s is =
      last-only (λ line. keyed taking_key (taking_key r) (taken line.1)) (told_from 0 logs) r
      (ahead e.lane logs + e.at) (e.lane, At e.object e.number e.did)
      (there-at logs e.lane e.at (At e.object e.number e.did) s)
      (keyed-own taking_key (taking_key r) (taken_by (said e.did)) r (ap (λ d. taken_by (said d)) is) refl)
      only
    where
      only : (j : ℕ) (l : Line) (y : RegionId) → slice_get (told_from 0 logs) j ≡ Some l
          → keyed taking_key (taking_key r) (taken l.1) ≡ Some y → y ≡ r
      only j l y there says =
          let k = keyed-some taking_key (taking_key r) (taken l.1) y says in
          let n = taken-note l.1 y k.0 in
          let p : Placed logs j l = placed-at logs j l there in
          one-taking (record { object = n.0; did = Take n.2 y; lane = l.0; at = p.at; number = n.1 }) e n.2 c y r
          (p.stands ∙ ap (λ m. Some m) n.3) s refl is k.1

  -- the Take of a region to which anything happens
  pub record TakeOf (r : RegionId) : Type 0 where
    pub event : Event
    pub stands : Stands logs event
    pub is : event.did ≡ Take r.class (with_uses 0 r)

  pub take-of : RegionsLive logs → (t : Happening) → Happens logs t → TakeOf (region_of t.move)
  take-of lives t h =
      let life : Life logs (with_uses 0 (region_of t.move)) = lives t h in
      let first : Happens logs life.take = first-happens logs life.take life.later life.order in
      record {
        event = life.take.event;
        stands = first.stands;
        is = subst (λ m. Does logs m life.take.event) life.taken (told logs life.take first);
      }

  -- so each region to which anything happens is told by its Take, with its uses
  pub region-told : RegionsLive logs → (t : Happening) → Happens logs t
      → region_with (told_from 0 logs) (taking_key (region_of t.move)) (region_of t.move).uses
      ≡ Some (region_of t.move)
  region-told lives t h =
      let take : TakeOf (region_of t.move) = take-of lives t h in
      let bare : last_taken (told_from 0 logs) (taking_key (region_of t.move))
      ≡ Some (with_uses 0 (region_of t.move)) =
      taken-told take.event (region_of t.move).class (with_uses 0 (region_of t.move)) take.stands take.is in
      ap (option_map (with_uses (region_of t.move).uses)) bare

  -- and two of one arena and number are of one taking
  pub one-taken : RegionsLive logs → (t u : Happening) → Happens logs t → Happens logs u
      → taking_key (region_of t.move) ≡ taking_key (region_of u.move)
      → with_uses 0 (region_of t.move) ≡ with_uses 0 (region_of u.move)
  one-taken lives t u h g key =
      let a : TakeOf (region_of t.move) = take-of lives t h in
      let b : TakeOf (region_of u.move) = take-of lives u g in
      one-taking a.event b.event (region_of t.move).class (region_of u.move).class (with_uses 0 (region_of t.move))
      (with_uses 0 (region_of u.move)) a.stands b.stands a.is b.is key

  -- a region that is taken is of the lane that takes it, of the arena that is the lane's, and of its class
  pub record TakenBy (lane c : ℕ) (o : Object) (r : RegionId) : Type 0 where
    pub here : o ≡ Object.Arena r.place.arena
    pub turn : lane % shape.arenas ≡ r.place.arena
    pub owner : r.owner ≡ lane
    pub is : r ≡ formed lane r.place.arena c r

  pub taken-by : (lane at k c : ℕ) (o : Object) (r : RegionId) → StandsAt logs lane at (At o k (Take c r))
      → TakenBy lane c o r
  taken-by lane at k c o r s =
      let e : Event = record { object = o; did = Take c r; lane = lane; at = at; number = k } in
      let here : o ≡ arena_of r = (take-noted shape logs holds acts r c e s refl).0 in
      let m : Noted shape logs holds acts e = noted shape logs holds acts e s (ap has_history here) in
      let there : slice_get (dids (history_of (arena_of r) logs)) m.index ≡ Some (Take c r) =
      ap (λ x. slice_get (dids (history_of x logs)) m.index) (sym here) ∙ m.there in
      let a : (a : Arena) × (arena_after shape r.place.arena (dids (history_of (arena_of r) logs)) ≡ Some a) =
      is-some (arena_after shape r.place.arena (dids (history_of (arena_of r) logs)))
      (holds.accepted (arena_of r) refl) in
      let t : (n : ℕ) × IsTaking r.place.arena c n r =
      taking-says shape r.place.arena (dids (history_of (arena_of r) logs)) a.0 m.index c r a.1 there in
      let may : ((lane % shape.arenas == r.place.arena) && (r.owner == lane)) ≡ true =
      all-at (note_stands shape lane) (of_lane logs lane) at (At (arena_of r) k (Take c r)) (holds.stand lane)
      (s ∙ ap (λ x. Some (At x k (Take c r))) here) in
      let owner : r.owner ≡ lane =
      eqb-true r.owner lane (and-second (lane % shape.arenas == r.place.arena) (r.owner == lane) may) in
      let len : r.place.len ≡ size_at c = t.1.len in
      let class : r.class ≡ c = t.1.class_is in
      let uses : r.uses ≡ 0 = t.1.uses in
      record {
        here = here;
        turn =
            eqb-true (lane % shape.arenas) r.place.arena
            (and-first (lane % shape.arenas == r.place.arena) (r.owner == lane) may);
        owner = owner;
        is =
            λ i. record {
              place =
                  record {
                    arena = r.place.arena;
                    chunk = r.place.chunk;
                    offset = r.place.offset;
                    len = len i;
                  };
              class = class i;
              owner = owner i;
              taking = r.taking;
              uses = uses i;
            };
      }
