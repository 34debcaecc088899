-- The totals of a region, from the histories and the hands of a run.
use Rattle.std.proofs.Common.{◌≡◌, ℕ, zero, suc, ◌+◌, ◌≤◌, List, [], ◌∷◌, refl, sym, ap, arith, Bool, true, false, Some, ◌∙◌}
use Rattle.std.specs.Prelude.{◌<◌, map, Option, slice_get}
use Rattle.pool_law.specs.declared.id.RegionId.{RegionId}
use Rattle.pool_law.specs.declared.note.Object.{Object}
use Rattle.pool_law.specs.declared.note.Did.{Did}
use Rattle.pool_law.specs.declared.note.Did.TheVariants.{Take, Give, Hit, Kept, Shed, Birth}
use Rattle.pool_law.specs.declared.note.Note.{Note}
use Rattle.pool_law.specs.declared.note.Note.TheVariants.{At, Ref, Busy}
use Rattle.pool_law.specs.declared.run.Shape.{Shape}
use Rattle.pool_law.specs.Same.{same_object, same_region}
use Rattle.pool_law.specs.Arenas.{Arena}
use Rattle.pool_law.specs.Caches.{Cache}
use Rattle.pool_law.specs.Roots.{RootPlace, new_place}
use Rattle.pool_law.specs.Histories.{place_after, cache_after, arena_after}
use Rattle.pool_law.specs.Logs.{Logs, dids, of_lane, has_history, history_of, note_stands, entry_of, present_before, region_for}
use Rattle.run_laws.proofs.PagedHistories.{HistoriesPaged}
use Rattle.pool_law.specs.Lives.{cache_of, arena_of}
use Rattle.run_laws.specs.CacheCounts.{times, puts, removes, total_by}
use Rattle.pool_law.specs.Patterns.{one_more}
use Rattle.run_laws.specs.Hands.{did_of}
use Rattle.run_laws.specs.HandCounts.{Tally, tally_if, tally, got_by, used_by, ended_by, shed_by, kept_by, given_by, HandsBalance}
use Rattle.run_laws.proofs.Acts.{Acts}
use Rattle.run_laws.proofs.LaneActs.{AnyNote}
use Rattle.run_laws.proofs.LogEntries.{LanesAct}
use Rattle.run_laws.proofs.HandLaw.{acts-hand}
use Rattle.run_laws.proofs.HandSums.{hands-balance}
use Rattle.pool_law.proofs.SameLemmas.{same_region-is}
use Rattle.run_laws.proofs.CacheLaw.{goes-through}
use Rattle.arena_laws.proofs.TakingLaw.{takings-in_order}
use Rattle.pool_law.proofs.HistoryLemmas.{over_lanes}
use Rattle.pool_law.proofs.LogLemmas.{entry-note, dids-at}
use Rattle.run_laws.proofs.Sums.{sum_by, sum_over, over-at, over-alike, over-plus, over-many, above, none-if}
use Rattle.run_laws.proofs.Numbered.{plain, total-plain, at_object, regroup, in-history}
use Rattle.run_laws.proofs.Placed.{all-at, IsPlaced, placed, mail-placed, is-some, total-found, one-of-true}
use Rattle.run_laws.proofs.Totals.{note_tally, total, born_by, takes, hits, sheds_of, gives_of, takes_in, hits_in, sheds_in, keeps_in, gives_in, births_in, ends_in, placed-weight, takes-once, pick, pick-most, over_lanes-none, over_lanes-less, over-less}
use Rattle.run_laws.proofs.PlaceTotals.{births_of, ends_of, ends-below, place_number, born-alike, none-ended, over-less-at}

-- the laws that need the histories and the hands of a run
module _ (shape : Shape) (logs : Logs) (holds : HistoriesPaged shape logs) (acts : LanesAct logs) where
  pub note-placed : (lane i k : ℕ) (o : Object) (d : Did) → slice_get (of_lane logs lane) i ≡ Some (At o k d)
      → IsPlaced o d
  note-placed lane i k o d is = go (has_history o) refl
    where
      go : (b : Bool) → has_history o ≡ b → IsPlaced o d
      go true has =
          let at : (j : ℕ) × (k ≡ 1 + j) × (slice_get (history_of o logs) j ≡ Some (lane, d)) =
          in-history o logs (history_of o logs) (holds.whole o has) lane i k d is in
          placed shape holds.page o (dids (history_of o logs)) at.0 d (holds.accepted o has)
          (dids-at (history_of o logs) at.0 lane d at.2)
      go false none =
          mail-placed shape lane o d none
          (all-at (note_stands shape lane) (of_lane logs lane) i (At o k d) (holds.stand lane) is)

  pub tally-log : (f : Tally) (log : List Note) → tally f (map (entry_of logs) log) ≡ sum_by (note_tally logs f) log
  tally-log f [] = refl
  tally-log f (n ∷ log) =
      omega (arith, tally-log f log, ap (λ m. tally_if f (entry_of logs n).region (did_of m)) (entry-note logs n))

  -- what all lanes got, ended or shed of a region they used, kept or gave
  pub record HandsTotal (r : RegionId) (rest : Logs) : Type 0 where
    pub through :
        sum_over (note_tally logs (got_by r)) rest + (sum_over (note_tally logs (ended_by r)) rest
        + sum_over (note_tally logs (shed_by r)) rest)
        ≡ sum_over (note_tally logs (used_by r)) rest + (sum_over (note_tally logs (kept_by r)) rest
        + sum_over (note_tally logs (given_by r)) rest)
    pub got : sum_over (note_tally logs (used_by r)) rest ≤ sum_over (note_tally logs (got_by r)) rest
    pub given : sum_over (note_tally logs (shed_by r)) rest ≤ sum_over (note_tally logs (given_by r)) rest

  pub hands-total : (r : RegionId) (rest : Logs)
      → ((lane : ℕ) → Acts AnyNote (map (entry_of logs) (of_lane rest lane)) []) → HandsTotal r rest
  hands-total r [] h = record { through = refl; got = omega arith; given = omega arith }
  hands-total r (log ∷ rest) h =
      let b : HandsBalance r (map (entry_of logs) log) =
      hands-balance r (map (entry_of logs) log) (acts-hand AnyNote (map (entry_of logs) log) (h 0)) in
      let ih : HandsTotal r rest = hands-total r rest (λ lane. h (suc lane)) in
      record {
        through =
            omega (
              arith,
              b.through,
              tally-log (got_by r) log,
              tally-log (ended_by r) log,
              tally-log (shed_by r) log,
              tally-log (used_by r) log,
              tally-log (kept_by r) log,
              tally-log (given_by r) log,
              ih.through,
            );
        got = omega (arith, b.got, tally-log (got_by r) log, tally-log (used_by r) log, ih.got);
        given = omega (arith, b.given, tally-log (shed_by r) log, tally-log (given_by r) log, ih.given);
      }

  module _ (r : RegionId) where
    pub at-total : (o : Object) → has_history o ≡ true → (f : Did → ℕ) → sum_over (at_object o (plain f)) logs
        ≡ total_by f (dids (history_of o logs))
    at-total o has f =
        regroup o (plain f) logs (history_of o logs) (holds.whole o has) ∙ total-plain f 1 (dids (history_of o logs))

    got-weight : (n : Note) → ((o : Object) (k : ℕ) (d : Did) → n ≡ At o k d → IsPlaced o d)
        → note_tally logs (got_by r) n ≡ at_object (arena_of r) (plain (takes r)) n + at_object (cache_of r)
        (plain (hits r)) n
    got-weight (At o k (Take class x)) p =
        omega (
          arith,
          placed-weight r x (arena_of r) o
              (λ same. (p o k (Take class x) refl).0 ∙ ap arena_of (sym (same_region-is r x same))),
          none-if
              (same_object (cache_of r) o),
        )
    got-weight (At o k (Hit x)) p =
        omega (
          arith,
          placed-weight r x (cache_of r) o
              (λ same. p o k (Hit x) refl ∙ ap cache_of (sym (same_region-is r x same))),
          none-if
              (same_object (arena_of r) o),
        )
    got-weight (At o k _) p = omega (arith, none-if (same_object (cache_of r) o), none-if (same_object (arena_of r) o))
    got-weight (Ref root did) p = refl
    got-weight (Busy held) p = refl

    shed-weight : (n : Note) → ((o : Object) (k : ℕ) (d : Did) → n ≡ At o k d → IsPlaced o d)
        → note_tally logs (shed_by r) n ≡ at_object (cache_of r) (plain (sheds_of r)) n
    shed-weight (At o k (Shed x)) p =
        placed-weight r x (cache_of r) o (λ same. p o k (Shed x) refl ∙ ap cache_of (sym (same_region-is r x same)))
    shed-weight (At o k _) p = omega (arith, none-if (same_object (cache_of r) o))
    shed-weight (Ref root did) p = refl
    shed-weight (Busy held) p = refl

    kept-weight : (n : Note) → ((o : Object) (k : ℕ) (d : Did) → n ≡ At o k d → IsPlaced o d)
        → note_tally logs (kept_by r) n ≡ at_object (cache_of r) (plain (puts r)) n
    kept-weight (At o k (Kept x)) p =
        placed-weight r x (cache_of r) o (λ same. p o k (Kept x) refl ∙ ap cache_of (sym (same_region-is r x same)))
    kept-weight (At o k _) p = omega (arith, none-if (same_object (cache_of r) o))
    kept-weight (Ref root did) p = refl
    kept-weight (Busy held) p = refl

    given-weight : (n : Note) → ((o : Object) (k : ℕ) (d : Did) → n ≡ At o k d → IsPlaced o d)
        → note_tally logs (given_by r) n ≡ at_object (arena_of r) (plain (gives_of r)) n
    given-weight (At o k (Give x)) p =
        placed-weight r x (arena_of r) o (λ same. p o k (Give x) refl ∙ ap arena_of (sym (same_region-is r x same)))
    given-weight (At o k _) p = omega (arith, none-if (same_object (arena_of r) o))
    given-weight (Ref root did) p = refl
    given-weight (Busy held) p = refl

    place-of : (lane i : ℕ) (n : Note) → slice_get (of_lane logs lane) i ≡ Some n → (o : Object) (k : ℕ) (d : Did)
        → n ≡ At o k d → IsPlaced o d
    place-of lane i n is o k d same = note-placed lane i k o d (is ∙ ap (λ x. Some x) same)

    pub got-total : total logs (got_by r) ≡ takes_in logs r + hits_in logs r
    got-total =
        over-alike (note_tally logs (got_by r))
        (λ n. at_object (arena_of r) (plain (takes r)) n + at_object (cache_of r) (plain (hits r)) n) logs
        (λ lane i n is. got-weight n (place-of lane i n is))
        ∙ over-plus (at_object (arena_of r) (plain (takes r))) (at_object (cache_of r) (plain (hits r))) logs
        ∙ (omega (arith, at-total (arena_of r) refl (takes r), at-total (cache_of r) refl (hits r)))

    pub shed-total : total logs (shed_by r) ≡ sheds_in logs r
    shed-total =
        over-alike (note_tally logs (shed_by r)) (at_object (cache_of r) (plain (sheds_of r))) logs
        (λ lane i n is. shed-weight n (place-of lane i n is)) ∙ at-total (cache_of r) refl (sheds_of r)

    pub kept-total : total logs (kept_by r) ≡ keeps_in logs r
    kept-total =
        over-alike (note_tally logs (kept_by r)) (at_object (cache_of r) (plain (puts r))) logs
        (λ lane i n is. kept-weight n (place-of lane i n is)) ∙ at-total (cache_of r) refl (puts r)

    pub given-total : total logs (given_by r) ≡ gives_in logs r
    given-total =
        over-alike (note_tally logs (given_by r)) (at_object (arena_of r) (plain (gives_of r))) logs
        (λ lane i n is. given-weight n (place-of lane i n is)) ∙ at-total (arena_of r) refl (gives_of r)

    used-born : (n : Note) → note_tally logs (used_by r) n ≡ note_tally logs (born_by (one_more r)) n
    used-born (At o k d) = go d (entry_of logs (At o k d)).region
      where
        go : (d : Did) (t : Option RegionId) → used_by r t d ≡ born_by (one_more r) t d
        go (Birth root x) t = refl
        go _ t = refl
    used-born (Ref root did) = refl
    used-born (Busy held) = refl

    used-total : births_in logs (one_more r) ≡ total logs (used_by r)
    used-total =
        sym (over-alike (note_tally logs (used_by r)) (note_tally logs (born_by (one_more r))) logs
        (λ lane i n is. used-born n))

    -- what is taken, hit, ended or shed is used once more, kept or given
    pub hands-through : takes_in logs r + hits_in logs r + (ends_in logs r + sheds_in logs r)
        ≡ births_in logs (one_more r) + (keeps_in logs r + gives_in logs r)
    hands-through =
        omega (
          arith,
          (hands-total r logs acts).through,
          got-total,
          shed-total,
          used-total,
          kept-total,
          given-total,
        )

    pub removes-are : (ds : List Did) → total_by (removes r) ds ≡ total_by (hits r) ds + total_by (sheds_of r) ds
    removes-are [] = refl
    removes-are (Hit x ∷ ds) = omega (arith, removes-are ds)
    removes-are (Shed x ∷ ds) = omega (arith, removes-are ds)
    removes-are (_ ∷ ds) = omega (arith, removes-are ds)

    pub through : (c : Cache) → cache_after r.owner r.class (dids (history_of (cache_of r) logs)) ≡ Some c
        → keeps_in logs r ≡ hits_in logs r + sheds_in logs r + times r c.regions
    through c e =
        omega (
          arith,
          goes-through r.owner r.class (dids (history_of (cache_of r) logs)) c r e,
          removes-are
              (dids (history_of (cache_of r) logs)),
        )

    pub removes-less : hits_in logs r + sheds_in logs r ≤ keeps_in logs r
    removes-less =
        let c : (c : Cache) × (cache_after r.owner r.class (dids (history_of (cache_of r) logs)) ≡ Some c) =
        is-some (cache_after r.owner r.class (dids (history_of (cache_of r) logs)))
        (holds.accepted (cache_of r) refl) in
        omega (arith, through c.0 c.1)

    -- what is taken or ended is used once more, given, or in the cache
    pub conserved : (c : Cache) → cache_after r.owner r.class (dids (history_of (cache_of r) logs)) ≡ Some c
        → takes_in logs r + ends_in logs r
        ≡ births_in logs (one_more r) + gives_in logs r + times r c.regions
    conserved c e = omega (arith, hands-through, through c e)

    pub uses-less : births_in logs (one_more r) + gives_in logs r ≤ takes_in logs r + ends_in logs r
    uses-less = omega (arith, hands-through, removes-less)

    pub takes-most : takes_in logs r ≤ 1
    takes-most =
        let a : (a : Arena) × (arena_after shape r.place.arena (dids (history_of (arena_of r) logs)) ≡ Some a) =
        is-some (arena_after shape r.place.arena (dids (history_of (arena_of r) logs)))
        (holds.accepted (arena_of r) refl) in
        (takes-once r.place.arena 0 a.0.takings r (dids (history_of (arena_of r) logs))
        (takings-in_order shape r.place.arena (dids (history_of (arena_of r) logs)) a.0 a.1)).0

    -- a taking has no uses
    pub takes-unused : 1 ≤ r.uses → takes_in logs r ≡ 0
    takes-unused used = go (takes_in logs r) refl
      where
        taken : (d : Did) → 1 ≤ takes r d → (c : ℕ) × (d ≡ Take c r)
        taken (Take c x) h = (c, ap (λ y. Take c y) (sym (same_region-is r x (one-of-true (same_region r x) h))))
        taken _ h = absurd (omega arith)

        go : (n : ℕ) → takes_in logs r ≡ n → takes_in logs r ≡ 0
        go zero e = e
        go (suc n) e =
            let f : (i : ℕ) × (d : Did) × (slice_get (dids (history_of (arena_of r) logs)) i ≡ Some d)
            × (1 ≤ takes r d) = total-found (takes r) (dids (history_of (arena_of r) logs)) (omega (arith, e)) in
            let t : (c : ℕ) × (f.1 ≡ Take c r) = taken f.1 f.3 in
            let p : (arena_of r ≡ arena_of r) × ((r.uses ≡ 0) × (r.class ≡ t.0)) =
            placed shape holds.page (arena_of r) (dids (history_of (arena_of r) logs)) f.0 (Take t.0 r)
            (holds.accepted (arena_of r) refl) (f.2 ∙ ap (λ x. Some x) t.1) in
            absurd (omega (arith, p.1.0, used))

    -- what ends was born
    ends-weight : (n : Note) → place_number n < above place_number logs
        → note_tally logs (ended_by r) n ≤ over_lanes 0 (above place_number logs)
        (λ p. at_object (Object.Root p) (ends_of logs p r) n)
    ends-weight (At (Object.Root q) k d) low =
        omega (
          arith,
          pick (λ p. ends_of logs p r k d) 0 (above place_number logs) q (omega arith)
              (let h : q < above place_number logs = low in omega (arith, h)),
        )
    ends-weight (At (Object.Arena q) k d) low = omega (arith, none-ended r d)
    ends-weight (At (Object.Cache q c) k d) low = omega (arith, none-ended r d)
    ends-weight (At (Object.Bin q) k d) low = omega (arith, none-ended r d)
    ends-weight (At (Object.Mail q c) k d) low = omega (arith, none-ended r d)
    ends-weight (Ref root did) low = omega arith
    ends-weight (Busy held) low = omega arith

    births-weight : (n : Note) → over_lanes 0 (above place_number logs)
        (λ p. at_object (Object.Root p) (plain (births_of r)) n) ≤ note_tally logs (born_by r) n
    births-weight (At (Object.Root q) k d) =
        omega (
          arith,
          pick-most (λ p. births_of r d) 0 (above place_number logs) q,
          born-alike r d
              (region_for d (present_before logs q k)),
        )
    births-weight (At (Object.Arena q) k d) = omega (arith, over_lanes-none 0 (above place_number logs))
    births-weight (At (Object.Cache q c) k d) = omega (arith, over_lanes-none 0 (above place_number logs))
    births-weight (At (Object.Bin q) k d) = omega (arith, over_lanes-none 0 (above place_number logs))
    births-weight (At (Object.Mail q c) k d) = omega (arith, over_lanes-none 0 (above place_number logs))
    births-weight (Ref root did) = omega (arith, over_lanes-none 0 (above place_number logs))
    births-weight (Busy held) = omega (arith, over_lanes-none 0 (above place_number logs))

    at-place : (p : ℕ) → sum_over (at_object (Object.Root p) (ends_of logs p r)) logs ≤ sum_over
        (at_object (Object.Root p) (plain (births_of r))) logs
    at-place p =
        let t : (t : RootPlace) × (place_after p (dids (history_of (Object.Root p) logs)) ≡ Some t) =
        is-some (place_after p (dids (history_of (Object.Root p) logs))) (holds.accepted (Object.Root p) refl) in
        omega (
          arith,
          regroup (Object.Root p) (ends_of logs p r) logs (history_of (Object.Root p) logs)
              (holds.whole (Object.Root p) refl),
          regroup (Object.Root p) (plain (births_of r)) logs (history_of (Object.Root p) logs)
              (holds.whole (Object.Root p) refl),
          ends-below logs p r [] (dids (history_of (Object.Root p) logs)) new_place t.0 refl refl t.1,
        )

    pub ends-born : ends_in logs r ≤ births_in logs r
    ends-born =
        let N : ℕ = above place_number logs in
        omega (
          arith,
          over-less-at (note_tally logs (ended_by r))
              (λ n. over_lanes 0 (above place_number logs) (λ p. at_object (Object.Root p) (ends_of logs p r) n)) logs
              (λ lane i n is. ends-weight n (omega (arith, over-at place_number logs lane i n is))),
          over-many (λ p. at_object (Object.Root p) (ends_of logs p r)) logs 0 (above place_number logs),
          over_lanes-less 0 (above place_number logs)
              (λ p. sum_over (at_object (Object.Root p) (ends_of logs p r)) logs)
              (λ p. sum_over (at_object (Object.Root p) (plain (births_of r))) logs) at-place,
          over-many (λ p. at_object (Object.Root p) (plain (births_of r))) logs 0 (above place_number logs),
          over-less (λ n. over_lanes 0 (above place_number logs)
              (λ p. at_object (Object.Root p) (plain (births_of r)) n)) (note_tally logs (born_by r)) logs
              births-weight,
        )
