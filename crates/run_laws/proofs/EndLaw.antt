-- At the end of a run: caches are empty, and a root has ended exactly where its total is 0.
use Rattle.std.proofs.Common.{⊎_elim, ◌≡◌, ℕ, ◌+◌, ◌≤◌, List, [], ◌∷◌, length, refl, sym, ap, arith, Bool, true, false, Some, ◌∙◌}
use Rattle.std.specs.Prelude.{◌<◌, not, if◌then◌else◌, map, slice_get}
use Rattle.pool_law.specs.declared.id.RootId.{RootId}
use Rattle.pool_law.specs.declared.id.RegionId.{RegionId}
use Rattle.pool_law.specs.declared.note.Object.{Object}
use Rattle.pool_law.specs.declared.note.Did.{Did}
use Rattle.pool_law.specs.declared.note.Did.TheVariants.{Give, Kept, Shed, Birth, Grow, End}
use Rattle.pool_law.specs.declared.note.RefDid.{RefDid}
use Rattle.pool_law.specs.declared.note.Note.{Note}
use Rattle.pool_law.specs.declared.note.Note.TheVariants.{At, Ref, Busy}
use Rattle.pool_law.specs.declared.run.Shape.{Shape}
use Rattle.pool_law.specs.Limits.{cached_classes, has_cache}
use Rattle.pool_law.specs.Same.{same_root}
use Rattle.pool_law.specs.Caches.{Cache}
use Rattle.pool_law.specs.Histories.{cache_after}
use Rattle.pool_law.specs.Logs.{Logs, dids, of_lane, has_history, history_of, entry_of, entries_of}
use Rattle.pool_law.specs.Legal.{CountsAgree}
use Rattle.run_laws.proofs.PagedHistories.{HistoriesPaged}
use Rattle.pool_law.specs.Lives.{Done}
use Rattle.run_laws.specs.OneLog.{IsBirth}
use Rattle.run_laws.specs.Conserved.{total_in}
use Rattle.run_laws.specs.CacheCounts.{total_by}
use Rattle.pool_law.specs.Counts.{count_in, count_over, ends_root, is_birth, is_born, TotalHolds}
use Rattle.run_laws.proofs.LogEntries.{LanesAct, log-most, sum-entries, logs-less, sums-less}
use Rattle.run_laws.proofs.Acts.{IsOther, Less}
use Rattle.run_laws.proofs.LaneActs.{AnyNote}
use Rattle.pool_law.proofs.SameLemmas.{same_root-is}
use Rattle.pool_law.proofs.PatternLemmas.{same_root-refl}
use Rattle.pool_law.proofs.HistoryLemmas.{log-past}
use Rattle.pool_law.proofs.LogLemmas.{entry-note}
use Rattle.run_laws.proofs.Sums.{below-or, over-none, sum_by, sum_over, over-at, over-found}
use Rattle.run_laws.proofs.Numbered.{plain, total-plain, at_object, regroup}
use Rattle.run_laws.proofs.HandTotals.{note-placed}
use Rattle.run_laws.proofs.Draining.{grant, shed_one, close_one}
use Rattle.run_laws.proofs.LogParts.{Parts, log-even, log-closes}
use Rattle.run_laws.proofs.CloseLaw.{ends-empty}

abbrev pub one : Bool → ℕ
one b = if b then 1 else 0

abbrev pub end_weight : RootId → Note → ℕ
end_weight root (At o k (End r)) = one (same_root r root)
end_weight root _ = 0

abbrev pub ended_weight : RootId → Note → ℕ
ended_weight root n = one (ends_root root n)

abbrev pub vacated_weight : RootId → Note → ℕ
vacated_weight root (Ref r RefDid.Vacated) = one (same_root r root)
vacated_weight root _ = 0

abbrev pub birth_weight : RootId → Note → ℕ
birth_weight root n = one (is_birth root n)

abbrev pub born_weight : RootId → Note → ℕ
born_weight root n = one (is_born root n)

-- two sums that are the same over each act
pub record Alike (f g : Note → ℕ) : Type 0 where
  pub other : (n : Note) → IsOther AnyNote n → f n ≡ g n
  pub birth : (o : Object) (k : ℕ) (root : RootId) (r : RegionId)
      → f (At o k (Birth root r)) + f (Ref root RefDid.Born) ≡ g (At o k (Birth root r)) + g (Ref root RefDid.Born)
  pub end : (o : Object) (k : ℕ) (root : RootId) →
      f (Ref root RefDid.Ended) + (f (At o k (End root)) + f (Ref root RefDid.Vacated))
      ≡ g (Ref root RefDid.Ended) + (g (At o k (End root)) + g (Ref root RefDid.Vacated))
  pub growth : (o : Object) (k c : ℕ) (r : RegionId) → f (At o k (Grow c r)) ≡ g (At o k (Grow c r))
  pub shed : (o p : Object) (k l : ℕ) (r : RegionId)
      → f (At o k (Shed r)) + f (At p l (Give r)) ≡ g (At o k (Shed r)) + g (At p l (Give r))

pub sums-alike : (logs : Logs) → LanesAct logs → (f g : Note → ℕ) → Alike f g → sum_over f logs ≡ sum_over g logs
sums-alike logs acts f g alike =
    let less : sum_over f logs ≤ sum_over g logs =
    sums-less logs acts f g (record {
      other = λ n is. omega (arith, alike.other n is);
      birth =
          λ o k root r. omega (arith, alike.birth o k root r);
      growth = λ o k c r. omega (arith, alike.growth o k c r);
      end =
          λ o k root. omega (arith, alike.end o k root);
      shed =
          λ o p k l r may. omega (arith, alike.shed o p k l r);
    }) in
    let more : sum_over g logs ≤ sum_over f logs =
    sums-less logs acts g f (record {
      other = λ n is. omega (arith, alike.other n is);
      birth =
          λ o k root r. omega (arith, alike.birth o k root r);
      growth = λ o k c r. omega (arith, alike.growth o k c r);
      end =
          λ o k root. omega (arith, alike.end o k root);
      shed =
          λ o p k l r may. omega (arith, alike.shed o p k l r);
    }) in
    omega (arith, less, more)

-- what no birth and no end says has none of these weights
pub other-none : (root : RootId) (n : Note) → IsOther AnyNote n
    → (ended_weight root n ≡ 0) × ((end_weight root n ≡ 0)
    × ((vacated_weight root n ≡ 0) × ((birth_weight root n ≡ 0) × (born_weight root n ≡ 0))))
other-none root (At o k (End r)) is = absurd is
other-none root (At o k (Birth r x)) is = absurd is
other-none root (At o k _) is = (refl, (refl, (refl, (refl, refl))))
other-none root (Ref r RefDid.Ended) is = absurd is
other-none root (Ref r RefDid.Vacated) is = absurd is
other-none root (Ref r RefDid.Born) is = absurd is
other-none root (Ref r _) is = (refl, (refl, (refl, (refl, refl))))
other-none root (Busy held) is = (refl, (refl, (refl, (refl, refl))))

-- a count ends as often as its root ends and its place is vacated, and a root is born as often as its word is set
pub ended-alike : (root : RootId) → Alike (ended_weight root) (end_weight root)
ended-alike root =
    record {
      other = λ n is. omega (arith, other-none root n is);
      birth = λ o k r x. refl;
      growth = λ o k c x. refl;
      end =
          λ o k r. omega arith;
      shed = λ o p k l r. refl;
    }

pub vacated-alike : (root : RootId) → Alike (vacated_weight root) (end_weight root)
vacated-alike root =
    record {
      other = λ n is. omega (arith, other-none root n is);
      birth = λ o k r x. refl;
      growth = λ o k c x. refl;
      end =
          λ o k r. omega arith;
      shed = λ o p k l r. refl;
    }

pub birth-alike : (root : RootId) → Alike (birth_weight root) (born_weight root)
birth-alike root =
    record {
      other = λ n is. omega (arith, other-none root n is);
      birth = λ o k r x. omega arith;
      growth = λ o k c x. refl;
      end =
          λ o k r. refl;
      shed = λ o p k l r. refl;
    }

-- what is kept has a cache
abbrev pub uncached : Note → ℕ
uncached (At o k (Kept r)) = one (not (has_cache r.class))
uncached _ = 0

pub uncached-less : Less AnyNote uncached (λ n. 0)
uncached-less =
    record {
      other = other;
      birth = λ o k r x. omega arith;
      growth = λ o k c x. omega arith;
      end = λ o k r. omega arith;
      shed =
          λ o p k l r may. omega arith;
    }
  where
    other : (n : Note) → IsOther AnyNote n → uncached n ≤ 0
    other (At o k (Kept r)) is = omega (arith, ap (λ b. one (not b)) is)
    other _ is = omega arith

module _ (shape : Shape) (logs : Logs) (holds : HistoriesPaged shape logs) (acts : LanesAct logs)
    (parts : (lane : ℕ) → lane < length logs → Parts lane (map (entry_of logs) (of_lane logs lane))) where
  pub even-over : (o : Object) → sum_over (at_object o (plain grant)) logs
      ≡ sum_over (at_object o (plain shed_one)) logs
  even-over o =
      let less : sum_over (at_object o (plain grant)) logs ≤ sum_over (at_object o (plain shed_one)) logs =
      logs-less (at_object o (plain grant)) (at_object o (plain shed_one)) logs
      (λ lane. omega (arith, lanes lane)) in
      let more : sum_over (at_object o (plain shed_one)) logs ≤ sum_over (at_object o (plain grant)) logs =
      logs-less (at_object o (plain shed_one)) (at_object o (plain grant)) logs
      (λ lane. omega (arith, lanes lane)) in
      omega (arith, less, more)
    where
      lanes : (lane : ℕ) → sum_by (at_object o (plain grant)) (of_lane logs lane)
          ≡ sum_by (at_object o (plain shed_one)) (of_lane logs lane)
      lanes lane =
          ⊎_elim
          (λ low.
          omega (
            arith,
            sum-entries logs (at_object o (plain grant)) (of_lane logs lane),
            sum-entries logs (at_object o (plain shed_one)) (of_lane logs lane),
            log-even o lane (map (entry_of logs) (of_lane logs lane)) (parts lane low),
          ))
          (λ high. ap (sum_by (at_object o (plain grant))) (log-past logs lane high)
          ∙ sym (ap (sum_by (at_object o (plain shed_one))) (log-past logs lane high)))
          (below-or lane (length logs))

  pub cache-empty : (lane class : ℕ) (c : Cache) → lane < length logs → class < cached_classes
      → cache_after lane class (dids (history_of (Object.Cache lane class) logs)) ≡ Some c → c.regions ≡ []
  cache-empty lane class c low cached e =
      let o : Object = Object.Cache lane class in
      ends-empty lane class (dids (history_of (Object.Cache lane class) logs)) c e
      (sym (at (Object.Cache lane class) refl grant) ∙ even-over (Object.Cache lane class)
      ∙ at (Object.Cache lane class) refl shed_one)
      (omega (
        arith,
        sym (at (Object.Cache lane class) refl close_one),
        log-most (at_object (Object.Cache lane class) (plain close_one)) logs lane,
        sum-entries logs (at_object (Object.Cache lane class) (plain close_one)) (of_lane logs lane),
        log-closes lane class (map (entry_of logs) (of_lane logs lane)) (parts lane low) cached,
      ))
    where
      at : (o : Object) → has_history o ≡ true → (f : Did → ℕ) → sum_over (at_object o (plain f)) logs
          ≡ total_by f (dids (history_of o logs))
      at o has f =
          regroup o (plain f) logs (history_of o logs) (holds.whole o has) ∙ total-plain f 1 (dids (history_of o logs))

  -- the ends of a root's count are the ends of the root
  pub count-notes : (test : Note → Bool) (rest : Logs)
      → count_over test (map (map (entry_of logs)) rest) ≡ sum_over (λ n. one (test n)) rest
  count-notes test [] = refl
  count-notes test (log ∷ rest) = omega (arith, in_log log, count-notes test rest)
    where
      in_log : (log : List Note) → count_in test (map (entry_of logs) log) ≡ sum_by (λ n. one (test n)) log
      in_log [] = refl
      in_log (n ∷ log) = omega (arith, ap (λ x. one (test x)) (entry-note logs n), in_log log)

  pub ends-over : (root : RootId) → count_over (ends_root root) (entries_of logs) ≡ sum_over (end_weight root) logs
  ends-over root =
      count-notes (ends_root root) logs ∙ sums-alike logs acts (ended_weight root) (end_weight root) (ended-alike root)

  pub kept-cached : (lane i k : ℕ) (o : Object) (r : RegionId)
      → slice_get (of_lane logs lane) i ≡ Some (At o k (Kept r)) → has_cache r.class ≡ true
  kept-cached lane i k o r is = go (has_cache r.class) refl
    where
      go : (b : Bool) → has_cache r.class ≡ b → has_cache r.class ≡ true
      go true e = e
      go false e =
          absurd (omega (
            arith,
            ap (λ b. one (not b)) e,
            over-at uncached logs lane i (At o k (Kept r)) is,
            sums-less
                logs acts uncached (λ n. 0) uncached-less,
            over-none logs,
          ))

  pub birth-counts : (root : RootId) (r : RegionId) → IsBirth logs root r
      → 0 < count_over (is_birth root) (entries_of logs)
  birth-counts root r u =
      let weight : one (is_birth root (At (Object.Root root.place) u.number (Birth root r)))
      ≡ 1 = ap one (same_root-refl root) in
      omega (
        arith,
        count-notes (is_birth root) logs,
        over-at (λ n. one (is_birth root n)) logs u.lane u.at
            (At (Object.Root root.place) u.number (Birth root r)) u.stands,
        weight,
      )

  one-true : (b : Bool) → 1 ≤ one b → b ≡ true
  one-true true h = refl
  one-true false h = absurd (omega (arith, h))

  end-note : (root : RootId) (n : Note) → 1 ≤ end_weight root n → (o : Object) × (k : ℕ) × (n ≡ At o k (End root))
  end-note root (At o k (End r)) h =
      (o, k, ap (λ x. At o k (End x)) (same_root-is r root (one-true (same_root r root) h)))
  end-note root (At o k _) h = absurd (omega (arith, h))
  end-note root (Ref r did) h = absurd (omega (arith, h))
  end-note root (Busy held) h = absurd (omega (arith, h))

  pub end-found : (root : RootId) → 1 ≤ sum_over (end_weight root) logs → Done logs (Object.Root root.place) (End root)
  end-found root h =
      let f : (lane : ℕ) × (i : ℕ) × (n : Note) × (slice_get (of_lane logs lane) i ≡ Some n)
      × (1 ≤ end_weight root n) = over-found (end_weight root) logs h in
      let e : (o : Object) × (k : ℕ) × (f.2 ≡ At o k (End root)) = end-note root f.2 f.4 in
      let is : slice_get (of_lane logs f.0) f.1 ≡ Some (At e.0 e.1 (End root)) = f.3 ∙ ap (λ x. Some x) e.2 in
      let here : e.0 ≡ Object.Root root.place = note-placed shape logs holds acts f.0 f.1 e.1 e.0 (End root) is in
      record { lane = f.0; at = f.1; number = e.1; stands = is ∙ ap (λ x. Some (At x e.1 (End root))) here }

  pub end-counts : (root : RootId) → Done logs (Object.Root root.place) (End root) → 1 ≤ sum_over (end_weight root) logs
  end-counts root d =
      omega (
        arith,
        over-at (end_weight root) logs d.lane d.at (At (Object.Root root.place) d.number (End root))
            d.stands,
        ap one (same_root-refl root),
      )

  module _ (counts : CountsAgree (entries_of logs)) where
    pub dead-ended : (root : RootId) (r : RegionId) → IsBirth logs root r → total_in logs root ≡ 0
        → Done logs (Object.Root root.place) (End root)
    dead-ended root r u dead =
        let t : TotalHolds root (entries_of logs) = counts.totals root (birth-counts root r u) in
        let once : count_over (ends_root root) (entries_of logs) ≡ 1 = t.ends_at_zero.1 dead in
        end-found root (omega (arith, once, ends-over root))

    pub ends-most : (root : RootId) (r : RegionId) → IsBirth logs root r → sum_over (end_weight root) logs ≤ 1
    ends-most root r u = omega (arith, (counts.totals root (birth-counts root r u)).ends_once, ends-over root)

    pub ended-dead : (root : RootId) (r : RegionId) → IsBirth logs root r
        → Done logs (Object.Root root.place) (End root) → total_in logs root ≡ 0
    ended-dead root r u d =
        let t : TotalHolds root (entries_of logs) = counts.totals root (birth-counts root r u) in
        t.ends_at_zero.0 (omega (arith, end-counts root d, ends-most root r u, ends-over root))

    -- a root is born once, so with one region
    pub births-most : (root : RootId) (r : RegionId) → IsBirth logs root r → sum_over (birth_weight root) logs ≤ 1
    births-most root r u =
        omega (
          arith,
          sums-alike logs acts (birth_weight root) (born_weight root) (birth-alike root),
          count-notes
              (λ n. is_born root n) logs,
          (counts.totals root (birth-counts root r u)).born_once,
        )
