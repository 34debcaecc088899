-- A taking that did not come back is used by a live root to the end.
use Rattle.std.proofs.Common.{⊎_elim, inl, inr, ◌≡◌, ℕ, zero, suc, ◌+◌, ◌≤◌, length, refl, ap, subst, arith, Some, ◌∙◌}
use Rattle.std.specs.Prelude.{◌<◌, map, slice_get}
use Rattle.pool_law.specs.declared.id.RootId.{RootId}
use Rattle.pool_law.specs.declared.id.RegionId.{RegionId}
use Rattle.pool_law.specs.declared.note.Object.{Object}
use Rattle.pool_law.specs.declared.note.Did.{Did}
use Rattle.pool_law.specs.declared.note.Did.TheVariants.{Birth, Grow}
use Rattle.pool_law.specs.declared.note.Note.{Note}
use Rattle.pool_law.specs.declared.note.Note.TheVariants.{At}
use Rattle.pool_law.specs.declared.run.Shape.{Shape}
use Rattle.pool_law.specs.Caches.{Cache}
use Rattle.pool_law.specs.Histories.{cache_after}
use Rattle.pool_law.specs.Logs.{Logs, dids, of_lane, history_of, entry_of, entries_of}
use Rattle.pool_law.specs.Legal.{CountsAgree}
use Rattle.pool_law.specs.Lives.{Event, IsUse, UseEnds, Begins, IsAmong, moves_by, present_at, cache_of, with_uses}
use Rattle.run_laws.specs.CacheCounts.{times}
use Rattle.run_laws.specs.Conserved.{IsHeld}
use Rattle.pool_law.proofs.PatternLemmas.{same_taking-refl}
use Rattle.run_laws.proofs.PagedHistories.{HistoriesPaged}
use Rattle.run_laws.proofs.LogEntries.{LanesAct}
use Rattle.run_laws.proofs.LogParts.{Parts}
use Rattle.run_laws.proofs.Sums.{sum_over, over-at, above}
use Rattle.run_laws.proofs.Placed.{is-some}
use Rattle.run_laws.proofs.Totals.{takes_in, keeps_in, gives_in, births_in, ends_in}
use Rattle.run_laws.proofs.HandTotals.{conserved, through, takes-unused, uses-less, ends-born}
use Rattle.run_laws.proofs.LifeLaw.{Uses, use-there, none-later, given-last, later-by}
use Rattle.run_laws.proofs.Doings.{Does, does-so}
use Rattle.run_laws.proofs.EventLaw.{begins-in, leaves-in}
use Rattle.run_laws.proofs.HandMoves.{growth-finds}
use Rattle.run_laws.proofs.PlaceMoves.{left-own}
use Rattle.run_laws.proofs.Owners.{owner-there, kept-gone}
use Rattle.run_laws.proofs.EndLaw.{dead-ended}
use Rattle.run_laws.proofs.Births.{use_event, end_event, use-does, end-does, used-born}
use Rattle.run_laws.proofs.LifeChain.{is-done_at}
use Rattle.run_laws.proofs.UseEndings.{left-ends, ended-left}
use Rattle.run_laws.proofs.ReturnsLaw.{use-number}
use Rattle.arena_laws.proofs.SlotLemmas.{three}

abbrev pub uses_number : Note → ℕ
uses_number (At o k (Birth root x)) = x.uses
uses_number (At o k (Grow c x)) = x.uses
uses_number _ = 0

module _ (shape : Shape) (logs : Logs) (holds : HistoriesPaged shape logs) (acts : LanesAct logs) where
  -- an event that begins a use, as a use
  pub begins-use : (root : RootId) (r : RegionId) (e : Event) → slice_get (of_lane logs e.lane) e.at
      ≡ Some (At e.object e.number e.did) → Does logs (Begins root r) e → IsUse logs root r
  begins-use root r e s does =
      let among = does-so logs e (Begins root r) does in
      let here : e.object ≡ Object.Root root.place =
      is-done_at shape logs holds acts (record { event = e; move = Begins root r })
      (record { stands = s; moves = among }) in
      record {
        lane = e.lane;
        at = e.at;
        number = e.number;
        did = e.did;
        stands = s ∙ ap (λ o. Some (At o e.number e.did)) here;
        moves = subst (λ o. IsAmong (Begins root r) (moves_by (present_at logs o e.number) e.did)) here among;
      }

  pub use-found : (r : RegionId) → 1 ≤ births_in logs r → (root : RootId) × IsUse logs root r
  use-found r h =
      let f = use-there shape logs holds acts r h in
      go f.0 f.1 f.2 f.3 f.4 f.5 f.6
    where
      go : (lane i : ℕ) (o : Object) (k : ℕ) (d : Did) → slice_get (of_lane logs lane) i ≡ Some (At o k d) → Uses r d
          → (root : RootId) × IsUse logs root r
      go lane i o k d is (inl u) =
          (u.0, begins-use u.0 r (record { object = o; did = d; lane = lane; at = i; number = k }) is (inl u.1))
      go lane i o k d is (inr u) =
          let p = growth-finds logs acts lane i k u.0 o r (is ∙ ap (λ x. Some (At o k x)) u.1) in (
            p.0.root,
            begins-use p.0.root r (record { object = o; did = d; lane = lane; at = i; number = k }) is
                (inr (u.0, u.1, (p.0, p.1, refl))),
          )

  -- a use that never ends is not left
  pub lasting-none : (root : RootId) (r : RegionId) → IsUse logs root r → (UseEnds logs root r → ⊥)
      → ends_in logs r ≡ 0
  lasting-none root r u lasts = go (ends_in logs r) refl
    where
      go : (n : ℕ) → ends_in logs r ≡ n → ends_in logs r ≡ 0
      go zero e = e
      go (suc n) e =
          let l = left-own shape logs holds acts root r (use_event u) u.stands (use-does logs root r u)
          (omega (arith, e)) in
          absurd (lasts (left-ends shape logs holds acts root r l.0))

  -- and so its taking has not come back
  pub lasting-kept : (root : RootId) (r : RegionId) → IsUse logs root r → (UseEnds logs root r → ⊥) → (n : ℕ)
      → gives_in logs (with_uses r n) ≡ 0
  lasting-kept root r u lasts n = go (gives_in logs (with_uses r n)) refl
    where
      born : 1 ≤ births_in logs r
      born = begins-in shape logs holds acts root r (use_event u) u.stands (use-does logs root r u)

      used : 1 ≤ r.uses
      used = use-number shape logs holds acts root r u

      none : ends_in logs r ≡ 0
      none = lasting-none root r u lasts

      next : births_in logs (with_uses r (r.uses + 1)) ≡ 0
      next =
          omega (arith, uses-less shape logs holds acts r, takes-unused shape logs holds acts r used, none)

      go : (g : ℕ) → gives_in logs (with_uses r n) ≡ g → gives_in logs (with_uses r n) ≡ 0
      go zero e = e
      go (suc g) e =
          ⊎_elim
          (λ less. absurd (omega (
            arith,
            born,
            given-last shape logs holds acts (with_uses r n) r.uses less (omega (arith, e)),
          )))
          (λ o. ⊎_elim
          (λ equal. absurd (omega (
            arith,
            e,
            ap (λ k. gives_in logs (with_uses r k)) equal,
            uses-less shape logs holds acts r,
            takes-unused shape logs holds acts r used,
            none,
          )))
          (λ more.
          let d = later-by shape logs holds acts r.uses n more in
          absurd (omega (
            arith,
            e,
            uses-less shape logs holds acts (with_uses r n),
            takes-unused shape logs holds acts (with_uses r n) (omega (arith, d.1)),
            ends-born shape logs holds acts (with_uses r n),
            ap (λ k. births_in logs (with_uses r k)) d.1,
            none-later shape logs holds acts r (r.uses + 1) d.0 (omega arith) next,
          )))
          o)
          (three n r.uses)

  pub few-uses : (r : RegionId) (n : ℕ) → sum_over uses_number logs < n → births_in logs (with_uses r n) ≡ 0
  few-uses r n high = go (births_in logs (with_uses r n)) refl
    where
      told : (o : Object) (k : ℕ) (d : Did) → Uses (with_uses r n) d → n ≤ uses_number (At o k d)
      told o k d (inl u) = omega (arith, ap (λ x. uses_number (At o k x)) u.1)
      told o k d (inr u) = omega (arith, ap (λ x. uses_number (At o k x)) u.1)

      go : (b : ℕ) → births_in logs (with_uses r n) ≡ b → births_in logs (with_uses r n) ≡ 0
      go zero e = e
      go (suc b) e =
          let f = use-there shape logs holds acts (with_uses r n) (omega (arith, e)) in
          absurd (omega (arith, over-at uses_number logs f.0 f.1 (At f.2 f.3 f.4) f.5, told f.2 f.3 f.4 f.6, high))

  -- the last use of a taking
  last-use : (fuel n : ℕ) (r : RegionId) → 1 ≤ births_in logs (with_uses r n)
      → births_in logs (with_uses r (n + fuel)) ≡ 0
      → (k : ℕ) × (1 ≤ births_in logs (with_uses r k)) × (births_in logs (with_uses r (k + 1)) ≡ 0)
  last-use zero n r h none =
      absurd (omega (arith, h, none, ap (λ k. births_in logs (with_uses r k)) (let e : n + 0 ≡ n = omega arith in e)))
  last-use (suc fuel) n r h none =
      go (births_in logs (with_uses r (n + 1))) refl
      (λ more. last-use fuel (n + 1) r more
      (ap (λ k. births_in logs (with_uses r k)) (let e : n + 1 + fuel ≡ n + suc fuel = omega arith in e)
      ∙ none))
    where
      go : (b : ℕ) → births_in logs (with_uses r (n + 1)) ≡ b
          → (1 ≤ births_in logs (with_uses r (n + 1))
          → (k : ℕ) × (1 ≤ births_in logs (with_uses r k)) × (births_in logs (with_uses r (k + 1)) ≡ 0)) →
          (k : ℕ) × (1 ≤ births_in logs (with_uses r k)) × (births_in logs (with_uses r (k + 1)) ≡ 0)
      go zero e again = (n, h, e)
      go (suc b) e again = again (omega (arith, e))

  module _ (parts : (lane : ℕ) → lane < length logs → Parts lane (map (entry_of logs) (of_lane logs lane)))
      (counts : CountsAgree (entries_of logs)) where
    -- of a taking nothing is in its cache at the end
    cache-gone : (r : RegionId) → r.owner < length logs → (c : Cache)
        → cache_after r.owner r.class (dids (history_of (cache_of r) logs)) ≡ Some c → times r c.regions ≡ 0
    cache-gone r low c e = go (keeps_in logs r) refl
      where
        go : (n : ℕ) → keeps_in logs r ≡ n → times r c.regions ≡ 0
        go zero none = omega (arith, none, through shape logs holds acts r c e)
        go (suc n) some =
            omega (
              arith,
              kept-gone shape logs holds acts parts r low (omega (arith, some)),
              through shape logs holds acts r c e,
            )

    -- a taking that was taken and did not come back is used by a live root to the end
    pub held-by : (r : RegionId) → 1 ≤ takes_in logs (with_uses r 0) → ((n : ℕ) → gives_in logs (with_uses r n) ≡ 0)
        → IsHeld logs r
    held-by r taken none =
        let low : r.owner < length logs = owner-there shape logs holds acts parts r taken in
        let all : (n : ℕ) → takes_in logs (with_uses r n) + ends_in logs (with_uses r n)
        ≡ births_in logs (with_uses r (n + 1)) = (λ n.
        let c = is-some (cache_after r.owner r.class (dids (history_of (cache_of r) logs)))
        (holds.accepted (cache_of r) refl) in
        omega (
          arith,
          conserved shape logs holds acts (with_uses r n) c.0 c.1,
          none n,
          cache-gone (with_uses r n) low c.0 c.1,
        )) in
        let k = last-use (above uses_number logs) 1 r (omega (arith, all 0, taken))
        (few-uses r (1 + above uses_number logs) (omega arith)) in
        let u = use-found (with_uses r k.0) k.1 in
        let gone : ends_in logs (with_uses r k.0) ≡ 0 = omega (arith, all k.0, k.2) in
        record {
          root = u.0;
          region = with_uses r k.0;
          used = u.1;
          same = same_taking-refl r;
          lasts = λ ends. absurd (omega (
            arith,
            gone,
            leaves-in shape logs holds acts u.0 (with_uses r k.0) (end_event ends) ends.stands
                (end-does logs u.0 (with_uses r k.0) ends),
          ));
          live = λ dead.
              let b = used-born shape logs holds acts u.0 (with_uses r k.0) u.1 in
              let l = ended-left shape logs holds acts parts counts u.0 (with_uses r k.0) u.1
              (dead-ended shape logs holds acts parts counts u.0 b.0 b.1 dead) in
              absurd (omega (
                arith,
                gone,
                leaves-in shape logs holds acts u.0 (with_uses r k.0) l.event l.stands l.does,
              ));
        }
