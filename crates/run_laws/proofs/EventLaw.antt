-- Events that move regions: how they count, and that one that counts once is one.
use Rattle.std.proofs.Common.{⊎_elim, inl, inr, ◌≡◌, ℕ, ◌+◌, ◌≤◌, refl, sym, ap, subst, arith, true, Some, ◌∙◌}
use Rattle.std.proofs.lemmas.Option.{same_Some}
use Rattle.std.specs.Prelude.{Option, slice_get}
use Rattle.pool_law.specs.declared.id.RootId.{RootId}
use Rattle.pool_law.specs.declared.id.RegionId.{RegionId}
use Rattle.pool_law.specs.declared.note.Object.{Object}
use Rattle.pool_law.specs.declared.note.Did.{Did}
use Rattle.pool_law.specs.declared.note.Did.TheVariants.{Take}
use Rattle.pool_law.specs.declared.note.Note.{Note}
use Rattle.pool_law.specs.declared.note.Note.TheVariants.{At}
use Rattle.pool_law.specs.declared.run.Shape.{Shape}
use Rattle.pool_law.specs.Logs.{Logs, dids, of_lane, has_history, history_of, entry_of}
use Rattle.pool_law.specs.Lives.{StandsAt, Done, Event, Stands, arena_of, Begins, Leaves}
use Rattle.run_laws.specs.CacheCounts.{one_of}
use Rattle.run_laws.specs.HandCounts.{one_same, ended_by}
use Rattle.pool_law.proofs.PatternLemmas.{same_region-refl}
use Rattle.pool_law.proofs.LogLemmas.{dids-at}
use Rattle.run_laws.proofs.PagedHistories.{HistoriesPaged}
use Rattle.run_laws.proofs.LogEntries.{LanesAct}
use Rattle.run_laws.proofs.Sums.{sum_over, over-at, over-place}
use Rattle.run_laws.proofs.Numbered.{in-history, in-log, rises-in_log}
use Rattle.run_laws.proofs.Totals.{dids-there, note_tally, born_by, takes, takes_in, births_in, ends_in}
use Rattle.run_laws.proofs.HandTotals.{note-placed, takes-most}
use Rattle.run_laws.proofs.HandSteps.{EndsUse}
use Rattle.run_laws.proofs.CacheRanks.{total-inside, total-before}
use Rattle.run_laws.proofs.Doings.{Does, left-region}
use Rattle.run_laws.proofs.LifeLaw.{born-most, ends-most_of}
use Rattle.arena_laws.proofs.SlotLemmas.{three}

-- a note as an event
abbrev pub the : {logs : Logs} {object : Object} {did : Did} → Done logs object did → Event
the {object = object} {did = did} d = record { object = object; did = did; lane = d.lane; at = d.at; number = d.number }

-- a note is one thing
pub one-note : (logs : Logs) (lane i : ℕ) (n m : Note) → slice_get (of_lane logs lane) i ≡ Some n
    → slice_get (of_lane logs lane) i ≡ Some m → n ≡ m
one-note logs lane i n m e d = same_Some n m (sym e ∙ d)

-- two events at one place of a log are one
pub same-event : (logs : Logs) (e f : Event) → Stands logs e → Stands logs f → e.lane ≡ f.lane → e.at ≡ f.at → e ≡ f
same-event logs e f s t lanes ats =
    let there : slice_get (of_lane logs e.lane) e.at
    ≡ Some (At f.object f.number f.did) = (λ i. slice_get (of_lane logs (lanes i)) (ats i)) ∙ t in
    let note : At e.object e.number e.did ≡ At f.object f.number f.did =
    one-note logs e.lane e.at (At e.object e.number e.did) (At f.object f.number f.did) s there in
    let o : e.object ≡ f.object = cc note in
    let n : e.number ≡ f.number = cc note in
    let d : e.did ≡ f.did = cc note in
    λ i. record { object = o i; did = d i; lane = lanes i; at = ats i; number = n i }

-- where at most one note counts, two events that count are one
pub one-event : (logs : Logs) (f : Note → ℕ) → sum_over f logs ≤ 1 → (e g : Event) → Stands logs e → Stands logs g
    → 1 ≤ f (At e.object e.number e.did) → 1 ≤ f (At g.object g.number g.did) → e ≡ g
one-event logs f most e g s t a b =
    let p : (e.lane ≡ g.lane) × (e.at ≡ g.at) = over-place f logs e.lane g.lane e.at g.at (At e.object e.number e.did)
    (At g.object g.number g.did) s t most a b in
    same-event logs e g s t p.0 p.1

pub stands-as : (logs : Logs) (f : Event) (d : Did) → Stands logs f → f.did ≡ d
    → StandsAt logs f.lane f.at (At f.object f.number d)
stands-as logs f d s is = s ∙ ap (λ x. Some (At f.object f.number x)) is

-- what a birth, a growth and an end weigh
pub begins-weight : (logs : Logs) (root : RootId) (r : RegionId) (e : Event) → Does logs (Begins root r) e
    → 1 ≤ note_tally logs (born_by r) (At e.object e.number e.did)
begins-weight logs root r e (inl is) =
    subst (λ d. 1 ≤ note_tally logs (born_by r) (At e.object e.number d)) (sym is)
    (omega (arith, ap one_of (same_region-refl r)))
begins-weight logs root r e (inr g) =
    subst (λ d. 1 ≤ note_tally logs (born_by r) (At e.object e.number d)) (sym g.1)
    (omega (arith, ap one_of (same_region-refl r)))

pub leaves-weight : (logs : Logs) (root : RootId) (r : RegionId) (e : Event) → Does logs (Leaves root r) e
    → 1 ≤ note_tally logs (ended_by r) (At e.object e.number e.did)
leaves-weight logs root r e (ends, p) =
    go e.did (entry_of logs (At e.object e.number e.did)).region ends
    (left-region logs e.object e.number e.did p.0 ends p.1 ∙ ap (λ x. Some x) p.3)
  where
    go : (d : Did) (t : Option RegionId) → EndsUse d → t ≡ Some r → 1 ≤ ended_by r t d
    go d t (inl u) is =
        subst (λ x. 1 ≤ ended_by r t x) (sym u.1)
        (subst (λ o. 1 ≤ one_same r o) (sym is) (omega (arith, ap one_of (same_region-refl r))))
    go d t (inr u) is =
        subst (λ x. 1 ≤ ended_by r t x) (sym u.2)
        (subst (λ o. 1 ≤ one_same r o) (sym is) (omega (arith, ap one_of (same_region-refl r))))

module _ (shape : Shape) (logs : Logs) (holds : HistoriesPaged shape logs) (acts : LanesAct logs) where
  -- an event in its object's history
  pub record Noted (e : Event) : Type 0 where
    pub index : ℕ
    pub number : e.number ≡ 1 + index
    pub there : slice_get (dids (history_of e.object logs)) index ≡ Some e.did

  pub noted : (e : Event) → Stands logs e → has_history e.object ≡ true → Noted e
  noted e s has =
      let a = in-history e.object logs (history_of e.object logs) (holds.whole e.object has) e.lane e.at e.number e.did
      s in
      record {
        index = a.0;
        number = a.1;
        there = dids-at (history_of e.object logs) a.0 e.lane e.did a.2;
      }

  -- and what stands in a history is an event
  pub done-at : (o : Object) → has_history o ≡ true → (j : ℕ) (d : Did)
      → slice_get (dids (history_of o logs)) j ≡ Some d
      → (x : Done logs o d) × (x.number ≡ 1 + j)
  done-at o has j d e =
      let l : (lane : ℕ) × (slice_get (history_of o logs) j ≡ Some (lane, d)) = dids-there (history_of o logs) j d e in
      let n : (i : ℕ) × (slice_get (of_lane logs l.0) i ≡ Some (At o (1 + j) d)) =
      in-log o logs (history_of o logs) (holds.whole o has) l.0 j d l.1 in
      (record { lane = l.0; at = n.0; number = 1 + j; stands = n.1 }, refl)

  -- two events at one object with one number are one
  pub one-number : (e f : Event) → Stands logs e → Stands logs f → e.object ≡ f.object → has_history e.object ≡ true
      → e.number ≡ f.number → e ≡ f
  one-number e f s t same has number =
      let t' : slice_get (of_lane logs f.lane) f.at ≡ Some (At e.object f.number f.did) =
      t ∙ ap (λ o. Some (At o f.number f.did)) (sym same) in
      let a = in-history e.object logs (history_of e.object logs) (holds.whole e.object has) e.lane e.at e.number e.did
      s in
      let b = in-history e.object logs (history_of e.object logs) (holds.whole e.object has) f.lane f.at f.number f.did
      t' in
      let index : a.0 ≡ b.0 = omega (arith, a.1, b.1, number) in
      let both : ◌≡◌ {A = Option (ℕ × Did)} (Some (e.lane, e.did)) (Some (f.lane, f.did)) =
      sym a.2 ∙ ap (slice_get (history_of e.object logs)) index ∙ b.2 in
      let pair : ◌≡◌ {A = ℕ × Did} (e.lane, e.did) (f.lane, f.did) = cc both in
      let lane : e.lane ≡ f.lane = ap (λ p. p.0) pair in
      let there : slice_get (of_lane logs e.lane) f.at ≡ Some (At e.object f.number f.did) =
      ap (λ l. slice_get (of_lane logs l) f.at) lane ∙ t' in
      same-event logs e f s t lane
      (⊎_elim
      (λ less. absurd (omega (
        arith,
        number,
        rises-in_log e.object logs (history_of e.object logs) (holds.whole e.object has) e.lane e.at f.at e.number
            f.number e.did f.did s there less,
      )))
      (λ o. ⊎_elim (λ equal. equal)
      (λ more. absurd (omega (
        arith,
        number,
        rises-in_log e.object logs (history_of e.object logs) (holds.whole e.object has) e.lane f.at e.at f.number
            e.number f.did e.did there s more,
      ))) o)
      (three e.at f.at))

  -- what begins and what leaves a region counts
  pub begins-in : (root : RootId) (r : RegionId) (e : Event) → Stands logs e → Does logs (Begins root r) e
      → 1 ≤ births_in logs r
  begins-in root r e s does =
      omega (
        arith,
        over-at (note_tally logs (born_by r)) logs e.lane e.at (At e.object e.number e.did) s,
        begins-weight logs root r e does,
      )

  pub leaves-in : (root : RootId) (r : RegionId) (e : Event) → Stands logs e → Does logs (Leaves root r) e
      → 1 ≤ ends_in logs r
  leaves-in root r e s does =
      omega (
        arith,
        over-at (note_tally logs (ended_by r)) logs e.lane e.at (At e.object e.number e.did) s,
        leaves-weight logs root r e does,
      )

  -- a Take is at its region's arena, and of a region without uses
  pub take-noted : (r : RegionId) (c : ℕ) (e : Event) → Stands logs e → e.did ≡ Take c r
      → (e.object ≡ arena_of r) × ((r.uses ≡ 0) × (r.class ≡ c))
  take-noted r c e s is =
      note-placed shape logs holds acts e.lane e.at e.number e.object (Take c r) (stands-as logs e (Take c r) s is)

  pub takes-in : (r : RegionId) (c : ℕ) (e : Event) → Stands logs e → e.did ≡ Take c r → 1 ≤ takes_in logs r
  takes-in r c e s is =
      let here : e.object ≡ arena_of r = (take-noted r c e s is).0 in
      let n : Noted e = noted e s (ap has_history here) in
      let there : slice_get (dids (history_of (arena_of r) logs)) n.index ≡ Some (Take c r) =
      ap (λ o. slice_get (dids (history_of o logs)) n.index) (sym here) ∙ n.there ∙ ap (λ d. Some d) is in
      omega (
        arith,
        total-inside (takes r) (dids (history_of (arena_of r) logs)) n.index (Take c r) there,
        ap one_of (same_region-refl r),
      )

  -- each of these happens once
  pub same-begins : (r : RegionId) (p q : RootId) (e g : Event) → Stands logs e → Stands logs g
      → Does logs (Begins p r) e → Does logs (Begins q r) g → e ≡ g
  same-begins r p q e g s t a b =
      one-event logs (note_tally logs (born_by r)) (born-most shape logs holds acts r.uses r) e g s t
      (begins-weight logs p r e a) (begins-weight logs q r g b)

  pub same-leaves : (r : RegionId) (p q : RootId) (e g : Event) → Stands logs e → Stands logs g
      → Does logs (Leaves p r) e → Does logs (Leaves q r) g → e ≡ g
  same-leaves r p q e g s t a b =
      one-event logs (note_tally logs (ended_by r)) (ends-most_of shape logs holds acts r) e g s t
      (leaves-weight logs p r e a) (leaves-weight logs q r g b)

  pub same-takes : (r : RegionId) (c d : ℕ) (e g : Event) → Stands logs e → Stands logs g → e.did ≡ Take c r
      → g.did ≡ Take d r → e ≡ g
  same-takes r c d e g s t a b =
      let here : e.object ≡ arena_of r = (take-noted r c e s a).0 in
      let there : g.object ≡ arena_of r = (take-noted r d g t b).0 in
      let m : Noted e = noted e s (ap has_history here) in
      let n : Noted g = noted g t (ap has_history there) in
      let at_m : slice_get (dids (history_of (arena_of r) logs)) m.index ≡ Some (Take c r) =
      ap (λ o. slice_get (dids (history_of o logs)) m.index) (sym here) ∙ m.there ∙ ap (λ x. Some x) a in
      let at_n : slice_get (dids (history_of (arena_of r) logs)) n.index ≡ Some (Take d r) =
      ap (λ o. slice_get (dids (history_of o logs)) n.index) (sym there) ∙ n.there ∙ ap (λ x. Some x) b in
      one-number e g s t (here ∙ sym there) (ap has_history here)
      (⊎_elim
      (λ less. absurd (omega (
        arith,
        total-before (takes r) (dids (history_of (arena_of r) logs)) m.index n.index (Take c r) at_m less,
        total-inside (takes r) (dids (history_of (arena_of r) logs)) n.index (Take d r) at_n,
        takes-most shape logs holds acts r,
        ap one_of (same_region-refl r),
      )))
      (λ o. ⊎_elim (λ equal. omega (arith, equal, m.number, n.number))
      (λ more. absurd (omega (
        arith,
        total-before (takes r) (dids (history_of (arena_of r) logs)) n.index m.index (Take d r) at_n more,
        total-inside (takes r) (dids (history_of (arena_of r) logs)) m.index (Take c r) at_m,
        takes-most shape logs holds acts r,
        ap one_of (same_region-refl r),
      ))) o)
      (three m.index n.index))
