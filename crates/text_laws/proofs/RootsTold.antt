-- What the lines say of roots: each root that is named is told by its birth.
use Rattle.std.proofs.Common.{◌≡◌, ℕ, zero, suc, ◌+◌, ◌<◌, ◌≤◌, Bool, true, false, List, [], ◌∷◌, Some, refl, sym, ap, arith, ◌∙◌}
use Rattle.std.specs.Prelude.{map, slice_get}
use Rattle.pool_law.specs.declared.id.RegionId.{RegionId}
use Rattle.pool_law.specs.declared.id.RootId.{RootId}
use Rattle.pool_law.specs.declared.note.Did.{Did}
use Rattle.pool_law.specs.declared.note.Did.TheVariants.{Birth, End}
use Rattle.pool_law.specs.declared.note.Note.{Note}
use Rattle.pool_law.specs.declared.note.Note.TheVariants.{At, Ref, Busy}
use Rattle.pool_law.specs.declared.note.Object.{Object}
use Rattle.pool_law.specs.declared.run.Shape.{Shape}
use Rattle.pool_law.specs.Counts.{count_in, count_over, is_birth, names_root}
use Rattle.pool_law.specs.Histories.{place_after}
use Rattle.pool_law.specs.Legal.{CountsAgree, one_if}
use Rattle.pool_law.specs.Lives.{Event, Stands, StandsAt}
use Rattle.pool_law.specs.Logs.{Logs, dids, entries_of, entry_of, has_history, history_of}
use Rattle.pool_law.specs.Roots.{RootPlace, new_place}
use Rattle.pool_law.specs.Same.{same_root}
use Rattle.pool_law.proofs.LogLemmas.{entry-note}
use Rattle.pool_law.proofs.SameLemmas.{same_root-is}
use Rattle.run_laws.specs.OneLog.{IsBirth}
use Rattle.run_laws.specs.PlaceLives.{BornInOrder}
use Rattle.run_laws.proofs.Births.{ended-born}
use Rattle.run_laws.proofs.EventLaw.{Noted, noted, stands-as, the}
use Rattle.run_laws.proofs.HandTotals.{note-placed}
use Rattle.run_laws.proofs.LogEntries.{LanesAct}
use Rattle.run_laws.proofs.PagedHistories.{HistoriesPaged}
use Rattle.run_laws.proofs.PlaceLaw.{births-in_order}
use Rattle.run_laws.proofs.Placed.{is-some}
use Rattle.run_laws.proofs.Sums.{over-at, over-found, sum_by, sum_over}
use Rattle.run_text.specs.Lines.{Line, born, born_by, keyed, last_born, root_key, said, told_from}
use Rattle.text_laws.proofs.LastSays.{keyed-own, keyed-some, last-only}
use Rattle.text_laws.proofs.TextPlaces.{Placed, ahead, placed-at, there-at}

-- ---- A history of a root place has each generation once.

born-above : (place n m : ℕ) (ds : List Did) (j : ℕ) (root : RootId) (r : RegionId) → BornInOrder place n ds m
    → slice_get ds j ≡ Some (Birth root r) → n < root.generation
born-above place n m [] j root r order e = absurd (cc e)
born-above place n m (Birth q x ∷ ds) zero root r order e =
    let same : q ≡ root = cc e in omega (arith, order.1.0, ap (λ y. y.generation) same)
born-above place n m (Birth q x ∷ ds) (suc j) root r order e =
    omega (arith, born-above place (n + 1) m ds j root r order.1.1 e)
born-above place n m (_ ∷ ds) zero root r order e = absurd (cc e)
born-above place n m (_ ∷ ds) (suc j) root r order e = born-above place n m ds j root r order e

born-at_once : (place n m : ℕ) (ds : List Did) (i j : ℕ) (q root : RootId) (x r : RegionId)
    → BornInOrder place n ds m → slice_get ds i ≡ Some (Birth q x) → slice_get ds j ≡ Some (Birth root r)
    → q.generation ≡ root.generation → i ≡ j
born-at_once place n m [] i j q root x r order e f same = absurd (cc e)
born-at_once place n m (Birth p y ∷ ds) zero zero q root x r order e f same = refl
born-at_once place n m (Birth p y ∷ ds) zero (suc j) q root x r order e f same =
    let is : p ≡ q = cc e in
    absurd (omega (
      arith,
      born-above place (n + 1) m ds j root r order.1.1 f,
      order.1.0,
      ap (λ z. z.generation) is,
      same,
    ))
born-at_once place n m (Birth p y ∷ ds) (suc i) zero q root x r order e f same =
    let is : p ≡ root = cc f in
    absurd (omega (
      arith,
      born-above place (n + 1) m ds i q x order.1.1 e,
      order.1.0,
      ap (λ z. z.generation) is,
      same,
    ))
born-at_once place n m (Birth p y ∷ ds) (suc i) (suc j) q root x r order e f same =
    ap suc (born-at_once place (n + 1) m ds i j q root x r order.1.1 e f same)
born-at_once place n m (_ ∷ ds) zero j q root x r order e f same = absurd (cc e)
born-at_once place n m (_ ∷ ds) (suc i) zero q root x r order e f same = absurd (cc f)
born-at_once place n m (_ ∷ ds) (suc i) (suc j) q root x r order e f same =
    ap suc (born-at_once place n m ds i j q root x r order e f same)

-- the root that a note bears is of its did
born-did : (d : Did) (root : RootId) → born_by (said d) ≡ Some root → (r : RegionId) × (d ≡ Birth root r)
born-did (Birth q r) root e = let same : q ≡ root = cc e in (r, ap (λ x. Birth x r) same)
born-did _ root e = absurd (cc e)

pub born-note : (n : Note) (root : RootId) → born n ≡ Some root
    → (o : Object) × (k : ℕ) × (r : RegionId) × (n ≡ At o k (Birth root r))
born-note (At o k d) root e = let b = born-did d root e in (o, k, b.0, ap (At o k) b.1)
born-note (Ref root' d) root e = absurd (cc e)
born-note (Busy held) root e = absurd (cc e)

-- ---- What is counted stands somewhere.

one-true : (b : Bool) → 1 ≤ one_if b → b ≡ true
one-true true h = refl
one-true false h = absurd (omega (arith, h))

birth-note : (root : RootId) (n : Note) → 1 ≤ one_if (is_birth root n)
    → (o : Object) × (k : ℕ) × (r : RegionId) × (n ≡ At o k (Birth root r))
birth-note root (At o k (Birth q r)) h =
    (o, k, r, ap (λ x. At o k (Birth x r)) (same_root-is q root (one-true (same_root q root) h)))
birth-note root (At o k _) h = absurd (omega (arith, h))
birth-note root (Ref q did) h = absurd (omega (arith, h))
birth-note root (Busy held) h = absurd (omega (arith, h))

counted : (logs : Logs) (test : Note → Bool) (rest : Logs)
    → count_over test (map (map (entry_of logs)) rest) ≡ sum_over (λ n. one_if (test n)) rest
counted logs test [] = refl
counted logs test (log ∷ rest) = omega (arith, in_log log, counted logs test rest)
  where
    in_log : (log : List Note) → count_in test (map (entry_of logs) log) ≡ sum_by (λ n. one_if (test n)) log
    in_log [] = refl
    in_log (n ∷ log) = omega (arith, ap (λ x. one_if (test x)) (entry-note logs n), in_log log)

module _ (shape : Shape) (logs : Logs) (holds : HistoriesPaged shape logs) (acts : LanesAct logs) where
  -- two births of one place and generation are of one root
  one-birth : (e f : Event) (q root : RootId) (x r : RegionId) → Stands logs e → Stands logs f → e.did ≡ Birth q x
      → f.did ≡ Birth root r → root_key q ≡ root_key root → q ≡ root
  one-birth e f q root x r s t is_q is_root key =
      let place : q.place ≡ root.place = ap (λ (k : ℕ × ℕ). k.0) key in
      let generation : q.generation ≡ root.generation = ap (λ (k : ℕ × ℕ). k.1) key in
      let placed_q : e.object ≡ Object.Root q.place =
      note-placed shape logs holds acts e.lane e.at e.number e.object (Birth q x)
      (stands-as logs e (Birth q x) s is_q) in
      let here : e.object ≡ Object.Root root.place = placed_q ∙ ap Object.Root place in
      let there : f.object ≡ Object.Root root.place =
      note-placed shape logs holds acts f.lane f.at f.number f.object (Birth root r)
      (stands-as logs f (Birth root r) t is_root) in
      let m : Noted shape logs holds acts e = noted shape logs holds acts e s (ap has_history here) in
      let n : Noted shape logs holds acts f = noted shape logs holds acts f t (ap has_history there) in
      let at_m : slice_get (dids (history_of (Object.Root root.place) logs)) m.index ≡ Some (Birth q x) =
      ap (λ o. slice_get (dids (history_of o logs)) m.index) (sym here) ∙ m.there ∙ ap (λ y. Some y) is_q in
      let at_n : slice_get (dids (history_of (Object.Root root.place) logs)) n.index ≡ Some (Birth root r) =
      ap (λ o. slice_get (dids (history_of o logs)) n.index) (sym there) ∙ n.there ∙ ap (λ y. Some y) is_root in
      let p : (p : RootPlace) × (place_after root.place (dids (history_of (Object.Root root.place) logs)) ≡ Some p) =
      is-some (place_after root.place (dids (history_of (Object.Root root.place) logs)))
      (holds.accepted (Object.Root root.place) refl) in
      let index : m.index ≡ n.index =
      born-at_once root.place 0 p.0.generation (dids (history_of (Object.Root root.place) logs)) m.index n.index q root
      x r (births-in_order root.place (dids (history_of (Object.Root root.place) logs)) new_place p.0 p.1) at_m at_n
      generation in
      let both : Some (Birth q x) ≡ Some (Birth root r) =
      sym at_m ∙ ap (slice_get (dids (history_of (Object.Root root.place) logs))) index ∙ at_n in
      cc both

  -- a root that was born is what the last line says that tells of its birth
  pub born-told : (e : Event) (root : RootId) (r : RegionId) → Stands logs e → e.did ≡ Birth root r
      → last_born (told_from 0 logs) (root_key root) ≡ Some root
  born-told e root r s is =
      last-only (λ line. keyed root_key (root_key root) (born line.1)) (told_from 0 logs) root
      (ahead e.lane logs + e.at) (e.lane, At e.object e.number e.did)
      (there-at logs e.lane e.at (At e.object e.number e.did) s)
      (keyed-own root_key (root_key root) (born_by (said e.did)) root (ap (λ d. born_by (said d)) is) refl)
      only
    where
      only : (j : ℕ) (l : Line) (y : RootId) → slice_get (told_from 0 logs) j ≡ Some l
          → keyed root_key (root_key root) (born l.1) ≡ Some y → y ≡ root
      only j l y there says =
          let k = keyed-some root_key (root_key root) (born l.1) y says in
          let n = born-note l.1 y k.0 in
          let p : Placed logs j l = placed-at logs j l there in
          one-birth (record { object = n.0; did = Birth y n.2; lane = l.0; at = p.at; number = n.1 }) e y root n.2 r
          (p.stands ∙ ap (λ m. Some m) n.3) s refl is k.1

  -- so a root that ends
  pub ended-told : (lane at k : ℕ) (root : RootId) → StandsAt logs lane at (At (Object.Root root.place) k (End root))
      → last_born (told_from 0 logs) (root_key root) ≡ Some root
  ended-told lane at k root s =
      let b : (r : RegionId) × IsBirth logs root r =
      ended-born shape logs holds acts root (record { lane = lane; at = at; number = k; stands = s }) in
      born-told (the b.1) root b.0 b.1.stands refl

  -- and each that a step on its count names, or a parcel
  module _ (counts : CountsAgree (entries_of logs)) where
    pub named-told : (lane at : ℕ) (n : Note) (root : RootId) → StandsAt logs lane at n → names_root root n ≡ true
        → last_born (told_from 0 logs) (root_key root) ≡ Some root
    named-told lane at n root s names =
        let weight : one_if (names_root root n) ≡ 1 = ap one_if names in
        let named : 0 < count_over (names_root root) (entries_of logs) =
        omega (
          arith,
          counted logs (names_root root) logs,
          over-at (λ m. one_if (names_root root m)) logs lane at n s,
          weight,
        ) in
        let births : 0 < count_over (is_birth root) (entries_of logs) = counts.born root named in
        let f = over-found (λ m. one_if (is_birth root m)) logs
        (omega (arith, births, counted logs (is_birth root) logs)) in
        let b = birth-note root f.2 f.4 in
        born-told (record { object = b.0; did = Birth root b.2; lane = f.0; at = f.1; number = b.1 }) root b.2
        (f.3 ∙ ap (λ m. Some m) b.3) refl
