-- Sums of counts over the lanes.
use Rattle.std.proofs.Common.{◌≡◌, ℕ, suc, ◌+◌, ◌-◌, ◌<◌, List, [], ◌∷◌, refl, arith, Bool, true, false}
use Rattle.std.specs.Prelude.{◌&&◌, ◌||◌, if◌then◌else◌}
use Rattle.pool_law.specs.declared.id.RootId.{RootId}
use Rattle.pool_law.specs.declared.note.Did.TheVariants.{Post, Fetch}
use Rattle.pool_law.specs.declared.note.RefDid.{RefDid}
use Rattle.pool_law.specs.declared.note.RefDid.TheVariants.{Born, Retain, Ended, Vacated, Look}
use Rattle.pool_law.specs.declared.note.Note.{Note}
use Rattle.pool_law.specs.declared.note.Note.TheVariants.{At, Ref, Busy}
use Rattle.pool_law.specs.Same.{same_root}
use Rattle.pool_law.specs.Logs.{ToldNote, of_lane}
use Rattle.pool_law.specs.Counts.{view_is_of, root_is, ref_gains, ref_loses, ref_needs, note_gains, note_loses, note_needs, count_step, count_from, CountsHold, count_in, count_over, is_retain, is_release, is_born, TotalHolds}
use Rattle.run_laws.specs.CountLaw.{is_posted, is_fetched, counts_of, TotalIsCounted}

abbrev pub one : Bool → ℕ
one test = if test then 1 else 0

-- a step moves the count by what it gains and loses
abbrev pub Moves : Bool → Bool → ℕ → Type 0
Moves gains loses k = (if gains then k + 1 else if loses then k - 1 else k) + one loses ≡ k + one gains

pub gain-moves : (b : Bool) (k : ℕ) → Moves b false k
gain-moves true k = omega arith
gain-moves false k = omega arith

pub loss-moves : (b : Bool) (k : ℕ) → (b ≡ true → 0 < k) → Moves false b k
loss-moves true k h = let some : 0 < k = h refl in omega arith
loss-moves false k h = omega arith

pub ref-moves : (b : Bool) (did : RefDid) (k : ℕ) → ((b && ref_needs did) ≡ true → 0 < k)
    → Moves (b && ref_gains did) (b && ref_loses did) k
ref-moves false did k h = omega arith
ref-moves true Born k h = omega arith
ref-moves true Retain k h = omega arith
ref-moves true RefDid.Kept k h = let some : 0 < k = h refl in omega arith
ref-moves true Ended k h = let some : 0 < k = h refl in omega arith
ref-moves true Vacated k h = omega arith
ref-moves true (Look n) k h = omega arith

pub note-moves : (root : RootId) (n : Note) (k : ℕ) → (note_needs root n ≡ true → 0 < k)
    → Moves (note_gains root n) (note_loses root n) k
note-moves root (Ref r did) k h = ref-moves (same_root r root) did k h
note-moves root (Busy held) k h = omega arith
note-moves root (At object number (Post parcel)) k h = loss-moves (view_is_of root parcel.view) k h
note-moves root (At object number (Fetch parcel)) k h = gain-moves (view_is_of root parcel.view) k
note-moves root (At object number _) k h = omega arith

pub or-left : (a b : Bool) → a ≡ true → (a || b) ≡ true
or-left true b e = refl
or-left false b e = absurd (cc e)

-- a lane's count is what it gained less what it lost
pub count-balances : (root : RootId) (k : ℕ) (es : List ToldNote) → CountsHold root k es
    → count_from root k es + count_in (note_loses root) es ≡ k + count_in (note_gains root) es
count-balances root k [] h = omega arith
count-balances root k (e ∷ es) h =
    let first : count_step root k e + one (note_loses root e.note)
    ≡ k + one (note_gains root e.note) =
    note-moves root e.note k (λ needs. h.0 (or-left (note_needs root e.note) (root_is root e.root) needs)) in
    let rest : count_from root (count_step root k e) es + count_in (note_loses root) es
    ≡ count_step root k e + count_in (note_gains root) es = count-balances root (count_step root k e) es h.1.1 in
    omega (arith, first, rest)

-- what a note gains and loses, by kinds
pub gains-are : (root : RootId) (n : Note) → one (note_gains root n)
    ≡ one (is_born root n) + (one (is_retain root n) + one (is_fetched root n))
gains-are root (Ref r Born) = both (same_root r root)
  where
    both : (b : Bool) → one (b && true) ≡ one b + 0
    both true = refl
    both false = refl
gains-are root (Ref r Retain) = both (same_root r root)
  where
    both : (b : Bool) → one (b && true) ≡ 0 + (one b + 0)
    both true = refl
    both false = refl
gains-are root (Ref r RefDid.Kept) = none (same_root r root)
  where
    none : (b : Bool) → one (b && false) ≡ 0
    none true = refl
    none false = refl
gains-are root (Ref r Ended) = none (same_root r root)
  where
    none : (b : Bool) → one (b && false) ≡ 0
    none true = refl
    none false = refl
gains-are root (Ref r Vacated) = none (same_root r root)
  where
    none : (b : Bool) → one (b && false) ≡ 0
    none true = refl
    none false = refl
gains-are root (Ref r (Look k)) = none (same_root r root)
  where
    none : (b : Bool) → one (b && false) ≡ 0
    none true = refl
    none false = refl
gains-are root (Busy held) = refl
gains-are root (At object number (Fetch parcel)) = omega arith
gains-are root (At object number _) = refl

pub losses-are : (root : RootId) (n : Note) → one (note_loses root n) ≡ one (is_release root n) + one (is_posted root n)
losses-are root (Ref r did) = omega arith
losses-are root (Busy held) = refl
losses-are root (At object number (Post parcel)) = omega arith
losses-are root (At object number _) = refl

pub gained-in : (root : RootId) (es : List ToldNote) → count_in (note_gains root) es
    ≡ count_in (is_born root) es + (count_in (is_retain root) es + count_in (is_fetched root) es)
gained-in root [] = refl
gained-in root (e ∷ es) = omega (arith, gains-are root e.note, gained-in root es)

pub lost-in : (root : RootId) (es : List ToldNote) → count_in (note_loses root) es
    ≡ count_in (is_release root) es + count_in (is_posted root) es
lost-in root [] = refl
lost-in root (e ∷ es) = omega (arith, losses-are root e.note, lost-in root es)

abbrev pub EachLane : RootId → List (List ToldNote) → Type 0
EachLane root [] = Unit {0}
EachLane root (es ∷ logs) = CountsHold root 0 es × EachLane root logs

pub each-lane : (root : RootId) (logs : List (List ToldNote)) → ((lane : ℕ) → CountsHold root 0 (of_lane logs lane))
    → EachLane root logs
each-lane root [] h = tt
each-lane root (es ∷ logs) h = (h 0, each-lane root logs (λ lane. h (suc lane)))

pub sums : (root : RootId) (logs : List (List ToldNote)) → EachLane root logs →
    counts_of root logs + (count_over (is_release root) logs + count_over (is_posted root) logs)
    ≡ count_over (is_born root) logs + (count_over (is_retain root) logs + count_over (is_fetched root) logs)
sums root [] h = refl
sums root (es ∷ logs) h =
    omega (arith, count-balances root 0 es h.0, gained-in root es, lost-in root es, sums root logs h.1)

-- the total is what the lanes count, with what is posted and not fetched
pub total-is_counted : (root : RootId) (logs : List (List ToldNote)) → ((lane : ℕ) → CountsHold root 0 (of_lane logs
    lane))
    → TotalHolds root logs → TotalIsCounted root logs
total-is_counted root logs h t = omega (arith, sums root logs (each-lane root logs h), t.born_once, t.never_below)
