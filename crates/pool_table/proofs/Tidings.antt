-- That what entries tell of capacities was given, after each kind of change of the views.
use Rattle.std.proofs.Common.{◌≡◌, ◌⊎◌, ℕ, ◌-◌, ◌<◌, ◌≤◌, Bool, true, false, List, [], ◌∷◌, map, set, refl, ap, inl, inr, ⊎_elim, arith}
use Rattle.std.specs.Prelude.{◌&&◌, nat_le, max, All, sum_by}
use Rattle.std.proofs.Math.Nat.{le-max_left, max-le}
use Rattle.std.proofs.lemmas.List.Elements.{All-head, All-tail}
use Rattle.std.proofs.lemmas.List.Sums.{sum_by-le-sum_by}
use Rattle.std.proofs.lemmas.Bool.{leb-true, le-leb}
use mathlib.Core.Logic.{dite}
use native.Mathlib.Decide.{dec_le}
use mathlib.Core.Option.{some}
use lib.ListN.{get_elem?}
use Rattle.pool_law.specs.declared.id.RootId.{RootId}
use Rattle.pool_law.specs.declared.note.Did.{Did}
use Rattle.pool_law.specs.declared.note.Did.TheVariants.{Birth, Extend, Grow}
use Rattle.pool_law.specs.Same.{same_root}
use Rattle.pool_law.specs.Counts.{root_is}
use Rattle.pool_law.specs.Capacities.{reach_of, told_by, known_of}
use Rattle.history_laws.specs.NoteCounts.{one_if_so}
use Rattle.pool_table.specs.declared.views.Entry.{Entry}
use Rattle.pool_table.specs.declared.views.Entry.TheVariants.{At, Ref, Busy}
use Rattle.pool_table.specs.declared.views.Letter.{Letter}
use Rattle.pool_table.specs.declared.views.Part.{Part}
use Rattle.pool_table.specs.declared.views.SeatView.{SeatView}
use Rattle.pool_table.specs.LaneLogs.{law_entry}
use Rattle.pool_table.specs.Views.{parts_of}
use Rattle.pool_table.specs.Counts.{weigh}
use Rattle.pool_table.specs.Letters.{fetch_of}
use Rattle.pool_table.specs.Capacities.{gives, at_gift, WasGiven, told_in, TellsGiven, AreKnown}
use Rattle.pool_table.proofs.Order.{longer, HasNone}
use Rattle.pool_table.proofs.Lasting.{Grows, entry_grows, told_same, told_entry, told_regroups, told_opens}

lasts : (views after : List SeatView) → Grows views after → (e : Entry) → TellsGiven views e → TellsGiven after e
lasts views after grows e tells r some_told =
    let a = grows (at_gift r (told_in r e)) in let b = tells r some_told in omega (arith, a, b)

-- a view with the same parts
pub known_same : (views : List SeatView) (id : ℕ) (v w : SeatView) → get_elem? views id ≡ some v
    → parts_of w ≡ parts_of v → AreKnown views → AreKnown (set views id w)
known_same views id v w at same all = told_same TellsGiven lasts views id v w at same all

-- a view whose own part has one entry more
pub known_entry : (views : List SeatView) (id : ℕ) (v w : SeatView) (e : Entry) → get_elem? views id ≡ some v
    → parts_of w ≡ longer v.own e ∷ v.others → TellsGiven (set views id w) e → AreKnown views
    → AreKnown (set views id w)
known_entry views id v w e at longer_by tells all = told_entry TellsGiven lasts views id v w e at longer_by tells all

-- the same, where as much was given before
pub known_more : (views : List SeatView) (id : ℕ) (v w : SeatView) (e : Entry) → get_elem? views id ≡ some v
    → parts_of w ≡ longer v.own e ∷ v.others → TellsGiven views e → AreKnown views → AreKnown (set views id w)
known_more views id v w e at longer_by tells all =
    known_entry views id v w e at longer_by
    (lasts views (set views id w) (entry_grows views id v w e at longer_by) e tells) all

-- views among which the parts are put anew, with parts without notes
pub known_regroups : (views after : List SeatView) → ((f : Entry → ℕ) → sum_by (weigh f) after ≡ sum_by (weigh f) views)
    →
    ((P : Part → Type 0) → ((q : Part) → q.notes ≡ [] → P q) → All (λ (u : SeatView). All P (parts_of u)) views
    → All (λ (u : SeatView). All P (parts_of u)) after) →
    AreKnown views → AreKnown after
known_regroups views after same regroups all = told_regroups TellsGiven lasts views after same regroups all

pub known_opens : (v : SeatView) → HasNone v → AreKnown (v ∷ [])
known_opens v none_of = told_opens TellsGiven lasts v none_of

-- ---- What was given.

one_of : (b : Bool) → b ≡ true → one_if_so b ≡ 1
one_of b is = ap one_if_so is

-- who got as much got less
pub given_less : (views : List SeatView) (r : RootId) (c d : ℕ) → d ≤ c → WasGiven views r c → WasGiven views r d
given_less views r c d le given =
    let a = sum_by-le-sum_by (weigh (at_gift r c)) (weigh (at_gift r d)) views
    (λ v. sum_by-le-sum_by (λ (q : Part). sum_by (at_gift r c) q.notes) (λ (q : Part). sum_by (at_gift r d) q.notes)
    (parts_of v) (λ q. sum_by-le-sum_by (at_gift r c) (at_gift r d) q.notes (gift_less r c d le))) in
    omega (arith, a, given)
  where
    both : (a : Bool) (n c d : ℕ) → d ≤ c → one_if_so (a && nat_le c n) ≤ one_if_so (a && nat_le d n)
    both false n c d le = omega arith
    both true n c d le = by (nat_le c n) refl
      where
        by : (b : Bool) → nat_le c n ≡ b → one_if_so b ≤ one_if_so (nat_le d n)
        by false is = omega arith
        by true is =
            let low = leb-true c n is in let e = one_of (nat_le d n) (le-leb d n (omega (arith, low, le))) in
            omega (arith, e)

    gift_less : (r : RootId) (c d : ℕ) → d ≤ c → (e : Entry) → at_gift r c e ≤ at_gift r d e
    gift_less r c d le (At o k n) = by n.did
      where
        by : (did : Did) → one_if_so (gives r c n.root did) ≤ one_if_so (gives r d n.root did)
        by (Birth q x) = both (same_root q r) q.capacity c d le
        by (Extend size) = both (root_is r n.root) size c d le
        by (Grow size x) = both (root_is r n.root) size c d le
        by did = omega arith
    gift_less r c d le (Ref q did) = omega arith
    gift_less r c d le (Busy b) = omega arith

-- a number up to the greater of two is up to one of them
pub below_max : (a b c : ℕ) → c ≤ max a b → (c ≤ a) ⊎ (c ≤ b)
below_max a b c le = dite (dec_le c a)
    (λ low. inl low)
    (λ high. dite (dec_le c b)
    (λ low. inr low)
    (λ past. let m : ℕ = max a b in let low : a ≤ c - 1 = omega (arith, high) in let other : b ≤ c - 1 =
    omega (arith, past) in
    let most : m ≤ c - 1 = max-le low other in let le' : c ≤ m = le in
    absurd (omega (arith, high, le', most))))

-- what an entry tells its lane it tells
lane_told : (r : RootId) (e : Entry) → told_by r (law_entry e).root (law_entry e).note ≤ told_in r e
lane_told r (At o k n) = le-max_left _ _
lane_told r (Ref q d) = omega arith
lane_told r (Busy b) = omega arith

-- what entries tell was given, up to all that is known by them
pub known_given : (views : List SeatView) (r : RootId) (es : List Entry) → All (TellsGiven views) es → (c : ℕ) → 0 < c
    → c ≤ known_of r (map law_entry es) → WasGiven views r c
known_given views r [] all c pos le = absurd (omega (arith, pos, le))
known_given views r (e ∷ es) all c pos le =
    let one : ℕ = told_by r (law_entry e).root (law_entry e).note in ⊎_elim
    (λ (low : c ≤ one). let up = lane_told r e in
    let t = All-head (TellsGiven views) e es all r (omega (arith, low, up, pos)) in
    given_less views r (told_in r e) c (omega (arith, low, up)) t)
    (λ (low : c ≤ known_of r (map law_entry es)). known_given views r es (All-tail (TellsGiven views) e es all) c pos
    low)
    (below_max one (known_of r (map law_entry es)) c le)

-- a fetch tells what the view in its letter reaches up to
pub fetch_tells : (views : List SeatView) (x : Letter)
    → ((r : RootId) → 0 < reach_of r x.parcel.view → WasGiven views r (reach_of r x.parcel.view))
    → TellsGiven views (fetch_of x)
fetch_tells views x reaches r lt =
    let c : ℕ = reach_of r x.parcel.view in let m : ℕ = max c 0 in
    let whole : c ≤ c = omega arith in let none : 0 ≤ c = omega arith in
    let most : m ≤ c = max-le whole none in let lt' : 0 < m = lt in
    given_less views r c m most (reaches r (omega (arith, most, lt')))
