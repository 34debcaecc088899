-- Where no seat counts a root, none is live at the close.
use Rattle.std.proofs.Common.{◌≡◌, ℕ, zero, suc, ◌+◌, ◌<◌, ◌≤◌, true, false, ◌==◌, List, [], ◌∷◌, map, refl, sym, ap, ◌∙◌, arith, Some}
use Rattle.std.specs.Prelude.{All, not, slice_get}
use Rattle.pool_law.specs.declared.id.RootId.{RootId}
use Rattle.pool_law.specs.declared.note.Did.{Did}
use Rattle.pool_law.specs.declared.note.Note.{Note}
use Rattle.pool_law.specs.declared.note.Object.{Object}
use Rattle.pool_law.specs.declared.report.Watch.{Watch}
use Rattle.pool_law.specs.declared.run.Shape.{Shape}
use Rattle.pool_law.specs.Counts.{TotalHolds, count_in, count_over, is_birth, is_born, is_release, is_retain, total_of}
use Rattle.pool_law.specs.Leaks.{is_live}
use Rattle.pool_law.specs.Logs.{entries_of, of_lane}
use Rattle.pool_law.proofs.PatternLemmas.{same_root-refl}
use Rattle.leak_records.specs.declared.live.LiveRoot.{LiveRoot}
use Rattle.pool_table.specs.declared.views.Entry.{Entry as SeatEntry}
use Rattle.pool_table.specs.declared.views.Entry.TheVariants.{At}
use Rattle.pool_table.specs.declared.views.Part.{Part}
use Rattle.pool_table.specs.Counts.{on_this, posts, ref_gain, ref_loss}
use Rattle.shared_pool.specs.declared.seat.PoolSeat.{PoolSeat}
use Rattle.shared_pool.specs.declared.pool.SharedPool.{SharedPool}
use Rattle.shared_pool.specs.Closing.{AreWhole, entries_in, entry_of, logs_in}
use Rattle.shared_pool.specs.Live.{AreLiveRoots, IsLive, live_of}
use Rattle.shared_pool.specs.Seated.{parts_in}
use Rattle.shared_pool.specs.SeatViews.{view_of}
use Rattle.seat_work.proofs.NotedCounts.{gains, losses, one}
use Rattle.seat_work.proofs.Grown.{weigh_own}
use Rattle.share_run.specs.Standing.{AreSpent, IsSpent}

-- ---- One seat.

-- it released what it bore and retained
abbrev IsEven : RootId → PoolSeat → Type 0
IsEven r s =
    let es = map entry_of (view_of s).own.notes in
    count_in (is_born r) es + count_in (is_retain r) es ≤ count_in (is_release r) es

even : (pool : SharedPool) (lane : ℕ) (s : PoolSeat) → IsSpent pool lane s → (r : RootId) → IsEven r s
even pool lane s is r =
    let v = view_of s in let alone = is.done.seat.alone in
    let a = gains r v.own.notes in let b = losses r v.own.notes in
    let c = weigh_own (on_this ref_gain r) v alone in let d = weigh_own (on_this ref_loss r) v alone in
    let e = weigh_own (posts r) v alone in let f = is.lane_is.unposted r in let g = is.counted r in
    omega (arith, a, b, c, d, e, f, g)

-- ---- All seats.

all_even : (r : RootId) (seats : List PoolSeat)
    → ((k : ℕ) (s : PoolSeat) → slice_get seats k ≡ Some s → IsEven r s)
    → count_over (is_born r) (entries_in (parts_in seats)) + count_over (is_retain r) (entries_in (parts_in seats))
    ≤ count_over (is_release r) (entries_in (parts_in seats))
all_even r [] each = omega arith
all_even r (s ∷ seats) each =
    let a = each 0 s refl in let b = all_even r seats (λ k t e. each (suc k) t e) in omega (arith, a, b)

-- a birth is counted
birth_in : (r : RootId) (es : List SeatEntry) (at : ℕ) (e : SeatEntry) → slice_get es at ≡ Some e
    → is_birth r (entry_of e).note ≡ true → 0 < count_in (is_birth r) (map entry_of es)
birth_in r [] at e there is = absurd (cc there)
birth_in r (x ∷ es) zero e there is =
    let same : x ≡ e = cc there in
    let a : one (is_birth r (entry_of x).note) ≡ 1 =
    ap (λ (y : SeatEntry). one (is_birth r (entry_of y).note)) same ∙ ap one is in
    omega (arith, a)
birth_in r (x ∷ es) (suc at) e there is = let a = birth_in r es at e there is in omega (arith, a)

birth_over : (r : RootId) (parts : List Part) (lane at : ℕ) (e : SeatEntry)
    → slice_get (of_lane (map (λ (p : Part). p.notes) parts) lane) at ≡ Some e
    → is_birth r (entry_of e).note ≡ true → 0 < count_over (is_birth r) (entries_in parts)
birth_over r [] lane at e there is = absurd (cc there)
birth_over r (p ∷ parts) zero at e there is = let a = birth_in r p.notes at e there is in omega (arith, a)
birth_over r (p ∷ parts) (suc lane) at e there is =
    let a = birth_over r parts lane at e there is in omega (arith, a)

module _ (pool : SharedPool) (shape : Shape) (seats : List PoolSeat) (spent : AreSpent pool seats)
    (whole : AreWhole shape (parts_in seats)) where
  abbrev parts : List Part
  parts = parts_in seats

  dead : (x : RootId × Watch) → IsLive parts x → ⊥
  dead x is =
      let r = x.0 in let w = is.watched in
      let e : SeatEntry = At (Object.Root r.place) w.number w.noted in
      let birth : is_birth r (entry_of e).note ≡ true =
      ap (λ (d : Did). is_birth r (Note.At (Object.Root r.place) w.number d)) w.birth ∙ same_root-refl r in
      let total : TotalHolds r (entries_in parts) =
      whole.totals r (birth_over r parts w.lane w.at e w.stands birth) in
      let a = all_even r seats (λ k s there. even pool k s (spent k s there) r) in
      let none : total_of r (entries_in parts) ≡ 0 = (let b = total.born_once in omega (arith, a, b)) in
      let zero_is : total_of r (entries_of (logs_in parts)) ≡ 0 = ap (total_of r) whole.entries ∙ none in
      let off : is_live (logs_in parts) r ≡ false = ap (λ (n : ℕ). not (n == 0)) zero_is in
      absurd (cc (sym off ∙ is.live))

  pub none_live : (live : List LiveRoot) → AreLiveRoots parts live → live ≡ []
  none_live live are = go are.roots are.told are.each
    where
      go : (roots : List (RootId × Watch)) → live ≡ map (λ (x : RootId × Watch). live_of parts x.0 x.1) roots
          → All (IsLive parts) roots → live ≡ []
      go [] told each = told
      go (x ∷ xs) told each = absurd (dead x (each 0 x (omega arith)))
