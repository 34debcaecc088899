-- Where each seat counts nothing, and each parcel that was posted was fetched, no root is live at the close.
use Rattle.std.proofs.Common.{◌≡◌, ℕ, zero, suc, ◌+◌, ◌<◌, Bool, true, List, [], ◌∷◌, ◌++◌, length, map, refl, ap, ◌∙◌, subst, arith, Some, None, inl, inr, eqb-true, length-append}
use Rattle.std.specs.Prelude.{◌==◌, if◌then◌else◌, not, Option, slice_get}
use Rattle.std.specs.List.{list_all}
use Rattle.std.proofs.lemmas.Bool.{cases_lt}
use Rattle.std.proofs.lemmas.List.{drop_all}
use Rattle.std.proofs.lemmas.Option.{get_or_from_slice_get, slice_get_within}
use Rattle.size_classes.specs.Sizes.{below}
use Rattle.pool_law.specs.declared.id.RootId.{RootId}
use Rattle.pool_law.specs.declared.id.Parcel.{Parcel}
use Rattle.pool_law.specs.declared.id.ViewData.{ViewData}
use Rattle.pool_law.specs.declared.note.Did.{Did}
use Rattle.pool_law.specs.declared.note.Did.TheVariants.{Post, Fetch}
use Rattle.pool_law.specs.declared.note.Note.{Note}
use Rattle.pool_law.specs.declared.note.Object.{Object}
use Rattle.pool_law.specs.declared.note.Object.TheVariants.{Mail}
use Rattle.pool_law.specs.declared.run.Shape.{Shape}
use Rattle.pool_law.specs.Counts.{TotalHolds, count_in, count_over, is_born, is_release, is_retain, total_of, view_is_of}
use Rattle.pool_law.specs.Kinds.{passing}
use Rattle.pool_law.specs.Logs.{Logs, entries_of, note_stands, of_lane}
use Rattle.pool_law.specs.Mails.{fetched, gone, posted}
use Rattle.pool_law.specs.Same.{same_object, same_root}
use Rattle.pool_law.proofs.PatternLemmas.{same_object-refl}
use Rattle.pool_law.proofs.HistoryLemmas.{log-past}
use Rattle.history_laws.specs.NoteCounts.{did_fetch_of, did_post_of, view_of_root}
use Rattle.pool_table.specs.declared.views.Entry.{Entry}
use Rattle.pool_table.specs.declared.views.Entry.TheVariants.{At, Ref, Busy}
use Rattle.pool_table.specs.Counts.{fetches, on_this, posts, ref_gain, ref_loss}
use Rattle.run_laws.specs.CountLaw.{is_fetched, is_posted}
use Rattle.run_laws.specs.Parcels.{PostsWithin, parcels_of, sum_up, unfetched, unfetched_of}
use Rattle.run_laws.proofs.ParcelLaw.{posted-left}
use Rattle.run_laws.proofs.Placed.{all-at}
use Rattle.shared_pool.specs.declared.pool.SharedPool.{SharedPool}
use Rattle.shared_pool.specs.declared.seat.PoolSeat.{PoolSeat}
use Rattle.shared_pool.specs.Closing.{AreWhole, entries_in, entry_of, logs_in}
use Rattle.shared_pool.specs.Seated.{AreDone, parts_in}
use Rattle.shared_pool.specs.SeatViews.{view_of}
use Rattle.seat_work.proofs.NotedCounts.{counted, gains, losses, one, same_one}
use Rattle.seat_work.proofs.Grown.{weigh_own}
use Rattle.frame_hash.specs.Takes.{CountsNone}
use Rattle.frame_cut.specs.Closed.{AllFetched, AreSpent, NoneIsLive}
use Rattle.frame_cut.proofs.SeatLogs.{notes_of}

-- ---- One entry.

view_one : (r : RootId) (v : Option ViewData) → one (view_is_of r v) ≡ view_of_root r v
view_one r None = refl
view_one r (Some v) = same_one (same_root v.root r)

fetch_did : (r : RootId) (o : Object) (k : ℕ) (d : Did) → one (is_fetched r (Note.At o k d)) ≡ did_fetch_of r d
fetch_did r o k (Fetch q) = view_one r q.view
fetch_did r o k _ = refl

post_did : (r : RootId) (o : Object) (k : ℕ) (d : Did) → one (is_posted r (Note.At o k d)) ≡ did_post_of r d
post_did r o k (Post q) = view_one r q.view
post_did r o k _ = refl

fetch_entry : (r : RootId) (e : Entry) → one (is_fetched r (entry_of e).note) ≡ fetches r e
fetch_entry r (At o k n) = fetch_did r o k n.did
fetch_entry r (Ref q did) = refl
fetch_entry r (Busy b) = refl

post_entry : (r : RootId) (e : Entry) → one (is_posted r (entry_of e).note) ≡ posts r e
post_entry r (At o k n) = post_did r o k n.did
post_entry r (Ref q did) = refl
post_entry r (Busy b) = refl

-- ---- One seat.

-- it gained what it lost
abbrev IsEven : RootId → PoolSeat → Type 0
IsEven r s =
    let es = map entry_of (notes_of s) in
    count_in (is_born r) es + count_in (is_retain r) es + count_in (is_fetched r) es
    ≡ count_in (is_release r) es + count_in (is_posted r) es

even : (s : PoolSeat) → (view_of s).others ≡ [] → CountsNone (view_of s) → (r : RootId) → IsEven r s
even s alone none r =
    let v = view_of s in
    let a = gains r v.own.notes in
    let b = losses r v.own.notes in
    let c = counted (is_fetched r) (fetches r) (fetch_entry r) v.own.notes in
    let d = counted (is_posted r) (posts r) (post_entry r) v.own.notes in
    let e = weigh_own (on_this ref_gain r) v alone in let f = weigh_own (on_this ref_loss r) v alone in
    let g = weigh_own (fetches r) v alone in let h = weigh_own (posts r) v alone in
    let k = none r in
    omega (arith, a, b, c, d, e, f, g, h, k)

-- ---- All seats.

all_even : (r : RootId) (seats : List PoolSeat)
    → ((k : ℕ) (s : PoolSeat) → slice_get seats k ≡ Some s → IsEven r s)
    → count_over (is_born r) (entries_in (parts_in seats)) + count_over (is_retain r) (entries_in (parts_in seats))
    + count_over (is_fetched r) (entries_in (parts_in seats))
    ≡ count_over (is_release r) (entries_in (parts_in seats)) + count_over (is_posted r) (entries_in (parts_in seats))
all_even r [] each = omega arith
all_even r (s ∷ seats) each =
    let a = each 0 s refl in let b = all_even r seats (λ k t e. each (suc k) t e) in omega (arith, a, b)

-- ---- All mails.

-- a post is among those of its mail
posted_some : (mail : Object) (log : List Note) (at number : ℕ) (parcel : Parcel)
    → slice_get log at ≡ Some (Note.At mail number (Post parcel)) → 0 < length (posted mail log)
posted_some mail [] at number parcel e = absurd (cc e)
posted_some mail (x ∷ log) zero number parcel e =
    let same : x ≡ Note.At mail number (Post parcel) = cc e in
    let long : length (posted mail (x ∷ log)) ≡ 1 + length (posted mail log) =
    ap (λ y. length (posted mail (y ∷ log))) same
    ∙ ap (λ (b : Bool). length ((if b then (number, parcel) ∷ [] else []) ++ posted mail log)) (same_object-refl mail)
    ∙ (let one_more : suc (length (posted mail log)) ≡ 1 + length (posted mail log) = omega arith in one_more) in
    omega (arith, long)
posted_some mail (Note.At o k d ∷ log) (suc at) number parcel e =
    let rest = posted_some mail log at number parcel e in
    let long = length-append (if same_object mail o then gone k (passing d) else []) (posted mail log) in
    omega (arith, rest, long)
posted_some mail (Note.Ref root did ∷ log) (suc at) number parcel e = posted_some mail log at number parcel e
posted_some mail (Note.Busy held ∷ log) (suc at) number parcel e = posted_some mail log at number parcel e

sum_up-none : (ks : List ℕ) (f : ℕ → ℕ) → ((k : ℕ) → f k ≡ 0) → sum_up ks f ≡ 0
sum_up-none [] f none = refl
sum_up-none (k ∷ ks) f none = let a = none k in let b = sum_up-none ks f none in omega (arith, a, b)

module _ (logs : Logs) (all : AllFetched logs) where
  none_left : (root : RootId) (n : ℕ) → unfetched logs root n ≡ 0
  none_left root n =
      sum_up-none (below n) (λ from. sum_up (below n) (λ to. unfetched_of logs root from to)) (λ from.
      sum_up-none (below n) (λ to. unfetched_of logs root from to) (λ to.
      (let a = all from to in ap (parcels_of root)
      (drop_all (length (fetched (Mail from to) (of_lane logs to))) (posted (Mail from to) (of_lane logs from))
      (omega (arith, a))))))

  within : (shape : Shape) → ((lane : ℕ) → list_all (note_stands shape lane) (of_lane logs lane) ≡ true)
      → PostsWithin logs (length logs)
  within shape stand from to parcel done =
      let sender : (done.lane == from) ≡ true = all-at (note_stands shape done.lane) (of_lane logs done.lane) done.at
      (Note.At (Mail from to) done.number (Post parcel)) (stand done.lane) done.stands in
      let same : done.lane ≡ from = eqb-true done.lane from sender in
      let some : 0 < length (posted (Mail from to) (of_lane logs from)) =
      subst (λ l. 0 < length (posted (Mail from to) (of_lane logs l))) same
      (posted_some (Mail from to) (of_lane logs done.lane) done.at done.number parcel done.stands) in
      elim (cases_lt to (length logs)) [
        | inl inside ↦ inside
        | inr beyond ↦
            (let none = ap (λ l. length (fetched (Mail from to) l)) (log-past logs to beyond) in
            let a = all from to in absurd (omega (arith, some, none, a)))
      ]

-- a seat that is done has one part
pub done_alone : (pool : SharedPool) (seats : List PoolSeat) → AreDone pool seats → (k : ℕ) (s : PoolSeat)
    → slice_get seats k ≡ Some s → (view_of s).others ≡ []
done_alone pool seats done k s e =
    let inside = slice_get_within seats k s e in
    let many = done.many in
    subst (λ (x : PoolSeat). (view_of x).others ≡ []) (get_or_from_slice_get seats k s s e)
    (done.each k (omega (arith, inside, many)) s).seat.alone

module _ (shape : Shape) (seats : List PoolSeat) (whole : AreWhole shape (parts_in seats))
    (alone : (k : ℕ) (s : PoolSeat) → slice_get seats k ≡ Some s → (view_of s).others ≡ [])
    (spent : AreSpent seats) where
  pub none_live : NoneIsLive (parts_in seats)
  none_live root born =
      let logs = logs_in (parts_in seats) in
      let total : TotalHolds root (entries_in (parts_in seats)) = whole.totals root born in
      let evens = all_even root seats (λ k s e. even s (alone k s e) (spent.counts k s e) root) in
      let left : count_over (is_posted root) (entries_of logs)
      ≡ count_over (is_fetched root) (entries_of logs) + unfetched logs root (length logs) =
      posted-left shape logs whole.histories.stand whole.histories.mails root (length logs) (omega arith)
      (within logs spent.fetched shape whole.histories.stand) in
      let none = none_left logs spent.fetched root (length logs) in
      let posted_is = ap (count_over (is_posted root)) whole.entries in
      let fetched_is = ap (count_over (is_fetched root)) whole.entries in
      let zero_in : total_of root (entries_in (parts_in seats)) ≡ 0 =
      (let b = total.born_once in omega (arith, b, evens, left, none, posted_is, fetched_is)) in
      let zero_is : total_of root (entries_of logs) ≡ 0 = ap (total_of root) whole.entries ∙ zero_in in
      ap (λ (n : ℕ). not (n == 0)) zero_is
