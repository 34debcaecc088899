-- The counts of a log are those of its seat.
use Rattle.std.proofs.Common.{◌≡◌, ℕ, ◌+◌, ◌-◌, ◌<◌, ◌≤◌, List, [], ◌∷◌, ◌++◌, Bool, true, false, cond, length, map, refl, sym, ap, ◌∙◌, subst, arith, Option, Some, None, ⊎_elim}
use Rattle.std.specs.Prelude.{sum_by, ◌⊎◌, ◌&&◌, ◌||◌, if◌then◌else◌}
use Rattle.std.proofs.lemmas.List.{map-append}
use Rattle.std.proofs.lemmas.List.Sums.{sum_by-cons}
use Rattle.std.proofs.lemmas.Bool.{cases_lt, or_left}
use Rattle.pool_law.specs.declared.id.RootId.{RootId}
use Rattle.pool_law.specs.declared.id.ViewData.{ViewData}
use Rattle.pool_law.specs.declared.note.Did.{Did}
use Rattle.pool_law.specs.declared.note.Did.TheVariants.{Post, Fetch}
use Rattle.pool_law.specs.declared.note.Note.{Note}
use Rattle.pool_law.specs.declared.note.Object.{Object}
use Rattle.pool_law.specs.declared.note.RefDid.{RefDid}
use Rattle.pool_law.specs.declared.note.RefDid.TheVariants.{Born, Retain, Kept, Ended, Vacated, Look}
use Rattle.pool_law.specs.Counts.{view_is_of, root_is, ref_gains, ref_loses, ref_needs, note_gains, note_loses, note_needs, needs_count, count_step, count_from, count_of, CountsHold}
use Rattle.pool_law.specs.Readers.{ToldNotes}
use Rattle.pool_law.specs.Logs.{ToldNote}
use Rattle.pool_law.specs.Same.{same_root}
use Rattle.pool_law.proofs.PatternLemmas.{same_root-refl}
use Rattle.history_laws.specs.NoteCounts.{one_if_so, view_of_root, did_fetch_of, did_post_of}
use Rattle.pool_table.specs.declared.views.Entry.{Entry}
use Rattle.pool_table.specs.declared.views.Entry.TheVariants.{At, Ref, Busy}
use Rattle.pool_table.specs.declared.views.SeatView.{SeatView}
use Rattle.pool_table.specs.Counts.{on_this, ref_gain, ref_loss, fetches, posts, gained_of, lost_of, HasCount, CountsOne}
use Rattle.shared_pool.specs.Closing.{entry_of}
use Rattle.lane_stages.specs.declared.counts.Counted.{Counted}
use Rattle.seat_work.specs.Changes.{one_for}
use Rattle.lane_stages.specs.Counting.{counted, CountsAre, AddCounts}
use Rattle.seat_work.proofs.Grown.{weigh_own, Grows, weigh_more}
use Rattle.lane_stages.proofs.EntryCounts.{counts_append, holds_append, Recounts, IsStill, unmoved}

-- ---- The counts of the log are those of the seat.

one_up : (b : Bool) (k : ℕ) → one_if_so b + k ≡ (if b then k + 1 else k)
one_up true k = omega arith
one_up false k = omega arith

fetch_step : (root : RootId) (w : Option ViewData) (k : ℕ)
    → view_of_root root w + k ≡ 0 + (if view_is_of root w then k + 1 else k)
fetch_step root None k = omega arith
fetch_step root (Some v) k = let a = one_up (same_root v.root root) k in omega (arith, a)

one_down : (b : Bool) (k : ℕ) → (b ≡ true → 0 < k) → 0 + k ≡ one_if_so b + (if b then k - 1 else k)
one_down true k h = let p = h refl in omega (arith, p)
one_down false k h = omega arith

post_step : (root : RootId) (w : Option ViewData) (k : ℕ) → (view_is_of root w ≡ true → 0 < k)
    → 0 + k ≡ view_of_root root w + (if view_is_of root w then k - 1 else k)
post_step root None k h = omega arith
post_step root (Some v) k h = one_down (same_root v.root root) k h

did_step : (root : RootId) (k : ℕ) (o : Object) (n : ℕ) (did : Did) → (note_needs root (Note.At o n did) ≡ true → 0 < k)
    →
    did_fetch_of root did + k ≡ did_post_of root did
    + (if note_gains root (Note.At o n did) then k + 1 else if note_loses root (Note.At o n did) then k - 1 else k)
did_step root k o n (Fetch parcel) h = fetch_step root parcel.view k
did_step root k o n (Post parcel) h = post_step root parcel.view k h
did_step root k o n _ h = omega arith

ref_step : (b : Bool) (d : RefDid) (k : ℕ) → ((b && ref_needs d) ≡ true → 0 < k) →
    cond {A = ℕ} b (ref_gain d) 0 + k ≡ cond {A = ℕ} b (ref_loss d) 0
    + (if b && ref_gains d then k + 1 else if b && ref_loses d then k - 1 else k)
ref_step false d k h = omega arith
ref_step true Born k h = omega arith
ref_step true Retain k h = omega arith
ref_step true Kept k h = let p = h refl in omega (arith, p)
ref_step true Ended k h = let p = h refl in omega (arith, p)
ref_step true Vacated k h = omega arith
ref_step true (Look j) k h = omega arith

entry_step : (root : RootId) (k : ℕ) (e : Entry) → (needs_count root (entry_of e) ≡ true → 0 < k) →
    (on_this ref_gain root e + fetches root e) + k
    ≡ (on_this ref_loss root e + posts root e) + count_step root k (entry_of e)
entry_step root k (At o n x) h =
    let a = did_step root k o n x.did
    (λ y. h (or_left (note_needs root (Note.At o n x.did)) (root_is root x.root) y)) in
    omega (arith, a)
entry_step root k (Ref r d) h =
    let a = ref_step (same_root r root) d k (λ y. h (or_left (same_root r root && ref_needs d) false y)) in
    omega (arith, a)
entry_step root k (Busy b) h = omega arith

weighs : (root : RootId) (k : ℕ) (es : List Entry) → CountsHold root k (map entry_of es) →
    (sum_by (on_this ref_gain root) es + sum_by (fetches root) es) + k
    ≡ (sum_by (on_this ref_loss root) es + sum_by (posts root) es) + count_from root k (map entry_of es)
weighs root k [] h = omega arith
weighs root k (e ∷ es) h =
    let a = entry_step root k e h.0 in let b = weighs root (count_step root k (entry_of e)) es h.1.1 in
    let f = sum_by-cons (on_this ref_gain root) e es in let g = sum_by-cons (fetches root) e es in
    let l = sum_by-cons (on_this ref_loss root) e es in let m = sum_by-cons (posts root) e es in
    omega (arith, a, b, f, g, l, m)

module _ (cs : List Counted) (v : SeatView) (alone : v.others ≡ []) (are : CountsAre cs (map entry_of v.own.notes))
    (root : RootId) where
  pub own_count : gained_of root v ≡ lost_of root v + counted cs root
  own_count =
      let a = weighs root 0 v.own.notes (are.holds root) in let b = are.counts root in
      let f = weigh_own (on_this ref_gain root) v alone in let g = weigh_own (fetches root) v alone in
      let l = weigh_own (on_this ref_loss root) v alone in let m = weigh_own (posts root) v alone in
      omega (arith, a, b, f, g, l, m)

  pub has_count : 0 < counted cs root → HasCount root v
  has_count lt = let a = own_count in omega (arith, a, lt)

  pub is_counted : HasCount root v → 0 < counted cs root
  is_counted has = let a = own_count in omega (arith, a, has)

-- a root stays counted where no entry takes a count of it away
pub stays_counted : (v w : SeatView) (added : List Entry) (spent : ℕ) → Grows v w added spent → (root : RootId)
    → sum_by (on_this ref_loss root) added ≡ 0 → sum_by (posts root) added ≡ 0 → HasCount root v → HasCount root w
stays_counted v w added spent grows root a b has =
    let f = weigh_more v w added spent grows (on_this ref_gain root) in let g =
    weigh_more v w added spent grows (fetches root) in
    let l = weigh_more v w added spent grows (on_this ref_loss root) in let m =
    weigh_more v w added spent grows (posts root) in
    omega (arith, f, g, l, m, a, b, has)

-- a count is no more than there are entries
step_few : (a b : Bool) (k : ℕ) → (if a then k + 1 else if b then k - 1 else k) ≤ k + 1
step_few true b k = omega arith
step_few false true k = omega arith
step_few false false k = omega arith

count_few : (root : RootId) (k : ℕ) (es : ToldNotes) → count_from root k es ≤ k + length es
count_few root k [] = omega arith
count_few root k (e ∷ es) =
    let a = step_few (note_gains root e.note) (note_loses root e.note) k in let b =
    count_few root (count_step root k e) es in
    omega (arith, a, b)

pub few_counted : (cs : List Counted) (es : ToldNotes) → CountsAre cs es → (root : RootId) → counted cs root ≤ length es
few_counted cs es are root = let a = are.counts root in let b = count_few root 0 es in omega (arith, a, b)

-- the release that ended a root took the seat's last count of it away
pub last_count : (cs : List Counted) (v w : SeatView) (r : RootId) (spent : ℕ) → CountsAre cs (map entry_of v.own.notes)
    → v.others ≡ [] → Grows v w (Ref r Ended ∷ []) spent → (HasCount r w → ⊥) → counted cs r ≤ 1
last_count cs v w r spent are alone grows uncounted =
    let a = own_count cs v alone are r in
    let f = weigh_more v w (Ref r Ended ∷ []) spent grows (on_this ref_gain r) in let g =
    weigh_more v w (Ref r Ended ∷ []) spent grows (fetches r) in
    let l = weigh_more v w (Ref r Ended ∷ []) spent grows (on_this ref_loss r) in let m =
    weigh_more v w (Ref r Ended ∷ []) spent grows (posts r) in
    let gain : on_this ref_gain r (Ref r Ended) ≡ 0 = ap (λ (b : Bool). cond {A = ℕ} b 0 0) (same_root-refl r) in
    let loss : on_this ref_loss r (Ref r Ended) ≡ 1 = ap (λ (b : Bool). cond {A = ℕ} b 1 0) (same_root-refl r) in
    ⊎_elim (λ (lt : 1 < counted cs r). absurd (uncounted (omega (arith, a, f, g, l, m, gain, loss, lt))))
    (λ (le : counted cs r ≤ 1). le) (cases_lt 1 (counted cs r))

-- ---- ToldNotes that add to the counts.

pub none_added : AddCounts (λ root. 0) []
none_added = record { adds = λ root k. omega arith; holds = λ root k. tt }

-- an entry that is of no count, and knows no root
pub still_added : (e : ToldNote) → IsStill e.note → e.root ≡ None → AddCounts (λ root. 0) (e ∷ [])
still_added e is none = record {
  adds = λ root k. (λ i. if is.gains root i then k + 1 else if is.loses root i then k - 1 else k) ∙ omega arith;
  holds = λ root k. (
    λ needs. absurd (cc ((λ i. sym (is.needs root) i || root_is root (sym none i)) ∙ needs)),
    (λ ends. absurd (cc (sym (is.ends root) ∙ ends)), tt),
  );
}

not_needed : (b : Bool) → ((b && false) || false) ≡ true → ⊥
not_needed true e = cc e
not_needed false e = cc e

born_up : (b : Bool) (k : ℕ) → (if b && true then k + 1 else if b && false then k - 1 else k) ≡ k + (if b then 1 else 0)
born_up true k = refl
born_up false k = omega arith

-- the note of a birth, and the step that sets the word of the root
pub born_added : (e : ToldNote) (r : RootId) → IsStill e.note → e.root ≡ None
    → AddCounts (one_for r) (e ∷ entry_of (Ref r Born) ∷ [])
born_added e r is none =
    let first = still_added e is none in
    let step : (root : RootId) (k : ℕ) → count_step root k e
    ≡ k = (λ root k. (let a = first.adds root k in omega (arith, a))) in
    record {
      adds =
          λ root k. ap (λ (j : ℕ). count_step root j (entry_of (Ref r Born))) (step root k)
          ∙ born_up (same_root r root) k;
      holds =
          λ root k. (
            (first.holds root k).0,
            (
              (first.holds root k).1.0,
              (
                λ needs. absurd (not_needed (same_root r root) needs),
                (λ ends. absurd (cc ends), tt),
              ),
            ),
          );
    }

vacated_up : (b : Bool) (k : ℕ) → (if b && false then k + 1 else if b && false then k - 1 else k) ≡ k + 0
vacated_up b k = unmoved b k ∙ omega arith

-- the note of an end, and the step that vacates the place of the root
pub vacated_added : (e : ToldNote) (r : RootId) → IsStill e.note → e.root ≡ None
    → AddCounts (λ root. 0) (e ∷ entry_of (Ref r Vacated) ∷ [])
vacated_added e r is none =
    let first = still_added e is none in
    let step : (root : RootId) (k : ℕ) → count_step root k e
    ≡ k = (λ root k. (let a = first.adds root k in omega (arith, a))) in
    record {
      adds =
          λ root k. ap (λ (j : ℕ). count_step root j (entry_of (Ref r Vacated))) (step root k)
          ∙ vacated_up (same_root r root) k;
      holds =
          λ root k. (
            (first.holds root k).0,
            (
              (first.holds root k).1.0,
              (
                λ needs. absurd (not_needed (same_root r root) needs),
                (λ ends. absurd (cc ends), tt),
              ),
            ),
          );
    }

pub adds_recounted : (cs ds : List Counted) (es : ToldNotes) (more : RootId → ℕ) → AddCounts more es
    → ((root : RootId) → counted ds root ≡ counted cs root + more root) → Recounts cs ds es
adds_recounted cs ds es more added is =
    record {
      counts = λ root. added.adds root (counted cs root)
          ∙ sym (is root);
      holds = λ root. added.holds root (counted cs root);
    }

pub own_gain : (v : SeatView) → v.others ≡ [] → (root : RootId) → CountsHold root 0 (map entry_of v.own.notes)
    → gained_of root v ≡ lost_of root v + count_of root (map entry_of v.own.notes)
own_gain v alone root holds =
    let a = weighs root 0 v.own.notes holds in
    let f = weigh_own (on_this ref_gain root) v alone in let g = weigh_own (fetches root) v alone in
    let l = weigh_own (on_this ref_loss root) v alone in let m = weigh_own (posts root) v alone in
    omega (arith, a, f, g, l, m)

-- of the place of a root that these entries add no other root is counted
pub alone_added : (cs : List Counted) (v w : SeatView) (added : List Entry) (more : RootId → ℕ)
    → CountsAre cs (map entry_of v.own.notes) → w.others ≡ [] → w.own.notes ≡ v.own.notes ++ added
    → AddCounts more (map entry_of added) → CountsOne w →
    (r : RootId) → 0 < more r → (other : RootId) → other.place ≡ r.place → 0 < counted cs other → other ≡ r
alone_added cs v w added more are alone notes adds one r lt other at counts =
    one.one other r (has other (omega (arith, counts))) (has r (omega (arith, lt))) at
  where
    split : map entry_of w.own.notes ≡ map entry_of v.own.notes ++ map entry_of added
    split = ap (map entry_of) notes ∙ map-append entry_of v.own.notes added

    has : (q : RootId) → 0 < counted cs q + more q → HasCount q w
    has q some =
        let es : ToldNotes = map entry_of v.own.notes in
        let holds : CountsHold q 0 (map entry_of w.own.notes) =
        subst (CountsHold q 0) (sym split)
        (holds_append q 0 es (map entry_of added) (are.holds q) (adds.holds q (count_of q es))) in
        let a = own_gain w alone q holds in
        let b : count_of q (map entry_of w.own.notes) ≡ counted cs q + more q = ap (count_of q) split
        ∙ counts_append q 0 es (map entry_of added) ∙ adds.adds q (count_of q es)
        ∙ ap (λ (k : ℕ). k + more q) (are.counts q) in
        omega (arith, a, b, some)
