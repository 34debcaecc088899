-- The notes of a seat after a call, and what the counts of its root come to.
use Rattle.std.proofs.Common.{◌≡◌, ℕ, ◌+◌, ◌-◌, ◌<◌, ◌≤◌, Bool, true, false, List, [], ◌∷◌, ◌++◌, map, refl, sym, ap, ◌∙◌, subst, arith, Some, None}
use Rattle.std.specs.Prelude.{◌==◌, if◌then◌else◌, MatchBool}
use Rattle.std.proofs.lemmas.List.{map-append}
use Rattle.pool_law.specs.declared.id.RootId.{RootId}
use Rattle.pool_law.specs.declared.note.Note.{Note}
use Rattle.pool_law.specs.declared.note.Note.TheVariants.{At, Ref}
use Rattle.pool_law.specs.declared.note.Noted.{Noted}
use Rattle.pool_law.specs.declared.note.Object.{Object}
use Rattle.pool_law.specs.declared.note.RefDid.{RefDid}
use Rattle.pool_law.specs.declared.note.RefDid.TheVariants as steps
use Rattle.pool_law.specs.Naming.{noted_by}
use Rattle.pool_law.proofs.HistoryLemmas.{append-assoc}
use Rattle.pool_table.specs.declared.roots.EndToken.{EndToken}
use Rattle.shared_pool.specs.declared.seat.PoolSeat.{PoolSeat}
use Rattle.pool_table.specs.declared.views.Entry.{Entry}
use Rattle.pool_table.specs.declared.views.Entry.TheVariants as entries
use Rattle.pool_table.specs.declared.views.SeatView.{SeatView}
use Rattle.pool_table.specs.Counts.{gained_of, lost_of, with_ref, HasCount}
use Rattle.shared_pool.specs.SeatViews.{view_of, HasView}
use Rattle.shared_pool.specs.declared.pool.SharedPool.{SharedPool}
use Rattle.shared_pool.specs.Closing.{note_of}
use Rattle.shared_pool.specs.RootNotes.{IsNotedWith, HoldsToken}
use Rattle.shared_pool.specs.Seats.{IsPoolSeat, IsNoted}
use Rattle.seat_work.specs.Answers.{with_token}
use Rattle.seat_work.specs.Changes.{Change, Changes, once_more, once_less, times}
use Rattle.seat_work.specs.Hands.{empty_hand}
use Rattle.seat_work.specs.Works.{Works, Goes, Proceeds}
use Rattle.seat_work.proofs.Calls.{retained, released_kept, released_last}
use Rattle.seat_work.proofs.Counting.{one_self}
use Rattle.seat_work.proofs.Proceeding.{goes_none, proceeds_more}
use Rattle.counted_view.specs.Nests.{NestState, root_counts}
use Rattle.counted_view.specs.NestSeats.{CountsRoot, IsRetained, IsReleasedIf}
use Rattle.nest_run.specs.Standing.{log_of, dids_of, Leave, IsWhole}
use Rattle.nest_run.proofs.LogLaws.{leave_retained, leave_released, release_found}

module _ (old new : PoolSeat) where
  log_more : (es : List Entry) → (view_of new).own.notes ≡ (view_of old).own.notes ++ es
      → log_of new ≡ log_of old ++ map note_of es
  log_more es e = ap (map note_of) e ∙ map-append note_of (view_of old).own.notes es

  pub log_ref : (root : RootId) (did : RefDid) (moves : ℕ) → HasView new (with_ref (view_of old) root did moves)
      → log_of new ≡ log_of old ++ Ref root did ∷ []
  log_ref root did moves has = log_more (entries.Ref root did ∷ []) (ap (λ m. m.0.own.notes) has)

  pub log_noted : (pool : SharedPool) (o : Object) (number : ℕ) (n : Noted) → IsNoted pool old new o number n
      → log_of new ≡ log_of old ++ At o number n.did ∷ []
  log_noted pool o number n noted =
      log_more (entries.At o number (noted_by (view_of old).own.number n) ∷ []) (ap (λ m. m.0.own.notes) noted.seat)

  pub log_with : (pool : SharedPool) (root : RootId) (number : ℕ) (n : Noted) (step : RefDid) (moves : ℕ)
      → IsNotedWith pool old new root number n step moves
      → log_of new ≡ log_of old ++ At (Object.Root root.place) number n.did ∷ Ref root step ∷ []
  log_with pool root number n step moves noted =
      let e = entries.At (Object.Root root.place) number (noted_by (view_of old).own.number n) in
      log_more (e ∷ entries.Ref root step ∷ [])
      (ap (λ m. m.0.own.notes) noted.seat
      ∙ append-assoc (view_of old).own.notes (e ∷ []) (entries.Ref root step ∷ []))

-- ---- What the nest counts more or less.

module _ (s t : NestState) (old new : PoolSeat) (same : t.root ≡ s.root)
    (was : CountsRoot s old) (is : CountsRoot t new) where
  -- what a change tells of the root tells it of the nest's counts
  pub counts_change : (c : Change) → Changes c (view_of old) (view_of new)
      → times s.root c.gone + root_counts t ≡ times s.root c.got + root_counts s
  counts_change c changes =
      let now = subst (λ (r : RootId). gained_of r (view_of new) ≡ lost_of r (view_of new) + root_counts t) same is in
      let a = changes.counts s.root in
      omega (arith, now, was, a)

  pub counts_same : new ≡ old → root_counts t ≡ root_counts s
  counts_same e =
      let now = subst (λ (r : RootId). gained_of r (view_of new) ≡ lost_of r (view_of new) + root_counts t) same is in
      let there = subst (λ (x : PoolSeat).
      gained_of s.root (view_of x) ≡ lost_of s.root (view_of x) + root_counts t) e now in
      omega (arith, there, was)

-- ---- A count more, if it is one of view 0.

-- what a call left that took a count or left all: the notes are those before and some that say nothing of bytes
pub record Took (pool : SharedPool) (s t : NestState) (old new : PoolSeat) : Type 0
  where
    pub goes : Goes pool empty_hand 4 1 old new
    pub more : List Note
    pub log : log_of new ≡ log_of old ++ more
    pub quiet : dids_of more ≡ []
    pub leave : Leave (log_of old) s.root (root_counts s) → Leave (log_of new) s.root (root_counts t)

module _ (pool : SharedPool) (s t : NestState) (old new : PoolSeat)
    (works : Works pool empty_hand 4 1 old) (seat : IsPoolSeat pool new) (same : t.root ≡ s.root)
    (was : CountsRoot s old) (is : CountsRoot t new) where
  abbrev u : SeatView
  u = view_of old

  goes_more : (c : Change) (a b : ℕ) → Proceeds pool empty_hand a b c old new → a ≤ 4 → b ≤ 1
      → Goes pool empty_hand 4 1 old new
  goes_more c a b p le lf = (proceeds_more pool c empty_hand a b 4 1 old new p le lf).goes

  pub stayed : new ≡ old → Took pool s t old new
  stayed e = record {
    goes = subst (λ (x : PoolSeat). Goes pool empty_hand 4 1 old x) (sym e) (at_rest);
    more = [];
    log = ap log_of e ∙ sym (append-nil (log_of old));
    quiet = refl;
    leave = λ left. subst (λ (n : ℕ). Leave (log_of new) s.root n) (sym (counts_same s t old new same was is e))
        (subst (λ (x : PoolSeat). Leave (log_of x) s.root (root_counts s)) (sym e) left);
  }
    where
      append-nil : (xs : List Note) → xs ++ [] ≡ xs
      append-nil [] = refl
      append-nil (x ∷ xs) = ap (λ (ys : List Note). x ∷ ys) (append-nil xs)

      at_rest : Goes pool empty_hand 4 1 old old
      at_rest =
          let g = goes_none pool empty_hand 4 1 old works in
          record {
            seat = g.seat;
            held = g.held;
            paid = g.paid;
            turns_left = omega arith;
            moves_left = omega arith;
            number = g.number;
            knows = g.knows;
          }

  pub took : (b : Bool) → (b ≡ true → HasCount s.root u) → MatchBool b (IsRetained s.root old new) (new ≡ old)
      → Took pool s t old new
  took false counts did = stayed did
  took true counts did =
      let p = retained pool old new seat s.root 4 1 works (counts refl) (let m = works.moves_left in omega (arith, m))
      did in
      let one = one_self s.root in
      let sum : root_counts t ≡ root_counts s + 1 =
      (let a = counts_change s t old new same was is (once_more s.root) p.changes in omega (arith, a, one)) in
      let log = log_ref old new s.root steps.Retain (u.moves - 1) did in
      record {
        goes = goes_more (once_more s.root) 0 1 p (omega arith) (omega arith);
        more = Ref s.root steps.Retain ∷ [];
        log = log;
        quiet = refl;
        leave = λ left. subst (λ (ns : List Note). Leave ns s.root (root_counts t)) (sym log)
            (leave_retained (log_of old) s.root (root_counts s) (root_counts t) sum left);
      }

-- ---- A count less, if the nest counts the root less.

-- what a release left that ended nothing of the pool: a count is left, if the notes turn out to be whole
pub record Kept (pool : SharedPool) (s t : NestState) (old new : PoolSeat) : Type 0
  where
    pub took : Took pool s t old new
    pub counted : Leave (log_of old) s.root (root_counts s) → IsWhole (log_of new) → 0 < root_counts t

module _ (pool : SharedPool) (s t : NestState) (old new : PoolSeat)
    (works : Works pool empty_hand 4 1 old) (seat : IsPoolSeat pool new) (same : t.root ≡ s.root)
    (was : CountsRoot s old) (is : CountsRoot t new) (some : 0 < root_counts s) where
  abbrev v : SeatView
  v = view_of old

  counted_root : HasCount s.root v
  counted_root = (let a = was in omega (arith, a, some))

  pub kept : (lost : Bool) → IsReleasedIf lost s.root None old new → Kept pool s t old new
  kept false did = record {
    took = stayed pool s t old new works seat same was is did.1;
    counted = λ left whole. (let e = counts_same s t old new same was is did.1 in omega (arith, e, some));
  }
  kept true did =
      let p = released_kept pool old new seat s.root 4 1 works counted_root did in
      let one = one_self s.root in
      let sum : root_counts s ≡ root_counts t + 1 =
      (let a = counts_change s t old new same was is (once_less s.root false) p.changes in omega (arith, a, one)) in
      let log = log_ref old new s.root steps.Kept (v.moves + 1) did in
      record {
        took = record {
          goes =
              (proceeds_more pool (once_less s.root false) empty_hand 0 0 4 1 old new p (omega arith)
              (omega arith)).goes;
          more = Ref s.root steps.Kept ∷ [];
          log = log;
          quiet = refl;
          leave = λ left. subst (λ (ns : List Note). Leave ns s.root (root_counts t)) (sym log)
              (leave_released (log_of old) s.root steps.Kept (root_counts s) (root_counts t) refl refl refl sum left);
        };
        counted = λ left whole.
            (let two = release_found (log_of old) [] s.root steps.Kept (subst IsWhole log whole) in
            let enough = two.1 in let leaves = two.2 in
            omega (arith, enough, leaves, left, sum));
      }

  -- the release that ended the root's count: it was the last, if the notes turn out to be whole
  pub record Last (token : EndToken) : Type 0 where
    pub root_is : token.root ≡ s.root
    pub holds : HoldsToken new token
    pub proceeds : Proceeds pool (with_token s.root) 0 0 (once_less s.root true) old new
    pub log : log_of new ≡ log_of old ++ Ref s.root steps.Ended ∷ []
    pub sum : root_counts s ≡ root_counts t + 1
    pub leave : Leave (log_of old) s.root (root_counts s) → Leave (log_of new) s.root (root_counts t)
    pub last : Leave (log_of old) s.root (root_counts s) → IsWhole (log_of new) → root_counts t ≡ 0

  pub ended : (lost : Bool) (token : EndToken) → IsReleasedIf lost s.root (Some token) old new → Last token
  ended false token did = absurd (cc (did.0))
  ended true token did =
      let p = released_last pool old new seat s.root 4 1 works counted_root did.2 in
      let one = one_self s.root in
      let sum : root_counts s ≡ root_counts t + 1 =
      (let a = counts_change s t old new same was is (once_less s.root true) p.changes in omega (arith, a, one)) in
      let log = log_ref old new s.root steps.Ended v.moves did.2 in
      record {
        root_is = did.0;
        holds = did.1;
        proceeds = p;
        log = log;
        sum = sum;
        leave = λ left. subst (λ (ns : List Note). Leave ns s.root (root_counts t)) (sym log)
            (leave_released (log_of old) s.root steps.Ended (root_counts s) (root_counts t) refl refl refl sum left);
        last = λ left whole.
            (let one_left = release_found (log_of old) [] s.root steps.Ended (subst IsWhole log whole) in
            omega (arith, one_left, left, sum));
      }
