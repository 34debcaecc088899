-- The steps of a core, by what was done.
use Rattle.std.proofs.Common.{◌≡◌, ℕ, suc, ◌+◌, ◌<◌, ◌≤◌, List, [], ◌∷◌, length, drop, Bool, true, false, refl, sym, ap, ◌∙◌, subst, arith}
use Rattle.std.specs.Prelude.{Some, None, Option, IfSome, map, slice_get}
use Rattle.std.proofs.lemmas.List.Sums.{sum_by-cons}
use Rattle.pool_arena.proofs.WalkLaws.{drop-step}
use Rattle.pool_law.specs.declared.id.Part.{Part}
use Rattle.pool_law.specs.declared.id.RootId.{RootId}
use Rattle.pool_law.specs.declared.note.Held.{Held}
use Rattle.pool_law.specs.declared.note.RefDid.{RefDid}
use Rattle.pool_law.specs.declared.note.RefDid.TheVariants.{Kept, Ended}
use Rattle.pool_law.specs.Readers.{◌>>◌}
use Rattle.pool_law.specs.Same.{same_root}
use Rattle.pool_table.specs.declared.roots.EndToken.{EndToken}
use Rattle.pool_table.specs.declared.views.Entry.{Entry}
use Rattle.pool_table.specs.declared.views.Entry.TheVariants.{Ref}
use Rattle.pool_table.specs.declared.views.SeatView.{SeatView}
use Rattle.pool_table.specs.Counts.{HasCount, HasToken, with_ref}
use Rattle.shared_pool.specs.declared.pool.SharedPool.{SharedPool}
use Rattle.shared_pool.specs.declared.seat.PoolSeat.{PoolSeat}
use Rattle.shared_pool.specs.Closing.{entry_of}
use Rattle.shared_pool.specs.RootNotes.{HoldsToken}
use Rattle.shared_pool.specs.Seats.{IsPoolSeat}
use Rattle.shared_pool.specs.SeatViews.{view_of, HasView, SameSeat}
use Rattle.seat_work.specs.Changes.{once_less, one_for, times}
use Rattle.seat_work.specs.Hands.{lane_in, empty_hand, IsHeld}
use Rattle.seat_work.proofs.Counting.{Tells, changes_by, one_self, one_as}
use Rattle.seat_work.proofs.Grown.{Grows, grows_ref}
use Rattle.seat_work.proofs.HandLaws.{Carries, held_on}
use Rattle.seat_work.proofs.HandNotes.{ref_carries, ended_carries, weightless}
use Rattle.seat_work.proofs.Knowing.{knows_more, knows_same}
use Rattle.lane_stages.specs.declared.retirement.Ending.{Ending}
use Rattle.lane_stages.specs.declared.retirement.Ending.TheVariants.{Root, Cache, Arena, Home}
use Rattle.lane_stages.specs.declared.stage_step.StageStep.TheVariants.{Held as HeldBack}
use Rattle.lane_stages.specs.declared.stepped.Stepped.{Stepped}
use Rattle.lane_stages.specs.declared.stepped.Stepped.TheVariants.{Went, Pending, Finished}
use Rattle.lane_stages.specs.Endings.{retired}
use Rattle.seat_work.specs.Readings.{ReadsOn}
use Rattle.lane_stages.specs.Readings.{none_asked}
use Rattle.lane_stages.specs.Releasings.{hand_in, rest_in}
use Rattle.seat_work.proofs.ReadLaws.{then_on}
use Rattle.shared_composite.specs.declared.cores.Core.{Core}
use Rattle.shared_composite.specs.Cores.{IsUnderway, Advances, HasStepped, with_ending, CountsJust, roots_of, left_of, rest_of, releases}
use Rattle.shared_composite.specs.Endings.{Ended as EndStep, HasEnded, HasOnly, Holds, MayEnd, turns_in}
use Rattle.shared_composite.proofs.HandsOnly.{only_on, still_holds}
use Rattle.shared_composite.proofs.KnownParts.{known_on}
use Rattle.shared_composite.proofs.PartReleases.{first_kept, first_ended}

-- ---- The end of a root that is under way.

-- the core at this seat, with this left of a root that ended, and so many components released
abbrev pub core_at : Core → PoolSeat → ℕ → Option Ending → Core
core_at c seat next ending = record c { seat = seat; next = next; ending = ending }

module _ (pool : SharedPool) (c : Core) (new : PoolSeat) (stage : Ending) (next : Option Ending) (added : List Entry)
    (did : EndStep pool c.seat new stage next added) where
  abbrev end_before : Core
  end_before = core_at c c.seat c.next (Some stage)

  abbrev end_behind : Core
  end_behind = core_at c new c.next next

  pub end_advances : Advances pool end_before end_behind added
  end_advances = record {
    parts = refl;
    same = did.same;
    more = did.more;
    quiet = did.quiet;
    read =
        then_on (rest_in pool.table.layout.shape (Some stage)) (map entry_of added) none_asked
        (λ _. releases pool.table.layout.shape (left_of c)) (rest_in pool.table.layout.shape next) did.read;
    hand = did.hand;
  }

  pub end_underway : IsUnderway pool end_before → IsUnderway pool end_behind
  end_underway was = record {
    seat = did.seat;
    next = was.next;
    counted =
        λ root. (let a = was.counted root in let b = did.counts.counts root in omega (arith, a, b));
    known =
        known_on (view_of c.seat) (view_of new) c.parts (knows_more (view_of c.seat) (view_of new) added did.more.notes)
        was.known;
    only = did.only;
    holds = did.holds;
    turns = (let a = was.turns in let b = did.turns in omega (arith, a, b));
  }

-- what is left of the root is in hand, and a turn is left for it
pub may_end : (pool : SharedPool) (c : Core) (stage : Ending) → IsUnderway pool (with_ending c (Some stage))
    → MayEnd pool c.seat stage
may_end pool c stage was = record {
  seat_is = was.seat;
  turn = (let a = was.turns in let b = some_turn stage in omega (arith, a, b));
  holds = was.holds;
  only = was.only;
}
  where
    some_turn : (e : Ending) → 0 < turns_in (Some e)
    some_turn (Root token) = omega arith
    some_turn (Cache region handle) = omega arith
    some_turn (Arena region handle) = omega arith
    some_turn (Home handle) = omega arith

-- what a step came to, and the core then
pub record GoesOn (pool : SharedPool) (old new : Core) (answer : Stepped) : Type 0 where
  pub core : IsUnderway pool new
  pub stepped : HasStepped pool old new answer
  pub unfinished : answer ≡ Finished → ⊥

-- nothing changed
pub still_underway : (pool : SharedPool) (c : Core) (new : PoolSeat) → IsPoolSeat pool new
    → view_of new ≡ view_of c.seat → IfSome c.ending (Holds pool new) → IsUnderway pool c
    → IsUnderway pool (core_at c new c.next c.ending)
still_underway pool c new is view holds was = record {
  seat = is;
  next = was.next;
  counted = subst (λ (v : SeatView). CountsJust (roots_of (left_of c)) v) (sym view) was.counted;
  known = known_on (view_of c.seat) (view_of new) c.parts (knows_same (view_of c.seat) (view_of new) view) was.known;
  only = subst (λ (v : SeatView). HasOnly (hand_in c.ending) v) (sym view) was.only;
  holds = holds;
  turns = (let a = was.turns in let b = ap (λ (v : SeatView). v.turns) view in omega (arith, a, b));
}

module _ (pool : SharedPool) (c : Core) (new : PoolSeat) (stage : Ending)
    (was : IsUnderway pool (with_ending c (Some stage))) (behind : Core) where
  pub ended_so : (next : Option Ending) (added : List Entry) → EndStep pool c.seat new stage next added
      → behind ≡ core_at c new c.next next → GoesOn pool (with_ending c (Some stage)) behind Went
  ended_so next added did is =
      subst (λ (x : Core). GoesOn pool (with_ending c (Some stage)) x Went) (sym is) (record {
        core = end_underway pool c new stage next added did was;
        stepped = (added, did.some, end_advances pool c new stage next added did);
        unfinished = λ e. cc e;
      })

  pub held_so : (again : Ending) (held : Held) → HasEnded pool c.seat new stage (HeldBack held again)
      → behind ≡ core_at c new c.next (Some again) → GoesOn pool (with_ending c (Some stage)) behind (Pending held)
  held_so again held did is =
      subst (λ (x : Core). GoesOn pool (with_ending c (Some stage)) x (Pending held))
      (sym (is ∙ ap (λ (e : Ending). core_at c new c.next (Some e)) did.0)) (record {
        core =
            still_underway pool (with_ending c (Some stage)) new did.1.seat did.1.view
            (still_holds pool c.seat new stage did.1.view was.holds) was;
        stepped = (record { parts = refl; next = refl; ending = refl; same = did.1.same }, did.2);
        unfinished = λ e. cc e;
      })

-- ---- The next component.

module _ (pool : SharedPool) (c : Core) (p : Part) (there : slice_get c.parts c.next ≡ Some p)
    (was : IsUnderway pool c) where
  abbrev v : SeatView
  v = view_of c.seat

  abbrev later : List Part
  later = drop (c.next + 1) c.parts

  first_left : left_of c ≡ p ∷ later
  first_left =
      let one : suc c.next ≡ c.next + 1 = omega arith in
      drop-step c.parts c.next p there ∙ ap (λ (n : ℕ). p ∷ drop n c.parts) one

  one_of : (root : RootId) (rs : List RootId) → times root (p.root ∷ rs) ≡ one_for p.root root + times root rs
  one_of root rs = sum_by-cons (λ (r : RootId). one_for r root) p.root rs

  counted_first : (root : RootId) →
      times root (roots_of (left_of c)) ≡ one_for p.root root + times root (roots_of later)
  counted_first root =
      ap (λ (ps : List Part). times root (roots_of ps)) first_left ∙ one_of root (roots_of later)

  -- the root of a part that is left is counted
  pub first_counted : HasCount p.root v
  first_counted =
      let a = was.counted p.root in let b = counted_first p.root in let d = one_self p.root in omega (arith, a, b, d)

  module _ (none : c.ending ≡ None) (less : c.next < length c.parts) (new : PoolSeat) (is : IsPoolSeat pool new)
      (same : SameSeat c.seat new) (did : RefDid) (last : Bool) (after : Option Ending) where
    abbrev w : SeatView
    w = view_of new

    abbrev es : List Entry
    es = Ref p.root did ∷ []

    abbrev next_core : Core
    next_core = core_at c new (c.next + 1) after

    module _ (grows : Grows v w es 0) (turns : v.turns ≤ w.turns) (needs : turns_in after ≤ 4)
        (carries : Carries (lane_in v) empty_hand (hand_in after) es)
        (tells : Tells (once_less p.root last) es) (holds : IfSome after (Holds pool new))
        (only : HasOnly (hand_in after) w) where
      released_underway : IsUnderway pool next_core
      released_underway =
          let changes = changes_by (once_less p.root last) v w es 0 grows tells in
          record {
            seat = is;
            next = omega (arith, less);
            counted =
                λ root. (let a = was.counted root in let b = changes.counts root in let d = counted_first root in
                let e = one_of root [] in omega (arith, a, b, d, e));
            known = known_on v w c.parts (knows_more v w es grows.more.notes) was.known;
            only = only;
            holds = holds;
            turns =
                (let a = was.turns in let b = ap (λ (ps : List Part). length ps) first_left in
                omega (arith, a, b, turns, needs));
          }

      released_advances : ReadsOn (releases pool.table.layout.shape (p ∷ later)) (map entry_of es) none_asked
          (rest_of pool.table.layout.shape next_core) → Advances pool c next_core es
      released_advances reads = record {
        parts = refl;
        same = same;
        more = grows.more;
        quiet = refl;
        read =
            subst (λ (x : Option Ending × List Part). ReadsOn (rest_in pool.table.layout.shape x.0
            >> releases pool.table.layout.shape x.1) (map entry_of es) none_asked
            (rest_of pool.table.layout.shape next_core)) (λ i. (sym none i, sym first_left i)) reads;
        hand = λ held.
            held_on v w es 0 empty_hand (hand_in after) grows carries
            (subst (λ (e : Option Ending). IsHeld (hand_in e) v) none held);
      }

  module _ (none : c.ending ≡ None) (less : c.next < length c.parts) (new : PoolSeat) (is : IsPoolSeat pool new)
      (same : SameSeat c.seat new) where
    abbrev u : SeatView
    u = view_of new

    only_before : HasOnly empty_hand v
    only_before = subst (λ (e : Option Ending). HasOnly (hand_in e) v) none was.only

    no_token : (root : RootId) → ◌≡◌ {A = ℕ} 0 1 → HasToken root v
    no_token root one = absurd (omega (arith, one))

    module _ (has : HasView new (with_ref v p.root Kept (v.moves + 1))) where
      kept_grows : Grows v u (Ref p.root Kept ∷ []) 0
      kept_grows = grows_ref pool c.seat new was.seat is p.root Kept (v.moves + 1) 0 has (omega arith)

      kept_carries : Carries (lane_in v) empty_hand empty_hand (Ref p.root Kept ∷ [])
      kept_carries = ref_carries (lane_in v) empty_hand p.root Kept refl refl refl

      kept_tells : Tells (once_less p.root false) (Ref p.root Kept ∷ [])
      kept_tells = record {
        counts =
            λ q. (let a = one_as (same_root p.root q) in let b = weightless (same_root p.root q) 0 refl in
            omega (arith, a, b));
        ended = λ q. (let b = weightless (same_root p.root q) 0 refl in omega (arith, b));
        empty = refl;
        full = refl;
      }

      pub part_kept : IsUnderway pool (core_at c new (c.next + 1) None)
          × Advances pool c (core_at c new (c.next + 1) None) (Ref p.root Kept ∷ [])
      part_kept =
          let turns = ap (λ m. m.0.turns) has in
          let only = only_on v u (Ref p.root Kept ∷ []) 0 kept_grows empty_hand empty_hand kept_carries no_token
          only_before in (
            released_underway none less new is same Kept false None kept_grows (omega (arith, turns)) (omega arith)
                kept_carries kept_tells tt only,
            released_advances none less new is same Kept false None kept_grows (omega (arith, turns)) (omega arith)
                kept_carries kept_tells tt only (first_kept pool.table.layout.shape p later),
          )

    module _ (token : EndToken) (token_is : token.root ≡ p.root) (holds : HoldsToken new token)
        (has : HasView new (with_ref v p.root Ended v.moves)) where
      abbrev stage : Option Ending
      stage = Some (Root token)

      last_grows : Grows v u (Ref p.root Ended ∷ []) 0
      last_grows = grows_ref pool c.seat new was.seat is p.root Ended v.moves 0 has (omega arith)

      last_carries : Carries (lane_in v) empty_hand (hand_in stage) (Ref p.root Ended ∷ [])
      last_carries =
          subst (λ (q : RootId). Carries (lane_in v) empty_hand (record empty_hand { token = Some q })
          (Ref p.root Ended ∷ [])) (sym token_is) (ended_carries (lane_in v) p.root)

      last_tells : Tells (once_less p.root true) (Ref p.root Ended ∷ [])
      last_tells = record {
        counts =
            λ q. (let a = one_as (same_root p.root q) in let b = weightless (same_root p.root q) 0 refl in
            omega (arith, a, b));
        ended = λ q. (let a = one_as (same_root p.root q) in omega (arith, a));
        empty = refl;
        full = refl;
      }

      last_reads : ReadsOn (releases pool.table.layout.shape (p ∷ later)) (map entry_of (Ref p.root Ended ∷ []))
          none_asked (rest_of pool.table.layout.shape (core_at c new (c.next + 1) stage))
      last_reads =
          subst (λ (q : RootId). ReadsOn (releases pool.table.layout.shape (p ∷ later))
          (map entry_of (Ref p.root Ended ∷ [])) none_asked
          (retired pool.table.layout.shape q >> releases pool.table.layout.shape later)) (sym token_is)
          (first_ended pool.table.layout.shape p later)

      pub part_ended : IsUnderway pool (core_at c new (c.next + 1) stage)
          × Advances pool c (core_at c new (c.next + 1) stage) (Ref p.root Ended ∷ [])
      part_ended =
          let turns = ap (λ m. m.0.turns) has in
          let only = only_on v u (Ref p.root Ended ∷ []) 0 last_grows empty_hand (hand_in stage) last_carries no_token
          only_before in (
            released_underway none less new is same Ended true stage last_grows (omega (arith, turns)) (omega arith)
                last_carries last_tells holds only,
            released_advances none less new is same Ended true stage last_grows (omega (arith, turns)) (omega arith)
                last_carries last_tells holds only last_reads,
          )

module _ (pool : SharedPool) (c : Core) (p : Part) (there : slice_get c.parts c.next ≡ Some p)
    (was : IsUnderway pool c) (none : c.ending ≡ None) (less : c.next < length c.parts) (new : PoolSeat)
    (is : IsPoolSeat pool new) (same : SameSeat c.seat new) where
  pub kept_so : HasView new (with_ref (view_of c.seat) p.root Kept ((view_of c.seat).moves + 1))
      → IsUnderway pool (core_at c new (c.next + 1) c.ending)
      × HasStepped pool c (core_at c new (c.next + 1) c.ending) Went
  kept_so has =
      let both = part_kept pool c p there was none less new is same has in
      subst (λ (e : Option Ending). IsUnderway pool (core_at c new (c.next + 1) e)
      × HasStepped pool c (core_at c new (c.next + 1) e) Went) (sym none)
      (both.0, (Ref p.root Kept ∷ [], omega arith, both.1))

  pub last_so : (token : EndToken) → token.root ≡ p.root → HoldsToken new token
      → HasView new (with_ref (view_of c.seat) p.root Ended (view_of c.seat).moves) → (behind : Core)
      → behind ≡ core_at c new (c.next + 1) (Some (Root token))
      → IsUnderway pool behind × HasStepped pool c behind Went
  last_so token token_is holds has behind is_behind =
      let both = part_ended pool c p there was none less new is same token token_is holds has in
      subst (λ (x : Core). IsUnderway pool x × HasStepped pool c x Went) (sym is_behind)
      (both.0, (Ref p.root Ended ∷ [], omega arith, both.1))
