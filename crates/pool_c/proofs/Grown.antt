-- A thread that asked a buffer's root for capacity.
use Rattle.std.proofs.Common.{◌≡◌, ℕ, ◌+◌, ◌-◌, ◌<◌, ◌≤◌, Bool, true, false, None, Some, refl, ◌∙◌, subst, arith}
use Rattle.std.specs.Prelude.{Err, Ok, ◌&&◌, ◌||◌, ◌==◌, nat_le, nat_lt, if◌then◌else◌, option_map}
use mathlib.Core.Logic.{inl, inr}
use Rattle.std.proofs.lemmas.Bool.{cases_lt, eqb-true, le-ltb}
use Rattle.size_classes.specs.Sizes.{chunk_bytes}
use Rattle.pool_law.specs.declared.id.RootId.{RootId}
use Rattle.pool_law.specs.declared.run.Reply.{Reply}
use Rattle.pool_law.specs.Limits.{geometry_of}
use Rattle.seat_work.specs.Changes.{no_change}
use Rattle.seat_work.specs.Regrowths.{IsTold}
use Rattle.pool_member.specs.declared.account.Account.{Account}
use Rattle.pool_member.specs.declared.answers.AccessNo.TheVariants as access
use Rattle.pool_member.specs.declared.answers.CapacityNo.TheVariants as capacity
use Rattle.pool_member.specs.declared.member.Member.{Member}
use Rattle.pool_member.specs.Alone.{GrowsAlone}
use Rattle.pool_member.specs.Counting.{counted, known}
use Rattle.pool_member.specs.Growing.{IsGrown}
use Rattle.pool_member.specs.Growths.{MeetsOtherBut}
use Rattle.pool_member.specs.Refusals.{is_here}
use Rattle.pool_member.specs.Threads.{Does}
use Rattle.pool_member.specs.Windows.{Window}
use Rattle.pool_c.specs.declared.buffer.PoolBuffer.{PoolBuffer}
use Rattle.pool_c.specs.declared.codes.Refusal.TheVariants as no
use Rattle.pool_c.specs.declared.held.Common.{Common}
use Rattle.pool_c.specs.Growing.{of_capacity, capacity_refusal, Grows, HasGrown, StopsGrowing}
use Rattle.pool_c.specs.Refusals.{of_access, buffer_refusal, root_of, window_of}
use Rattle.pool_c.proofs.Allocated.{here_of}
use Rattle.pool_c.proofs.CallLaws.{begun_call}

-- a call that may begin is on a buffer that is here
begins : (named here spent : Bool)
    → (if named
    then option_map of_access (if here then (if spent then Some access.Spent else None) else Some access.NotHere)
    else Some no.NotHere) ≡ None → (named ≡ true) × (here ≡ true)
begins true true spent may = (refl, refl)
begins true false spent may = absurd (cc may)
begins false here spent may = absurd (cc may)

may_ask : (named here large spent : Bool) → named ≡ true → here ≡ true → large ≡ false → spent ≡ false
    → (if named
    then option_map of_capacity (if here
    then (if large then Some capacity.TooLarge else (if spent then Some capacity.Spent else None))
    else Some capacity.NotHere)
    else Some no.NotHere) ≡ None
may_ask true true false false a b c d = refl
may_ask false here large spent a b c d = absurd (cc a)
may_ask true false large spent a b c d = absurd (cc b)
may_ask true true true spent a b c d = absurd (cc c)
may_ask true true false true a b c d = absurd (cc d)

all_three : (x y z : Bool) → (x && y && z) ≡ true → x ≡ true
all_three true y z e = refl
all_three false y z e = absurd (cc e)

own_of : (a : Account) (w : Window) → is_here a w ≡ true → a.lane ≡ w.thread
own_of a w here =
    eqb-true a.lane w.thread
    (all_three (a.lane == w.thread) (nat_lt 0 (counted a.counts w.at.root))
    (nat_le (w.at.offset + w.at.len) (known a.counts w.at.root)) here)

-- what became of an ask for so many bytes, in the words of the pool and the root that it went by
module _ (b : PoolBuffer) (size : ℕ) (c : Common) (old new : Member)
    (may : buffer_refusal c old.account b true 0 0 ≡ None)
    (within : chunk_bytes (geometry_of c.shared.table.layout.shape) < size → ⊥) (turns : 6 ≤ old.account.turns)
    (x : Common) (root : RootId) (same : x ≡ c) (is : root ≡ root_of b) where
  begun : ((b.pool == c.name) ≡ true) × (is_here old.account (window_of b) ≡ true)
  begun =
      begins (b.pool == c.name) (is_here old.account (window_of b))
      (nat_lt old.account.turns 0 || nat_lt old.account.moves 0) may

  not_large : size ≤ chunk_bytes (geometry_of c.shared.table.layout.shape)
  not_large =
      elim (cases_lt (chunk_bytes (geometry_of c.shared.table.layout.shape)) size) [
        | inl lt ↦ absurd (within lt)
        | inr le ↦ le
      ]

  may_grow : capacity_refusal c old.account b size ≡ None
  may_grow =
      may_ask (b.pool == c.name) (is_here old.account (window_of b))
      (nat_lt (chunk_bytes (geometry_of c.shared.table.layout.shape)) size) (nat_lt old.account.turns 6) begun.0
      begun.1 (le-ltb (chunk_bytes (geometry_of c.shared.table.layout.shape)) size not_large)
      (le-ltb old.account.turns 6 turns)

  there : (P : Common → RootId → Type 0) → P x root → P c (root_of b)
  there P p = subst (λ (q : Common × RootId). P q.0 q.1) (λ i. (same i, is i)) p

  pub grown : (bytes : ℕ) → size ≤ bytes → b.offset + b.length ≤ known old.account.counts root
      → known old.account.counts root ≤ bytes → bytes ≤ known new.account.counts root
      → 0 < counted new.account.counts root → IsTold x.shared root bytes old.seat new.seat
      → IsGrown x.shared root size (Ok bytes) old new
      → Does x.shared 6 no_change (Some root) old new → GrowsAlone root old new
      → new.account.moves ≡ old.account.moves
      → Grows b size c old new (Ok (record b { length = bytes - b.offset }))
  grown bytes enough reached knows told counts noted notes does alone moves =
      let longer : PoolBuffer = record b { length = bytes - b.offset } in
      let ends : b.offset + b.length ≤ bytes = omega (arith, reached, knows) in
      let reach : bytes ≤ known new.account.counts (root_of b) =
      there (λ y r. bytes ≤ known new.account.counts r) told in
      begun_call (capacity_refusal c old.account b size) (Ok longer) old new (HasGrown b size c old new)
      (StopsGrowing b size c old new) may_grow
      (record {
        bytes = bytes;
        enough = enough;
        reached = ends;
        grown_is = refl;
        here =
            here_of new.account (window_of longer) (does.changed.number ∙ own_of old.account (window_of b) begun.1)
            (there (λ y r. 0 < counted new.account.counts r) counts) (omega (arith, ends, reach));
        told = there (λ y r. IsTold y.shared r bytes old.seat new.seat) noted;
        notes = there (λ y r. IsGrown y.shared r size (Ok bytes) old new) notes;
        does = there (λ y r. Does y.shared 6 no_change (Some r) old new) does;
        alone = there (λ y r. GrowsAlone r old new) alone;
        moves = moves;
      })

  pub busy : Does x.shared 6 no_change (Some root) old new → GrowsAlone root old new
      → new.account.moves ≡ old.account.moves → MeetsOtherBut root x.shared old.seat new.seat
      → Grows b size c old new (Err no.Busy)
  busy does alone moves meets =
      begun_call (capacity_refusal c old.account b size) (Err no.Busy) old new (HasGrown b size c old new)
      (StopsGrowing b size c old new) may_grow (
        there (λ y r. Does y.shared 6 no_change (Some r) old new) does,
        there (λ y r. GrowsAlone r old new) alone,
        moves,
        there (λ y r. MeetsOtherBut r y.shared old.seat new.seat) meets,
      )

  pub full : Does x.shared 6 (record no_change { full = 1 }) (Some root) old new → GrowsAlone root old new
      → new.account.moves ≡ old.account.moves → IsGrown x.shared root size (Err Reply.Full) old new
      → Grows b size c old new (Err no.Full)
  full does alone moves notes =
      begun_call (capacity_refusal c old.account b size) (Err no.Full) old new (HasGrown b size c old new)
      (StopsGrowing b size c old new) may_grow (
        there (λ y r. Does y.shared 6 (record no_change { full = 1 }) (Some r) old new) does,
        there (λ y r. GrowsAlone r old new) alone,
        moves,
        there (λ y r. IsGrown y.shared r size (Err Reply.Full) old new) notes,
      )
