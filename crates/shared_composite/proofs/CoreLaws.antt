-- Cores before they are stepped, and once they are over; and what gets leave of them.
use Rattle.std.proofs.Common.{◌≡◌, ℕ, ◌≤◌, List, [], ◌++◌, length, drop, refl, sym, ap, ◌∙◌, subst, arith, append_assoc, append-nil}
use Rattle.std.specs.Prelude.{All, None, Option, IfSome}
use Rattle.std.proofs.lemmas.List.{drop_all}
use Rattle.std.proofs.lemmas.List.Elements.{All-nil, All-append}
use Rattle.pool_law.specs.declared.id.Part.{Part}
use Rattle.pool_table.specs.declared.views.Entry.{Entry}
use Rattle.shared_pool.specs.declared.pool.SharedPool.{SharedPool}
use Rattle.shared_pool.specs.declared.seat.PoolSeat.{PoolSeat}
use Rattle.shared_pool.specs.SeatViews.{view_of}
use Rattle.lane_stages.specs.declared.retirement.Ending.{Ending}
use Rattle.lane_stages.specs.Releasings.{hand_in}
use Rattle.shared_composite.specs.declared.cores.Core.{Core}
use Rattle.shared_composite.specs.Cores.{IsFit, IsBegun, IsCore, IsUnderway, IsOver, IsEmptied, IsKept, CountsJust, IsGetOf, roots_of, left_of}
use Rattle.shared_composite.specs.Endings.{HasOnly, Holds, turns_in}
use Rattle.shared_composite.proofs.HandsOnly.{only_nothing, nothing_only}

-- ---- Before the first step.

-- what is left of a core that has begun is all
pub all_left : (c : Core) → IsBegun c → left_of c ≡ c.parts
all_left c begun = ap (λ (n : ℕ). drop n c.parts) begun.next

-- a core of which nothing was released may be stepped
pub underway : (pool : SharedPool) (c : Core) → IsCore pool c → IsUnderway pool c
underway pool c core = record {
  seat = core.fit.seat_is;
  next = (let a = core.begun.next in omega (arith, a));
  counted =
      subst (λ (ps : List Part). CountsJust (roots_of ps) (view_of c.seat)) (sym (all_left c core.begun))
      core.fit.counted;
  known = core.fit.known;
  only =
      subst (λ (e : Option Ending). HasOnly (hand_in e) (view_of c.seat)) (sym core.begun.ending)
      (only_nothing (view_of c.seat) core.fit.nothing);
  holds = subst (λ (e : Option Ending). IfSome e (Holds pool c.seat)) (sym core.begun.ending) tt;
  turns =
      (let a = ap (λ (e : Option Ending). turns_in e) core.begun.ending in
      let b = ap (λ (ps : List Part). length ps) (all_left c core.begun) in let few = core.few in
      let most = core.turns in omega (arith, a, b, few, most));
}

-- a core that is made
abbrev pub made : PoolSeat → List Part → Core
made seat parts = record { seat = seat; parts = parts; next = 0; ending = None }

pub new_core : (pool : SharedPool) (seat : PoolSeat) (parts : List Part) → IsFit pool seat parts → length parts ≤ 25
    → 100 ≤ (view_of seat).turns → IsCore pool (made seat parts)
new_core pool seat parts fit few turns = record {
  fit = fit;
  begun = record { next = refl; ending = refl };
  few = few;
  turns = turns;
}

-- ---- Once all is done.

pub over_emptied : (pool : SharedPool) (c : Core) → IsUnderway pool c → IsOver c → IsEmptied pool c.seat
over_emptied pool c underway over = record {
  seat_is = underway.seat;
  nothing =
      nothing_only (view_of c.seat)
      (subst (λ (e : Option Ending). HasOnly (hand_in e) (view_of c.seat)) over.ending underway.only);
  counted =
      subst (λ (ps : List Part). CountsJust (roots_of ps) (view_of c.seat))
      (drop_all c.next c.parts (let a = over.next in omega (arith, a))) underway.counted;
}

-- ---- What reads leave.

pub kept_self : (c : Core) → IsKept c c
kept_self c = record {
  parts = refl;
  next = refl;
  ending = refl;
  same = (refl, refl);
  number = refl;
  added = [];
  notes = sym (append-nil (view_of c.seat).own.notes);
  gets = All-nil (IsGetOf (roots_of c.parts));
  hand = λ held. held;
}

pub kept_on : (old mid new : Core) → IsKept old mid → IsKept mid new → IsKept old new
kept_on old mid new x y = record {
  parts = y.parts ∙ x.parts;
  next = y.next ∙ x.next;
  ending = y.ending ∙ x.ending;
  same = (y.same.0 ∙ x.same.0, y.same.1 ∙ x.same.1);
  number = y.number ∙ x.number;
  added = x.added ++ y.added;
  notes =
      y.notes ∙ ap (λ (es : List Entry). es ++ y.added) x.notes
      ∙ append_assoc (view_of old.seat).own.notes x.added y.added;
  gets =
      All-append (IsGetOf (roots_of old.parts)) x.added y.added x.gets
      (subst (λ (ps : List Part). All (IsGetOf (roots_of ps)) y.added) x.parts y.gets);
  hand = λ held. y.hand (x.hand held);
}
