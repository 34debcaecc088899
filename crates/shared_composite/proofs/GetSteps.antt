-- What the get of a part leaves of a core: all but its turns and its notes.
use Rattle.std.proofs.Common.{◌≡◌, ℕ, ◌+◌, ◌≤◌, List, [], ◌∷◌, refl, sym, ap, ◌∙◌, subst, arith, append-nil}
use Rattle.std.specs.Prelude.{Contains}
use Rattle.std.proofs.lemmas.List.Elements.{All-nil, All-cons}
use Rattle.pool_law.specs.declared.id.Part.{Part}
use Rattle.pool_law.specs.declared.id.RootId.{RootId}
use Rattle.pool_law.specs.declared.note.Did.{Did}
use Rattle.pool_law.specs.declared.note.Noted.{Noted}
use Rattle.pool_law.specs.declared.note.Object.TheVariants.{Root}
use Rattle.pool_table.specs.declared.views.Entry.{Entry}
use Rattle.pool_table.specs.declared.views.SeatView.{SeatView}
use Rattle.pool_table.specs.Counts.{HasToken}
use Rattle.shared_pool.specs.declared.pool.SharedPool.{SharedPool}
use Rattle.shared_pool.specs.declared.seat.PoolSeat.{PoolSeat}
use Rattle.shared_pool.specs.RootNotes.{access}
use Rattle.shared_pool.specs.Seated.{HasNothing}
use Rattle.shared_pool.specs.Seats.{IsPoolSeat, IsNoted}
use Rattle.shared_pool.specs.SeatViews.{view_of, SameSeat}
use Rattle.seat_work.specs.Changes.{Changes, no_change}
use Rattle.seat_work.specs.Hands.{empty_hand, lane_in, IsHeld}
use Rattle.seat_work.proofs.Accesses.{IsQuiet, get_quiet}
use Rattle.seat_work.proofs.Counting.{changes_by}
use Rattle.seat_work.proofs.Grown.{Grows, note_at, grows_noted}
use Rattle.seat_work.proofs.HandLaws.{held_on}
use Rattle.seat_work.proofs.Knowing.{knows_more, knows_same}
use Rattle.shared_composite.specs.declared.cores.Core.{Core}
use Rattle.shared_composite.specs.Cores.{IsCore, IsKept, IsGetOf, CountsJust, roots_of, turns_of}
use Rattle.shared_composite.proofs.HandsOnly.{only_on, only_nothing, nothing_only}
use Rattle.shared_composite.proofs.KnownParts.{known_on}

-- the core at this seat
abbrev pub with_seat : Core → PoolSeat → Core
with_seat c seat = record c { seat = seat }

no_token : (v : SeatView) (root : RootId) → ◌≡◌ {A = ℕ} 0 1 → HasToken root v
no_token v root one = absurd (omega (arith, one))

module _ (pool : SharedPool) (c : Core) (core : IsCore pool c) (new : PoolSeat) (is : IsPoolSeat pool new) where
  abbrev v : SeatView
  v = view_of c.seat

  abbrev w : SeatView
  w = view_of new

  -- a part was got
  module _ (p : Part) (number : ℕ) (bytes : List ℕ)
      (noted : IsNoted pool c.seat new (Root p.root.place) number (access p.root (Did.Get p.offset bytes))) where
    abbrev n : Noted
    n = access p.root (Did.Get p.offset bytes)

    abbrev e : Entry
    e = note_at pool c.seat new core.fit.seat_is is (Root p.root.place) number n

    grows : Grows v w (e ∷ []) 0
    grows = grows_noted pool c.seat new core.fit.seat_is is (Root p.root.place) number n noted

    quiet : IsQuiet p.root number v.own.number (Did.Get p.offset bytes)
    quiet = get_quiet p.root number v.own.number p.offset bytes

    changes : Changes no_change v w
    changes = changes_by no_change v w (e ∷ []) 0 grows quiet.tells

    pub got_turns : turns_of c ≤ turns_of (with_seat c new) + 1
    got_turns = let a = grows.more.turns in omega (arith, a)

    pub got_core : 101 ≤ turns_of c → IsCore pool (with_seat c new)
    got_core enough = record {
      fit = record {
        seat_is = is;
        nothing =
            nothing_only w
            (only_on v w (e ∷ []) 0 grows empty_hand empty_hand (quiet.carries (lane_in v)) (no_token v)
            (only_nothing v core.fit.nothing));
        counted =
            λ root. (let a = core.fit.counted root in let b = changes.counts root in omega (arith, a, b));
        known = known_on v w c.parts (knows_more v w (e ∷ []) grows.more.notes) core.fit.known;
      };
      begun = record { next = core.begun.next; ending = core.begun.ending };
      few = core.few;
      turns = (let a = got_turns in omega (arith, a, enough));
    }

    pub got_kept : SameSeat c.seat new → Contains (roots_of c.parts) p.root → IsKept c (with_seat c new)
    got_kept same there = record {
      parts = refl;
      next = refl;
      ending = refl;
      same = same;
      number = grows.more.number;
      added = e ∷ [];
      notes = grows.more.notes;
      gets =
          All-cons (IsGetOf (roots_of c.parts)) e [] (p.root, p.offset, bytes, there, refl, refl)
          (All-nil (IsGetOf (roots_of c.parts)));
      hand = held_on v w (e ∷ []) 0 empty_hand empty_hand grows (quiet.carries (lane_in v));
    }

  -- the seat knows what it knew
  module _ (view : w ≡ v) where
    pub still_core : IsCore pool (with_seat c new)
    still_core = record {
      fit = record {
        seat_is = is;
        nothing = subst HasNothing (sym view) core.fit.nothing;
        counted = subst (CountsJust (roots_of c.parts)) (sym view) core.fit.counted;
        known = known_on v w c.parts (knows_same v w view) core.fit.known;
      };
      begun = record { next = core.begun.next; ending = core.begun.ending };
      few = core.few;
      turns = (let a = core.turns in let b = ap (λ (x : SeatView). x.turns) view in omega (arith, a, b));
    }

    pub still_kept : SameSeat c.seat new → IsKept c (with_seat c new)
    still_kept same = record {
      parts = refl;
      next = refl;
      ending = refl;
      same = same;
      number = ap (λ (x : SeatView). x.own.number) view;
      added = [];
      notes = ap (λ (x : SeatView). x.own.notes) view ∙ sym (append-nil v.own.notes);
      gets = All-nil (IsGetOf (roots_of c.parts));
      hand = subst (IsHeld empty_hand) (sym view);
    }

    pub still_turns : turns_of (with_seat c new) ≡ turns_of c
    still_turns = ap (λ (x : SeatView). x.turns) view
