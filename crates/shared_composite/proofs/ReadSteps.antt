-- How a range of a core's components is read, one component after another.
use Rattle.std.proofs.Common.{◌≡◌, ℕ, suc, ◌+◌, ◌-◌, ◌<◌, ◌≤◌, List, [], ◌∷◌, ◌++◌, length, take, drop, Bool, true, false, refl, sym, ap, ◌∙◌, subst, arith, append_assoc, length-append, ne_eqb}
use Rattle.std.specs.Prelude.{◌==◌, not, min, Contains, Some, slice_get}
use Rattle.std.proofs.lemmas.List.{drop-drop, length-drop, take-append-drop}
use Rattle.std.proofs.lemmas.List.Elements.{filter-append}
use Rattle.std.proofs.Math.Seq.{take-append_seam, drop-append_seam}
use borrow.Rule.Slice.PartMut.{mid_of, put_mid}
use Rattle.pool_arena.proofs.WalkLaws.{drop-step}
use Rattle.pool_law.specs.declared.id.Part.{Part}
use Rattle.pool_law.specs.declared.note.Did.{Did}
use Rattle.pool_law.specs.declared.note.Held.{Held}
use Rattle.pool_law.specs.declared.note.Object.TheVariants.{Root}
use Rattle.pool_law.specs.Composites.{size_of, cut, cuts, filled, ranges}
use Rattle.composite_buf.proofs.MapLaws.{size_of_cons}
use Rattle.shared_pool.specs.declared.pool.SharedPool.{SharedPool}
use Rattle.shared_pool.specs.declared.seat.PoolSeat.{PoolSeat}
use Rattle.shared_pool.specs.RootNotes.{access}
use Rattle.shared_pool.specs.Seats.{IsPoolSeat, IsNoted, FoundBusy}
use Rattle.shared_pool.specs.SeatViews.{view_of, SameSeat}
use Rattle.shared_composite.specs.declared.cores.Core.{Core}
use Rattle.shared_composite.specs.Cores.{IsCore, IsKept, roots_of, turns_of}
use Rattle.shared_composite.specs.Reading.{Gets, FoundHeldPart}
use Rattle.shared_composite.proofs.CoreLaws.{kept_on}
use Rattle.shared_composite.proofs.Gets.{gets_on, filled_none, filled_one}
use Rattle.shared_composite.proofs.GetSteps.{with_seat, got_core, got_kept, got_turns, still_core, still_kept, still_turns}

-- ---- A core behind the get of a part.

pub record IsAfter (pool : SharedPool) (old new : Core) : Type 0 where
  pub core : IsCore pool new
  pub kept : IsKept old new
  pub turns : turns_of old ≤ turns_of new + 1

module _ (pool : SharedPool) (c : Core) (core : IsCore pool c) (new : PoolSeat) (is : IsPoolSeat pool new)
    (same : SameSeat c.seat new) where
  still_after : view_of new ≡ view_of c.seat → IsAfter pool c (with_seat c new)
  still_after view = record {
    core = still_core pool c core new is view;
    kept = still_kept pool c core new is view same;
    turns = (let a = still_turns pool c core new is view in omega (arith, a));
  }

  module _ (q : Part) (there : Contains (roots_of c.parts) q.root) (bytes : List ℕ) where
    pub after_get : 101 ≤ turns_of c → Gets pool (filled (q ∷ [])) c.seat new bytes
        → IsAfter pool c (with_seat c new)
    after_get enough gets = go (q.len == 0) refl
      where
        one : Gets pool (q ∷ []) c.seat new bytes → IsAfter pool c (with_seat c new)
        one got =
            let noted = subst (λ (s : PoolSeat). IsNoted pool c.seat s (Root q.root.place) got.1
            (access q.root (Did.Get q.offset got.2))) (sym got.6.0) got.5 in
            record {
              core = got_core pool c core new is q got.1 got.2 noted enough;
              kept = got_kept pool c core new is q got.1 got.2 noted same there;
              turns = got_turns pool c core new is q got.1 got.2 noted;
            }

        go : (b : Bool) → (q.len == 0) ≡ b → IsAfter pool c (with_seat c new)
        go true is =
            let got = subst (λ (ps : List Part). Gets pool ps c.seat new bytes) (filled_none q is) gets in
            still_after (ap view_of got.0)
        go false is = one (subst (λ (ps : List Part). Gets pool ps c.seat new bytes) (filled_one q is) gets)

-- what was lent and came back as it was
pub put_same : (a k : ℕ) (xs : List ℕ) → put_mid a k xs (mid_of a k xs) ≡ xs
put_same a k xs = ap (λ (ys : List ℕ). take a xs ++ ys) (take-append-drop k (drop a xs)) ∙ take-append-drop a xs

-- ---- How far a range is read.

-- the first so many components are passed: so many bytes are still to be skipped, and so many are
-- read, which stand in front of what was to be filled
pub record IsReadTo (pool : SharedPool) (old now : Core) (start : ℕ) (unfilled filling : List ℕ)
    (skip done k : ℕ) : Type 0 where
  pub core : IsCore pool now
  pub kept : IsKept old now
  pub turns : turns_of old ≤ turns_of now + k
  pub before : List Part
  pub bytes : List ℕ
  pub split : ranges old.parts start (length unfilled)
      ≡ before ++ ranges (drop k old.parts) skip (length unfilled - done)
  pub got : Gets pool before old.seat now.seat bytes
  pub len : length bytes ≡ done
  pub most : done ≤ length unfilled
  pub partly : filling ≡ bytes ++ drop done unfilled
  pub long : length filling ≡ length unfilled
  pub there : skip + (length unfilled - done) ≤ size_of (drop k old.parts)

module _ (pool : SharedPool) (old now : Core) (start : ℕ) (unfilled filling : List ℕ) (skip done k : ℕ)
    (far : IsReadTo pool old now start unfilled filling skip done k) where
  abbrev n : ℕ
  n = length unfilled - done

  -- the next component, of which s bytes are skipped and t are read
  module _ (p : Part) (there : slice_get old.parts k ≡ Some p) (s t : ℕ) (skipped : s ≡ min skip p.len)
      (taken : t ≡ min n (p.len - s)) where
    abbrev later : List Part
    later = drop (k + 1) old.parts

    abbrev q : Part
    q = cut p s t

    first_left : drop k old.parts ≡ p ∷ later
    first_left =
        let one : suc k ≡ k + 1 = omega arith in
        drop-step old.parts k p there ∙ ap (λ (i : ℕ). p ∷ drop i old.parts) one

    next_ranges : ranges (drop k old.parts) skip n ≡ filled (q ∷ []) ++ ranges later (skip - s) (n - t)
    next_ranges =
        ap (λ (ps : List Part). ranges ps skip n) first_left
        ∙ ap (λ (x : ℕ × ℕ). filled (cut p x.0 x.1 ∷ cuts later (skip - x.0) (n - x.1)))
        (λ i. (sym skipped i, both i))
        ∙ filter-append (λ (r : Part). not (r.len == 0)) (q ∷ []) (cuts later (skip - s) (n - t))
      where
        both : min n (p.len - min skip p.len) ≡ t
        both = ap (λ (x : ℕ). min n (p.len - x)) (sym skipped) ∙ sym taken

    next_size : size_of (drop k old.parts) ≡ p.len + size_of later
    next_size = ap (λ (ps : List Part). size_of ps) first_left ∙ size_of_cons p later

    module _ (new : PoolSeat) (part : List ℕ) (gets : Gets pool (filled (q ∷ [])) now.seat new part)
        (after : IsAfter pool now (with_seat now new)) (count : length part ≡ t) where
      pub read_on : (filled_now : List ℕ) → filled_now ≡ put_mid done t filling part
          → IsReadTo pool old (with_seat now new) start unfilled filled_now (skip - s) (done + t) (k + 1)
      read_on filled_now is = record {
        core = after.core;
        kept = kept_on old now (with_seat now new) far.kept after.kept;
        turns = (let a = far.turns in let b = after.turns in omega (arith, a, b));
        before = far.before ++ filled (q ∷ []);
        bytes = far.bytes ++ part;
        split =
            let less : n - t ≡ length unfilled - (done + t) = omega arith in
            far.split ∙ ap (λ (ps : List Part). far.before ++ ps) next_ranges
            ∙ sym (append_assoc far.before (filled (q ∷ [])) (ranges later (skip - s) (n - t)))
            ∙ ap (λ (m : ℕ). far.before ++ filled (q ∷ []) ++ ranges later (skip - s) m) less;
        got = gets_on pool far.before (filled (q ∷ [])) old.seat now.seat new far.bytes part far.got gets;
        len = (let a = far.len in let b = length-append far.bytes part in omega (arith, a, b, count));
        most = (let a = far.most in omega (arith, a, taken));
        partly = is ∙ filled_on;
        long =
            (let e = ap (λ (xs : List ℕ). length xs) (is ∙ filled_on) in
            let a = length-append (far.bytes ++ part) (drop (done + t) unfilled) in
            let b = length-append far.bytes part in let d = length-drop (done + t) unfilled in let f = far.len in
            let g = far.most in omega (arith, e, a, b, d, f, g, count, taken));
        there = (let a = far.there in let b = next_size in omega (arith, a, b, skipped, taken));
      }
        where
          front : take done filling ≡ far.bytes
          front =
              ap (take done) far.partly ∙ ap (λ (m : ℕ). take m (far.bytes ++ drop done unfilled)) (sym far.len)
              ∙ take-append_seam far.bytes (drop done unfilled)

          back : drop done filling ≡ drop done unfilled
          back =
              ap (drop done) far.partly ∙ ap (λ (m : ℕ). drop m (far.bytes ++ drop done unfilled)) (sym far.len)
              ∙ drop-append_seam far.bytes (drop done unfilled)

          filled_on : put_mid done t filling part ≡ far.bytes ++ part ++ drop (done + t) unfilled
          filled_on =
              (λ i. front i ++ (part ++ drop t (back i)))
              ∙ ap (λ (xs : List ℕ). far.bytes ++ (part ++ xs)) (drop-drop t done unfilled)
              ∙ sym (append_assoc far.bytes part (drop (done + t) unfilled))

    -- another seat was there
    module _ (new : PoolSeat) (held : Held) (some : 0 < t)
        (found : FoundBusy pool (Root p.root.place) false now.seat new held) where
      pub held_there : (filled_now : List ℕ) → filled_now ≡ filling
          → FoundHeldPart pool old (with_seat now new) start unfilled filled_now held
      held_there filled_now is = record {
        before = far.before;
        part = q;
        behind = ranges later (skip - s) (n - t);
        split =
            far.split ∙ ap (λ (ps : List Part). far.before ++ ps) (next_ranges
            ∙ ap (λ (ps : List Part). ps ++ ranges later (skip - s) (n - t)) (filled_one q some_len));
        mid = now.seat;
        bytes = far.bytes;
        got = far.got;
        found = found;
        partly = is ∙ far.partly ∙ ap (λ (m : ℕ). far.bytes ++ drop m unfilled) (sym far.len);
      }
        where
          some_len : (t == 0) ≡ false
          some_len = ne_eqb t 0 (λ e. absurd (omega (arith, e, some)))
