-- The handles that a thread was put behind, and what all handles of a pool hold then.
use Rattle.std.proofs.Common.{◌≡◌, ℕ, ◌+◌, ◌<◌, List, [], ◌∷◌, ◌++◌, length, map, take, set, Option, Some, refl, sym, ap, ◌∙◌, subst, append_assoc, arith}
use Rattle.std.specs.Prelude.{All, Box, box_value, remove, slice_get, slice_index_or}
use Rattle.std.proofs.lemmas.List.{map-append, take_more_set}
use Rattle.pool_member.specs.declared.member.Member.{Member}
use Rattle.pool_member.specs.Opening.{AreNewThreads}
use Rattle.pool_member.specs.Threads.{IsSettled, IsThread}
use Rattle.pool_member.proofs.Lists.{all_pushed}
use Rattle.pool_c.specs.declared.held.Common.{Common}
use Rattle.pool_c.specs.declared.handle.PoolThread.{PoolThread}
use Rattle.pool_c.specs.Holding.{behind, Holding}
use Rattle.pool_c.specs.Opening.{ArePut, HasNew}
use Rattle.pool_c.proofs.Places.{at_all, of_map}
use Rattle.pool_law.proofs.ListLemmas.{get-map}

abbrev pub held : PoolThread → Option Holding
held t = t.slot.held

abbrev pub IsReady : PoolThread → Type 0
IsReady t = t.state ≡ 1

abbrev pub in_boxes : {Z : Type 0} → List (Box Holding Z) → List (Option Holding)
in_boxes all = map Some (map box_value all)

-- one handle more
module _ (threads : List PoolThread) (at : ℕ) (r : PoolThread) (lt : at < length threads) where
  more : take (at + 1) (set threads at r) ≡ take at threads ++ r ∷ []
  more = take_more_set threads at r lt

  pub ready_more : All IsReady (take at threads) → IsReady r → All IsReady (take (at + 1) (set threads at r))
  ready_more all is = subst (All IsReady) (sym more) (all_pushed IsReady (take at threads) r all is)

  pub held_more : {Z : Type 0} (all : List (Box Holding Z)) (b : Box Holding Z) → 0 < length all
      → b ≡ slice_index_or all 0 b → held r ≡ Some b.value
      → map held (take (at + 1) (set threads at r)) ++ in_boxes (remove all 0)
      ≡ map held (take at threads) ++ in_boxes all
  held_more [] b some first is = absurd (omega (arith, some))
  held_more (x ∷ xs) b some first is =
      ap (λ ts. map held ts ++ in_boxes xs) more
      ∙ ap (λ hs. hs ++ in_boxes xs) (map-append held (take at threads) (r ∷ []))
      ∙ append_assoc (map held (take at threads)) (held r ∷ []) (in_boxes xs)
      ∙ ap (λ h. map held (take at threads) ++ h ∷ in_boxes xs) (is ∙ ap (λ y. Some (box_value y)) first)

-- no box is left
pub none_in : {Z : Type 0} (all : List (Box Holding Z)) → length all ≡ 0 → length (in_boxes all) ≡ 0
none_in [] none = refl
none_in (x ∷ xs) none = absurd (omega (arith, none))

-- each handle has the new thread of its number
pub each_opened : (common : Common) (members : List Member) (threads : List PoolThread)
    → ArePut (map (behind common) members) threads → All (IsThread common.shared) members
    → AreNewThreads common.shared.table.layout members → (k : ℕ) (t : PoolThread) → slice_get threads k ≡ Some t
    → HasNew common k t
each_opened common members threads put are new k t there =
    let e : slice_get (map Some (map (behind common) members)) k ≡ Some (held t) =
    subst (λ hs. slice_get hs k ≡ Some (held t)) put.held (get-map held threads k t there) in
    let h = of_map Some (map (behind common) members) k (held t) e in
    let m = of_map (behind common) members k h.0 h.1 in
    record {
      member = m.0;
      has = record { ready = at_all IsReady threads k t put.ready there; held = h.2 ∙ ap (λ x. Some x) m.2 };
      thread = at_all (IsThread common.shared) members k m.0 are m.1;
      new = new.each k m.0 m.1;
      settled = at_all IsSettled members k m.0 new.settled m.1;
    }
