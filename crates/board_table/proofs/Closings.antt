-- What is known when the table is closed with the view that has all turns and sections.
use Rattle.std.proofs.Common.{◌≡◌, ◌≢◌, ℕ, ◌+◌, ◌<◌, ◌≤◌, List, length, sym, refl, ap, ◌∙◌, arith}
use Rattle.std.specs.Prelude.{Option, Some, None, IfSome, sum_by}
use mathlib.Core.Option.{some}
use lib.ListN.{get_elem?}
use Rattle.atomic_table.specs.Table.{State, Final, Seen}
use Rattle.step_law.proofs.Changes.{each_at, sum_two, sum_only, in_list}
use Rattle.board_table.specs.declared.views.Stake.{Stake}
use Rattle.board_table.specs.declared.views.Inside.{Inside}
use Rattle.board_table.specs.declared.views.BoardView.{BoardView}
use Rattle.board_table.specs.declared.views.Opening.{Opening}
use Rattle.board_table.specs.Views.{stake_of, total, inside_total, is_at, is_in, spent}
use Rattle.board_table.specs.Sound.{IsSound, IsView}
use Rattle.board_table.specs.Closed.{HasAll, AreClosed}
use Rattle.board_table.proofs.Stakes.{one_of}

module _ {H T : Type 0} (stands : T → ℕ → H → Type 0) (left : H → ℕ) (o : Opening T) where
  abbrev St : Type 0
  St = State (Option H) BoardView

  -- another view has no turn, so it is in no section, and it took nothing
  idle : (s : St) (r : IsSound stands left o s) (id j : ℕ) (v u : BoardView) → j ≢ id → get_elem? s.views id ≡ some v
      → get_elem? s.views j ≡ some u → HasAll o v → (k : ℕ) → (is_in k u ≡ 0) × ((stake_of k u).taken ≡ 0)
  idle s r id j v u ne at bt all k =
      let a = sum_two spent s.views id j v u (λ e. ne (sym e)) at bt in let b = r.sections in let fine =
      each_at IsView s.views j u r.views bt in
      let p : ℕ = spent v in let q : ℕ = spent u in let t : ℕ = sum_by spent s.views in let a' : p + q ≤ t = a in let b'
      : t ≡ o.turns = b in let all' : p ≡ o.turns = all in let none : q ≡ 0 = omega (arith, a', b', all') in
      let y : ℕ = sum_by (λ (x : Stake). x.sections) u.stakes in let z : ℕ = u.turns in let none' : y + z ≡ 0 = none in
      let no_turn : z ≡ 0 = omega (arith, none') in let one = one_of (λ (x : Stake). x.sections) refl k u in let n : ℕ =
      (stake_of k u).sections in let one' : n ≤ y = one in let le = fine.taken k in let m : ℕ = (stake_of k u).taken in
      let le' : m ≤ n = le in
      (outside u.inside no_turn fine.inside, (let goal : m ≡ 0 = omega (arith, none', one', le') in goal))
    where
      outside : (y : Option Inside) → u.turns ≡ 0
          → IfSome y (λ (x : Inside). (0 < (stake_of x.composite u).counts + (stake_of x.composite u).marks)
          × (0 < u.turns)) → is_at k y ≡ 0
      outside None z f = refl
      outside (Some x) z f = let t : ℕ = u.turns in let z' : t ≡ 0 = z in let f' : 0 < t = f.1 in
          absurd (omega (arith, z', f'))

  pub closes : (id : ℕ) (v : BoardView) (words : List ℕ) (slots homes : List (Option H)) → HasAll o v → v.inside ≡ None
      → Final (Seen (IsSound stands left o) id v) words slots → length homes ≡ o.composites
      → ((k : ℕ) → k < o.composites → get_elem? homes k ≡ get_elem? slots k) → AreClosed stands o v homes
  closes id v words slots homes all out final many laid =
      let s = final.0 in let r = final.1.0 in let at = final.1.1 in let values = final.4 in
      let none_in : (k : ℕ) → inside_total k s.views ≡ 0 = (λ k. sum_only (is_in k) s.views id v at
      (λ j u ne bt. (idle s r id j v u ne at bt all k).0) ∙ ap (is_at k) out) in
      let taken_is : (k : ℕ) → (total k s.views).taken ≡ (stake_of k v).taken = (λ k.
      sum_only (λ (u : BoardView). (stake_of k u).taken) s.views id v at
      (λ j u ne bt. (idle s r id j v u ne at bt all k).1)) in
      record {
        many = many;
        left = λ k lt z. let h = (r.composites k lt).home_is (none_in k) (taken_is k ∙ z) in
            (h.0, in_list homes k (Some h.0) (laid k lt ∙ values k (Some h.0) h.1), h.2);
        taken = λ k lt p. let e = (r.composites k lt).empty (none_in k) (let a = taken_is k in omega (arith, a, p)) in
            in_list homes k None (laid k lt ∙ values k None e);
      }
