-- A table as it opens meets the rule.
use Rattle.std.proofs.Common.{◌≡◌, ℕ, ◌+◌, ◌*◌, ◌^◌, ◌<◌, ◌≤◌, List, [], ◌∷◌, length, sym, refl, ap, ◌∙◌, subst, arith}
use Rattle.std.specs.Prelude.{Option, Some, sum_by, slice_index}
use Rattle.std.proofs.lemmas.List.{get_or-replicate, get_or_past, length-replicate, length-map}
use Rattle.std.proofs.lemmas.List.Elements.{All-nil, All-cons}
use Rattle.std.proofs.lemmas.List.Folds.{sum_by-replicate}
use Rattle.std.proofs.lemmas.List.Sums.{sum_by-cons}
use mathlib.Core.Logic.{dite}
use native.Mathlib.Decide.{dec_le}
use mathlib.Core.Option.{some}
use Rattle.atomic_table.specs.Table.{opening}
use Rattle.atomic_table.proofs.Lists.{at_map}
use Rattle.board_table.specs.declared.views.Stake.{Stake}
use Rattle.board_table.specs.declared.views.BoardView.{BoardView}
use Rattle.board_table.specs.declared.views.Opening.{Opening}
use Rattle.board_table.specs.Names.{named}
use Rattle.board_table.specs.Views.{no_stake, more, stake_of, total, inside_total, spent, moved, first_view}
use Rattle.board_table.specs.Sound.{IsSound, IsView, Knows, StandsIn, section_word, count_word, reserve}
use Rattle.board_table.specs.Openings.{AreOpening, AreHomes}
use Rattle.step_law.proofs.Changes.{element_at}

one_sum : (f : BoardView → ℕ) (v : BoardView) → sum_by f (v ∷ []) ≡ f v
one_sum f v = let a = sum_by-cons f v [] in omega (arith, a)

module _ {H T : Type 0} (stands : T → ℕ → H → Type 0) (left : H → ℕ) (o : Opening T) where
  abbrev first : BoardView
  first = first_view o.composites o.moves o.turns

  first_stake : (k : ℕ) → k < o.composites → stake_of k first ≡ more no_stake
  first_stake k lt = get_or-replicate o.composites k (more no_stake) no_stake lt

  first_total : (f : Stake → ℕ) (k : ℕ) → k < o.composites
      → sum_by (λ (u : BoardView). f (stake_of k u)) (first ∷ []) ≡ f (more no_stake)
  first_total f k lt = one_sum (λ (u : BoardView). f (stake_of k u)) first ∙ ap f (first_stake k lt)

  no_sum : (f : Stake → ℕ) → f (more no_stake) ≡ 0 → sum_by f first.stakes ≡ 0
  no_sum f z =
      sum_by-replicate f o.composites (more no_stake) ∙ ap (λ (n : ℕ). o.composites * n) z ∙ omega arith

  pub opens_sound : (origin : Option T) (words : List ℕ) (slots : List (Option H)) → length slots ≡ o.composites
      → AreOpening o.composites words → named o.origin ≡ origin → AreHomes stands left origin o.turns slots
      → o.moves < 2 ^ 30 → o.turns < 2 ^ 50 → IsSound stands left o (opening words slots first)
  opens_sound origin words slots many are name homes few room =
      record {
        words = are.many;
        homes = length-map slots some ∙ many;
        views = All-cons IsView first [] (record { inside = tt; taken = λ k. none_taken k }) (All-nil IsView);
        knows = All-cons (Knows (first ∷ [])) first [] tt (All-nil (Knows (first ∷ [])));
        composites = λ k lt.
            let tc = first_total (λ (x : Stake). x.counts) k lt in let tm = first_total (λ (x : Stake). x.marks) k lt in
            let tr = first_total (λ (x : Stake). x.retained) k lt in
            let ts = first_total (λ (x : Stake). x.sections) k lt in
            let tk = first_total (λ (x : Stake). x.taken) k lt in let zero_in = one_sum (λ (v : BoardView). 0) first in
            let h = homes.each k (omega (arith, lt, many)) in
            let all = total k (first ∷ []) in let c : ℕ = all.counts in let m : ℕ = all.marks in
            let rt : ℕ = all.retained in let n : ℕ = all.sections in let g : ℕ = all.taken in
            let i : ℕ = inside_total k (first ∷ []) in
            let tc' : c ≡ 1 = tc in let tm' : m ≡ 0 = tm in let tr' : rt ≡ 0 = tr in let ts' : n ≡ 0 = ts in
            let tk' : g ≡ 0 = tk in let i' : i ≡ 0 = zero_in in
            let sw : ℕ = slice_index words (section_word k) in let sw' : sw ≡ 0 = are.sections k lt in
            let cw : ℕ = slice_index words (count_word k) in let cw' : cw ≡ 1 = are.counts k lt in
            record {
              section_is = let goal : sw ≡ 2 * n + i = omega (arith, sw', ts', i') in goal;
              alone = let goal : i ≤ 1 = omega (arith, i') in goal;
              count_is = let goal : cw ≡ c = omega (arith, cw', tc') in goal;
              few = let goal : c ≤ 1 + rt = omega (arith, tc', tr') in goal;
              ended = λ z. absurd (omega (arith, tc', z));
              counted = λ p. let goal : m + g ≡ 0 = omega (arith, tm', tk') in goal;
              home_is = λ out here. (
                h.0,
                at_map some slots k (Some h.0) (element_at slots k (Some h.0) h.1),
                subst (λ (y : Option T). StandsIn stands y k h.0) (sym name) h.2,
                subst (λ (t : ℕ). reserve t ≤ left h.0) (sym (one_sum (λ (v : BoardView). v.turns) first)) h.3,
              );
              empty = λ out gone. absurd (omega (arith, tk', gone));
            };
        moves = one_sum moved first
            ∙ (let a = no_sum (λ (x : Stake). x.retained) refl in let m : ℕ = o.moves in let s : ℕ =
            sum_by (λ (x : Stake). x.retained) first.stakes in let a' : s ≡ 0 = a in let goal : s + m ≡ m = omega (
              arith,
              a',
            ) in goal);
        few = few;
        sections = one_sum spent first
            ∙ (let a = no_sum (λ (x : Stake). x.sections) refl in let m : ℕ = o.turns in let s : ℕ =
            sum_by (λ (x : Stake). x.sections) first.stakes in let a' : s ≡ 0 = a in let goal : s + m ≡ m = omega (
              arith,
              a',
            ) in goal);
        room = room;
      }
    where
      none_taken : (k : ℕ) → (stake_of k first).taken ≤ (stake_of k first).sections
      none_taken k =
          dite (dec_le (length first.stakes) k)
          (λ past. subst (λ (x : Stake). x.taken ≤ x.sections) (sym (get_or_past first.stakes k no_stake past))
          (let goal : 0 ≤ 0 = omega arith in goal))
          (λ ne. subst (λ (x : Stake). x.taken ≤ x.sections)
          (sym (first_stake k (let e = length-replicate o.composites (more no_stake) in omega (arith, ne, e))))
          (let goal : 0 ≤ 0 = omega arith in goal))
