-- The rule after a change of one word, one view and one home.
use Rattle.std.proofs.Common.{◌≡◌, ◌≢◌, ℕ, ◌≤◌, List, length, set, sym, ◌∙◌, subst, arith, le_trans, length-set, get_or-set_other}
use Rattle.std.specs.Prelude.{Option, Some, None, IfSome, All, slice_index}
use Rattle.std.proofs.lemmas.List.Elements.{All-set}
use mathlib.Core.Logic.{dite}
use native.Mathlib.Decide.{ℕ_discrete}
use mathlib.Core.Option.{some}
use mathlib.Core.Option as maybe
use lib.ListN.{get_elem?}
use Rattle.atomic_table.specs.Table.{State}
use Rattle.step_law.proofs.Changes.{sum_same, each_set}
use Rattle.board_table.specs.declared.views.Stake.{Stake}
use Rattle.board_table.specs.declared.views.Inside.{Inside}
use Rattle.board_table.specs.declared.views.BoardView.{BoardView}
use Rattle.board_table.specs.declared.views.Opening.{Opening}
use Rattle.board_table.specs.Names.{named}
use Rattle.board_table.specs.Views.{stake_of, total, inside_total, is_in, turns_left, spent, moved}
use Rattle.board_table.specs.Sound.{IsSound, IsComposite, IsView, Knows, StandsIn, section_word, count_word, reserve}
use Rattle.board_table.proofs.Totals.{total_same, inside_same, fewer_turns}

-- fewer turns of the pool are kept for the core
pub kept_less : {H : Type 0} (Stands : H → Type 0) (left : H → ℕ) (least fewer : ℕ) (all : Stake)
    (inside section count : ℕ) (home : maybe.Option (maybe.Option (Option H))) → fewer ≤ least
    → IsComposite Stands left least all inside section count home
    → IsComposite Stands left fewer all inside section count home
kept_less Stands left least fewer all inside section count home le c =
    record {
      section_is = c.section_is;
      alone = c.alone;
      count_is = c.count_is;
      few = c.few;
      ended = c.ended;
      counted = c.counted;
      home_is = λ out here. let h = c.home_is out here in (h.0, h.1, h.2, le_trans le h.3);
      empty = c.empty;
    }

-- a composite that no step was on
pub kept_same : {H : Type 0} (Stands : H → Type 0) (left : H → ℕ) (least fewer : ℕ) (all all' : Stake)
    (inside inside' section section' count count' : ℕ) (home home' : maybe.Option (maybe.Option (Option H)))
    → fewer ≤ least → all' ≡ all → inside' ≡ inside → section' ≡ section → count' ≡ count → home' ≡ home
    → IsComposite Stands left least all inside section count home
    → IsComposite Stands left fewer all' inside' section' count' home'
kept_same {H} Stands left least fewer all all' inside inside' section section' count count' home home' le a b c d e k =
    subst (λ (x : Stake × ℕ × ℕ × ℕ × maybe.Option (maybe.Option (Option H))).
    IsComposite Stands left fewer x.0 x.1 x.2 x.3 x.4) (λ i. (sym a i, sym b i, sym c i, sym d i, sym e i))
    (kept_less Stands left least fewer all inside section count home le k)

-- where the sections made are as before, and the view that changes is in none
pub knows_kept : (views : List BoardView) (id : ℕ) (v w : BoardView) → get_elem? views id ≡ some v
    → ((j : ℕ) → (stake_of j w).sections ≡ (stake_of j v).sections) → w.turns ≤ v.turns → w.inside ≡ None
    → All (Knows views) views → All (Knows (set views id w)) (set views id w)
knows_kept views id v w at same le out all =
    each_set (Knows views) (Knows (set views id w)) views id w all
    (λ j u ne there knows. others u.inside knows)
    (subst (λ (y : Option Inside). IfSome y (λ (x : Inside). (x.number ≡ (total x.composite (set views id w)).sections)
    × (turns_left (set views id w) ≤ x.turns))) (sym out) tt)
  where
    others : (y : Option Inside)
        → IfSome y (λ (x : Inside). (x.number ≡ (total x.composite views).sections) × (turns_left views ≤ x.turns))
        → IfSome y (λ (x : Inside). (x.number ≡ (total x.composite (set views id w)).sections)
        × (turns_left (set views id w) ≤ x.turns))
    others None k = tt
    others (Some x) k = (
      k.0
          ∙ sym (sum_same (λ (u : BoardView). (stake_of x.composite u).sections) views id v w at (same x.composite)),
      le_trans (fewer_turns views id v w at le) k.1,
    )

module _ {H T : Type 0} (stands : T → ℕ → H → Type 0) (left : H → ℕ) (o : Opening T) where
  abbrev pub St : Type 0
  St = State (Option H) BoardView

  -- composite k, with its words and its home
  abbrev pub At : ℕ → List ℕ → List (maybe.Option (Option H)) → List BoardView → Type 0
  At k words homes views =
      IsComposite (StandsIn stands (named o.origin) k) left (reserve (turns_left views)) (total k views)
      (inside_total k views) (slice_index words (section_word k)) (slice_index words (count_word k)) (get_elem? homes k)

  -- a step on composite k
  pub changes : (s : St) (r : IsSound stands left o s) (id : ℕ) (v w : BoardView) (k i n : ℕ)
      (homes' : List (maybe.Option (Option H))) → get_elem? s.views id ≡ some v
      → ((j : ℕ) → j ≢ k → stake_of j w ≡ stake_of j v) → ((j : ℕ) → j ≢ k → is_in j w ≡ is_in j v)
      → w.turns ≤ v.turns → ((j : ℕ) → j ≢ k → (section_word j ≢ i) × (count_word j ≢ i)) → IsView w
      → All (Knows (set s.views id w)) (set s.views id w) → length homes' ≡ length s.homes
      → ((j : ℕ) → j ≢ k → get_elem? homes' j ≡ get_elem? s.homes j) → moved w ≡ moved v → spent w ≡ spent v
      → At k (set s.words i n) homes' (set s.views id w)
      → IsSound stands left o (record { words = set s.words i n; homes = homes'; views = set s.views id w })
  changes s r id v w k i n homes' at elsewhere away le apart fine knows wide homes moves turns here =
      record {
        words = length-set s.words i n ∙ r.words;
        homes = wide ∙ r.homes;
        views = All-set IsView s.views id w fine r.views;
        knows = knows;
        composites = λ j lt. dite (ℕ_discrete j k)
            (λ e. subst (λ (y : ℕ). At y (set s.words i n) homes' (set s.views id w)) (sym e) here)
            (λ ne. kept_same (StandsIn stands (named o.origin) j) left (reserve (turns_left s.views))
            (reserve (turns_left (set s.views id w))) (total j s.views) (total j (set s.views id w))
            (inside_total j s.views) (inside_total j (set s.views id w)) (slice_index s.words (section_word j))
            (slice_index (set s.words i n) (section_word j)) (slice_index s.words (count_word j))
            (slice_index (set s.words i n) (count_word j)) (get_elem? s.homes j) (get_elem? homes' j)
            (let a = fewer_turns s.views id v w at le in let x : ℕ = turns_left (set s.views id w) in let y : ℕ =
            turns_left s.views in let a' : x ≤ y = a in omega (arith, a'))
            (total_same s.views id v w at j (elsewhere j ne)) (inside_same s.views id v w at j (away j ne))
            (get_or-set_other s.words i (section_word j) n 0 (apart j ne).0)
            (get_or-set_other s.words i (count_word j) n 0 (apart j ne).1) (homes j ne) (r.composites j lt));
        moves = sum_same moved s.views id v w at moves ∙ r.moves;
        few = r.few;
        sections = sum_same spent s.views id v w at turns ∙ r.sections;
        room = r.room;
      }
