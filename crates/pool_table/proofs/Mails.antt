-- That all letters are mailed, after each kind of change of the views.
use Rattle.std.proofs.Common.{◌≡◌, ⊎_elim, ℕ, ◌+◌, List, [], ◌∷◌, ◌++◌, set, sym, refl, ap, ◌∙◌, subst, arith}
use Rattle.std.specs.Prelude.{Some, None, All, sum_by}
use Rattle.std.proofs.lemmas.List.Elements.{All-cons, All-head, All-tail, All-set, All-weaker, All-nil}
use mathlib.Core.Option.{some}
use lib.ListN.{get_elem?}
use Rattle.step_law.proofs.Changes.{each_at, sum_same}
use Rattle.pool_table.specs.declared.views.Entry.{Entry}
use Rattle.pool_table.specs.declared.views.Letter.{Letter}
use Rattle.pool_table.specs.declared.views.Part.{Part}
use Rattle.pool_table.specs.declared.views.SeatView.{SeatView}
use Rattle.pool_table.specs.Views.{parts_of, empty_part}
use Rattle.pool_table.specs.Counts.{weigh, weigh_in}
use Rattle.pool_table.specs.Letters.{letter_sent, letter_received, letter_weight, sent_as, received_as, sent_on, received_on, IsInTurn, AreMailed}
use Rattle.pool_table.proofs.Lists.{cut_last, none_cut}
use Rattle.pool_table.proofs.Order.{longer, HasNone}
use Rattle.pool_table.proofs.Sequence.{weigh_longer}

-- all parts of all views are in turn
abbrev pub AreInTurn : List SeatView → Type 0
AreInTurn views = All (λ (v : SeatView). All IsInTurn (parts_of v)) views

-- what all views have of letters
abbrev pub lying : (Letter → ℕ) → SeatView → ℕ
lying f v = sum_by f v.letters

-- the letters of an entry have the next numbers of the part
pub record IsNext (q : Part) (e : Entry) : Type 0 where
  pub sent : (x : Letter) → letter_sent e ≡ Some x → x.number ≡ sent_on x.from x.to q.notes + 1
  pub received : (x : Letter) → letter_received e ≡ Some x → x.number ≡ received_on x.from x.to q.notes + 1

pub no_letter : (q : Part) (e : Entry) → letter_sent e ≡ None → letter_received e ≡ None → IsNext q e
no_letter q e a b = record {
  sent = λ x is. absurd (none x (sym a ∙ is));
  received = λ x is. absurd (none x (sym b ∙ is));
}
  where
    none : (x : Letter) → None ≡ Some x → ⊥
    none x is = cc is

pub turn_empty : (q : Part) → q.notes ≡ [] → IsInTurn q
turn_empty q none = record {
  sent = λ before after e x is _. none_cut before after e (sym none ∙ is);
  received = λ before after e x is _. none_cut before after e (sym none ∙ is);
}

-- a part with one entry more, of the next numbers
pub turn_longer : (q : Part) (e : Entry) → IsNext q e → IsInTurn q → IsInTurn (longer q e)
turn_longer q e next old = record {
  sent = λ before after y x is has. ⊎_elim
      (λ (w : (q.notes ≡ before) × (e ≡ y) × (after ≡ [])).
      next.sent x (ap letter_sent w.1 ∙ has) ∙ ap (λ (l : List Entry). sent_on x.from x.to l + 1) w.0)
      (λ (w : (rest : List Entry) × (after ≡ rest ++ e ∷ []) × (q.notes ≡ before ++ y ∷ rest)).
      old.sent before w.0 y x w.2 has)
      (cut_last q.notes before after e y is);
  received = λ before after y x is has. ⊎_elim
      (λ (w : (q.notes ≡ before) × (e ≡ y) × (after ≡ [])).
      next.received x (ap letter_received w.1 ∙ has) ∙ ap (λ (l : List Entry). received_on x.from x.to l + 1) w.0)
      (λ (w : (rest : List Entry) × (after ≡ rest ++ e ∷ []) × (q.notes ≡ before ++ y ∷ rest)).
      old.received before w.0 y x w.2 has)
      (cut_last q.notes before after e y is);
}

pub turns_same : (views : List SeatView) (id : ℕ) (v w : SeatView) → get_elem? views id ≡ some v
    → parts_of w ≡ parts_of v → AreInTurn views → AreInTurn (set views id w)
turns_same views id v w at same all =
    All-set (λ (u : SeatView). All IsInTurn (parts_of u)) views id w
    (subst (λ (ps : List Part). All IsInTurn ps) (sym same)
    (each_at (λ (u : SeatView). All IsInTurn (parts_of u)) views id v all at)) all

pub turns_entry : (views : List SeatView) (id : ℕ) (v w : SeatView) (e : Entry) → get_elem? views id ≡ some v
    → parts_of w ≡ longer v.own e ∷ v.others → IsNext v.own e → AreInTurn views → AreInTurn (set views id w)
turns_entry views id v w e at grows next all =
    let here = each_at (λ (u : SeatView). All IsInTurn (parts_of u)) views id v all at in
    All-set (λ (u : SeatView). All IsInTurn (parts_of u)) views id w
    (subst (λ (ps : List Part). All IsInTurn ps) (sym grows)
    (All-cons IsInTurn (longer v.own e) v.others
    (turn_longer v.own e next (All-head IsInTurn v.own v.others here)) (All-tail IsInTurn v.own v.others here))) all

-- a view with the same parts and letters
unfoldable pub mailed_same : (views : List SeatView) (id : ℕ) (v w : SeatView) → get_elem? views id ≡ some v
    → parts_of w ≡ parts_of v → w.letters ≡ v.letters → AreMailed views → AreMailed (set views id w)
mailed_same views id v w at same letters m =
    let weight : (f : Entry → ℕ) → weigh f w ≡ weigh f v = (λ f. ap (λ (ps : List Part). weigh_in f ps) same) in
    record {
      kept = λ f.
          let a = sum_same (weigh (sent_as f)) views id v w at (weight (sent_as f)) in
          let b = sum_same (weigh (received_as f)) views id v w at (weight (received_as f)) in
          let c = sum_same (lying f) views id v w at (ap (λ (xs : List Letter). sum_by f xs) letters) in
          let d = m.kept f in omega (arith, a, b, c, d);
      in_turn = turns_same views id v w at same m.in_turn;
    }

-- a view with one entry more, which neither sends nor receives a letter
unfoldable pub mailed_entry : (views : List SeatView) (id : ℕ) (v w : SeatView) (e : Entry)
    → get_elem? views id ≡ some v
    → parts_of w ≡ longer v.own e ∷ v.others → w.letters ≡ v.letters → letter_sent e ≡ None → letter_received e ≡ None
    → AreMailed views → AreMailed (set views id w)
mailed_entry views id v w e at grows letters no_sent no_received m =
    record {
      kept = λ f.
          let x : sent_as f e ≡ 0 = ap (letter_weight f) no_sent in
          let y : received_as f e ≡ 0 = ap (letter_weight f) no_received in
          let a = sum_same (weigh (sent_as f)) views id v w at
          (let g = weigh_longer (sent_as f) v w e grows in omega (arith, g, x)) in
          let b = sum_same (weigh (received_as f)) views id v w at
          (let g = weigh_longer (received_as f) v w e grows in omega (arith, g, y)) in
          let c = sum_same (lying f) views id v w at (ap (λ (xs : List Letter). sum_by f xs) letters) in
          let d = m.kept f in omega (arith, a, b, c, d);
      in_turn = turns_entry views id v w e at grows (no_letter v.own e no_sent no_received) m.in_turn;
    }

-- any change of views under which each part is one that was there, or is empty and has no number, and nothing weighs
-- more or less
unfoldable pub mailed_regroups : (views after : List SeatView)
    → ((f : Entry → ℕ) → sum_by (weigh f) after ≡ sum_by (weigh f) views)
    → ((f : Letter → ℕ) → sum_by (lying f) after ≡ sum_by (lying f) views) →
    ((P : Part → Type 0) → P (empty_part None) → All (λ (u : SeatView). All P (parts_of u)) views
    → All (λ (u : SeatView). All P (parts_of u)) after) →
    AreMailed views → AreMailed after
mailed_regroups views after same letters regroups m = record {
  kept = λ f. let a = same (sent_as f) in let b = same (received_as f) in let c = letters f in let d = m.kept f in
      omega (arith, a, b, c, d);
  in_turn = regroups IsInTurn (turn_empty (empty_part None) refl) m.in_turn;
}

-- the view of a table as it is made
unfoldable pub mailed_opens : (v : SeatView) → ((f : Entry → ℕ) → sum_by (weigh f) (v ∷ []) ≡ 0)
    → ((f : Letter → ℕ) → sum_by (lying f) (v ∷ []) ≡ 0) → HasNone v → AreMailed (v ∷ [])
mailed_opens v none letters all = record {
  kept = λ f. let a = none (sent_as f) in let b = none (received_as f) in let c = letters f in omega (arith, a, b, c);
  in_turn =
      All-cons (λ (u : SeatView). All IsInTurn (parts_of u)) v []
      (All-weaker (λ (q : Part). q.notes ≡ []) IsInTurn turn_empty (parts_of v) all)
      (All-nil (λ (u : SeatView). All IsInTurn (parts_of u)));
}
