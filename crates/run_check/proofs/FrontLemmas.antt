-- Fronts of histories.
use Rattle.std.proofs.Common.{◌≡◌, ℕ, zero, suc, ◌+◌, ◌-◌, ◌<◌, ◌≤◌, Bool, true, false, List, [], ◌∷◌, ◌++◌, length, take, drop, length-drop, eqb-true, ⊎_elim, refl, sym, ap, subst, arith, ◌∙◌, append-nil}
use Rattle.std.specs.Prelude.{◌==◌}
use Rattle.std.specs.List.{All}
use Rattle.std.proofs.lemmas.Bool.{cases_lt, cond_both}
use Rattle.std.proofs.lemmas.List.{append_cancel_left, length-take-le, take-take}
use Rattle.std.proofs.lemmas.List.Elements.{All-nil, All-cons, All-head, All-same, All-append, All-weaker}
use Rattle.pool_law.specs.declared.note.Did.{Did}
use Rattle.pool_law.specs.Logs.{History, numbered}
use Rattle.pool_law.proofs.HistoryLemmas.{append-assoc, one_if, numbered-step}
use Rattle.run_check.specs.Gathering.{AreNumbered, HasNext, IsStuck}
use Rattle.run_check.specs.Fronts.{IsFront, StopsAt}
use Rattle.run_check.proofs.LeastLemmas.{All-behind}
use Rattle.run_check.proofs.MergeLemmas.{numbered-own, numbered-other, did_first}
use Rattle.run_check.proofs.MergingLemmas.{SoFar, so-far-stuck}

-- ---- The notes of a lane in a history.

pub numbered-from : (lane n m : ℕ) (h : History) → m ≤ n → All (λ x. m ≤ x.0) (numbered lane n h)
numbered-from lane n m [] le = All-nil (λ (x : ℕ × Did). m ≤ x.0)
numbered-from lane n m (e ∷ h) le =
    let P : ℕ × Did → Type 0 = λ x. m ≤ x.0 in
    let rest : All P (numbered lane (n + 1) h) = numbered-from lane (n + 1) m h (omega (arith, le)) in
    cond_both (e.0 == lane) ((n, e.1) ∷ numbered lane (n + 1) h) (numbered lane (n + 1) h) (λ z. All P z)
    (λ _. All-cons P (n, e.1) (numbered lane (n + 1) h) le rest)
    (λ _. rest)

numbered-split : (lane n k : ℕ) (h : History) →
    numbered lane n h ≡ numbered lane n (take k h) ++ numbered lane (n + k) (drop k h)
numbered-split lane n zero h = ap (λ (m : ℕ). numbered lane m h) (omega arith)
numbered-split lane n (suc k) [] = refl
numbered-split lane n (suc k) (e ∷ h) =
    let next : n + 1 + k ≡ n + suc k = omega arith in
    numbered-step lane n e h
    ∙ ap (λ xs. one_if lane n e ++ xs)
    (numbered-split lane (n + 1) k h
    ∙ ap (λ (m : ℕ). numbered lane (n + 1) (take k h) ++ numbered lane m (drop k h)) next)
    ∙ sym (append-assoc (one_if lane n e) (numbered lane (n + 1) (take k h)) (numbered lane (n + suc k) (drop k h)))
    ∙ ap (λ xs. xs ++ numbered lane (n + suc k) (drop k h)) (sym (numbered-step lane n e (take k h)))

-- the notes of lanes that begin with a history begin with each of its fronts
pub front-of : (notes left : ℕ → List (ℕ × Did)) (h : History) →
    ((lane : ℕ) → notes lane ≡ numbered lane 1 h ++ left lane) → (n : ℕ) → n ≤ length h →
    ((lane : ℕ) → All (λ x. n < x.0) (left lane)) → IsFront notes (take n h)
front-of notes left h are n within beyond =
    let later : ℕ → List (ℕ × Did) = λ lane. numbered lane (1 + n) (drop n h) ++ left lane in
    let P : ℕ × Did → Type 0 = λ x. n < x.0 in
    let long : length (take n h) ≡ n = length-take-le n h within in
    record {
      later = later;
      first = λ lane.
          are lane
          ∙ ap (λ xs. xs ++ left lane) (numbered-split lane 1 n h)
          ∙ append-assoc (numbered lane 1 (take n h)) (numbered lane (1 + n) (drop n h)) (left lane);
      behind = λ lane.
          subst (λ (m : ℕ). All (λ (x : ℕ × Did). m < x.0) (later lane)) (sym long)
          (All-append P (numbered lane (1 + n) (drop n h)) (left lane)
          (All-weaker (λ (x : ℕ × Did). 1 + n ≤ x.0) P (λ x le. omega (arith, le)) (numbered lane (1 + n) (drop n h))
          (numbered-from lane (1 + n) (1 + n) (drop n h) (omega arith)))
          (beyond lane));
    }

pub whole-front : (notes : ℕ → List (ℕ × Did)) (h : History) → AreNumbered 1 notes h → IsFront notes h
whole-front notes h are = record {
  later = λ lane. [];
  first = λ lane. are lane ∙ sym (append-nil (numbered lane 1 h));
  behind = λ lane. All-nil (λ (x : ℕ × Did). length h < x.0);
}

-- ---- Two histories of the same notes.

-- one begins with the other, where what is behind that one has later numbers
pub record Continues (b : ℕ) (f h : History) (A B : ℕ → List (ℕ × Did)) : Type 0 where
  pub front : f ≡ take (length f) h
  pub rest : (lane : ℕ) → B lane ≡ numbered lane (b + length f) (drop (length f) h) ++ A lane

first-same : (b : ℕ) (e d : ℕ × Did) (f h : History) (A B : ℕ → List (ℕ × Did)) →
    ((lane : ℕ) → numbered lane b (d ∷ h) ++ A lane ≡ numbered lane b (e ∷ f) ++ B lane) →
    ((lane : ℕ) → All (λ x. b + 1 ≤ x.0) (B lane)) → e ≡ d
first-same b e d f h A B same beyond = go (e.0 == d.0) refl
  where
    P : ℕ × Did → Type 0
    P = λ x. b + 1 ≤ x.0

    here : (b, d.1) ∷ (numbered d.0 (b + 1) h ++ A d.0) ≡ numbered d.0 b (e ∷ f) ++ B d.0
    here = sym (ap (λ xs. xs ++ A d.0) (numbered-own b d h)) ∙ same d.0

    go : (t : Bool) → (e.0 == d.0) ≡ t → e ≡ d
    go false other =
        let no_first : All P ((b, d.1) ∷ (numbered d.0 (b + 1) h ++ A d.0)) =
        All-same P _ _ (here ∙ ap (λ xs. xs ++ B d.0) (numbered-other d.0 b e f other))
        (All-append P (numbered d.0 (b + 1) f) (B d.0) (numbered-from d.0 (b + 1) (b + 1) f (omega arith)) (beyond d.0))
        in
        absurd (omega (arith, All-head P (b, d.1) (numbered d.0 (b + 1) h ++ A d.0) no_first))
    go true own =
        let lane : e.0 ≡ d.0 = eqb-true e.0 d.0 own in
        let first : (b, d.1) ∷ (numbered d.0 (b + 1) h ++ A d.0) ≡ (b, e.1) ∷ (numbered d.0 (b + 1) f ++ B d.0) =
        here
        ∙ subst (λ (l : ℕ). numbered l b (e ∷ f) ++ B l ≡ (b, e.1) ∷ (numbered l (b + 1) f ++ B l)) lane
        (ap (λ xs. xs ++ B e.0) (numbered-own b e f)) in
        let did : d.1 ≡ e.1 = ap (did_first d.1) first in
        λ i. (lane i, sym did i)

pub continues : (b : ℕ) (f h : History) (A B : ℕ → List (ℕ × Did)) → length f ≤ length h →
    ((lane : ℕ) → numbered lane b h ++ A lane ≡ numbered lane b f ++ B lane) →
    ((lane : ℕ) → All (λ x. b + length f ≤ x.0) (B lane)) → Continues b f h A B
continues b [] h A B within same beyond = record {
  front = refl;
  rest = λ lane. sym (same lane) ∙ ap (λ (m : ℕ). numbered lane m h ++ A lane) (omega arith);
}
continues b (e ∷ f) [] A B within same beyond = absurd (omega (arith, within))
continues b (e ∷ f) (d ∷ h) A B within same beyond =
    let later : (lane : ℕ) → All (λ x. b + 1 ≤ x.0) (B lane) =
    (λ lane.
    All-weaker (λ (x : ℕ × Did). b + suc (length f) ≤ x.0) (λ (x : ℕ × Did). b + 1 ≤ x.0) (λ x le. omega (arith, le))
    (B lane) (beyond lane)) in
    let behind : (lane : ℕ) → All (λ x. b + 1 + length f ≤ x.0) (B lane) =
    (λ lane.
    All-weaker (λ (x : ℕ × Did). b + suc (length f) ≤ x.0) (λ (x : ℕ × Did). b + 1 + length f ≤ x.0)
    (λ x le. omega (arith, le)) (B lane) (beyond lane)) in
    let first : e ≡ d = first-same b e d f h A B same later in
    let others : (lane : ℕ) → numbered lane (b + 1) h ++ A lane ≡ numbered lane (b + 1) f ++ B lane =
    (λ lane.
    append_cancel_left (one_if lane b d) _ _
    (sym (append-assoc (one_if lane b d) (numbered lane (b + 1) h) (A lane))
    ∙ ap (λ xs. xs ++ A lane) (sym (numbered-step lane b d h))
    ∙ same lane
    ∙ ap (λ xs. xs ++ B lane) (numbered-step lane b e f ∙ ap (λ x. one_if lane b x ++ numbered lane (b + 1) f) first)
    ∙ append-assoc (one_if lane b d) (numbered lane (b + 1) f) (B lane))) in
    let on : Continues (b + 1) f h A B = continues (b + 1) f h A B (omega (arith, within)) others behind in
    let next : b + 1 + length f ≡ b + suc (length f) = omega arith in
    record {
      front = λ i. first i ∷ on.front i;
      rest = λ lane. on.rest lane ∙ ap (λ (m : ℕ). numbered lane m (drop (length f) h) ++ A lane) next;
    }

-- a front that is no longer than another is a front of it
pub fronts-agree : (notes : ℕ → List (ℕ × Did)) (g h : History) → IsFront notes g → IsFront notes h →
    length g ≤ length h → g ≡ take (length g) h
fronts-agree notes g h short long within =
    let on : Continues 1 g h long.later short.later =
    continues 1 g h long.later short.later within (λ lane. sym (long.first lane) ∙ short.first lane)
    (λ lane.
    All-weaker (λ (x : ℕ × Did). length g < x.0) (λ (x : ℕ × Did). 1 + length g ≤ x.0) (λ x lt. omega (arith, lt))
    (short.later lane) (short.behind lane)) in
    on.front

-- ---- Where notes stop being a history.

module _ (all left : ℕ → List (ℕ × Did)) (h : History) (number least : ℕ) (s : SoFar all left h number)
    (most : least ≤ number) (low : (lane : ℕ) → All (λ x. least ≤ x.0) (left lane)) where
  -- a number that is left is not the next, but one that stands already
  twice : least < number → (((lane : ℕ) → All (λ x. least < x.0) (left lane)) → ⊥) → (g : History) →
      length g ≡ least → IsFront all g → ⊥
  twice lesser there g long front =
      let within : length g ≤ length h = omega (arith, s.numbers, lesser, long) in
      let on : Continues 1 g h left front.later =
      continues 1 g h left front.later within (λ lane. sym (s.so_far lane) ∙ front.first lane)
      (λ lane.
      All-weaker (λ (x : ℕ × Did). length g < x.0) (λ (x : ℕ × Did). 1 + length g ≤ x.0) (λ x lt. omega (arith, lt))
      (front.later lane) (front.behind lane)) in
      there
      (λ lane.
      subst (λ (m : ℕ). All (λ (x : ℕ × Did). m < x.0) (left lane)) long
      (All-behind (λ (x : ℕ × Did). length g < x.0) (numbered lane (1 + length g) (drop (length g) h)) (left lane)
      (All-same (λ (x : ℕ × Did). length g < x.0) _ _ (sym (on.rest lane)) (front.behind lane))))

  -- no lane goes on with the next number
  next-missing : number ≤ least → IsStuck number left → (g : History) → length g ≡ least → IsFront all g → ⊥
  next-missing all_later stuck g long front =
      let one : length g ≡ length h + 1 = omega (arith, s.numbers, all_later, most, long) in
      let on : Continues 1 h g front.later left =
      continues 1 h g front.later left (omega (arith, one)) (λ lane. sym (front.first lane) ∙ s.so_far lane)
      (λ lane.
      All-weaker (λ (x : ℕ × Did). least ≤ x.0) (λ (x : ℕ × Did). 1 + length h ≤ x.0)
      (λ x le. omega (arith, le, all_later, s.numbers)) (left lane) (low lane)) in
      found (drop (length h) g) (omega (arith, length-drop (length h) g, one)) on.rest
    where
      found : (rest : History) → 1 ≤ length rest →
          ((lane : ℕ) → left lane ≡ numbered lane (1 + length h) rest ++ front.later lane) → ⊥
      found [] some are = omega (arith, some)
      found (e ∷ rest) some are =
          let same : 1 + length h ≡ number = omega (arith, s.numbers) in
          stuck e.0
          (subst (λ (xs : List (ℕ × Did)). HasNext number xs)
          (sym (are e.0 ∙ ap (λ xs. xs ++ front.later e.0) (numbered-own (1 + length h) e rest))) same)

  pub stops : IsStuck number left → (((lane : ℕ) → left lane ≡ []) → ⊥) →
      (least < number → ((lane : ℕ) → All (λ x. least < x.0) (left lane)) → ⊥) → (kept : History) →
      kept ≡ take (least - 1) h → StopsAt all kept least
  stops stuck some there kept is = record {
    law = so-far-stuck all left h number s stuck some;
    long = ap length is ∙ length-take-le (least - 1) h (omega (arith, s.numbers, most));
    before = λ n below.
        subst (λ (f : History). IsFront all f)
        (sym (ap (take n) is ∙ take-take n (least - 1) h (omega (arith, below))))
        (front-of all left h s.so_far n (omega (arith, below, most, s.numbers))
        (λ lane.
        All-weaker (λ (x : ℕ × Did). least ≤ x.0) (λ (x : ℕ × Did). n < x.0) (λ x le. omega (arith, le, below))
        (left lane) (low lane)));
    with_it = λ g long front.
        ⊎_elim
        (λ lesser. twice lesser (there lesser) g long front)
        (λ all_later. next-missing all_later stuck g long front)
        (cases_lt least number);
  }
