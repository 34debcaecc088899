-- The bits of a store: one of them changes, since a run goes or comes.
use Rattle.std.proofs.Common.{◌≡◌, ◌⊎◌, ℕ, ◌+◌, ◌*◌, ◌/◌, ◌%◌, ◌<◌, ◌≤◌, [], ◌∷◌, refl, sym, ap, ◌∙◌, subst, arith}
use Rattle.std.specs.Prelude.{◌≢◌}
use Rattle.std.specs.Int.{bit_at}
use Rattle.std.proofs.Math.Nat.{mul-le-mul_left}
use Rattle.std.proofs.lemmas.Bool.{cases_eq, cases_lt}
use Rattle.bit_words.specs.Words.{bit_of, ChangesBit}
use Rattle.size_classes.specs.PageCounts.{IsLastAtMost}
use Rattle.size_classes.proofs.CountLaws.{past_last}
use Rattle.run_map.specs.Stored.{mark_of, is_marked, pages_at, StandsAt, AreMarked, AreNoted, IsNotedAnew, IsUnmarked}
use Rattle.run_map.specs.declared.runs.RunLayout.{RunLayout}
use Rattle.run_map.specs.declared.store.Store.{Store}
use mathlib.Core.Logic.{inl, inr}

-- a page class has words of its own
mark-less : (w a b p q : ℕ) → a < b → p < 64 * w → 64 * (w * a) + p ≡ 64 * (w * b) + q → ⊥
mark-less w a b p q less within e =
    let rises : w * (a + 1) ≤ w * b = mul-le-mul_left w (omega (arith, less)) in
    omega (arith, rises, within, e)

-- and in them each page has a bit of its own
one-mark : (w a b p q : ℕ) → p < 64 * w → q < 64 * w → 64 * (w * a) + p ≡ 64 * (w * b) + q → (a ≡ b) × (p ≡ q)
one-mark w a b p q first second e = by (cases_lt a b) (cases_lt b a)
  where
    by : (a < b) ⊎ (b ≤ a) → (b < a) ⊎ (a ≤ b) → (a ≡ b) × (p ≡ q)
    by (inl less) other = absurd (mark-less w a b p q less first e)
    by (inr le) (inl less) = absurd (mark-less w b a q p less second (sym e))
    by (inr le) (inr more) =
        let same : a ≡ b = omega (arith, le, more) in
        (same, omega (arith, e, ap (λ (k : ℕ). w * k) same))

-- a run stands under one page class
pub last-one : (n i j : ℕ) → i < 40 → j < 40 → IsLastAtMost n i → IsLastAtMost n j → i ≡ j
last-one n i j few small last other = by (cases_lt i j) (cases_lt j i)
  where
    by : (i < j) ⊎ (j ≤ i) → (j < i) ⊎ (i ≤ j) → i ≡ j
    by (inl less) _ = absurd (omega (arith, past_last n i j (omega (arith, small)) last less, other.holds))
    by (inr le) (inl less) = absurd (omega (arith, past_last n j i (omega (arith, few)) other less, last.holds))
    by (inr le) (inr more) = omega (arith, le, more)

-- a bit of one word
pub one-word : (w i : ℕ) → i < 64 → bit_of (w ∷ []) i ≡ bit_at w i
one-word w i few =
    let first : i / 64 ≡ 0 = omega (arith, few) in
    let low : i % 64 ≡ i = omega (arith, few) in
    rw (first, low) refl

-- the bit of a page in those of a page class changes
pub record ChangesMark (s t : Store) (class first bit : ℕ) : Type 0 where
  pub width : t.width ≡ s.width
  pub firsts : ChangesBit (mark_of s class first) bit s.firsts.items t.firsts.items

module _ (s t : Store) (class first bit : ℕ) (h : ChangesMark s t class first bit) (there : first < 64 * s.width) where
  wide : (a q : ℕ) → is_marked t a q ≡ bit_of t.firsts.items (mark_of s a q)
  wide a q = ap (λ (w : ℕ). bit_of t.firsts.items (64 * (w * a) + q)) h.width

  pub marked-here : (a q : ℕ) → a ≡ class → q ≡ first → is_marked t a q ≡ bit
  marked-here a q e f =
      wide a q
      ∙ ap (λ (k : ℕ). bit_of t.firsts.items (64 * (s.width * k) + q)) e
      ∙ ap (λ (k : ℕ). bit_of t.firsts.items (64 * (s.width * class) + k)) f
      ∙ h.firsts.changed

  pub marked-other : (a q : ℕ) → q < 64 * s.width → (a ≡ class → q ≡ first → ⊥) → is_marked t a q ≡ is_marked s a q
  marked-other a q within ne =
      wide a q
      ∙ h.firsts.others (mark_of s a q) (λ e. let m = one-mark s.width a class q first within there e in ne m.0 m.1)

-- ---- a run goes

module _ (l : RunLayout) (s t : Store) (class first n : ℕ) (h : ChangesMark s t class first 0)
    (there : first < 64 * s.width)
    (few : class < 40) (stood : pages_at s first ≡ n) (last : IsLastAtMost n class)
    (gone : pages_at t first ≡ 0) (rest : (q : ℕ) → q ≢ first → pages_at t q ≡ pages_at s q) where
  stands-on : (a q : ℕ) → q ≢ first → StandsAt t a q → StandsAt s a q
  stands-on a q ne is = subst (λ (m : ℕ). (0 < m) × IsLastAtMost m a) (rest q ne) is

  pub pulled-marked : AreMarked l s → l.pages ≤ 64 * s.width → AreMarked l t
  pulled-marked m long = record {
    set = λ a q small within is. on a q small within is (cases_eq q first);
    clear = λ a q small less not.
        off a q small (omega (arith, less, ap (λ (w : ℕ). 64 * w) h.width)) not (cases_eq q first) (cases_eq a class);
  }
    where
      on : (a q : ℕ) → a < 40 → q < l.pages → StandsAt t a q → (q ≡ first) ⊎ (q ≡ first → ⊥) → is_marked t a q ≡ 1
      on a q small within is (inl e) = absurd (omega (arith, is.0, gone, ap (pages_at t) e))
      on a q small within is (inr ne) =
          marked-other s t class first 0 h there a q (omega (arith, within, long)) (λ _ e. ne e)
          ∙ m.set a q small within (stands-on a q ne is)

      off : (a q : ℕ) → a < 40 → q < 64 * s.width → (StandsAt t a q → ⊥) → (q ≡ first) ⊎ (q ≡ first → ⊥) →
          (a ≡ class) ⊎ (a ≡ class → ⊥) → is_marked t a q ≡ 0
      off a q small less not (inl e) (inl same) = marked-here s t class first 0 h there a q same e
      off a q small less not (inl e) (inr ne) =
          marked-other s t class first 0 h there a q less (λ same _. ne same)
          ∙ m.clear a q small less (λ is. ne (last-one n a class small few
          (subst (λ (k : ℕ). IsLastAtMost k a) (ap (pages_at s) e ∙ stood) is.1) last))
      off a q small less not (inr ne) _ =
          marked-other s t class first 0 h there a q less (λ _ e. ne e)
          ∙ m.clear a q small less (λ is. not (subst (λ (k : ℕ). (0 < k) × IsLastAtMost k a) (sym (rest q ne)) is))

module _ (s t : Store) (class first : ℕ) (h : ChangesMark s t class first 0) (there : first < 64 * s.width)
    (few : class < 40) where
  pub pulled-noted : AreNoted s → IsNotedAnew class s.noted t → AreNoted t
  pulled-noted was is = record {
    one = λ a q small mark less.
        on a q small mark (omega (arith, less, ap (λ (w : ℕ). 64 * w) h.width)) less (cases_eq a class);
    none = λ a small none. off a small none (cases_eq a class);
  }
    where
      back : (a q : ℕ) → q < 64 * s.width → is_marked t a q ≡ 1 → is_marked s a q ≡ 1
      back a q less mark =
          sym (marked-other s t class first 0 h there a q less
          (λ e f. omega (arith, mark, marked-here s t class first 0 h there a q e f)))
          ∙ mark

      on : (a q : ℕ) → a < 40 → is_marked t a q ≡ 1 → q < 64 * s.width → q < 64 * t.width →
          (a ≡ class) ⊎ (a ≡ class → ⊥) → bit_at t.noted a ≡ 1
      on a q small mark less within (inl e) =
          ap (bit_at t.noted) e
          ∙ is.some q within (ap (λ (k : ℕ). is_marked t k q) (sym e) ∙ mark)
          ∙ ap (bit_at s.noted) (sym e)
          ∙ was.one a q small (back a q less mark) less
      on a q small mark less within (inr ne) =
          is.others a ne (omega (arith, small)) ∙ was.one a q small (back a q less mark) less

      off : (a : ℕ) → a < 40 → IsUnmarked t a → (a ≡ class) ⊎ (a ≡ class → ⊥) → bit_at t.noted a ≡ 0
      off a small none (inl e) = ap (bit_at t.noted) e ∙ is.none (subst (IsUnmarked t) e none)
      off a small none (inr ne) =
          is.others a ne (omega (arith, small))
          ∙ was.none a small (λ q less. sym (marked-other s t class first 0 h there a q less (λ e _. ne e))
          ∙ none q (omega (arith, less, ap (λ (w : ℕ). 64 * w) h.width)))

-- ---- a run comes

module _ (l : RunLayout) (s t : Store) (class first n : ℕ) (h : ChangesMark s t class first 1)
    (there : first < 64 * s.width)
    (few : class < 40) (none : pages_at s first ≡ 0) (last : IsLastAtMost n class) (some : 0 < n)
    (come : pages_at t first ≡ n) (rest : (q : ℕ) → q ≢ first → pages_at t q ≡ pages_at s q) where
  pub put-marked : AreMarked l s → l.pages ≤ 64 * s.width → AreMarked l t
  put-marked m long = record {
    set = λ a q small within is. on a q small within is (cases_eq q first);
    clear = λ a q small less not.
        off a q small (omega (arith, less, ap (λ (w : ℕ). 64 * w) h.width)) not (cases_eq q first) (cases_eq a class);
  }
    where
      on : (a q : ℕ) → a < 40 → q < l.pages → StandsAt t a q → (q ≡ first) ⊎ (q ≡ first → ⊥) → is_marked t a q ≡ 1
      on a q small within is (inl e) =
          let under = last-one n a class small few
          (subst (λ (k : ℕ). IsLastAtMost k a) (ap (pages_at t) e ∙ come) is.1) last in
          marked-here s t class first 1 h there a q under e
      on a q small within is (inr ne) =
          marked-other s t class first 1 h there a q (omega (arith, within, long)) (λ _ e. ne e)
          ∙ m.set a q small within (subst (λ (k : ℕ). (0 < k) × IsLastAtMost k a) (rest q ne) is)

      off : (a q : ℕ) → a < 40 → q < 64 * s.width → (StandsAt t a q → ⊥) → (q ≡ first) ⊎ (q ≡ first → ⊥) →
          (a ≡ class) ⊎ (a ≡ class → ⊥) → is_marked t a q ≡ 0
      off a q small less not (inl e) (inl same) =
          absurd (not (subst (λ (k : ℕ). (0 < k) × IsLastAtMost k a) (sym (ap (pages_at t) e ∙ come))
          (some, subst (IsLastAtMost n) (sym same) last)))
      off a q small less not (inl e) (inr ne) =
          marked-other s t class first 1 h there a q less (λ same _. ne same)
          ∙ m.clear a q small less (λ is. omega (arith, is.0, ap (pages_at s) e, none))
      off a q small less not (inr ne) _ =
          marked-other s t class first 1 h there a q less (λ _ e. ne e)
          ∙ m.clear a q small less (λ is. not (subst (λ (k : ℕ). (0 < k) × IsLastAtMost k a) (sym (rest q ne)) is))

module _ (s t : Store) (class first : ℕ) (h : ChangesMark s t class first 1) (there : first < 64 * s.width)
    (few : class < 40) where
  pub put-noted : AreNoted s → ChangesBit class 1 (s.noted ∷ []) (t.noted ∷ []) → AreNoted t
  put-noted was is = record {
    one = λ a q small mark less.
        on a q small mark (omega (arith, less, ap (λ (w : ℕ). 64 * w) h.width)) (cases_eq a class);
    none = λ a small none. off a small none (cases_eq a class);
  }
    where
      other : (a : ℕ) → a < 40 → (a ≡ class → ⊥) → bit_at t.noted a ≡ bit_at s.noted a
      other a small ne =
          sym (one-word t.noted a (omega (arith, small))) ∙ is.others a ne ∙ one-word s.noted a (omega (arith, small))

      on : (a q : ℕ) → a < 40 → is_marked t a q ≡ 1 → q < 64 * s.width → (a ≡ class) ⊎ (a ≡ class → ⊥) →
          bit_at t.noted a ≡ 1
      on a q small mark less (inl e) =
          ap (bit_at t.noted) e ∙ sym (one-word t.noted class (omega (arith, few))) ∙ is.changed
      on a q small mark less (inr ne) =
          other a small ne
          ∙ was.one a q small (sym (marked-other s t class first 1 h there a q less (λ e _. ne e)) ∙ mark) less

      off : (a : ℕ) → a < 40 → IsUnmarked t a → (a ≡ class) ⊎ (a ≡ class → ⊥) → bit_at t.noted a ≡ 0
      off a small none (inl e) =
          absurd (omega (
            arith,
            none first (omega (arith, there, ap (λ (w : ℕ). 64 * w) h.width)),
            marked-here s t class first 1 h there a first e refl,
          ))
      off a small none (inr ne) =
          other a small ne
          ∙ was.none a small (λ q less. sym (marked-other s t class first 1 h there a q less (λ e _. ne e))
          ∙ none q (omega (arith, less, ap (λ (w : ℕ). 64 * w) h.width)))
