-- Names that are bound and unbound.
use Rattle.std.proofs.Common.{◌≡◌, ℕ, [], ◌∷◌, Bool, true, false, Option, Some, None, refl, sym, eqb-true, eq-eqb, ◌∙◌}
use Rattle.std.specs.Prelude.{◌==◌, if◌then◌else◌, cond, option_map}
use Rattle.pool_law.specs.Names.{Names, bind, lookup, without}
use Rattle.pool_law.proofs.NumberLemmas.{is_eq-nat}
use Rattle.std.specs.Ordering.{nat_cmp}
use Rattle.std.specs.BTreeMap.{is_at}
use Rattle.lane_reader.specs.declared.bound.Bound.{Bound}
use Rattle.lane_reader.specs.Viewing.{bound_of}

pub lookup-without : (n name : ℕ) (bs : Names) →
    lookup n (without name bs) ≡ (if name == n then None else lookup n bs)
lookup-without n name [] = go (name == n)
  where
    go : (b : Bool) → ◌≡◌ {A = Option Rattle.pool_law.specs.Names.Bound} None (if b then None else None)
    go true = refl
    go false = refl
lookup-without n name (x ∷ xs) = go (x.0 == name) (name == n) (x.0 == n) refl refl refl (lookup-without n name xs)
  where
    go : (a b c : Bool) → (x.0 == name) ≡ a → (name == n) ≡ b → (x.0 == n) ≡ c →
        lookup n (without name xs) ≡ (if name == n then None else lookup n xs) →
        lookup n (without name (x ∷ xs)) ≡ (if name == n then None else lookup n (x ∷ xs))
    go true true c here there both rest = rw (here, there) (rest ∙ rw there refl)
    go true false true here there both rest =
        let one : x.0 ≡ name = eqb-true x.0 name here in
        let two : x.0 ≡ n = eqb-true x.0 n both in
        let same : (name == n) ≡ true = eq-eqb name n (sym one ∙ two) in
        absurd (cc (same, there))
    go true false false here there both rest = rw (here, there, both) (rest ∙ rw there refl)
    go false true true here there both rest =
        let one : name ≡ n = eqb-true name n there in
        let two : x.0 ≡ n = eqb-true x.0 n both in
        let same : (x.0 == name) ≡ true = eq-eqb x.0 name (two ∙ sym one) in
        absurd (cc (same, here))
    go false true false here there both rest = rw (here, there, both) (rest ∙ rw there refl)
    go false false true here there both rest = rw (here, there, both) refl
    go false false false here there both rest = rw (here, there, both) (rest ∙ rw there refl)

module _ (names : Names) (f g : ℕ → Option Bound) (old : (q : ℕ) → lookup q names ≡ option_map bound_of (f q))
    (name : ℕ) where
  pub after_bind : (bound : Bound) → ((q : ℕ) → g q ≡ cond (is_at (nat_cmp name) q) (Some bound) (f q)) → (q : ℕ) →
      lookup q (bind name (bound_of bound) names) ≡ option_map bound_of (g q)
  after_bind bound new q = go (name == q) refl
    where
      go : (b : Bool) → (name == q) ≡ b → lookup q (bind name (bound_of bound) names) ≡ option_map bound_of (g q)
      go true here = rw (here, new q, is_eq-nat name q, here) refl
      go false there = rw (there, new q, is_eq-nat name q, there) (lookup-without q name names ∙ rw there (old q))

  pub after_unbind : ((q : ℕ) → g q ≡ cond (is_at (nat_cmp name) q) None (f q)) → (q : ℕ) →
      lookup q (without name names) ≡ option_map bound_of (g q)
  after_unbind new q = go (name == q) refl
    where
      go : (b : Bool) → (name == q) ≡ b → lookup q (without name names) ≡ option_map bound_of (g q)
      go true here = rw (new q, is_eq-nat name q, here) (lookup-without q name names ∙ rw here refl)
      go false there = rw (new q, is_eq-nat name q, there) (lookup-without q name names ∙ rw there (old q))

-- a name that is taken out, and put in again
pub put_again : {X : Type 0} (b : Bool) (x : X) (o : Option X) → cond b (Some x) (cond b None o) ≡ cond b (Some x) o
put_again true x o = refl
put_again false x o = refl
