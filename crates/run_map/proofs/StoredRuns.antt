-- The free runs that a store has, each by its page.
use Rattle.std.proofs.Common.{◌≡◌, ℕ, suc, ◌+◌, ◌<◌, ◌≤◌, List, [], ◌∷◌, length, get_or, refl, sym, ap, ◌∙◌, arith}
use Rattle.std.specs.Prelude.{◌==◌}
use Rattle.std.proofs.lemmas.Bool.{cond_both, eqb-false}
use Rattle.size_classes.specs.Spans.{Span}
use Rattle.size_classes.proofs.Runs.{EachPair}
use Rattle.size_classes.proofs.OutLaws.{IsAmong}
use Rattle.run_map.specs.Lengths.{spans_from}
use Rattle.run_map.specs.Stored.{stored, pages_at, IsStore}
use Rattle.run_map.specs.declared.runs.RunLayout.{RunLayout}
use Rattle.run_map.specs.declared.store.Store.{Store}
use mathlib.Core.Logic.{inl, inr}

-- what holds of each that is among them
pub each-among : (P : Span → Type 0) (runs : List Span) → ((x : Span) → IsAmong x runs → P x) → EachPair P runs
each-among P [] h = tt
each-among P (r ∷ runs) h = (h r (inl refl), each-among P runs (λ x is. h x (inr is)))

-- a run that is among them stands at its page
record StandsIn (at : ℕ) (ns : List ℕ) (x : Span) : Type 0 where
  place : ℕ
  first : x.0 ≡ at + place
  there : place < length ns
  pages : get_or ns place 0 ≡ x.1
  some : 0 < x.1

among-from : (at : ℕ) (ns : List ℕ) (x : Span) → IsAmong x (spans_from at ns) → StandsIn at ns x
among-from at [] x is = absurd is
among-from at (m ∷ ns) x is =
    cond_both (m == 0) (spans_from (at + 1) ns) ((at, m) ∷ spans_from (at + 1) ns)
    (λ runs. IsAmong x runs → StandsIn at (m ∷ ns) x)
    (λ _. later (among-from (at + 1) ns x))
    (λ some. here (eqb-false m 0 some) (among-from (at + 1) ns x))
    is
  where
    later : (IsAmong x (spans_from (at + 1) ns) → StandsIn (at + 1) ns x) → IsAmong x (spans_from (at + 1) ns) →
        StandsIn at (m ∷ ns) x
    later ih is =
        let rest = ih is in
        record {
          place = suc rest.place;
          first = omega (arith, rest.first);
          there = omega (arith, rest.there);
          pages = rest.pages;
          some = rest.some;
        }

    here : (m ≡ 0 → ⊥) → (IsAmong x (spans_from (at + 1) ns) → StandsIn (at + 1) ns x) →
        IsAmong x ((at, m) ∷ spans_from (at + 1) ns) → StandsIn at (m ∷ ns) x
    here some ih (inl e) =
        let size : m ≡ x.1 = ap (λ (s : Span). s.1) e in
        record {
          place = 0;
          first = sym (ap (λ (s : Span). s.0) e) ∙ omega arith;
          there = omega arith;
          pages = size;
          some = omega (arith, size, some);
        }
    here some ih (inr is) = later ih is

pub among-stored : (l : RunLayout) (s : Store) (x : Span) → IsStore l s → IsAmong x (stored s) →
    (x.0 < l.pages) × (pages_at s x.0 ≡ x.1) × (0 < x.1)
among-stored l s x is among =
    let at = among-from 0 s.begins.items x among in
    let same : x.0 ≡ at.place = omega (arith, at.first) in
    (omega (arith, same, at.there, is.long.begins), ap (pages_at s) same ∙ at.pages, at.some)

-- each lies in the chunk
pub stored-within : (l : RunLayout) (s : Store) → IsStore l s → EachPair (λ r. r.0 + r.1 ≤ l.pages) (stored s)
stored-within l s is =
    each-among (λ r. r.0 + r.1 ≤ l.pages) (stored s)
    (λ x among. let at = among-stored l s x is among in omega (arith, is.within x.0 at.0, at.1))
