-- Which elements are out, once one is handed out or given back.
use Rattle.std.proofs.Common.{◌≡◌, ℕ, zero, suc, ◌<◌, Bool, true, false, List, [], ◌∷◌, length, refl, arith}
use Rattle.std.specs.Prelude.{◌≢◌, slice_set, slice_get, unwrap_or}

-- element i is out
abbrev pub IsOutAt : ℕ → List Bool → Type 0
IsOutAt i out = unwrap_or (slice_get out i) false ≡ true

-- one that is out is one of the elements
pub out_within : (i : ℕ) (out : List Bool) → IsOutAt i out → i < length out
out_within i [] h = absurd (cc h)
out_within zero (c ∷ out) h = omega arith
out_within (suc i) (c ∷ out) h = omega (arith, out_within i out h)

-- one that is handed out is out
pub now_out : (i : ℕ) (out : List Bool) → i < length out → IsOutAt i (slice_set out i true)
now_out i [] h = absurd (omega (arith, h))
now_out zero (c ∷ out) h = refl
now_out (suc i) (c ∷ out) h = now_out i out (omega (arith, h))

-- and what was out is out still
pub still_out : (i k : ℕ) (out : List Bool) → IsOutAt k out → IsOutAt k (slice_set out i true)
still_out i k [] h = absurd (cc h)
still_out zero zero (c ∷ out) h = refl
still_out zero (suc k) (c ∷ out) h = h
still_out (suc i) zero (c ∷ out) h = h
still_out (suc i) (suc k) (c ∷ out) h = still_out i k out h

-- as are all others when one is given back
pub others_out : (i k : ℕ) (out : List Bool) → k ≢ i → IsOutAt k out → IsOutAt k (slice_set out i false)
others_out i k [] ne h = absurd (cc h)
others_out zero zero (c ∷ out) ne h = absurd (ne refl)
others_out zero (suc k) (c ∷ out) ne h = h
others_out (suc i) zero (c ∷ out) ne h = h
others_out (suc i) (suc k) (c ∷ out) ne h = others_out i k out (λ e. ne (cc e)) h
