-- Which births behind a sampled one are not sampled.
use Rattle.std.proofs.Common.{◌≡◌, ℕ, ◌+◌, ◌-◌, ◌*◌, ◌/◌, ◌%◌, ◌<◌, ◌≤◌, eqb, true, false, refl, ap, ◌∙◌, arith}
use Rattle.std.proofs.lemmas.Bool.{eqb-true, ne_eqb}
use Rattle.std.proofs.lemmas.Nat.{mod-mul-add}
use Rattle.std.proofs.Math.Nat.{mod-add-div'}
use Rattle.pool_law.specs.declared.run.Level.{Level}
use Rattle.pool_law.specs.declared.run.Level.TheVariants as level
use Rattle.pool_law.specs.Leaks.{is_sampled}
use Rattle.pool_member.specs.Watching.{Skips}

-- the births between two multiples of the interval
between : (interval births serial : ℕ) → 1 ≤ births → eqb ((births - 1) % interval) 0 ≡ true
    → births < serial → serial < births + interval → eqb ((serial - 1) % interval) 0 ≡ false
between interval births serial some sampled lt near =
    let q : ℕ = (births - 1) / interval in let j : ℕ = serial - births in
    let none = eqb-true ((births - 1) % interval) 0 sampled in
    let whole = mod-add-div' (births - 1) interval in
    let is : serial - 1 ≡ q * interval + j = omega (arith, none, whole, some, lt) in
    let rest = ap (λ (n : ℕ). n % interval) is ∙ mod-mul-add q interval j (omega (arith, near, lt)) in
    ne_eqb ((serial - 1) % interval) 0 (λ zero. omega (arith, zero, rest, lt))

-- so many behind a sampled one, fewer than the interval, and none where all are
pub skips_behind : (l : Level) (interval births gap until : ℕ) → 1 ≤ births → is_sampled l interval births ≡ true
    → gap < interval → (l ≡ level.Paranoid → gap ≡ 0) → until ≤ births + gap → Skips l interval births until
skips_behind level.Disabled interval births gap until some sampled less none within = λ serial lt le. refl
skips_behind level.Simple interval births gap until some sampled less none within =
    λ serial lt le. between interval births serial some sampled lt (omega (arith, le, within, less))
skips_behind level.Advanced interval births gap until some sampled less none within =
    λ serial lt le. between interval births serial some sampled lt (omega (arith, le, within, less))
skips_behind level.Paranoid interval births gap until some sampled less none within =
    λ serial lt le. absurd (let zero = none refl in omega (arith, zero, lt, le, within))
