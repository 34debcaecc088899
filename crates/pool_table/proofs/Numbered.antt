-- Each number is that of an object's home.
use Rattle.std.proofs.Common.{◌≡◌, ℕ, ◌+◌, ◌-◌, ◌*◌, ◌/◌, ◌%◌, ◌<◌, refl, arith, lit<, lt_of_not-le}
use Rattle.std.proofs.Math.Nat.{mod-lt}
use Rattle.std.proofs.lemmas.Nat.{div-add-mod'}
use mathlib.Core.Logic.{dite}
use native.Mathlib.Decide.{dec_le}
use Rattle.pool_law.specs.declared.run.Shape.{Shape}
use Rattle.pool_law.specs.declared.note.Object.{Object}
use Rattle.pool_law.specs.declared.note.Object.TheVariants.{Arena, Cache, Bin, Root}
use Rattle.pool_law.specs.Homes.{IsObjectOf, home_of, objects_of}

pub object_at : (s : Shape) (k : ℕ) → k < objects_of s → (o : Object) × IsObjectOf s o × (home_of s o ≡ k)
object_at s k lt =
    let a : ℕ = s.arenas in let n : ℕ = s.lanes in let y : ℕ = s.lanes * s.handles in
    let lt' : k < a + n * 41 + y = lt in
    dite (dec_le a k)
    (λ le. dite (dec_le (a + n * 40) k)
    (λ le'. dite (dec_le (a + n * 41) k)
    (λ more. let p : ℕ = k - a - n * 41 in let f : p < y = omega (arith, more, lt') in
    let e : a + n * 41 + p ≡ k = omega (arith, more) in (Root p, f, e))
    (λ less. let lane : ℕ = k - a - n * 40 in let up : k < a + n * 41 = lt_of_not-le less in
    let f : lane < n = omega (arith, le', up) in let e : a + n * 40 + lane ≡ k = omega (arith, le') in
    (Bin lane, f, e)))
    (λ less. let j : ℕ = k - a in let q : ℕ = j / 40 in let r : ℕ = j % 40 in
    let up : k < a + n * 40 = lt_of_not-le less in
    let whole : q * 40 + r ≡ j = div-add-mod' j 40 in let near : r < 40 = mod-lt j (lit< tt) in
    let f : q < n = omega (arith, up, le, whole) in let e : a + q * 40 + r ≡ k = omega (arith, whole, le) in
    (Cache q r, (f, near), e)))
    (λ less. (Arena k, lt_of_not-le less, refl))
