-- Keys under which steps are counted.
use Rattle.std.proofs.Common.{◌≡◌, ◌+◌, Bool, true, refl, ◌∙◌, eqb-true, eq-eqb}
use Rattle.std.specs.Prelude.{◌==◌, ◌&&◌, if◌then◌else◌}
use Rattle.std.proofs.Math.Bool.{and-true}
use Rattle.pool_law.specs.declared.note.Object.{Object}
use Rattle.pool_law.specs.declared.note.Object.TheVariants.{Arena, Cache, Bin, Mail, Root}
use Rattle.pool_law.specs.Same.{same_object}
use Rattle.pool_law.proofs.SameLemmas.{and-first, and-second, same_object-swap}
use Rattle.log_order.specs.Keying.{object_key}
use Rattle.log_order.specs.Tallying.{Key, same_key}

pub same_key-is : (x y : Key) → same_key x y ≡ true → x ≡ y
same_key-is x y e =
    let rest = and-second (x.0 == y.0) _ e in
    let last = and-second (x.1 == y.1) _ rest in
    let a : x.0 ≡ y.0 = eqb-true x.0 y.0 (and-first (x.0 == y.0) _ e) in
    let b : x.1 ≡ y.1 = eqb-true x.1 y.1 (and-first (x.1 == y.1) _ rest) in
    let c : x.2 ≡ y.2 = eqb-true x.2 y.2 (and-first (x.2 == y.2) _ last) in
    let d : x.3 ≡ y.3 = eqb-true x.3 y.3 (and-second (x.2 == y.2) _ last) in
    λ i. (a i, b i, c i, d i)

pub same_key-refl : (x : Key) → same_key x x ≡ true
same_key-refl x =
    λ i. eq-eqb x.0 x.0 refl i
    && (eq-eqb x.1 x.1 refl i && (eq-eqb x.2 x.2 refl i && eq-eqb x.3 x.3 refl i))

-- two objects have one key
abbrev pub one_key : Object → Object → Bool
one_key a b =
    ((object_key a).0 == (object_key b).0)
    && (((object_key a).1 == (object_key b).1) && ((object_key a).2 == (object_key b).2))

-- so it is where they are the same
pub one_key-is : (a b : Object) → one_key a b ≡ same_object a b
one_key-is (Arena a) (Arena b) = and-true (a == b)
one_key-is (Cache l c) (Cache m d) = refl
one_key-is (Bin a) (Bin b) = and-true (a == b)
one_key-is (Mail l c) (Mail m d) = refl
one_key-is (Root a) (Root b) = and-true (a == b)
one_key-is _ _ = refl

pub same-keys : (a b : Object) → one_key a b ≡ same_object b a
same-keys a b = one_key-is a b ∙ same_object-swap a b
