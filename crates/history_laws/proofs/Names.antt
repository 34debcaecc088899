-- What tests of names tell: whether a root is another, and where regions are of one taking.
use Rattle.std.proofs.Common.{◌≡◌, ◌⊎◌, inl, inr, sym, refl, ◌∙◌, Bool, true, false, eqb-true}
use Rattle.std.specs.Prelude.{◌&&◌, ◌==◌}
use Rattle.pool_law.specs.declared.id.RootId.{RootId}
use Rattle.pool_law.specs.declared.id.RegionId.{RegionId}
use Rattle.pool_law.specs.Same.{same_place, same_root, same_taking}
use Rattle.pool_law.proofs.SameLemmas.{and-first, and-second, same_place-is, same_root-is}
use Rattle.pool_law.proofs.PatternLemmas.{same_taking-refl}

-- a root is the same as another, or it is another one
pub same_root-or : (a b : RootId) → ((same_root a b ≡ true) × (a ≡ b)) ⊎ (same_root a b ≡ false)
same_root-or a b = one (same_root a b) refl
  where
    one : (t : Bool) → same_root a b ≡ t → ((t ≡ true) × (a ≡ b)) ⊎ (t ≡ false)
    one true e = inl (refl, same_root-is a b e)
    one false e = inr refl

-- regions of one taking differ in their uses alone
pub record SameTaking (a b : RegionId) : Type 0 where
  pub place : a.place ≡ b.place
  pub class : a.class ≡ b.class
  pub taking : a.taking ≡ b.taking
  pub owner : a.owner ≡ b.owner

pub same_taking-is : (a b : RegionId) → same_taking a b ≡ true → SameTaking a b
same_taking-is a b e =
    let last : Bool = (a.taking == b.taking) && (a.owner == b.owner) in
    let more : Bool = (a.class == b.class) && last in
    let second : more ≡ true = and-second (same_place a.place b.place) more e in
    let third : last ≡ true = and-second (a.class == b.class) last second in record {
      place = same_place-is a.place b.place (and-first (same_place a.place b.place) more e);
      class = eqb-true a.class b.class (and-first (a.class == b.class) last second);
      taking = eqb-true a.taking b.taking (and-first (a.taking == b.taking) (a.owner == b.owner) third);
      owner = eqb-true a.owner b.owner (and-second (a.taking == b.taking) (a.owner == b.owner) third);
    }

-- regions of one taking are alike to every test of a taking
pub same_taking-both : (q a b : RegionId) → same_taking a b ≡ true → same_taking q b ≡ same_taking q a
same_taking-both q a b e =
    let s = same_taking-is a b e in
    λ i. same_place q.place (sym s.place i)
    && ((q.class == sym s.class i) && ((q.taking == sym s.taking i) && (q.owner == sym s.owner i)))

pub same_taking-key : (q r x : RegionId) → same_taking q r ≡ true → same_taking q x ≡ same_taking r x
same_taking-key q r x e =
    let s = same_taking-is q r e in
    λ i. same_place (s.place i) x.place
    && ((s.class i == x.class) && ((s.taking i == x.taking) && (s.owner i == x.owner)))

-- two that are of the taking of a third are of one
pub same_taking-by : (q g x : RegionId) → same_taking q x ≡ true → same_taking g x ≡ true → same_taking q g ≡ true
same_taking-by q g x a b = same_taking-key q x g a ∙ (sym (same_taking-key g x g b) ∙ same_taking-refl g)
