-- An arena stands for one note more after each of its calls.
use Rattle.std.proofs.Common.{◌≡◌, ℕ, ◌<◌, List, [], ◌∷◌, ◌++◌, length, refl, sym, ap, ap₂, ◌∙◌, subst, Bool, Some, None, lt-ltb}
use Rattle.std.specs.Prelude.{Option, option_map, option_and_then, slice_get, if◌then◌else◌}
use Rattle.ground.specs.Ground.{Origin}
use Rattle.ground.specs.Grounds.{Grounds}
use Rattle.size_classes.specs.Sizes.{Geometry, class_count, size_at}
use Rattle.pool_law.specs.declared.id.RegionId.{RegionId}
use Rattle.pool_law.specs.declared.note.Did.{Did}
use Rattle.pool_law.specs.declared.note.Did.TheVariants.{Take, Full, Give}
use Rattle.pool_law.specs.declared.note.Noted.{Noted}
use Rattle.pool_law.specs.Arenas.{Arena, Yielded, new_arena, noted_taking, take_class, take, give, arena_step, as_noted, if_none}
use Rattle.pool_law.proofs.HistoryLemmas.{after-noted}
use Rattle.pool_law.proofs.PatternLemmas.{same_region-refl}
use Rattle.pool_arena.specs.ArenaStates.{ArenaState, law_of, IsSameArena, Takes, IsFullFor, Gives, without_taking}
use Rattle.pool_arena.specs.Standing.{arena_told, StandsFor, StandsMore}

-- what a taking says of its region
pub record IsTakenFrom (number class owner : ℕ) (r : RegionId) : Type 0 where
  pub owner_is : r.owner ≡ owner
  pub class_is : r.class ≡ class
  pub len : r.place.len ≡ size_at r.class
  pub uses : r.uses ≡ 0
  pub arena : r.place.arena ≡ number

pub take-is : (g : Geometry) (number : ℕ) (a : Arena) (class owner : ℕ) (t : RegionId × Arena)
    → take g number a class owner ≡ Some t → IsTakenFrom number class owner t.0
take-is g number a class owner t e = by (take_class g a class) e
  where
    by : (o : Option Yielded) → option_map (noted_taking number class owner) o ≡ Some t
        → IsTakenFrom number class owner t.0
    by None is = absurd (cc is)
    by (Some u) is =
        let path : noted_taking number class owner u ≡ t = cc is in
        subst (λ (x : RegionId × Arena). IsTakenFrom number class owner x.0) path
        (record { owner_is = refl; class_is = refl; len = refl; uses = refl; arena = refl })

-- what is full for one owner is full for each
pub full-any : (a : ArenaState) (class owner other : ℕ) → IsFullFor a class owner → IsFullFor a class other
full-any a class owner other full out = none (take_class a.geometry (law_of a out) class) (full out)
  where
    none : (o : Option Yielded) → option_map (noted_taking a.number class owner) o ≡ None
        → option_map (noted_taking a.number class other) o ≡ None
    none None e = refl
    none (Some t) e = absurd (cc e)

-- an arena stands for one note more where its step leads to the new one
module _ (grounds : Grounds) (h : List Noted) (n : Noted) (did : Did) (is : n.did ≡ did) (old new : ArenaState)
    (stands : StandsFor grounds h old) (same : IsSameArena old new) where
  stands_more : (out : List RegionId) → arena_step old.geometry old.number (law_of old stands.out) did
      ≡ Some (law_of new out) → StandsFor grounds (h ++ n ∷ []) new
  stands_more out step =
      let told : arena_told old.geometry old.number (length old.chunks) (h ++ n ∷ []) ≡ Some (law_of new out) =
      after-noted (arena_step old.geometry old.number) (new_arena old.geometry (length old.chunks)) h n
      ∙ ap (option_and_then (λ a. arena_step old.geometry old.number a n.did)) stands.told
      ∙ ap (arena_step old.geometry old.number (law_of old stands.out)) is
      ∙ step in
      record {
        out = out;
        told = (λ i. arena_told (same.geometry i) (same.number i) (same.places i) (h ++ n ∷ [])) ∙ told;
        on =
            ap₂ (λ (k : ℕ) (os : List Origin). slice_get grounds k) same.number same.grounds ∙ stands.on
            ∙ ap Some (sym same.grounds);
      }

-- so after a taking
pub takes-stands : (old new : ArenaState) (class owner : ℕ) (r : RegionId) → Takes old class owner new r
    → StandsMore old (Take class r) new
takes-stands old new class owner r takes grounds h n is stands any =
    let out : List RegionId = stands.out in
    stands_more grounds h n (Take class r) is old new stands takes.same (out ++ r ∷ [])
    (ap (λ (o : ℕ). as_noted r (take old.geometry old.number (law_of old out) class o))
    (take-is old.geometry old.number (law_of old out) class owner (r, law_of new (out ++ r ∷ []))
    (takes.step out)).owner_is
    ∙ ap (as_noted r) (takes.step out)
    ∙ ap (λ (b : Bool). if b then Some (law_of new (out ++ r ∷ [])) else None) (same_region-refl r))

-- where it has nothing for a class
pub full-stands : (a : ArenaState) (class owner : ℕ) → class < class_count a.geometry → IsFullFor a class owner
    → StandsMore a (Full class) a
full-stands a class owner less full grounds h n is stands any =
    let law : Arena = law_of a stands.out in
    stands_more grounds h n (Full class) is a a stands
    (record { number = refl; geometry = refl; grounds = refl; places = refl }) stands.out
    (ap (λ (b : Bool). if b then if_none (take a.geometry a.number law class 0) law else None)
    (lt-ltb class (class_count a.geometry) less)
    ∙ ap (λ (o : Option (RegionId × Arena)). if_none o law) (full-any a class owner 0 full stands.out))

-- and after a region came back
pub gives-stands : (old new : ArenaState) (r : RegionId) → Gives old r new → StandsMore old (Give r) new
gives-stands old new r gives grounds h n is stands is_out =
    stands_more grounds h n (Give r) is old new stands gives.same (without_taking r stands.out)
    (ap (λ (b : Bool). if b then Some (give old.geometry (law_of old stands.out) r) else None) is_out
    ∙ ap Some (gives.step stands.out))
