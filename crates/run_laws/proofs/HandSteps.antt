-- What a note makes of a lane's hand, by whether it is empty or full.
use Rattle.std.proofs.Common.{inl, inr, ◌≡◌, refl, sym, Bool, true, false, Some, None}
use Rattle.std.specs.Prelude.{◌⊎◌, ℕ, if◌then◌else◌, Option}
use Rattle.pool_law.specs.declared.id.RootId.{RootId}
use Rattle.pool_law.specs.declared.id.RegionId.{RegionId}
use Rattle.pool_law.specs.declared.note.Did.{Did}
use Rattle.pool_law.specs.declared.note.Did.TheVariants.{Take, Give, Hit, Kept, Shed, Birth, Grow, End}
use Rattle.pool_law.specs.Same.{same_region}
use Rattle.pool_law.specs.Patterns.{one_more}
use Rattle.run_laws.specs.Hands.{Source, Got, Ended, Dropped, Hand, hand_if}
use Rattle.pool_law.proofs.SameLemmas.{same_region-is}

-- what was done ends a use
abbrev pub EndsUse : Did → Type 0
EndsUse d = ((root : RootId) × (d ≡ End root)) ⊎ ((c : ℕ) × (x : RegionId) × (d ≡ Grow c x))

-- what was done gave this region
abbrev pub Fills : Source → RegionId → Option RegionId → Did → Type 0
Fills Got y t d = (d ≡ Hit y) ⊎ ((c : ℕ) × (d ≡ Take c y))
Fills Ended y t d = EndsUse d × (t ≡ Some y)
Fills Dropped y t d = d ≡ Shed y

-- what was done puts the region down, by where it came from
abbrev pub Empties : Source → RegionId → Did → Type 0
Empties Got y (Birth root x) = x ≡ one_more y
Empties Got y (Grow c x) = x ≡ one_more y
Empties Got y (Kept x) = x ≡ y
Empties Got y (Give x) = x ≡ y
Empties Ended y (Kept x) = x ≡ y
Empties Ended y (Give x) = x ≡ y
Empties Dropped y (Give x) = x ≡ y
Empties _ y _ = ⊥

abbrev pub moving : Option Did → Bool
moving (Some (Take c x)) = true
moving (Some (Hit x)) = true
moving (Some (Shed x)) = true
moving (Some (End root)) = true
moving (Some (Birth root x)) = true
moving (Some (Grow c x)) = true
moving (Some (Kept x)) = true
moving (Some (Give x)) = true
moving _ = false

abbrev pub IsIn : Did → Type 0
IsIn (Take c x) = Unit {0}
IsIn (Hit x) = Unit {0}
IsIn (Shed x) = Unit {0}
IsIn (End root) = Unit {0}
IsIn (Grow c x) = Unit {0}
IsIn _ = ⊥

abbrev pub IsOut : Did → Type 0
IsOut (Birth root x) = Unit {0}
IsOut (Grow c x) = Unit {0}
IsOut (Kept x) = Unit {0}
IsOut (Give x) = Unit {0}
IsOut _ = ⊥

-- the same of what may have been done
abbrev pub InOf : Option Did → Type 0
InOf None = ⊥
InOf (Some d) = IsIn d

abbrev pub OutOf : Option Did → Type 0
OutOf None = ⊥
OutOf (Some d) = IsOut d

pub empties-move : (from : Source) (y : RegionId) (d : Did) → Empties from y d → moving (Some d) ≡ true
empties-move Got y (Birth root x) e = refl
empties-move Got y (Grow c x) e = refl
empties-move Got y (Kept x) e = refl
empties-move Got y (Give x) e = refl
empties-move Got y _ e = absurd e
empties-move Ended y (Kept x) e = refl
empties-move Ended y (Give x) e = refl
empties-move Ended y _ e = absurd e
empties-move Dropped y (Give x) e = refl
empties-move Dropped y _ e = absurd e

-- what a step makes of an empty hand, and of a full one
pub record Filled (t : Option RegionId) (d : Option Did) (k : Hand) : Type 0 where
  pub did : Did
  pub is : d ≡ Some did
  pub from : Source
  pub region : RegionId
  pub fills : Fills from region t did
  pub held : k ≡ Some (from, region)

pub record Emptied (from : Source) (y : RegionId) (d : Option Did) : Type 0 where
  pub did : Did
  pub is : d ≡ Some did
  pub empties : Empties from y did

abbrev pub FromEmpty : Option RegionId → Option Did → Hand → Type 0
FromEmpty t d k = ((moving d ≡ false) × (k ≡ None)) ⊎ (Filled t d k × (OutOf d → ⊥))

-- the hand is empty then, or a growth has filled it again
abbrev pub Behind : Option RegionId → Option Did → Hand → Type 0
Behind t d k = ((k ≡ None) × (InOf d → ⊥)) ⊎ Filled t d k

abbrev pub FromFull : Source → RegionId → Option RegionId → Option Did → Hand → Type 0
FromFull from y t d k = ((moving d ≡ false) × (k ≡ Some (from, y))) ⊎ (Emptied from y d × Behind t d k)

fill : (t : Option RegionId) (did : Did) (from : Source) (y : RegionId) (k : Hand) → Fills from y t did
    → Some (from, y) ≡ k → Filled t (Some did) k
fill t did from y k fills e =
    record { did = did; is = refl; from = from; region = y; fills = fills; held = sym e }

pub from-empty : (t : Option RegionId) (d : Option Did) (k : Hand) → hand_if None t d ≡ Some k → FromEmpty t d k
from-empty t None k e = inl (refl, sym (cc e))
from-empty t (Some (Take c x)) k e = inr (fill t (Take c x) Got x k (inr (c, refl)) (cc e), λ out. out)
from-empty t (Some (Hit x)) k e = inr (fill t (Hit x) Got x k (inl refl) (cc e), λ out. out)
from-empty t (Some (Shed x)) k e = inr (fill t (Shed x) Dropped x k refl (cc e), λ out. out)
from-empty (Some y) (Some (End root)) k e =
    inr (fill (Some y) (End root) Ended y k (inl (root, refl), refl) (cc e), λ out. out)
from-empty None (Some (End root)) k e = absurd (cc e)
from-empty t (Some (Birth root x)) k e = absurd (cc e)
from-empty t (Some (Kept x)) k e = absurd (cc e)
from-empty t (Some (Give x)) k e = absurd (cc e)
from-empty t (Some (Grow c x)) k e = absurd (cc e)
from-empty t (Some _) k e = inl (refl, sym (cc e))

-- a test that leaves this hand
chosen : (test : Bool) (v k : Hand) → (if test then Some v else None) ≡ Some k → (test ≡ true) × (v ≡ k)
chosen true v k e = (refl, cc e)
chosen false v k e = absurd (cc e)

neither : (test : Bool) (k : Hand) → ◌≡◌ {A = Option Hand} (if test then None else None) (Some k) → ⊥
neither true k e = cc e
neither false k e = cc e

put : (from : Source) (y : RegionId) (t : Option RegionId) (did : Did) (k : Hand) → Empties from y did → None ≡ k
    → (IsIn did → ⊥) → FromFull from y t (Some did) k
put from y t did k empties e none =
    inr (record { did = did; is = refl; empties = empties }, inl (sym e, none))

pub from-full : (from : Source) (y : RegionId) (t : Option RegionId) (d : Option Did) (k : Hand)
    → hand_if (Some (from, y)) t d ≡ Some k → FromFull from y t d k
from-full from y t None k e = inl (refl, sym (cc e))
from-full from y t (Some (Take c x)) k e = absurd (cc e)
from-full from y t (Some (Hit x)) k e = absurd (cc e)
from-full from y t (Some (Shed x)) k e = absurd (cc e)
from-full from y (Some z) (Some (End root)) k e = absurd (cc e)
from-full from y None (Some (End root)) k e = absurd (cc e)
from-full Got y t (Some (Birth root x)) k e =
    let r = chosen (same_region x (one_more y)) None k e in
    put Got y t (Birth root x) k (same_region-is x (one_more y) r.0) r.1 (λ none. none)
from-full Ended y t (Some (Birth root x)) k e = absurd (cc e)
from-full Dropped y t (Some (Birth root x)) k e = absurd (cc e)
from-full Got y (Some z) (Some (Grow c x)) k e =
    let r = chosen (same_region x (one_more y)) (Some (Ended, z)) k e in
    inr (
      record { did = Grow c x; is = refl; empties = same_region-is x (one_more y) r.0 },
      inr (fill (Some z) (Grow c x) Ended z k (inr (c, x, refl), refl) r.1),
    )
from-full Got y None (Some (Grow c x)) k e = absurd (neither (same_region x (one_more y)) k e)
from-full Ended y t (Some (Grow c x)) k e = absurd (cc e)
from-full Dropped y t (Some (Grow c x)) k e = absurd (cc e)
from-full Got y t (Some (Kept x)) k e =
    let r = chosen (same_region y x) None k e in
    put Got y t (Kept x) k (sym (same_region-is y x r.0)) r.1 (λ none. none)
from-full Ended y t (Some (Kept x)) k e =
    let r = chosen (same_region y x) None k e in
    put Ended y t (Kept x) k (sym (same_region-is y x r.0)) r.1 (λ none. none)
from-full Dropped y t (Some (Kept x)) k e = absurd (cc e)
from-full Got y t (Some (Give x)) k e =
    let r = chosen (same_region y x) None k e in
    put Got y t (Give x) k (sym (same_region-is y x r.0)) r.1 (λ none. none)
from-full Ended y t (Some (Give x)) k e =
    let r = chosen (same_region y x) None k e in
    put Ended y t (Give x) k (sym (same_region-is y x r.0)) r.1 (λ none. none)
from-full Dropped y t (Some (Give x)) k e =
    let r = chosen (same_region y x) None k e in
    put Dropped y t (Give x) k (sym (same_region-is y x r.0)) r.1 (λ none. none)
from-full from y t (Some _) k e = inl (refl, sym (cc e))

-- what comes into the hand or goes out of it moves a region
pub in-moves : (d : Did) → IsIn d → moving (Some d) ≡ true
in-moves (Take c x) is = refl
in-moves (Hit x) is = refl
in-moves (Shed x) is = refl
in-moves (End root) is = refl
in-moves (Grow c x) is = refl
in-moves _ is = absurd is

pub out-moves : (d : Did) → IsOut d → moving (Some d) ≡ true
out-moves (Birth root x) is = refl
out-moves (Grow c x) is = refl
out-moves (Kept x) is = refl
out-moves (Give x) is = refl
out-moves _ is = absurd is
