-- What one accepted note does to a root place, as far as roots and regions go.
use Rattle.std.proofs.Common.{◌≡◌, ℕ, ◌+◌, length, Bool, true, sym, refl, ap, ◌∙◌, subst, eqb-true, Some, None}
use Rattle.std.specs.Prelude.{◌==◌, ◌&&◌, ◌||◌, nat_lt, nat_le, Option, option_map}
use Rattle.pool_law.specs.declared.id.RootId.{RootId}
use Rattle.pool_law.specs.declared.id.RegionId.{RegionId}
use Rattle.pool_law.specs.declared.note.Did.{Did}
use Rattle.pool_law.specs.declared.note.Did.TheVariants.{Birth, Set, Get, Touch, Room, Extend, Grow, End}
use Rattle.pool_law.specs.declared.note.Noted.{Noted}
use Rattle.pool_law.specs.Same.{same_root, same_bytes}
use Rattle.pool_law.specs.Caches.{if_so}
use Rattle.pool_law.specs.Roots.{RootPlace, Present, place_step, place_step_by, may_be_born, born, laid_over, bytes_at, with_bytes, zeros_to}
use Rattle.pool_law.specs.Logs.{region_for}
use Rattle.pool_law.proofs.SameLemmas.{and-first, and-second, same_root-is}
use Rattle.history_laws.proofs.BinSteps.{so}

-- the root that is present, and its region
abbrev pub root_in : RootPlace → Option RootId
root_in x = option_map (λ q. q.root) x.present

abbrev pub region_in : RootPlace → Option RegionId
region_in x = option_map (λ q. q.region) x.present

-- nothing is born and nothing ends
pub record IsSamePlace (x y : RootPlace) : Type 0 where
  pub root : RootId
  pub there : root_in x ≡ Some root
  pub generation : y.generation ≡ x.generation
  pub same_root : root_in y ≡ root_in x
  pub same_region : region_in y ≡ region_in x

pub record IsBirth (p : ℕ) (x : RootPlace) (r : RootId) (z : RegionId) (y : RootPlace) : Type 0 where
  pub place : r.place ≡ p
  pub next : r.generation ≡ x.generation + 1
  pub vacant : x.present ≡ None
  pub generation : y.generation ≡ x.generation + 1
  pub root : root_in y ≡ Some r
  pub region : region_in y ≡ Some z

pub record IsEnd (x : RootPlace) (r : RootId) (region : Option RegionId) (y : RootPlace) : Type 0 where
  pub there : root_in x ≡ Some r
  pub taken_out : region_in x ≡ region
  pub generation : y.generation ≡ x.generation
  pub vacant : y.present ≡ None

-- the root stays, and goes on in another region
pub record IsGrowth (x : RootPlace) (z : RegionId) (region : Option RegionId) (y : RootPlace) : Type 0 where
  pub root : RootId
  pub there : root_in x ≡ Some root
  pub taken_out : region_in x ≡ region
  pub generation : y.generation ≡ x.generation
  pub same_root : root_in y ≡ root_in x
  pub into : region_in y ≡ Some z

-- the root place x with the number p becomes y; the note of an end or a growth carries the region
abbrev pub IsPlaceStep : ℕ → RootPlace → Did → Option RegionId → RootPlace → Type 0
IsPlaceStep p x (Birth r z) region y = IsBirth p x r z y
IsPlaceStep p x (End r) region y = IsEnd x r region y
IsPlaceStep p x (Set i bs) region y = IsSamePlace x y
IsPlaceStep p x (Get i bs) region y = IsSamePlace x y
IsPlaceStep p x Touch region y = IsSamePlace x y
IsPlaceStep p x (Room asked c) region y = IsSamePlace x y
IsPlaceStep p x (Extend c) region y = IsSamePlace x y
IsPlaceStep p x (Grow c z) region y = IsGrowth x z region y
IsPlaceStep p x d region y = ⊥

-- what is present in the place was born there
abbrev pub FitsPlace : ℕ → RootPlace → Type 0
FitsPlace p x = (q : Present) → x.present ≡ Some q → (q.root.place ≡ p) × (q.root.generation ≡ x.generation)

module _ (p : ℕ) (x y : RootPlace) where
  birth_told : (r : RootId) (z : RegionId) → x.present ≡ None → if_so (may_be_born p x r z) (born r z) ≡ Some y
      → IsBirth p x r z y × FitsPlace p y
  birth_told r z none e =
      let more : Bool = (r.generation == x.generation + 1) && nat_le r.capacity z.place.len in
      let f = so (may_be_born p x r z) (born r z) y e in
      let place : r.place ≡ p = eqb-true r.place p (and-first (r.place == p) more f.0) in
      let next : r.generation ≡ x.generation + 1 =
      eqb-true r.generation (x.generation + 1)
      (and-first (r.generation == x.generation + 1) (nat_le r.capacity z.place.len)
      (and-second (r.place == p) more f.0)) in (
        record {
          place = place;
          next = next;
          vacant = none;
          generation = ap (λ (v : RootPlace). v.generation) (sym f.1)
              ∙ next;
          root = ap root_in (sym f.1);
          region = ap region_in (sym f.1);
        },
        subst (FitsPlace p) f.1 (λ q e. let g : (q.root ≡ r) =
            (let h : Some r ≡ Some q.root = ap (λ (o : Option Present). option_map (λ (v : Present). v.root) o) e in
            sym (cc h)) in (ap (λ (v : RootId). v.place) g ∙ place, ap (λ (v : RootId). v.generation) g)),
      )

  same_place_told : (q : Present) (z : RootPlace) (b : Bool) → x.present ≡ Some q
      → (option_map (λ (v : Present). v.root) z.present ≡ Some q.root)
      → (option_map (λ (v : Present). v.region) z.present ≡ Some q.region) → z.generation ≡ x.generation
      → if_so b z ≡ Some y → FitsPlace p x → IsSamePlace x y × FitsPlace p y
  same_place_told q z b is root region gen e fits =
      let f = so b z y e in
      let here : root_in x ≡ Some q.root = ap (λ (o : Option Present). option_map (λ (v : Present). v.root) o) is in
      let there : region_in x ≡ Some q.region = ap (λ (o : Option Present). option_map (λ (v : Present). v.region) o)
      is in (
        record {
          root = q.root;
          there = here;
          generation = ap (λ (v : RootPlace). v.generation) (sym f.1)
              ∙ gen;
          same_root = ap root_in (sym f.1) ∙ (root ∙ sym here);
          same_region = ap region_in (sym f.1)
              ∙ (region ∙ sym there);
        },
        subst (FitsPlace p) f.1 (λ w e.
            let g : w.root ≡ q.root = (let h : Some w.root
            ≡ Some q.root =
            sym (ap (λ (o : Option Present). option_map (λ (v : Present). v.root) o) e) ∙ root in cc h) in
            let old = fits q is in
            (ap (λ (v : RootId). v.place) g ∙ old.0, ap (λ (v : RootId). v.generation) g ∙ (old.1 ∙ sym gen))),
      )

  end_told : (q : Present) (r : RootId) (region : Option RegionId) → x.present ≡ Some q → region ≡ Some q.region
      → if_so (same_root r q.root) (record x { present = None }) ≡ Some y → IsEnd x r region y × FitsPlace p y
  end_told q r region is carried e =
      let f = so (same_root r q.root) (record x { present = None }) y e in
      let same : r ≡ q.root = same_root-is r q.root f.0 in
      let none : y.present ≡ None = ap (λ (v : RootPlace). v.present) (sym f.1) in (
        record {
          there =
              ap (λ (o : Option Present). option_map (λ (v : Present). v.root) o) is
              ∙ ap (λ (v : RootId). Some v) (sym same);
          taken_out = ap (λ (o : Option Present). option_map (λ (v : Present). v.region) o) is ∙ sym carried;
          generation = ap (λ (v : RootPlace). v.generation) (sym f.1);
          vacant = none;
        },
        (λ w e. let h : Some w ≡ None = sym e ∙ none in absurd (cc h)),
      )

  -- a root that grows stays, with its bytes and zeros behind them
  growth_told : (q : Present) (c : ℕ) (z : RegionId) (region : Option RegionId) → x.present ≡ Some q
      → region ≡ Some q.region →
      if_so (nat_lt q.region.place.len c && nat_le c z.place.len)
      (with_bytes x (record q { region = z }) (zeros_to c q.bytes)) ≡ Some y → FitsPlace p x
      → IsGrowth x z region y × FitsPlace p y
  growth_told q c z region is carried e fits =
      let f = so (nat_lt q.region.place.len c && nat_le c z.place.len)
      (with_bytes x (record q { region = z }) (zeros_to c q.bytes)) y e in
      let here : root_in x ≡ Some q.root = ap (λ (o : Option Present). option_map (λ (v : Present). v.root) o) is in (
        record {
          root = q.root;
          there = here;
          taken_out = ap (λ (o : Option Present). option_map (λ (v : Present). v.region) o) is ∙ sym carried;
          generation = ap (λ (v : RootPlace). v.generation) (sym f.1);
          same_root = ap root_in (sym f.1) ∙ sym here;
          into = ap region_in (sym f.1);
        },
        subst (FitsPlace p) f.1 (λ w e.
            let g : w.root ≡ q.root = (let h : Some q.root
            ≡ Some w.root =
            ap (λ (o : Option Present). option_map (λ (v : Present). v.root) o) e in sym (cc h)) in
            let old = fits q is in
            (ap (λ (v : RootId). v.place) g ∙ old.0, ap (λ (v : RootId). v.generation) g ∙ old.1)),
      )

  -- a place step, where the note knows the region that an end takes out or a growth leaves
  pub place_told : (n : Noted) → FitsPlace p x → n.region ≡ region_for n.did x.present → place_step p x n.did ≡ Some y
      → IsPlaceStep p x n.did n.region y × FitsPlace p y
  place_told n fits region e = by n.did x.present refl region e
    where
      by : (d : Did) (o : Option Present) → x.present ≡ o → n.region ≡ region_for d o → place_step_by p x o d ≡ Some y
          → IsPlaceStep p x d n.region y × FitsPlace p y
      by (Birth r z) None is region e = birth_told r z is e
      by (Birth r z) (Some q) is region e = absurd (cc e)
      by (End r) None is region e = absurd (cc e)
      by (End r) (Some q) is region e = end_told q r n.region is region e
      by (Set i bs) None is region e = absurd (cc e)
      by (Set i bs) (Some q) is region e =
          same_place_told q (with_bytes x q (laid_over q.bytes i bs)) (nat_le (i + length bs) (length q.bytes)) is refl
          refl refl e fits
      by (Get i bs) None is region e = absurd (cc e)
      by (Get i bs) (Some q) is region e =
          same_place_told q x (nat_le (i + length bs) (length q.bytes) && same_bytes bs
          (bytes_at q.bytes i (length bs))) is
          (ap (λ (o : Option Present). option_map (λ (v : Present). v.root) o) is)
          (ap (λ (o : Option Present). option_map (λ (v : Present). v.region) o) is) refl e fits
      by Touch None is region e = absurd (cc e)
      by Touch (Some q) is region e =
          same_place_told q x true is (ap (λ (o : Option Present). option_map (λ (v : Present). v.root) o) is)
          (ap (λ (o : Option Present). option_map (λ (v : Present). v.region) o) is) refl e fits
      by (Room asked c) None is region e = absurd (cc e)
      by (Room asked c) (Some q) is region e =
          same_place_told q x ((c == length q.bytes) && (nat_le asked c || nat_lt q.region.place.len asked)) is
          (ap (λ (o : Option Present). option_map (λ (v : Present). v.root) o) is)
          (ap (λ (o : Option Present). option_map (λ (v : Present). v.region) o) is) refl e fits
      by (Extend c) None is region e = absurd (cc e)
      by (Extend c) (Some q) is region e =
          same_place_told q (with_bytes x q (zeros_to c q.bytes))
          (nat_lt (length q.bytes) c && nat_le c q.region.place.len) is refl refl refl e fits
      by (Grow c z) None is region e = absurd (cc e)
      by (Grow c z) (Some q) is region e = growth_told q c z n.region is region e fits
      by d None is region e = absurd (cc e)
      by d (Some q) is region e = absurd (cc e)
