-- Which root a place has after a history, by the births and the ends in it.
use Rattle.std.proofs.Common.{◌≡◌, ℕ, suc, ◌+◌, List, ◌∷◌, length, refl, sym, ap, ◌∙◌, eqb-true}
use Rattle.std.specs.Prelude.{Option, Some, None, slice_get, ◌==◌, ◌&&◌, ◌||◌, nat_le, nat_lt}
use Rattle.pool_law.specs.declared.id.RootId.{RootId}
use Rattle.pool_law.specs.declared.id.RegionId.{RegionId}
use Rattle.pool_law.specs.declared.note.Did.{Did}
use Rattle.pool_law.specs.declared.note.Did.TheVariants.{Birth, Set, Get, Touch, Room, Extend, Grow, End}
use Rattle.pool_law.specs.declared.note.Noted.{Noted}
use Rattle.pool_law.specs.declared.report.Watch.{Watch}
use Rattle.pool_law.specs.Same.{same_root, same_bytes}
use Rattle.pool_law.specs.Roots.{RootPlace, Present, laid_over, bytes_at, zeros_to, born, may_be_born, with_bytes, place_step, place_step_by}
use Rattle.pool_law.proofs.SameLemmas.{and-first, and-second, same_root-is}
use Rattle.history_laws.proofs.BinSteps.{so}
use Rattle.shared_pool.specs.RootPlaces.{watch_after}

-- what was done leaves the watch
abbrev KeepsWatch : Did → Type 0
KeepsWatch d =
    (w : Option Watch) (n : Noted) (h : List Noted) → watch_after w (record n { did = d } ∷ h) ≡ watch_after w h

-- a root is born, stays or ends
pub record Bears (p : ℕ) (x y : RootPlace) (d : Did) : Type 0 where
  pub root : RootId
  pub region : RegionId
  pub did : d ≡ Birth root region
  pub vacant : x.present ≡ None
  pub is : y ≡ born root region
  pub place : root.place ≡ p
  pub next : root.generation ≡ x.generation + 1

pub record Keeps (x y : RootPlace) (d : Did) : Type 0 where
  pub old : Present
  pub new : Present
  pub was : x.present ≡ Some old
  pub is : y.present ≡ Some new
  pub same : new.root ≡ old.root
  pub generation : y.generation ≡ x.generation
  pub watch : KeepsWatch d
  pub no_birth : (r : RootId) (z : RegionId) → d ≡ Birth r z → ⊥
  pub no_end : (r : RootId) → d ≡ End r → ⊥

pub record Ends (x y : RootPlace) (d : Did) : Type 0 where
  pub old : Present
  pub was : x.present ≡ Some old
  pub did : d ≡ End old.root
  pub gone : y.present ≡ None
  pub generation : y.generation ≡ x.generation
  pub watch : KeepsWatch d

pub data Stepped (p : ℕ) (x y : RootPlace) (d : Did) : Type 0 where
  Born : Bears p x y d → Stepped p x y d
  Kept : Keeps x y d → Stepped p x y d
  Ended : Ends x y d → Stepped p x y d

pub stepped : (p : ℕ) (x y : RootPlace) (d : Did) → place_step p x d ≡ Some y → Stepped p x y d
stepped p x y d e = by d x.present refl e
  where
    by : (d : Did) (o : Option Present) → x.present ≡ o → place_step_by p x o d ≡ Some y → Stepped p x y d
    by (Birth b region) None here e =
        let made = so (may_be_born p x b region) (born b region) y e in
        let rest = and-second (b.place == p) ((b.generation == x.generation + 1) && nat_le b.capacity region.place.len)
        made.0 in
        Born (record {
          root = b;
          region = region;
          did = refl;
          vacant = here;
          is = sym made.1;
          place =
              eqb-true b.place p (and-first (b.place == p)
              ((b.generation == x.generation + 1) && nat_le b.capacity region.place.len) made.0);
          next =
              eqb-true b.generation (x.generation + 1)
              (and-first (b.generation == x.generation + 1) (nat_le b.capacity region.place.len) rest);
        })
    by (Set offset bytes) (Some q) here e =
        let made = so (nat_le (offset + length bytes) (length q.bytes))
        (with_bytes x q (laid_over q.bytes offset bytes)) y e in
        Kept (record {
          old = q;
          new = record q { bytes = laid_over q.bytes offset bytes };
          was = here;
          is =
              ap (λ (z : RootPlace). z.present) (sym made.1);
          same =
              refl;
          generation =
              ap (λ (z : RootPlace). z.generation) (sym made.1);
          watch =
              λ w n h. refl;
          no_birth = λ r z c. cc c;
          no_end = λ r c. cc c;
        })
    by (Get offset bytes) (Some q) here e =
        let made = so (nat_le (offset + length bytes) (length q.bytes) && same_bytes bytes
        (bytes_at q.bytes offset (length bytes))) x y e in
        Kept (record {
          old = q;
          new = q;
          was = here;
          is = ap (λ (z : RootPlace). z.present) (sym made.1)
              ∙ here;
          same = refl;
          generation = ap (λ (z : RootPlace). z.generation) (sym made.1);
          watch =
              λ w n h. refl;
          no_birth = λ r z c. cc c;
          no_end = λ r c. cc c;
        })
    by Touch (Some q) here e =
        let same : x ≡ y = cc e in
        Kept (record {
          old = q;
          new = q;
          was = here;
          is = ap (λ (z : RootPlace). z.present) (sym same)
              ∙ here;
          same = refl;
          generation = ap (λ (z : RootPlace). z.generation) (sym same);
          watch =
              λ w n h. refl;
          no_birth = λ r z c. cc c;
          no_end = λ r c. cc c;
        })
    by (Room asked capacity) (Some q) here e =
        let made = so ((capacity == length q.bytes) && (nat_le asked capacity || nat_lt q.region.place.len asked)) x y
        e in
        Kept (record {
          old = q;
          new = q;
          was = here;
          is = ap (λ (z : RootPlace). z.present) (sym made.1)
              ∙ here;
          same = refl;
          generation = ap (λ (z : RootPlace). z.generation) (sym made.1);
          watch =
              λ w n h. refl;
          no_birth = λ r z c. cc c;
          no_end = λ r c. cc c;
        })
    by (Extend size) (Some q) here e =
        let made = so (nat_lt (length q.bytes) size && nat_le size q.region.place.len)
        (with_bytes x q (zeros_to size q.bytes)) y e in
        Kept (record {
          old = q;
          new = record q { bytes = zeros_to size q.bytes };
          was = here;
          is =
              ap (λ (z : RootPlace). z.present) (sym made.1);
          same =
              refl;
          generation =
              ap (λ (z : RootPlace). z.generation) (sym made.1);
          watch =
              λ w n h. refl;
          no_birth = λ r z c. cc c;
          no_end = λ r c. cc c;
        })
    by (Grow capacity region) (Some q) here e =
        let made = so (nat_lt q.region.place.len capacity && nat_le capacity region.place.len)
        (with_bytes x (record q { region = region }) (zeros_to capacity q.bytes)) y e in
        Kept (record {
          old = q;
          new = record q { region = region; bytes = zeros_to capacity q.bytes };
          was = here;
          is =
              ap (λ (z : RootPlace). z.present) (sym made.1);
          same =
              refl;
          generation =
              ap (λ (z : RootPlace). z.generation) (sym made.1);
          watch =
              λ w n h. refl;
          no_birth = λ r z c. cc c;
          no_end = λ r c. cc c;
        })
    by (End r) (Some q) here e =
        let made = so (same_root r q.root) (record x { present = None }) y e in
        Ended (record {
          old = q;
          was = here;
          did = ap (λ (z : RootId). End z) (same_root-is r q.root made.0);
          gone =
              ap (λ (z : RootPlace). z.present) (sym made.1);
          generation =
              ap (λ (z : RootPlace). z.generation) (sym made.1);
          watch = λ w n h. refl;
        })
    by d None here e = absurd (cc e)
    by d (Some q) here e = absurd (cc e)

-- the watch after a first note
pub first_watch : (w : Option Watch) (n : Noted) (h : List Noted) → KeepsWatch n.did
    → watch_after w (n ∷ h) ≡ watch_after w h
first_watch w n h keeps = keeps w n h

pub first_born : (w : Option Watch) (n : Noted) (h : List Noted) (r : RootId) (z : RegionId) → n.did ≡ Birth r z
    → watch_after w (n ∷ h) ≡ watch_after n.watch h
first_born w n h r z is = λ i. watch_after w (record n { did = is i } ∷ h)

-- the root was born in the history, which gave it the watch
pub record WasBorn (p : ℕ) (h : List Noted) (root : RootId) (watch : Option Watch) : Type 0 where
  pub at : ℕ
  pub note : Noted
  pub region : RegionId
  pub there : slice_get h at ≡ Some note
  pub did : note.did ≡ Birth root region
  pub place : root.place ≡ p
  pub given : watch ≡ note.watch

-- it ended there
pub record HasEnd (h : List Noted) (root : RootId) : Type 0 where
  pub at : ℕ
  pub note : Noted
  pub there : slice_get h at ≡ Some note
  pub did : note.did ≡ End root

-- the place has it
pub record Has (x : RootPlace) (root : RootId) : Type 0 where
  pub present : Present
  pub here : x.present ≡ Some present
  pub root_is : present.root ≡ root

pub later_born : (p : ℕ) (n : Noted) (h : List Noted) (root : RootId) (w v : Option Watch) → w ≡ v → WasBorn p h root v
    → WasBorn p (n ∷ h) root w
later_born p n h root w v e b =
    record {
      at = suc b.at;
      note = b.note;
      region = b.region;
      there = b.there;
      did = b.did;
      place = b.place;
      given = e
          ∙ b.given;
    }

pub later_end : (n : Noted) (h : List Noted) (root : RootId) → HasEnd h root → HasEnd (n ∷ h) root
later_end n h root b = record { at = suc b.at; note = b.note; there = b.there; did = b.did }
