-- The roots of a place.
use Rattle.std.proofs.Common.{eqb-true, ◌≡◌, inl, inr, ⊎_elim, ℕ, ◌+◌, List, [], ◌∷◌, length, refl, sym, ap, subst, Bool, true, false, Some, None, ◌∙◌}
use Rattle.std.specs.Prelude.{◌⊎◌, ◌==◌, ◌&&◌, ◌||◌, nat_lt, nat_le, Option, option_and_then, replicate}
use Rattle.pool_law.specs.declared.id.RootId.{RootId}
use Rattle.pool_law.specs.declared.id.RegionId.{RegionId}
use Rattle.pool_law.specs.declared.note.Did.{Did}
use Rattle.pool_law.specs.declared.note.Did.TheVariants.{Birth, Set, Get, Touch, Room, Extend, Grow, End}
use Rattle.pool_law.specs.Same.{same_root, same_bytes}
use Rattle.pool_law.specs.Caches.{if_so}
use Rattle.pool_law.specs.Roots.{RootPlace, Present, new_place, laid_over, bytes_at, born, zeros_to, may_be_born, with_bytes, vacant_step, present_step, place_step_by, place_step}
use Rattle.pool_law.specs.Histories.{after, place_after}
use Rattle.run_laws.specs.PlaceLives.{BornInOrder, GrewTo, WasBorn, PlaceLives}
use Rattle.pool_law.proofs.SameLemmas.{and-first, and-second, same_root-is}
use Rattle.run_laws.proofs.CacheLaw.{if_so-is}
use Rattle.arena_laws.proofs.ReturnLaw.{after-append, one-step}

pub if_so-test : {X : Type 0} (test : Bool) (x y : X) → if_so test x ≡ Some y → test ≡ true
if_so-test true x y e = refl
if_so-test false x y e = absurd (cc e)

-- a birth at a vacant place
pub record Births (place : ℕ) (s t : RootPlace) (root : RootId) (region : RegionId) : Type 0 where
  pub here : root.place ≡ place
  pub next : root.generation ≡ s.generation + 1
  pub generation : t.generation ≡ s.generation + 1
  pub present : (p : Present) → t.present ≡ Some p → (p.root ≡ root) × (p.region ≡ region)

-- a note that is no birth: what is present after it was present before
pub record Stays (s t : RootPlace) : Type 0 where
  pub generation : t.generation ≡ s.generation
  pub present : (p : Present) → t.present ≡ Some p
      → (q : Present) × (s.present ≡ Some q) × (p.root ≡ q.root) × (p.region ≡ q.region)

-- a growth: what is present after it was present before, in another region
pub record Grows (s t : RootPlace) (region : RegionId) : Type 0 where
  pub generation : t.generation ≡ s.generation
  pub there : Present
  pub there_is : s.present ≡ Some there
  pub present : (p : Present) → t.present ≡ Some p → (p.root ≡ there.root) × (p.region ≡ region)

abbrev pub Does : ℕ → RootPlace → Did → RootPlace → Type 0
Does place s (Birth root region) t = Births place s t root region
Does place s (Grow capacity region) t = Grows s t region
Does place s _ t = Stays s t

pub stays-same : (s : RootPlace) → Stays s s
stays-same s = record { generation = refl; present = λ p is. (p, is, refl, refl) }

pub present_step-does : (place : ℕ) (s t : RootPlace) (p : Present) (d : Did) → s.present ≡ Some p
    → present_step s p d ≡ Some t → Does place s d t
present_step-does place s t p (Set offset bytes) here e =
    let same : with_bytes s p (laid_over p.bytes offset bytes)
    ≡ t =
    if_so-is (nat_le (offset + length bytes) (length p.bytes)) (with_bytes s p (laid_over p.bytes offset bytes))
    t e in
    subst (λ x. Stays s x) same
    (record {
      generation = refl;
      present = λ q is. let q_is : record p { bytes = laid_over p.bytes offset bytes }
          ≡ q = cc is in (p, here, sym (ap (λ x. x.root) q_is), sym (ap (λ x. x.region) q_is));
    })
present_step-does place s t p (Get offset bytes) here e =
    let same : s ≡ t = if_so-is (nat_le (offset + length bytes) (length p.bytes) && same_bytes bytes
    (bytes_at p.bytes offset (length bytes))) s t e in
    subst (λ x. Stays s x) same (stays-same s)
present_step-does place s t p Touch here e = let same : s ≡ t = cc e in subst (λ x. Stays s x) same (stays-same s)
present_step-does place s t p (Room asked capacity) here e =
    let same : s ≡ t = if_so-is ((capacity == length p.bytes) && (nat_le asked capacity
    || nat_lt p.region.place.len asked)) s t e in
    subst (λ x. Stays s x) same (stays-same s)
present_step-does place s t p (Extend size) here e =
    let same : with_bytes s p (zeros_to size p.bytes) ≡ t =
    if_so-is (nat_lt (length p.bytes) size && nat_le size p.region.place.len)
    (with_bytes s p (zeros_to size p.bytes)) t e in
    subst (λ x. Stays s x) same
    (record {
      generation = refl;
      present = λ q is. let q_is : record p { bytes = zeros_to size p.bytes }
          ≡ q = cc is in (p, here, sym (ap (λ x. x.root) q_is), sym (ap (λ x. x.region) q_is));
    })
present_step-does place s t p (Grow capacity region) here e =
    let same : with_bytes s (record p { region = region }) (zeros_to capacity p.bytes) ≡ t =
    if_so-is (nat_lt p.region.place.len capacity && nat_le capacity region.place.len)
    (with_bytes s (record p { region = region }) (zeros_to capacity p.bytes)) t e in
    subst (λ x. Grows s x region) same
    (record {
      generation = refl;
      there = p;
      there_is = here;
      present = λ q is. let q_is : record p { region = region; bytes = zeros_to capacity p.bytes }
          ≡ q = cc is in (sym (ap (λ x. x.root) q_is), sym (ap (λ x. x.region) q_is));
    })
present_step-does place s t p (End root) here e =
    let same : record s { present = None } ≡ t = if_so-is (same_root root p.root) (record s { present = None }) t e in
    subst (λ x. Stays s x) same (record { generation = refl; present = λ q is. absurd (cc is) })
present_step-does place s t p _ here e = absurd (cc e)

pub vacant_step-does : (place : ℕ) (s t : RootPlace) (d : Did) → vacant_step place s d ≡ Some t → Does place s d t
vacant_step-does place s t (Birth root region) e =
    let may : may_be_born place s root region ≡ true =
    if_so-test (may_be_born place s root region) (born root region) t e in
    let rest : ((root.generation == s.generation + 1) && nat_le root.capacity region.place.len)
    ≡ true =
    and-second (root.place == place)
    ((root.generation == s.generation + 1) && nat_le root.capacity region.place.len) may in
    let next : root.generation ≡ s.generation + 1 =
    eqb-true root.generation (s.generation + 1)
    (and-first (root.generation == s.generation + 1) (nat_le root.capacity region.place.len) rest) in
    let same : born root region ≡ t = if_so-is (may_be_born place s root region) (born root region) t e in
    subst (λ x. Births place s x root region) same
    (record {
      here =
          eqb-true root.place place (and-first (root.place == place)
          ((root.generation == s.generation + 1) && nat_le root.capacity region.place.len) may);
      next = next;
      generation = next;
      present =
          λ q is. let q_is : record { root = root; region = region; bytes = replicate root.capacity 0 }
          ≡ q = cc is in (sym (ap (λ x. x.root) q_is), sym (ap (λ x. x.region) q_is));
    })
vacant_step-does place s t _ e = absurd (cc e)

pub place_step-does : (place : ℕ) (s t : RootPlace) (d : Did) → place_step place s d ≡ Some t → Does place s d t
place_step-does place s t d e = go s.present refl e
  where
    go : (o : Option Present) → s.present ≡ o → place_step_by place s o d ≡ Some t → Does place s d t
    go None here is = vacant_step-does place s t d is
    go (Some p) here is = present_step-does place s t p d here is

-- the first step of a history, and the rest
pub after-first : (place : ℕ) (s t : RootPlace) (d : Did) (ds : List Did) → after (place_step place) s (d ∷ ds) ≡ Some t
    → (m : RootPlace) × (place_step place s d ≡ Some m) × (after (place_step place) m ds ≡ Some t)
after-first place s t d ds e = go (place_step place s d) e
  where
    go : (o : Option RootPlace) → option_and_then (λ m. after (place_step place) m ds) o ≡ Some t
        → (m : RootPlace) × (o ≡ Some m) × (after (place_step place) m ds ≡ Some t)
    go None is = absurd (cc is)
    go (Some m) is = (m, refl, is)

pub births-in_order : (place : ℕ) (ds : List Did) (s t : RootPlace) → after (place_step place) s ds ≡ Some t
    → BornInOrder place s.generation ds t.generation
births-in_order place [] s t e = let same : s ≡ t = cc e in ap (λ x. x.generation) same
births-in_order place (d ∷ ds) s t e =
    let f : (m : RootPlace) × (place_step place s d ≡ Some m)
    × (after (place_step place) m ds ≡ Some t) = after-first place s t d ds e in
    go d f.0 (place_step-does place s f.0 d f.1) (births-in_order place ds f.0 t f.2)
  where
    go : (d : Did) (m : RootPlace) → Does place s d m → BornInOrder place m.generation ds t.generation
        → BornInOrder place s.generation (d ∷ ds) t.generation
    go (Birth root region) m does rest =
        (does.here, (does.next, subst (λ n. BornInOrder place n ds t.generation) does.generation rest))
    go _ m does rest = subst (λ n. BornInOrder place n ds t.generation) does.generation rest

-- what is present after a history was present before it, or was born in it; its region is that of its
-- last growth
pub present-origin : (place : ℕ) (ds : List Did) (s t : RootPlace) (p : Present)
    → after (place_step place) s ds ≡ Some t → t.present ≡ Some p →
    ((q : Present) × (s.present ≡ Some q) × (p.root ≡ q.root) × GrewTo q.region ds p.region)
    ⊎ WasBorn p.root p.region ds
present-origin place [] s t p e is =
    let same : t ≡ s = cc e in inl (p, subst (λ x. x.present ≡ Some p) same is, refl, refl)
present-origin place (d ∷ ds) s t p e is =
    let f : (m : RootPlace) × (place_step place s d ≡ Some m)
    × (after (place_step place) m ds ≡ Some t) = after-first place s t d ds e in
    go d f.0 (place_step-does place s f.0 d f.1) (present-origin place ds f.0 t p f.2 is)
  where
    go : (d : Did) (m : RootPlace) → Does place s d m
        → ((q : Present) × (m.present ≡ Some q) × (p.root ≡ q.root) × GrewTo q.region ds p.region)
        ⊎ WasBorn p.root p.region ds →
        ((q : Present) × (s.present ≡ Some q) × (p.root ≡ q.root) × GrewTo q.region (d ∷ ds) p.region)
        ⊎ WasBorn p.root p.region (d ∷ ds)
    go d m does (inr later) = inr (inr later)
    go (Birth root region) m does (inl o) =
        let was : (o.0.root ≡ root) × (o.0.region ≡ region) = does.present o.0 o.1 in
        inr (inl (region, ap (λ x. Birth x region) (sym (o.2 ∙ was.0)), subst (λ x. GrewTo x ds p.region) was.1 o.3))
    go (Grow capacity region) m does (inl o) =
        let was : (o.0.root ≡ does.there.root) × (o.0.region ≡ region) = does.present o.0 o.1 in
        inl (does.there, does.there_is, o.2 ∙ was.0, subst (λ x. GrewTo x ds p.region) was.1 o.3)
    go _ m does (inl o) =
        let was : (q : Present) × (s.present ≡ Some q) × (o.0.root ≡ q.root)
        × (o.0.region ≡ q.region) = does.present o.0 o.1 in
        inl (was.0, was.1, o.2 ∙ was.2, subst (λ x. GrewTo x ds p.region) was.3 o.3)

pub was-born : (place : ℕ) (ds : List Did) (s : RootPlace) (p : Present) → place_after place ds ≡ Some s
    → s.present ≡ Some p → WasBorn p.root p.region ds
was-born place ds s p e is = ⊎_elim (λ o. absurd (cc (o.1))) (λ b. b) (present-origin place ds new_place s p e is)

-- an end takes out the root that is present
pub end-present : (place : ℕ) (s t : RootPlace) (root : RootId) → place_step place s (End root) ≡ Some t
    → (p : Present) × (s.present ≡ Some p) × (p.root ≡ root)
end-present place s t root e = go s.present refl e
  where
    go : (o : Option Present) → s.present ≡ o → place_step_by place s o (End root) ≡ Some t
        → (p : Present) × (s.present ≡ Some p) × (p.root ≡ root)
    go None here is = absurd (cc is)
    go (Some p) here is = (
      p,
      here,
      sym (same_root-is root p.root
          (if_so-test (same_root root p.root) (record s { present = None }) t is)),
    )

pub place-lives : (place : ℕ) → PlaceLives place
place-lives place =
    record {
      births = λ ds s e. births-in_order place ds new_place s e;
      present = λ ds s p e is. was-born place ds s p e is;
      ended = λ ds root s t e f.
          let split : (m : RootPlace) × (place_after place ds ≡ Some m)
          × (after (place_step place) m (End root ∷ []) ≡ Some t) =
          after-append (place_step place) ds (End root ∷ []) new_place t f in
          let one : Some split.0 ≡ Some s = sym split.1 ∙ e in
          let same : split.0 ≡ s = cc one in
          let last : place_step place s (End root)
          ≡ Some t =
          subst (λ x. place_step place x (End root) ≡ Some t) same
          (one-step (place_step place) split.0 t (End root) split.2) in
          let p : (p : Present) × (s.present ≡ Some p) × (p.root ≡ root) = end-present place s t root last in
          (p.0, p.1, p.2, subst (λ r. WasBorn r p.0.region ds) p.2 (was-born place ds s p.0 e p.1));
    }
