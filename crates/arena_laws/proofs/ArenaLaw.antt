-- Takings of one arena that are out together have no byte in common, after every history.
use Rattle.std.proofs.Common.{eqb-true, ◌≡◌, inl, ℕ, zero, suc, List, [], ◌∷◌, refl, sym, ap, subst, Bool, true, Some, None}
use Rattle.std.specs.Prelude.{nat_lt, not, ◌&&◌, ◌==◌, slice_get, replicate, Option, unwrap_or, option_and_then}
use Rattle.size_classes.specs.Sizes.{Geometry, class_count, IsPage}
use Rattle.pool_law.specs.declared.id.RegionId.{RegionId}
use Rattle.pool_law.specs.declared.note.Did.{Did}
use Rattle.pool_law.specs.declared.note.Did.TheVariants.{Take, Full, Give}
use Rattle.pool_law.specs.declared.run.Shape.{Shape}
use Rattle.pool_law.specs.Limits.{geometry_of}
use Rattle.pool_law.specs.Same.{same_taking, same_place, same_region}
use Rattle.pool_law.specs.Chunks.{Chunk}
use Rattle.pool_law.specs.Arenas.{Arena, new_arena, chunk_at, take, give, given_place, is_out_of, as_noted, if_none, arena_step}
use Rattle.pool_law.specs.Histories.{after, arena_after}
use Rattle.pool_law.proofs.SameLemmas.{and-first, and-second}
use Rattle.arena_laws.specs.Slots.{IsSlot, IsSound, EachOf, EachTwo, IsLocated, BeginElsewhere, ArenaHolds, AreApart, OutApart}
use Rattle.arena_laws.proofs.SlotLemmas.{slots-apart}
use Rattle.arena_laws.proofs.ElementTakes.{take-holds}
use Rattle.arena_laws.proofs.GiveSteps.{Kept, IsOne}
use Rattle.arena_laws.proofs.ElementGives.{NotAt, given_place-is, any-one, EachOf-one, EachOf-filter, EachTwo-filter, others-elsewhere}
use Rattle.std.proofs.lemmas.Bool.{cond_both}

pub EachOf-two : {X : Type 0} (P Q R : X → Type 0) (xs : List X) → ((x : X) → P x → Q x → R x) → EachOf P xs
    → EachOf Q xs → EachOf R xs
EachOf-two P Q R [] f h k = tt
EachOf-two P Q R (x ∷ xs) f h k = (f x h.0 k.0, EachOf-two P Q R xs f h.1 k.1)

-- one taking has one place and one class
pub same_taking-place : (a b : RegionId) → same_taking a b ≡ true
    → (a.place.chunk ≡ b.place.chunk) × (a.place.offset ≡ b.place.offset) × (a.class ≡ b.class)
same_taking-place a b e =
    let place : same_place a.place b.place ≡ true =
    and-first (same_place a.place b.place)
    ((a.class == b.class) && ((a.taking == b.taking) && (a.owner == b.owner))) e in
    let rest : ((a.class == b.class) && ((a.taking == b.taking) && (a.owner == b.owner)))
    ≡ true =
    and-second (same_place a.place b.place)
    ((a.class == b.class) && ((a.taking == b.taking) && (a.owner == b.owner))) e in
    let from_chunk : ((a.place.chunk == b.place.chunk)
    && ((a.place.offset == b.place.offset) && (a.place.len == b.place.len)))
    ≡ true =
    and-second (a.place.arena == b.place.arena)
    ((a.place.chunk == b.place.chunk)
    && ((a.place.offset == b.place.offset) && (a.place.len == b.place.len))) place in
    let from_offset : ((a.place.offset == b.place.offset) && (a.place.len == b.place.len))
    ≡ true =
    and-second (a.place.chunk == b.place.chunk)
    ((a.place.offset == b.place.offset) && (a.place.len == b.place.len)) from_chunk in (
      eqb-true a.place.chunk b.place.chunk
          (and-first (a.place.chunk == b.place.chunk)
          ((a.place.offset == b.place.offset) && (a.place.len == b.place.len)) from_chunk),
      eqb-true a.place.offset b.place.offset
          (and-first (a.place.offset == b.place.offset) (a.place.len == b.place.len) from_offset),
      eqb-true a.class b.class (and-first (a.class == b.class) ((a.taking == b.taking) && (a.owner == b.owner)) rest),
    )

module _ (g : Geometry) (number : ℕ) where
  -- a taking that comes back keeps the arena
  pub give-holds : (a : Arena) (region : RegionId) → ArenaHolds g number a → is_out_of a region ≡ true
      → ArenaHolds g number (give g a region)
  give-holds a region holds out =
      record {
        sound = kept.sound;
        whole = kept.whole;
        located = EachOf-filter (IsLocated g number b) test a.out
            (EachOf-two (IsLocated g number a) (λ s. test s ≡ true → NotAt r s)
            (λ s. test s ≡ true → IsLocated g number b s) a.out
            (λ s x apart yes. (x.0, kept.slots s (apart yes) x.1)) holds.located
            (others-elsewhere test a.out r holds.elsewhere found.1 (ap not found.2)));
        elsewhere = EachTwo-filter BeginElsewhere test a.out holds.elsewhere;
      }
    where
      test : RegionId → Bool
      test = λ other. not (same_taking region other)

      found : (r : RegionId) × IsOne r a.out × (same_taking region r ≡ true)
      found = any-one (λ other. same_taking region other) a.out out

      r : RegionId
      r = found.0

      b : Arena
      b = given_place g a region.class region.place.chunk region.place.offset

      same : (region.place.chunk ≡ r.place.chunk) × (region.place.offset ≡ r.place.offset) × (region.class ≡ r.class)
      same = same_taking-place region r found.2

      base : Kept g a (given_place g a r.class r.place.chunk r.place.offset) (NotAt r)
      base =
          given_place-is g a holds.sound holds.whole r
          (EachOf-one (IsLocated g number a) a.out r holds.located found.1).1

      kept : Kept g a b (NotAt r)
      kept =
          subst (λ class. Kept g a (given_place g a class region.place.chunk region.place.offset) (NotAt r))
          (sym same.2)
          (subst (λ chunk. Kept g a (given_place g a r.class chunk region.place.offset) (NotAt r)) (sym same.0)
          (subst (λ offset. Kept g a (given_place g a r.class r.place.chunk offset) (NotAt r)) (sym same.1) base))

  -- each note keeps the arena
  pub step-holds : (a b : Arena) (d : Did) → ArenaHolds g number a → arena_step g number a d ≡ Some b
      → ArenaHolds g number b
  step-holds a b (Take class region) holds e =
      go (take g number a class region.owner) (λ t. take-holds g number class a region.owner holds t) e
    where
      go : (o : Option (RegionId × Arena)) → ((t : RegionId × Arena) → o ≡ Some t → ArenaHolds g number t.1)
          → as_noted region o ≡ Some b → ArenaHolds g number b
      go None found is = absurd (cc is)
      go (Some t) found is =
          cond_both (same_region region t.0) (Some t.1) None (λ z. z ≡ Some b → ArenaHolds g number b)
          (λ _ same. let arena : t.1 ≡ b = cc same in subst (λ x. ArenaHolds g number x) arena (found t refl))
          (λ _ same. absurd (cc same))
          is
  step-holds a b (Full class) holds e =
      cond_both (nat_lt class (class_count g)) (if_none (take g number a class 0) a) None
      (λ z. z ≡ Some b → ArenaHolds g number b)
      (λ _ is. go (take g number a class 0) is) (λ _ is. absurd (cc is)) e
    where
      go : (o : Option (RegionId × Arena)) → if_none o a ≡ Some b → ArenaHolds g number b
      go None is = let same : a ≡ b = cc is in subst (λ x. ArenaHolds g number x) same holds
      go (Some t) is = absurd (cc is)
  step-holds a b (Give region) holds e =
      cond_both (is_out_of a region) (Some (give g a region)) None (λ z. z ≡ Some b → ArenaHolds g number b)
      (λ out is. let same : give g a region ≡ b = cc is in
      subst (λ x. ArenaHolds g number x) same (give-holds a region holds out))
      (λ _ is. absurd (cc is))
      e
  step-holds a b _ holds e = absurd (cc e)

  abbrev pub no_chunks : ℕ → List (Option Chunk)
  no_chunks n = replicate n None

  pub no_chunk : (n c : ℕ) → unwrap_or (unwrap_or (slice_get (no_chunks n) c) None) [] ≡ []
  no_chunk zero c = refl
  no_chunk (suc n) zero = refl
  no_chunk (suc n) (suc c) = no_chunk n c

  -- a new arena has no chunks
  pub new-holds : IsPage g.page → (chunks : ℕ) → ArenaHolds g number (new_arena g chunks)
  new-holds page chunks =
      record {
        sound =
            λ c. subst (λ x. IsSound g x) (sym (no_chunk chunks c))
            (record { page = page; none_empty = tt; elements_fit = tt });
        whole = λ c. inl (no_chunk chunks c);
        located = tt;
        elsewhere = tt;
      }

  -- so does a history
  pub after-holds : (ds : List Did) (a b : Arena) → ArenaHolds g number a → after (arena_step g number) a ds ≡ Some b
      → ArenaHolds g number b
  after-holds [] a b holds e = let same : a ≡ b = cc e in subst (λ x. ArenaHolds g number x) same holds
  after-holds (d ∷ ds) a b holds e =
      go (arena_step g number a d) (λ t. step-holds a t d holds) e (λ t. after-holds ds t b)
    where
      go : (o : Option Arena) → ((t : Arena) → o ≡ Some t → ArenaHolds g number t)
          → option_and_then (λ t. after (arena_step g number) t ds) o ≡ Some b →
          ((t : Arena) → ArenaHolds g number t → after (arena_step g number) t ds ≡ Some b → ArenaHolds g number b)
          → ArenaHolds g number b
      go None found is rest = absurd (cc is)
      go (Some t) found is rest = rest t (found t refl) is

  pub pairs-apart : (a : Arena) → ((c : ℕ) → IsSound g (chunk_at a c)) → (xs : List RegionId)
      → EachOf (IsLocated g number a) xs → EachTwo BeginElsewhere xs →
      EachTwo (λ r s. r.place.chunk ≡ s.place.chunk → AreApart r.place s.place) xs
  pairs-apart a sound [] h k = tt
  pairs-apart a sound (r ∷ xs) h k = (
    EachOf-two (IsLocated g number a) (BeginElsewhere r) (λ s. r.place.chunk ≡ s.place.chunk → AreApart r.place s.place)
        xs
        (λ s x apart same. slots-apart g (chunk_at a s.place.chunk) (sound s.place.chunk) r s
        (subst (λ c. IsSlot g (chunk_at a c) r) same h.0.1) x.1 (apart same)) h.1 k.0,
    pairs-apart a sound xs h.1 k.1,
  )

-- after every history of an arena
pub takings-apart : (shape : Shape) (number : ℕ) → IsPage shape.page → (ds : List Did) (a : Arena)
    → arena_after shape number ds ≡ Some a → OutApart a
takings-apart shape number page ds a e =
    let g : Geometry = geometry_of shape in
    let holds : ArenaHolds g number a = after-holds g number ds (new_arena g shape.chunks) a
    (new-holds g number page shape.chunks) e in
    pairs-apart g number a holds.sound a.out holds.located holds.elsewhere
