-- What an arena keeps under takings.
use Rattle.std.proofs.Common.{⊎_elim, ◌≡◌, ◌≢◌, inl, inr, ℕ, suc, ◌+◌, ◌*◌, ◌<◌, ◌≤◌, List, [], ◌∷◌, ◌++◌, length, refl, sym, ap, subst, arith, Some, None, ◌∙◌}
use Rattle.std.specs.Prelude.{◌⊎◌, slice_get, slice_set, Option, unwrap_or, option_map}
use Rattle.size_classes.specs.Sizes.{Geometry, page_of, chunk_pages}
use Rattle.size_classes.specs.Pages.{Run, Free, Used, total_pages, taken_at, free_runs, chosen}
use Rattle.size_classes.specs.Runs.{Begins}
use Rattle.size_classes.proofs.Runs.{chosen-free, IfThere, taken_at-new}
use Rattle.pool_law.specs.declared.id.RegionId.{RegionId}
use Rattle.pool_law.specs.Chunks.{Chunk, Use, new_chunk}
use Rattle.pool_law.specs.Arenas.{Arena, chunk_at, with_run, opened, first_holding, first_unused, run_from, run_from_new, run_taken, take_run, or_else}
use Rattle.arena_laws.specs.Slots.{IsSlot, ElementsFit, IsSound, EachOf, EachTwo, IsLocated, BeginElsewhere, ArenaHolds}
use Rattle.pool_law.proofs.ListLemmas.{slice_get-set_same, slice_get-set_other, slice_get-below}
use Rattle.arena_laws.proofs.ChunkSteps.{Keeps, Always, run_taken-keeps, run_taken-fresh, same_or-not}
use lib.Pow.{pow_pos}
use Rattle.pool_law.specs.ChunkLists.{walk}

pub EachOf-map : {X : Type 0} (P Q : X → Type 0) (xs : List X) → ((x : X) → P x → Q x) → EachOf P xs → EachOf Q xs
EachOf-map P Q [] f h = tt
EachOf-map P Q (x ∷ xs) f h = (f x h.0, EachOf-map P Q xs f h.1)

pub EachOf-push : {X : Type 0} (P : X → Type 0) (xs : List X) (y : X) → EachOf P xs → P y → EachOf P (xs ++ y ∷ [])
EachOf-push P [] y h p = (p, tt)
EachOf-push P (x ∷ xs) y h p = (h.0, EachOf-push P xs y h.1 p)

pub EachTwo-push : {X : Type 0} (R : X → X → Type 0) (xs : List X) (y : X) → EachTwo R xs → EachOf (λ x. R x y) xs
    → EachTwo R (xs ++ y ∷ [])
EachTwo-push R [] y h p = (tt, tt)
EachTwo-push R (x ∷ xs) y h p = (EachOf-push (R x) xs y h.0 p.0, EachTwo-push R xs y h.1 p.1)

-- the chunks after one of them is written
pub chunk_at-same : (a b : Arena) (c : ℕ) (new : Chunk) → b.chunks ≡ slice_set a.chunks c (Some new)
    → c < length a.chunks → chunk_at b c ≡ new
chunk_at-same a b c new is below =
    rw is (ap (λ o. unwrap_or (unwrap_or o None) []) (slice_get-set_same a.chunks c (Some new) below))

pub chunk_at-other : (a b : Arena) (c d : ℕ) (o : Option Chunk) → b.chunks ≡ slice_set a.chunks c o → d ≢ c
    → chunk_at b d ≡ chunk_at a d
chunk_at-other a b c d o is other =
    rw is (ap (λ x. unwrap_or (unwrap_or x None) []) (slice_get-set_other a.chunks c d o other))

-- a chunk in which a run begins is there
pub chunk_at-below : (a : Arena) (c p : ℕ) (r : Run Use) → Begins p r (chunk_at a c) → c < length a.chunks
chunk_at-below a c p r b = go (slice_get a.chunks c) b (λ x. slice_get-below a.chunks c x)
  where
    go : (o : Option (Option Chunk)) → Begins p r (unwrap_or (unwrap_or o None) [])
        → ((x : Option Chunk) → o ≡ Some x → c < length a.chunks) → c < length a.chunks
    go None begins below = absurd begins
    go (Some x) begins below = below x refl

pub not_empty : (chunk : Chunk) (p : ℕ) (r : Run Use) → Begins p r chunk → chunk ≡ [] → ⊥
not_empty [] p r b e = b
not_empty (s ∷ rs) p r b e = cc e

module _ (g : Geometry) (number : ℕ) (a : Arena) (holds : ArenaHolds g number a) where
  pub total-of : (c p : ℕ) (r : Run Use) → Begins p r (chunk_at a c) → total_pages (chunk_at a c) ≡ chunk_pages g
  total-of c p r b = ⊎_elim (λ e. absurd (not_empty (chunk_at a c) p r b e)) (λ t. t) (holds.whole c)

  -- a change of one chunk that keeps the slots of all takings that are out
  pub chunk-changed : (b : Arena) (c p : ℕ) (r : Run Use) (new : Chunk) (P : RegionId → Type 0) →
      Begins p r (chunk_at a c) → b.chunks ≡ slice_set a.chunks c (Some new) → b.out ≡ a.out
      → Keeps g (chunk_at a c) new P →
      EachOf (λ s. s.place.chunk ≡ c → P s) a.out → ArenaHolds g number b
  chunk-changed b c p r new P begins is same keeps all =
      record {
        sound = sounds;
        whole = wholes;
        located =
            subst (λ xs. EachOf (IsLocated g number b) xs) (sym same) (go a.out holds.located all);
        elsewhere =
            subst (λ xs. EachTwo BeginElsewhere xs) (sym same) holds.elsewhere;
      }
    where
      here : chunk_at b c ≡ new
      here = chunk_at-same a b c new is (chunk_at-below a c p r begins)

      sounds : (d : ℕ) → IsSound g (chunk_at b d)
      sounds d =
          ⊎_elim
          (λ e. subst (λ k. IsSound g (chunk_at b k)) (sym e) (subst (λ x. IsSound g x) (sym here) keeps.sound))
          (λ other. subst (λ x. IsSound g x) (sym (chunk_at-other a b c d (Some new) is other)) (holds.sound d))
          (same_or-not d c)

      wholes : (d : ℕ) → (chunk_at b d ≡ []) ⊎ (total_pages (chunk_at b d) ≡ chunk_pages g)
      wholes d =
          ⊎_elim
          (λ e. subst (λ k. (chunk_at b k ≡ []) ⊎ (total_pages (chunk_at b k) ≡ chunk_pages g)) (sym e)
          (inr (ap total_pages here ∙ keeps.total ∙ total-of c p r begins)))
          (λ other. subst (λ x. (x ≡ []) ⊎ (total_pages x ≡ chunk_pages g))
          (sym (chunk_at-other a b c d (Some new) is other)) (holds.whole d))
          (same_or-not d c)

      slot : (s : RegionId) → (s.place.chunk ≡ c → P s) → IsSlot g (chunk_at a s.place.chunk) s
          → IsSlot g (chunk_at b s.place.chunk) s
      slot s allowed x =
          ⊎_elim
          (λ e. subst (λ k. IsSlot g (chunk_at b k) s) (sym e)
          (subst (λ y. IsSlot g y s) (sym here)
          (keeps.slots s (allowed e) (subst (λ k. IsSlot g (chunk_at a k) s) e x))))
          (λ other. subst (λ y. IsSlot g y s) (sym (chunk_at-other a b c s.place.chunk (Some new) is other)) x)
          (same_or-not s.place.chunk c)

      go : (xs : List RegionId) → EachOf (IsLocated g number a) xs → EachOf (λ s. s.place.chunk ≡ c → P s) xs
          → EachOf (IsLocated g number b) xs
      go [] h k = tt
      go (x ∷ xs) h k = ((h.0.0, slot x k.0 h.0.1), go xs h.1 k.1)

-- what a search for a run finds is a free run that holds the pages
pub first_holding-is : (g : Geometry) (a : Arena) (pages : ℕ) (cs : List ℕ) (spot : ℕ × ℕ)
    → first_holding g a pages cs ≡ Some spot →
    (n : ℕ) × Begins spot.1 (Free n) (chunk_at a spot.0) × (pages ≤ n)
first_holding-is g a pages [] spot e = absurd (cc e)
first_holding-is g a pages (c ∷ cs) spot e =
    go (chosen g pages (free_runs 0 (chunk_at a c))) (chosen-free g pages (chunk_at a c)) e
    (first_holding-is g a pages cs spot)
  where
    go : (o : Option (ℕ × ℕ)) → IfThere (λ x. Begins x.0 (Free x.1) (chunk_at a c) × (pages ≤ x.1)) o →
        or_else (option_map (λ run. (c, run.0)) o) (first_holding g a pages cs) ≡ Some spot →
        (first_holding g a pages cs ≡ Some spot → (n : ℕ) × Begins spot.1 (Free n) (chunk_at a spot.0) × (pages ≤ n)) →
        (n : ℕ) × Begins spot.1 (Free n) (chunk_at a spot.0) × (pages ≤ n)
    go None found is later = later is
    go (Some x) found is later =
        let same : (c, x.0) ≡ spot = cc is in
        subst (λ s. (n : ℕ) × Begins s.1 (Free n) (chunk_at a s.0) × (pages ≤ n)) same (x.1, found.0, found.1)

-- the place of a new chunk had none
pub first_unused-is : (chunks : List (Option Chunk)) (c : ℕ) → first_unused chunks ≡ Some c
    → slice_get chunks c ≡ Some None
first_unused-is [] c e = absurd (cc e)
first_unused-is (None ∷ rest) c e =
    let same : 0 ≡ c = cc e in
    let list : List (Option Chunk) = None ∷ rest in
    subst (λ k. slice_get list k ≡ Some None) same refl
first_unused-is (Some x ∷ rest) c e = go (first_unused rest) e (λ j. first_unused-is rest j)
  where
    go : (o : Option ℕ) → option_map (λ k. suc k) o ≡ Some c → ((j : ℕ) → o ≡ Some j → slice_get rest j ≡ Some None)
        → slice_get (Some x ∷ rest) c ≡ Some None
    go None is found = absurd (cc is)
    go (Some j) is found =
        let same : suc j ≡ c = cc is in
        subst (λ k. slice_get (Some x ∷ rest) k ≡ Some None) same (found j refl)

pub no-slot : (g : Geometry) (r : RegionId) → IsSlot g [] r → ⊥
no-slot g r (inl s) = s.begins
no-slot g r (inr s) = s.begins

-- an arena with a new chunk keeps what it kept
pub opened-holds : (g : Geometry) (number : ℕ) (a : Arena) (c : ℕ) → ArenaHolds g number a
    → first_unused a.chunks ≡ Some c → ArenaHolds g number (opened g a c)
opened-holds g number a c holds unused =
    record {
      sound = sounds;
      whole = wholes;
      located =
          EachOf-map (IsLocated g number a) (IsLocated g number (opened g a c)) a.out (λ s x. (x.0, slot s x.1))
          holds.located;
      elsewhere = holds.elsewhere;
    }
  where
    free : slice_get a.chunks c ≡ Some None
    free = first_unused-is a.chunks c unused

    empty : chunk_at a c ≡ []
    empty = ap (λ o. unwrap_or (unwrap_or o None) []) free

    here : chunk_at (opened g a c) c ≡ new_chunk g
    here = chunk_at-same a (opened g a c) c (new_chunk g) refl (slice_get-below a.chunks c None free)

    new_sound : IsSound g (new_chunk g)
    new_sound = record { page = (holds.sound 0).page; none_empty = (pow_pos g.order, tt); elements_fit = (tt, tt) }

    sounds : (d : ℕ) → IsSound g (chunk_at (opened g a c) d)
    sounds d =
        ⊎_elim
        (λ e. subst (λ k. IsSound g (chunk_at (opened g a c) k)) (sym e)
        (subst (λ x. IsSound g x) (sym here) new_sound))
        (λ other. subst (λ x. IsSound g x) (sym (chunk_at-other a (opened g a c) c d (Some (new_chunk g)) refl other))
        (holds.sound d))
        (same_or-not d c)

    wholes : (d : ℕ) → (chunk_at (opened g a c) d ≡ []) ⊎ (total_pages (chunk_at (opened g a c) d) ≡ chunk_pages g)
    wholes d =
        ⊎_elim
        (λ e. subst (λ k. (chunk_at (opened g a c) k ≡ []) ⊎ (total_pages (chunk_at (opened g a c) k) ≡ chunk_pages g))
        (sym e) (inr (ap total_pages here ∙ omega arith)))
        (λ other. subst (λ x. (x ≡ []) ⊎ (total_pages x ≡ chunk_pages g))
        (sym (chunk_at-other a (opened g a c) c d (Some (new_chunk g)) refl other)) (holds.whole d))
        (same_or-not d c)

    slot : (s : RegionId) → IsSlot g (chunk_at a s.place.chunk) s → IsSlot g (chunk_at (opened g a c) s.place.chunk) s
    slot s x =
        ⊎_elim
        (λ e. absurd (no-slot g s (subst (λ y. IsSlot g y s) empty (subst (λ k. IsSlot g (chunk_at a k) s) e x))))
        (λ other. subst (λ y. IsSlot g y s)
        (sym (chunk_at-other a (opened g a c) c s.place.chunk (Some (new_chunk g)) refl other)) x)
        (same_or-not s.place.chunk c)

-- no taking that is out begins at this byte
abbrev pub IsUnused : Arena → ℕ → ℕ → Type 0
IsUnused a c offset = EachOf (λ s. s.place.chunk ≡ c → s.place.offset ≢ offset) a.out

-- after a run was taken: it stands where the chunk and the page say, and nothing that is out begins there
pub record RunTaken (g : Geometry) (number : ℕ) (a b : Arena) (c at pages : ℕ) (what : Use) : Type 0 where
  pub holds : ArenaHolds g number b
  pub out : b.out ≡ a.out
  pub takings : b.takings ≡ a.takings
  pub begins : Begins at (Used pages what) (chunk_at b c)
  pub unused : IsUnused a c (page_of g * at)

module _ (g : Geometry) (number pages : ℕ) (what : Use) (some_pages : 0 < pages)
    (good : ElementsFit g (Used pages what)) where
  pub with_run-is : (a : Arena) → ArenaHolds g number a → (c at n : ℕ) → Begins at (Free n) (chunk_at a c) → pages ≤ n →
      RunTaken g number a (with_run g a c at pages what) c at pages what
  with_run-is a holds c at n here fits =
      record {
        holds =
            chunk-changed g number a holds (with_run g a c at pages what) c at (Free n)
            (taken_at at pages what (chunk_at a c)) Always here refl refl
            (run_taken-keeps g (chunk_at a c) (holds.sound c) at n pages what here fits some_pages good)
            (EachOf-map (IsLocated g number a) (λ s. s.place.chunk ≡ c → Always s) a.out (λ s _ _. tt) holds.located);
        out = refl;
        takings = refl;
        begins =
            subst (λ x. Begins at (Used pages what) x)
            (sym (chunk_at-same a (with_run g a c at pages what) c (taken_at at pages what (chunk_at a c)) refl
            (chunk_at-below a c at (Free n) here)))
            (taken_at-new (chunk_at a c) at n (holds.sound c).none_empty here pages what);
        unused = EachOf-map (IsLocated g number a) (λ s. s.place.chunk ≡ c → s.place.offset ≢ page_of g * at) a.out
            (λ s x e. run_taken-fresh g (chunk_at a c) (holds.sound c) at n pages what here fits some_pages good s
            (subst (λ k. IsSlot g (chunk_at a k) s) e x.1)) holds.located;
      }

  pub run_from-is : (a : Arena) → ArenaHolds g number a → (cs : List ℕ) (spot : ℕ × ℕ)
      → first_holding g a pages cs ≡ Some spot →
      RunTaken g number a (with_run g a spot.0 spot.1 pages what) spot.0 spot.1 pages what
  run_from-is a holds cs spot e =
      let found : (n : ℕ) × Begins spot.1 (Free n) (chunk_at a spot.0)
      × (pages ≤ n) = first_holding-is g a pages cs spot e in
      with_run-is a holds spot.0 spot.1 found.0 found.1 found.2

  pub take_run-is : (a : Arena) → ArenaHolds g number a → (t : ℕ × ℕ × Arena) → take_run g a pages what ≡ Some t
      → RunTaken g number a t.2 t.0 t.1 pages what
  take_run-is a holds t e =
      go (first_holding g a pages (walk a.lists)) (λ spot. run_from-is a holds (walk a.lists) spot) e
    where
      inner : (c : ℕ) → (h : ArenaHolds g number (opened g a c)) → (o : Option (ℕ × ℕ))
          → ((spot : ℕ × ℕ) → o ≡ Some spot → RunTaken g number (opened g a c)
          (with_run g (opened g a c) spot.0 spot.1 pages what) spot.0 spot.1 pages what) →
          option_map (run_from g (opened g a c) pages what) o ≡ Some t → RunTaken g number a t.2 t.0 t.1 pages what
      inner c h None found is = absurd (cc is)
      inner c h (Some spot) found is =
          let same : run_from g (opened g a c) pages what spot ≡ t = cc is in
          let r : RunTaken g number (opened g a c) (with_run g (opened g a c) spot.0 spot.1 pages what) spot.0 spot.1
          pages what = found spot refl in
          subst (λ u. RunTaken g number a u.2 u.0 u.1 pages what) same
          (record { holds = r.holds; out = r.out; takings = r.takings; begins = r.begins; unused = r.unused })

      new : (o : Option ℕ) → ((c : ℕ) → o ≡ Some c → ArenaHolds g number (opened g a c))
          → run_from_new g a pages what o ≡ Some t → RunTaken g number a t.2 t.0 t.1 pages what
      new None found is = absurd (cc is)
      new (Some c) found is =
          inner c (found c refl) (first_holding g (opened g a c) pages (c ∷ []))
          (λ spot. run_from-is (opened g a c) (found c refl) (c ∷ []) spot) is

      go : (o : Option (ℕ × ℕ)) → ((spot : ℕ × ℕ) → o ≡ Some spot
          → RunTaken g number a (with_run g a spot.0 spot.1 pages what) spot.0 spot.1 pages what) →
          run_taken g a pages what o ≡ Some t → RunTaken g number a t.2 t.0 t.1 pages what
      go None found is = new (first_unused a.chunks) (λ c. opened-holds g number a c holds) is
      go (Some spot) found is =
          let same : run_from g a pages what spot ≡ t = cc is in
          subst (λ u. RunTaken g number a u.2 u.0 u.1 pages what) same (found spot refl)
