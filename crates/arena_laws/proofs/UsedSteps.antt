-- Which runs of an arena are in use after one of its chunks changed.
use Rattle.std.proofs.Common.{⊎_elim, ◌≡◌, ◌≢◌, inl, inr, ℕ, ◌+◌, ◌*◌, ◌<◌, ◌≤◌, List, [], ◌∷◌, length, refl, sym, ap, subst, arith, Some, None, ◌∙◌}
use Rattle.std.specs.Prelude.{◌⊎◌, slice_get, slice_set, Option, option_map, unwrap_or}
use Rattle.size_classes.specs.Sizes.{Geometry, page_of, chunk_pages}
use Rattle.size_classes.specs.Pages.{Free, Used, total_pages, free_pages, NoneEmpty, taken_at, given_at, replaced}
use Rattle.size_classes.specs.Runs.{Begins}
use Rattle.size_classes.specs.Elements.{Elements}
use Rattle.size_classes.proofs.Runs.{replaced-keeps, replaced-new, taken_at-keeps, taken_at-new, free-unused}
use Rattle.std.proofs.Math.Nat.{le_of_mul-le-mul_left, mul-pos}
use Rattle.size_classes.proofs.SmallClasses.{page-some}
use Rattle.pool_law.specs.declared.report.ListName.{ListName}
use Rattle.pool_law.specs.Chunks.{Chunk, Use, Sub, new_chunk, usage}
use Rattle.pool_law.specs.ChunkLists.{lists_below, sunk, down_to, list_of, walk}
use Rattle.pool_law.specs.Arenas.{Arena, Yielded, chunk_at, with_run, opened, first_holding, first_unused, run_from, run_from_new, run_taken, take_run, with_elements, unless_gone, run_given}
use Rattle.arena_laws.specs.Slots.{IsSound}
use Rattle.pool_law.proofs.ListLemmas.{slice_get-set_same, slice_get-below}
use Rattle.arena_laws.proofs.ChunkSteps.{pages-pos, run_given-sound, run_given-total, same_or-not}
use Rattle.arena_laws.proofs.ElementChanges.{elements_to}
use Rattle.arena_laws.proofs.RunsBack.{taken-back, given-back, given-keeps, changed-back}
use Rattle.arena_laws.proofs.FrontSteps.{Here}
use Rattle.arena_laws.proofs.ArenaSteps.{chunk_at-same, chunk_at-other, chunk_at-below, first_unused-is, first_holding-is}
use Rattle.arena_laws.proofs.GiveSteps.{free-used, lists_below-low, sunk-stays, usage-nothing}
use lib.Pow.{pow_pos}

-- this run of a chunk is in use
abbrev pub UsedAt : Arena → ℕ → ℕ → ℕ → Use → Type 0
UsedAt a c page pages what = Begins page (Used pages what) (chunk_at a c)

-- the same runs are in use, but for the one at a page of a chunk
pub record SameBut (a b : Arena) (c page : ℕ) : Type 0 where
  pub back : (d p n : ℕ) (w : Use) → (Here c page d p → ⊥) → UsedAt b d p n w → UsedAt a d p n w
  pub keeps : (d p n : ℕ) (w : Use) → (Here c page d p → ⊥) → UsedAt a d p n w → UsedAt b d p n w

-- a change of one chunk, and of one run of it
pub same-but : (a b : Arena) (c page : ℕ) (o : Option Chunk) (new : Chunk) → b.chunks ≡ slice_set a.chunks c o
    → chunk_at b c ≡ new →
    ((p n : ℕ) (w : Use) → p ≢ page → Begins p (Used n w) new → Begins p (Used n w) (chunk_at a c)) →
    ((p n : ℕ) (w : Use) → p ≢ page → Begins p (Used n w) (chunk_at a c) → Begins p (Used n w) new) → SameBut a b c page
same-but a b c page o new is here back keeps =
    record {
      back = λ d p n w apart x.
          ⊎_elim
          (λ e. subst (λ k. UsedAt a k p n w) (sym e)
          (back p n w (λ same. apart (e, same))
          (subst (λ y. Begins p (Used n w) y) here (subst (λ k. UsedAt b k p n w) e x))))
          (λ other. subst (λ y. Begins p (Used n w) y) (chunk_at-other a b c d o is other) x)
          (same_or-not d c);
      keeps = λ d p n w apart x.
          ⊎_elim
          (λ e. subst (λ k. UsedAt b k p n w) (sym e)
          (subst (λ y. Begins p (Used n w) y) (sym here)
          (keeps p n w (λ same. apart (e, same)) (subst (λ k. UsedAt a k p n w) e x))))
          (λ other. subst (λ y. Begins p (Used n w) y) (sym (chunk_at-other a b c d o is other)) x)
          (same_or-not d c);
    }

-- pages of a free run come into use
module _ (g : Geometry) (a : Arena) (c at n pages : ℕ) (what : Use) (ne : NoneEmpty (chunk_at a c))
    (here : Begins at (Free n) (chunk_at a c)) where
  pub with_run-chunk : chunk_at (with_run g a c at pages what) c ≡ taken_at at pages what (chunk_at a c)
  with_run-chunk =
      chunk_at-same a (with_run g a c at pages what) c (taken_at at pages what (chunk_at a c)) refl
      (chunk_at-below a c at (Free n) here)

  pub with_run-same : pages ≤ n → SameBut a (with_run g a c at pages what) c at
  with_run-same fits =
      same-but a (with_run g a c at pages what) c at (Some (taken_at at pages what (chunk_at a c)))
      (taken_at at pages what (chunk_at a c)) refl with_run-chunk
      (λ p m w other b. ⊎_elim (λ x. absurd (other x.0)) (λ x. x.1)
      (taken-back (chunk_at a c) ne at n pages what here fits p m w b))
      (λ p m w other b. taken_at-keeps (chunk_at a c) at n ne here pages what p m w fits b)

  -- what is in use at this page was taken
  pub with_run-now : pages ≤ n → (m : ℕ) (w : Use) → UsedAt (with_run g a c at pages what) c at m w
      → Used m w ≡ Used pages what
  with_run-now fits m w b =
      ⊎_elim (λ x. x.1) (λ x. absurd (x.0 refl))
      (taken-back (chunk_at a c) ne at n pages what here fits at m w
      (subst (λ x. Begins at (Used m w) x) with_run-chunk b))

  -- the run at this page was not in use, and is in use as this
  pub with_run-unused : (m : ℕ) (w : Use) → UsedAt a c at m w → ⊥
  with_run-unused m w b = free-unused (chunk_at a c) at n ne here m w b

  pub with_run-new : UsedAt (with_run g a c at pages what) c at pages what
  with_run-new =
      subst (λ x. Begins at (Used pages what) x) (sym with_run-chunk)
      (taken_at-new (chunk_at a c) at n ne here pages what)

-- a subpage gets other elements
module _ (a : Arena) (c page m class : ℕ) (e f : Elements) (ne : NoneEmpty (chunk_at a c))
    (here : UsedAt a c page m (Sub class e)) where
  pub with_elements-chunk : chunk_at (with_elements a c page class f) c
      ≡ replaced page (elements_to class f) (chunk_at a c)
  with_elements-chunk =
      chunk_at-same a (with_elements a c page class f) c (replaced page (elements_to class f) (chunk_at a c)) refl
      (chunk_at-below a c page (Used m (Sub class e)) here)

  pub with_elements-same : SameBut a (with_elements a c page class f) c page
  with_elements-same =
      same-but a (with_elements a c page class f) c page (Some (replaced page (elements_to class f) (chunk_at a c)))
      (replaced page (elements_to class f) (chunk_at a c)) refl with_elements-chunk
      (λ p n w other b. ⊎_elim (λ x. absurd (other x.0)) (λ x. x.1)
      (changed-back (chunk_at a c) ne page m (Sub class e) (elements_to class f) (Sub class f) here refl p n w b))
      (λ p n w other b. replaced-keeps (chunk_at a c) page p (elements_to class f) (Used m (Sub class e)) (Used n w) ne
      here (omega arith) b other)

  -- what is in use at this page has the other elements
  pub with_elements-now : (n : ℕ) (w : Use) → UsedAt (with_elements a c page class f) c page n w
      → Used n w ≡ Used m (Sub class f)
  with_elements-now n w b =
      ⊎_elim (λ x. x.1) (λ x. absurd (x.0 refl))
      (changed-back (chunk_at a c) ne page m (Sub class e) (elements_to class f) (Sub class f) here refl page n w
      (subst (λ x. Begins page (Used n w) x) with_elements-chunk b))

  pub with_elements-new : UsedAt (with_elements a c page class f) c page m (Sub class f)
  with_elements-new =
      subst (λ x. Begins page (Used m (Sub class f)) x) (sym with_elements-chunk)
      (subst (λ k. Begins k (Used m (Sub class f)) (replaced page (elements_to class f) (chunk_at a c))) (omega arith)
      (replaced-new (chunk_at a c) page 0 (elements_to class f) (Used m (Sub class e)) (Used m (Sub class f)) ne here
      (inl (refl, refl))))

-- nothing of a chunk is in use that has no usage
pub none-used : (g : Geometry) (chunk : Chunk) → IsSound g chunk → total_pages chunk ≡ chunk_pages g → usage g chunk < 1
    → (p n : ℕ) (w : Use) → Begins p (Used n w) chunk → ⊥
none-used g chunk sound total nothing p n w b =
    let used : free_pages chunk + n ≤ total_pages chunk = free-used chunk p n w b in
    let some : 0 < n = pages-pos g chunk sound p (Used n w) b in
    let size : 0 < page_of g = page-some g sound.page in
    let all : page_of g * chunk_pages g ≤ page_of g * free_pages chunk =
    usage-nothing (page_of g * free_pages chunk) (page_of g * chunk_pages g) (mul-pos size (pow_pos g.order))
    nothing in
    let most : chunk_pages g ≤ free_pages chunk = le_of_mul-le-mul_left all size in
    omega (arith, total, used, some, most)

-- what is left of a chunk to which a run came back: its other runs, or nothing where none was in use
abbrev pub IsLeft : Geometry → Chunk → Chunk → Type 0
IsLeft g new left = (left ≡ new) ⊎ ((left ≡ []) × (usage g new < 1))

pub left-chunk : (g : Geometry) (a b : Arena) (c : ℕ) (new : Chunk) (l : Option ListName) → c < length a.chunks →
    b.chunks ≡ slice_set a.chunks c (unless_gone l (down_to (usage g new) l) new) → IsLeft g new (chunk_at b c)
left-chunk g a b c new None below is = inl (chunk_at-same a b c new is below)
left-chunk g a b c new (Some here) below is =
    go (sunk (usage g new) here (lists_below here))
    (λ used. sunk-stays (usage g new) here (lists_below here) used (lists_below-low here)) is
  where
    go : (o : Option ListName) → (1 ≤ usage g new → o ≡ None → ⊥)
        → b.chunks ≡ slice_set a.chunks c (unless_gone (Some here) o new) → IsLeft g new (chunk_at b c)
    go None stays gone =
        inr (
          rw gone (ap (λ o. unwrap_or (unwrap_or o None) []) (slice_get-set_same a.chunks c None below)),
          ⊎_elim (λ e. omega (arith, e)) (λ some. absurd (stays (let ne : usage g new ≢ 0 = some in omega arith) refl))
              (same_or-not (usage g new) 0),
        )
    go (Some there) stays kept = inl (chunk_at-same a b c new kept below)

-- a run comes back
module _ (g : Geometry) (a : Arena) (sound : (c : ℕ) → IsSound g (chunk_at a c)) (c page m : ℕ) (what : Use)
    (total : total_pages (chunk_at a c) ≡ chunk_pages g) (here : UsedAt a c page m what) where
  run_given-left : IsLeft g (given_at page (chunk_at a c)) (chunk_at (run_given g a c page) c)
  run_given-left =
      left-chunk g a (run_given g a c page) c (given_at page (chunk_at a c)) (list_of a.lists c)
      (chunk_at-below a c page (Used m what) here) refl

  -- the runs in use of what is left are those of the chunk to which the run came back
  left-back : (p n : ℕ) (w : Use) → UsedAt (run_given g a c page) c p n w
      → Begins p (Used n w) (given_at page (chunk_at a c))
  left-back p n w b =
      ⊎_elim (λ e. subst (λ x. Begins p (Used n w) x) e b) (λ e. absurd (subst (λ x. Begins p (Used n w) x) e.0 b))
      run_given-left

  left-keeps : (p n : ℕ) (w : Use) → Begins p (Used n w) (given_at page (chunk_at a c))
      → UsedAt (run_given g a c page) c p n w
  left-keeps p n w b =
      ⊎_elim (λ e. subst (λ x. Begins p (Used n w) x) (sym e) b)
      (λ e. absurd (none-used g (given_at page (chunk_at a c))
      (run_given-sound g (chunk_at a c) (sound c) page m what here)
      (run_given-total g (chunk_at a c) (sound c) page m what here ∙ total) e.1 p n w b))
      run_given-left

  pub run_given-same : SameBut a (run_given g a c page) c page
  run_given-same =
      same-but a (run_given g a c page) c page
      (unless_gone (list_of a.lists c) (down_to (usage g (given_at page (chunk_at a c))) (list_of a.lists c))
      (given_at page (chunk_at a c)))
      (chunk_at (run_given g a c page) c) refl refl
      (λ p n w other b. (given-back (chunk_at a c) (sound c).none_empty page m what here p n w (left-back p n w b)).1)
      (λ p n w other b. left-keeps p n w
      (given-keeps (chunk_at a c) (sound c).none_empty page m what here p n w other b))

  pub run_given-unused : (n : ℕ) (w : Use) → UsedAt (run_given g a c page) c page n w → ⊥
  run_given-unused n w b =
      (given-back (chunk_at a c) (sound c).none_empty page m what here page n w (left-back page n w b)).0 refl

-- a new chunk has no run in use, and took the place of none
module _ (g : Geometry) (a : Arena) (c : ℕ) (unused : first_unused a.chunks ≡ Some c) where
  opened-free : slice_get a.chunks c ≡ Some None
  opened-free = first_unused-is a.chunks c unused

  pub opened-below : c < length a.chunks
  opened-below = slice_get-below a.chunks c None opened-free

  pub opened-empty : chunk_at a c ≡ []
  opened-empty = ap (λ o. unwrap_or (unwrap_or o None) []) opened-free

  pub opened-chunk : chunk_at (opened g a c) c ≡ new_chunk g
  opened-chunk = chunk_at-same a (opened g a c) c (new_chunk g) refl opened-below

  none-new : (p n : ℕ) (w : Use) → Begins p (Used n w) (new_chunk g) → ⊥
  none-new p n w (inl b) = cc b.1
  none-new p n w (inr b) = b.2

  pub opened-same : SameBut a (opened g a c) c 0
  opened-same =
      same-but a (opened g a c) c 0 (Some (new_chunk g)) (new_chunk g) refl opened-chunk
      (λ p n w other b. absurd (none-new p n w b))
      (λ p n w other b. absurd (subst (λ x. Begins p (Used n w) x) opened-empty b))

  pub opened-before : (p n : ℕ) (w : Use) → UsedAt a c p n w → ⊥
  opened-before p n w b = subst (λ x. Begins p (Used n w) x) opened-empty b

  pub opened-after : (p n : ℕ) (w : Use) → UsedAt (opened g a c) c p n w → ⊥
  opened-after p n w b = none-new p n w (subst (λ x. Begins p (Used n w) x) opened-chunk b)

-- what holds of the first run that an arena gives, or a new chunk of it, holds of the run that is taken
pub take_run-by : (g : Geometry) (pages : ℕ) (what : Use) (I : Arena → Type 0)
    → ((x : Arena) (c : ℕ) → I x → first_unused x.chunks ≡ Some c → I (opened g x c)) →
    (P : Yielded → Type 0) → ((x : Arena) (spot : ℕ × ℕ) (n : ℕ) → I x → Begins spot.1 (Free n) (chunk_at x spot.0)
    → pages ≤ n → P (run_from g x pages what spot)) →
    (a : Arena) → I a → (t : Yielded) → take_run g a pages what ≡ Some t → P t
take_run-by g pages what I new_kept P step a kept t e =
    go (first_holding g a pages (walk a.lists)) (λ spot. from a kept (walk a.lists) spot) e
  where
    from : (x : Arena) → I x → (cs : List ℕ) (spot : ℕ × ℕ) → first_holding g x pages cs ≡ Some spot
        → P (run_from g x pages what spot)
    from x holds cs spot is =
        let found : (n : ℕ) × Begins spot.1 (Free n) (chunk_at x spot.0)
        × (pages ≤ n) = first_holding-is g x pages cs spot is in
        step x spot found.0 holds found.1 found.2

    inner : (x : Arena) (o : Option (ℕ × ℕ)) → ((spot : ℕ × ℕ) → o ≡ Some spot → P (run_from g x pages what spot))
        → option_map (run_from g x pages what) o ≡ Some t → P t
    inner x None found is = absurd (cc is)
    inner x (Some spot) found is = let same : run_from g x pages what spot ≡ t = cc is in subst P same (found spot refl)

    new : (o : Option ℕ) → ((c : ℕ) → o ≡ Some c → I (opened g a c)) → run_from_new g a pages what o ≡ Some t → P t
    new None holds is = absurd (cc is)
    new (Some c) holds is =
        inner (opened g a c) (first_holding g (opened g a c) pages (c ∷ []))
        (λ spot. from (opened g a c) (holds c refl) (c ∷ []) spot) is

    go : (o : Option (ℕ × ℕ)) → ((spot : ℕ × ℕ) → o ≡ Some spot → P (run_from g a pages what spot))
        → run_taken g a pages what o ≡ Some t → P t
    go None found is = new (first_unused a.chunks) (λ c. new_kept a c kept) is
    go (Some spot) found is = let same : run_from g a pages what spot ≡ t = cc is in subst P same (found spot refl)
