-- The slots of a chunk, by its runs.
use Rattle.std.proofs.Common.{Vec, Global, ◌≡◌, ℕ, zero, suc, ◌+◌, ◌<◌, List, [], ◌∷◌, length, get_or, replicate, Some, None, refl, sym, ap, ◌∙◌, subst, arith}
use Rattle.std.specs.Prelude.{map, slice_set}
use Rattle.std.proofs.Math.ListN.{get_or-map}
use Rattle.std.specs.Vec.{with_items}
use Rattle.std.proofs.lemmas.List.{get_or_default, length-map, length-set, map-set, with_items_is}
use Rattle.ground.specs.Ground.{Origin}
use Rattle.size_classes.specs.Sizes.{Geometry}
use Rattle.size_classes.specs.Pages.{Run, Free, Used, Span, total_pages}
use Rattle.size_classes.specs.Runs.{Begins}
use Rattle.size_classes.specs.Elements.{Elements}
use Rattle.size_classes.proofs.Runs.{Begins-inside}
use Rattle.pool_law.specs.Chunks.{Chunk, Use, Whole, Sub}
use Rattle.pool_chunk.specs.declared.slot.PageUse.{PageUse}
use Rattle.pool_chunk.specs.declared.slot.CutRun.{CutRun}
use Rattle.pool_chunk.specs.Slots.{PageEntry, entry_of, AreOf, IsPlaced, ArePlaced}
use Rattle.pool_chunk.proofs.Entries.{length-entries, entry_in, entries-at, entries-inside}
use Rattle.pool_chunk.proofs.ChunkLaws.{run-some}

-- ---- one slot, by its entry

is-nothing : (s : PageUse) → entry_of s ≡ None → s ≡ PageUse.Nothing
is-nothing PageUse.Nothing e = refl
is-nothing (PageUse.Run pages) e = absurd (cc e)
is-nothing (PageUse.Cut run) e = absurd (cc e)

-- an entry has its pages and its use
both : (n m : ℕ) (v w : Use) → ◌≡◌ {A = PageEntry} (Some (n, v)) (Some (m, w)) → (n ≡ m) × (v ≡ w)
both n m v w e =
    let pair : ◌≡◌ {A = ℕ × Use} (n, v) (m, w) = cc e in
    (ap (λ (x : ℕ × Use). x.0) pair, ap (λ (x : ℕ × Use). x.1) pair)

is-run : (s : PageUse) (n : ℕ) → entry_of s ≡ Some (n, Whole) → s ≡ PageUse.Run n
is-run PageUse.Nothing n e = absurd (cc e)
is-run (PageUse.Run pages) n e = ap (λ (k : ℕ). PageUse.Run k) (both pages n Whole Whole e).0
is-run (PageUse.Cut run) n e = absurd (cc ((both run.pages n (Sub run.class run.subpage.elements) Whole e).1))

-- a run that is cut has the pages, the class and the elements of its entry
pub record Cuts (run : CutRun) (n class : ℕ) (e : Elements) : Type 0 where
  pub pages : run.pages ≡ n
  pub class_is : run.class ≡ class
  pub elements : run.subpage.elements ≡ e

is-cut : (s : PageUse) (n class : ℕ) (e : Elements) → entry_of s ≡ Some (n, Sub class e)
    → (run : CutRun) × (s ≡ PageUse.Cut run) × Cuts run n class e
is-cut PageUse.Nothing n class e h = absurd (cc h)
is-cut (PageUse.Run pages) n class e h = absurd (cc ((both pages n Whole (Sub class e) h).1))
is-cut (PageUse.Cut run) n class e h =
    let same = both run.pages n (Sub run.class run.subpage.elements) (Sub class e) h in
    let use_is : Sub run.class run.subpage.elements ≡ Sub class e = same.1 in
    (run, refl, record { pages = same.0; class_is = cc use_is; elements = cc use_is })

-- ---- the slots of a chunk

module _ (g : Geometry) (spans : List Span) (slots : List PageUse) (rs : Chunk)
    (of : AreOf g spans (map entry_of slots) rs) where
  pub length-slots : length slots ≡ total_pages rs
  length-slots =
      sym (length-map slots entry_of) ∙ ap (λ (es : List PageEntry). length es) (sym of.entries)
      ∙ length-entries rs of.chunk.none_empty

  -- a run begins at a page that has a slot
  pub slot-within : (at : ℕ) (r : Run Use) → Begins at r rs → at < length slots
  slot-within at r b = omega (arith, length-slots, Begins-inside rs at r b, run-some rs at r of.chunk.none_empty b)

  slot-entry : (at : ℕ) (r : Run Use) (d : PageUse) → Begins at r rs → entry_of (get_or slots at d) ≡ entry_in r
  slot-entry at r d b =
      sym (get_or-map entry_of slots at d) ∙ ap (λ (es : List PageEntry). get_or es at (entry_of d)) (sym of.entries)
      ∙ entries-at rs at r (entry_of d) of.chunk.none_empty b

  -- a subpage that begins at a page is cut there
  pub slot-cuts : (at n class : ℕ) (e : Elements) (x : PageUse) (run : CutRun) → Begins at (Used n (Sub class e)) rs
      → x ≡ get_or slots at x → x ≡ PageUse.Cut run
      → Cuts run n class e
  slot-cuts at n class e x run b here cut =
      let entry : ◌≡◌ {A = PageEntry} (Some (run.pages, Sub run.class run.subpage.elements)) (Some (n, Sub class e)) =
      ap entry_of (sym cut) ∙ ap entry_of here ∙ slot-entry at (Used n (Sub class e)) x b in
      let same = both run.pages n (Sub run.class run.subpage.elements) (Sub class e) entry in
      let use_is : Sub run.class run.subpage.elements ≡ Sub class e = same.1 in
      record { pages = same.0; class_is = cc use_is; elements = cc use_is }

  pub slot-nothing : (at n : ℕ) → Begins at (Free n) rs → (d : PageUse) → get_or slots at d ≡ PageUse.Nothing
  slot-nothing at n b d = is-nothing (get_or slots at d) (slot-entry at (Free n) d b)

  pub slot-run : (at n : ℕ) → Begins at (Used n Whole) rs → (d : PageUse) → get_or slots at d ≡ PageUse.Run n
  slot-run at n b d = is-run (get_or slots at d) n (slot-entry at (Used n Whole) d b)

  pub slot-cut : (at n class : ℕ) (e : Elements) → Begins at (Used n (Sub class e)) rs
      → (run : CutRun) × ((d : PageUse) → get_or slots at d ≡ PageUse.Cut run) × Cuts run n class e
  slot-cut at n class e b =
      let found = is-cut (get_or slots at PageUse.Nothing) n class e
      (slot-entry at (Used n (Sub class e)) PageUse.Nothing b) in (
        found.0,
        (λ d. get_or_default slots at d PageUse.Nothing (slot-within at (Used n (Sub class e)) b) ∙ found.1),
        found.2,
      )

  -- something begins at the page of a run in use, and nothing at its other pages
  pub slot-some : (at n : ℕ) (what : Use) (x : PageUse) → Begins at (Used n what) rs → x ≡ get_or slots at x
      → x ≡ PageUse.Nothing → ⊥
  slot-some at n what x b here nothing =
      let entry : ◌≡◌ {A = PageEntry} None (Some (n, what)) = ap entry_of (sym nothing) ∙ ap entry_of here
      ∙ slot-entry at (Used n what) x b in
      absurd (cc entry)

  pub slot-inside : (at k n : ℕ) (what : Use) (x : PageUse) → Begins at (Used n what) rs → at < k → k < at + n
      → x ≡ get_or slots k x → x ≡ PageUse.Nothing
  slot-inside at k n what x b from within here =
      is-nothing x (
      ap entry_of here
      ∙ sym (get_or-map entry_of slots k x) ∙ ap (λ (es : List PageEntry). get_or es k (entry_of x)) (sym of.entries)
      ∙ entries-inside rs at k (Used n what) (entry_of x) of.chunk.none_empty b from within
      )

-- the entries once a slot changes
pub entries-set : (slots : List PageUse) (at : ℕ) (s : PageUse) (x : PageEntry) → entry_of s ≡ x
    → map entry_of (slice_set slots at s) ≡ slice_set (map entry_of slots) at x
entries-set slots at s x e = map-set entry_of slots at s ∙ ap (λ (y : PageEntry). slice_set (map entry_of slots) at y) e

-- the slots of a vector once one of them is written
pub written : (v : Vec PageUse Global) (looked new : List PageUse) (at : ℕ) (s : PageUse) → looked ≡ v.items
    → new ≡ slice_set looked at s
    → (with_items v new).items ≡ slice_set v.items at s
written v looked new at s same is =
    let items = is ∙ ap (λ (slots : List PageUse). slice_set slots at s) same in
    with_items_is v new (ap (λ (slots : List PageUse). length slots) items ∙ length-set v.items at s ∙ sym v.ok.0) ∙
    items

-- ---- where they lie

pub placed-set : (o : Origin) (page from at : ℕ) (slots : List PageUse) (s : PageUse) → ArePlaced o page from slots
    → IsPlaced o page (from + at) s
    → ArePlaced o page from (slice_set slots at s)
placed-set o page from at [] s h k = h
placed-set o page from zero (t ∷ slots) s h k = (subst (λ (i : ℕ). IsPlaced o page i s) (omega arith) k, h.1)
placed-set o page from (suc at) (t ∷ slots) s h k =
    (h.0, placed-set o page (from + 1) at slots s h.1 (subst (λ (i : ℕ). IsPlaced o page i s) (omega arith) k))

pub placed-get : (o : Origin) (page from at : ℕ) (slots : List PageUse) (d : PageUse) → ArePlaced o page from slots
    → at < length slots
    → IsPlaced o page (from + at) (get_or slots at d)
placed-get o page from at [] d h less = absurd (omega arith)
placed-get o page from zero (t ∷ slots) d h less = subst (λ (i : ℕ). IsPlaced o page i t) (omega arith) h.0
placed-get o page from (suc at) (t ∷ slots) d h less =
    subst (λ (i : ℕ). IsPlaced o page i (get_or slots at d)) (omega arith)
    (placed-get o page (from + 1) at slots d h.1 (omega (arith, less)))

-- slots at which nothing begins
pub entries-nothing : (n : ℕ) → map entry_of (replicate n PageUse.Nothing) ≡ replicate n None
entries-nothing zero = refl
entries-nothing (suc n) = ap (λ (es : List PageEntry). None ∷ es) (entries-nothing n)

pub placed-nothing : (o : Origin) (page from n : ℕ) → ArePlaced o page from (replicate n PageUse.Nothing)
placed-nothing o page from zero = tt
placed-nothing o page from (suc n) = (tt, placed-nothing o page (from + 1) n)

-- and the other way round
pub all-nothing : (n : ℕ) (slots : List PageUse) → map entry_of slots ≡ replicate n None → (k : ℕ) (d : PageUse)
    → k < length slots → get_or slots k d ≡ PageUse.Nothing
all-nothing n [] e k d less = absurd (omega arith)
all-nothing zero (s ∷ slots) e k d less = absurd (cc e)
all-nothing (suc n) (s ∷ slots) e zero d less = is-nothing s (cc e)
all-nothing (suc n) (s ∷ slots) e (suc k) d less = all-nothing n slots (cc e) k d (omega (arith, less))
