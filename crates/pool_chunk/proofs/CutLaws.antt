-- A chunk and one of its subpages: what the run that is cut has, and the chunk after its elements change.
use Rattle.std.proofs.Common.{◌≡◌, ℕ, ◌+◌, ◌*◌, ◌<◌, List, length, get_or, Some, None, sym, ap, ap₂, ◌∙◌, subst, arith, zero-add}
use Rattle.std.specs.Prelude.{map, slice_set, vec_len, Option, IfNone, IfSome}
use Rattle.ground.specs.Ground.{Segment}
use Rattle.size_classes.specs.Sizes.{page_of, size_at, element_count}
use Rattle.size_classes.specs.Pages.{Used}
use Rattle.size_classes.specs.Runs.{Begins}
use Rattle.size_classes.specs.Elements.{Elements, next_element, with_out}
use Rattle.size_classes.proofs.Runs.{Begins-run_at}
use Rattle.subpage_bits.specs.Elements.{SharedRun, IsElementOf}
use Rattle.pool_law.specs.Chunks.{Sub, IsSubpage}
use Rattle.pool_chunk.specs.declared.slot.PageUse.{PageUse}
use Rattle.pool_chunk.specs.declared.slot.CutRun.{CutRun}
use Rattle.pool_chunk.specs.declared.chunk.Chunk.TheInside.{Inside}
use Rattle.pool_chunk.specs.ChunkStates.{with_runs, with_elements, IsBytesAt, page_start, element_start, HasSubpage}
use Rattle.pool_chunk.specs.Slots.{PageEntry, entry_of, AreOf, IsCutAt, IsPlaced, with_subpage, HandsOutOf}
use Rattle.pool_chunk.specs.Held.{entries_in, runs_in, state_in, IsHeld}
use Rattle.pool_chunk.specs.PlaceWords.{element_word}
use Rattle.pool_chunk.specs.Outcomes.{TakesElement}
use Rattle.pool_chunk.proofs.ChunkLaws.{subpage-fits, out-fits}
use Rattle.pool_chunk.proofs.Steps.{elements-of}
use Rattle.pool_chunk.proofs.SlotLaws.{Cuts, slot-within, slot-cut, slot-cuts, entries-set, placed-set, placed-get}
use Rattle.pool_chunk.proofs.SubpageTable.{elements_fill}
use Rattle.pool_chunk.proofs.HeldLaws.{Follows, held-after, state-after}

-- a subpage with other elements
abbrev pub with_others : CutRun → Elements → CutRun
with_others run e = with_subpage run (record run.subpage { elements = e })

module _ (c : Inside) (is : IsHeld c) (page : ℕ) (h : HasSubpage (state_in c) page) where
  pub cut-begins : Begins page (Used h.pages (Sub h.class h.elements)) (runs_in c)
  cut-begins = Begins-run_at (runs_in c) page (Used h.pages (Sub h.class h.elements)) h.run

  pub cut-fits : IsSubpage c.classes h.pages h.class h.elements
  cut-fits = subpage-fits c.classes (runs_in c) page h.pages h.class h.elements is.runs.chunk cut-begins

  pub cut-within : page < length c.slots.items
  cut-within =
      slot-within c.classes c.map.runs c.slots.items (runs_in c) is.runs page (Used h.pages (Sub h.class h.elements))
      cut-begins

  pub cut-room : page < vec_len c.slots
  cut-room = omega (arith, cut-within, c.slots.ok.0)

  -- the slot is that of a run that is cut
  pub cut-there : (run : CutRun) × ((d : PageUse) → get_or c.slots.items page d ≡ PageUse.Cut run)
  cut-there =
      let found = slot-cut c.classes c.map.runs c.slots.items (runs_in c) is.runs page h.pages h.class h.elements
      cut-begins in
      (found.0, found.1)

  pub cut-no_other : (x : PageUse) → x ≡ get_or c.slots.items page x → ((run : CutRun) → x ≡ PageUse.Cut run → ⊥) → ⊥
  cut-no_other x here other = other cut-there.0 (here ∙ cut-there.1 x)

  module _ (x : PageUse) (run : CutRun) (here : x ≡ get_or c.slots.items page x) (cut : x ≡ PageUse.Cut run) where
    pub cut-is : Cuts run h.pages h.class h.elements
    cut-is =
        slot-cuts c.classes c.map.runs c.slots.items (runs_in c) is.runs page h.pages h.class h.elements x run
        cut-begins here cut

    pub cut-placed : IsCutAt c.map.origin (page_of c.classes) page run
    cut-placed =
        let at = placed-get c.map.origin (page_of c.classes) 0 page c.slots.items x is.placed cut-within in
        let there : get_or c.slots.items page x ≡ PageUse.Cut run = sym here ∙ cut in
        subst (λ (s : PageUse). IsPlaced c.map.origin (page_of c.classes) page s) there
        (subst (λ (i : ℕ). IsPlaced c.map.origin (page_of c.classes) i (get_or c.slots.items page x)) (zero-add page)
        at)

    -- where its elements lie
    element_at : (i : ℕ) → run.subpage.start + i * run.subpage.size ≡ element_start (state_in c) page h.class i
    element_at i =
        let size : run.subpage.size ≡ size_at h.class = cut-placed.size ∙ ap size_at cut-is.class_is in
        ap (λ (k : ℕ). run.subpage.start + i * k) size ∙ ap (λ (k : ℕ). k + i * size_at h.class) cut-placed.start

    pub cut-bytes : (i : ℕ) (s : Segment) → IsElementOf run.subpage i s
        → IsBytesAt (state_in c) (element_start (state_in c) page h.class i) (size_at h.class) s
    cut-bytes i s of =
        record {
          origin = of.origin ∙ cut-placed.origin;
          start = of.start ∙ element_at i;
          size = of.size ∙ cut-placed.size ∙ ap size_at cut-is.class_is;
        }

    pub bytes-cut : (i : ℕ) (s : Segment) → IsBytesAt (state_in c) (element_start (state_in c) page h.class i)
        (size_at h.class) s → IsElementOf run.subpage i s
    bytes-cut i s at =
        record {
          origin = at.origin ∙ sym cut-placed.origin;
          start = at.start ∙ sym (element_at i);
          size = at.size ∙ sym (cut-placed.size ∙ ap size_at cut-is.class_is);
        }

    module _ (d : Inside) (f : Elements) (after : CutRun) (changed : after ≡ with_others run f)
        (fits : IsSubpage c.classes h.pages h.class f)
        (follows : Follows c d c.map.runs (slice_set c.slots.items page (PageUse.Cut after))) where
      entry : ◌≡◌ {A = PageEntry} (entry_of (PageUse.Cut after)) (Some (h.pages, Sub h.class f))
      entry =
          ap (λ (r : CutRun). entry_of (PageUse.Cut r)) changed
          ∙ ap₂ (λ (n k : ℕ). Some (n, Sub k f)) cut-is.pages cut-is.class_is

      of : AreOf c.classes c.map.runs (map entry_of (slice_set c.slots.items page (PageUse.Cut after)))
          (with_elements page h.class f (runs_in c))
      of =
          subst (λ (es : List PageEntry). AreOf c.classes c.map.runs es (with_elements page h.class f (runs_in c)))
          (sym (entries-set c.slots.items page (PageUse.Cut after) (Some (h.pages, Sub h.class f)) entry))
          (elements-of c.classes c.map.runs (entries_in c) (runs_in c) page is.runs h.pages h.class h.elements f
          cut-begins fits)

      -- the chunk is seen with these elements, and holds them
      pub cut-state : state_in d ≡ with_runs (state_in c) (with_elements page h.class f (runs_in c))
      cut-state =
          state-after c d c.map.runs (slice_set c.slots.items page (PageUse.Cut after))
          (with_elements page h.class f (runs_in c)) follows of

      pub cut-held : IsHeld d
      cut-held =
          let there : IsCutAt c.map.origin (page_of c.classes) page after =
          subst (λ (r : CutRun). IsCutAt c.map.origin (page_of c.classes) page r) (sym changed)
          (record { origin = cut-placed.origin; start = cut-placed.start; size = cut-placed.size }) in
          held-after c d c.map.runs (slice_set c.slots.items page (PageUse.Cut after))
          (with_elements page h.class f (runs_in c)) follows of is
          (placed-set c.map.origin (page_of c.classes) 0 page c.slots.items (PageUse.Cut after) is.placed
          (subst (λ (i : ℕ). IsCutAt c.map.origin (page_of c.classes) i after) (sym (zero-add page)) there))

-- the subpage after its next element is asked for
module _ (c : Inside) (is : IsHeld c) (page : ℕ) (h : HasSubpage (state_in c) page) (x : PageUse) (run : CutRun)
    (here : x ≡ get_or c.slots.items page x) (cut : x ≡ PageUse.Cut run)
    (d : Inside) (after : CutRun) (follows : Follows c d c.map.runs (slice_set c.slots.items page (PageUse.Cut after)))
  where
    cuts : Cuts run h.pages h.class h.elements
    cuts = cut-is c is page h x run here cut

    fits : IsSubpage c.classes h.pages h.class h.elements
    fits = cut-fits c is page h

    -- what is handed out leaves the others
    left : (s : Segment) (word : ℕ) → (out : HandsOutOf run after page s word)
        → after ≡ with_others run (with_out h.elements out.element)
    left s word out =
        out.rest ∙ ap (λ (r : SharedRun). with_subpage run r) out.out.rest
        ∙ ap (λ (e : Elements). with_others run (with_out e out.element)) cuts.elements

    pub asked-held : (o : Option (Segment × ℕ)) → IfNone o (after ≡ run)
        → IfSome o (λ y. HandsOutOf run after page y.0 y.1) → IsHeld d
    asked-held None none some =
        cut-held c is page h x run here cut d h.elements after
        (none ∙ ap (λ (e : Elements). with_others run e) cuts.elements) fits follows
    asked-held (Some y) none out =
        cut-held c is page h x run here cut d (with_out h.elements out.element) after (left y.0 y.1 out)
        (out-fits c.classes h.pages h.class out.element h.elements fits) follows

    pub asked-takes : (o : Option (Segment × ℕ)) → IfSome o (λ y. HandsOutOf run after page y.0 y.1)
        → IfSome o (λ y. TakesElement (state_in c) (state_in d) page y.0 y.1)
    asked-takes None some = tt
    asked-takes (Some y) out =
        record {
          subpage = h;
          element = out.element;
          next = ap next_element (sym cuts.elements) ∙ out.out.next;
          piece = cut-bytes c is page h x run here cut out.element y.0 out.out.piece;
          place = out.place ∙ ap (λ (n : ℕ). element_word page n out.element) cuts.pages;
          rest =
              cut-state c is page h x run here cut d (with_out h.elements out.element) after (left y.0 y.1 out)
              (out-fits c.classes h.pages h.class out.element h.elements fits) follows;
        }

-- the bytes of the elements of a subpage are those of its run
pub cut-run : (c : Inside) (is : IsHeld c) (page : ℕ) (h : HasSubpage (state_in c) page) (x : PageUse) (run : CutRun)
    → x ≡ get_or c.slots.items page x → x ≡ PageUse.Cut run
    → (s : Segment) → (s.origin ≡ run.subpage.origin) × (s.start ≡ run.subpage.start)
    → length s.bytes ≡ length run.subpage.elements.out * run.subpage.size
    → IsBytesAt (state_in c) (page_start (state_in c) page) (page_start (state_in c) h.pages) s
cut-run c is page h x run here cut s place long =
    let cuts = cut-is c is page h x run here cut in
    let at = cut-placed c is page h x run here cut in
    let fits = cut-fits c is page h in
    let count : length run.subpage.elements.out ≡ element_count c.classes h.class =
    ap (λ (e : Elements). length e.out) cuts.elements ∙ fits.elements in
    let size : run.subpage.size ≡ size_at h.class = at.size ∙ ap size_at cuts.class_is in
    record {
      origin = place.0 ∙ at.origin;
      start = place.1 ∙ at.start;
      size =
          long ∙ ap₂ (λ (a b : ℕ). a * b) count size ∙ elements_fill c.classes is.sizes.page h.class fits.small
          ∙ ap (λ (n : ℕ). page_of c.classes * n) (sym fits.whole);
    }
