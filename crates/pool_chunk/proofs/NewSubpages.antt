-- A run that is taken for a subpage of a small class: it is whole elements, and it is cut at its page.
use Rattle.std.proofs.Common.{◌≡◌, ℕ, ◌*◌, ◌/◌, ◌%◌, ◌≤◌, true, length, Some, sym, ap, ap₂, ◌∙◌, arith}
use Rattle.std.proofs.Math.Nat.{mul_comm}
use Rattle.ground.specs.Ground.{Segment}
use Rattle.size_classes.specs.Sizes.{page_of, size_at, is_small, subpage_pages, element_count}
use Rattle.size_classes.specs.Elements.{Elements, new_elements}
use Rattle.run_map.specs.FreeRuns.{FreeRuns, IsTaken}
use Rattle.subpage_bits.specs.Elements.{SharedRun, new_shared}
use Rattle.pool_law.specs.Chunks.{Sub}
use Rattle.pool_chunk.specs.declared.slot.PageUse.{PageUse}
use Rattle.pool_chunk.specs.declared.slot.CutRun.{CutRun}
use Rattle.pool_chunk.specs.declared.chunk.Chunk.TheInside.{Inside}
use Rattle.pool_chunk.specs.Outcomes.{new_subpage}
use Rattle.pool_chunk.specs.Slots.{PageEntry, entry_of, IsCutAt}
use Rattle.pool_chunk.specs.Held.{IsHeld}
use Rattle.pool_chunk.proofs.SubpageTable.{whole_elements, few_elements}

module _ (c : Inside) (is : IsHeld c) (class : ℕ) (small : is_small c.classes class ≡ true) (m : FreeRuns) (page : ℕ)
    (piece : Segment)
    (taken : IsTaken c.map m (subpage_pages c.classes class) piece page) (size : ℕ) (size_is : size ≡ size_at class)
  where
    long : length piece.bytes ≡ subpage_pages c.classes class * page_of c.classes
    long = taken.piece.size ∙ ap (λ (k : ℕ). subpage_pages c.classes class * k) is.page

    -- its bytes are whole elements
    pub new-whole : length piece.bytes % size ≡ 0
    new-whole = ap₂ (λ (a b : ℕ). a % b) long size_is ∙ whole_elements c.classes is.sizes.page class small

    -- as many as a subpage of the class has
    count : length piece.bytes / size ≡ element_count c.classes class
    count =
        ap₂ (λ (a b : ℕ). a / b) long size_is
        ∙ ap (λ (k : ℕ). k / size_at class) (mul_comm (subpage_pages c.classes class) (page_of c.classes))

    pub new-few : length piece.bytes / size ≤ 2048
    new-few = omega (arith, count, few_elements c.classes is.sizes.page class small)

    module _ (run : CutRun) (class_is : run.class ≡ class) (pages_is : run.pages ≡ subpage_pages c.classes class)
        (subpage_is : run.subpage ≡ new_shared piece size) where
      -- what begins at the page is a new subpage of the class
      pub new-entry : ◌≡◌ {A = PageEntry} (entry_of (PageUse.Cut run))
          (Some (subpage_pages c.classes class, new_subpage c.classes class))
      new-entry =
          let elements : run.subpage.elements ≡ new_elements (element_count c.classes class) =
          ap (λ (r : SharedRun). r.elements) subpage_is ∙ ap new_elements count in
          ap₂ (λ (n k : ℕ). Some (n, Sub k run.subpage.elements)) pages_is class_is
          ∙ ap (λ (e : Elements). Some (subpage_pages c.classes class, Sub class e)) elements

      pub new-placed : IsCutAt c.map.origin (page_of c.classes) page run
      new-placed =
          record {
            origin = ap (λ (r : SharedRun). r.origin) subpage_is ∙ taken.piece.origin;
            start =
                ap (λ (r : SharedRun). r.start) subpage_is ∙ taken.piece.start ∙ ap (λ (k : ℕ). page * k) is.page
                ∙ mul_comm page (page_of c.classes);
            size = ap (λ (r : SharedRun). r.size) subpage_is ∙ size_is ∙ ap size_at (sym class_is);
          }
