-- What the fields of a word say of the place that is out.
use Rattle.std.proofs.Common.{◌≡◌, ℕ, ◌^◌, ◌<◌, Bool, true, false, Some, sym, ap, subst, arith, lit<}
use Rattle.ground.specs.Ground.{Segment}
use Rattle.size_classes.specs.Pages.{Run, Used, run_at}
use Rattle.size_classes.proofs.Runs.{Begins-run_at}
use Rattle.size_classes.proofs.ElementLaws.{out_within}
use Rattle.pool_law.specs.Chunks.{Use, Whole, Sub}
use Rattle.pool_chunk.specs.declared.chunk.Chunk.TheInside.{Inside}
use Rattle.pool_chunk.specs.PlaceWords.{place_word, AreFields}
use Rattle.pool_chunk.specs.ChunkStates.{ChunkState, IsRunOut, IsElementOut, IsRunPlace, IsElementPlace, IsPlaceOut}
use Rattle.pool_chunk.specs.Held.{runs_in, state_in, IsHeld}
use Rattle.pool_chunk.proofs.ChunkLaws.{subpage-fits}
use Rattle.pool_chunk.proofs.SubpageTable.{few_elements}
use Rattle.pool_chunk.proofs.HeldLaws.{place-fields}
use mathlib.Core.Logic.{inl, inr}

abbrev pub Fields : Type 0
Fields = ℕ × ℕ × Bool × Bool × ℕ

-- the fields are the only ones of the word
abbrev pub AreOnly : ℕ → Fields → Type 0
AreOnly word fields =
    (page pages index : ℕ) (used sub : Bool) → AreFields page pages index → word ≡ place_word page pages used sub index
    → ◌≡◌ {A = Fields} fields (page, pages, used, sub, index)

module _ (c : Inside) (is : IsHeld c) (v : ChunkState) (same : state_in c ≡ v) (s : Segment) (word : ℕ)
    (fields : Fields) (only : AreOnly word fields) where
  -- of a run they have its page, and say that it is none of a subpage
  run-word : (out : IsRunPlace v s word) → ◌≡◌ {A = Fields} fields (out.page, out.run.pages, true, false, 0)
  run-word out =
      only out.page out.run.pages 0 true false
      (place-fields c is v same out.page (Used out.run.pages Whole) 0 out.run.run (lit< tt)) out.place

  pub run-page : (out : IsRunPlace v s word) → fields.0 ≡ out.page
  run-page out = ap (λ (f : Fields). f.0) (run-word out)

  pub run-sub : IsRunPlace v s word → fields.3 ≡ false
  run-sub out = ap (λ (f : Fields). f.3) (run-word out)

  -- of an element they have its page and its number, and say that it is one of a subpage
  element-word : (out : IsElementPlace v s word) → ◌≡◌ {A = Fields} fields
      (out.page, out.element.subpage.pages, true, true, out.index)
  element-word out =
      let h = out.element.subpage in
      let run : Run Use = Used h.pages (Sub h.class h.elements) in
      let begins = Begins-run_at (runs_in c) out.page run
      (subst (λ (x : ChunkState). run_at out.page x.runs ≡ Some run) (sym same) h.run) in
      let fits = subpage-fits c.classes (runs_in c) out.page h.pages h.class h.elements is.runs.chunk begins in
      let few : out.index < 2 ^ 32 = omega (
        arith,
        out_within out.index h.elements.out out.element.out,
        fits.elements,
        few_elements c.classes
            is.sizes.page h.class fits.small,
      ) in
      only out.page h.pages out.index true true (place-fields c is v same out.page run out.index h.run few) out.place

  pub element-page : (out : IsElementPlace v s word) → fields.0 ≡ out.page
  element-page out = ap (λ (f : Fields). f.0) (element-word out)

  pub element-sub : IsElementPlace v s word → fields.3 ≡ true
  element-sub out = ap (λ (f : Fields). f.3) (element-word out)

  pub element-index : (out : IsElementPlace v s word) → fields.4 ≡ out.index
  element-index out = ap (λ (f : Fields). f.4) (element-word out)

  -- so the place that is out is of the kind that they say
  pub element-out : IsPlaceOut v s word → fields.3 ≡ true → IsElementOut v fields.0 fields.4 s
  element-out (inl run) sub = absurd (cc (sub, run-sub run))
  element-out (inr element) sub =
      subst (λ (i : ℕ). IsElementOut v fields.0 i s) (sym (element-index element))
      (subst (λ (p : ℕ). IsElementOut v p element.index s) (sym (element-page element)) element.element)

  pub run-out : IsPlaceOut v s word → fields.3 ≡ false → IsRunOut v fields.0 s
  run-out (inl run) sub = subst (λ (p : ℕ). IsRunOut v p s) (sym (run-page run)) run.run
  run-out (inr element) sub = absurd (cc (sub, element-sub element))
