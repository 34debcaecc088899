-- A composite that isn't refused may be made.
use Rattle.std.proofs.Common.{◌≡◌, ℕ, ◌+◌, ◌<◌, Bool, true, false, List, [], ◌∷◌, ◌++◌, length, refl, ap, ◌∙◌, subst, arith, Some, None, length-append}
use Rattle.std.specs.Prelude.{All}
use Rattle.std.proofs.lemmas.List.Elements.{All-append, All-cons, All-nil, All-same}
use Rattle.pool_law.specs.declared.command.Command.{Command}
use Rattle.pool_law.specs.declared.id.Part.{Part}
use Rattle.pool_law.specs.Composites.{Composite, readable, size_of}
use Rattle.pool_law.specs.Names.{Composed}
use Rattle.pool_law.specs.Refusals.{first_refusal}
use Rattle.composite_buf.specs.Maps.{Fits}
use Rattle.composite_buf.proofs.MapLaws.{size_of-append}
use Rattle.lane_context.specs.declared.context.Context.{Context}
use Rattle.lane_plans.specs.Compositions.{IsPlaced, MayMake, joined, readable_at, readable_of, refusals_to_add, refusals_to_compose}
use Rattle.lane_stages.specs.Counting.{counted}
use Rattle.lane_context.specs.Contexts.{FitsContext}
use Rattle.lane_context.specs.Named.{AreComposites, AreInside, IsInRoot, bound_at, known_to}
use Rattle.lane_plans.proofs.CompositionTests.{clear_to_add, counts-readable, length-readable, one_part, shown_to_compose}
use Rattle.lane_context.proofs.NameLaws.{bound_within}

module _ (d : Context) where
  abbrev IsCounted : Part → Type 0
  IsCounted p = 0 < counted d.counts p.root

  pub may_compose : (fresh : ℕ) (of : List ℕ) → FitsContext d (Command.Compose fresh of)
      → None ≡ first_refusal (refusals_to_compose d.names d.counts fresh of) → (parts : List Part)
      → parts ≡ readable_of d.names of → All IsPlaced parts → All (IsInRoot (known_to d.seat)) parts
      → MayMake d fresh (joined parts 1 0)
  may_compose fresh of fits none parts is placed inside =
      let shown = shown_to_compose d.names d.counts fresh of none in
      let long = ap (λ (ps : List Part). length ps) is ∙ length-readable d.names d.counts of shown in
      record {
        name_is = fits.0;
        composes = fits.1;
        few = omega arith;
        parts = record {
          some = (let least = fits.2 in omega (arith, long, least));
          few = (let most = fits.3 in omega (arith, long, most));
          placed = placed;
          inside = inside;
          counts = All-same IsCounted parts (readable_of d.names of) is (counts-readable d.names d.counts of shown);
        };
        reader = omega arith;
      }

  abbrev lies_in : Part → Type 0
  lies_in = IsInRoot (known_to d.seat)

  module _ (composites : AreComposites d.composes (1 + length d.replies.items) d.names)
      (lies : AreInside (known_to d.seat) d.names) (whole name : ℕ)
      (none : None ≡ first_refusal (refusals_to_add d.names d.counts whole name)) (before : Composite)
      (bound : bound_at d.names whole ≡ Some (Composed before)) where
    does_compose : (b : Bool) → d.composes ≡ b → b ≡ true
    does_compose true is = refl
    does_compose false is = absurd (composites.unmixed is whole before bound)

    -- the parts before are of roots that are counted
    counts_before : All IsCounted before.parts
    counts_before =
        let clear = (clear_to_add d.names d.counts whole name none).0 in
        let same : clear.composite ≡ before = cc (clear.bound, bound) in
        subst (λ (c : Composite). All IsCounted c.parts) same clear.counts

    counts_behind : All IsCounted (readable_at d.names name)
    counts_behind =
        let shown = (clear_to_add d.names d.counts whole name none).1 in
        All-same IsCounted (readable_at d.names name) (readable shown.0 ∷ []) (one_part d.names d.counts name shown)
        (All-cons IsCounted (readable shown.0) [] shown.2 (All-nil IsCounted))

    pub may_add : (parts : List Part) (count reader : ℕ) → parts ≡ before.parts ++ readable_at d.names name
        → count ≡ before.count → reader ≡ before.reader → All Fits before.parts
        → All IsPlaced (readable_at d.names name) → All lies_in (readable_at d.names name)
        → MayMake d whole (joined parts count reader)
    may_add parts count reader is same_count same_reader fits placed inside =
        let formed = composites.formed whole before bound in
        let few = composites.few whole before bound in
        let shown = (clear_to_add d.names d.counts whole name none).1 in
        let behind = readable_at d.names name in
        let one = ap (λ (ps : List Part). length ps) (one_part d.names d.counts name shown) in
        let long = ap (λ (ps : List Part). length ps) is ∙ length-append before.parts behind in
        let whole_size = ap (λ (ps : List Part). size_of ps) is ∙ size_of-append before.parts behind in
        let ordered = formed.marked.reader in
        let within = formed.marked.writer in
        let most = formed.parts in
        record {
          name_is = bound_within d.names whole (Composed before) bound;
          composes = (let b = does_compose d.composes refl in b);
          few = omega (arith, few, same_count);
          parts = record {
            some = omega (arith, long, one);
            few = omega (arith, long, one, most);
            placed =
                All-same IsPlaced parts (before.parts ++ behind) is
                (All-append IsPlaced before.parts behind (λ k e lt. fits k e lt) placed);
            inside =
                All-same lies_in parts (before.parts ++ behind) is
                (All-append lies_in before.parts behind (lies.each whole (Composed before) bound) inside);
            counts =
                All-same IsCounted parts (before.parts ++ behind) is
                (All-append IsCounted before.parts behind counts_before counts_behind);
          };
          reader = omega (arith, same_reader, ordered, within, whole_size);
        }
