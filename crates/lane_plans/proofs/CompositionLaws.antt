-- A composite that is to be made: whether it is too long, its parts, and the work that binds it.
use Rattle.std.proofs.Common.{◌≡◌, ℕ, ◌<◌, ◌≤◌, Bool, true, false, List, [], ◌∷◌, length, map, sym, ap, ◌∙◌, subst, arith, Option, Some}
use Rattle.std.specs.Prelude.{All, not, ◌||◌, ◌&&◌, ◌==◌, is_none}
use Rattle.std.proofs.lemmas.Bool.{lt-ltb, le-ltb, ltb-false}
use Rattle.std.proofs.lemmas.List.Elements.{All-nil, All-cons, All-head, All-tail, All-same, All-filter}
use Rattle.size_classes.specs.Sizes.{class_of}
use Rattle.pool_law.specs.declared.id.Part.{Part}
use Rattle.pool_law.specs.declared.id.RootId.{RootId}
use Rattle.pool_law.specs.declared.run.Shape.{Shape}
use Rattle.pool_law.specs.Composites.{Composite, filled, is_crowded, most_bytes, most_parts, size_of}
use Rattle.pool_law.specs.Limits.{geometry_of}
use Rattle.pool_law.specs.Refusals.{has_no_class, is_too_long}
use Rattle.lane_stages.specs.declared.copying.Transfer.{Transfer}
use Rattle.lane_stages.specs.declared.counts.Counted.{Counted}
use Rattle.lane_context.specs.declared.context.Context.{Context}
use Rattle.lane_context.specs.declared.work.Consolidation.{Consolidation}
use Rattle.lane_context.specs.declared.work.Work.{Work}
use Rattle.lane_context.specs.declared.work.Work.TheVariants.{Refused, Empty, Cross, End, Bind, Consolidate}
use Rattle.lane_context.specs.Composing.{IsCandidate, IsConsolidation, IsTransfer}
use Rattle.lane_plans.specs.Compositions.{AreJoinable, HasBytes, IsMade, MayMake, joined}
use Rattle.lane_stages.specs.Counting.{counted}
use Rattle.lane_context.specs.Named.{IsInRoot}
use Rattle.lane_stages.specs.Releasings.{AreUncounted}
use Rattle.lane_context.specs.Works.{IsReady}

-- ---- Which composites are too long.

module _ (shape : Shape) (c : Composite) where
  few_bytes : size_of c.parts ≤ most_bytes → is_too_long shape (Some c)
      ≡ (is_crowded c && has_no_class shape (size_of c.parts))
  few_bytes le =
      ap (λ (b : Bool). b || (is_crowded c && has_no_class shape (size_of c.parts)))
      (le-ltb most_bytes (size_of c.parts) le)

  pub is_crowded_so : most_parts < length c.parts → is_crowded c ≡ true
  is_crowded_so lt = lt-ltb most_parts (length c.parts) lt

  by_class : size_of c.parts ≤ most_bytes → most_parts < length c.parts
      → is_too_long shape (Some c) ≡ is_none (class_of (geometry_of shape) (size_of c.parts))
  by_class le lt =
      few_bytes le ∙ ap (λ (b : Bool). b && has_no_class shape (size_of c.parts)) (is_crowded_so lt)

  pub has_class : (class : ℕ) → size_of c.parts ≤ most_bytes → most_parts < length c.parts
      → class_of (geometry_of shape) (size_of c.parts) ≡ Some class → is_too_long shape (Some c) ≡ false
  has_class class le lt is = by_class le lt ∙ ap (λ (o : Option ℕ). is_none o) is

-- ---- What is copied, and what may be bound.

-- what holds of the parts that are copied
copied : (P : Part → Type 0) (ts : List Transfer) → All P (map (λ t. t.part) ts) → All (λ t. P t.part) ts
copied P [] all = All-nil (λ (t : Transfer). P t.part)
copied P (t ∷ ts) all =
    All-cons (λ (u : Transfer). P u.part) t ts (All-head P t.part (map (λ u. u.part) ts) all)
    (copied P ts (All-tail P t.part (map (λ u. u.part) ts) all))

transfers_by : (known : RootId → ℕ) (cs : List Counted) (ts : List Transfer) → All HasBytes ts
    → All (λ t. IsInRoot known t.part) ts → All (λ t. 0 < counted cs t.part.root) ts → All (IsTransfer known cs) ts
transfers_by known cs ts bytes inside counts k d lt = record {
  counts = counts k d lt;
  inside = inside k d lt;
  got = (bytes k d lt).got;
  set = (bytes k d lt).set;
}

pub are_transfers : (known : RootId → ℕ) (cs : List Counted) (parts : List Part) (ts : List Transfer)
    → AreJoinable known cs parts → map (λ t. t.part) ts ≡ filled parts → All HasBytes ts → All (IsTransfer known cs) ts
are_transfers known cs parts ts joinable is bytes =
    transfers_by known cs ts bytes (of_filled (IsInRoot known) joinable.inside) (of_filled (λ p. 0 < counted cs p.root)
    joinable.counts)
  where
    of_filled : (P : Part → Type 0) → All P parts → All (λ t. P t.part) ts
    of_filled P all =
        copied P ts (All-same P (map (λ t. t.part) ts) (filled parts) is
        (All-filter (λ p. not (p.len == 0)) P parts all))

-- some of them are counted
some_counted : (cs : List Counted) (ps : List Part) → 1 ≤ length ps → All (λ p. 0 < counted cs p.root) ps
    → AreUncounted cs ps → ⊥
some_counted cs [] some counts none = absurd (omega (arith, some))
some_counted cs (p ∷ ps) some counts none =
    let lt : 0 < counted cs p.root = All-head (λ (q : Part). 0 < counted cs q.root) p ps counts in
    let no : counted cs p.root ≡ 0 = All-head (λ (q : Part). counted cs q.root ≡ 0) p ps none in
    absurd (omega (arith, lt, no))

pub is_consolidation : (known : RootId → ℕ) (shape : Shape) (cs : List Counted) (parts : List Part) (p : Consolidation)
    → AreJoinable known cs parts → p.size ≡ size_of parts → class_of (geometry_of shape) (size_of parts) ≡ Some p.class
    → p.whole.value.parts ≡ parts → p.parts.items ≡ parts → map (λ t. t.part) p.transfers.items ≡ filled parts
    → All HasBytes p.transfers.items → IsConsolidation known shape cs p
is_consolidation known shape cs parts p joinable size class whole all copied bytes = record {
  size = size ∙ ap (λ (ps : List Part). size_of ps) (sym whole);
  class = ap (class_of (geometry_of shape)) size ∙ class;
  parts = all ∙ sym whole;
  copied = copied ∙ ap (λ (ps : List Part). filled ps) (sym whole);
  transfers = are_transfers known cs parts p.transfers.items joinable copied bytes;
  some =
      subst (λ (ps : List Part). AreUncounted cs ps → ⊥) (sym all)
      (some_counted cs parts joinable.some joinable.counts);
}

module _ (d : Context) (name : ℕ) (parts : List Part) (count reader : ℕ)
    (may : MayMake d name (joined parts count reader)) where
  abbrev whole : Composite
  whole = joined parts count reader

  candidate : IsCandidate d name whole
  candidate = record {
    name_is = may.name_is;
    composes = may.composes;
    few = may.few;
    inside = may.parts.inside;
    marked = record {
      reader = may.reader;
      writer = omega arith;
    };
  }

  as_candidate : (other : ℕ) (c : Composite) → other ≡ name → c ≡ whole → IsCandidate d other c
  as_candidate other c same is =
      subst (λ (x : ℕ × Composite). IsCandidate d x.0 x.1) (λ i. (sym same i, sym is i)) candidate

  -- the work may be done
  pub is_ready : (work : Work) → IsMade d name whole work → IsReady d work
  is_ready (Refused refusal) made = tt
  is_ready (Empty other marks reply) made = absurd made
  is_ready (Cross other marks stage) made = absurd made
  is_ready (End other released) made = absurd made
  is_ready (Bind other box) made = (
    as_candidate other box.value made.0 made.1,
    subst (λ (c : Composite). length c.parts ≤ most_parts) (sym made.1) (not_crowded made.3),
  )
    where
      not_crowded : is_crowded whole ≡ false → length parts ≤ most_parts
      not_crowded is = ltb-false most_parts (length parts) is
  is_ready (Consolidate p) made = (as_candidate p.name p.whole.value made.0 made.1, made.4)
