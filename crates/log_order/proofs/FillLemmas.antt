-- That the graph has every note, each at its place, and listed at its stage.
use Rattle.std.proofs.Common.{⊎_elim, inl, inr, ◌≡◌, ℕ, zero, suc, ◌+◌, ◌<◌, true, List, [], ◌∷◌, ◌++◌, length, Some, refl, sym, ap, subst, arith, ◌∙◌, eqb-true, eq-eqb}
use Rattle.std.specs.Prelude.{◌==◌, ◌&&◌, if◌then◌else◌, slice_get}
use Rattle.std.proofs.lemmas.Bool.{cases_lt}
use Rattle.std.proofs.lemmas.List.{length_push}
use Rattle.std.proofs.lemmas.Option.{slice_get_within, same_Some}
use Rattle.pool_law.specs.declared.note.Note.{Note}
use Rattle.pool_law.specs.Logs.{Logs, of_lane}
use Rattle.pool_law.specs.Lives.{StandsAt}
use Rattle.pool_law.proofs.SameLemmas.{and-first, and-second}
use Rattle.pool_law.proofs.HistoryLemmas.{log-past}
use Rattle.run_order.proofs.Fronts.{by-test}
use Rattle.topo_order.proofs.Lists.{pushed, pushed_before, pushed_last}
use Rattle.topo_order.proofs.Walks.{below-or}
use Rattle.log_order.specs.Graphs.{IsGraph}
use Rattle.log_order.specs.Staging.{Stage, stage_of}
use Rattle.log_order.specs.Tallying.{same_key}
use Rattle.log_order.specs.Indexing.{same_stage, listed, AreListed}
use Rattle.log_order.specs.Filling.{before, ArePlaced, IsFilled}
use Rattle.log_order.specs.declared.graph.Graph.{Graph}
use Rattle.log_order.specs.declared.index.Index.{Index}
use Rattle.log_order.specs.declared.spots.Spot.{Spot}
use Rattle.log_order.proofs.KeyLemmas.{same_key-is, same_key-refl}

-- two notes at one place are one
pub one-note : (logs : Logs) (s t : Spot) (n m : Note) → s ≡ t → StandsAt logs s.lane s.at n
    → StandsAt logs t.lane t.at m → n ≡ m
one-note logs s t n m same is other =
    same_Some n m (sym is ∙ ap (λ (z : Spot). slice_get (of_lane logs z.lane) z.at) same ∙ other)

before-zero : (logs : Logs) → before logs 0 ≡ 0
before-zero [] = refl
before-zero (log ∷ logs) = refl

before-next : (logs : Logs) (lane : ℕ) → lane < length logs
    → before logs (suc lane) ≡ before logs lane + length (of_lane logs lane)
before-next [] lane low = absurd (omega (arith, low))
before-next (log ∷ logs) zero low = omega (arith, before-zero logs)
before-next (log ∷ logs) (suc lane) low = omega (arith, before-next logs lane (omega (arith, low)))

-- before the first note
pub none-placed : (logs : Logs) → ArePlaced logs [] 0 0
none-placed logs = record {
  size = omega (arith, before-zero logs);
  own = λ node s at. absurd (let none : slice_get [] node ≡ Some s = at in cc none);
  each = λ s n is low. ⊎_elim (λ l. absurd (omega (arith, l))) (λ h. absurd (omega (arith, h.1))) low;
}

-- one note more
placed-more : (logs : Logs) (spots : List Spot) (s : Spot) → ArePlaced logs spots s.lane s.at
    → ArePlaced logs (spots ++ s ∷ []) s.lane (s.at + 1)
placed-more logs spots s p = record {
  size = omega (arith, length_push spots s, p.size);
  own = λ node t at.
      ⊎_elim (p.own node t)
      (λ h. omega (arith, h.0, p.size, ap (λ (z : Spot). before logs z.lane + z.at) h.1))
      (pushed spots s node t at);
  each = λ t n is low.
      ⊎_elim
      (λ l. pushed_before spots s (before logs t.lane + t.at) t (p.each t n is (inl l)))
      (λ h. ⊎_elim
      (λ l. pushed_before spots s (before logs t.lane + t.at) t (p.each t n is (inr (h.0, l))))
      (λ e. last t h.0 e)
      (below-or t.at s.at h.1))
      low;
}
  where
    last : (t : Spot) → t.lane ≡ s.lane → t.at ≡ s.at
        → slice_get (spots ++ s ∷ []) (before logs t.lane + t.at) ≡ Some t
    last t lane at =
        let same : t ≡ s = λ i. record { lane = lane i; at = at i } in
        let here : before logs t.lane + t.at ≡ length spots = omega (arith, ap (before logs) lane, at, p.size) in
        ap (slice_get (spots ++ s ∷ [])) here ∙ pushed_last spots s ∙ ap Some (sym same)

-- behind the last note of a lane
pub placed-next : (logs : Logs) (spots : List Spot) (lane : ℕ) → lane < length logs
    → ArePlaced logs spots lane (length (of_lane logs lane)) → ArePlaced logs spots (lane + 1) 0
placed-next logs spots lane low p = record {
  size = let next : lane + 1 ≡ suc lane = omega arith in
      omega (arith, p.size, before-next logs lane low, ap (before logs) next);
  own = p.own;
  each = λ t n is at.
      ⊎_elim
      (λ l. ⊎_elim (λ less. p.each t n is (inl less))
      (λ same. p.each t n is (inr (
        same,
        subst (λ z. t.at < length (of_lane logs z)) same
            (slice_get_within (of_lane logs t.lane) t.at n is),
      )))
      (below-or t.lane lane l))
      (λ h. absurd (omega (arith, h.1)))
      at;
}

-- a note's lane is one of the logs
pub lane-low : (logs : Logs) (lane at : ℕ) (n : Note) → StandsAt logs lane at n → lane < length logs
lane-low logs lane at n is =
    ⊎_elim (λ low. low)
    (λ high. let none : slice_get [] at ≡ Some n =
    ap (λ xs. slice_get xs at) (sym (log-past logs lane high)) ∙ is in absurd (cc none))
    (cases_lt lane (length logs))

same_stage-is : (x y : Stage) → same_stage x y ≡ true → x ≡ y
same_stage-is x y e =
    let key = same_key-is x.0 y.0 (and-first (same_key x.0 y.0) _ e) in
    let number = eqb-true x.1 y.1 (and-second (same_key x.0 y.0) _ e) in
    λ i. (key i, number i)

same_stage-refl : (x : Stage) → same_stage x x ≡ true
same_stage-refl x =
    ap (λ b. b && (x.1 == x.1)) (same_key-refl x.0) ∙ eq-eqb x.1 x.1 refl

-- one node more is listed
module _ (old new : Index) (stage : Stage) (node : ℕ)
    (more : (other : Stage) → listed new other
    ≡ (if same_stage stage other then listed old stage ++ node ∷ [] else listed old other)) where
  still-listed : (other : Stage) (k first : ℕ) → slice_get (listed old other) k ≡ Some first
      → slice_get (listed new other) k ≡ Some first
  still-listed other k first at =
      ap (λ xs. slice_get xs k) (more other)
      ∙ by-test
      (λ z. same_stage stage other ≡ z
      → slice_get (if z then listed old stage ++ node ∷ [] else listed old other) k ≡ Some first)
      (same_stage stage other)
      (λ _ e. pushed_before (listed old stage) node k first
      (ap (λ z. slice_get (listed old z) k) (same_stage-is stage other e) ∙ at))
      (λ _ e. at)
      refl

  last-listed : slice_get (listed new stage) (length (listed old stage)) ≡ Some node
  last-listed =
      ap (λ xs. slice_get xs (length (listed old stage))) (more stage
      ∙ ap (λ b. if b then listed old stage ++ node ∷ [] else listed old stage) (same_stage-refl stage))
      ∙ pushed_last (listed old stage) node

listed-more : (logs : Logs) (spots : List Spot) (s : Spot) (n : Note) (old new : Index) → AreListed logs spots old
    → StandsAt logs s.lane s.at n
    → ((other : Stage) → listed new other
    ≡ (if same_stage (stage_of n) other then listed old (stage_of n) ++ length spots ∷ [] else listed old other))
    → AreListed logs (spots ++ s ∷ []) new
listed-more logs spots s n old new all is more node t m at stands =
    ⊎_elim
    (λ was. let k = all node t m was stands in
    (k.0, still-listed old new (stage_of n) (length spots) more (stage_of m) k.0 node k.1))
    (λ here. let same : n ≡ m = one-note logs s t n m here.1 is stands in (
      length (listed old (stage_of n)),
      ap (λ z. slice_get (listed new (stage_of z)) (length (listed old (stage_of n)))) (sym same)
          ∙ last-listed old new (stage_of n) (length spots) more ∙ ap Some (sym here.0),
    ))
    (pushed spots s node t at)

pub filled-more : (logs : Logs) (old new : Graph) (index index' : Index) (s : Spot) (n : Note)
    → IsFilled logs old index s.lane s.at → StandsAt logs s.lane s.at n → IsGraph logs new
    → new.spots.items ≡ old.spots.items ++ s ∷ []
    → ((other : Stage) → listed index' other ≡ (if same_stage (stage_of n) other
    then listed index (stage_of n) ++ length old.spots.items ∷ [] else listed index other))
    → IsFilled logs new index' s.lane (s.at + 1)
filled-more logs old new index index' s n f is graph spots more = record {
  graph = graph;
  placed = subst (λ z. ArePlaced logs z s.lane (s.at + 1)) (sym spots)
      (placed-more logs old.spots.items s f.placed);
  listed = subst (λ z. AreListed logs z index') (sym spots)
      (listed-more logs old.spots.items s n index index' f.listed is more);
}
