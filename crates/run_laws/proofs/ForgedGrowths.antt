-- Why growths are refused that no pool makes.
use Rattle.std.proofs.Common.{⊎_elim, inl, inr, ◌≡◌, ℕ, ◌≤◌, List, [], ◌∷◌, refl, ap, arith, ◌∙◌}
use Rattle.std.specs.Prelude.{◌<◌}
use Rattle.pool_law.specs.declared.id.RootId.{RootId}
use Rattle.pool_law.specs.declared.id.RegionId.{RegionId}
use Rattle.pool_law.specs.declared.note.Object.{Object}
use Rattle.pool_law.specs.declared.note.Did.TheVariants.{Give, Kept, Grow}
use Rattle.pool_law.specs.declared.note.Note.{Note}
use Rattle.pool_law.specs.declared.note.Note.TheVariants.{At}
use Rattle.pool_law.specs.Lives.{cache_of, arena_of, Move, Takes, Gives, Keeps, Hits, Sheds, Begins, Leaves, Happening, Where, Got, Used, Freed, Cached, Dropped, LivesOn, IsAmong, moves_of, Life, RegionsLive}
use Rattle.run_laws.proofs.Sums.{sum_over, over-at}
use Rattle.run_laws.proofs.Forged.{never-hit, never-shed, moves-among}
use Rattle.run_laws.specs.Conserved.{Returned, ReturnsOnce}
use Rattle.run_laws.specs.Refused.{first_taking, wider_taking, byte_root, grown_and_held, grown_and_returned_twice, grown_after_return, grown_uncounted}

-- a note of these logs says that a region was kept or given
abbrev return_weight : Note → ℕ
return_weight (At o k (Kept r)) = 1
return_weight (At o k (Give r)) = 1
return_weight _ = 0

never-returned : Returned grown_and_held (first_taking 1) → ⊥
never-returned a =
    let none : sum_over return_weight grown_and_held ≡ 0 = refl in
    ⊎_elim
    (λ kept. absurd (omega (
      arith,
      none,
      over-at return_weight grown_and_held a.lane a.at
          (At (cache_of (first_taking 1)) a.number (Kept (first_taking 1))) kept,
    )))
    (λ given. absurd (omega (
      arith,
      none,
      over-at return_weight grown_and_held a.lane a.at
          (At (arena_of (first_taking 1)) a.number (Give (first_taking 1))) given,
    )))
    a.is

pub held : ReturnsOnce grown_and_held (byte_root 0) (first_taking 1) → ⊥
held r =
    never-returned (r.exactly.1 (inr (record {
      lane = 0;
      at = 4;
      number = 2;
      capacity = 17;
      next = wider_taking 1;
      stands = refl;
      moves = inl refl;
    })))

pub twice : ReturnsOnce grown_and_returned_twice (byte_root 0) (first_taking 1) → ⊥
twice r =
    let same : (0 ≡ 0) × (5 ≡ 6) = r.once
    (record {
      lane = 0;
      at = 5;
      number = 1;
      is = inl refl;
      not_hit = λ d l before. never-hit grown_and_returned_twice refl (cache_of (first_taking 1)) (first_taking 1) d;
      not_shed = λ d l before. never-shed grown_and_returned_twice refl (cache_of (first_taking 1)) (first_taking 1) d;
    })
    (record {
      lane = 0;
      at = 6;
      number = 3;
      is = inr refl;
      not_hit = λ d l before. never-hit grown_and_returned_twice refl (cache_of (first_taking 1)) (first_taking 1) d;
      not_shed = λ d l before. never-shed grown_and_returned_twice refl (cache_of (first_taking 1)) (first_taking 1) d;
    }) in
    absurd (omega (arith, same.1))

pub before : ReturnsOnce grown_after_return (byte_root 0) (first_taking 1) → ⊥
before r =
    let order : 5 < 4 = (r.after_growth
    (record {
      lane = 0;
      at = 4;
      number = 1;
      is = inl refl;
      not_hit = λ d l before. never-hit grown_after_return refl (cache_of (first_taking 1)) (first_taking 1) d;
      not_shed = λ d l before. never-shed grown_after_return refl (cache_of (first_taking 1)) (first_taking 1) d;
    })
    (record {
      lane = 0;
      at = 5;
      number = 2;
      capacity = 17;
      next = wider_taking 1;
      stands = refl;
      moves = inl refl;
    })).1 in
    absurd (omega (arith, order))

-- each use in a life has one use more than none
used-more : (w : Where) (r : RegionId) (ms : List Move) (root : RootId) (x : RegionId) → LivesOn w r ms
    → IsAmong (Begins root x) ms → 1 ≤ x.uses
used-more w r [] root x l among = absurd among
used-more w r (m ∷ ms) root x l among = go w r m ms l among (λ v q rest later. used-more v q ms root x rest later)
  where
    go : (w : Where) (r : RegionId) (m : Move) (ms : List Move) → LivesOn w r (m ∷ ms)
        → IsAmong (Begins root x) (m ∷ ms) →
        ((v : Where) (q : RegionId) → LivesOn v q ms → IsAmong (Begins root x) ms → 1 ≤ x.uses) → 1 ≤ x.uses
    go Got r (Begins p y) ms l (inl same) again =
        let region : x ≡ y = cc same in omega (arith, ap (λ z. z.uses) region, ap (λ z. z.uses) l.0)
    go Got r (Begins p y) ms l (inr later) again = again (Used p) y l.1 later
    go Got r (Gives y) [] l (inl same) again = absurd (cc same)
    go Got r (Gives y) [] l (inr later) again = absurd later
    go Got r (Keeps y) ms l (inl same) again = absurd (cc same)
    go Got r (Keeps y) ms l (inr later) again = again Cached r l.1 later
    go (Used p) r (Leaves q y) ms l (inl same) again = absurd (cc same)
    go (Used p) r (Leaves q y) ms l (inr later) again = again Freed r l.1.1 later
    go Freed r (Gives y) [] l (inl same) again = absurd (cc same)
    go Freed r (Gives y) [] l (inr later) again = absurd later
    go Freed r (Keeps y) ms l (inl same) again = absurd (cc same)
    go Freed r (Keeps y) ms l (inr later) again = again Cached r l.1 later
    go Cached r (Hits y) ms l (inl same) again = absurd (cc same)
    go Cached r (Hits y) ms l (inr later) again = again Got r l.1 later
    go Cached r (Sheds y) ms l (inl same) again = absurd (cc same)
    go Cached r (Sheds y) ms l (inr later) again = again Dropped r l.1 later
    go Dropped r (Gives y) [] l (inl same) again = absurd (cc same)
    go Dropped r (Gives y) [] l (inr later) again = absurd later
    go w r m ms l among again = absurd l

pub uncounted : RegionsLive grown_uncounted → ⊥
uncounted live = go (live growth (record { stands = refl; moves = inr (inl refl) }))
  where
    growth : Happening
    growth =
        record {
          event = record {
            object = Object.Root 0;
            did = Grow 17 (wider_taking 0);
            lane = 0;
            at = 4;
            number = 2;
          };
          move = Begins (byte_root 0) (wider_taking 0);
        }

    later : (life : Life grown_uncounted (wider_taking 0)) → IsAmong growth (life.take ∷ life.later)
        → IsAmong (Begins (byte_root 0) (wider_taking 0)) (moves_of life.later)
    later life (inl same) =
        let both : Begins (byte_root 0) (wider_taking 0) ≡ Takes 1 (wider_taking 0) = ap (λ x. x.move) same
        ∙ life.taken in
        absurd (cc both)
    later life (inr among) = moves-among growth life.later among

    go : Life grown_uncounted (wider_taking 0) → ⊥
    go life =
        let more : 1 ≤ 0 =
        used-more Got (wider_taking 0) (moves_of life.later) (byte_root 0) (wider_taking 0) life.lives
        (later life (life.all growth (record { stands = refl; moves = inr (inl refl) }) refl)) in
        absurd (omega (arith, more))
