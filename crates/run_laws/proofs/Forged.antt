-- Why the laws refuse logs that no pool makes.
use Rattle.std.proofs.Common.{⊎_elim, inl, inr, ◌≡◌, ℕ, zero, suc, ◌+◌, ◌≤◌, List, [], ◌∷◌, refl, sym, ap, subst, arith, Some, ◌∙◌}
use Rattle.std.specs.Prelude.{◌⊎◌, ◌<◌, slice_get, Option, None}
use Rattle.pool_law.specs.declared.id.RootId.{RootId}
use Rattle.pool_law.specs.declared.id.RegionId.{RegionId}
use Rattle.pool_law.specs.declared.note.Object.{Object}
use Rattle.pool_law.specs.declared.note.Did.TheVariants.{Give, Hit, Kept, Shed, Birth, Grow}
use Rattle.pool_law.specs.declared.note.RefDid.{RefDid}
use Rattle.pool_law.specs.declared.note.Note.{Note}
use Rattle.pool_law.specs.declared.note.Note.TheVariants.{At, Ref}
use Rattle.pool_law.specs.Logs.{Logs, of_lane}
use Rattle.pool_law.specs.Lives.{Done, cache_of, with_uses, Move, Takes, Gives, Keeps, Hits, Sheds, Begins, Leaves, region_of, GrowsOut, Happening, Where, Got, Used, Freed, Cached, Dropped, LivesOn, IsAmong, moves_of, Life, RegionsLive}
use Rattle.pool_law.specs.Arenas.{Arena}
use Rattle.pool_law.specs.Caches.{Cache}
use Rattle.run_laws.proofs.Sums.{sum_over, over-at}
use Rattle.run_laws.specs.OneLog.{Counted}
use Rattle.run_laws.specs.Conserved.{EndsAsCache, EndsAsArena, CachesEndEmpty, ReturnsOnce, OutIsHeld, OutAtEnd}
use Rattle.run_laws.specs.Refused.{first_taking, byte_root, given_while_live, given_alive, kept_alive, given_and_kept, kept_and_given, given_late, ended_twice, kept_elsewhere, false_full, false_hit}
use Rattle.run_laws.specs.RefusedRuns.{shape_of}

-- uses never fall in a life: what is moved has at most those of what is given at last
next-uses : (w : Where) (r : RegionId) (m : Move) (ms : List Move) → LivesOn w r (m ∷ ms)
    → ((ms ≡ []) × ((region_of m).uses ≡ r.uses) × (r.uses ≤ (region_of m).uses))
    ⊎ ((v : Where) × (q : RegionId) × LivesOn v q ms × ((region_of m).uses ≤ q.uses) × (r.uses ≤ q.uses)
    × ((y : RegionId) → m ≡ Gives y → ⊥))
next-uses Got r (Begins root x) ms l =
    inr (Used root, x, l.1, omega arith, omega (arith, ap (λ z. z.uses) l.0), λ y e. cc e)
next-uses Got r (Gives x) [] l = inl (refl, ap (λ z. z.uses) l, omega (arith, ap (λ z. z.uses) l))
next-uses Got r (Keeps x) ms l =
    inr (Cached, r, l.1, omega (arith, ap (λ z. z.uses) l.0), omega arith, λ y e. cc e)
next-uses (Used root) r (Leaves q x) ms l =
    inr (Freed, r, l.1.1, omega (arith, ap (λ z. z.uses) l.1.0), omega arith, λ y e. cc e)
next-uses Freed r (Gives x) [] l = inl (refl, ap (λ z. z.uses) l, omega (arith, ap (λ z. z.uses) l))
next-uses Freed r (Keeps x) ms l =
    inr (Cached, r, l.1, omega (arith, ap (λ z. z.uses) l.0), omega arith, λ y e. cc e)
next-uses Cached r (Hits x) ms l = inr (Got, r, l.1, omega (arith, ap (λ z. z.uses) l.0), omega arith, λ y e. cc e)
next-uses Cached r (Sheds x) ms l =
    inr (Dropped, r, l.1, omega (arith, ap (λ z. z.uses) l.0), omega arith, λ y e. cc e)
next-uses Dropped r (Gives x) [] l = inl (refl, ap (λ z. z.uses) l, omega (arith, ap (λ z. z.uses) l))
next-uses w r m ms l = absurd l

-- what is given at last has as many uses as what was there, or more
given-uses : (w : Where) (r y : RegionId) (ms : List Move) → LivesOn w r ms → IsAmong (Gives y) ms → r.uses ≤ y.uses
given-uses w r y [] l among = absurd among
given-uses w r y (m ∷ ms) l among =
    ⊎_elim
    (λ last. ⊎_elim
    (λ same. omega (arith, ap (λ z. (region_of z).uses) same, last.2))
    (λ later. absurd (subst (IsAmong (Gives y)) last.0 later)) among)
    (λ next. ⊎_elim
    (λ same. absurd (next.5 y (sym same)))
    (λ later. omega (arith, next.4, given-uses next.0 next.1 y ms next.2 later)) among)
    (next-uses w r m ms l)

most-uses : (w : Where) (r y : RegionId) (ms : List Move) (n : Move) → LivesOn w r ms → IsAmong (Gives y) ms
    → IsAmong n ms → (region_of n).uses ≤ y.uses
most-uses w r y [] n l given among = absurd among
most-uses w r y (m ∷ ms) n l given among =
    ⊎_elim
    (λ last. ⊎_elim
    (λ here. ⊎_elim
    (λ same. omega (arith, ap (λ z. (region_of z).uses) same, ap (λ z. (region_of z).uses) here))
    (λ later. absurd (subst (IsAmong n) last.0 later)) among)
    (λ later. absurd (subst (IsAmong (Gives y)) last.0 later)) given)
    (λ next. ⊎_elim
    (λ here. absurd (next.5 y (sym here)))
    (λ later. ⊎_elim
    (λ same. omega (arith, ap (λ z. (region_of z).uses) same, next.3, given-uses next.0 next.1 y ms next.2 later))
    (λ also. most-uses next.0 next.1 y ms n next.2 later also) among) given)
    (next-uses w r m ms l)

pub moves-among : (t : Happening) (ts : List Happening) → IsAmong t ts → IsAmong t.move (moves_of ts)
moves-among t [] among = among
moves-among t (u ∷ us) (inl same) = inl (ap (λ x. x.move) same)
moves-among t (u ∷ us) (inr among) = inr (moves-among t us among)

abbrev early_give : Happening
early_give = record {
  event = record { object = Object.Arena 0; did = Give (first_taking 0); lane = 0; at = 3; number = 2 };
  move = Gives (first_taking 0);
}

abbrev first_birth : Happening
first_birth = record {
  event = record {
    object = Object.Root 0;
    did = Birth (byte_root 0) (first_taking 1);
    lane = 0;
    at = 1;
    number = 1;
  };
  move = Begins (byte_root 0) (first_taking 1);
}

pub overlapping : RegionsLive given_while_live → ⊥
overlapping lives = go (lives early_give (record { stands = refl; moves = inl refl }))
  where
    later : (life : Life given_while_live (first_taking 0)) (t : Happening) → IsAmong t (life.take ∷ life.later)
        → (t.move ≡ Takes 0 (first_taking 0) → ⊥) → IsAmong t.move (moves_of life.later)
    later life t (inl same) other = absurd (other (ap (λ x. x.move) same ∙ life.taken))
    later life t (inr among) other = moves-among t life.later among

    go : Life given_while_live (first_taking 0) → ⊥
    go life =
        let given : IsAmong (Gives (first_taking 0)) (moves_of life.later) =
        later life early_give (life.all early_give (record { stands = refl; moves = inl refl }) refl)
        (λ e. absurd (cc e)) in
        let used : IsAmong (Begins (byte_root 0) (first_taking 1)) (moves_of life.later) =
        later life first_birth (life.all first_birth (record { stands = refl; moves = inl refl }) refl)
        (λ e. absurd (cc e)) in
        let most : 1 ≤ 0 = most-uses Got (first_taking 0) (first_taking 0) (moves_of life.later)
        (Begins (byte_root 0) (first_taking 1)) life.lives given used in
        absurd (omega (arith, most))

-- a note of these logs says a shed
abbrev shed_weight : Note → ℕ
shed_weight (At o k (Shed r)) = 1
shed_weight _ = 0

-- it says a hit, a growth
abbrev hit_weight : Note → ℕ
hit_weight (At o k (Hit r)) = 1
hit_weight _ = 0

abbrev growth_weight : Note → ℕ
growth_weight (At o k (Grow c r)) = 1
growth_weight _ = 0

pub never-shed : (logs : Logs) → sum_over shed_weight logs ≡ 0 → (o : Object) (r : RegionId)
    → (d : Done logs o (Shed r)) → ⊥
never-shed logs none o r d =
    absurd (omega (arith, none, over-at shed_weight logs d.lane d.at (At o d.number (Shed r)) d.stands))

pub never-hit : (logs : Logs) → sum_over hit_weight logs ≡ 0 → (o : Object) (r : RegionId) (d : Done logs o (Hit r)) → ⊥
never-hit logs none o r d =
    absurd (omega (arith, none, over-at hit_weight logs d.lane d.at (At o d.number (Hit r)) d.stands))

never-grows : (logs : Logs) → sum_over growth_weight logs ≡ 0 → (root : RootId) (r : RegionId)
    → GrowsOut logs root r → ⊥
never-grows logs none root r g =
    absurd (omega (
      arith,
      none,
      over-at growth_weight logs g.lane g.at (At (Object.Root root.place) g.number (Grow g.capacity g.next)) g.stands,
    ))

-- no note of these says that the count of the root ended, and none before the last says that its region was shed
never : (notes : List Note) → ((i : ℕ) → slice_get notes i ≡ Some (Ref (byte_root 0) RefDid.Ended) → ⊥)
    → Counted (notes ∷ []) (byte_root 0) RefDid.Ended → ⊥
never notes none c = go c.lane c.at c.stands
  where
    go : (lane i : ℕ) → slice_get (of_lane (notes ∷ []) lane) i ≡ Some (Ref (byte_root 0) RefDid.Ended) → ⊥
    go zero i e = none i e
    go (suc lane) i e = absurd (cc e)

pub alive-given : ReturnsOnce given_alive (byte_root 0) (first_taking 1) → ⊥
alive-given r =
    ⊎_elim (never (of_lane given_alive 0) none) (never-grows given_alive refl (byte_root 0) (first_taking 1))
    (r.exactly.0 (record {
      lane = 0;
      at = 3;
      number = 2;
      is = inr refl;
      not_hit = λ d l before. never-hit given_alive refl (cache_of (first_taking 1)) (first_taking 1) d;
      not_shed = λ shed l before. not_shed shed.lane shed.at shed.number shed.stands;
    }))
  where
    none : (i : ℕ) → slice_get (of_lane given_alive 0) i ≡ Some (Ref (byte_root 0) RefDid.Ended) → ⊥
    none zero e = absurd (cc e)
    none (suc zero) e = absurd (cc e)
    none (suc (suc zero)) e = absurd (cc e)
    none (suc (suc (suc zero))) e = absurd (cc e)
    none (suc (suc (suc (suc i)))) e = absurd (cc e)

    not_shed : (lane i n : ℕ) → slice_get (of_lane given_alive lane) i
        ≡ Some (At (cache_of (first_taking 1)) n (Shed (first_taking 1))) → ⊥
    not_shed zero zero n e = absurd (cc e)
    not_shed zero (suc zero) n e = absurd (cc e)
    not_shed zero (suc (suc zero)) n e = absurd (cc e)
    not_shed zero (suc (suc (suc zero))) n e = absurd (cc e)
    not_shed zero (suc (suc (suc (suc i)))) n e = absurd (cc e)
    not_shed (suc lane) i n e = absurd (cc e)

pub alive-kept : ReturnsOnce kept_alive (byte_root 0) (first_taking 1) → ⊥
alive-kept r =
    ⊎_elim (never (of_lane kept_alive 0) none) (never-grows kept_alive refl (byte_root 0) (first_taking 1))
    (r.exactly.0 (record {
      lane = 0;
      at = 3;
      number = 1;
      is = inl refl;
      not_hit = λ d l before. never-hit kept_alive refl (cache_of (first_taking 1)) (first_taking 1) d;
      not_shed =
          λ d l before. let none : sum_over shed_weight kept_alive ≡ 0 = refl in
          absurd (omega (
            arith,
            none,
            over-at shed_weight kept_alive d.lane d.at
                (At (cache_of (first_taking 1)) d.number (Shed (first_taking 1))) d.stands,
          ));
    }))
  where
    none : (i : ℕ) → slice_get (of_lane kept_alive 0) i ≡ Some (Ref (byte_root 0) RefDid.Ended) → ⊥
    none zero e = absurd (cc e)
    none (suc zero) e = absurd (cc e)
    none (suc (suc zero)) e = absurd (cc e)
    none (suc (suc (suc zero))) e = absurd (cc e)
    none (suc (suc (suc (suc i)))) e = absurd (cc e)

pub twice-given : ReturnsOnce given_and_kept (byte_root 0) (first_taking 1) → ⊥
twice-given r =
    let same : (0 ≡ 0) × (6 ≡ 7) = r.once
    (record {
      lane = 0;
      at = 6;
      number = 2;
      is = inr refl;
      not_hit = λ d l before. never-hit given_and_kept refl (cache_of (first_taking 1)) (first_taking 1) d;
      not_shed = λ shed l before. not_shed shed.lane shed.at shed.number (omega (arith, before)) shed.stands;
    }) (record {
      lane =
          0;
      at = 7;
      number = 1;
      is = inl refl;
      not_hit = λ d l before. never-hit given_and_kept refl (cache_of (first_taking 1)) (first_taking 1) d;
      not_shed = λ shed l before. not_shed shed.lane shed.at shed.number before shed.stands;
    }) in
    absurd (omega (arith, same.1))
  where
    not_shed : (lane i n : ℕ) → i < 7 → slice_get (of_lane given_and_kept lane) i
        ≡ Some (At (cache_of (first_taking 1)) n (Shed (first_taking 1))) → ⊥
    not_shed zero zero n before e = absurd (cc e)
    not_shed zero (suc zero) n before e = absurd (cc e)
    not_shed zero (suc (suc zero)) n before e = absurd (cc e)
    not_shed zero (suc (suc (suc zero))) n before e = absurd (cc e)
    not_shed zero (suc (suc (suc (suc zero)))) n before e = absurd (cc e)
    not_shed zero (suc (suc (suc (suc (suc zero))))) n before e = absurd (cc e)
    not_shed zero (suc (suc (suc (suc (suc (suc zero)))))) n before e = absurd (cc e)
    not_shed zero (suc (suc (suc (suc (suc (suc (suc i))))))) n before e = absurd (omega (arith, before))
    not_shed (suc lane) i n before e = absurd (cc e)

pub twice-kept : ReturnsOnce kept_and_given (byte_root 0) (first_taking 1) → ⊥
twice-kept r =
    let same : (0 ≡ 0) × (7 ≡ 6) = r.once
    (record {
      lane = 0;
      at = 7;
      number = 2;
      is = inr refl;
      not_hit = λ d l before. never-hit kept_and_given refl (cache_of (first_taking 1)) (first_taking 1) d;
      not_shed = λ shed l before. not_shed shed.lane shed.at shed.number before shed.stands;
    }) (record {
      lane =
          0;
      at = 6;
      number = 1;
      is = inl refl;
      not_hit = λ d l before. never-hit kept_and_given refl (cache_of (first_taking 1)) (first_taking 1) d;
      not_shed = λ shed l before. not_shed shed.lane shed.at shed.number (omega (arith, before)) shed.stands;
    }) in
    absurd (omega (arith, same.1))
  where
    not_shed : (lane i n : ℕ) → i < 7 → slice_get (of_lane kept_and_given lane) i
        ≡ Some (At (cache_of (first_taking 1)) n (Shed (first_taking 1))) → ⊥
    not_shed zero zero n before e = absurd (cc e)
    not_shed zero (suc zero) n before e = absurd (cc e)
    not_shed zero (suc (suc zero)) n before e = absurd (cc e)
    not_shed zero (suc (suc (suc zero))) n before e = absurd (cc e)
    not_shed zero (suc (suc (suc (suc zero)))) n before e = absurd (cc e)
    not_shed zero (suc (suc (suc (suc (suc zero))))) n before e = absurd (cc e)
    not_shed zero (suc (suc (suc (suc (suc (suc zero)))))) n before e = absurd (cc e)
    not_shed zero (suc (suc (suc (suc (suc (suc (suc i))))))) n before e = absurd (omega (arith, before))
    not_shed (suc lane) i n before e = absurd (cc e)

pub late-given : ReturnsOnce given_late (byte_root 0) (first_taking 1) → ⊥
late-given r =
    let near : 10 ≤ 3 + 4 = (r.after (never-grows given_late refl (byte_root 0) (first_taking 1))
    (record {
      lane = 0;
      at = 10;
      number = 2;
      is = inr refl;
      not_hit = λ d l before. never-hit given_late refl (cache_of (first_taking 1)) (first_taking 1) d;
      not_shed = λ shed l before. not_shed shed.lane shed.at shed.number shed.stands;
    }) (record {
      lane =
          0;
      at = 3;
      stands = refl;
    })).2 in
    absurd (omega (arith, near))
  where
    not_shed : (lane i n : ℕ) → slice_get (of_lane given_late lane) i
        ≡ Some (At (cache_of (first_taking 1)) n (Shed (first_taking 1))) → ⊥
    not_shed lane i n e =
        let none : sum_over shed_weight given_late ≡ 0 = refl in
        absurd (omega (
          arith,
          none,
          over-at shed_weight given_late lane i
              (At (cache_of (first_taking 1)) n (Shed (first_taking 1))) e,
        ))

pub twice-ended : ReturnsOnce ended_twice (byte_root 0) (first_taking 1) → ⊥
twice-ended r =
    let same : (0 ≡ 0) × (3 ≡ 7) = r.ended_once (record { lane = 0; at = 3; stands = refl })
    (record { lane = 0; at = 7; stands = refl }) in
    absurd (omega (arith, same.1))

pub elsewhere-kept : RegionsLive kept_elsewhere → ⊥
elsewhere-kept live = go (live kept (record { stands = refl; moves = inl refl }))
  where
    kept : Happening
    kept =
        record {
          event = record { object = Object.Cache 1 0; did = Kept (first_taking 1); lane = 0; at = 6; number = 1 };
          move = Keeps (first_taking 1);
        }

    go : Life kept_elsewhere (with_uses (first_taking 1) 0) → ⊥
    go life =
        let here : Object.Cache 1 0 ≡ Object.Cache 0 0 =
        life.places kept (life.all kept (record { stands = refl; moves = inl refl }) refl) in
        let lane : ◌≡◌ {A = ℕ} 1 0 = cc here in
        absurd (omega (arith, lane))

pub full-false : OutAtEnd (shape_of 1 1) false_full → ⊥
full-false out =
    let a : (a : Arena) × (EndsAsArena (shape_of 1 1) false_full 0 a × OutIsHeld false_full 0 a) = out 0 in
    let none : ◌≡◌ {A = Option Arena} None (Some a.0) = a.1.0 in
    absurd (cc none)

pub hit-false : CachesEndEmpty (shape_of 1 1) false_hit → ⊥
hit-false caches =
    let c : (c : Cache) × (EndsAsCache false_hit 0 0 c × (c.regions ≡ [])) = caches 0 0 (omega arith) (omega arith) in
    let none : ◌≡◌ {A = Option Cache} None (Some c.0) = c.1.0 in
    absurd (cc none)
