-- Why regions of live roots that overlap are refused.
use Rattle.std.proofs.Common.{⊎_elim, inl, inr, ◌≡◌, ℕ, zero, suc, ◌≤◌, List, [], ◌∷◌, refl, sym, ap, subst, arith, Some, ◌∙◌}
use Rattle.std.proofs.lemmas.Option.{same_Some}
use Rattle.std.specs.Prelude.{◌⊎◌, ◌<◌, slice_get}
use Rattle.pool_law.specs.declared.id.RootId.{RootId}
use Rattle.pool_law.specs.declared.id.RegionId.{RegionId}
use Rattle.pool_law.specs.declared.note.Object.{Object}
use Rattle.pool_law.specs.declared.note.Did.{Did}
use Rattle.pool_law.specs.declared.note.Did.TheVariants.{Take, Give, Kept, Shed, Birth, End}
use Rattle.pool_law.specs.declared.note.Note.{Note}
use Rattle.pool_law.specs.declared.note.Note.TheVariants.{At}
use Rattle.pool_law.specs.Logs.{of_lane}
use Rattle.pool_law.specs.Lives.{Event, Stands, InOneLog, AtOneObject, Move, Takes, Gives, Keeps, Sheds, Begins, Leaves, moves_by, present_at, IsAmong}
use Rattle.pool_law.specs.Apart.{Leads, NeverOverlap}
use Rattle.run_laws.proofs.Sums.{below-or}
use Rattle.run_laws.specs.Refused.{first_taking, second_taking, byte_root, given_while_live}

-- the forged notes from the first root's end on, by what they move: of roots only that one leaves its region; and
-- those before it, by which none does
abbrev IsLateMove : Object → ℕ → Did → Type 0
IsLateMove o k d =
    ((root : RootId) (x : RegionId) → IsAmong (Begins root x) (moves_by (present_at given_while_live o k) d) → ⊥)
    × ((root : RootId) (x : RegionId) → IsAmong (Leaves root x) (moves_by (present_at given_while_live o k) d)
    → root ≡ byte_root 0)

abbrev IsEarlyMove : Object → ℕ → Did → Type 0
IsEarlyMove o k d =
    (root : RootId) (x : RegionId) → IsAmong (Leaves root x) (moves_by (present_at given_while_live o k) d) → ⊥

-- one move alone
no-leave : (m : Move) → ((root : RootId) (x : RegionId) → Leaves root x ≡ m → ⊥) → (root : RootId) (x : RegionId)
    → IsAmong (Leaves root x) (m ∷ []) → ⊥
no-leave m other root x (inl same) = other root x same
no-leave m other root x (inr none) = none

no-begin : (m : Move) → ((root : RootId) (x : RegionId) → Begins root x ≡ m → ⊥) → (root : RootId) (x : RegionId)
    → IsAmong (Begins root x) (m ∷ []) → ⊥
no-begin m other root x (inl same) = other root x same
no-begin m other root x (inr none) = none

late-end : IsLateMove (Object.Root 0) 2 (End (byte_root 0))
late-end = (
  no-begin (Leaves (byte_root 0) (first_taking 1)) (λ root x e. absurd (cc e)),
  λ root x among. leaving root x among,
)
  where
    leaving : (root : RootId) (x : RegionId) → IsAmong (Leaves root x) (Leaves (byte_root 0) (first_taking 1) ∷ [])
        → root ≡ byte_root 0
    leaving root x (inl same) = cc same
    leaving root x (inr none) = absurd none

late-kept : (k : ℕ) → IsLateMove (Object.Cache 0 0) k (Kept (first_taking 1))
late-kept k = (
  no-begin (Keeps (first_taking 1)) (λ root x e. absurd (cc e)),
  λ root x among. absurd (no-leave (Keeps (first_taking 1)) (λ root x e. absurd (cc e)) root x among),
)

late-shed : (k : ℕ) → IsLateMove (Object.Cache 0 0) k (Shed (first_taking 1))
late-shed k = (
  no-begin (Sheds (first_taking 1)) (λ root x e. absurd (cc e)),
  λ root x among. absurd (no-leave (Sheds (first_taking 1)) (λ root x e. absurd (cc e)) root x among),
)

late-close : (k : ℕ) → IsLateMove (Object.Cache 0 0) k (Did.Close 1)
late-close k = (λ root x among. among, λ root x among. absurd among)

early-take : (k : ℕ) (r : RegionId) → IsEarlyMove (Object.Arena 0) k (Take 0 r)
early-take k r = no-leave (Takes 0 r) (λ root x e. absurd (cc e))

early-given : (k : ℕ) (r : RegionId) → IsEarlyMove (Object.Arena 0) k (Give r)
early-given k r = no-leave (Gives r) (λ root x e. absurd (cc e))

early-birth : (p k : ℕ) (q : RootId) (r : RegionId) → IsEarlyMove (Object.Root p) k (Birth q r)
early-birth p k q r = no-leave (Begins q r) (λ root x e. absurd (cc e))

abbrev IsLate : Object → ℕ → Type 0
IsLate o k = ((o ≡ Object.Root 0) × (2 ≤ k)) ⊎ (o ≡ Object.Cache 0 0)

abbrev IsEarly : Object → ℕ → Type 0
IsEarly o k = (o ≡ Object.Arena 0) ⊎ (((o ≡ Object.Root 0) × (k ≤ 1)) ⊎ (o ≡ Object.Root 1))

abbrev Says : (Object → ℕ → Type 0) → (Object → ℕ → Did → Type 0) → Note → Type 0
Says P Q (At o k d) = P o k × Q o k d
Says P Q _ = Unit {0}

late-at : (lane i : ℕ) (n : Note) → slice_get (of_lane given_while_live lane) i ≡ Some n → 8 ≤ i
    → Says IsLate IsLateMove n
late-at (suc lane) i n e from = absurd (cc e)
late-at zero zero n e from = absurd (omega (arith, from))
late-at zero (suc zero) n e from = absurd (omega (arith, from))
late-at zero (suc (suc zero)) n e from = absurd (omega (arith, from))
late-at zero (suc (suc (suc zero))) n e from = absurd (omega (arith, from))
late-at zero (suc (suc (suc (suc zero)))) n e from = absurd (omega (arith, from))
late-at zero (suc (suc (suc (suc (suc zero))))) n e from = absurd (omega (arith, from))
late-at zero (suc (suc (suc (suc (suc (suc zero)))))) n e from = absurd (omega (arith, from))
late-at zero (suc (suc (suc (suc (suc (suc (suc zero))))))) n e from = absurd (omega (arith, from))
late-at zero (suc (suc (suc (suc (suc (suc (suc (suc zero)))))))) n e from =
    subst (Says IsLate IsLateMove) (same_Some _ n e) (inl (refl, omega arith), late-end)
late-at zero (suc (suc (suc (suc (suc (suc (suc (suc (suc zero))))))))) n e from =
    subst (Says IsLate IsLateMove) (same_Some _ n e) tt
late-at zero (suc (suc (suc (suc (suc (suc (suc (suc (suc (suc zero)))))))))) n e from =
    subst (Says IsLate IsLateMove) (same_Some _ n e) (inr refl, late-kept 1)
late-at zero (suc (suc (suc (suc (suc (suc (suc (suc (suc (suc (suc zero))))))))))) n e from =
    subst (Says IsLate IsLateMove) (same_Some _ n e) (inr refl, late-close 2)
late-at zero (suc (suc (suc (suc (suc (suc (suc (suc (suc (suc (suc (suc zero)))))))))))) n e from =
    subst (Says IsLate IsLateMove) (same_Some _ n e) (inr refl, late-shed 3)
late-at zero (suc (suc (suc (suc (suc (suc (suc (suc (suc (suc (suc (suc (suc i))))))))))))) n e from = absurd (cc e)

early-at : (lane i : ℕ) (n : Note) → slice_get (of_lane given_while_live lane) i ≡ Some n → i < 8
    → Says IsEarly IsEarlyMove n
early-at (suc lane) i n e to = absurd (cc e)
early-at zero zero n e to = subst (Says IsEarly IsEarlyMove) (same_Some _ n e) (inl refl, early-take 1 (first_taking 0))
early-at zero (suc zero) n e to = subst (Says IsEarly IsEarlyMove) (same_Some _ n e)
    (inr (inl (refl, omega arith)), early-birth 0 1 (byte_root 0) (first_taking 1))
early-at zero (suc (suc zero)) n e to = subst (Says IsEarly IsEarlyMove) (same_Some _ n e) tt
early-at zero (suc (suc (suc zero))) n e to =
    subst (Says IsEarly IsEarlyMove) (same_Some _ n e) (inl refl, early-given 2 (first_taking 0))
early-at zero (suc (suc (suc (suc zero)))) n e to =
    subst (Says IsEarly IsEarlyMove) (same_Some _ n e) (inl refl, early-take 3 (second_taking 0))
early-at zero (suc (suc (suc (suc (suc zero))))) n e to =
    subst (Says IsEarly IsEarlyMove) (same_Some _ n e)
    (inr (inr refl), early-birth 1 1 (byte_root 1) (second_taking 1))
early-at zero (suc (suc (suc (suc (suc (suc zero)))))) n e to = subst (Says IsEarly IsEarlyMove) (same_Some _ n e) tt
early-at zero (suc (suc (suc (suc (suc (suc (suc zero))))))) n e to =
    subst (Says IsEarly IsEarlyMove) (same_Some _ n e) tt
early-at zero (suc (suc (suc (suc (suc (suc (suc (suc i)))))))) n e to = absurd (omega (arith, to))

-- no object has a late note with a number below that of an early one
late-not_early : (o : Object) (k l : ℕ) → IsLate o k → IsEarly o l → k < l → ⊥
late-not_early o k l (inl late) (inl early) less =
    let both : Object.Root 0 ≡ Object.Arena 0 = sym late.0 ∙ early in absurd (cc both)
late-not_early o k l (inl late) (inr (inl early)) less = absurd (omega (arith, late.1, early.1, less))
late-not_early o k l (inl late) (inr (inr early)) less =
    let both : Object.Root 0 ≡ Object.Root 1 = sym late.0 ∙ early in absurd (cc both)
late-not_early o k l (inr late) (inl early) less =
    let both : Object.Cache 0 0 ≡ Object.Arena 0 = sym late ∙ early in absurd (cc both)
late-not_early o k l (inr late) (inr (inl early)) less =
    let both : Object.Cache 0 0 ≡ Object.Root 0 = sym late ∙ early.0 in absurd (cc both)
late-not_early o k l (inr late) (inr (inr early)) less =
    let both : Object.Cache 0 0 ≡ Object.Root 1 = sym late ∙ early in absurd (cc both)

later-late : (e f : Event) → Stands given_while_live e → Stands given_while_live f → 8 ≤ e.at
    → InOneLog e f ⊎ AtOneObject e f → 8 ≤ f.at
later-late e f s t from (inl log) = omega (arith, from, log.1)
later-late e f s t from (inr object) =
    ⊎_elim
    (λ low.
    let late : IsLate e.object e.number × IsLateMove e.object e.number e.did =
    late-at e.lane e.at (At e.object e.number e.did) s from in
    let early : IsEarly f.object f.number × IsEarlyMove f.object f.number f.did =
    early-at f.lane f.at (At f.object f.number f.did) t low in
    absurd (late-not_early f.object e.number f.number (subst (λ o. IsLate o e.number) object.0 late.0) early.0
    object.1.0))
    (λ high. high)
    (below-or f.at 8)

leads-late : (e : Event) (bs : List Event) (g : Event) → Stands given_while_live e → Stands given_while_live g
    → 8 ≤ e.at → Leads given_while_live e bs g → 8 ≤ g.at
leads-late e [] g s t from way = later-late e g s t from way
leads-late e (f ∷ fs) g s t from way = leads-late f fs g way.1.0 t (later-late e f s way.1.0 from way.0) way.1.1

pub still-overlapping : NeverOverlap given_while_live → ⊥
still-overlapping apart =
    ⊎_elim
    (λ before.
    let from : 8 ≤ before.end.at = late-end_of before.end (byte_root 0) (first_taking 1) before.ended.stands
    before.ended.moves in
    let to : 8 ≤ before.birth.at = leads-late before.end before.between before.birth before.ended.stands
    before.born.stands from before.order in
    let late : IsLate before.birth.object before.birth.number
    × IsLateMove before.birth.object before.birth.number before.birth.did =
    late-at before.birth.lane before.birth.at (At before.birth.object before.birth.number before.birth.did)
    before.born.stands to in
    late.1.0 (byte_root 1) (second_taking 1) before.born.moves)
    (λ before.
    let from : 8 ≤ before.end.at = late-end_of before.end (byte_root 1) (second_taking 1) before.ended.stands
    before.ended.moves in
    let late : IsLate before.end.object before.end.number
    × IsLateMove before.end.object before.end.number before.end.did =
    late-at before.end.lane before.end.at (At before.end.object before.end.number before.end.did)
    before.ended.stands from in
    let root : byte_root 1 ≡ byte_root 0 = late.1.1 (byte_root 1) (second_taking 1) before.ended.moves in
    absurd (omega (arith, ap (λ r. r.place) root)))
    (apart (byte_root 0) (byte_root 1) (first_taking 1) (second_taking 1)
    (record {
      lane = 0;
      at = 1;
      number = 1;
      did = Birth (byte_root 0) (first_taking 1);
      stands = refl;
      moves = inl refl;
    })
    (record {
      lane = 0;
      at = 5;
      number = 1;
      did = Birth (byte_root 1) (second_taking 1);
      stands = refl;
      moves = inl refl;
    })
    (λ same. absurd (omega (arith, ap (λ r. r.place) same.0)))
    (record { arena = refl; chunk = refl; first = omega arith; second = omega arith }))
  where
    late-end_of : (e : Event) (root : RootId) (x : RegionId) → Stands given_while_live e
        → IsAmong (Leaves root x) (moves_by (present_at given_while_live e.object e.number) e.did) → 8 ≤ e.at
    late-end_of e root x s moves =
        ⊎_elim
        (λ low.
        let early : IsEarly e.object e.number × IsEarlyMove e.object e.number e.did =
        early-at e.lane e.at (At e.object e.number e.did) s low in
        absurd (early.1 root x moves))
        (λ high. high)
        (below-or e.at 8)
