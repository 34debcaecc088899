-- A seat that bore a root and posted it to nobody: that it stays so, and what it reads.
use Rattle.std.proofs.Common.{◌≡◌, ◌≢◌, ⊎_elim, ℕ, ◌+◌, ◌-◌, Bool, true, false, cond, List, [], ◌∷◌, ◌++◌, length, sym, ap, ◌∙◌, subst, refl, arith, eqb-true}
use Rattle.std.specs.Prelude.{◌==◌, ◌&&◌, nat_le, if◌then◌else◌, Option, Some, None, IfSome, option_map, sum_by}
use Rattle.std.proofs.lemmas.List.Sums.{sum_by_push, sum_by-le-sum_by, fold_push}
use Rattle.step_law.specs.declared.Told.{Ghosts}
use Rattle.pool_law.specs.declared.id.RootId.{RootId}
use Rattle.pool_law.specs.declared.id.RegionId.{RegionId}
use Rattle.pool_law.specs.declared.id.Parcel.{Parcel}
use Rattle.pool_law.specs.declared.id.ViewData.{ViewData}
use Rattle.pool_law.specs.declared.note.Did.TheVariants.{Birth, Set, Get, Post}
use Rattle.pool_law.specs.declared.note.Noted.{Noted}
use Rattle.pool_law.specs.declared.note.Object.{Object}
use Rattle.pool_law.specs.declared.note.Object.TheVariants.{Root as RootOf}
use Rattle.pool_law.specs.declared.note.RefDid.{RefDid}
use Rattle.pool_law.specs.declared.note.RefDid.TheVariants.{Born}
use Rattle.pool_law.specs.declared.report.Watch.{Watch}
use Rattle.pool_law.specs.Logs.{present_in}
use Rattle.pool_law.specs.Naming.{noted_by}
use Rattle.pool_law.specs.Roots.{RootPlace, Present, new_place, may_be_born, born, bytes_at, laid_over, place_step, place_step_by}
use Rattle.pool_law.specs.Same.{same_root, same_bytes}
use Rattle.pool_law.proofs.SameLemmas.{and-first, and-second, same_bytes-is}
use Rattle.pool_law.proofs.PatternLemmas.{same_root-refl}
use Rattle.history_laws.specs.Histories.{IsLawful, IsPlaceAfter}
use Rattle.history_laws.specs.NoteCounts.{did_post_of, view_of_root}
use Rattle.history_laws.proofs.BinSteps.{so}
use Rattle.history_laws.proofs.Names.{same_root-or}
use Rattle.history_laws.proofs.Runs.{last_note}
use Rattle.history_laws.proofs.Told.{place_there}
use Rattle.history_laws.proofs.Roots.{its_birth}
use Rattle.pool_table.specs.declared.views.Entry.{Entry}
use Rattle.pool_table.specs.declared.views.Entry.TheVariants.{At, Ref}
use Rattle.pool_table.specs.declared.views.Layout.{Layout}
use Rattle.pool_table.specs.declared.views.SeatView.{SeatView}
use Rattle.pool_table.specs.declared.table.PoolSeat.{PoolSeat as TableSeat}
use Rattle.pool_table.specs.declared.table.Section.{Section}
use Rattle.pool_table.specs.Counts.{with_ref, posts, HasCount}
use Rattle.pool_table.specs.Lone.{births, names, IsLone, laid_by, laid_in, own_bytes}
use Rattle.pool_table.specs.Sections.{GotSection}
use Rattle.pool_table.specs.Seats.{view_of}
use Rattle.pool_table.specs.Views.{with_entry}
use Rattle.pool_table.proofs.Lone.{post_names}
use Rattle.shared_pool.specs.PlaceSteps.{used}
use Rattle.shared_pool.specs.RootNotes.{access, birth}
use Rattle.shared_pool.specs.Seats.{IsNoted}
use Rattle.shared_pool.specs.SeatViews.{view_of as seat_view}
use Rattle.shared_pool.specs.Standing.{HomeStands}
use Rattle.shared_pool.specs.declared.home.Home.{Home}
use Rattle.shared_pool.specs.declared.pool.SharedPool.{SharedPool}
use Rattle.shared_pool.specs.declared.seat.PoolSeat.{PoolSeat}

-- ---- It stays alone, but where it posts the root.

pub lone_entry : (r : RootId) (v : SeatView) (e : Entry) (t : ℕ) → posts r e ≡ 0 → IsLone r v
    → IsLone r (with_entry v e t)
lone_entry r v e t none lone =
    let a = sum_by_push (births r) v.own.notes e in let b = sum_by_push (posts r) v.own.notes e in
    let c = lone.born in let d = lone.kept in
    record { born = omega (arith, a, c); kept = omega (arith, b, d, none) }

pub lone_ref : (r : RootId) (v : SeatView) (q : RootId) (d : RefDid) (m : ℕ) → IsLone r v → IsLone r (with_ref v q d m)
lone_ref r v q d m lone =
    let a = sum_by_push (births r) v.own.notes (Ref q d) in let b = sum_by_push (posts r) v.own.notes (Ref q d) in
    let c = lone.born in let k = lone.kept in let z : posts r (Ref q d) ≡ 0 = refl in
    record { born = omega (arith, a, c); kept = omega (arith, b, k, z) }

-- a parcel of another root, or of none
pub other_posted : (r : RootId) (parcel : Parcel) → IfSome parcel.view (λ w. w.root ≢ r)
    → did_post_of r (Post parcel) ≡ 0
other_posted r parcel = by parcel.view
  where
    by : (o : Option ViewData) → IfSome o (λ w. w.root ≢ r) → view_of_root r o ≡ 0
    by None other = refl
    by (Some w) other = ⊎_elim
        (λ (t : (same_root w.root r ≡ true) × (w.root ≡ r)). absurd (other t.1))
        (λ (e : same_root w.root r ≡ false). ap (λ (b : Bool). cond {A = ℕ} b 1 0) e) (same_root-or w.root r)

-- a call that notes something other than a post of the root
pub lone_noted : (pool : SharedPool) (old new : PoolSeat) (o : Object) (number : ℕ) (n : Noted) (r : RootId)
    → IsNoted pool old new o number n → posts r (At o number n) ≡ 0 → IsLone r (seat_view old)
    → IsLone r (seat_view new)
lone_noted pool old new o number n r noted none lone =
    let v = seat_view old in let e : Entry = At o number (noted_by v.own.number n) in
    subst (λ (w : SeatView). IsLone r w) (sym (λ i. (noted.seat i).0)) (lone_entry r v e (v.turns - 1) none lone)

-- and what the note lays is what its own notes laid then
pub own_noted : (pool : SharedPool) (old new : PoolSeat) (o : Object) (number : ℕ) (n : Noted) (r : RootId)
    → IsNoted pool old new o number n
    → own_bytes r (seat_view new) ≡ laid_by r (own_bytes r (seat_view old)) n.root n.did
own_noted pool old new o number n r noted =
    let v = seat_view old in let e : Entry = At o number (noted_by v.own.number n) in
    ap (λ (w : SeatView). own_bytes r w) (λ i. (noted.seat i).0) ∙ fold_push (laid_in r) [] v.own.notes e

-- bytes that the call writes are laid over those
pub own_written : (pool : SharedPool) (old new : PoolSeat) (number offset : ℕ) (bytes : List ℕ) (root : RootId)
    → IsNoted pool old new (RootOf root.place) number (access root (Set offset bytes))
    → own_bytes root (seat_view new) ≡ laid_over (own_bytes root (seat_view old)) offset bytes
own_written pool old new number offset bytes root noted =
    let old_bytes : List ℕ = own_bytes root (seat_view old) in
    own_noted pool old new (RootOf root.place) number (access root (Set offset bytes)) root noted
    ∙ ap (λ (b : Bool). if b then laid_over old_bytes offset bytes else old_bytes) (same_root-refl root)

-- ---- It is alone with a root that it bears.

pub lone_born : (v : SeatView) (o : Object) (number t m : ℕ) (lane : Option ℕ) (root : RootId) (region : RegionId)
    (watch : Option Watch) → sum_by (names root) v.own.notes ≡ 0
    → IsLone root (with_ref (with_entry v (At o number (noted_by lane (birth root region watch))) t) root Born m)
lone_born v o number t m lane root region watch none =
    let e : Entry = At o number (noted_by lane (birth root region watch)) in
    let a = sum_by_push (births root) v.own.notes e in
    let b = sum_by_push (births root) (v.own.notes ++ e ∷ []) (Ref root Born) in
    let c = sum_by_push (posts root) v.own.notes e in
    let d = sum_by_push (posts root) (v.own.notes ++ e ∷ []) (Ref root Born) in
    let one : births root e ≡ 1 = its_birth root (used region) in let z : posts root e ≡ 0 = refl in
    let y : posts root (Ref root Born) ≡ 0 = refl in
    let le = sum_by-le-sum_by (posts root) (names root) v.own.notes (post_names root) in
    record { born = omega (arith, a, b, one); kept = omega (arith, c, d, z, y, le, none) }

-- ---- Sections.

module _ {G : Ghosts Home Noted} (l : Layout) (p : ℕ) (old new : TableSeat Home G) (section : Section Home)
    (got : GotSection HomeStands l (RootOf p) old new section) where
  -- what the section finds as its note comes
  record Found (n : Noted) : Type 0 where
    pub place : RootPlace
    pub told : IsPlaceAfter p got.history place
    pub next : RootPlace
    pub step : place_step p place n.did ≡ Some next

  found : (n : Noted) → IsLawful l.shape (RootOf p) (got.history ++ n ∷ []) → Found n
  found n accepted =
      let y = place_there l.shape p (got.history ++ n ∷ []) accepted in
      let k = last_note (place_step p) got.history n new_place y.0 y.1 in
      record { place = k.0; told = k.1; next = y.0; step = k.2 }

  -- a root that may be born is named by none of the seat's notes
  pub unnamed_yet : (lane : Option ℕ) (root : RootId) (region : RegionId) (watch : Option Watch) → root.place ≡ p
      → IsLawful l.shape (RootOf p) (got.history ++ noted_by lane (birth root region watch) ∷ [])
      → sum_by (names root) (view_of old).own.notes ≡ 0
  unnamed_yet lane root region watch here accepted =
      let f = found (noted_by lane (birth root region watch)) accepted in
      by f.place f.next f.told f.place.present refl f.step
    where
      by : (x y : RootPlace) → IsPlaceAfter p got.history x → (o : Option Present) → x.present ≡ o
          → place_step_by p x o (Birth root (used region)) ≡ Some y
          → sum_by (names root) (view_of old).own.notes ≡ 0
      by x y told None vacant e =
          let made = so (may_be_born p x root (used region)) (born root (used region)) y e in
          let rest = and-second (root.place == p)
          ((root.generation == x.generation + 1) && nat_le root.capacity region.place.len) made.0 in
          let next = eqb-true root.generation (x.generation + 1)
          (and-first (root.generation == x.generation + 1) (nat_le root.capacity region.place.len) rest) in
          (got.learned.root p refl).unnamed root here x told (omega (arith, next))
      by x y told (Some q) there e = absurd (cc e)

module _ {G : Ghosts Home Noted} (l : Layout) (root : RootId) (old new : TableSeat Home G) (section : Section Home)
    (got : GotSection HomeStands l (RootOf root.place) old new section) where
  -- who is alone with the root gets what its own notes laid
  pub lone_get : (lane : ℕ) (offset : ℕ) (bytes : List ℕ) → HasCount root (view_of old)
      → (view_of old).own.number ≡ Some lane
      → IsLawful l.shape (RootOf root.place)
      (got.history ++ noted_by (view_of old).own.number (access root (Get offset bytes)) ∷ [])
      → IsLone root (view_of old) → bytes ≡ bytes_at (own_bytes root (view_of old)) offset (length bytes)
  lone_get lane offset bytes has number accepted lone =
      let f = found l root.place old new section got
      (noted_by (view_of old).own.number (access root (Get offset bytes))) accepted in
      by f.place f.next f.told f.place.present refl f.step
      (sym (ap (λ (o : Option RootPlace). option_map (λ (q : Present). q.root) (present_in o)) f.told)
      ∙ (got.learned.root root.place refl).counted root refl has)
    where
      by : (x y : RootPlace) → IsPlaceAfter root.place got.history x → (o : Option Present) → x.present ≡ o
          → place_step_by root.place x o (Get offset bytes) ≡ Some y
          → option_map (λ (q : Present). q.root) x.present ≡ Some root
          → bytes ≡ bytes_at (own_bytes root (view_of old)) offset (length bytes)
      by x y told None vacant e is = absurd (cc e)
      by x y told (Some q) there e is =
          let made = so (nat_le (offset + length bytes) (length q.bytes)
          && same_bytes bytes (bytes_at q.bytes offset (length bytes))) x y e in
          let both : Some q.root ≡ Some root =
          sym (ap (λ (o : Option Present). option_map (λ (w : Present). w.root) o) there) ∙ is in
          let own = (got.learned.root root.place refl).lone root lane refl number lone x q told there (cc both) in
          same_bytes-is bytes (bytes_at q.bytes offset (length bytes))
          (and-second (nat_le (offset + length bytes) (length q.bytes))
          (same_bytes bytes (bytes_at q.bytes offset (length bytes))) made.0)
          ∙ ap (λ (b : List ℕ). bytes_at b offset (length bytes)) own
