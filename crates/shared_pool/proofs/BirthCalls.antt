-- A birth as the call makes it, of a section that a claim of the place got, or no birth there.
use Rattle.std.proofs.Common.{◌≡◌, ℕ, ◌+◌, ◌-◌, ◌*◌, ◌/◌, ◌<◌, ◌≤◌, sym, ap, ◌∙◌, subst, refl, arith}
use Rattle.std.specs.Prelude.{Option, IfSome, sum_by}
use Rattle.pool_law.specs.declared.id.RootId.{RootId}
use Rattle.pool_law.specs.declared.id.Region.{Region}
use Rattle.pool_law.specs.declared.note.Object.{Object}
use Rattle.pool_law.specs.declared.note.Object.TheVariants.{Root as RootOf}
use Rattle.pool_law.specs.declared.note.RefDid.TheVariants.{Born}
use Rattle.pool_law.specs.declared.report.Watch.{Watch}
use Rattle.pool_law.specs.Naming.{noted_by}
use Rattle.handle_bin.specs.Bins.{HandleValue}
use Rattle.pool_table.specs.declared.views.Entry.TheVariants.{At}
use Rattle.pool_table.specs.declared.views.Layout.{Layout}
use Rattle.pool_table.specs.declared.views.SeatView.{SeatView}
use Rattle.pool_table.specs.declared.table.PoolSeat.{PoolSeat as TableSeat}
use Rattle.pool_table.specs.declared.table.Section.{Section}
use Rattle.pool_table.specs.Counts.{with_ref}
use Rattle.pool_table.specs.Hands.{InHand, NoneWaits, Waits, IsAwaited, MayLeave}
use Rattle.pool_table.specs.Lone.{IsLone, names}
use Rattle.pool_table.specs.Views.{with_entry}
use Rattle.pool_table.specs.Seats.{view_of}
use Rattle.shared_pool.specs.SeatViews.{HasView}
use Rattle.pool_table.specs.Sections.{GotSection, MayEnd}
use Rattle.shared_pool.specs.Holding.{HoldsRegion, HoldsHandle}
use Rattle.shared_pool.specs.PlaceSteps.{MayBear, born_root, with_born}
use Rattle.shared_pool.specs.RootNotes.{birth, IsNotedWith}
use Rattle.shared_pool.specs.RootPlaces.{PlaceState, last_generation}
use Rattle.shared_pool.specs.Seats.{IsPoolSeat, IsNoted}
use Rattle.shared_pool.specs.Standing.{HomeStands, IsPlace, IfPlace}
use Rattle.shared_pool.specs.Wearing.{IsShort, FoundWorn}
use Rattle.shared_pool.specs.declared.home.Home.{Home}
use Rattle.shared_pool.specs.declared.pool.SharedPool.{SharedPool}
use Rattle.shared_pool.specs.declared.seat.PoolSeat.{PoolSeat}
use Rattle.shared_pool.proofs.Endings.{ends, made, IsNext}
use Rattle.shared_pool.proofs.LoneSeats.{unnamed_yet, lone_born}
use Rattle.shared_pool.proofs.PlaceBirths.{birth_waits}
use Rattle.shared_pool.proofs.PlaceCalls.{bears_here, worn_here, born_next, born_noted}

-- a pool of so few turns has no place that is worn out
pub never_worn : (pool : SharedPool) (place : ℕ) (seat : PoolSeat)
    → FoundWorn pool place seat → IsShort pool.table.layout → ⊥
never_worn pool place seat found short =
    let few = (found.learned.root place refl).few found.state found.told in let last = found.worn in
    let n : ℕ = found.state.generation in let t : ℕ = pool.table.layout.shape.lanes * pool.table.layout.turns in
    let a : n ≤ t = few in let b : n ≡ 4294967295 = last in let c : t < 4294967295 = short in omega (arith, a, b, c)

module _ (pool : SharedPool) (old : PoolSeat) (new : TableSeat Home _) (place : ℕ)
    (seat : IsPoolSeat pool old) (was section : Section Home) (looked : section ≡ was)
    (found : GotSection HomeStands pool.table.layout (RootOf place) old.seat new was) (handle : HandleValue)
    (at : place ≡ handle.place) (holds : HoldsHandle pool old handle) where
  abbrev l : Layout
  l = pool.table.layout

  abbrev got : GotSection HomeStands l (RootOf place) old.seat new section
  got = subst (λ (x : Section Home). GotSection HomeStands l (RootOf place) old.seat new x) (sym looked) found

  there : (P : PlaceState → Type 0) → IfPlace was.home P → IfPlace section.home P
  there P holds = subst (λ (x : Section Home). IfPlace x.home P) (sym looked) holds

  pub hand_here : InHand place (view_of old.seat)
  hand_here = subst (λ (n : ℕ). InHand n (view_of old.seat)) (sym at) holds.hand

  waits_here : NoneWaits place (view_of old.seat)
  waits_here = subst (λ (n : ℕ). NoneWaits n (view_of old.seat)) (sym at) holds.waits

  -- the section may end with no note
  pub may_leave : MayLeave (view_of new) section.object
  may_leave = subst (λ (x : SeatView × Object). MayLeave x.0 x.1) (λ i. (sym got.view i, sym got.object i))
      (hand_here, waits_here)

  -- what the seat found, where the place is worn out
  pub found_worn : IfPlace was.home (λ y. y.generation ≡ last_generation) → FoundWorn pool handle.place old
  found_worn worn =
      let x = worn_here l place old.seat new section got seat.setting seat.settled
      (there (λ y. y.generation ≡ last_generation) worn) in
      subst (λ (n : ℕ). FoundWorn pool n old) at (record {
        history = got.history;
        home = section.home;
        learned = got.learned;
        state = x.0;
        told = x.1;
        worn = x.2;
      })

  -- else a root may be born there
  pub may_bear_here : IfPlace was.home (λ y. y.generation < last_generation) → IfPlace section.home MayBear
  may_bear_here young = bears_here l place old.seat new section got seat.setting seat.settled hand_here waits_here
      (there (λ y. y.generation < last_generation) young)

  module _ (young : IfPlace was.home (λ y. y.generation < last_generation)) (region : Region)
      (has : HoldsRegion pool old region) (capacity : ℕ) (fits : capacity ≤ region.id.place.len) (watch : Option Watch)
      (after : Section Home) (root : RootId)
      (same : (after.object ≡ section.object) × (after.slot ≡ section.slot)) (is_place : IsPlace after.home)
      (root_is : (root.place ≡ handle.place) × (root.capacity ≡ capacity))
      (next : IfPlace section.home (λ y. root.generation ≡ y.generation + 1))
      (born : IfPlace after.home (λ t. t ≡ with_born (born_root root region handle watch))) where
    next_here : IsNext l (RootOf place) old.seat new section got seat.setting seat.settled after
        (birth root region.id watch)
    next_here = born_next l place old.seat new section got seat.setting seat.settled after root region handle watch
        (may_bear_here young) same.0 same.1 is_place (root_is.0 ∙ sym at) next
        (subst (λ (n : ℕ). n ≤ region.id.place.len) (sym root_is.1) fits) has.here has.owner has.class has.len (sym at)
        (holds.lane ∙ ap (λ (n : ℕ). n / l.shape.handles) (sym at)) born

    -- the section may end with the birth
    pub birth_ends : MayEnd HomeStands l.shape new after (birth root region.id watch)
    birth_ends =
        ends l (RootOf place) old.seat new section got seat.setting seat.settled after (birth root region.id watch)
        next_here

    -- none of the seat's notes names the root
    unnamed : sum_by (names root) (view_of old.seat).own.notes ≡ 0
    unnamed = unnamed_yet l place old.seat new section got (view_of old.seat).own.number root region.id watch
        (root_is.0 ∙ sym at) next_here.follows

    module _ (last : TableSeat Home _) (number : ℕ)
        (counted : IfSome (view_of new).inside (λ x. number ≡ x.number + 1))
        (noted : HasView (record old { seat = last }) (with_entry (view_of new)
        (At after.object number (noted_by (view_of new).own.number (birth root region.id watch)))
        ((view_of new).turns - 1))) where
      noted_here : IsNoted pool old (record old { seat = last }) (RootOf place) number (birth root region.id watch)
      noted_here = made l (RootOf place) old new section got seat.setting seat.settled pool last after number
          (birth root region.id watch) refl next_here counted noted

      waiting : InHand root.place (view_of last) × Waits root (view_of last)
      waiting =
          let v = view_of old.seat in
          subst (λ (w : SeatView). InHand root.place w × Waits root w) (sym (λ i. (noted_here.seat i).0))
          (birth_waits v (RootOf place) number (v.turns - 1) v.own.number root region.id watch
          (subst (λ (n : ℕ). InHand n v) (sym root_is.0) holds.hand) got.learned.view.roots)

      -- the place is in hand, and the birth that was noted waits
      pub birth_hand : InHand place (view_of last)
      birth_hand = subst (λ (n : ℕ). InHand n (view_of last)) (root_is.0 ∙ sym at) waiting.0

      pub birth_awaited : root.generation < 4294967296 → IsAwaited place capacity (view_of last)
      birth_awaited low = (root, root_is.0 ∙ sym at, root_is.1, waiting.1, low)

      -- what both steps made
      pub birth_did : (end : TableSeat Home _) (result : RootId)
          → ((r : RootId) → r.place ≡ place → r.capacity ≡ capacity → Waits r (view_of last) → result ≡ r)
          → HasView (record old { seat = end }) (with_ref (view_of last) result Born (view_of last).moves)
          → IsNotedWith pool old (record old { seat = end }) result number (birth result region.id watch) Born
          (view_of old.seat).moves
      birth_did end result is has =
          born_noted pool old last end place number root result region.id watch noted_here (root_is.0 ∙ sym at)
          (is root (root_is.0 ∙ sym at) root_is.1 waiting.1) has

      -- the seat is alone with the root
      pub birth_lone : (end : TableSeat Home _) (result : RootId)
          → ((r : RootId) → r.place ≡ place → r.capacity ≡ capacity → Waits r (view_of last) → result ≡ r)
          → HasView (record old { seat = end }) (with_ref (view_of last) result Born (view_of last).moves)
          → IsLone result (view_of end)
      birth_lone end result is has =
          let v = view_of old.seat in let same : result ≡ root = is root (root_is.0 ∙ sym at) root_is.1 waiting.1 in
          let m : ℕ = (view_of last).moves in
          let alone : IsLone root (with_ref (view_of last) root Born m) =
          subst (λ (w : SeatView). IsLone root (with_ref w root Born m)) (sym (λ i. (noted_here.seat i).0))
          (lone_born v (RootOf place) number (v.turns - 1) m v.own.number root region.id watch unnamed) in
          subst (λ (w : SeatView). IsLone result w) (sym (λ i. (has i).0))
          (subst (λ (r : RootId). IsLone r (with_ref (view_of last) r Born m)) (sym same) alone)

      -- none of the seat's notes named the root before
      pub birth_fresh : (result : RootId)
          → ((r : RootId) → r.place ≡ place → r.capacity ≡ capacity → Waits r (view_of last) → result ≡ r)
          → sum_by (names result) (view_of old.seat).own.notes ≡ 0
      birth_fresh result is = subst (λ (r : RootId). sum_by (names r) (view_of old.seat).own.notes ≡ 0)
          (sym (is root (root_is.0 ∙ sym at) root_is.1 waiting.1)) unnamed
