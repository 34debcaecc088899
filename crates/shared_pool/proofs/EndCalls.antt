-- An end as the call makes it, of a section that a claim by the end token got.
use Rattle.std.proofs.Common.{◌≡◌, ℕ, ◌+◌, ◌-◌, ap, refl}
use Rattle.std.specs.Prelude.{Some, IfSome}
use Rattle.pool_law.specs.declared.id.Region.{Region}
use Rattle.pool_law.specs.declared.id.RootId.{RootId}
use Rattle.pool_law.specs.declared.note.Object.TheVariants.{Root as RootOf}
use Rattle.pool_law.specs.declared.note.RefDid.TheVariants.{Vacated}
use Rattle.pool_law.specs.Naming.{noted_by}
use Rattle.history_laws.specs.Histories.{root_after}
use Rattle.handle_bin.specs.Bins.{HandleValue}
use Rattle.pool_table.specs.declared.roots.EndToken.{EndToken}
use Rattle.pool_table.specs.declared.table.PoolSeat.{PoolSeat as TableSeat}
use Rattle.pool_table.specs.declared.table.Section.{Section}
use Rattle.pool_table.specs.declared.views.Entry.TheVariants.{At}
use Rattle.pool_table.specs.Counts.{with_ref, HasToken}
use Rattle.pool_table.specs.Hands.{InHand, HasEnded}
use Rattle.pool_table.specs.Seats.{view_of}
use Rattle.pool_table.specs.Sections.{GotSection, MayEnd}
use Rattle.pool_table.specs.Views.{with_entry}
use Rattle.shared_pool.specs.Holding.{HoldsRegion, HoldsHandle}
use Rattle.shared_pool.specs.PlaceStanding.{IfPlaces}
use Rattle.shared_pool.specs.PlaceSteps.{MayEnd as MayBeOver, vacated}
use Rattle.shared_pool.specs.RootNotes.{end_of, IsNotedWith, HoldsToken}
use Rattle.shared_pool.specs.SeatViews.{HasView}
use Rattle.shared_pool.specs.Seats.{IsPoolSeat, IsNoted}
use Rattle.shared_pool.specs.Standing.{HomeStands, IsPlace, IfPlace}
use Rattle.shared_pool.specs.declared.home.Home.{Home}
use Rattle.shared_pool.specs.declared.pool.SharedPool.{SharedPool}
use Rattle.shared_pool.specs.declared.seat.PoolSeat.{PoolSeat}
use Rattle.shared_pool.proofs.Endings.{ends, made, IsNext}
use Rattle.shared_pool.proofs.PlaceBirths.{end_waits, end_leaves}
use Rattle.shared_pool.proofs.PlaceEnds.{TakenOut, ends_here, out_here, ended_next, takes_up}

-- the seat noted the end of the root and vacated its place, and has its region and the place's handle in its hands
pub record HasRetired (pool : SharedPool) (old new : PoolSeat) (root : RootId) (number : ℕ) (r : Region)
    (h : HandleValue) : Type 0 where
  pub did : IsNotedWith pool old new root number (end_of root r.id) Vacated (view_of old.seat).moves
  pub region : HoldsRegion pool new r
  pub handle : HoldsHandle pool new h × (h.place ≡ root.place)

module _ {old : PoolSeat} {token : EndToken} {root : RootId} (holds : HoldsToken old token)
    (is : root ≡ token.root) where
  -- the seat has the token of this root
  pub has_token : HasToken root (view_of old.seat)
  has_token = rw is holds.token_is

  module _ {pool : SharedPool} {new : TableSeat Home _} {section : Section Home} (seat : IsPoolSeat pool old)
      (got : GotSection HomeStands pool.table.layout (RootOf root.place) old.seat new section) where
    -- that root is present at the place
    present : root_after root.place got.history ≡ Some root
    present = (got.learned.root root.place refl).ended root refl has_token (rw is holds.no_end)

    -- so it may end there
    pub may_end : IfPlace section.home MayBeOver
    may_end = ends_here pool.table.layout root.place old.seat new section got seat.setting seat.settled root present

    module _ (after : Section Home) (region : Region) (handle : HandleValue)
        (same : (after.object ≡ section.object) × (after.slot ≡ section.slot)) (is_place : IsPlace after.home)
        (out : IfPlace section.home (λ y. IfSome y.present (TakenOut region handle)))
        (vacant : IfPlaces section.home after.home (λ y t. t ≡ vacated y)) where
      -- the note of the end follows
      next : IsNext pool.table.layout (RootOf root.place) old.seat new section got seat.setting seat.settled after
          (end_of root region.id)
      next = ended_next pool.table.layout root.place old.seat new section got seat.setting seat.settled root present
          after region handle out same.0 same.1 is_place vacant

      -- so the section may end with it
      pub end_ends : MayEnd HomeStands pool.table.layout.shape new after (end_of root region.id)
      end_ends = ends pool.table.layout (RootOf root.place) old.seat new section got seat.setting seat.settled after
          (end_of root region.id) next

      module _ (last : TableSeat Home _) (number : ℕ)
          (counted : IfSome (view_of new).inside (λ x. number ≡ x.number + 1))
          (has : HasView (record old { seat = last }) (with_entry (view_of new)
          (At after.object number (noted_by (view_of new).own.number (end_of root region.id)))
          ((view_of new).turns - 1))) where
        -- the seat has made that note
        noted : IsNoted pool old (record old { seat = last }) (RootOf root.place) number (end_of root region.id)
        noted = made pool.table.layout (RootOf root.place) old new section got seat.setting seat.settled pool last
            after number (end_of root region.id) refl next counted has

        -- it has noted the end, and not yet vacated the place
        pub has_ended : HasEnded token.root (view_of last)
        has_ended =
            let v = view_of old.seat in
            rw (← is, ap (λ m. m.0) noted.seat)
            (end_waits v number (v.turns - 1) v.own.number root region.id has_token (got.learned.vacated root)).1

        -- by the step that vacates the place the root is retired
        pub has_retired : (end : TableSeat Home _) → InHand token.root.place (view_of end)
            → HasView (record old { seat = end }) (with_ref (view_of last) token.root Vacated (view_of last).moves)
            → HasRetired pool old (record old { seat = end }) token.root number region handle
        has_retired end hand stepped =
            let v = view_of old.seat in
            let seen = rw (← is, ap (λ m. m.0) noted.seat) at stepped in
            let here = ap (λ m. m.0) seen in
            let leaves = end_leaves v number (v.turns - 1) v.moves v.own.number root region.id
            ((got.learned.root root.place refl).none_waits root refl has_token)
            (got.learned.free region.id _ next.follows (takes_up v.own.number root region.id)) in
            let taken = out_here pool.table.layout root.place old.seat new section got seat.setting seat.settled root
            present region handle out in
            rw (← is) (record {
              did = record {
                history = noted.history;
                number_is = noted.number_is;
                accepted = noted.accepted;
                above = noted.above;
                seat = seen;
              };
              region = record {
                hand = rw here leaves.1;
                here = rw (here, seat.settled) taken.in_place;
                owner = taken.owner;
                class = taken.class;
                len = taken.len;
              };
              handle = (
                record {
                  hand = rw (taken.place, is) hand;
                  waits = rw (taken.place, here) leaves.0;
                  lane = taken.lane;
                  place = rw taken.place got.learned.object;
                },
                taken.place,
              );
            })
