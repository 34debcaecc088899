-- What a section tells, and when it may end.
use Rattle.std.proofs.Common.{◌≡◌, ℕ, ◌+◌, ◌-◌, List, [], ◌∷◌, ◌++◌, length, sym, ap, ◌∙◌, subst, refl}
use Rattle.std.specs.Prelude.{Option, Some, None, IfSome}
use Rattle.step_law.specs.Settings.{Setting}
use Rattle.step_law.specs.declared.Told.{Ghosts}
use Rattle.pool_law.specs.declared.note.Did.{Did}
use Rattle.pool_law.specs.declared.note.Did.TheVariants.{Birth}
use Rattle.pool_law.specs.declared.note.Noted.{Noted}
use Rattle.pool_law.specs.NotedHistories.{IsRightWatch}
use Rattle.pool_law.specs.declared.note.Object.{Object}
use Rattle.pool_law.specs.Naming.{noted_by}
use Rattle.history_laws.specs.Histories.{IsLawful}
use Rattle.history_laws.specs.Measures.{measures_of}
use Rattle.pool_table.specs.declared.views.Entry.TheVariants.{At}
use Rattle.pool_table.specs.declared.views.Layout.{Layout}
use Rattle.pool_table.specs.declared.views.SeatView.{SeatView}
use Rattle.pool_table.specs.declared.table.PoolSeat.{PoolSeat as TableSeat}
use Rattle.pool_table.specs.declared.table.Section.{Section}
use Rattle.pool_table.specs.declared.table.HomeSlot.{HomeSlot}
use Rattle.pool_table.specs.Numbers.{IsAbove}
use Rattle.pool_table.specs.Views.{with_entry}
use Rattle.pool_table.specs.Seats.{view_of, HasView}
use Rattle.pool_table.specs.Sections.{GotSection, MayEnd, IsInside}
use Rattle.shared_pool.specs.declared.home.Home.{Home}
use Rattle.shared_pool.specs.declared.pool.SharedPool.{SharedPool}
use Rattle.shared_pool.specs.declared.seat.PoolSeat.{PoolSeat}
use Rattle.shared_pool.specs.Standing.{HomeStands}
use Rattle.shared_pool.specs.Seats.{IsNoted}

module _ {G : Ghosts Home Noted} (l : Layout) (o : Object) (old new : TableSeat Home G) (section : Section Home)
    (got : GotSection HomeStands l o old new section) (setting : Setting) (known : (view_of old).setting ≡ Some setting)
  where
    -- the home value of the section stands for the history
    pub stood : HomeStands (measures_of l.shape o) setting got.history section.home
    stood =
        subst (λ (y : Option Setting). IfSome y (λ g. HomeStands (measures_of l.shape o) g got.history section.home))
        known got.learned.stands_for

    -- the note as this seat makes it, after the history of the section
    abbrev pub longer : Noted → List Noted
    longer n = got.history ++ noted_by (view_of old).own.number n ∷ []

    -- the note follows, and the home value stands for the longer history
    pub record IsNext (after : Section Home) (n : Noted) : Type 0 where
      pub same_object : after.object ≡ section.object
      pub same_slot : after.slot ≡ section.slot
      pub follows : IsLawful l.shape o (longer n)
      pub stands : HomeStands (measures_of l.shape o) setting (longer n) after.home

    -- the section may end with a note that follows
    pub ends : (after : Section Home) (n : Noted) → IsNext after n → MayEnd HomeStands l.shape new after n
    ends after n next =
        record {
          history = got.history;
          inside =
              subst (λ (x : Object × HomeSlot). IsInside l.shape new.seat.me x.0 x.1 got.history)
              (λ i. (sym object_is i, sym next.same_slot i)) got.inside;
          follows =
              subst (λ (x : Object × Option ℕ). IsLawful l.shape x.0 (got.history ++ noted_by x.1 n ∷ []))
              (λ i. (sym object_is i, sym number_is i)) next.follows;
          stands_for = record {
            setting = setting;
            known = ap (λ v. v.setting) got.view ∙ known;
            stands_for =
                subst (λ (x : Object × Option ℕ). HomeStands (measures_of l.shape x.0) setting
                (got.history ++ noted_by x.1 n ∷ []) after.home) (λ i. (sym object_is i, sym number_is i))
                next.stands;
          };
        }
      where
        object_is : after.object ≡ o
        object_is = next.same_object ∙ got.object

        number_is : (view_of new).own.number ≡ (view_of old).own.number
        number_is = ap (λ v. v.own.number) got.view

-- the note that ended the section, after which the seat has the table's seat that is left
pub made : (l : Layout) (o : Object) (old : PoolSeat) (new : TableSeat Home _) (section : Section Home)
    (got : GotSection HomeStands l o old.seat new section) (setting : Setting)
    (known : (view_of old.seat).setting ≡ Some setting) (pool : SharedPool) (last : TableSeat Home _)
    (after : Section Home) (number : ℕ) (n : Noted) → pool.table.layout ≡ l
    → IsNext l o old.seat new section got setting known after n →
    IfSome (view_of new).inside (λ x. number ≡ x.number + 1) →
    HasView last (with_entry (view_of new) (At after.object number (noted_by (view_of new).own.number n))
    ((view_of new).turns - 1)) →
    IsNoted pool old (record old { seat = last }) o number n
made l o old new section got setting known pool last after number n layout next counted has =
    record {
      history = got.history;
      number_is = number_is;
      accepted =
          subst (λ (y : Layout). IsLawful y.shape o (longer l o old.seat new section got setting known n)) (sym layout)
          next.follows;
      above = subst (λ (k : ℕ). IsAbove o k (view_of old.seat).own.notes) (sym number_is) got.learned.seen;
      seat =
          subst (λ (x : SeatView × Object). HasView last
          (with_entry x.0 (At x.1 number (noted_by x.0.own.number n)) (x.0.turns - 1)))
          (λ i. (got.view i, (next.same_object ∙ got.object) i)) has;
    }
  where
    number_is : number ≡ length got.history + 1
    number_is = subst (λ (v : SeatView). IfSome v.inside (λ x. number ≡ x.number + 1)) got.view counted

-- the history that it follows is that of the section
pub made_after : (l : Layout) (o : Object) (old : PoolSeat) (new : TableSeat Home _) (section : Section Home)
    (got : GotSection HomeStands l o old.seat new section) (setting : Setting)
    (known : (view_of old.seat).setting ≡ Some setting) (pool : SharedPool) (last : TableSeat Home _)
    (after : Section Home) (number : ℕ) (n : Noted) (layout : pool.table.layout ≡ l)
    (next : IsNext l o old.seat new section got setting known after n)
    (counted : IfSome (view_of new).inside (λ x. number ≡ x.number + 1))
    (has : HasView last (with_entry (view_of new) (At after.object number (noted_by (view_of new).own.number n))
    ((view_of new).turns - 1))) →
    (made l o old new section got setting known pool last after number n layout next counted has).history
    ≡ got.history
unfolding made
made_after l o old new section got setting known pool last after number n layout next counted has = refl

-- a plain note carries no watch
pub plain_watch : (did : Did) → IsRightWatch did None
plain_watch (Birth root region) = tt
plain_watch _ = refl
