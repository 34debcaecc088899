-- An element for a small class, from its front subpage or from a new one.
use Rattle.std.proofs.Common.{◌≡◌, ℕ, ◌*◌, ◌<◌, List, [], ◌∷◌, refl, sym, ap, ◌∙◌, subst, Bool, true, Some, arith}
use Rattle.std.specs.Prelude.{Option, slice_get, option_map, option_and_then, if◌then◌else◌}
use Rattle.ground.specs.Ground.{Segment, Origin}
use Rattle.size_classes.specs.Sizes.{Geometry, page_of, class_count, is_small, pages_of, subpage_pages}
use Rattle.size_classes.proofs.Geometries.{page_shift-is}
use Rattle.size_classes.proofs.SmallClasses.{small_below}
use Rattle.pool_law.specs.declared.id.RegionId.{RegionId}
use Rattle.pool_law.specs.Chunks.{Whole}
use Rattle.pool_law.specs.Arenas.{Arena, Yielded, front_of, with_subpage, take_run, take_element, take_small, take_class}
use Rattle.arena_laws.specs.Orderly.{IsOrderly, has_subpage}
use Rattle.arena_laws.proofs.FrontSteps.{spot-first, front-same}
use Rattle.arena_laws.proofs.OrderlyTakes.{take_subpage-orderly, take_run-fronts}
use Rattle.pool_arena.specs.declared.place.Wanted.{Wanted}
use Rattle.pool_arena.specs.declared.subpage_list.SubpageAt.{SubpageAt}
use Rattle.pool_arena.specs.SubpageLists.{pair_of, IsFirst}
use Rattle.pool_arena.specs.Places.{use_wanted}
use Rattle.pool_arena.specs.Stocks.{StockState, arena_with, arena_in, YieldsNone, run_wanted, NewFront, IsOpen, GivesPlace}

-- a front subpage is before others
pub first-is : (subpages : List (ℕ × ℕ)) (s : SubpageAt) → IsFirst subpages (Some s)
    → (rest : List (ℕ × ℕ)) × (subpages ≡ pair_of s ∷ rest)
first-is [] s e = absurd (cc e)
first-is (t ∷ subpages) s e = let same : t ≡ pair_of s = cc e in (subpages, ap (λ (x : ℕ × ℕ). x ∷ subpages) same)

-- it has a free element
pub open-first : (v : StockState) (g : Geometry) → IsOrderly g (arena_in v) → (class c page : ℕ) (rest : List (ℕ × ℕ))
    → is_small g class ≡ true
    → front_of (arena_in v) class ≡ (c, page) ∷ rest → IsOpen v class c page
open-first v g o class c page rest small front =
    let room = (o.in_list class c page small).0 (ap (has_subpage c page) front ∙ spot-first c page rest) in
    record { elements = room.elements; here = room.here; room = room.room }

-- a place is given by every step that leads where one does
gives-as : (old mid new : StockState) (step other : Arena → Option Yielded) (class chunk : ℕ) (piece : Segment)
    → ((takings : ℕ) (out : List RegionId) → other (arena_with old takings out) ≡ step (arena_with mid takings out))
    → mid.geometry ≡ old.geometry → mid.grounds ≡ old.grounds → GivesPlace mid step class new chunk piece
    → GivesPlace old other class new chunk piece
gives-as old mid new step other class chunk piece same geometry grounds gives =
    record {
      yields =
          record {
            law = λ takings out. same takings out ∙ gives.yields.law takings out;
            geometry = gives.yields.geometry ∙ geometry;
            grounds = gives.yields.grounds ∙ grounds;
          };
      piece_is =
          record {
            origin = ap (λ (os : List Origin). slice_get os chunk) (sym grounds) ∙ gives.piece_is.origin;
            start = gives.piece_is.start;
            size = gives.piece_is.size;
          };
    }

-- what a small class takes
by-small : (g : Geometry) (a : Arena) (class : ℕ) (subpages : List (ℕ × ℕ)) → is_small g class ≡ true
    → front_of a class ≡ subpages
    → take_class g a class ≡ take_small g a class subpages
by-small g a class subpages small front =
    ap (λ (b : Bool). if b then take_small g a class (front_of a class) else option_map
    (λ t. (t.0, page_of g * t.1, t.2)) (take_run g a (pages_of g class) Whole)) small
    ∙ ap (take_small g a class) front

module _ (old : StockState) (class : ℕ) (small : is_small old.geometry class ≡ true) where
  -- from the front
  pub small-first : (new : StockState) (c page : ℕ) (rest : List (ℕ × ℕ)) (piece : Segment)
      → front_of (arena_in old) class ≡ (c, page) ∷ rest
      → GivesPlace old (λ a. take_element old.geometry a class (c, page)) class new c piece
      → GivesPlace old (λ a. take_class old.geometry a class) class new c piece
  small-first new c page rest piece front gives =
      gives-as old old new (λ a. take_element old.geometry a class (c, page)) (λ a. take_class old.geometry a class)
      class c piece
      (λ takings out. by-small old.geometry (arena_with old takings out) class ((c, page) ∷ rest) small front)
      refl refl gives

  -- there is no subpage
  pub small-none : front_of (arena_in old) class ≡ [] → YieldsNone old (run_wanted old (Wanted.Subpage class))
      → YieldsNone old (λ a. take_class old.geometry a class)
  small-none front none takings out =
      by-small old.geometry (arena_with old takings out) class [] small front
      ∙ ap (option_and_then (λ t. take_element old.geometry (with_subpage class t) class (t.0, t.1))) (none takings out)

  module _ (o : IsOrderly old.geometry (arena_in old)) (mid : StockState) (chunk page : ℕ)
      (new_front : NewFront old class mid chunk page) where
    pub mid-geometry : mid.geometry ≡ old.geometry
    mid-geometry = new_front.becomes.geometry ∙ new_front.yields.geometry

    mid-is : with_subpage class (chunk, page, arena_in new_front.mid) ≡ arena_in mid
    mid-is = new_front.becomes.law 0 []

    pub mid-orderly : IsOrderly old.geometry (arena_in mid)
    mid-orderly =
        subst (λ (a : Arena). IsOrderly old.geometry a) mid-is
        (take_subpage-orderly old.geometry (arena_in old) class o small (chunk, page, arena_in new_front.mid)
        (new_front.yields.law 0 []))

    mid-front : front_of (arena_in mid) class ≡ (chunk, page) ∷ front_of (arena_in new_front.mid) class
    mid-front =
        ap (λ (a : Arena). front_of a class) (sym mid-is)
        ∙ front-same (arena_in new_front.mid) class ((chunk, page) ∷ front_of (arena_in new_front.mid) class)
        (omega (
          arith,
          small-within,
          take_run-fronts old.geometry (arena_in old) (subpage_pages old.geometry class)
              (use_wanted old.geometry (Wanted.Subpage class)) o
              (chunk, page, arena_in new_front.mid) (new_front.yields.law 0 []),
        ))
      where
        small-within : class < class_count old.geometry
        small-within =
            omega (
              arith,
              small_below old.geometry (o.sound 0).page class small,
              o.order,
              (page_shift-is old.geometry.page (o.sound 0).page).least,
            )

    pub mid-open : IsOpen mid class chunk page
    mid-open =
        open-first mid old.geometry mid-orderly class chunk page (front_of (arena_in new_front.mid) class) small
        mid-front

    pub small-new : (new : StockState) (piece : Segment) → front_of (arena_in old) class ≡ []
        → GivesPlace mid (λ a. take_element mid.geometry a class (chunk, page)) class new chunk piece
        → GivesPlace old (λ a. take_class old.geometry a class) class new chunk piece
    small-new new piece front gives =
        gives-as old mid new (λ a. take_element mid.geometry a class (chunk, page))
        (λ a. take_class old.geometry a class) class chunk piece
        (λ takings out.
        by-small old.geometry (arena_with old takings out) class [] small front
        ∙ ap (option_and_then (λ t. take_element old.geometry (with_subpage class t) class (t.0, t.1)))
        (new_front.yields.law takings out)
        ∙ ap (λ (a : Arena). take_element old.geometry a class (chunk, page)) (new_front.becomes.law takings out)
        ∙ ap (λ (g : Geometry). take_element g (arena_with mid takings out) class (chunk, page)) (sym mid-geometry))
        mid-geometry (new_front.becomes.grounds ∙ new_front.yields.grounds) gives
