-- What a section of the table is to a call on a board.
use Rattle.std.proofs.Common.{◌≡◌, ℕ, ◌+◌, ◌-◌, ◌*◌, ◌<◌, ◌≤◌, List, [], ◌∷◌, length, map, sym, refl, ap, ◌∙◌, subst, arith}
use Rattle.std.specs.Prelude.{Option, Some, None, IfSome, slice_get, box_value}
use Rattle.shared_pool.specs.declared.pool.SharedPool.{SharedPool}
use Rattle.board_table.specs.declared.table.BoardSeat.{BoardSeat as TableSeat}
use Rattle.board_table.specs.declared.table.Section.{Section}
use Rattle.board_table.specs.declared.views.BoardView.{BoardView}
use Rattle.board_table.specs.declared.views.Inside.{Inside}
use Rattle.board_table.specs.Views.{done}
use Rattle.board_table.specs.Sound.{IsSound, StandsIn, WasFree, reserve}
use Rattle.board_table.specs.Closed.{AreClosed}
use Rattle.board_table.specs.Openings.{AreHomes}
use Rattle.board_table.specs.Seats as table
use Rattle.board_table.specs.Seats.{MayEnter}
use Rattle.board_table.specs.Sections.{EndsAt, GotSection, MayEnd}
use Rattle.shared_composite.specs.declared.board.BoardSeat.{BoardSeat}
use Rattle.shared_composite.specs.declared.board.Board.{Board}
use Rattle.shared_composite.specs.declared.cores.Core.{Core}
use Rattle.shared_composite.specs.declared.home.Home.{Home}
use Rattle.shared_composite.specs.declared.home.Origin.{Origin}
use Rattle.shared_composite.specs.Cores.{IsCore, IsKept, turns_of}
use Rattle.shared_composite.specs.Homes.{CoreStands, HomeStands, AreBoxed, core_in_slot, cores_in, core_of, home_turns}
use Rattle.shared_composite.specs.Boards.{origin_of, IsPoolOf, IsAtHome, InSection, AreCores, AreLeft, IsMadeOf, core_in}
use Rattle.shared_composite.proofs.CoreLaws.{kept_on, kept_self}
use Rattle.shared_composite.proofs.Boxes.{place_at, places_are, box_at, boxed_cores, boxed_length}
use Rattle.std.proofs.lemmas.List.{length-map}
use Rattle.std.proofs.lemmas.Option.{same_Some}

-- the home value is a core of the board
pub at_home : (y : Option Origin) (k : ℕ) (x : Home) → StandsIn HomeStands y k x
    → (origin : Origin) × (y ≡ Some origin) × CoreStands origin k (box_value x.core)
at_home None k x st = absurd st
at_home (Some origin) k x st = (origin, refl, st)

-- it is one of this pool
pub of_pool : (y : Option Origin) (pool : SharedPool) (k : ℕ) (core : Core)
    → (origin : Origin) × (y ≡ Some origin) × (pool ≡ origin.pool)
    → (origin : Origin) × (y ≡ Some origin) × CoreStands origin k core → IsCore pool core
of_pool y pool k core is at =
    let same : at.0 ≡ is.0 = same_Some at.0 is.0 (sym at.1 ∙ is.1) in
    subst (λ (p : SharedPool). IsCore p core) (ap (λ (o : Origin). o.pool) same ∙ sym is.2) at.2.core_is

-- further on by gets it still is
pub still_home : (y : Option Origin) (pool : SharedPool) (k : ℕ) (core after : Core)
    → (origin : Origin) × (y ≡ Some origin) × (pool ≡ origin.pool)
    → (origin : Origin) × (y ≡ Some origin) × CoreStands origin k core → IsCore pool after → IsKept core after
    → (origin : Origin) × (y ≡ Some origin) × CoreStands origin k after
still_home y pool k core after is at after_is kept =
    let same : at.0 ≡ is.0 = same_Some at.0 is.0 (sym at.1 ∙ is.1) in (
      at.0,
      at.1,
      record {
        made = at.2.made;
        made_is = at.2.made_is;
        core_is = subst (λ (p : SharedPool). IsCore p after) (is.2 ∙ sym (ap (λ (o : Origin). o.pool) same)) after_is;
        kept = kept_on at.2.made core after at.2.kept kept;
      },
    )

-- and so as a home value
pub stands_in : (y : Option Origin) (k : ℕ) (x : Home)
    → (origin : Origin) × (y ≡ Some origin) × CoreStands origin k (box_value x.core) → StandsIn HomeStands y k x
stands_in y k x at = subst (λ (o : Option Origin). StandsIn HomeStands o k x) (sym at.1) at.2

-- ---- A section in which the core is read.

module _ (board : Board) (k : ℕ) (old new : TableSeat Home) (section : Section Home)
    (got : GotSection HomeStands home_turns (table.opening_of board.table) k old new section) where
  home_is : (origin : Origin) × (origin_of board ≡ Some origin) × CoreStands origin k (core_of section)
  home_is = at_home (origin_of board) k section.home got.home.stands_for

  pub before_is : IsAtHome board k (core_of section)
  before_is = home_is

  pub after_is : (pool : SharedPool) → IsPoolOf board pool → (after : Core) → IsCore pool after
      → IsKept (core_of section) after → IsAtHome board k after
  after_is pool is after core kept =
      still_home (origin_of board) pool k (core_of section) after is home_is core kept

  -- the section may end with the core further on
  pub section_ends : (pool : SharedPool) → IsPoolOf board pool → MayEnter k (table.view_of old)
      → (after : Section Home) → after.composite ≡ section.composite → IsCore pool (core_of after)
      → IsKept (core_of section) (core_of after) → turns_of (core_of section) ≤ turns_of (core_of after) + 25
      → 0 < (table.view_of old).turns → MayEnd HomeStands home_turns (table.opening_of board.table) new after
  section_ends pool is may after same core kept less turn =
      let e : after.composite ≡ k = same ∙ got.composite in
      record {
        ends = subst (λ (n : ℕ). EndsAt HomeStands home_turns (table.opening_of board.table) n after.home
            (table.view_of new)) (sym e)
            (record {
              number = got.number;
              turns = got.turns;
              inside = ap (λ (v : BoardView). v.inside) got.view;
              stands_for =
                  record {
                    stands_for = stands_in (origin_of board) k after.home (after_is pool is (core_of after) core kept);
                    reserved = let a = got.own in let b = got.home.reserved in let t : ℕ = (table.view_of old).turns in
                        let n : ℕ = got.turns in let m : ℕ = turns_of (core_of section) in let q : ℕ =
                        turns_of (core_of after) in let a' : t ≤ n = a in let b' : 25 * n + 100 ≤ m = b in
                        let c' : m ≤ q + 25 = less in let d' : 0 < t = turn in let goal : 25 * (n - 1) + 100 ≤ q =
                        omega (arith, a', b', c', d') in goal;
                  };
              enters = subst (λ (v : BoardView). MayEnter k v) (sym got.view) may;
            });
        holds = got.holds ∙ ap (λ (n : ℕ). (n, None) ∷ []) (sym e);
      }

  -- and what the call then did
  pub made_section : (pool : SharedPool) → IsPoolOf board pool → (then : TableSeat Home) (composite : ℕ) (after : Core)
      → composite ≡ k → IsCore pool after → IsKept (core_of section) after
      → table.HasView then (done composite (table.view_of new)) → (seat was : BoardSeat) → seat.seat ≡ then
      → was.seat ≡ old → InSection board pool was seat k got.number (core_of section) after
  made_section pool is then composite after same core kept view seat was e f =
      record {
        home = section.home;
        home_is = refl;
        was_free =
            subst (λ (s : TableSeat Home). WasFree (IsSound HomeStands home_turns (table.opening_of board.table)) k
            got.number section.home (table.view_of s)) (sym f) got.was_free;
        before_is = before_is;
        after_is = after_is pool is after core kept;
        kept = kept;
        view =
            subst (λ (s : TableSeat Home × TableSeat Home). table.HasView s.0 (done k (table.view_of s.1)))
            (λ i. (sym e i, sym f i))
            (view ∙ (λ i. (done (same i) (got.view i), [])));
      }

  pub number_is : (n : ℕ) → IfSome (table.view_of new).inside (λ (x : Inside). n ≡ x.number + 1) → n ≡ got.number + 1
  number_is n told =
      subst (λ (y : Option Inside). IfSome y (λ (x : Inside). n ≡ x.number + 1))
      (ap (λ (v : BoardView). v.inside) got.view) told

-- ---- The opening and the close.

-- no more cores than slots
pub few_cores : (slots : List (Option Home)) → length (cores_in slots) ≤ length slots
few_cores [] = omega arith
few_cores (None ∷ ys) = let a = few_cores ys in omega (arith, a)
few_cores (Some x ∷ ys) = let a = few_cores ys in omega (arith, a)

pub closes_left : (board : Board) (v : BoardView) (slots : List (Option Home)) (cores : List Core)
    → AreClosed HomeStands (table.opening_of board.table) v slots → cores ≡ cores_in slots → AreLeft board v cores
closes_left board v slots cores closed are =
    let key = board.table.key in
    record {
      places = map core_in_slot slots;
      stand = record {
        many = length-map slots core_in_slot ∙ (closed.many ∙ key);
        left = λ k lt z. let h = closed.left k (subst (λ (n : ℕ). k < n) (sym key) lt) z in
            (box_value h.0.core, place_at slots k (Some h.0) h.1, at_home (origin_of board) k h.0 h.2);
        taken = λ k lt p. place_at slots k None (closed.taken k (subst (λ (n : ℕ). k < n) (sym key) lt) p);
      };
      are = are ∙ places_are slots;
    }

-- the cores in their slots are the home values of a new table
pub homes_stand : (pool : SharedPool) (turns : ℕ) (cores : List Core) (slots : List (Option Home))
    → AreBoxed cores slots → AreCores pool turns cores
    → AreHomes HomeStands home_turns (Some (record { pool = pool; cores = cores_in slots })) turns slots
homes_stand pool turns cores slots boxed all =
    record {
      each = λ k lt.
          let b = box_at (λ (c : Core). IsCore pool c × (reserve turns ≤ turns_of c)) cores slots boxed all k lt in (
            b.0,
            b.1,
            record {
              made = box_value b.0.core;
              made_is = ap (λ (l : List Core). slice_get l k) (boxed_cores cores slots boxed) ∙ b.2;
              core_is = b.3.0;
              kept = kept_self (box_value b.0.core);
            },
            b.3.1,
          );
    }

pub made_of : (board : Board) (pool : SharedPool) (turns : ℕ) (cores : List Core) (slots : List (Option Home))
    → AreBoxed cores slots → origin_of board ≡ Some (record { pool = pool; cores = cores_in slots })
    → (table.opening_of board.table).turns ≡ turns → board.table.composites ≡ length slots
    → IsMadeOf board pool turns cores
made_of board pool turns cores slots boxed origin turned many =
    record {
      pool_is = (record { pool = pool; cores = cores_in slots }, origin, refl);
      turns_are = turned;
      composites = many ∙ boxed_length cores slots boxed;
      cores_are = λ k. ap (λ (o : Option Origin). core_in o k) origin
          ∙ ap (λ (l : List Core). slice_get l k) (boxed_cores cores slots boxed);
    }
