-- The cores of an input, and the board that is made of them.
use Rattle.std.proofs.Common.{◌≡◌, ℕ, zero, suc, ◌+◌, ◌<◌, ◌≤◌, List, [], ◌∷◌, ◌++◌, length, map, drop, get_or, refl, sym, ap, ◌∙◌, subst, arith, inl, inr, length-append, Some}
use Rattle.std.specs.Prelude.{OnErr, Result, Ok, Err, Option, ◌⊎◌, All, sum, sum_by, slice_get, slice_index_or}
use Rattle.std.specs.List.{concat}
use Rattle.std.proofs.lemmas.List.Sums.{sum_by-cons}
use Rattle.std.proofs.lemmas.Option.{slice_get-get_or}
use Rattle.pool_law.specs.declared.id.Part.{Part}
use Rattle.pool_law.specs.declared.id.RootId.{RootId}
use Rattle.pool_law.specs.Composites.{size_of}
use Rattle.pool_law.proofs.ListLemmas.{item-at}
use Rattle.history_laws.specs.NoteCounts.{did_post_of}
use Rattle.pool_table.specs.declared.views.Entry.{Entry}
use Rattle.pool_table.specs.declared.views.Entry.TheVariants.{At, Ref, Busy}
use Rattle.pool_table.specs.Counts.{posts}
use Rattle.shared_pool.specs.declared.pool.SharedPool.{SharedPool}
use Rattle.shared_pool.specs.declared.seat.PoolSeat.{PoolSeat}
use Rattle.shared_pool.specs.Seats.{IsPoolSeat}
use Rattle.board_table.specs.Sound.{reserve}
use Rattle.shared_composite.specs.declared.board.Board.{Board}
use Rattle.shared_composite.specs.declared.cores.Core.{Core}
use Rattle.shared_composite.specs.declared.home.Origin.{Origin}
use Rattle.shared_composite.specs.Boards.{AreCores, IsAtHome, IsMadeOf, core_in, origin_of, parts_in}
use Rattle.shared_composite.specs.Cores.{IsCore, IsFit, IsGetOf, IsKept, roots_of, turns_of}
use Rattle.share_run.specs.declared.openings.TheConstants.{BOARD_TURNS}
use Rattle.share_run.specs.Standing.{AreFresh, AreCoresOf, IsFresh, HasLengths, IsBoardOf, IsCoreOf, IsFilled, IsOfLane}
use Rattle.share_run.proofs.PartLaws.{posted_more}

-- ---- One core.

-- a core of what is filled
pub core_of : (pool : SharedPool) (lane : ℕ) (inputs : List (List ℕ)) (parts : List Part) (s : PoolSeat) (c : Core)
    → IsFilled pool lane inputs parts s → (IsFit pool s parts → IsCore pool c) → c.seat ≡ s → c.parts ≡ parts
    → IsCoreOf pool lane inputs c × (reserve BOARD_TURNS ≤ turns_of c)
core_of pool lane inputs parts s c filled made seat parts_are = (
  record {
    core_is = made filled.fit;
    lane_is = subst (IsOfLane lane) (sym seat) filled.lane_is;
    lens = subst (HasLengths inputs) (sym parts_are) filled.lens;
  },
  subst (λ (x : PoolSeat). reserve BOARD_TURNS ≤ turns_of (record c { seat = x })) (sym seat) filled.turns,
)

-- ---- Seats that did nothing yet.

pub fresh_seats : (pool : SharedPool) (lane : ℕ) (seats : List PoolSeat) → AreFresh pool lane seats
    → All (IsPoolSeat pool) seats
fresh_seats pool lane seats fresh k d lt =
    (fresh k (get_or seats k d) (slice_get-get_or seats k d lt)).works.seat

pub fresh_first : (pool : SharedPool) (lane : ℕ) (seats : List PoolSeat) (s : PoolSeat) → AreFresh pool lane seats
    → 0 < length seats → s ≡ get_or seats 0 s → IsFresh pool lane s
fresh_first pool lane seats s fresh lt is =
    let there = slice_get-get_or seats 0 s lt in let none : lane + 0 ≡ lane = omega arith in
    subst (λ (n : ℕ). IsFresh pool n s) none
    (subst (λ (x : PoolSeat). IsFresh pool (lane + 0) x) (sym is) (fresh 0 (get_or seats 0 s) there))

pub fresh_rest : (pool : SharedPool) (lane : ℕ) (s : PoolSeat) (seats : List PoolSeat)
    → AreFresh pool lane (s ∷ seats) → AreFresh pool (lane + 1) seats
fresh_rest pool lane s seats fresh k t e =
    let one : lane + suc k ≡ lane + 1 + k = omega arith in
    subst (λ (n : ℕ). IsFresh pool n t) one (fresh (suc k) t e)

pub fresh_dropped : (pool : SharedPool) (lane : ℕ) (seats : List PoolSeat) → AreFresh pool lane seats
    → AreFresh pool (lane + 1) (drop 1 seats)
fresh_dropped pool lane [] fresh k t e = absurd (cc e)
fresh_dropped pool lane (s ∷ seats) fresh k t e = fresh_rest pool lane s seats fresh k t e

-- what holds, whatever the answer
pub on_err : {A E : Type 0} (r : Result A E) (P : Type 0) → P → OnErr r P
on_err (Ok a) P p = tt
on_err (Err e) P p = p

-- ---- All cores.

-- the last item, and those before it
pub get_push : {X : Type 0} (xs : List X) (x y : X) (k : ℕ) → slice_get (xs ++ x ∷ []) k ≡ Some y
    → (slice_get xs k ≡ Some y) ⊎ ((k ≡ length xs) × (y ≡ x))
get_push [] x y zero e = inr (refl, cc e)
get_push [] x y (suc k) e = absurd (cc e)
get_push (z ∷ xs) x y zero e = inl e
get_push (z ∷ xs) x y (suc k) e =
    elim (get_push xs x y k e) [ inl a ↦ inl a | inr b ↦ inr (omega (arith, b.0), b.1) ]

-- so many composites have their cores
pub record CoresTo (pool : SharedPool) (composites : List (List (List ℕ))) (n : ℕ) (cores : List Core) : Type 0 where
  pub many : length cores ≡ n
  pub each : (k : ℕ) (c : Core) → slice_get cores k ≡ Some c
      → IsCoreOf pool k (slice_index_or composites k []) c × (reserve BOARD_TURNS ≤ turns_of c)

module _ (pool : SharedPool) (composites : List (List (List ℕ))) where
  pub cores_more : (n : ℕ) (cores : List Core) (c : Core) → CoresTo pool composites n cores
      → IsCoreOf pool n (slice_index_or composites n []) c × (reserve BOARD_TURNS ≤ turns_of c)
      → CoresTo pool composites (n + 1) (cores ++ c ∷ [])
  cores_more n cores c was one = record {
    many = (let a = length-append cores (c ∷ []) in let b = was.many in omega (arith, a, b));
    each = λ k d e.
        elim (get_push cores c d k e) [
          | inl before ↦ was.each k d before
          | inr last ↦
              subst (λ (x : ℕ × Core).
              IsCoreOf pool x.0 (slice_index_or composites x.0 []) x.1 × (reserve BOARD_TURNS ≤ turns_of x.1))
              (λ i. (sym (last.0 ∙ was.many) i, sym last.1 i)) one
        ];
  }

  pub cores_seats : (n : ℕ) (cores : List Core) → CoresTo pool composites n cores
      → All (λ (c : Core). IsPoolSeat pool c.seat) cores
  cores_seats n cores was k d lt =
      (was.each k (get_or cores k d) (slice_get-get_or cores k d lt)).0.core_is.fit.seat_is

  pub are_cores : (cores : List Core) → AreCoresOf pool composites cores → AreCores pool BOARD_TURNS cores
  are_cores cores all_cores k d lt =
      let one = all_cores.each k (get_or cores k d) (slice_get-get_or cores k d lt) in (one.0.core_is, one.1)

-- ---- The board.

-- bytes of parts, one behind the other, are as many as all of them
pub length_concat : (xs : List (List ℕ)) → length (concat xs) ≡ sum (map (λ x. length x) xs)
length_concat [] = refl
length_concat (x ∷ xs) =
    let a = length-append x (concat xs) in let b = length_concat xs in
    let c = sum_by-cons (λ (n : ℕ). n) (length x) (map (λ (y : List ℕ). length y) xs) in
    grind (arith, a, b, c)

-- gets post nothing
gets_posts : (r : RootId) (roots : List RootId) (es : List Entry) → All (IsGetOf roots) es
    → sum_by (posts r) es ≡ 0
gets_posts r roots [] gets = refl
gets_posts r roots (e ∷ es) gets =
    let a = sum_by-cons (posts r) e es in
    let b = gets_posts r roots es (λ k d lt. gets (suc k) d (omega (arith, lt))) in
    let c = one e (gets 0 e (omega arith)) in omega (arith, a, b, c)
  where
    one : (x : Entry) → IsGetOf roots x → posts r x ≡ 0
    one (At object number n) get = ap (did_post_of r) get.5
    one (Ref root did) get = absurd get
    one (Busy held) get = absurd get

-- a core that gets brought further on
kept_core : (pool : SharedPool) (lane : ℕ) (inputs : List (List ℕ)) (made core : Core)
    → IsCoreOf pool lane inputs made → IsKept made core → IsCore pool core → IsCoreOf pool lane inputs core
kept_core pool lane inputs made core was kept is = record {
  core_is = is;
  lane_is = record {
    number = kept.number ∙ was.lane_is.number;
    unposted = λ r.
        posted_more r made.seat core.seat kept.added kept.notes
        (gets_posts r (roots_of made.parts) kept.added kept.gets)
        ∙ was.lane_is.unposted r;
  };
  lens = ap (map (λ (p : Part). p.len)) kept.parts ∙ was.lens;
}

module _ (board : Board) (pool : SharedPool) (composites : List (List (List ℕ))) (cores : List Core)
    (all_cores : AreCoresOf pool composites cores) (made : IsMadeOf board pool BOARD_TURNS cores) where
  first_core : (k : ℕ) (origin : Origin) (c : Core) → origin_of board ≡ Some origin
      → slice_get origin.cores k ≡ Some c → IsCoreOf pool k (slice_index_or composites k []) c
  first_core k origin c is there =
      let first : slice_get cores k ≡ Some c =
      sym (made.cores_are k) ∙ ap (λ (o : Option Origin). core_in o k) is ∙ there in
      (all_cores.each k c first).0

  same_pool : (origin : Origin) → origin_of board ≡ Some origin → origin.pool ≡ pool
  same_pool origin is =
      let both : ◌≡◌ {A = Option Origin} (Some origin) (Some made.pool_is.0) = sym is ∙ made.pool_is.1 in
      let same : origin ≡ made.pool_is.0 = cc both in
      ap (λ (o : Origin). o.pool) same ∙ sym made.pool_is.2

  at_home : (k : ℕ) (core : Core) → IsAtHome board k core → IsCoreOf pool k (slice_index_or composites k []) core
  at_home k core home =
      let stands = home.2 in
      kept_core pool k (slice_index_or composites k []) stands.made core
      (first_core k home.0 stands.made home.1 stands.made_is) stands.kept
      (subst (λ (p : SharedPool). IsCore p core) (same_pool home.0 home.1) stands.core_is)

  pub board_of : IsBoardOf board pool composites
  board_of = record {
    pool_is = made.pool_is;
    turns = made.turns_are;
    many = made.composites ∙ all_cores.many;
    sizes = λ k lt.
        (let c = item-at cores k (let a = all_cores.many in omega (arith, a, lt)) in
        ap size_of (ap parts_in (made.cores_are k ∙ c.1))
        ∙ ap (λ (ns : List ℕ). sum ns) (all_cores.each k c.0 c.1).0.lens
        ∙ sym (length_concat (slice_index_or composites k [])));
    cores = at_home;
  }
