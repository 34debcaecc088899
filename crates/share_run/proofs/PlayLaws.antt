-- How an input is played: its limits are those that the board and the pool need.
use Rattle.std.proofs.Common.{◌≡◌, ℕ, ◌+◌, ◌-◌, ◌*◌, ◌/◌, ◌<◌, ◌≤◌, List, [], ◌∷◌, length, map, get_or, refl, sym, ap, subst, ◌∙◌, arith, zero-add}
use Rattle.std.specs.Prelude.{Result, Ok, Err, All, IfOk, sum_by}
use Rattle.std.specs.List.{concat}
use Rattle.std.proofs.Math.Nat.{mul-div-le}
use Rattle.std.proofs.lemmas.List.{length-map}
use Rattle.std.proofs.lemmas.List.Elements.{All-nil}
use Rattle.std.proofs.lemmas.List.Sums.{sum_by-cons}
use Rattle.std.proofs.lemmas.Option.{same_Some, slice_get-get_or, slice_get_within}
use Rattle.pool_table.specs.Counts.{posts}
use Rattle.shared_pool.specs.declared.pool.SharedPool.{SharedPool}
use Rattle.shared_pool.specs.declared.seat.PoolSeat.{PoolSeat}
use Rattle.shared_pool.specs.Opening.{AreOpened, IsOpened}
use Rattle.shared_pool.specs.SeatViews.{view_of}
use Rattle.shared_pool.specs.Seats.{IsPoolSeat}
use Rattle.shared_composite.specs.declared.board.Board.{Board}
use Rattle.shared_composite.specs.declared.board.BoardSeat.{BoardSeat}
use Rattle.shared_composite.specs.declared.cores.Core.{Core}
use Rattle.shared_composite.specs.Boards.{IsMadeOf}
use Rattle.seat_work.proofs.FirstSeats.{fresh_counts, opened_works}
use Rattle.share_text.specs.Inputs.{IsInput, read_count}
use Rattle.share_text.specs.Lines.{seen_in, seen_of, text_of, text_with}
use Rattle.share_text.specs.declared.lines.Seen.{Seen}
use Rattle.share_text.specs.declared.inputs.Input.{Input}
use Rattle.share_run.specs.declared.openings.TheConstants.{BOARD_TURNS, SEAT_TURNS}
use Rattle.share_run.specs.declared.readers.Reader.{Reader}
use Rattle.share_run.specs.Reading.{HaveSeen, asked_in, asked_of, moves_for}
use Rattle.share_run.specs.Standing.{AreBounded, AreFresh, AreCoresOf, IsBoardOf, IsFresh, layout_of}
use Rattle.share_run.proofs.BoardLaws.{board_of}

-- ---- Limits.

-- a whole for each composite
pub wholes_many : (composites : List (List (List ℕ))) (wholes : List (List ℕ)) → wholes ≡ map concat composites
    → length wholes ≡ length composites
wholes_many composites wholes are = ap (λ (ws : List (List ℕ)). length ws) are ∙ length-map composites concat

-- shares of what is not kept back are no more than it
pub shares_fit : (kept n all : ℕ) → kept ≤ all → kept + n * ((all - kept) / n) ≤ all
shares_fit kept n all enough = let a = mul-div-le (all - kept) n in omega (arith, a, enough)

-- a move for each read, and one for each reader
moves_are : (asked : List (List ℕ)) → moves_for asked ≡ read_count asked + length asked
moves_are [] = refl
moves_are (x ∷ xs) =
    let a = sum_by-cons (λ (reads : List ℕ). length reads + 1) x xs in
    let b = sum_by-cons (λ (reads : List ℕ). length reads) x xs in
    let c = moves_are xs in omega (arith, a, b, c)

pub moves_fit : (readers : List Reader) (reads most : ℕ) → read_count (asked_of readers) ≤ reads
    → length readers ≤ most → moves_for (asked_of readers) ≤ reads + most
moves_fit readers reads most few up =
    let a = moves_are (asked_of readers) in
    let b = length-map readers (λ (r : Reader). asked_in r.seen.items) in
    omega (arith, a, b, few, up)

-- each composite of an input is within its limits
pub are_bounded : (input : Input) → IsInput input → AreBounded input.composites
are_bounded input is k d lt = record { few = is.parts k d lt; short = is.bytes k d lt }

-- what was seen, where it is what the input asks for, has the text of the input
pub text_is : (input : Input) (seen : List (List Seen)) (old new : List Reader) (released text : List ℕ)
    → text ≡ text_with seen released → seen ≡ map (λ (r : Reader). r.seen.items) new
    → HaveSeen input.composites old new → asked_of old ≡ input.readers
    → released ≡ map (λ (parts : List (List ℕ)). length parts) input.composites → text ≡ text_of input
text_is input seen old new released text written told have asked all =
    let is : seen ≡ seen_in input = told ∙ have ∙ ap (map (map (seen_of input.composites))) asked in
    written ∙ (λ i. text_with (is i) (all i))

-- ---- The seats of a new pool.

fresh_seat : (pool : SharedPool) (lanes k : ℕ) (s : PoolSeat) → IsOpened (layout_of lanes) pool k s
    → IsFresh pool k s
fresh_seat pool lanes k s opened = record {
  works = opened_works pool (layout_of lanes) k SEAT_TURNS 0 s opened (omega arith) (omega arith);
  lane_is = record {
    number = opened.number;
    unposted = λ r. ap (sum_by (posts r)) opened.notes;
  };
  counted = λ r. (let z = fresh_counts (view_of s) r opened.notes opened.seat.alone in omega (arith, z));
}

pub opened_fresh : (pool : SharedPool) (lanes : ℕ) (mail : List ℕ) (seats : List PoolSeat)
    → AreOpened (layout_of lanes) mail pool seats → AreFresh pool 0 seats
opened_fresh pool lanes mail seats opened k s there =
    let lt : k < length seats = slice_get_within seats k s there in
    let same : get_or seats k s ≡ s = same_Some _ _ (sym (slice_get-get_or seats k s lt) ∙ there) in
    let one = opened.each k (let a = opened.many in omega (arith, a, lt)) s in
    subst (λ (n : ℕ). IsFresh pool n s) (sym (zero-add k))
    (fresh_seat pool lanes k s (subst (IsOpened (layout_of lanes) pool k) same one))

-- ---- The board of cores.

pub opened_board : {E : Type 0} (here pool : SharedPool) (composites : List (List (List ℕ))) (cores : List Core)
    (r : Result (Board × BoardSeat) E) → here ≡ pool → AreCoresOf pool composites cores
    → IfOk r (λ x. IsMadeOf x.0 here BOARD_TURNS cores) → IfOk r (λ x. IsBoardOf x.0 pool composites)
opened_board here pool composites cores (Ok x) same all_cores made =
    board_of x.0 pool composites cores all_cores
    (subst (λ (p : SharedPool). IsMadeOf x.0 p BOARD_TURNS cores) same made)
opened_board here pool composites cores (Err e) same all_cores made = tt

-- cores that come back have seats of the pool
pub cores_seats : (pool : SharedPool) (composites : List (List (List ℕ))) (cores back : List Core)
    → AreCoresOf pool composites cores → back ≡ cores → All (λ (c : Core). IsPoolSeat pool c.seat) back
cores_seats pool composites cores back all_cores same =
    subst (All (λ (c : Core). IsPoolSeat pool c.seat)) (sym same)
    (λ k d lt. (all_cores.each k (get_or cores k d) (slice_get-get_or cores k d lt)).0.core_is.fit.seat_is)

pub no_seats : (pool : SharedPool) (seats : List PoolSeat) → seats ≡ [] → All (IsPoolSeat pool) seats
no_seats pool seats none = subst (All (IsPoolSeat pool)) (sym none) (All-nil (IsPoolSeat pool))
