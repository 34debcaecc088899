-- How the parts of a composite come into the pool.
use Rattle.std.proofs.Common.{◌≡◌, ℕ, zero, suc, ◌+◌, ◌*◌, ◌<◌, ◌≤◌, true, List, [], ◌∷◌, ◌++◌, length, map, take, get_or, refl, sym, ap, ◌∙◌, arith}
use Rattle.std.specs.Prelude.{All, sum_by}
use Rattle.std.specs.List.{list_all}
use Rattle.std.proofs.lemmas.List.{map-append, take_more, take_all}
use Rattle.std.proofs.lemmas.List.Elements.{All-nil, All-push}
use Rattle.std.proofs.lemmas.List.Sums.{sum_by-append, sum_by-cons, sum-map}
use Rattle.std.proofs.lemmas.Bool.{and_parts}
use Rattle.pool_law.specs.declared.id.Part.{Part}
use Rattle.pool_law.specs.declared.id.RootId.{RootId}
use Rattle.pool_law.specs.declared.note.Did.TheVariants.{Set}
use Rattle.pool_law.specs.declared.note.Noted.{Noted}
use Rattle.pool_law.specs.declared.note.Object.{Object}
use Rattle.pool_law.specs.declared.note.Object.TheVariants.{Root}
use Rattle.pool_law.specs.Composites.{size_of}
use Rattle.pool_law.specs.Naming.{noted_by}
use Rattle.history_laws.specs.NoteCounts.{did_post_of}
use Rattle.pool_table.specs.declared.views.Entry.{Entry}
use Rattle.pool_table.specs.declared.views.Entry.TheVariants.{At, Ref, Busy}
use Rattle.pool_table.specs.Counts.{posts}
use Rattle.shared_pool.specs.declared.pool.SharedPool.{SharedPool}
use Rattle.shared_pool.specs.declared.seat.PoolSeat.{PoolSeat}
use Rattle.shared_pool.specs.RootNotes.{access}
use Rattle.shared_pool.specs.Seats.{IsNoted}
use Rattle.pool_table.specs.Capacities.{knows_of}
use Rattle.shared_pool.specs.SeatViews.{view_of}
use Rattle.seat_work.specs.Changes.{one_for, times, no_change, once_more}
use Rattle.seat_work.specs.Growth.{is_quiet_entry}
use Rattle.seat_work.specs.Hands.{empty_hand}
use Rattle.seat_work.specs.Works.{IsLater, Proceeds}
use Rattle.seat_work.proofs.Knowing.{knows_born, knows_on}
use Rattle.shared_composite.proofs.KnownParts.{known_on}
use Rattle.seat_work.proofs.FirstSeats.{has_nothing}
use Rattle.seat_work.proofs.Proceeding.{changes_then}
use Rattle.seat_work.proofs.Later.{quiet_note_posts}
use Rattle.shared_composite.specs.Cores.{IsKnown, roots_of}
use Rattle.share_text.specs.Inputs.{byte_limit}
use Rattle.share_run.specs.Standing.{posted, HasPlaced, IsFilling, IsFilled, IsFresh}

-- an item is the same, whatever stands for none
pub get_same : {X : Type 0} (xs : List X) (i : ℕ) (d e : X) → i < length xs → get_or xs i d ≡ get_or xs i e
get_same [] i d e lt = absurd (omega (arith, lt))
get_same (x ∷ xs) zero d e lt = refl
get_same (x ∷ xs) (suc i) d e lt = get_same xs i d e (omega (arith, lt))

-- ---- What is posted.

quiet_entry : (r : RootId) (e : Entry) → is_quiet_entry e ≡ true → posts r e ≡ 0
quiet_entry r (At o k n) e = quiet_note_posts r n.did e
quiet_entry r (Ref q d) e = refl
quiet_entry r (Busy b) e = refl

-- what is quiet posts nothing
pub quiet_posts : (r : RootId) (es : List Entry) → list_all is_quiet_entry es ≡ true → sum_by (posts r) es ≡ 0
quiet_posts r [] e = refl
quiet_posts r (x ∷ es) e =
    let both = and_parts (is_quiet_entry x) (list_all is_quiet_entry es) e in
    let a = sum_by-cons (posts r) x es in let b = quiet_entry r x both.0 in let c = quiet_posts r es both.1 in
    omega (arith, a, b, c)

-- so does a seat with such entries more
pub posted_more : (r : RootId) (old new : PoolSeat) (added : List Entry)
    → (view_of new).own.notes ≡ (view_of old).own.notes ++ added → sum_by (posts r) added ≡ 0
    → posted r new ≡ posted r old
posted_more r old new added is none =
    let a = ap (λ (es : List Entry). sum_by (posts r) es) is in
    let b = sum_by-append (posts r) (view_of old).own.notes added in
    omega (arith, a, b, none)

pub posted_noted : (pool : SharedPool) (r : RootId) (old new : PoolSeat) (o : Object) (number : ℕ) (n : Noted)
    → IsNoted pool old new o number n → did_post_of r n.did ≡ 0 → posted r new ≡ posted r old
posted_noted pool r old new o number n noted none =
    let e : Entry = At o number (noted_by (view_of old).own.number n) in
    let is : (view_of new).own.notes ≡ (view_of old).own.notes ++ e ∷ [] = ap (λ m. m.0.own.notes) noted.seat in
    let a = sum_by-cons (posts r) e [] in
    posted_more r old new (e ∷ []) is (omega (arith, a, none))

-- ---- One part.

pub has_placed : (pool : SharedPool) (old mid new : PoolSeat) (bytes : List ℕ) (root : RootId) (size number : ℕ)
    → size ≡ length bytes → root.capacity ≡ size
    → Proceeds pool empty_hand 6 0 (once_more root) old mid → IsLater pool old mid
    → Proceeds pool empty_hand 1 0 no_change mid new
    → IsNoted pool mid new (Root root.place) number (access root (Set 0 bytes))
    → HasPlaced pool bytes (record { root = root; offset = 0; len = size }) old new
has_placed pool old mid new bytes root size number size_is capacity first later second noted = record {
  goes = record {
    seat = second.goes.seat;
    held = second.goes.held;
    paid = second.goes.paid;
    turns_left = (let a = first.goes.turns_left in let b = second.goes.turns_left in omega (arith, a, b));
    moves_left = (let a = first.goes.moves_left in let b = second.goes.moves_left in omega (arith, a, b));
    number = second.goes.number ∙ first.goes.number;
    knows = knows_on (view_of old) (view_of mid) (view_of new) first.goes.knows second.goes.knows;
  };
  changes = changes_then (once_more root) (view_of old) (view_of mid) (view_of new) first.changes second.changes;
  posts = λ r.
      posted_noted pool r mid new (Root root.place) number (access root (Set 0 bytes)) noted refl
      ∙ posted_more r old mid later.added later.grown.notes (quiet_posts r later.added later.quiet);
  part_is = λ i. record { root = root; offset = 0; len = sym capacity i };
  len = capacity ∙ size_is;
}

-- ---- All parts.

module _ (pool : SharedPool) (lane : ℕ) (inputs : List (List ℕ)) where
  pub filling_first : (s : PoolSeat) → length inputs ≤ 24 → IsFresh pool lane s → IsFilling pool lane inputs 0 [] s
  filling_first s few fresh = record {
    works = record {
      seat = fresh.works.seat;
      held = fresh.works.held;
      paid = fresh.works.paid;
      turns_left = (let a = fresh.works.turns_left in omega (arith, a, few));
      moves_left = fresh.works.moves_left;
    };
    lane_is = fresh.lane_is;
    counted = fresh.counted;
    known = All-nil (IsKnown (view_of s));
    short = All-nil (λ (p : Part). p.offset + p.len ≤ byte_limit);
    lens = refl;
  }

  pub filling_more : (at : ℕ) (placed : List Part) (s t : PoolSeat) (p : Part) (bytes : List ℕ)
      → at < length inputs → bytes ≡ get_or inputs at [] → length bytes ≤ byte_limit
      → IsFilling pool lane inputs at placed s → HasPlaced pool bytes p s t
      → IsFilling pool lane inputs (at + 1) (placed ++ p ∷ []) t
  filling_more at placed s t p bytes lt bytes_are short was put =
      let len : p.len ≡ length bytes = ap (λ (x : Part). x.len) put.part_is ∙ put.len in
      let offset : p.offset ≡ 0 = ap (λ (x : Part). x.offset) put.part_is in
      record {
        works = record {
          seat = put.goes.seat;
          held = put.goes.held;
          paid = put.goes.paid;
          turns_left =
              (let a = was.works.turns_left in let b = put.goes.turns_left in omega (arith, a, b, lt));
          moves_left = omega arith;
        };
        lane_is = record {
          number = put.goes.number ∙ was.lane_is.number;
          unposted = λ r. put.posts r ∙ was.lane_is.unposted r;
        };
        counted = λ root.
            (let a = put.changes.counts root in let b = was.counted root in
            let c = ap (times root) (map-append (λ (x : Part). x.root) placed (p ∷ [])) in
            let d = sum_by-append (λ (r : RootId). one_for r root) (roots_of placed) (p.root ∷ []) in
            omega (arith, a, b, c, d));
        known =
            All-push (IsKnown (view_of t)) placed p
            (known_on (view_of s) (view_of t) placed put.goes.knows was.known)
            (let a = put.len in let b = knows_born (view_of t) p.root in
            let n : ℕ = knows_of p.root (view_of t) in let b' : p.root.capacity ≤ n = b in
            let g : p.offset + p.len ≤ n = omega (arith, a, len, offset, b') in g);
        short =
            All-push (λ (x : Part). x.offset + x.len ≤ byte_limit) placed p was.short
            (omega (arith, len, offset, short));
        lens =
            map-append (λ (x : Part). x.len) placed (p ∷ [])
            ∙ (λ i. was.lens i ++ (len ∙ ap (λ (xs : List ℕ). length xs) bytes_are) i ∷ [])
            ∙ sym (map-append (λ (xs : List ℕ). length xs) (take at inputs) (get_or inputs at [] ∷ []))
            ∙ ap (map (λ (xs : List ℕ). length xs)) (sym (take_more inputs at [] lt));
      }

  pub filled : (placed : List Part) (s : PoolSeat) → IsFilling pool lane inputs (length inputs) placed s
      → IsFilled pool lane inputs placed s
  filled placed s was = record {
    fit = record {
      seat_is = was.works.seat;
      nothing = has_nothing (view_of s) was.works.held;
      counted = was.counted;
      known = was.known;
    };
    lane_is = was.lane_is;
    lens =
        was.lens ∙ ap (map (λ (xs : List ℕ). length xs)) (take_all (length inputs) inputs (omega arith));
    turns = (let a = was.works.turns_left in omega (arith, a));
  }

-- ---- What a composite asks of its parts.

pub size_least : (parts : List Part) → All (λ p. p.offset + p.len ≤ byte_limit) parts
    → size_of parts ≤ byte_limit * length parts
size_least parts short =
    let a = sum-map (λ (p : Part). p.len) parts in let b = go parts short in omega (arith, a, b)
  where
    go : (ps : List Part) → All (λ p. p.offset + p.len ≤ byte_limit) ps
        → sum_by (λ (p : Part). p.len) ps ≤ byte_limit * length ps
    go [] s = omega arith
    go (p ∷ ps) s =
        let a = sum_by-cons (λ (x : Part). x.len) p ps in let b = go ps (λ k d lt. s (suc k) d (omega (arith, lt))) in
        let c = s 0 p (omega arith) in omega (arith, a, b, c)
