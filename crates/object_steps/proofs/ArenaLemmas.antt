-- An arena that gives a run.
use Rattle.std.proofs.Common.{◌≡◌, ℕ, zero, suc, ◌+◌, ◌-◌, ◌^◌, ◌<◌, ◌≤◌, List, [], ◌∷◌, ◌++◌, length, Option, Some, None, Bool, true, false, refl, sym, ap, subst, arith, eqb-true, eq-eqb, inl, inr, ◌∙◌}
use Rattle.std.specs.Prelude.{slice_get, slice_set, option_map, if◌then◌else◌, ◌==◌, nat_lt, nat_le}
use Rattle.std.proofs.lemmas.Bool.{le-leb, lt-leb}
use Rattle.size_classes.specs.Sizes.{Geometry, chunk_pages, page_class_under}
use Rattle.size_classes.specs.Pages.{Run, Free, Used, pages_in, Span, free_runs, chosen, replaced, run_at, taken_at, front_used, rest_of}
use Rattle.pool_law.specs.Chunks.{Chunk, Use, new_chunk}
use Rattle.pool_law.specs.ChunkLists.{walk}
use Rattle.pool_law.specs.Arenas.{Arena, chunk_at, with_run, opened, first_holding, first_unused, take_run, or_else}
use Rattle.pool_law.proofs.ListLemmas.{slice_get-set_same, slice_set-length}
use Rattle.object_steps.specs.Runs.{HasRoom, IsCapped}
use Rattle.object_steps.specs.Moves.{HasRoomAt, GivesYielded}

pub set_twice : {X : Type 0} (xs : List X) (i : ℕ) (x y : X) → slice_set (slice_set xs i x) i y ≡ slice_set xs i y
set_twice [] i x y = refl
set_twice (z ∷ xs) zero x y = refl
set_twice (z ∷ xs) (suc i) x y = ap (λ ys. z ∷ ys) (set_twice xs i x y)

-- a chunk that was taken from its place, and one that is put there
pub put-taken : (a b d : Arena) (c : ℕ) (x : Option Chunk) → b ≡ record a { chunks = slice_set a.chunks c None } →
    d ≡ record b { chunks = slice_set b.chunks c x } → d ≡ record a { chunks = slice_set a.chunks c x }
put-taken a b d c x took put =
    put
    ∙ (λ i. record (took i) { chunks = slice_set (took i).chunks c x })
    ∙ (λ i. record a { chunks = set_twice a.chunks c None x i })

-- a number that may be there, so much greater
abbrev pub moved_by : ℕ → Option ℕ → Option ℕ
moved_by n o = option_map (λ k. n + k) o

pub unused_behind : (n : ℕ) (o : Option ℕ) → moved_by n (option_map (λ k. suc k) o) ≡ moved_by (n + 1) o
unused_behind n None = refl
unused_behind n (Some k) = ap Some (omega arith)

-- ---- The first chunk that holds a run.

or_else-assoc : {X : Type 0} (x y z : Option X) → or_else x (or_else y z) ≡ or_else (or_else x y) z
or_else-assoc None y z = refl
or_else-assoc (Some x) y z = refl

pub holding_append : (g : Geometry) (a : Arena) (pages : ℕ) (cs ds : List ℕ) →
    first_holding g a pages (cs ++ ds) ≡ or_else (first_holding g a pages cs) (first_holding g a pages ds)
holding_append g a pages [] ds = refl
holding_append g a pages (c ∷ cs) ds =
    let here : Option (ℕ × ℕ) =
    option_map (λ (run : Span). (c, run.0)) (chosen g pages (free_runs 0 (chunk_at a c))) in
    ap (or_else here) (holding_append g a pages cs ds)
    ∙ or_else-assoc here (first_holding g a pages cs) (first_holding g a pages ds)

-- ---- A chunk that gave a run.

pub run_at-replaced : (at : ℕ) (by : Run Use → Chunk) (rs : Chunk) (r new : Run Use) (rest : Chunk) →
    run_at at rs ≡ Some r → by r ≡ new ∷ rest → run_at at (replaced at by rs) ≡ Some new
run_at-replaced at by [] r new rest found made = absurd (cc found)
run_at-replaced at by (x ∷ xs) r new rest found made =
    go (at == 0) (nat_lt at (pages_in x)) refl refl (λ h. run_at-replaced (at - pages_in x) by xs r new rest h made)
  where
    go : (b c : Bool) → (at == 0) ≡ b → nat_lt at (pages_in x) ≡ c →
        (run_at (at - pages_in x) xs ≡ Some r → run_at (at - pages_in x) (replaced (at - pages_in x) by xs) ≡ Some new)
        →
        run_at at (replaced at by (x ∷ xs)) ≡ Some new
    go true c here inside later =
        let zero_is : at ≡ 0 = eqb-true at 0 here in
        let first : x ≡ r = cc (rw here at found) in
        rw (zero_is, first, made) refl
    go false true here inside later = absurd (cc (rw (here, inside) at found))
    go false false here inside later = rw (here, here, inside) (later (rw (here, inside) at found))

pub chunk_at-set : (a b : Arena) (c : ℕ) (new : Chunk) → c < length a.chunks →
    b.chunks ≡ slice_set a.chunks c (Some new) → chunk_at b c ≡ new
chunk_at-set a b c new there e =
    let same : slice_get (slice_set a.chunks c (Some new)) c
    ≡ Some (Some new) = slice_get-set_same a.chunks c (Some new) there in
    rw (e, same) refl

pub run-begins : (g : Geometry) (a : Arena) (c at pages : ℕ) (what : Use) → HasRoomAt a c at pages →
    run_at at (chunk_at (with_run g a c at pages what) c) ≡ Some (Used pages what)
run-begins g a c at pages what h =
    let new : Chunk = taken_at at pages what (chunk_at a c) in
    let is : chunk_at (with_run g a c at pages what) c
    ≡ new = chunk_at-set a (with_run g a c at pages what) c new h.chunk refl in
    ap (run_at at) is
    ∙ run_at-replaced at (front_used pages what) (chunk_at a c) (Free h.room.free) (Used pages what)
    (rest_of (h.room.free - pages)) h.room.found refl

-- ---- A run that is taken.

pub capped-same : (wanted pages : ℕ) → IsCapped wanted pages → pages ≤ 2 ^ 16 → wanted ≡ pages
capped-same wanted pages (inl same) few = same
capped-same wanted pages (inr many) few = absurd (omega (arith, many.1, few))

pub capped-more : (wanted pages n : ℕ) → IsCapped wanted pages → n ≤ 2 ^ 16 → n < pages → n < wanted
capped-more wanted pages n (inl same) few more = omega (arith, same, more)
capped-more wanted pages n (inr many) few more = omega (arith, many.0, few)

pub room-same : (a : Arena) (c at wanted pages : ℕ) → HasRoomAt a c at pages → IsCapped wanted pages → wanted ≡ pages
room-same a c at wanted pages h capped = capped-same wanted pages capped (omega (arith, h.room.enough, h.room.few))

fresh-chosen : (g : Geometry) (wanted n : ℕ) →
    chosen g wanted ((0, n) ∷ []) ≡ (if nat_le wanted n then Some (0, n) else None)
fresh-chosen g wanted n = go (nat_le wanted n) refl
  where
    go : (b : Bool) → nat_le wanted n ≡ b →
        chosen g wanted ((0, n) ∷ []) ≡ (if nat_le wanted n then Some (0, n) else None)
    go true holds =
        let same : (page_class_under g n == page_class_under g n)
        ≡ true = eq-eqb (page_class_under g n) (page_class_under g n) refl in
        rw (holds, same) refl
    go false holds = rw holds refl

fresh-holding : (g : Geometry) (a : Arena) (c wanted : ℕ) → c < length a.chunks →
    first_holding g (opened g a c) wanted (c ∷ [])
    ≡ or_else
    (option_map (λ (run : Span). (c, run.0)) (if nat_le wanted (chunk_pages g) then Some (0, chunk_pages g) else None))
    None
fresh-holding g a c wanted there =
    let is : chunk_at (opened g a c) c ≡ new_chunk g = chunk_at-set a (opened g a c) c (new_chunk g) there refl in
    ap (λ chunk. or_else (option_map (λ (run : Span). (c, run.0)) (chosen g wanted (free_runs 0 chunk))) None) is
    ∙ ap (λ o. or_else (option_map (λ (run : Span). (c, run.0)) o) None) (fresh-chosen g wanted (chunk_pages g))

module _ (g : Geometry) (a : Arena) (wanted : ℕ) (what : Use) where
  pub gives-held : (spot : ℕ × ℕ) (pages : ℕ) (new : Arena) → first_holding g a wanted (walk a.lists) ≡ Some spot →
      wanted ≡ pages → new ≡ with_run g a spot.0 spot.1 pages what →
      GivesYielded (take_run g a wanted what) a new (Some spot)
  gives-held spot pages new held same made =
      rw held (refl, made ∙ ap (λ n. with_run g a spot.0 spot.1 n what) (sym same))

  pub gives-too_many : (c : ℕ) → first_holding g a wanted (walk a.lists) ≡ None → first_unused a.chunks ≡ Some c →
      c < length a.chunks → chunk_pages g < wanted → GivesYielded (take_run g a wanted what) a a None
  gives-too_many c held unused there more =
      let none : nat_le wanted (chunk_pages g) ≡ false = lt-leb wanted (chunk_pages g) more in
      rw (held, unused, fresh-holding g a c wanted there, none) (refl, refl)

  pub gives-opened : (c pages : ℕ) (new : Arena) → first_holding g a wanted (walk a.lists) ≡ None →
      first_unused a.chunks ≡ Some c → c < length a.chunks → wanted ≡ pages → pages ≤ chunk_pages g →
      new ≡ with_run g (opened g a c) c 0 pages what → GivesYielded (take_run g a wanted what) a new (Some (c, 0))
  gives-opened c pages new held unused there same few made =
      let some : nat_le wanted (chunk_pages g) ≡ true = le-leb wanted (chunk_pages g) (omega (arith, same, few)) in
      rw (held, unused, fresh-holding g a c wanted there, some)
      (refl, made ∙ ap (λ n. with_run g (opened g a c) c 0 n what) (sym same))

pub opened-room : (g : Geometry) (a : Arena) (c pages : ℕ) → c < length a.chunks → 0 < pages → pages ≤ chunk_pages g →
    chunk_pages g ≤ 2 ^ 11 → HasRoomAt (opened g a c) c 0 pages
opened-room g a c pages there some few within =
    let is : chunk_at (opened g a c) c ≡ new_chunk g = chunk_at-set a (opened g a c) c (new_chunk g) there refl in
    let room : HasRoom 0 pages (new_chunk g) = record {
      free = chunk_pages g;
      few = omega (arith, within);
      begins = inl (refl, refl);
      found = refl;
      enough = few;
      some = some;
    } in
    record {
      room = subst (HasRoom 0 pages) (sym is) room;
      chunk = rw (slice_set-length a.chunks c (Some (new_chunk g))) there;
    }
