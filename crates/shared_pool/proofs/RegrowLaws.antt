-- What an ask for capacity and a growth make of a root place, in the law's words.
use Rattle.std.proofs.Common.{◌≡◌, ℕ, ◌+◌, ◌-◌, ◌<◌, ◌≤◌, Bool, true, false, List, ◌++◌, length, take, drop, replicate, refl, sym, ap, ◌∙◌, arith, append_assoc, length-append, eq-eqb}
use Rattle.std.specs.Prelude.{Option, Some, None, option_map, nat_le, nat_lt, ◌==◌, ◌&&◌, ◌||◌, if◌then◌else◌}
use Rattle.std.proofs.lemmas.List.{length-take-le, length-drop, length-replicate, take_at}
use Rattle.std.proofs.lemmas.Bool.{leb-true, leb-false, le-leb, lt-ltb}
use Rattle.pool_law.specs.declared.id.Region.{Region}
use Rattle.pool_law.specs.declared.note.Did.{Did}
use Rattle.pool_law.specs.Roots.{Present, laid_over, zeros_to, with_bytes, place_step, place_step_by}
use Rattle.shared_pool.specs.RootPlaces.{RootState, PlaceState, law_root, law_place}
use Rattle.shared_pool.specs.PlaceSteps.{used}
use Rattle.shared_pool.specs.Regrowing.{room_in, room_did, zeroed, after_room, carried_over, moved}
use Rattle.shared_pool.specs.declared.went.Room.TheVariants.{Enough, Extended, Short}

-- zeros behind the first of some bytes
pub zeros_behind : (xs : List ℕ) (a c : ℕ) → a ≤ c → c ≤ length xs
    → take c (zeroed a c xs) ≡ zeros_to c (take a xs)
zeros_behind xs a c low high =
    let zs : List ℕ = replicate (c - a) 0 in let front : List ℕ = take a xs in
    let rest : List ℕ = drop (a + length zs) xs in
    let many : length front ≡ a = length-take-le a xs (omega (arith, low, high)) in
    let more : length zs ≡ c - a = length-replicate {A = ℕ} (c - a) 0 in
    let all : length (front ++ zs) ≡ c = (let p = length-append front zs in omega (arith, p, many, more, low)) in
    ap (take c) (sym (append_assoc front zs rest)) ∙ take_at (front ++ zs) rest c all
    ∙ ap (λ (k : ℕ). front ++ replicate (c - k) 0) (sym many)

-- bytes that are laid over the first of others
pub laid_first : (front ys : List ℕ) → take (length front) (laid_over ys 0 front) ≡ front
laid_first front ys = take_at front (drop (0 + length front) ys) (length front) refl

pub laid_first-length : (front ys : List ℕ) → length front ≤ length ys → length (laid_over ys 0 front) ≡ length ys
laid_first-length front ys le =
    let p = length-append front (drop (0 + length front) ys) in let q = length-drop (0 + length front) ys in
    omega (arith, p, q, le)

-- zeros that are laid leave as many bytes
pub zeroed-length : (xs : List ℕ) (a c : ℕ) → a ≤ c → c ≤ length xs → length (zeroed a c xs) ≡ length xs
zeroed-length xs a c low high =
    let zs : List ℕ = replicate (c - a) 0 in let front : List ℕ = take a xs in
    let rest : List ℕ = drop (a + length zs) xs in
    let many : length front ≡ a = length-take-le a xs (omega (arith, low, high)) in
    let more : length zs ≡ c - a = length-replicate {A = ℕ} (c - a) 0 in
    let all = length-append front (zs ++ rest) in let behind = length-append zs rest in
    let left = length-drop (a + length zs) xs in
    omega (arith, all, behind, left, many, more, low, high)

-- and so do the bytes of a root in another region
pub carried-length : (asked : ℕ) (r : RootState) (bytes : List ℕ) → r.capacity ≤ length r.piece.bytes
    → r.capacity ≤ asked → asked ≤ length bytes → length (carried_over asked r bytes) ≡ length bytes
carried-length asked r bytes fits low long =
    let front : List ℕ = take r.capacity r.piece.bytes in
    let many : length front ≡ r.capacity = length-take-le r.capacity r.piece.bytes fits in
    let wide : length (laid_over bytes 0 front) ≡ length bytes =
    laid_first-length front bytes (omega (arith, many, low, long)) in
    zeroed-length (laid_over bytes 0 front) r.capacity asked low (omega (arith, wide, long)) ∙ wide

-- what a root answers whose region is too short
pub outgrown : (asked : ℕ) (r : RootState) → room_in asked r ≡ Short r.capacity → r.region.place.len < asked
outgrown asked r short = by (nat_le asked r.capacity) (nat_le asked r.region.place.len) refl short
  where
    by : (a b : Bool) → nat_le asked r.region.place.len ≡ b
        → (if a then Enough r.capacity else (if b then Extended else Short r.capacity)) ≡ Short r.capacity
        → r.region.place.len < asked
    by true b long e = absurd (cc e)
    by false true long e = absurd (cc e)
    by false false long e = leb-false asked r.region.place.len long

-- and of one that has as much
pub enough : (asked : ℕ) (r : RootState) (capacity : ℕ) → room_in asked r ≡ Enough capacity → asked ≤ capacity
enough asked r capacity is = by (nat_le asked r.capacity) (nat_le asked r.region.place.len) refl is
  where
    by : (a b : Bool) → nat_le asked r.capacity ≡ a
        → (if a then Enough r.capacity else (if b then Extended else Short r.capacity)) ≡ Enough capacity
        → asked ≤ capacity
    by true b low e =
        let same : r.capacity ≡ capacity = cc e in let le = leb-true asked r.capacity low in omega (arith, same, le)
    by false true low e = absurd (cc e)
    by false false low e = absurd (cc e)

module _ (old : PlaceState) (r : RootState) (was : old.present ≡ Some r) (fits : r.capacity ≤ length r.piece.bytes)
    (size : length r.piece.bytes ≡ r.region.place.len) where
  at_root : (place : ℕ) (did : Did) → place_step place (law_place old) did
      ≡ place_step_by place (law_place old) (Some (law_root r)) did
  at_root place did =
      ap (λ (o : Option RootState). place_step_by place (law_place old) (option_map law_root o) did) was

  many : length (law_root r).bytes ≡ r.capacity
  many = length-take-le r.capacity r.piece.bytes fits

  same_place : law_place (record old { present = Some r }) ≡ law_place old
  same_place = λ i. record { generation = old.generation; present = option_map law_root (sym was i) }

  abbrev Step : Did → RootState → Type 0
  Step did s = (place : ℕ) → place_step place (law_place old) did ≡ Some (law_place (record old { present = Some s }))

  either : (a b c : Bool) → a ≡ true → b ≡ true → (a && (b || c)) ≡ true
  either true true c x y = refl
  either true false c x y = absurd (cc y)
  either false b c x y = absurd (cc x)

  other : (a b c : Bool) → a ≡ true → c ≡ true → (a && (b || c)) ≡ true
  other true true c x y = refl
  other true false c x y = y
  other false b c x y = absurd (cc x)

  both : (a b : Bool) → a ≡ true → b ≡ true → (a && b) ≡ true
  both true b x y = y
  both false b x y = absurd (cc x)

  stays : (asked : ℕ)
      → ((r.capacity == length (law_root r).bytes) && (nat_le asked r.capacity || nat_lt r.region.place.len asked))
      ≡ true
      → Step (Did.Room asked r.capacity) r
  stays asked test place =
      at_root place (Did.Room asked r.capacity)
      ∙ ap (λ (b : Bool). if b then Some (law_place old) else None) test ∙ ap Some (sym same_place)

  -- the ask, by its answer
  pub asks : (asked : ℕ) → Step (room_did asked (room_in asked r)) (after_room asked r (room_in asked r))
  asks asked = by (nat_le asked r.capacity) (nat_le asked r.region.place.len) refl refl
    where
      here : (r.capacity == length (law_root r).bytes) ≡ true
      here = eq-eqb r.capacity (length (law_root r).bytes) (sym many)

      by : (a b : Bool) → nat_le asked r.capacity ≡ a → nat_le asked r.region.place.len ≡ b
          → Step (room_did asked (if a then Enough r.capacity else (if b then Extended else Short r.capacity)))
          (after_room asked r (if a then Enough r.capacity else (if b then Extended else Short r.capacity)))
      by true b low long place =
          stays asked (either (r.capacity == length (law_root r).bytes) (nat_le asked r.capacity)
          (nat_lt r.region.place.len asked) here low) place
      by false true low long place =
          let within = leb-true asked r.region.place.len long in
          let above = leb-false asked r.capacity low in
          let less : nat_lt (length (law_root r).bytes) asked
          ≡ true = lt-ltb (length (law_root r).bytes) asked (omega (arith, many, above)) in
          let q : Present = law_root r in
          at_root place (Did.Extend asked)
          ∙ ap (λ (b : Bool). if b then Some (with_bytes (law_place old) q (zeros_to asked q.bytes)) else None)
          (both (nat_lt (length q.bytes) asked) (nat_le asked r.region.place.len) less long)
          ∙ (λ i. Some (record {
            generation = old.generation;
            present =
                Some (record {
                  root = r.root;
                  region = r.region;
                  bytes =
                      sym (zeros_behind r.piece.bytes r.capacity asked (omega (arith, above))
                      (omega (arith, within, size)))
                      i;
                });
          }))
      by false false low long place =
          stays asked (other (r.capacity == length (law_root r).bytes) (nat_le asked r.capacity)
          (nat_lt r.region.place.len asked) here
          (lt-ltb r.region.place.len asked (leb-false asked r.region.place.len long))) place

  -- the growth into a region that holds so much, where its own doesn't
  pub grows : (asked : ℕ) (into : Region) → room_in asked r ≡ Short r.capacity → asked ≤ into.id.place.len
      → length into.piece.bytes ≡ into.id.place.len → Step (Did.Grow asked (used into.id)) (moved asked r into)
  grows asked into short long whole place =
      let q : Present = law_root r in let front : List ℕ = take r.capacity r.piece.bytes in
      let past = outgrown asked r short in
      let less : nat_lt r.region.place.len asked ≡ true = lt-ltb r.region.place.len asked past in
      let held : nat_le asked into.id.place.len ≡ true = le-leb asked into.id.place.len long in
      let same : length front ≡ r.capacity = many in
      let room : length front ≤ length into.piece.bytes = omega (arith, same, fits, size, past, long, whole) in
      let laid : List ℕ = laid_over into.piece.bytes 0 front in
      let wide : length laid ≡ length into.piece.bytes = laid_first-length front into.piece.bytes room in
      let first : take r.capacity laid ≡ front = ap (λ (k : ℕ). take k laid) (sym same)
      ∙ laid_first front into.piece.bytes in
      at_root place (Did.Grow asked (used into.id))
      ∙ ap (λ (b : Bool). if b
      then Some (with_bytes (law_place old) (record q { region = used into.id }) (zeros_to asked q.bytes))
      else None) (both (nat_lt r.region.place.len asked) (nat_le asked into.id.place.len) less held)
      ∙ (λ i. Some (record {
        generation = old.generation;
        present =
            Some (record {
              root = r.root;
              region = used into.id;
              bytes =
                  sym (zeros_behind laid r.capacity asked (omega (arith, fits, size, past))
                  (omega (arith, wide, long, whole)) ∙ ap (zeros_to asked) first) i;
            });
      }))
