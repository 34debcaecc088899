-- What the calls on a root place make of it, in the law's words.
use Rattle.std.proofs.Common.{◌≡◌, ℕ, ◌+◌, ◌-◌, ◌≤◌, Bool, true, List, [], ◌∷◌, ◌++◌, length, take, drop, refl, sym, ap, ◌∙◌, subst, arith, append_assoc, length-append, eq-eqb}
use Rattle.std.specs.Prelude.{Option, Some, None, option_map, unwrap_or, nat_le, ◌&&◌, if◌then◌else◌}
use Rattle.std.proofs.lemmas.List.{take-append-le, drop-append-le, take-append-drop, length-take-le, length-drop, take_at}
use Rattle.std.proofs.lemmas.Bool.{le-leb}
use Rattle.pool_law.specs.declared.note.Did.{Did}
use Rattle.pool_law.specs.declared.report.Access.{Access}
use Rattle.pool_law.specs.Same.{same_bytes}
use Rattle.pool_law.specs.Roots.{Present, laid_over, bytes_at, place_step, place_step_by}
use Rattle.pool_law.proofs.PatternLemmas.{same_root-refl}
use Rattle.shared_pool.specs.RootPlaces.{RootState, PlaceState, law_root, law_place}
use Rattle.shared_pool.specs.PlaceViews.{root_seen, state_in}
use Rattle.shared_pool.specs.declared.root_place.Held.{Held}
use Rattle.shared_pool.specs.declared.root_place.RootPlace.TheInside.{Inside}
use Rattle.shared_pool.specs.PlaceSteps.{MayAccess, Accesses, AreThere, accessed, shown, vacated}
use Rattle.pool_table.proofs.GiftSteps.{laid-length}

-- bytes that are laid over the first of a list leave the others
pub laid-front : (xs ys : List ℕ) (a c : ℕ) → a + length ys ≤ c → c ≤ length xs
    → take c (laid_over xs a ys) ≡ laid_over (take c xs) a ys
laid-front xs ys a c within fits =
    let front : List ℕ = take c xs in let rest : List ℕ = drop c xs in
    let many : length front ≡ c = length-take-le c xs fits in
    let taken : take a (front ++ rest) ≡ take a front = take-append-le a front rest (omega (arith, many, within)) in
    let dropped : drop (a + length ys) (front ++ rest)
    ≡ drop (a + length ys) front ++ rest =
    drop-append-le (a + length ys) front rest (omega (arith, many, within)) in
    let whole : laid_over (front ++ rest) a ys ≡ laid_over front a ys ++ rest =
    (λ i. taken i ++ (ys ++ dropped i))
    ∙ ap (λ (zs : List ℕ). take a front ++ zs) (sym (append_assoc ys (drop (a + length ys) front) rest))
    ∙ sym (append_assoc (take a front) (ys ++ drop (a + length ys) front) rest) in
    let before : length (take a front) ≡ a = length-take-le a front (omega (arith, many, within)) in
    let behind : length (drop (a + length ys) front)
    ≡ length front - (a + length ys) = length-drop (a + length ys) front in
    let size : length (laid_over front a ys) ≡ c =
    (let p = length-append (take a front) (ys ++ drop (a + length ys) front) in let q =
    length-append ys (drop (a + length ys) front) in omega (arith, p, q, before, behind, many, within)) in
    ap (λ (zs : List ℕ). take c (laid_over zs a ys)) (sym (take-append-drop c xs)) ∙ ap (take c) whole
    ∙ take_at (laid_over front a ys) rest c size

-- bytes within the first of a list are there
pub there-front : (xs : List ℕ) (a n c : ℕ) → a + n ≤ c → c ≤ length xs → bytes_at xs a n ≡ bytes_at (take c xs) a n
there-front xs a n c within fits =
    let front : List ℕ = take c xs in let rest : List ℕ = drop c xs in
    let many : length front ≡ c = length-take-le c xs fits in
    let behind : length (drop a front) ≡ length front - a = length-drop a front in
    ap (λ (zs : List ℕ). bytes_at zs a n) (sym (take-append-drop c xs))
    ∙ ap (take n) (drop-append-le a front rest (omega (arith, many, within)))
    ∙ take-append-le n (drop a front) rest (omega (arith, behind, many, within))

pub there-length : (xs : List ℕ) (a n : ℕ) → a + n ≤ length xs → length (bytes_at xs a n) ≡ n
there-length xs a n within =
    let behind : length (drop a xs) ≡ length xs - a = length-drop a xs in
    length-take-le n (drop a xs) (omega (arith, behind, within))

pub same_bytes-refl : (xs : List ℕ) → same_bytes xs xs ≡ true
same_bytes-refl [] = refl
same_bytes-refl (x ∷ xs) = λ i. eq-eqb x x refl i && same_bytes-refl xs i

module _ (old : PlaceState) (r : RootState) (was : old.present ≡ Some r) (fits : r.capacity ≤ length r.piece.bytes)
  where
    -- a note at a place where a root is present
    at_root : (place : ℕ) (did : Did) → place_step place (law_place old) did
        ≡ place_step_by place (law_place old) (Some (law_root r)) did
    at_root place did =
        ap (λ (o : Option RootState). place_step_by place (law_place old) (option_map law_root o) did) was

    many : length (law_root r).bytes ≡ r.capacity
    many = length-take-le r.capacity r.piece.bytes fits

    -- nothing else changes where the bytes are the same
    same_place : (access : Access) → law_place (record old { present = Some (accessed r r.piece.bytes access) })
        ≡ law_place old
    same_place access = λ i. record { generation = old.generation; present = option_map law_root (sym was i) }

    pub touches : (lane : ℕ) → Accesses old Did.Touch (Access.Touch lane)
        (record old { present = Some (accessed r r.piece.bytes (Access.Touch lane)) })
    touches lane =
        record {
          root = r;
          bytes = r.piece.bytes;
          was = was;
          is = refl;
          size = refl;
          step = λ place. at_root place Did.Touch ∙ ap Some (sym (same_place (Access.Touch lane)));
        }

    pub sets : (lane offset : ℕ) (ys : List ℕ) → offset + length ys ≤ r.capacity →
        Accesses old (Did.Set offset ys) (Access.Set lane offset (length ys))
        (record old {
          present = Some (accessed r (laid_over r.piece.bytes offset ys)
              (Access.Set lane offset (length ys)));
        })
    sets lane offset ys within =
        let laid : List ℕ = laid_over r.piece.bytes offset ys in
        let room : nat_le (offset + length ys) (length (law_root r).bytes)
        ≡ true = le-leb (offset + length ys) (length (law_root r).bytes) (omega (arith, many, within)) in
        let law : Present =
        record { root = r.root; region = r.region; bytes = laid_over (law_root r).bytes offset ys } in
        record {
          root = r;
          bytes = laid;
          was = was;
          is = refl;
          size = laid-length r.piece.bytes ys offset (omega (arith, within, fits));
          step = λ place. at_root place (Did.Set offset ys)
              ∙ ap (λ (b : Bool). if b then Some (record { generation = old.generation; present = Some law }) else None)
              room
              ∙ (λ i. Some (record {
                generation = old.generation;
                present =
                    Some (record {
                      root = r.root;
                      region = r.region;
                      bytes =
                          sym (laid-front r.piece.bytes ys offset r.capacity within fits) i;
                    });
              }));
        }

    pub gets : (lane offset n : ℕ) (ys : List ℕ) → offset + n ≤ r.capacity → ys ≡ bytes_at r.piece.bytes offset n →
        Accesses old (Did.Get offset ys) (Access.Get lane offset (length ys))
        (record old { present = Some (accessed r r.piece.bytes (Access.Get lane offset (length ys))) })
    gets lane offset n ys within is =
        let size : length ys ≡ n = ap length is ∙ there-length r.piece.bytes offset n (omega (arith, within, fits)) in
        let room : nat_le (offset + length ys) (length (law_root r).bytes)
        ≡ true = le-leb (offset + length ys) (length (law_root r).bytes) (omega (arith, many, within, size)) in
        let there : ys ≡ bytes_at (law_root r).bytes offset (length ys) = is
        ∙ there-front r.piece.bytes offset n r.capacity within fits
        ∙ ap (bytes_at (law_root r).bytes offset) (sym size) in
        let same : same_bytes ys (bytes_at (law_root r).bytes offset (length ys)) ≡ true =
        ap (same_bytes ys) (sym there)
        ∙ same_bytes-refl ys in
        record {
          root = r;
          bytes = r.piece.bytes;
          was = was;
          is = refl;
          size = refl;
          step = λ place. at_root place (Did.Get offset ys)
              ∙ (λ i. if room i && same i then Some (law_place old) else None)
              ∙ ap Some (sym (same_place (Access.Get lane offset (length ys))));
        }

    -- so many bytes from an offset on are those that a get has
    pub there : (offset n : ℕ) → offset + n ≤ r.capacity → AreThere offset (bytes_at (shown old) offset n) old
    there offset n within =
        let ys : List ℕ = bytes_at (shown old) offset n in
        let all : Option RootState → List ℕ = λ o. unwrap_or (option_map (λ (q : RootState). q.piece.bytes) o) [] in
        let is : ys ≡ bytes_at r.piece.bytes offset n = ap (λ (o : Option RootState). bytes_at (all o) offset n) was in
        λ place. (gets 0 offset n ys within is).step place ∙ ap Some (same_place (Access.Get 0 offset (length ys)))

    pub ends : (place : ℕ) → place_step place (law_place old) (Did.End r.root) ≡ Some (law_place (vacated old))
    ends place =
        at_root place (Did.End r.root) ∙ (λ i. if same_root-refl r.root i then Some (law_place (vacated old)) else None)

-- the same, of the fields of a place at which a root is
module _ (i : Inside) (h k : Held) (old : PlaceState) (view : state_in i ≡ old) (here : i.present ≡ Some h) where
  abbrev r : RootState
  r = root_seen i.last h

  was : old.present ≡ Some r
  was = ap (λ (y : PlaceState). y.present) (sym view) ∙ ap (option_map (root_seen i.last)) here

  present_is : (offset n : ℕ) (may : MayAccess offset n old) → may.root ≡ r
  present_is offset n may = let e : Some may.root ≡ Some r = sym may.present ∙ was in cc e

  pub fits_in : (offset n : ℕ) → MayAccess offset n old → i.last.capacity ≤ length h.piece.bytes
  fits_in offset n may =
      subst (λ (q : RootState). q.capacity ≤ length q.piece.bytes) (present_is offset n may) may.fits

  pub range_in : (offset n : ℕ) → MayAccess offset n old → offset + n ≤ i.last.capacity
  range_in offset n may = subst (λ (q : RootState). offset + n ≤ q.capacity) (present_is offset n may) may.range

  made : (did : Did) (access : Access) (bytes : List ℕ) → root_seen i.last k ≡ accessed r bytes access
      → Accesses old did access (record old { present = Some (accessed r bytes access) }) →
      Accesses old did access (state_in (record i { present = Some k }))
  made did access bytes same a =
      subst (Accesses old did access)
      (λ t. record { generation = ap (λ (y : PlaceState). y.generation) (sym view) t; present = Some (sym same t) })
      a

  pub touched : (lane : ℕ) → MayAccess 0 0 old → root_seen i.last k ≡ accessed r h.piece.bytes (Access.Touch lane)
      → Accesses old Did.Touch (Access.Touch lane) (state_in (record i { present = Some k }))
  touched lane may same =
      made Did.Touch (Access.Touch lane) h.piece.bytes same (touches old r was (fits_in 0 0 may) lane)

  pub is_set : (lane offset : ℕ) (ys : List ℕ) → MayAccess offset (length ys) old
      → root_seen i.last k ≡ accessed r (laid_over h.piece.bytes offset ys) (Access.Set lane offset (length ys)) →
      Accesses old (Did.Set offset ys) (Access.Set lane offset (length ys)) (state_in (record i { present = Some k }))
  is_set lane offset ys may same =
      made (Did.Set offset ys) (Access.Set lane offset (length ys)) (laid_over h.piece.bytes offset ys) same
      (sets old r was (fits_in offset (length ys) may) lane offset ys (range_in offset (length ys) may))

  pub is_got : (lane offset n : ℕ) (ys : List ℕ) → MayAccess offset n old → ys ≡ bytes_at h.piece.bytes offset n
      → root_seen i.last k ≡ accessed r h.piece.bytes (Access.Get lane offset (length ys)) →
      Accesses old (Did.Get offset ys) (Access.Get lane offset (length ys)) (state_in (record i { present = Some k }))
  is_got lane offset n ys may is same =
      made (Did.Get offset ys) (Access.Get lane offset (length ys)) h.piece.bytes same
      (gets old r was (fits_in offset n may) lane offset n ys (range_in offset n may) is)

  pub are_there : (offset n : ℕ) → MayAccess offset n old → AreThere offset (bytes_at (shown old) offset n) old
  are_there offset n may = there old r was (fits_in offset n may) offset n (range_in offset n may)
