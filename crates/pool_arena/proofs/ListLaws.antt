-- Lists of chunk places, and of what each of them has.
use Rattle.std.proofs.Common.{◌≡◌, ℕ, zero, suc, ◌+◌, ◌<◌, List, [], ◌∷◌, length, get_or, refl, sym, ap, ◌∙◌, Bool, true, false, Some, None, arith, lt-ltb, le-ltb, ltb-true, ltb-false}
use Rattle.std.specs.Prelude.{Option, map, not, is_some, nat_lt, position, option_map, if◌then◌else◌, slice_get, slice_set, All, unwrap_or}
use Rattle.std.proofs.lemmas.Option.{get_or_from_slice_get, slice_get-get_or}
use Rattle.std.proofs.lemmas.Bool.{cond_both}
use Rattle.std.specs.List.{position_or_len}
use Rattle.pool_law.specs.Chunks.{Chunk}
use Rattle.pool_law.specs.Arenas.{first_unused}
use Rattle.pool_arena.specs.Places.{PlaceState}

-- the first place without a chunk
pub unused-first : (ps : List PlaceState) → position (λ (p : PlaceState). not (is_some p.chunk)) ps
    ≡ first_unused (map (λ (p : PlaceState). p.chunk) ps)
unused-first [] = refl
unused-first (p ∷ ps) = by p.chunk refl (unused-first ps)
  where
    shift : (n m : ℕ) → (if nat_lt (1 + n) (suc m) then Some (1 + n) else None)
        ≡ option_map (λ k. suc k) (if nat_lt n m then Some n else None)
    shift n m =
        cond_both (nat_lt n m) (Some n) None
        (λ z. (if nat_lt (1 + n) (suc m) then Some (1 + n) else None) ≡ option_map (λ k. suc k) z)
        (λ lt. let up : nat_lt (1 + n) (suc m) ≡ true = lt-ltb (1 + n) (suc m) (omega (arith, ltb-true n m lt)) in
        rw up (ap Some (omega arith)))
        (λ ge. let up : nat_lt (1 + n) (suc m) ≡ false = le-ltb (1 + n) (suc m) (omega (arith, ltb-false n m ge)) in
        rw up refl)

    by : (o : Option Chunk) → p.chunk ≡ o → position (λ (q : PlaceState). not (is_some q.chunk)) ps
        ≡ first_unused (map (λ (q : PlaceState). q.chunk) ps)
        → position (λ (q : PlaceState). not (is_some q.chunk)) (p ∷ ps)
        ≡ first_unused (map (λ (q : PlaceState). q.chunk) (p ∷ ps))
    by None is rest = rw is (ap (λ (b : Bool). if b then Some 0 else None) (lt-ltb 0 (suc (length ps)) (omega arith)))
    by (Some runs) is rest =
        rw is (shift (position_or_len (λ (q : PlaceState). not (is_some q.chunk)) ps) (length ps)
        ∙ ap (option_map (λ k. suc k)) rest)

-- an element that is written, and the others
pub All-set : {X : Type 0} (P : X → Type 0) (xs : List X) (i : ℕ) (x : X) → All P xs → P x → All P (slice_set xs i x)
All-set P [] i x all new k d less = absurd (omega arith)
All-set P (y ∷ xs) zero x all new zero d less = new
All-set P (y ∷ xs) zero x all new (suc k) d less = all (suc k) d less
All-set P (y ∷ xs) (suc i) x all new zero d less = all 0 d (omega arith)
All-set P (y ∷ xs) (suc i) x all new (suc k) d less =
    All-set P xs i x (λ j e h. all (suc j) e (omega (arith, h))) new k d (omega (arith, less))

-- an element that is found is read
pub read-is : {X : Type 0} (xs : List X) (i : ℕ) (x d : X) → slice_get xs i ≡ Some x → get_or xs i d ≡ x
read-is xs i x d found = get_or_from_slice_get xs i x d found

pub found-is : {X : Type 0} (xs : List X) (i : ℕ) (x : X) → i < length xs → x ≡ get_or xs i x → slice_get xs i ≡ Some x
found-is xs i x less here = slice_get-get_or xs i x less ∙ ap Some (sym here)

-- the chunk that a place has
pub some-of : {X : Type 0} (o : Option (Option X)) (x : X) → unwrap_or o None ≡ Some x → o ≡ Some (Some x)
some-of None x e = absurd (cc e)
some-of (Some o) x e = ap Some e
