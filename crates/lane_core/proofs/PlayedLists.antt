-- Lists: what stands at a place, and lists that are mapped.
use Rattle.std.proofs.Common.{◌≡◌, ℕ, zero, suc, ◌+◌, ◌<◌, ◌≤◌, List, [], ◌∷◌, ◌++◌, length, take, drop, refl, sym, ap, subst, arith, Some, ◌∙◌}
use Rattle.std.specs.Prelude.{map, HoldsAt, All, sum, remove, slice_get, slice_index_or}
use Rattle.std.proofs.lemmas.List.{take-take, drop-take, drop-drop}
use Rattle.std.proofs.lemmas.List.Sums.{sum_by-cons}
use Rattle.pool_law.specs.Logs.{of_lane}
use Rattle.pool_law.specs.LaneLaw.{pieces, behind}

-- what holds at a place holds of what stands there, and back
pub stands-at : {X : Type 0} (P : X → Type 0) (xs : List X) (k : ℕ) → k < length xs → HoldsAt P xs k →
    (x : X) × (slice_get xs k ≡ Some x) × P x
stands-at P [] k lt h = absurd (omega arith)
stands-at P (x ∷ xs) zero lt h = (x, refl, h x)
stands-at P (x ∷ xs) (suc k) lt h = stands-at P xs k (omega arith) (λ d. h d)

pub HoldsAt-from : {X : Type 0} (P : X → Type 0) (xs : List X) (k : ℕ) (x : X) → slice_get xs k ≡ Some x → P x
    → HoldsAt P xs k
HoldsAt-from P [] k x e h = absurd (cc e)
HoldsAt-from P (y ∷ ys) zero x e h = λ d. let same : x ≡ y = cc e in subst P same h
HoldsAt-from P (y ∷ ys) (suc k) x e h = HoldsAt-from P ys k x e h

-- the first of a list, and the others
pub All-first : {X : Type 0} (P : X → Type 0) (xs : List X) (x : X) → 0 < length xs → x ≡ slice_index_or xs 0 x
    → All P xs → P x
All-first P xs x lt e h = subst P (sym e) (h 0 x lt)

pub All-rest : {X : Type 0} (P : X → Type 0) (xs : List X) → All P xs → All P (remove xs 0)
All-rest P [] h = λ k d lt. absurd (omega arith)
All-rest P (y ∷ ys) h = λ k d lt. h (suc k) d (omega arith)

-- the first of a list moves behind what is done
pub moved-first : {X Y : Type 0} (f : X → Y) (xs : List X) (x : X) (y : Y) (done next : List Y) → 0 < length xs
    → x ≡ slice_index_or xs 0 x →
    y ≡ f x → next ≡ done ++ y ∷ [] → next ++ map f (remove xs 0) ≡ done ++ map f xs
moved-first f [] x y done next lt e same is = absurd (omega arith)
moved-first {Y = Y} f (z ∷ xs) x y done next lt e same is =
    ap (λ l. l ++ map f xs) (is ∙ ap (λ w. done ++ w ∷ []) (same ∙ ap f e)) ∙ front done
  where
    front : (ys : List Y) → (ys ++ f z ∷ []) ++ map f xs ≡ ys ++ f z ∷ map f xs
    front [] = refl
    front (w ∷ ys) = ap (λ t. w ∷ t) (front ys)

-- mapped lists
pub length-map : {X Y : Type 0} (f : X → Y) (xs : List X) → length (map f xs) ≡ length xs
length-map f [] = refl
length-map f (x ∷ xs) = ap suc (length-map f xs)

pub map-map : {X Y Z : Type 0} (g : Y → Z) (f : X → Y) (xs : List X) → map g (map f xs) ≡ map (λ x. g (f x)) xs
map-map g f [] = refl
map-map g f (x ∷ xs) = ap (λ t. g (f x) ∷ t) (map-map g f xs)

pub map-same : {X Y : Type 0} (f g : X → Y) (xs : List X) → ((k : ℕ) (x : X) → slice_get xs k ≡ Some x → f x ≡ g x)
    → map f xs ≡ map g xs
map-same f g [] h = refl
map-same f g (x ∷ xs) h =
    ap (λ y. y ∷ map f xs) (h 0 x refl) ∙ ap (λ t. g x ∷ t) (map-same f g xs (λ k y e. h (suc k) y e))

pub log-at : {X Y : Type 0} (f : X → List Y) (xs : List X) (k : ℕ) (x : X) → slice_get xs k ≡ Some x
    → of_lane (map f xs) k ≡ f x
log-at f [] k x e = absurd (cc e)
log-at f (y ∷ ys) zero x e = let same : y ≡ x = cc e in ap f same
log-at f (y ∷ ys) (suc k) x e = log-at f ys k x e

pub log-past : {X : Type 0} (logs : List (List X)) (k : ℕ) → length logs ≤ k → of_lane logs k ≡ []
log-past [] k h = refl
log-past (x ∷ xs) zero h = absurd (omega arith)
log-past (x ∷ xs) (suc k) h = log-past xs k (omega arith)

-- a list that is cut
pub take-all : {X : Type 0} (n : ℕ) (xs : List X) → drop n xs ≡ [] → take n xs ≡ xs
take-all zero [] e = refl
take-all zero (x ∷ xs) e = absurd (cc e)
take-all (suc n) [] e = refl
take-all (suc n) (x ∷ xs) e = ap (λ t. x ∷ t) (take-all n xs e)

-- pieces are cut from as many as they have
pub pieces-within : {X : Type 0} (ns : List ℕ) (xs : List X) → pieces ns (take (sum ns) xs) ≡ pieces ns xs
pieces-within [] xs = refl
pieces-within (n ∷ ns) xs =
    let more : sum (n ∷ ns) ≡ n + sum ns = sum_by-cons (λ k. k) n ns in
    ap (λ k. pieces (n ∷ ns) (take k xs)) more
    ∙ ap (λ t. t ∷ pieces ns (drop n (take (n + sum ns) xs))) (take-take n (n + sum ns) xs (omega arith))
    ∙ ap (λ t. take n xs ∷ pieces ns t) (drop-take n (sum ns) xs)
    ∙ ap (λ t. take n xs ∷ t) (pieces-within ns (drop n xs))

pub behind-is : {X : Type 0} (ns : List ℕ) (xs : List X) → behind ns xs ≡ drop (sum ns) xs
behind-is [] xs = refl
behind-is (n ∷ ns) xs =
    let more : sum (n ∷ ns) ≡ n + sum ns = sum_by-cons (λ k. k) n ns in
    behind-is ns (drop n xs) ∙ drop-drop (sum ns) n xs ∙ ap (λ k. drop k xs) (sym more)
