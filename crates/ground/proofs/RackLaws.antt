-- Lists of elements.
use Rattle.std.proofs.Common.{◌≡◌, ℕ, zero, suc, ◌+◌, ◌*◌, ◌<◌, List, [], ◌∷◌, ◌++◌, length, drop, refl, sym, ap, ◌∙◌, subst, arith, length-take-le, length-drop, length-append, drop_at}
use Rattle.std.specs.Prelude.{Some, None}
use Rattle.ground.specs.Ownership.{AreAllIn}
use Rattle.ground.specs.Rack.{Cell, cells_of, with_cell, HasCell, AllIn, bytes_of}
use Rattle.ground.specs.Racks.{Fits}

pub length-cells_of : (n k : ℕ) (bs : List ℕ) → length (cells_of n k bs) ≡ k
length-cells_of n zero bs = refl
length-cells_of n (suc k) bs = ap suc (length-cells_of n k (drop n bs))

pub cells_fit : (n k : ℕ) (bs : List ℕ) → length bs ≡ k * n → Fits n (cells_of n k bs)
cells_fit n zero bs e = tt
cells_fit n (suc k) bs e =
    (length-take-le n bs (omega (arith, e)), cells_fit n k (drop n bs) (omega (arith, length-drop n bs, e)))

pub length-with_cell : (i : ℕ) (c : Cell) (cs : List Cell) → length (with_cell i c cs) ≡ length cs
length-with_cell i c [] = refl
length-with_cell zero c (d ∷ cs) = refl
length-with_cell (suc i) c (d ∷ cs) = ap suc (length-with_cell i c cs)

pub cell_within : (i : ℕ) (c : Cell) (cs : List Cell) → HasCell i c cs → i < length cs
cell_within i c [] h = absurd h
cell_within zero c (d ∷ cs) h = omega arith
cell_within (suc i) c (d ∷ cs) h = omega (arith, cell_within i c cs h)

abbrev bytes_in : Cell → List ℕ
bytes_in None = []
bytes_in (Some b) = b

abbrev IsNoBytes : Cell → Type 0
IsNoBytes None = Unit {0}
IsNoBytes (Some b) = ⊥

pub cell_fits : (n i : ℕ) (b : List ℕ) (cs : List Cell) → HasCell i (Some b) cs → Fits n cs → length b ≡ n
cell_fits n i b [] h f = absurd h
cell_fits n zero b (None ∷ cs) h f = absurd (subst IsNoBytes h tt)
cell_fits n zero b (Some a ∷ cs) h f = ap (λ (c : Cell). length (bytes_in c)) (sym h) ∙ f.0
cell_fits n (suc i) b (None ∷ cs) h f = cell_fits n i b cs h f
cell_fits n (suc i) b (Some a ∷ cs) h f = cell_fits n i b cs h f.1

pub fits_without : (n i : ℕ) (cs : List Cell) → Fits n cs → Fits n (with_cell i None cs)
fits_without n i [] f = f
fits_without n zero (None ∷ cs) f = f
fits_without n zero (Some a ∷ cs) f = f.1
fits_without n (suc i) (None ∷ cs) f = fits_without n i cs f
fits_without n (suc i) (Some a ∷ cs) f = (f.0, fits_without n i cs f.1)

pub all_in_bytes : (n : ℕ) (cs : List Cell) (bs : List ℕ) → AreAllIn n cs bs → length bs ≡ length cs * n
all_in_bytes n [] bs h = ap length h ∙ omega arith
all_in_bytes n (None ∷ cs) bs h = absurd h
all_in_bytes n (Some b ∷ cs) bs h =
    let rest = all_in_bytes n cs (drop n bs) h.2 in
    let all = ap length h.0 ∙ length-append b (drop n bs) in
    let next : suc (length cs) * n ≡ n + length cs * n = omega arith in
    omega (arith, all, rest, h.1, next)

pub fits_with : (n i : ℕ) (b : List ℕ) (cs : List Cell) → length b ≡ n → HasCell i None cs → Fits n cs
    → Fits n (with_cell i (Some b) cs)
fits_with n i b [] e h f = f
fits_with n zero b (None ∷ cs) e h f = (e, f)
fits_with n zero b (Some a ∷ cs) e h f = (e, f.1)
fits_with n (suc i) b (None ∷ cs) e h f = fits_with n i b cs e h f
fits_with n (suc i) b (Some a ∷ cs) e h f = (f.0, fits_with n i b cs e h f.1)

pub all_in_is : (n : ℕ) (cs : List Cell) → AllIn cs → Fits n cs → AreAllIn n cs (bytes_of cs)
all_in_is n [] h f = refl
all_in_is n (None ∷ cs) h f = absurd h
all_in_is n (Some b ∷ cs) h f =
    let rest : drop n (b ++ bytes_of cs) ≡ bytes_of cs = drop_at b (bytes_of cs) n f.0 in
    let P : List ℕ → Type 0 = λ bs. AreAllIn n cs bs in
    (ap (λ (l : List ℕ). b ++ l) (sym rest), f.0, subst P (sym rest) (all_in_is n cs h f.1))

pub all_in_bytes_are : (n : ℕ) (cs : List Cell) (bs : List ℕ) → AreAllIn n cs bs → bs ≡ bytes_of cs
all_in_bytes_are n [] bs h = h
all_in_bytes_are n (None ∷ cs) bs h = absurd h
all_in_bytes_are n (Some b ∷ cs) bs h = h.0 ∙ ap (λ (l : List ℕ). b ++ l) (all_in_bytes_are n cs (drop n bs) h.2)

-- what putting all together asks
pub first_in : (n : ℕ) (cs : List Cell) → 0 < length cs → AllIn cs → Fits n cs
    → (b : List ℕ) × (rest : List Cell) × (bs : List ℕ) × (cs ≡ Some b ∷ rest) × AreAllIn n cs bs
first_in n [] some h f = absurd (omega arith)
first_in n (None ∷ cs) some h f = absurd h
first_in n (Some b ∷ cs) some h f = (b, cs, bytes_of (Some b ∷ cs), refl, all_in_is n (Some b ∷ cs) h f)
