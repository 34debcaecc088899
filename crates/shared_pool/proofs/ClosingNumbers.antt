-- A rising list of places in a history, of all notes of one lane there, is what the history has of the lane.
use Rattle.std.proofs.Common.{◌≡◌, ℕ, zero, suc, ◌+◌, ◌≤◌, List, [], ◌∷◌, length, map, Bool, true, false, cond, sym, refl, ap, ◌∙◌, subst, arith, ⊎_elim, inl, inr, Some}
use Rattle.std.specs.Prelude.{◌⊎◌, ◌==◌, Option, unwrap_or, filter, slice_get}
use Rattle.std.proofs.lemmas.Bool.{cond_both}
use Rattle.pool_law.specs.declared.note.Did.{Did}
use Rattle.pool_law.specs.declared.note.Noted.{Noted}
use Rattle.pool_law.specs.Logs.{History, numbered}
use Rattle.pool_table.specs.Views.{is_lane}

-- a note with its number
abbrev pub Tagged : Type 0
Tagged = List (ℕ × Noted)

abbrev pub dids_in : Tagged → List (ℕ × Did)
dids_in xs = map (λ (x : ℕ × Noted). (x.0, x.1.did)) xs

-- a history of the law
abbrev pub with_lane : Noted → ℕ × Did
with_lane n = (unwrap_or n.lane 0, n.did)

abbrev pub lawful : List Noted → History
lawful h = map with_lane h

abbrev pub of_lane : ℕ → List Noted → List Noted
of_lane i h = filter (λ (n : Noted). is_lane i n.lane) h

-- the numbers rise, from n on
abbrev pub Rising : ℕ → Tagged → Type 0
Rising n [] = Unit {0}
Rising n (x ∷ xs) = (n ≤ x.0) × Rising (x.0 + 1) xs

-- it stands in the history, the first note of which has the number n
abbrev pub Sits : ℕ → List Noted → ℕ × Noted → Type 0
Sits n h x = (j : ℕ) × (x.0 ≡ n + j) × (slice_get h j ≡ Some x.1)

abbrev pub AllSit : ℕ → ℕ → List Noted → Tagged → Type 0
AllSit i n h [] = Unit {0}
AllSit i n h (x ∷ xs) = Sits n h x × (is_lane i x.1.lane ≡ true) × AllSit i n h xs

-- each note is of a lane
abbrev pub AllLaned : List Noted → Type 0
AllLaned [] = Unit {0}
AllLaned (n ∷ h) = ((i : ℕ) × (n.lane ≡ Some i)) × AllLaned h

rises_less : (n m : ℕ) (xs : Tagged) → n ≤ m → Rising m xs → Rising n xs
rises_less n m [] le r = tt
rises_less n m (x ∷ xs) le r = let a : m ≤ x.0 = r.0 in (omega (arith, a, le), r.1)

sits_behind : (n : ℕ) (y : Noted) (h : List Noted) (x : ℕ × Noted) → n + 1 ≤ x.0 → Sits n (y ∷ h) x → Sits (n + 1) h x
sits_behind n y h x le (zero, e, is) = absurd (omega (arith, le, e))
sits_behind n y h x le (suc j, e, is) = (j, omega (arith, e), is)

all_behind : (i n : ℕ) (y : Noted) (h : List Noted) (xs : Tagged) → Rising (n + 1) xs → AllSit i n (y ∷ h) xs
    → AllSit i (n + 1) h xs
all_behind i n y h [] r s = tt
all_behind i n y h (x ∷ xs) r s =
    let a : n + 1 ≤ x.0 = r.0 in
    (sits_behind n y h x a s.0, s.1, all_behind i n y h xs (rises_less (n + 1) (x.0 + 1) xs (omega (arith, a)) r.1) s.2)

-- the first of a rising list is the first note, or all stand behind it
first_or : (n : ℕ) (x : ℕ × Noted) (xs : Tagged) → Rising n (x ∷ xs) → (x.0 ≡ n) ⊎ (Rising (n + 1) (x ∷ xs))
first_or n x xs r = ⊎_elim (λ (e : x.0 ≡ n). inl e) (λ (lt : n + 1 ≤ x.0). inr (lt, r.1)) (same_or n x.0 r.0)
  where
    same_or : (n m : ℕ) → n ≤ m → (m ≡ n) ⊎ (n + 1 ≤ m)
    same_or n m le = grind arith

-- the note at the first number is the first
sits_first : (n : ℕ) (y : Noted) (h : List Noted) (x : ℕ × Noted) → x.0 ≡ n → Sits n (y ∷ h) x → x.1 ≡ y
sits_first n y h x is (zero, e, there) = cc
sits_first n y h x is (suc j, e, there) = absurd (omega (arith, e, is))

length_of : (i : ℕ) (y : Noted) (h : List Noted) → length (of_lane i h) ≤ length (of_lane i (y ∷ h))
length_of i y h = one (is_lane i y.lane)
  where
    one : (b : Bool) → length (of_lane i h) ≤ length (cond b (y ∷ of_lane i h) (of_lane i h))
    one true = let k : ℕ = length (of_lane i h) in let g : k ≤ suc k = omega arith in g
    one false = omega arith

-- no more than the notes of the lane
no_more : (i n : ℕ) (h : List Noted) (xs : Tagged) → Rising n xs → AllSit i n h xs → length xs ≤ length (of_lane i h)
no_more i n h [] r s = omega arith
no_more i n [] (x ∷ xs) r s = let e = s.0.2 in absurd (cc e)
no_more i n (y ∷ h) (x ∷ xs) r s = ⊎_elim
    (λ (e : x.0 ≡ n).
    let same : x.1 ≡ y = sits_first n y h x e s.0 in
    let own : is_lane i y.lane ≡ true = subst (λ (z : Noted). is_lane i z.lane ≡ true) same s.1 in
    let r' : Rising (n + 1) xs = rises_less (n + 1) (x.0 + 1) xs (omega (arith, e)) r.1 in
    let ih = no_more i (n + 1) h xs r' (all_behind i n y h xs r' s.2) in
    let a : length (of_lane i (y ∷ h)) ≡ suc (length (of_lane i h)) =
    ap (λ (b : Bool). length (cond b (y ∷ of_lane i h) (of_lane i h))) own in
    let l : ℕ = length xs in let k : ℕ = length (of_lane i h) in let ih' : l ≤ k = ih in let g : suc l ≤ suc k =
    omega (arith, ih') in
    subst (λ (z : ℕ). suc l ≤ z) (sym a) g)
    (λ (r' : Rising (n + 1) (x ∷ xs)).
    let ih = no_more i (n + 1) h (x ∷ xs) r' (all_behind i n y h (x ∷ xs) r' s) in let b = length_of i y h in
    omega (arith, ih, b))
    (first_or n x xs r)

lane_test : (i : ℕ) (y : Noted) → (m : ℕ) × (y.lane ≡ Some m) → is_lane i y.lane ≡ ((with_lane y).0 == i)
lane_test i y m = subst (λ (l : Option ℕ). is_lane i l ≡ (unwrap_or l 0 == i)) (sym m.1) refl

numbered_more : (i n : ℕ) (y : Noted) (h : List Noted) (b : Bool) → (m : ℕ) × (y.lane ≡ Some m) → is_lane i y.lane ≡ b →
    numbered i n (lawful (y ∷ h)) ≡ cond b ((n, y.did) ∷ numbered i (n + 1) (lawful h)) (numbered i (n + 1) (lawful h))
numbered_more i n y h b m is =
    ap (λ (t : Bool). cond t ((n, y.did) ∷ numbered i (n + 1) (lawful h)) (numbered i (n + 1) (lawful h)))
    (sym (lane_test i y m) ∙ is)

-- another lane's note is skipped
behind : (i n : ℕ) (y : Noted) (h : List Noted) (xs : Tagged) → is_lane i y.lane ≡ false → Rising n xs
    → AllSit i n (y ∷ h) xs → Rising (n + 1) xs
behind i n y h [] other r s = tt
behind i n y h (x ∷ xs) other r s = ⊎_elim
    (λ (e : x.0 ≡ n).
    let same : x.1 ≡ y = sits_first n y h x e s.0 in
    let both : true ≡ false = sym s.1 ∙ ap (λ (z : Noted). is_lane i z.lane) same ∙ other in absurd (cc both))
    (λ (r' : Rising (n + 1) (x ∷ xs)). r')
    (first_or n x xs r)

length_map : (xs : Tagged) → length (map (λ (x : ℕ × Noted). x.1) xs) ≡ length xs
length_map [] = refl
length_map (x ∷ xs) = ap suc (length_map xs)

pub is_numbered : (i n : ℕ) (h : List Noted) (xs : Tagged) → Rising n xs → AllSit i n h xs → AllLaned h
    → map (λ (x : ℕ × Noted). x.1) xs ≡ of_lane i h →
    dids_in xs ≡ numbered i n (lawful h)
is_numbered i n [] [] r s laned all = refl
is_numbered i n [] (x ∷ xs) r s laned all = absurd (cc all)
is_numbered i n (y ∷ h) xs r s laned all =
    cond_both (is_lane i y.lane) (y ∷ of_lane i h) (of_lane i h)
    (λ (z : List Noted). map (λ (x : ℕ × Noted). x.1) xs ≡ z → dids_in xs ≡ numbered i n (lawful (y ∷ h)))
    (λ own all. taken xs own r s (λ zs r s all. is_numbered i (n + 1) h zs r s laned.1 all) all)
    (λ other all. let r' = behind i n y h xs other r s in
    is_numbered i (n + 1) h xs r' (all_behind i n y h xs r' s) laned.1 all
    ∙ sym (numbered_more i n y h false laned.0 other))
    all
  where
    -- the lane's own note is the first
    taken : (xs : Tagged) → is_lane i y.lane ≡ true → Rising n xs → AllSit i n (y ∷ h) xs →
        ((zs : Tagged) → Rising (n + 1) zs → AllSit i (n + 1) h zs → map (λ (x : ℕ × Noted). x.1) zs ≡ of_lane i h
        → dids_in zs ≡ numbered i (n + 1) (lawful h)) →
        map (λ (x : ℕ × Noted). x.1) xs ≡ y ∷ of_lane i h → dids_in xs ≡ numbered i n (lawful (y ∷ h))
    taken [] own r s ih all = absurd (cc all)
    taken (x ∷ xs) own r s ih all = ⊎_elim
        (λ (e : x.0 ≡ n).
        let same : x.1 ≡ y = cc all in let rest : map (λ (x : ℕ × Noted). x.1) xs ≡ of_lane i h = cc all in
        let r' : Rising (n + 1) xs = rises_less (n + 1) (x.0 + 1) xs (omega (arith, e)) r.1 in
        let more = ih xs r' (all_behind i n y h xs r' s.2) rest in
        let head : ◌≡◌ {A = ℕ × Did} (x.0, x.1.did) (n, y.did) = λ j. (e j, (same j).did) in
        (λ j. head j ∷ more j) ∙ sym (numbered_more i n y h true laned.0 own))
        (λ (r' : Rising (n + 1) (x ∷ xs)).
        let rest : map (λ (x : ℕ × Noted). x.1) xs ≡ of_lane i h = cc all in
        let a = no_more i (n + 1) h (x ∷ xs) r' (all_behind i n y h (x ∷ xs) r' s) in
        let b = ap length rest in let c = length_map xs in
        let l : ℕ = length xs in let k : ℕ = length (of_lane i h) in let a' : suc l ≤ k = a in let bc : l ≡ k = sym c
        ∙ b in
        absurd (omega (arith, a', bc)))
        (first_or n x xs r)

-- a lane without notes has none
pub none_numbered : (i n : ℕ) (h : List Noted) → AllLaned h
    → ((k : ℕ) (m : Noted) → slice_get h k ≡ Some m → is_lane i m.lane ≡ false) → numbered i n (lawful h) ≡ []
none_numbered i n [] laned none = refl
none_numbered i n (y ∷ h) laned none =
    numbered_more i n y h false laned.0 (none 0 y refl)
    ∙ none_numbered i (n + 1) h laned.1 (λ k m is. none (suc k) m is)
