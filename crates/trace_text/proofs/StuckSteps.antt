-- How the lanes of a trace go on.
use Rattle.std.proofs.Common.{ℕ, ◌+◌, ◌-◌, ◌<◌, ◌≤◌, ◌≡◌, zero, suc, List, [], ◌∷◌, ◌++◌, refl, ap, length, take, get_or, arith, ◌∙◌, sym, min, slice_index, true, false, Bool, length-append, Vec, Global}
use Rattle.std.specs.Prelude.{if◌then◌else◌, nat_lt}
use Rattle.std.specs.List.{sum_by}
use Rattle.std.proofs.lemmas.List.{get_or_push, get_or_append_left}
use Rattle.std.proofs.lemmas.List.Sums.{sum_by_more}
use Rattle.std.proofs.lemmas.List.Recursion.{is_sum_by}
use Rattle.std.proofs.lemmas.Option.{slice_get-get_or}
use Rattle.pool_law.specs.declared.command.Command.{Command}
use Rattle.pool_law.specs.Stuck.{command_count, how_many, moved, moves}
use Rattle.pool_law.specs.Logs.{of_lane}
use Rattle.trace_text.specs.declared.counts.Side.{Side}
use Rattle.trace_text.specs.Counts.{AreRows}

-- ---- Counts.

how_many_step : (test : Command → Bool) (cs : List Command) (i : ℕ) (d : Command) → i < length cs
    → how_many test (take (i + 1) cs) ≡ how_many test (take i cs) + (if test (get_or cs i d) then 1 else 0)
how_many_step test cs i d h =
    let sums : (xs : List Command) → how_many test xs
    ≡ sum_by (λ c. if test c then 1 else 0) xs =
    is_sum_by (how_many test) (λ c. if test c then 1 else 0) refl (λ _ _. refl) in
    sums (take (i + 1) cs) ∙ sum_by_more (λ c. if test c then 1 else 0) cs i d h
    ∙ ap (λ n. n + (if test (get_or cs i d) then 1 else 0)) (sym (sums (take i cs)))

pub count_now : (test : Command → Bool) (cs : List Command) (i total : ℕ) (c : Command) → i < length cs
    → c ≡ get_or cs i c → total ≡ how_many test (take i cs)
    → total + (if test c then 1 else 0) ≡ how_many test (take (i + 1) cs)
count_now test cs i total c h at e = sym (how_many_step test cs i c h ∙ rw (sym at, sym e) refl)

-- a lane has no more commands than all lanes
pub short_lane : (lanes : List (List Command)) (i : ℕ) (d : List Command) → i < length lanes
    → length (get_or lanes i d) ≤ command_count lanes
short_lane [] i d h = absurd (omega (arith, h))
short_lane (cs ∷ rest) zero d h = omega arith
short_lane (cs ∷ rest) (suc i) d h =
    let short = short_lane rest i d (omega (arith, h)) in omega (arith, short)

-- one more value stands behind those of which something is known
pub each_push : {A : Type 0} (P : ℕ → A → Type 0) (xs : List A) (y : A) (i : ℕ) (d : A) → length xs ≡ i
    → ((k : ℕ) → k < i → P k (get_or xs k d)) → P i y
    → (k : ℕ) → k < i + 1 → P k (get_or (xs ++ y ∷ []) k d)
each_push P xs y i d size before here k h =
    elim (nat_lt k i) as (λ (b : Bool). nat_lt k i ≡ b → P k (get_or (xs ++ y ∷ []) k d)) [
      | true ↦
          λ e. let below : k < i = grind (arith, e) in let inside : k < length xs = omega (arith, size) in
          rw (get_or_append_left xs (y ∷ []) d k inside) (before k below)
      | false ↦ λ e. let same : k ≡ i = grind (arith, e, h) in rw (same, get_or_push xs y d i size) here
    ] refl

pub counts_more : (test : Command → Bool) (cs : List Command) (i total more : ℕ) (met : Bool) (c : Command)
    (list new : List ℕ)
    → i < length cs → c ≡ get_or cs i c → met ≡ test c → more ≡ (if met then 1 else 0) → length list ≡ i + 1
    → total ≡ how_many test (take i cs)
    → ((k : ℕ) → k ≤ i → slice_index list k ≡ how_many test (take k cs)) → new ≡ list ++ (total + more) ∷ []
    → (total + more ≡ how_many test (take (i + 1) cs))
    × ((k : ℕ) → k ≤ i + 1 → slice_index new k ≡ how_many test (take k cs))
counts_more test cs i total more met c list new h at same one size now before push =
    let here : total + more ≡ how_many test (take (i + 1) cs) =
    rw (one, same) (count_now test cs i total c h at now) in (
      here,
      λ k below. rw push (each_push (λ (j x : ℕ). x ≡ how_many test (take j cs)) list (total + more) (i + 1) 0 size
          (λ j under. before j (omega arith)) here k (omega arith)),
    )

pub bound_more : (i total more : ℕ) (met : Bool) → total ≤ i → more ≡ (if met then 1 else 0) → total + more ≤ i + 1
bound_more i total more true h e = grind (arith, h, e)
bound_more i total more false h e = grind (arith, h, e)

-- ---- Places.

pub commands_at : (lanes : List (List Command)) (lane : ℕ) (d : List Command) → lane < length lanes
    → of_lane lanes lane ≡ get_or lanes lane d
commands_at lanes lane d h = rw (slice_get-get_or lanes lane d h) refl

pub moves_step : (lanes : List (List Command)) (n i : ℕ) (at rest : List ℕ) → i < n → moves (n - i) lanes at ≡ rest
    → moves (n - (i + 1)) lanes (moved lanes at 0 at) ≡ rest
moves_step lanes n i at rest h e = let more : n - i ≡ suc (n - (i + 1)) = omega arith in rw (sym e, more) refl

-- ---- What the tables tell.

pub tables_more : (side : Side) (lanes : List (List Command)) (list new : List (Vec (Vec ℕ Global) Global))
    (rows : Vec (Vec ℕ Global) Global) (i : ℕ) (lane seen : List Command)
    → i < length lanes → lane ≡ get_or lanes i lane → seen ≡ lane → length list ≡ i
    → AreRows side (length lanes) seen rows.items
    → ((k : ℕ) (d : Vec (Vec ℕ Global) Global) → k < i
    → AreRows side (length lanes) (of_lane lanes k) (get_or list k d).items) → new ≡ list ++ rows ∷ []
    → (k : ℕ) (d : Vec (Vec ℕ Global) Global) → k < i + 1
    → AreRows side (length lanes) (of_lane lanes k) (get_or new k d).items
tables_more side lanes list new rows i lane seen h at same size known before push k d below =
    let here : of_lane lanes i ≡ seen = commands_at lanes i lane h ∙ sym at ∙ sym same in
    rw push (each_push (λ (j : ℕ) (t : Vec (Vec ℕ Global) Global). AreRows side (length lanes) (of_lane lanes j)
    t.items) list rows i d size (λ j under. before j d under) (rw here known) k below)

pub one_longer : {A : Type 0} (list new : List A) (x : A) (i : ℕ) → length list ≡ i → new ≡ list ++ x ∷ []
    → length new ≡ i + 1
one_longer list new x i size push = rw (push, length-append list (x ∷ []), size) refl

pub rest_more : (lanes : List (List Command)) (n i limit found : ℕ) (at seen next rest : List ℕ) → i < found
    → found ≡ min n (limit + 1) → seen ≡ at → next ≡ moved lanes seen 0 seen → moves (n - i) lanes at ≡ rest
    → moves (n - (i + 1)) lanes next ≡ rest
rest_more lanes n i limit found at seen next rest h e same step before =
    let below : i < n = grind (arith, h, e) in rw (step, same) (moves_step lanes n i at rest below before)
