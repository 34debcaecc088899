-- What reads and writes do to the ends of a program, and why they fail.
use Rattle.std.specs.Prelude.{◌≡◌, ℕ, ◌+◌, ◌-◌, ◌^◌, ◌≤◌, ◌<◌, ◌==◌, ◌&&◌, nat_lt, min, Bool, List, length, take, Option, Result, IfOk, OnOk, OnErr, MatchResult}
use Rattle.std.specs.Bool.{MatchBool}
use Rattle.std.specs.Io.KnownBytes.{Consumes, Appends, IsAtEnd}

-- a count after one more, which stays at the greatest number of 64 bits
abbrev pub next_count : ℕ → ℕ
next_count n = min (n + 1) (2 ^ 64 - 1)

-- a count has risen, or stands where it stays
abbrev pub Rose : ℕ → ℕ → Type 0
Rose before now = next_count before ≤ now

-- a count of faults never falls, has risen where the call failed, and stays where it didn't
pub record HasCause {T E : Type 0} (before now : ℕ) (result : Result T E) : Type 0 where
  pub later : before ≤ now
  pub failed : OnErr result (Rose before now)
  pub ok : OnOk result (now ≡ before)

-- the front of the buffer is what was next; nothing is given to a buffer with room only at the end
abbrev pub GivesNext :
    {E : Type 0} → Option (List ℕ) → Option (List ℕ) → Result ℕ E → List ℕ → Type 0
GivesNext old new result buffer =
    IfOk result (λ n. Consumes old new (take n buffer) × (n ≡ 0 → 0 < length buffer → IsAtEnd new))

-- some front of the piece was taken
abbrev pub TakesSome : Option (List ℕ) → Option (List ℕ) → List ℕ → Type 0
TakesSome old new piece = (n : ℕ) × ((n ≤ length piece) × Appends old new (take n piece))

-- so many bytes of the piece were taken, or some where the call failed
abbrev pub TakesFront :
    {E : Type 0} → Option (List ℕ) → Option (List ℕ) → Result ℕ E → List ℕ → Type 0
TakesFront old new result piece =
    MatchResult result (λ n. Appends old new (take n piece)) (λ _. TakesSome old new piece)

-- nothing was taken of a piece that isn't empty
abbrev pub is_empty_take : ℕ → List ℕ → Bool
is_empty_take n piece = n == 0 && nat_lt 0 (length piece)

-- a count of empty takes never falls, rises at an empty take, and else stays
pub record CountsEmptyTakes {E : Type 0} (before now : ℕ)
    (result : Result ℕ E) (piece : List ℕ) : Type 0 where
  pub later : before ≤ now
  pub taken : MatchResult result
      (λ n. MatchBool (is_empty_take n piece) (Rose before now) (now ≡ before))
      (λ _. now ≡ before)
