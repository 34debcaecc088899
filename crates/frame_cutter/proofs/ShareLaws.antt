-- The share of a worker, one frame more.
use Rattle.std.proofs.Common.{◌≡◌, ℕ, ◌+◌, Bool, true, false, List, [], ◌∷◌, ◌++◌, length, refl, ap, sym, ◌∙◌, arith, append_assoc, append-nil}
use Rattle.std.specs.Prelude.{◌%◌, ◌==◌, if◌then◌else◌}
use Rattle.job_queue.specs.declared.jobs.Job.TheVariants.{Frame}
use Rattle.frame_hash.specs.Told.{Handed, jobs_of, pieces_of, share_of}

-- what is there where a test holds, and nothing else
abbrev pub if_so : {X : Type 0} → Bool → X → List X
if_so b x = if b then x ∷ [] else []

-- a frame as it is handed over
abbrev pub handed_as : ℕ → List (List ℕ) → Handed
handed_as number pieces = record { number = number; pieces = pieces }

behind : {X : Type 0} (b : Bool) (x : X) (xs ys : List X)
    → (if b then x ∷ (xs ++ ys) else xs ++ ys) ≡ (if b then x ∷ xs else xs) ++ ys
behind true x xs ys = refl
behind false x xs ys = refl

either_way : (b : Bool) (x : Handed) (xs ys : List Handed) → xs ≡ ys
    → (if b then x ∷ xs else xs) ≡ (if b then x ∷ ys else ys)
either_way true x xs ys e = ap (λ r. x ∷ r) e
either_way false x xs ys e = e

pub share_push : (workers worker number : ℕ) (hs : List (List (List ℕ))) (pieces : List (List ℕ))
    → share_of workers worker number (hs ++ pieces ∷ []) ≡
    share_of workers worker number hs
    ++ if_so ((number + length hs) % workers == worker) (handed_as (number + length hs) pieces)
share_push workers worker number [] pieces =
    let e : number ≡ number + 0 = omega arith in
    ap (λ n. if_so (n % workers == worker) (handed_as n pieces)) e
share_push workers worker number (h ∷ hs) pieces =
    let e : number + 1 + length hs ≡ number + length (h ∷ hs) = omega arith in
    either_way (number % workers == worker) (handed_as number h) _ _
    (share_push workers worker (number + 1) hs pieces
    ∙ ap (λ n. share_of workers worker (number + 1) hs ++ if_so (n % workers == worker) (handed_as n pieces)) e)
    ∙ behind (number % workers == worker) (handed_as number h) (share_of workers worker (number + 1) hs)
    (if_so ((number + length (h ∷ hs)) % workers == worker) (handed_as (number + length (h ∷ hs)) pieces))

pub jobs_on : (hs more : List Handed) → jobs_of (hs ++ more) ≡ jobs_of hs ++ jobs_of more
jobs_on [] more = refl
jobs_on (h ∷ hs) more = ap (λ js. Frame h.number (length h.pieces) ∷ js) (jobs_on hs more)

pub pieces_on : (hs more : List Handed) → pieces_of (hs ++ more) ≡ pieces_of hs ++ pieces_of more
pieces_on [] more = refl
pieces_on (h ∷ hs) more =
    ap (λ ps. h.pieces ++ ps) (pieces_on hs more) ∙ sym (append_assoc h.pieces (pieces_of hs) (pieces_of more))

-- the jobs and pieces of a frame that is the worker's, or isn't
pub jobs_one : (b : Bool) (number : ℕ) (pieces : List (List ℕ))
    → jobs_of (if_so b (handed_as number pieces)) ≡ if_so b (Frame number (length pieces))
jobs_one true number pieces = refl
jobs_one false number pieces = refl

pub pieces_one : (b : Bool) (number : ℕ) (pieces : List (List ℕ))
    → pieces_of (if_so b (handed_as number pieces)) ≡ (if b then pieces else [])
pieces_one true number pieces = append-nil pieces
pieces_one false number pieces = refl
