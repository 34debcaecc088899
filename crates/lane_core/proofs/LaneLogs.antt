-- The log of a lane with one command more.
use Rattle.std.proofs.Common.{◌≡◌, ℕ, zero, suc, ◌+◌, ◌<◌, ◌≤◌, List, [], ◌∷◌, ◌++◌, length, take, drop, refl, sym, ap, ◌∙◌, arith, Option, Some, append-nil}
use Rattle.std.specs.Prelude.{sum, option_and_then}
use Rattle.std.proofs.lemmas.List.{take-append-le, drop-append-le, length-drop, map-append}
use Rattle.std.proofs.lemmas.List.Sums.{sum_by-cons, sum_by-append}
use Rattle.pool_law.specs.declared.command.Command.{Command}
use Rattle.pool_law.specs.declared.run.Answered.{Answered}
use Rattle.pool_law.specs.declared.run.Reply.{Reply}
use Rattle.pool_law.specs.declared.run.Shape.{Shape}
use Rattle.pool_law.specs.LaneLaw.{lane_step, before_stop, pieces, note_counts}
use Rattle.pool_law.specs.LaneStates.{LaneState, log_at, state_at}
use Rattle.pool_law.specs.Lanes.{Answer, answer, turn}
use Rattle.pool_law.specs.Names.{Names}
use Rattle.pool_law.specs.Readers.{ToldNotes, Log, ended_with}

-- the first of what is left
pub cut_more : {X : Type 0} (k : ℕ) (xs : List X) (x : X) (ys : List X) → drop k xs ≡ x ∷ ys
    → (take (suc k) xs ≡ take k xs ++ x ∷ []) × (drop (suc k) xs ≡ ys) × (k < length xs)
cut_more zero [] x ys e = absurd (cc e)
cut_more zero (y ∷ xs) x ys e =
    let same : y ≡ x = cc e in let rest : xs ≡ ys = cc e in (ap (λ z. z ∷ []) same, rest, omega arith)
cut_more (suc k) [] x ys e = absurd (cc e)
cut_more (suc k) (y ∷ xs) x ys e =
    let ih = cut_more k xs x ys e in let lt = ih.2 in (ap (λ t. y ∷ t) ih.0, ih.1, omega (arith, lt))

pub cut_at : {X : Type 0} (k : ℕ) (xs : List X) → k < length xs → (x : X) × (ys : List X) × (drop k xs ≡ x ∷ ys)
cut_at zero [] lt = absurd (omega (arith, lt))
cut_at zero (x ∷ xs) lt = (x, xs, refl)
cut_at (suc k) [] lt = absurd (omega (arith, lt))
cut_at (suc k) (x ∷ xs) lt = cut_at k xs (omega (arith, lt))

-- a list of no more than these is taken whole
pub take_whole : {X : Type 0} (n : ℕ) (xs : List X) → length xs ≤ n → take n xs ≡ xs
take_whole zero [] le = refl
take_whole zero (x ∷ xs) le = absurd (omega (arith, le))
take_whole (suc n) [] le = refl
take_whole (suc n) (x ∷ xs) le = ap (λ t. x ∷ t) (take_whole n xs (omega (arith, le)))

pub drop_whole : {X : Type 0} (n : ℕ) (xs : List X) → length xs ≤ n → drop n xs ≡ []
drop_whole zero [] le = refl
drop_whole zero (x ∷ xs) le = absurd (omega (arith, le))
drop_whole (suc n) [] le = refl
drop_whole (suc n) (x ∷ xs) le = drop_whole n xs (omega (arith, le))

-- as many pieces are cut as there are numbers
pub pieces-length : {X : Type 0} (ns : List ℕ) (xs : List X) → length (pieces ns xs) ≡ length ns
pieces-length [] xs = refl
pieces-length (n ∷ ns) xs = let a = pieces-length ns (drop n xs) in omega (arith, a)

-- one piece more
pub pieces_more : {X : Type 0} (ns : List ℕ) (n : ℕ) (xs ys : List X) → sum ns ≡ length xs → n ≡ length ys
    → pieces (ns ++ n ∷ []) (xs ++ ys) ≡ pieces ns xs ++ ys ∷ []
pieces_more [] n [] ys e f = ap (λ t. t ∷ []) (take_whole n ys (omega (arith, f)))
pieces_more [] n (x ∷ xs) ys e f = absurd (omega (arith, e))
pieces_more (m ∷ ns) n xs ys e f =
    let more : sum (m ∷ ns) ≡ m + sum ns = sum_by-cons (λ k. k) m ns in
    let le : m ≤ length xs = omega (arith, more, e) in
    let left = length-drop m xs in
    ap (λ t. t ∷ pieces (ns ++ n ∷ []) (drop m (xs ++ ys))) (take-append-le m xs ys le)
    ∙ ap (λ t. take m xs ∷ pieces (ns ++ n ∷ []) t) (drop-append-le m xs ys le)
    ∙ ap (λ t. take m xs ∷ t) (pieces_more ns n (drop m xs) ys (omega (arith, more, e, left, le)) f)

-- one reply more
pub counts_more : (rs : List Answered) (a : Answered)
    → sum (note_counts (rs ++ a ∷ [])) ≡ sum (note_counts rs) + a.notes
counts_more rs a =
    let one : sum (a.notes ∷ []) ≡ a.notes + sum [] = sum_by-cons (λ k. k) a.notes [] in
    let both = sum_by-append (λ (k : ℕ). k) (note_counts rs) (a.notes ∷ []) in
    let cut = ap (λ (ns : List ℕ). sum ns) (map-append (λ (x : Answered). x.notes) rs (a ∷ [])) in
    omega (arith, one, both, cut)

-- the state behind a turn, whose log is read to its end
abbrev state_of : Answer × Log → Option (Reply × LaneState)
state_of p = Some (p.0.reply, state_at p.0.names p.1)

abbrev to_end : Answer × Log → Option (Answer × Log)
to_end p = option_and_then {U = Answer × Log} (λ (q : Unit {0} × Log). Some (p.0, q.1)) (ended_with p.1 p.1.left)

-- a command whose notes are these is answered
pub step_is : (period : ℕ) (shape : Shape) (lane : ℕ) (s : LaneState) (c : Command) (es seen : ToldNotes) (asked : ℕ)
    (reply : Reply) (names : Names) →
    ((rest : ToldNotes) → turn period shape lane s c (log_at s (es ++ rest))
    ≡ Some (answer reply names, record { seen = seen; asked = asked; left = rest })) →
    lane_step period shape lane s c es ≡ Some (reply, record { names = names; seen = seen; asked = asked })
step_is period shape lane s c es seen asked reply names reads =
    ended (turn period shape lane s c (log_at s es))
    (ap (λ (xs : ToldNotes). turn period shape lane s c (log_at s xs)) (sym (append-nil es)) ∙ reads [])
  where
    ended : (o : Option (Answer × Log)) → o ≡ Some
        (answer reply names, record { seen = seen; asked = asked; left = [] }) →
        option_and_then state_of (option_and_then to_end o)
        ≡ Some (reply, record { names = names; seen = seen; asked = asked })
    ended o is = ap (λ (x : Option (Answer × Log)). option_and_then state_of (option_and_then to_end x)) is

-- none of these replies says that the lane was stopped, and nor does one more
pub unstopped_more : (rs : List Reply) (r : Reply) → before_stop rs ≡ length rs → before_stop (r ∷ []) ≡ 1
    → before_stop (rs ++ r ∷ []) ≡ length (rs ++ r ∷ [])
unstopped_more [] r e f = f
unstopped_more (Reply.Stopped ∷ rs) r e f = absurd (cc e)
unstopped_more (x ∷ rs) r e f = let a = unstopped_more rs r (cc e) f in omega (arith, a)
