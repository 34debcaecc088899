-- The counts of the lanes: what is asked of the histories, and one lane more.
use Rattle.std.proofs.Common.{◌≡◌, ℕ, zero, suc, ◌+◌, ◌<◌, List, [], ◌∷◌, ◌++◌, length, map, get_or, take, ⊎_elim, refl, sym, ap, subst, arith, ◌∙◌}
use Rattle.std.specs.Prelude.{Result, Ok, Err, Vec, MatchResult}
use Rattle.std.specs.declared.alloc.Global.{Global}
use Rattle.std.proofs.lemmas.Bool.{cases_lt}
use Rattle.std.proofs.lemmas.List.{length-map, map-append, take_more}
use Rattle.pool_law.specs.declared.command.Command.{Command}
use Rattle.pool_law.specs.declared.run.Answered.{Answered}
use Rattle.pool_law.specs.declared.run.Reply.{Reply}
use Rattle.pool_law.specs.declared.run.Shape.{Shape}
use Rattle.pool_law.specs.LaneLaw.{IsLaneLog, note_counts, replies_in}
use Rattle.pool_law.specs.Legal.{HistoriesHold}
use Rattle.pool_law.specs.Logs.{Logs, ToldNote, of_lane}
use Rattle.lane_reader.specs.Unlike.{AreAnswered}
use Rattle.run_check.specs.Cutting.{counts_in, lists_in}
use Rattle.run_check.specs.Fronts.{IsBrokenAt}
use Rattle.run_check.specs.Storing.{AreHistories}
use Rattle.run_check.specs.declared.histories.BrokenAt.{BrokenAt}
use Rattle.run_check.specs.declared.histories.Histories.{Histories}
use Rattle.run_check.proofs.BreachLemmas.{object-holds}

-- where the histories hold, none is broken
pub not-broken : (shape : Shape) (logs : Logs) → HistoriesHold shape logs → (found : Result Histories BrokenAt)
    → MatchResult found (AreHistories shape logs) (λ b. IsBrokenAt shape logs b.object b.number) → (b : BrokenAt)
    → found ≡ Err b → ⊥
not-broken shape logs holds (Ok kept) are b e = absurd (cc e)
not-broken shape logs holds (Err found) broken b e = broken.law (object-holds shape logs holds found.object)

-- a log of a lane has the notes of its commands first
pub log-answered : (shape : Shape) (lane : ℕ) (cs ds : List Command) (qs : List Answered) (es fs : List ToldNote)
    → cs ≡ ds → es ≡ fs → IsLaneLog shape lane cs qs es → AreAnswered shape lane ds qs fs
log-answered shape lane cs ds qs es fs c e log =
    subst (λ (xs : List Command). AreAnswered shape lane xs qs fs) c
    (subst (λ (xs : List ToldNote). AreAnswered shape lane cs qs xs) e
    (record { counted = log.counted; last = log.last; answered = log.answered; stopped = log.stopped }))

-- the replies of a lane
pub lane-replies : (answered : List (List Answered)) (replies : List (Vec Reply Global)) (k : ℕ) (d : Vec Reply Global)
    → map replies_in answered ≡ lists_in replies → k < length replies
    → replies_in (of_lane answered k) ≡ (get_or replies k d).items
lane-replies [] [] k d same there = absurd (omega (arith, there))
lane-replies [] (r ∷ replies) k d same there = absurd (cc same)
lane-replies (a ∷ answered) [] k d same there = absurd (omega (arith, there))
lane-replies (a ∷ answered) (r ∷ replies) zero d same there = cc same
lane-replies (a ∷ answered) (r ∷ replies) (suc k) d same there =
    let rest : map replies_in answered ≡ lists_in replies = cc same in
    lane-replies answered replies k d rest (omega (arith, there))

pub lists-get : (replies : List (Vec Reply Global)) (k : ℕ) (d : Vec Reply Global) → k < length replies
    → of_lane (lists_in replies) k ≡ (get_or replies k d).items
lists-get [] k d there = absurd (omega (arith, there))
lists-get (r ∷ replies) zero d there = refl
lists-get (r ∷ replies) (suc k) d there = lists-get replies k d (omega (arith, there))

-- the next list of answers
answers-more : (answered : List (List Answered)) (k : ℕ) → k < length answered
    → take (k + 1) answered ≡ take k answered ++ of_lane answered k ∷ []
answers-more answered k there =
    take_more answered k [] there
    ∙ ap (λ (qs : List Answered). take k answered ++ qs ∷ []) (item answered k there)
  where
    item : (lists : List (List Answered)) (i : ℕ) → i < length lists → get_or lists i [] ≡ of_lane lists i
    item [] i less = absurd (omega (arith, less))
    item (x ∷ lists) zero less = refl
    item (x ∷ lists) (suc i) less = item lists i (omega (arith, less))

-- the counts of one lane more
pub counts-further : (answered : List (List Answered)) (cuts new : List (Vec ℕ Global)) (counts : Vec ℕ Global)
    (k : ℕ) → k < length answered → new ≡ cuts ++ counts ∷ [] → counts_in cuts ≡ map note_counts (take k answered)
    → counts.items ≡ note_counts (of_lane answered k) → counts_in new ≡ map note_counts (take (k + 1) answered)
counts-further answered cuts new counts k there is so here =
    ap (λ (vs : List (Vec ℕ Global)). counts_in vs) is
    ∙ map-append (λ (v : Vec ℕ Global). v.items) cuts (counts ∷ [])
    ∙ (λ i. so i ++ here i ∷ [])
    ∙ sym (map-append note_counts (take k answered) (of_lane answered k ∷ []))
    ∙ ap (λ (lists : List (List Answered)). map note_counts lists) (sym (answers-more answered k there))

-- the lists of a lane, of those that are there and of one more
pub lists-front : {X : Type 0} (lists : List (List X)) (last : List X) (k : ℕ) → k < length lists
    → of_lane (lists ++ last ∷ []) k ≡ of_lane lists k
lists-front [] last k there = absurd (omega (arith, there))
lists-front (x ∷ lists) last zero there = refl
lists-front (x ∷ lists) last (suc k) there = lists-front lists last k (omega (arith, there))

pub lists-last : {X : Type 0} (lists : List (List X)) (last : List X) (k : ℕ) → k ≡ length lists
    → of_lane (lists ++ last ∷ []) k ≡ last
lists-last [] last zero is = refl
lists-last [] last (suc k) is = absurd (omega (arith, is))
lists-last (x ∷ lists) last zero is = absurd (omega (arith, is))
lists-last (x ∷ lists) last (suc k) is = lists-last lists last k (omega (arith, is))

-- the cut of one lane more
pub cuts-further : (P : ℕ → List ℕ → Type 0) (cuts new : List (Vec ℕ Global)) (counts : Vec ℕ Global) (n : ℕ)
    → length cuts ≡ n → new ≡ cuts ++ counts ∷ [] → ((k : ℕ) → k < n → P k (of_lane (counts_in cuts) k))
    → P n counts.items → (k : ℕ) → k < n + 1 → P k (of_lane (counts_in new) k)
cuts-further P cuts new counts n long is so here k there =
    let all : counts_in new ≡ counts_in cuts ++ counts.items ∷ [] =
    ap (λ (vs : List (Vec ℕ Global)). counts_in vs) is
    ∙ map-append (λ (v : Vec ℕ Global). v.items) cuts (counts ∷ []) in
    let size : length (counts_in cuts) ≡ n = length-map cuts (λ (v : Vec ℕ Global). v.items) ∙ long in
    ⊎_elim
    (λ less.
    subst (λ (ns : List ℕ). P k ns)
    (sym
    (ap (λ (lists : List (List ℕ)). of_lane lists k) all
    ∙ lists-front (counts_in cuts) counts.items k (omega (arith, size, less))))
    (so k less))
    (λ past.
    let same : k ≡ n = omega (arith, past, there) in
    subst (λ (ns : List ℕ). P k ns)
    (sym
    (ap (λ (lists : List (List ℕ)). of_lane lists k) all
    ∙ lists-last (counts_in cuts) counts.items k (omega (arith, size, same))))
    (subst (λ (i : ℕ). P i counts.items) (sym same) here))
    (cases_lt k n)
