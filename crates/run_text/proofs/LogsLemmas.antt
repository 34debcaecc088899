-- The logs of lanes, one lane and one reply more.
use Rattle.std.proofs.Common.{◌≡◌, ℕ, zero, suc, ◌+◌, ◌<◌, ◌^◌, List, [], ◌∷◌, ◌++◌, length, map, get_or, take, Some, refl, sym, ap, arith, ◌∙◌}
use Rattle.std.specs.Prelude.{Vec, slice_get}
use Rattle.std.specs.declared.alloc.Global.{Global}
use Rattle.std.specs.List.{All}
use Rattle.std.proofs.lemmas.List.{map-append, take_more}
use Rattle.std.proofs.lemmas.List.Elements.{All-head, All-tail}
use Rattle.pool_law.specs.declared.note.Note.{Note}
use Rattle.pool_law.specs.declared.run.Answered.{Answered}
use Rattle.pool_law.specs.declared.run.LaneLog.{LaneLog}
use Rattle.pool_law.specs.declared.run.Reply.{Reply}
use Rattle.pool_law.specs.LaneLaw.{note_counts, replies_in}
use Rattle.pool_law.specs.Logs.{of_lane}
use Rattle.run_check.specs.Cutting.{lists_in}
use Rattle.run_text.specs.Derived.{AreFew}
use Rattle.run_text.specs.Knowing.{notes_in}

-- the first so many items and the next
take-next : {X : Type 0} (xs : List X) (i : ℕ) (x : X) → i < length xs → x ≡ get_or xs i x
    → take (i + 1) xs ≡ take i xs ++ x ∷ []
take-next xs i x there is = take_more xs i x there ∙ (λ j. take i xs ++ sym is j ∷ [])

-- the notes of one lane more
pub notes-further : (logs new : List LaneLog) (log : LaneLog) (all : List (Vec Note Global)) (i : ℕ)
    (x : Vec Note Global) → new ≡ logs ++ log ∷ [] → log.notes ≡ x.items → i < length all → x ≡ get_or all i x
    → map (λ l. l.notes) logs ≡ notes_in (take i all) → map (λ l. l.notes) new ≡ notes_in (take (i + 1) all)
notes-further logs new log all i x is here there item so =
    ap (λ (ls : List LaneLog). map (λ l. l.notes) ls) is
    ∙ map-append (λ (l : LaneLog). l.notes) logs (log ∷ [])
    ∙ (λ j. so j ++ here j ∷ [])
    ∙ sym (map-append (λ (v : Vec Note Global). v.items) (take i all) (x ∷ []))
    ∙ ap (λ (vs : List (Vec Note Global)). notes_in vs) (sym (take-next all i x there item))

-- an answer by its reply and its count
pub answer-at : (these : List Answered) (replies : List Reply) (counts : List ℕ) (i : ℕ) (reply : Reply) (count : ℕ)
    → replies_in these ≡ replies → note_counts these ≡ counts → i < length replies → reply ≡ get_or replies i reply
    → ((k : ℕ) → slice_get counts i ≡ Some k → k < 2 ^ 32 → count ≡ k) → AreFew these
    → take (i + 1) these ≡ take i these ++ record { reply = reply; notes = count } ∷ []
answer-at [] replies counts i reply count said counted there item told few =
    absurd (omega (arith, there, ap (λ (rs : List Reply). length rs) (sym said)))
answer-at (a ∷ these) [] counts i reply count said counted there item told few = absurd (cc said)
answer-at (a ∷ these) (r ∷ replies) [] i reply count said counted there item told few = absurd (cc counted)
answer-at (a ∷ these) (r ∷ replies) (k ∷ counts) zero reply count said counted there item told few =
    let same : a.reply ≡ r = cc said in
    let many : a.notes ≡ k = cc counted in
    let small : a.notes < 2 ^ 32 = All-head (λ (x : Answered). x.notes < 2 ^ 32) a these few in
    let is : count ≡ a.notes =
    told k refl (omega (arith, small, many)) ∙ sym many in
    λ j. record { reply = (same ∙ sym item) j; notes = (sym is) j } ∷ []
answer-at (a ∷ these) (r ∷ replies) (k ∷ counts) (suc i) reply count said counted there item told few =
    let rest : replies_in these ≡ replies = cc said in
    let others : note_counts these ≡ counts = cc counted in
    let more : suc i + 1 ≡ suc (i + 1) = omega arith in
    ap (λ (n : ℕ). take n (a ∷ these)) more
    ∙ ap (λ (list : List Answered). a ∷ list)
    (answer-at these replies counts i reply count rest others (omega (arith, there)) item told
    (All-tail (λ (x : Answered). x.notes < 2 ^ 32) a these few))

-- ---- Logs with their replies.

-- the logs of one lane more
pub logs-further : (answered : List (List Answered)) (bare logs new : List LaneLog) (log from : LaneLog) (i : ℕ)
    → new ≡ logs ++ log ∷ [] → i < length answered → i < length bare → from ≡ get_or bare i from
    → log.replies ≡ of_lane answered i → log.notes ≡ from.notes
    → (map (λ l. l.replies) logs ≡ take i answered) × (map (λ l. l.notes) logs ≡ map (λ l. l.notes) (take i bare))
    → (map (λ l. l.replies) new ≡ take (i + 1) answered)
    × (map (λ l. l.notes) new ≡ map (λ l. l.notes) (take (i + 1) bare))
logs-further answered bare logs new log from i is there below item replies notes so = (
  ap (λ (ls : List LaneLog). map (λ l. l.replies) ls) is
      ∙ map-append (λ (l : LaneLog). l.replies) logs (log ∷ [])
      ∙ (λ j. so.0 j ++ replies j ∷ [])
      ∙ sym (take-next answered i (of_lane answered i) there (lane-get answered i there)),
  ap (λ (ls : List LaneLog). map (λ l. l.notes) ls) is
      ∙ map-append (λ (l : LaneLog). l.notes) logs (log ∷ [])
      ∙ (λ j. so.1 j ++ notes j ∷ [])
      ∙ sym (map-append (λ (l : LaneLog). l.notes) (take i bare) (from ∷ []))
      ∙ ap (λ (ls : List LaneLog). map (λ l. l.notes) ls) (sym (take-next bare i from below item)),
)
  where
    lane-get : (lists : List (List Answered)) (k : ℕ) → k < length lists
        → of_lane lists k ≡ get_or lists k (of_lane lists k)
    lane-get [] k less = absurd (omega (arith, less))
    lane-get (x ∷ lists) zero less = refl
    lane-get (x ∷ lists) (suc k) less = lane-get lists k (omega (arith, less))

-- the counts and the replies of a lane
pub lane-counts : (answered : List (List Answered)) (counts : List (List ℕ)) (i : ℕ) → map note_counts answered ≡ counts
    → note_counts (of_lane answered i) ≡ of_lane counts i
lane-counts [] [] i same = refl
lane-counts [] (c ∷ counts) i same = absurd (cc same)
lane-counts (a ∷ answered) [] i same = absurd (cc same)
lane-counts (a ∷ answered) (c ∷ counts) zero same = cc same
lane-counts (a ∷ answered) (c ∷ counts) (suc i) same =
    let rest : map note_counts answered ≡ counts = cc same in lane-counts answered counts i rest

pub lane-few : (answered : List (List Answered)) (i : ℕ) → i < length answered → All AreFew answered
    → AreFew (of_lane answered i)
lane-few [] i there few = absurd (omega (arith, there))
lane-few (a ∷ answered) zero there few = All-head AreFew a answered few
lane-few (a ∷ answered) (suc i) there few = lane-few answered i (omega (arith, there)) (All-tail AreFew a answered few)

pub lane-replies : (answered : List (List Answered)) (lists : List (Vec Reply Global)) (i : ℕ) (d : Vec Reply Global)
    → map replies_in answered ≡ lists_in lists → i < length lists
    → replies_in (of_lane answered i) ≡ (get_or lists i d).items
lane-replies answered [] i d same there = absurd (omega (arith, there))
lane-replies [] (l ∷ lists) i d same there = absurd (cc same)
lane-replies (a ∷ answered) (l ∷ lists) zero d same there = cc same
lane-replies (a ∷ answered) (l ∷ lists) (suc i) d same there =
    let rest : map replies_in answered ≡ lists_in lists = cc same in
    lane-replies answered lists i d rest (omega (arith, there))
