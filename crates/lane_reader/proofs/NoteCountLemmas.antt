-- The counts that the law reads are those of any whole reading.
use Rattle.std.proofs.Common.{◌≡◌, ℕ, zero, suc, ◌<◌, ◌≤◌, List, [], ◌∷◌, ◌++◌, length, take, drop, refl, sym, ap, arith, subst, ⊎_elim, ◌∙◌}
use Rattle.std.specs.Prelude.{◌⊎◌, min, slice_get, Some}
use Rattle.std.proofs.lemmas.List.{length-take, take-take, take_all}
use Rattle.pool_law.specs.declared.command.Command.{Command}
use Rattle.pool_law.specs.declared.run.Shape.{Shape}
use Rattle.pool_law.specs.declared.run.Reply.{Reply}
use Rattle.pool_law.specs.declared.run.Answered.{Answered}
use Rattle.pool_law.specs.Readers.{ToldNotes}
use Rattle.pool_law.specs.LaneLaw.{note_counts, replies_in}
use Rattle.pool_law.proofs.ListLemmas.{slice_get-below}
use Rattle.lane_reader.specs.Cutting.{AreNoteCounts}
use Rattle.lane_reader.specs.Unlike.{AreAnswered}
use Rattle.lane_reader.proofs.JoinLemmas.{drop-of, get-take}
use Rattle.lane_reader.proofs.ReadingLemmas.{take-next}
use Rattle.lane_reader.proofs.UniqueLemmas.{unique}
use Rattle.lane_reader.proofs.WholeLemmas.{answered-front, answered-lengths, take-replies}

-- an item that is there
item-of : {X : Type 0} (xs : List X) (at : ℕ) → at < length xs → (x : X) × (slice_get xs at ≡ Some x)
item-of [] at there = absurd (omega (arith, there))
item-of (x ∷ xs) zero there = (x, refl)
item-of (x ∷ xs) (suc at) there = item-of xs at (omega (arith, there))

get-replies : (qs : List Answered) (at : ℕ) (a : Answered) → slice_get qs at ≡ Some a
    → slice_get (replies_in qs) at ≡ Some a.reply
get-replies [] at a e = absurd (cc e)
get-replies (b ∷ qs) zero a e = let same : b ≡ a = cc e in λ i. Some (same i).reply
get-replies (b ∷ qs) (suc at) a e = get-replies qs at a e

order : (a b : ℕ) → (a < b) ⊎ (b ≤ a)
order a b = grind arith

module _ (shape : Shape) (lane : ℕ) (cs : List Command) (rs : List Reply) (es : ToldNotes) (counts : List ℕ) where
  module _ (cut : AreNoteCounts shape lane cs rs es counts) (answered : List Answered)
      (same : replies_in answered ≡ rs) (all : AreAnswered shape lane cs answered es) where
    -- there are as many commands, replies and answers
    commands-long : length cs ≡ length answered
    commands-long = answered-lengths shape lane cs answered es all

    -- the first so many answers are those that the law reads
    front : cut.first ≡ take (length counts) answered
    front =
        unique shape lane (take (length counts) cs) cut.first (take (length counts) answered) es
        (cut.replied
        ∙ ap (λ (replies : List Reply). take (length counts) replies) (sym same)
        ∙ sym (take-replies answered (length counts)))
        cut.are (answered-front shape lane cs answered es (length counts) all)

    -- the law reads all
    not-less : length counts < length cs → ⊥
    not-less less =
        let found = item-of answered (length counts) (omega (arith, less, commands-long)) in
        let more : take (suc (length counts)) answered ≡ take (length counts) answered ++ found.0 ∷ [] =
        take-next answered (length counts) found.0 (drop (suc (length counts)) answered)
        (drop-of answered (length counts) found.0 found.1) in
        let item : slice_get rs (length counts) ≡ Some found.0.reply =
        ap (λ (replies : List Reply). slice_get replies (length counts)) (sym same)
        ∙ get-replies answered (length counts) found.0 found.1 in
        cut.next found.0.reply found.0.notes less item
        (subst (λ (qs : List Answered). AreAnswered shape lane (take (suc (length counts)) cs) qs es)
        (more ∙ ap (λ (qs : List Answered). qs ++ found.0 ∷ []) (sym front))
        (answered-front shape lane cs answered es (suc (length counts)) all))

    pub only-these : counts ≡ note_counts answered
    only-these = ⊎_elim (λ less. absurd (not-less less)) whole (order (length counts) (length cs))
      where
        whole : length cs ≤ length counts → counts ≡ note_counts answered
        whole past =
            sym cut.counted
            ∙ ap (λ (qs : List Answered). note_counts qs)
            (front ∙ take_all (length counts) answered (omega (arith, past, commands-long)))

  -- what is read with the first so many commands and replies, where there are no more of both
  module _ (k : ℕ) (least : k ≡ min (length cs) (length rs))
      (cut : AreNoteCounts shape lane (take k cs) (take k rs) es counts) where
    few : length counts ≤ k
    few = omega (arith, cut.within, length-take k cs)

    pub wider : AreNoteCounts shape lane cs rs es counts
    wider = record {
      within = omega (arith, few, least);
      first = cut.first;
      replied = cut.replied ∙ take-take (length counts) k rs few;
      counted = cut.counted;
      are =
          subst (λ (bs : List Command). AreAnswered shape lane bs cut.first es) (take-take (length counts) k cs few)
          cut.are;
      next = λ reply count there item all.
          let below : length counts < length rs = slice_get-below rs (length counts) reply item in
          let less : length counts < k = omega (arith, there, below, least) in
          cut.next reply count (omega (arith, less, least, length-take k cs))
          (get-take rs (length counts) k less ∙ item)
          (subst
          (λ (bs : List Command). AreAnswered shape lane bs (cut.first ++ record { reply = reply; notes = count } ∷ [])
          es)
          (sym (take-take (suc (length counts)) k cs (omega (arith, less)))) all);
    }
