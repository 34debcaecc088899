-- The counts of a lane that runs, and behind them those of one that is stopped.
use Rattle.std.proofs.Common.{◌≡◌, ℕ, zero, suc, ◌+◌, ◌<◌, ◌≤◌, List, [], ◌∷◌, ◌++◌, length, take, drop, take-add, length-drop, refl, sym, ap, arith, subst, subst₂, ◌∙◌, append_assoc, take_at, drop_at}
use Rattle.std.proofs.Math.Path.{subst₃}
use Rattle.std.specs.Prelude.{◌↔◌, sum, slice_get, Some}
use Rattle.std.proofs.lemmas.List.{drop-take, length-append, length-map, length-take, map-append, take-take, take_all}
use Rattle.pool_law.specs.declared.command.Command.{Command}
use Rattle.pool_law.specs.declared.run.Shape.{Shape}
use Rattle.pool_law.specs.declared.run.Reply.{Reply}
use Rattle.pool_law.specs.declared.run.Answered.{Answered}
use Rattle.pool_law.specs.Readers.{ToldNotes}
use Rattle.pool_law.specs.LaneLaw.{before_stop, replies_in}
use Rattle.lane_reader.specs.Cutting.{AreCutAt, AreCut, AreNoteCounts, with_count}
use Rattle.lane_reader.specs.Running.{HasRun, HasStopped}
use Rattle.lane_reader.specs.Unlike.{AreAnswered}
use Rattle.lane_reader.proofs.CuttingLemmas.{replies-more}
use Rattle.lane_reader.proofs.FrontLemmas.{noted, noted-sum}
use Rattle.lane_reader.proofs.ReadingLemmas.{take-next}
use Rattle.lane_reader.proofs.WholeLemmas.{answered-parts, first-running, parts-answered, stop-first}

-- ---- Lists.

-- an item of the first so many is an item of them all
pub get-take : {X : Type 0} (xs : List X) (at n : ℕ) → at < n → slice_get (take n xs) at ≡ slice_get xs at
get-take xs at zero less = absurd (omega (arith, less))
get-take [] at (suc n) less = refl
get-take (x ∷ xs) zero (suc n) less = refl
get-take (x ∷ xs) (suc at) (suc n) less = get-take xs at n (omega (arith, less))

-- an item behind the first so many
get-drop : {X : Type 0} (xs : List X) (n at : ℕ) → slice_get (drop n xs) at ≡ slice_get xs (n + at)
get-drop xs zero at = ap (λ (k : ℕ). slice_get xs k) (omega arith)
get-drop [] (suc n) at = refl
get-drop (x ∷ xs) (suc n) at =
    let more : suc n + at ≡ suc (n + at) = omega arith in
    get-drop xs n at ∙ ap (λ (k : ℕ). slice_get (x ∷ xs) k) (sym more)

-- the next of the first so many
pub drop-of : {X : Type 0} (xs : List X) (at : ℕ) (x : X) → slice_get xs at ≡ Some x → drop at xs ≡ x ∷ drop (suc at) xs
drop-of [] at x e = absurd (cc e)
drop-of (y ∷ ys) zero x e = let same : y ≡ x = cc e in λ i. same i ∷ ys
drop-of (y ∷ ys) (suc at) x e = drop-of ys at x e

-- the first so many replies, with the next
with-next : (replies : List Reply) (first : List Answered) (at : ℕ) (reply : Reply) (count : ℕ)
    → replies_in first ≡ take at replies → slice_get replies at ≡ Some reply
    → replies_in (first ++ with_count reply count ∷ []) ≡ take (suc at) replies
with-next replies first at reply count replied there =
    replies-more first (with_count reply count)
    ∙ ap (λ (rs : List Reply). rs ++ reply ∷ []) replied
    ∙ sym (take-next replies at reply (drop (suc at) replies) (drop-of replies at reply there))

-- so many replies are so many answers
replied-long : (replies : List Reply) (first : List Answered) (at : ℕ) → replies_in first ≡ take at replies
    → at ≤ length replies → length first ≡ at
replied-long replies first at replied within =
    omega (
      arith,
      within,
      ap (λ (rs : List Reply). length rs) replied,
      length-take at replies,
      length-map first (λ (a : Answered). a.reply),
    )

-- ---- No stop is among these.

module _ (shape : Shape) (lane : ℕ) (bs : List Command) (qs : List Answered) (es : ToldNotes)
    (many : length bs ≤ length qs) (none : length qs ≤ before_stop (replies_in qs)) where
  running-is : AreAnswered shape lane bs qs es ↔ HasRun shape lane bs qs es
  running-is =
      let commands : take (length qs) bs ≡ bs = take_all (length qs) bs many in
      let answers : take (length qs) qs ≡ qs = take_all (length qs) qs (omega arith) in
      let both = first-running shape lane bs qs es (length qs) none in
      let Q : List Command → List Answered → Type 0 = λ cs rs. HasRun shape lane cs rs es in
      let R : List Command → List Answered → Type 0 = λ cs rs. AreAnswered shape lane cs rs es in (
        λ all. subst₂ Q commands answers (both.0 (subst₂ R (sym commands) (sym answers) all)),
        λ run. subst₂ R commands answers (both.1 (subst₂ Q (sym commands) (sym answers) run)),
      )

-- ---- Up to the stop.

module _ (shape : Shape) (lane : ℕ) (cs : List Command) (rs : List Reply) (es : ToldNotes)
    (many : length cs ≡ length rs) (stop : ℕ) (is : stop ≡ before_stop rs) (stops : stop ≤ length rs)
    (counts : List ℕ) (cut : AreCut (HasRun shape lane) (take stop cs) (take stop rs) es counts) where
  up-to : length counts ≤ stop
  up-to = omega (arith, cut.within, length-take stop cs)

  first-replied : replies_in cut.first ≡ take (length counts) rs
  first-replied = cut.replied ∙ take-take (length counts) stop rs up-to

  first-long : length cut.first ≡ length counts
  first-long = replied-long rs cut.first (length counts) first-replied (omega (arith, up-to, stops))

  -- the law stops before it
  pub cut-early : length counts < stop → AreNoteCounts shape lane cs rs es counts
  cut-early less = record {
    within = omega (arith, less, stops, many);
    first = cut.first;
    replied = first-replied;
    counted = cut.counted;
    are =
        (running-is shape lane (take (length counts) cs) cut.first es
        (omega (arith, first-long, length-take (length counts) cs))
        (omega (
          arith,
          first-long,
          up-to,
          is,
          stop-first rs (length counts),
          ap (λ (replies : List Reply). before_stop replies) first-replied,
        ))).1
        (subst (λ (bs : List Command). HasRun shape lane bs cut.first es) (take-take (length counts) stop cs up-to)
        cut.are);
    next = λ reply count there item all.
        let said : replies_in (cut.first ++ with_count reply count ∷ []) ≡ take (suc (length counts)) rs =
        with-next rs cut.first (length counts) reply count first-replied item in
        let long : length (cut.first ++ with_count reply count ∷ []) ≡ suc (length counts) =
        replied-long rs (cut.first ++ with_count reply count ∷ []) (suc (length counts)) said
        (omega (arith, less, stops)) in
        let run : HasRun shape lane (take (suc (length counts)) cs) (cut.first ++ with_count reply count ∷ []) es =
        (running-is shape lane (take (suc (length counts)) cs) (cut.first ++ with_count reply count ∷ []) es
        (omega (arith, long, length-take (suc (length counts)) cs))
        (omega (
          arith,
          long,
          less,
          is,
          stop-first rs (suc (length counts)),
          ap (λ (replies : List Reply). before_stop replies) said,
        ))).0 all in
        cut.next reply count (omega (arith, less, stops, many, length-take stop cs))
        (get-take rs (length counts) stop less ∙ item)
        (subst (λ (bs : List Command). HasRun shape lane bs (cut.first ++ with_count reply count ∷ []) es)
        (sym (take-take (suc (length counts)) stop cs (omega (arith, less)))) run);
  }

  -- ---- And behind it.

  module _ (whole : length counts ≡ stop) (left : ToldNotes) (rest : left ≡ drop (sum counts) es) (more : List ℕ)
      (behind : AreCut (HasStopped lane) (drop stop cs) (drop stop rs) left more) where
    run-first : HasRun shape lane (take stop cs) cut.first es
    run-first =
        subst (λ (bs : List Command). HasRun shape lane bs cut.first es)
        (ap (λ (n : ℕ). take n (take stop cs)) whole ∙ take-take stop stop cs (omega arith)) cut.are

    stop-long : length cut.first ≡ stop
    stop-long = first-long ∙ whole

    left-is : left ≡ drop (noted cut.first) es
    left-is =
        rest
        ∙ ap (λ (n : ℕ). drop n es) (ap (λ (ns : List ℕ). sum ns) (sym cut.counted) ∙ noted-sum cut.first)

    -- these and others behind them
    split-parts : (others : List Answered)
        → (take stop (cut.first ++ others) ≡ cut.first) × (drop stop (cut.first ++ others) ≡ others)
    split-parts others =
        (take_at cut.first others stop stop-long, drop_at cut.first others stop stop-long)

    -- the replies of these and of others
    join-replied : (others : List Answered) (n : ℕ) → replies_in others ≡ take n (drop stop rs)
        → replies_in (cut.first ++ others) ≡ take (stop + n) rs
    join-replied others n replied =
        map-append (λ (a : Answered). a.reply) cut.first others
        ∙ (λ i. first-replied i ++ replied i)
        ∙ ap (λ (k : ℕ). take k rs ++ take n (drop stop rs)) whole
        ∙ sym (take-add stop n rs)

    stop-there : (others : List Answered) (n : ℕ) → replies_in others ≡ take n (drop stop rs)
        → stop ≡ before_stop (replies_in (cut.first ++ others))
    stop-there others n replied =
        omega (
          arith,
          is,
          stop-first rs (stop + n),
          ap (λ (replies : List Reply). before_stop replies) (join-replied others n replied),
        )

    -- these commands in two parts
    both : (others : List Answered) (n : ℕ) → replies_in others ≡ take n (drop stop rs)
        → AreAnswered shape lane (take (stop + n) cs) (cut.first ++ others) es
        ↔ HasStopped lane (take n (drop stop cs)) others left
    both others n replied =
        let parts = split-parts others in
        let stop-is = stop-there others n replied in
        let commands : drop stop (take (stop + n) cs) ≡ take n (drop stop cs) = drop-take stop n cs in
        let front : take stop (take (stop + n) cs) ≡ take stop cs = take-take stop (stop + n) cs (omega arith) in
        let end : drop (noted (take stop (cut.first ++ others))) es ≡ left =
        ap (λ (qs : List Answered). drop (noted qs) es) parts.0 ∙ sym left-is in
        let P : List Command → List Answered → ToldNotes → Type 0 = λ bs qs xs. HasStopped lane bs qs xs in (
          λ all.
              subst₃ P commands parts.1 end
              (answered-parts shape lane (take (stop + n) cs) (cut.first ++ others) es stop stop-is all).stopped,
          λ these.
              parts-answered shape lane (take (stop + n) cs) (cut.first ++ others) es stop stop-is (record {
                running =
                    subst₂ (λ (bs : List Command) (qs : List Answered). HasRun shape lane bs qs es) (sym front)
                    (sym parts.0) run-first;
                stopped = subst₃ P (sym commands) (sym parts.1) (sym end) these;
              }),
        )

    -- the law reads none of the next
    late-next : (reply : Reply) (count : ℕ) → stop + length more < length cs
        → slice_get rs (stop + length more) ≡ Some reply
        → AreAnswered shape lane (take (suc (stop + length more)) cs)
        ((cut.first ++ behind.first) ++ with_count reply count ∷ []) es → ⊥
    late-next reply count there item all =
        let further : suc (stop + length more) ≡ stop + suc (length more) = omega arith in
        let here : slice_get (drop stop rs) (length more) ≡ Some reply = get-drop rs stop (length more) ∙ item in
        let said : replies_in (behind.first ++ with_count reply count ∷ []) ≡ take (suc (length more)) (drop stop rs) =
        with-next (drop stop rs) behind.first (length more) reply count behind.replied here in
        let parts :
        AreAnswered shape lane (take (stop + suc (length more)) cs)
        (cut.first ++ (behind.first ++ with_count reply count ∷ [])) es =
        subst₂ (λ (k : ℕ) (qs : List Answered). AreAnswered shape lane (take k cs) qs es) further
        (append_assoc cut.first behind.first (with_count reply count ∷ [])) all in
        behind.next reply count (omega (arith, there, length-drop stop cs)) here
        ((both (behind.first ++ with_count reply count ∷ []) (suc (length more)) said).0 parts)

    total : length (counts ++ more) ≡ stop + length more
    total = omega (arith, whole, length-append counts more)

    pub cut-late : AreNoteCounts shape lane cs rs es (counts ++ more)
    cut-late =
        subst (λ (n : ℕ). AreCutAt (AreAnswered shape lane) cs rs es (counts ++ more) n) (sym total) (record {
          within = omega (arith, behind.within, stops, many, length-drop stop cs);
          first = cut.first ++ behind.first;
          replied = join-replied behind.first (length more) behind.replied;
          counted =
              map-append (λ (a : Answered). a.notes) cut.first behind.first
              ∙ (λ i. cut.counted i ++ behind.counted i);
          are = (both behind.first (length more) behind.replied).1 behind.are;
          next = late-next;
        })
