-- How far commands have their replies and notes, as the program cuts them at the stop.
use Rattle.std.proofs.Common.{◌≡◌, ℕ, suc, ◌+◌, ◌-◌, ◌<◌, ◌≤◌, List, length, take, drop, sym, ap, arith, subst, subst₂, ◌∙◌, length-drop}
use Rattle.std.proofs.Math.Path.{subst₃}
use Rattle.std.specs.Prelude.{sum}
use Rattle.std.proofs.lemmas.List.{drop-drop, length-take, take-take}
use Rattle.pool_law.specs.declared.command.Command.{Command}
use Rattle.pool_law.specs.declared.run.Shape.{Shape}
use Rattle.pool_law.specs.declared.run.Answered.{Answered}
use Rattle.pool_law.specs.Readers.{ToldNotes}
use Rattle.pool_law.specs.LaneLaw.{before_stop, note_counts, replies_in}
use Rattle.lane_reader.specs.Running.{HasRun, HasStopped}
use Rattle.lane_reader.specs.Unlike.{AreAnswered}
use Rattle.lane_reader.proofs.PieceLemmas.{rest-whole}
use Rattle.lane_reader.proofs.FrontLemmas.{noted, noted-sum}
use Rattle.lane_reader.proofs.WholeLemmas.{noted-parts, parts-answered, first-running, first-stopped}

module _ (shape : Shape) (lane : ℕ) (cs : List Command) (rs : List Answered) (es : ToldNotes) where
  -- the first so many have their replies and notes, and no longer with the next
  abbrev pub Until : ℕ → Type 0
  Until k =
      (k < length cs)
      × AreAnswered shape lane (take k cs) (take k rs) es
      × (AreAnswered shape lane (take (suc k) cs) (take (suc k) rs) es → ⊥)

  module _ (stop : ℕ) (is : stop ≡ before_stop (replies_in rs)) where
    pub until-running : (k : ℕ) → k < length (take stop cs) →
        HasRun shape lane (take k (take stop cs)) (take k (take stop rs)) es →
        (HasRun shape lane (take (suc k) (take stop cs)) (take (suc k) (take stop rs)) es → ⊥) → Until k
    until-running k there run no-longer =
        let at : k ≤ stop = omega (arith, there, length-take stop cs) in
        let past : suc k ≤ stop = omega (arith, there, length-take stop cs) in
        let Q : List Command → List Answered → Type 0 = λ bs qs. HasRun shape lane bs qs es in (
          omega (arith, there, length-take stop cs),
          (first-running shape lane cs rs es k (omega (arith, at, is))).1
              (subst₂ Q (take-take k stop cs at) (take-take k stop rs at) run),
          λ all.
              no-longer
              (subst₂ Q (sym (take-take (suc k) stop cs past)) (sym (take-take (suc k) stop rs past))
              ((first-running shape lane cs rs es (suc k) (omega (arith, past, is))).0 all)),
        )

    module _ (run : HasRun shape lane (take stop cs) (take stop rs) es) (left : ToldNotes)
        (left-is : left ≡ drop (sum (note_counts (take stop rs))) es) where
      -- the commands behind the stop
      abbrev rest : List Command
      rest = take (length cs - stop) (drop stop cs)

      abbrev answers : List Answered
      answers = take (length rs - stop) (drop stop rs)

      left-noted : left ≡ drop (noted (take stop rs)) es
      left-noted = left-is ∙ ap (λ (n : ℕ). drop n es) (noted-sum (take stop rs))

      abbrev P : List Command → List Answered → ToldNotes → Type 0
      P bs qs end = HasStopped lane bs qs end

      stopped-at : (j : ℕ) → HasStopped lane (take j rest) (take j answers) left →
          AreAnswered shape lane (take (stop + j) cs) (take (stop + j) rs) es
      stopped-at j these =
          (first-stopped shape lane cs rs es stop is j run).1
          (subst₃ P (ap (λ (bs : List Command). take j bs) (rest-whole cs stop))
          (ap (λ (qs : List Answered). take j qs) (rest-whole rs stop)) left-noted these)

      at-stopped : (j : ℕ) → AreAnswered shape lane (take (stop + j) cs) (take (stop + j) rs) es →
          HasStopped lane (take j rest) (take j answers) left
      at-stopped j all =
          subst₃ P (sym (ap (λ (bs : List Command). take j bs) (rest-whole cs stop)))
          (sym (ap (λ (qs : List Answered). take j qs) (rest-whole rs stop))) (sym left-noted)
          ((first-stopped shape lane cs rs es stop is j run).0 all)

      pub until-stopped : (j : ℕ) → j < length rest → HasStopped lane (take j rest) (take j answers) left →
          (HasStopped lane (take (suc j) rest) (take (suc j) answers) left → ⊥) → Until (stop + j)
      until-stopped j there these no-longer =
          let more : suc (stop + j) ≡ stop + suc j = omega arith in (
            omega (arith, there, length-take (length cs - stop) (drop stop cs), length-drop stop cs),
            stopped-at j these,
            λ all.
                no-longer
                (at-stopped (suc j)
                (subst (λ (k : ℕ). AreAnswered shape lane (take k cs) (take k rs) es) more all)),
          )

      pub whole-stopped : HasStopped lane rest answers left → (end : ToldNotes) →
          end ≡ drop (sum (note_counts answers)) left →
          AreAnswered shape lane cs rs es × (end ≡ drop (sum (note_counts rs)) es)
      whole-stopped these end end-is =
          let second : sum (note_counts answers) ≡ noted (drop stop rs) =
          ap (λ (qs : List Answered). sum (note_counts qs)) (rest-whole rs stop) ∙ noted-sum (drop stop rs) in
          let all : noted (take stop rs) + sum (note_counts answers) ≡ sum (note_counts rs) =
          omega (arith, second, noted-parts shape lane cs rs es stop) in (
            parts-answered shape lane cs rs es stop is (record {
              running = run;
              stopped = subst₃ P (rest-whole cs stop) (rest-whole rs stop) left-noted these;
            }),
            end-is
                ∙ ap (λ (xs : ToldNotes). drop (sum (note_counts answers)) xs) left-noted
                ∙ drop-drop (sum (note_counts answers)) (noted (take stop rs)) es
                ∙ ap (λ (n : ℕ). drop n es) all,
          )
