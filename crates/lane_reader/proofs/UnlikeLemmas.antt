-- The first command whose reply and notes are not those of the law, as the program finds it.
use Rattle.std.proofs.Common.{◌≡◌, ℕ, suc, ◌<◌, ◌≤◌, List, length, take, drop, true, refl, sym, ap, arith, subst₂, ◌∙◌}
use Rattle.std.specs.Prelude.{sum, min, Option, Some, None, is_some}
use Rattle.std.proofs.lemmas.List.{length-take, take_all, take-take}
use Rattle.pool_law.specs.declared.command.Command.{Command}
use Rattle.pool_law.specs.declared.run.Shape.{Shape}
use Rattle.pool_law.specs.declared.run.Answered.{Answered}
use Rattle.pool_law.specs.Readers.{ToldNotes}
use Rattle.pool_law.specs.LaneLaw.{behind, note_counts, closes, IsLaneLog}
use Rattle.lane_reader.specs.Unlike.{AreAnswered, IsUnlikeAt}
use Rattle.lane_reader.proofs.FrontLemmas.{noted-sum}
use Rattle.lane_reader.proofs.WholeLemmas.{behind-is, answered-lengths, answered-front}

some-unit : (o : Option (Unit {0})) → is_some o ≡ true → o ≡ Some tt
some-unit None e = absurd (cc e)
some-unit (Some u) e = refl

module _ (shape : Shape) (lane : ℕ) (cs : List Command) (rs : List Answered) (es : ToldNotes) where
  -- a log of a lane is its commands' and its closing
  log-answered : IsLaneLog shape lane cs rs es → AreAnswered shape lane cs rs es
  log-answered log =
      record { counted = log.counted; last = log.last; answered = log.answered; stopped = log.stopped }

  left-behind : drop (sum (note_counts rs)) es ≡ behind (note_counts rs) es
  left-behind = ap (λ (n : ℕ). drop n es) (noted-sum rs) ∙ sym (behind-is rs es)

  log-from : AreAnswered shape lane cs rs es → (left : ToldNotes) → left ≡ drop (sum (note_counts rs)) es →
      is_some (closes lane left) ≡ true → IsLaneLog shape lane cs rs es
  log-from all left is closed = record {
    counted = all.counted;
    last = all.last;
    answered = all.answered;
    stopped = all.stopped;
    closed =
        ap (λ (end : ToldNotes). closes lane end) (sym (is ∙ left-behind))
        ∙ some-unit (closes lane left) closed;
  }

  log-closes : IsLaneLog shape lane cs rs es → (left : ToldNotes) → left ≡ drop (sum (note_counts rs)) es →
      is_some (closes lane left) ≡ true
  log-closes log left is =
      ap (λ (end : ToldNotes). is_some (closes lane end)) (is ∙ left-behind)
      ∙ ap (λ (o : Option (Unit {0})). is_some o) log.closed

  pub log-lengths : IsLaneLog shape lane cs rs es → length cs ≡ length rs
  log-lengths log = answered-lengths shape lane cs rs es (log-answered log)

  module _ (count : ℕ) where
    abbrev these : List Command
    these = take count cs

    abbrev answers : List Answered
    answers = take count rs

    -- a command of those that have a reply
    pub unlike-until : (k : ℕ) → k < length these → AreAnswered shape lane (take k these) (take k answers) es →
        (AreAnswered shape lane (take (suc k) these) (take (suc k) answers) es → ⊥) →
        IsUnlikeAt shape lane cs rs es k
    unlike-until k there before no-longer =
        let at : k ≤ count = omega (arith, there, length-take count cs) in
        let past : suc k ≤ count = omega (arith, there, length-take count cs) in
        let Q : List Command → List Answered → Type 0 = λ bs qs. AreAnswered shape lane bs qs es in
        let no : AreAnswered shape lane (take (suc k) cs) (take (suc k) rs) es → ⊥ =
        λ all.
        no-longer (subst₂ Q (sym (take-take (suc k) count cs past)) (sym (take-take (suc k) count rs past)) all) in
        record {
          within = omega (arith, there, length-take count cs);
          before = subst₂ Q (take-take k count cs at) (take-take k count rs at) before;
          with_it = λ more. no;
          law = λ log. no (answered-front shape lane cs rs es (suc k) (log-answered log));
        }

    module _ (is : count ≡ min (length cs) (length rs)) (all : AreAnswered shape lane these answers es) where
      -- none of those
      pub unlike-behind : (IsLaneLog shape lane cs rs es → ⊥) → IsUnlikeAt shape lane cs rs es count
      unlike-behind law = record {
        within = omega (arith, is);
        before = all;
        with_it = λ more longer.
            omega (
              arith,
              is,
              more,
              answered-lengths shape lane (take (suc count) cs) (take (suc count) rs) es longer,
              length-take (suc count) cs,
              length-take (suc count) rs,
            );
        law = law;
      }

      module _ (same : length cs ≡ length rs) (left : ToldNotes)
          (left-is : left ≡ drop (sum (note_counts answers)) es) where
        whole : take count cs ≡ cs
        whole = take_all count cs (omega (arith, is, same))

        whole' : take count rs ≡ rs
        whole' = take_all count rs (omega (arith, is, same))

        left-whole : left ≡ drop (sum (note_counts rs)) es
        left-whole = left-is ∙ ap (λ (qs : List Answered). drop (sum (note_counts qs)) es) whole'

        pub whole-log : is_some (closes lane left) ≡ true → IsLaneLog shape lane cs rs es
        whole-log closed =
            log-from
            (subst₂ (λ (bs : List Command) (qs : List Answered). AreAnswered shape lane bs qs es) whole whole' all)
            left left-whole closed

        pub log-whole : IsLaneLog shape lane cs rs es → is_some (closes lane left) ≡ true
        log-whole log = log-closes log left left-whole
