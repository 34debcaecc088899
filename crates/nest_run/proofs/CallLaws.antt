-- Calls that are played one after another.
use Rattle.std.proofs.Common.{◌≡◌, ℕ, ◌+◌, ◌-◌, ◌<◌, ◌≤◌, List, [], ◌∷◌, ◌++◌, length, drop, get_or, refl, sym, ap, ◌∙◌, subst, arith, drop-cons, add-one, append-nil}
use Rattle.std.proofs.lemmas.List.{drop_all}
use Rattle.pool_law.proofs.HistoryLemmas.{append-assoc}
use Rattle.shared_pool.specs.declared.pool.SharedPool.{SharedPool}
use Rattle.nest_run.specs.declared.calls.Call.{Call}
use Rattle.nest_run.specs.declared.replies.Reply.{Reply}
use Rattle.nest_run.specs.declared.views.Playing.{Playing}
use Rattle.nest_run.specs.Plays.{Stage, stage_after, replies_from}
use Rattle.nest_run.specs.Standing.{stage_of, Stands, IsPlayed, HasGone, HasAnswered}

-- nothing was played yet
pub gone_first : (pool : SharedPool) (calls : List Call) (p : Playing) → Stands pool (length calls) p
    → HasGone pool calls 0 p [] p
gone_first pool calls p stands = record {
  stands = subst (λ (n : ℕ). Stands pool n p) (omega arith) stands;
  whole = λ w. w;
  right = λ w bytes has. record { then_bytes = bytes; has = has; answers_are = refl; stage_is = refl };
}

-- what is left at a call
rest_at : (calls : List Call) (at : ℕ) (call : Call) → at < length calls → call ≡ get_or calls at call
    → drop at calls ≡ call ∷ drop (at + 1) calls
rest_at calls at call lt is =
    drop-cons calls at call lt
    ∙ (λ i. sym is i ∷ drop (sym (add-one at) i) calls)

-- one call more
pub gone_on : (pool : SharedPool) (calls : List Call) (at : ℕ) (old mid new : Playing) (answers : List Reply)
    (call : Call)
    (reply : Reply) → at < length calls → call ≡ get_or calls at call → HasGone pool calls at old answers mid
    → IsPlayed pool call mid reply new → HasGone pool calls (at + 1) old (answers ++ reply ∷ []) new
gone_on pool calls at old mid new answers call reply lt is gone played = record {
  stands =
      played.next (length calls - (at + 1))
      (subst (λ (n : ℕ). Stands pool n mid) (omega (arith, lt)) gone.stands);
  whole = λ w. gone.whole (played.whole w);
  right = λ w bytes has.
      (let f = gone.right (played.whole w) bytes has in
      let p = played.right w f.then_bytes f.has in
      let rest = rest_at calls at call lt is in
      record {
        then_bytes = p.then_bytes;
        has = p.has;
        answers_are =
            append-assoc answers (reply ∷ []) (replies_from (stage_of new.nest p.then_bytes) (drop (at + 1) calls))
            ∙ ap (λ (s : Reply × Stage). answers ++ s.0 ∷ replies_from s.1 (drop (at + 1) calls)) (sym p.step_is)
            ∙ ap (λ (cs : List Call). answers ++ replies_from (stage_of mid.nest f.then_bytes) cs) (sym rest)
            ∙ f.answers_are;
        stage_is =
            ap (λ (s : Reply × Stage). stage_after s.1 (drop (at + 1) calls)) (sym p.step_is)
            ∙ ap (λ (cs : List Call). stage_after (stage_of mid.nest f.then_bytes) cs) (sym rest)
            ∙ f.stage_is;
      });
}

-- all calls
pub gone_last : (pool : SharedPool) (calls : List Call) (at : ℕ) (old new : Playing) (answers : List Reply)
    → length calls ≤ at → HasGone pool calls at old answers new → HasAnswered pool calls old answers new
gone_last pool calls at old new answers le gone = record {
  stands = subst (λ (n : ℕ). Stands pool n new) (omega (arith, le)) gone.stands;
  whole = gone.whole;
  right = λ w bytes has.
      (let f = gone.right w bytes has in
      let none : drop at calls ≡ [] = drop_all at calls le in (
        sym (append-nil answers)
            ∙ ap (λ (cs : List Call). answers ++ replies_from (stage_of new.nest f.then_bytes) cs) (sym none)
            ∙ f.answers_are,
        ap (λ (cs : List Call). (stage_after (stage_of new.nest f.then_bytes) cs).nest) (sym none)
            ∙ ap (λ (s : Stage). s.nest) f.stage_is,
      ));
}
