-- The log of a lane up to its stop and behind it, with one command more that is passed over.
use Rattle.std.proofs.Common.{◌≡◌, ℕ, suc, ◌≤◌, List, [], ◌∷◌, ◌++◌, length, take, drop, refl, sym, ap, ◌∙◌, subst, arith, Option, Some, None}
use Rattle.std.specs.Prelude.{IsSome}
use Rattle.std.proofs.lemmas.List.{length-map, length-take-le}
use Rattle.pool_law.specs.declared.command.Command.{Command}
use Rattle.pool_law.specs.declared.run.Answered.{Answered}
use Rattle.pool_law.specs.declared.run.Reply.{Reply}
use Rattle.pool_law.specs.declared.run.Shape.{Shape}
use Rattle.pool_law.specs.LaneLaw.{sweep_period, lane_run, stopped_run, before_stop, pieces, note_counts, replies_in}
use Rattle.pool_law.specs.LaneStates.{LaneState, new_lane, log_at}
use Rattle.pool_law.specs.Lanes.{not_carried_out}
use Rattle.pool_law.specs.Options.{◌>>=◌}
use Rattle.pool_law.specs.Readers.{ToldNotes, Log, read_all}
use Rattle.lane_core.specs.declared.lane.Lane.{Lane}
use Rattle.lane_core.specs.Lanes.{HasAnswered, HasPassedOver, answered_entries}
use Rattle.lane_core.proofs.LaneLogs.{take_whole, drop_whole, pieces-length}

-- one more that says so leaves the first stop where it is
pub stop_more : (rs : List Reply) → before_stop (rs ++ Reply.Stopped ∷ []) ≡ before_stop rs
stop_more [] = refl
stop_more (Reply.Stopped ∷ rs) = refl
stop_more (r ∷ rs) = ap suc (stop_more rs)

pub stop_within : (rs : List Reply) → before_stop rs ≤ length rs
stop_within [] = omega arith
stop_within (Reply.Stopped ∷ rs) = omega arith
stop_within (r ∷ rs) = let a = stop_within rs in omega (arith, a)

-- a stopped lane passes one command more over
pub stopped_run-push : (lane : ℕ) (cs : List Command) (groups : List ToldNotes) (c : Command) (es : ToldNotes)
    (replies : List Reply) → stopped_run lane cs groups ≡ Some replies
    → IsSome (read_all (not_carried_out lane c) (log_at new_lane es)) →
    stopped_run lane (cs ++ c ∷ []) (groups ++ es ∷ []) ≡ Some (replies ++ Reply.Stopped ∷ [])
stopped_run-push lane [] [] c es replies run read =
    let same : ◌≡◌ {A = List Reply} [] replies = cc run in
    subst (λ (rs : List Reply). stopped_run lane (c ∷ []) (es ∷ []) ≡ Some (rs ++ Reply.Stopped ∷ [])) same
    (one (read_all (not_carried_out lane c) (log_at new_lane es)) read)
  where
    one : (o : Option (Unit {0} × Log)) → IsSome o
        → (o >>= (λ _. Some (Reply.Stopped ∷ []))) ≡ Some (Reply.Stopped ∷ [])
    one None is = absurd (cc is)
    one (Some x) is = refl
stopped_run-push lane [] (g ∷ groups) c es replies run read = absurd (cc run)
stopped_run-push lane (x ∷ cs) [] c es replies run read = absurd (cc run)
stopped_run-push lane (x ∷ cs) (g ∷ groups) c es replies run read =
    first (read_all (not_carried_out lane x) (log_at new_lane g)) run
    (λ rs is. stopped_run-push lane cs groups c es rs is read)
  where
    behind : Option (List Reply) → Option (List Reply)
    behind o = o >>= (λ rs. Some (Reply.Stopped ∷ rs))

    longer : Option (List Reply)
    longer = stopped_run lane (cs ++ c ∷ []) (groups ++ es ∷ [])

    second : (o : Option (List Reply)) → behind o ≡ Some replies →
        ((rs : List Reply) → o ≡ Some rs → longer ≡ Some (rs ++ Reply.Stopped ∷ [])) →
        behind longer ≡ Some (replies ++ Reply.Stopped ∷ [])
    second None is more = absurd (cc is)
    second (Some rs) is more =
        let same : Reply.Stopped ∷ rs ≡ replies = cc is in
        subst (λ (all : List Reply). behind longer ≡ Some (all ++ Reply.Stopped ∷ [])) same (ap behind (more rs refl))

    first : (o : Option (Unit {0} × Log)) → (o >>= (λ _. behind (stopped_run lane cs groups))) ≡ Some replies →
        ((rs : List Reply) → stopped_run lane cs groups ≡ Some rs → longer ≡ Some (rs ++ Reply.Stopped ∷ [])) →
        (o >>= (λ _. behind longer)) ≡ Some (replies ++ Reply.Stopped ∷ [])
    first None is more = absurd (cc is)
    first (Some p) is more = second (stopped_run lane cs groups) is more

-- a lane that is stopped nowhere passes none over
never_stopped : (lane n : ℕ) (cs : List Command) (gs : List ToldNotes) (rs : List Reply) → length cs ≤ n → length gs ≤ n
    → length rs ≤ n →
    stopped_run lane (drop n cs) (drop n gs) ≡ Some (drop n rs)
never_stopped lane n cs gs rs a b c =
    (λ i. stopped_run lane (drop_whole n cs a i) (drop_whole n gs b i))
    ∙ ap (λ (xs : List Reply). Some xs) (sym (drop_whole n rs c))

-- what a lane has answered that was stopped nowhere is the law's
pub answered_passed : (shape : Shape) (lane : ℕ) (l : Lane) (s : LaneState)
    → length l.context.replies.items ≤ length l.commands → HasAnswered shape lane l s → HasPassedOver shape lane l
answered_passed shape lane l s few was =
    let rs = l.context.replies.items in let n = length rs in
    let ps = pieces (note_counts rs) (answered_entries l) in
    let a = length-map rs (λ (x : Answered). x.reply) in
    let b = pieces-length (note_counts rs) (answered_entries l) ∙ length-map rs (λ (x : Answered). x.notes) in
    let c = length-take-le n l.commands few in
    record {
      counted = was.counted;
      state = s;
      run =
          subst (λ (k : ℕ). lane_run sweep_period shape lane new_lane (take k l.commands) (take k ps)
          ≡ Some (take k (replies_in rs), s)) (sym was.unstopped)
          ((λ i. lane_run sweep_period shape lane new_lane (take n l.commands) (take_whole n ps (omega (arith, b)) i))
          ∙ was.run
          ∙ ap (λ (xs : List Reply). Some (xs, s)) (sym (take_whole n (replies_in rs) (omega (arith, a)))));
      stopped =
          subst (λ (k : ℕ). stopped_run lane (drop k (take n l.commands)) (drop k ps) ≡ Some (drop k (replies_in rs)))
          (sym was.unstopped)
          (never_stopped lane n (take n l.commands) ps (replies_in rs) (omega (arith, c)) (omega (arith, b))
          (omega (arith, a)));
    }
