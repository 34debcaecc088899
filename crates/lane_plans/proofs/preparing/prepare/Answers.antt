use Rattle.std.proofs.Common.{◌≡◌, ℕ, List, length, false, sym, ap, ◌∙◌, subst}
use Rattle.pool_law.specs.declared.command.Command.{Command}
use Rattle.pool_law.specs.Views.{in_range, can_read, can_write, after_read, after_write}
use Rattle.lane_context.specs.declared.access.Access.{Access}
use Rattle.lane_plans.specs.Reaching.{IsMadeSet, BindsBelow}
use Rattle.lane_context.specs.Accesses.{IsPrepared}
use Rattle.lane_context.specs.Works.{IsUnplanned}
use Rattle.lane_plans.proofs.AccessNames.{prepared_set, prepared_get, prepared_write, prepared_read, set_within, get_within}
use Rattle.lane_plans.proofs.preparing.prepare.Goals as goal
use Rattle.lane_plans.proofs.preparing.prepare.Goals.{in-Set+in_ok-access-in-Set, in-Get+in_ok-access-in-Get, in-Write+in_ok-access-in-Write, in-Read+in_ok-access-in-Read}

pub returns-clause-access : goal.returns-clause-access
returns-clause-access c = λ s state.
    let names = c.args.names.now in let cs = c.args.counts.now in
    elim c.match-command.branch [
      | in-Set+in_ok-access-in-Set w ↦
          let f = w.in-Set in let xs : List ℕ = w.items-len.result.now in let a = w.in_ok-access-in-Set.access in
          let is : Command.Set f.name f.at xs f.tries ≡ c.args.command.now =
          ap (λ (ys : List ℕ). Command.Set f.name f.at ys f.tries) w.items-len.ensures ∙ sym f.is in
          subst (λ (x : Command × Access). IsPrepared names cs x.0 x.1 s) (λ i. (is i, sym w.access-is i))
          (prepared_set s names cs state f.name f.at xs f.tries
          (subst (λ (x : Command). IsUnplanned names x) (sym is) c.requires.plain) w.reach_at.result a
          w.reach_at.ensures.ok
          w.reach_at.ensures.refused
          (subst (λ (ys : List ℕ). IsMadeSet w.reach_at.result ys a) (w.items.ensures ∙ sym w.items-len.ensures)
          (w.in_ok-access-in-Set.ensures {u = tt})))
      | in-Get+in_ok-access-in-Get w ↦
          let f = w.in-Get in let a = w.in_ok-access-in-Get.access in
          subst (λ (x : Command × Access). IsPrepared names cs x.0 x.1 s) (λ i. (sym f.is i, sym w.access-is i))
          (prepared_get s names cs state f.name f.at f.len f.tries
          (subst (λ (x : Command). IsUnplanned names x) f.is c.requires.plain) w.reach_at-in-Get.result a
          w.reach_at-in-Get.ensures.ok w.reach_at-in-Get.ensures.refused (w.in_ok-access-in-Get.ensures {u = tt}))
      | in-Write+in_ok-access-in-Write w ↦
          let f = w.in-Write in let xs : List ℕ = w.items-len-in-Write.result.now in let a =
          w.in_ok-access-in-Write.access in
          subst (λ (x : Command × Access). IsPrepared names cs x.0 x.1 s)
          (λ i. (
            (ap (λ (ys : List ℕ). Command.Write f.name ys) w.items-len-in-Write.ensures ∙ sym f.is) i,
            sym
                w.access-is i,
          ))
          (prepared_write s names cs state f.name xs
          (subst (λ (x : Command). IsUnplanned names x) f.is c.requires.plain) w.reach_write.result a
          w.reach_write.ensures.ok
          w.reach_write.ensures.refused
          (subst (λ (ys : List ℕ). IsMadeSet w.reach_write.result ys a)
          (w.items-in-Write.ensures ∙ sym w.items-len-in-Write.ensures) (w.in_ok-access-in-Write.ensures {u = tt})))
      | in-Read+in_ok-access-in-Read w ↦
          let f = w.in-Read in let a = w.in_ok-access-in-Read.access in
          subst (λ (x : Command × Access). IsPrepared names cs x.0 x.1 s) (λ i. (sym f.is i, sym w.access-is i))
          (prepared_read s names cs state f.name f.len
          (subst (λ (x : Command). IsUnplanned names x) f.is c.requires.plain) w.reach_read.result a
          w.reach_read.ensures.ok
          w.reach_read.ensures.refused (w.in_ok-access-in-Read.ensures {u = tt}))
    ]

pub returns-clause-within : goal.returns-clause-within
returns-clause-within c =
    let names = c.args.names.now in let cs = c.args.counts.now in
    elim c.match-command.branch [
      | in-Set+in_ok-access-in-Set w ↦
          let f = w.in-Set in let n : ℕ = length w.items-len.result.now in
          subst (BindsBelow (length names)) (sym w.access-is)
          (set_within names cs f.name f.tries (λ v. in_range v f.at n) (λ v. f.at) (λ v. v) w.reach_at.result
          w.items.result.now w.in_ok-access-in-Set.access w.reach_at.ensures.ok
          (w.in_ok-access-in-Set.ensures {u = tt}))
      | in-Get+in_ok-access-in-Get w ↦
          let f = w.in-Get in
          subst (BindsBelow (length names)) (sym w.access-is)
          (get_within names cs f.name f.tries (λ v. in_range v f.at f.len) (λ v. f.at) (λ v. v) w.reach_at-in-Get.result
          f.len w.in_ok-access-in-Get.access w.reach_at-in-Get.ensures.ok (w.in_ok-access-in-Get.ensures {u = tt}))
      | in-Write+in_ok-access-in-Write w ↦
          let f = w.in-Write in let n : ℕ = length w.items-len-in-Write.result.now in
          subst (BindsBelow (length names)) (sym w.access-is)
          (set_within names cs f.name false (λ v. can_write v n) (λ v. v.writer) (λ v. after_write v n)
          w.reach_write.result w.items-in-Write.result.now w.in_ok-access-in-Write.access w.reach_write.ensures.ok
          (w.in_ok-access-in-Write.ensures {u = tt}))
      | in-Read+in_ok-access-in-Read w ↦
          let f = w.in-Read in
          subst (BindsBelow (length names)) (sym w.access-is)
          (get_within names cs f.name false (λ v. can_read v f.len) (λ v. v.reader) (λ v. after_read v f.len)
          w.reach_read.result f.len w.in_ok-access-in-Read.access w.reach_read.ensures.ok
          (w.in_ok-access-in-Read.ensures {u = tt}))
    ]
