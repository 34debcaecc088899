use Rattle.std.proofs.Common.{ℕ, List, refl, sym, subst, ◌∙◌, arith}
use Rattle.nest_run.specs.declared.replies.Reply.TheVariants.{Read}
use Rattle.counted_view.specs.Nests.{held_view}
use Rattle.nest_run.specs.declared.calls.Call.TheVariants.{Get}
use Rattle.nest_run.specs.declared.replies.Reply.{Reply}
use Rattle.nest_run.specs.declared.views.Playing.{Playing}
use Rattle.nest_run.specs.Standing.{IsPlayed}
use Rattle.nest_run.proofs.AccessLaws.{may_access, may_work, get_played}
use Rattle.nest_run.proofs.RefusalLaws.{get_refused}
use Rattle.nest_run.proofs.StepLaws.{range_not_full}
use Rattle.text_ends.proofs.Bytes.{front_copied}
use Rattle.nest_run.proofs.views.Playing.get.Goals as goal

pub refused-requires : goal.refused-requires
refused-requires g c =
    range_not_full (held_view c.args.self.now.nest c.args.of) c.args.at c.args.len c.in-Err.no c.in-Err.ensures.answers

pub get-requires-clause-works : goal.get-requires-clause-works
get-requires-clause-works g c = may_work c.args.pool.now c.args.self.now c.requires

pub get-requires-clause-counts : goal.get-requires-clause-counts
get-requires-clause-counts g c = may_access c.args.pool.now c.args.self.now c.requires c.in-Ok.ensures.counts

pub returns-in_ok-bytes-in-Ok-clause-ok : goal.returns-in_ok-bytes-in-Ok-clause-ok
returns-in_ok-bytes-in-Ok-clause-ok g c =
    let old : Playing = c.args.self.now in let e = c.in-Ok.ensures in let pool = c.args.pool.now in
    let new : Playing = record { seat = c.get.new.seat; nest = old.nest; root = old.root } in
    let long = c.get.ensures.len ∙ c.as_mut_slice.ensures.len ∙ c.in_ok-bytes-in-Ok.ensures.len in
    subst (λ (xs : List ℕ). IsPlayed pool (Get c.args.of c.args.at c.args.len) old (Read xs) new)
    (sym (c.of.ensures ∙ front_copied c.get.new.out _ _ (c.get.ensures.len ∙ c.as_mut_slice.ensures.len)))
    (get_played pool old new c.requires refl refl c.get.ensures.proceeds c.args.of c.args.at c.in-Ok.offset c.in-Ok._len
    c.args.len c.get.new.out c.get.ensures.noted long e.answers e.range)

pub returns-in-Err-clause-ok : goal.returns-in-Err-clause-ok
returns-in-Err-clause-ok g c =
    let old : Playing = c.args.self.now in let pool = c.args.pool.now in
    subst (λ (r : Reply). IsPlayed pool (Get c.args.of c.args.at c.args.len) old r old) (sym c.refused.ensures)
    (get_refused pool old old c.args.of c.args.at c.args.len c.in-Err.no refl c.in-Err.ensures.answers)
