use Rattle.std.proofs.Common.{◌≡◌, ◌+◌, refl, sym, subst, Some, None}
use Rattle.std.specs.Prelude.{Option, nat_lt}
use Rattle.pool_table.specs.declared.roots.EndToken.{EndToken}
use Rattle.counted_view.specs.NestSeats.{IsReleasedIf}
use Rattle.nest_run.specs.declared.calls.Call.TheVariants.{Release}
use Rattle.nest_run.specs.declared.replies.Reply.{Reply}
use Rattle.nest_run.specs.declared.views.Playing.{Playing}
use Rattle.nest_run.specs.Standing.{IsPlayed}
use Rattle.counted_view.specs.Nests.{held_view, live_slices, root_counts}
use Rattle.nest_run.proofs.PlayLaws.{kept_played}
use Rattle.nest_run.proofs.EndLaws.{end_works, ended_played}
use Rattle.nest_run.proofs.RefusalLaws.{release_refused}
use Rattle.nest_run.proofs.StepLaws.{release_not_full}
use Rattle.nest_run.proofs.views.Playing.release.Goals as goal

pub refused-requires : goal.refused-requires
refused-requires g c = release_not_full (held_view c.args.self.now.nest c.args.of) c.in-Err.no c.in-Err.ensures.answers

pub returns-in-Err : goal.returns-in-Err
returns-in-Err g c =
    let old : Playing = c.args.self.now in let e = c.in-Err.ensures in let pool = c.args.pool.now in
    let new : Playing = record { seat = c.release.new.seat; nest = c.release.new.self; root = old.root } in
    subst (λ (r : Reply). IsPlayed pool (Release c.args.of) old r new) (sym c.refused.ensures)
    (release_refused pool old new c.args.of c.in-Err.no
    (λ i. record { seat = e.unchanged.1 i; nest = e.unchanged.0 i; root = old.root }) e.answers)

pub returns-in-None : goal.returns-in-None
returns-in-None g c =
    let old : Playing = c.args.self.now in let e = c.in-Ok.ensures in let pool = c.args.pool.now in
    let new : Playing = record { seat = c.release.new.seat; nest = c.release.new.self; root = old.root } in
    let lost = nat_lt (root_counts new.nest) (root_counts old.nest) in
    let many : c.in-Ok.field-0.ended + live_slices new.nest ≡ live_slices old.nest = e.ended in
    let tells : c.in-Ok.field-0.token ≡ None = (cc (c.in-Ok.token-is, c.in-None.is)) in
    subst (λ (r : Reply). IsPlayed pool (Release c.args.of) old r new) (sym c.let_go.ensures)
    (kept_played pool old new c.args.of c.in-Ok.field-0.ended c.requires refl e.answers e.let_go e.counted many lost
    e.seat e.counts
    (subst (λ (o : Option EndToken). IsReleasedIf lost old.nest.root o old.seat new.seat) tells e.released))

pub end-requires-clause-works : goal.end-requires-clause-works
end-requires-clause-works g c =
    let old : Playing = c.args.self.now in let e = c.in-Ok.ensures in let pool = c.args.pool.now in
    let mid : Playing = record { seat = c.release.new.seat; nest = c.release.new.self; root = old.root } in
    let lost = nat_lt (root_counts mid.nest) (root_counts old.nest) in
    let many : c.in-Ok.field-0.ended + live_slices mid.nest ≡ live_slices old.nest = e.ended in
    let tells : c.in-Ok.field-0.token ≡ Some c.in-Some.token = (cc (c.in-Ok.token-is, c.in-Some.is)) in
    end_works pool old mid mid c.args.of c.in-Ok.field-0.ended c.requires refl e.answers e.let_go e.counted many refl
    e.seat e.counts c.in-Some.token lost
    (subst (λ (o : Option EndToken). IsReleasedIf lost old.nest.root o old.seat mid.seat) tells e.released)

pub returns-in-Some : goal.returns-in-Some
returns-in-Some g c =
    let old : Playing = c.args.self.now in let e = c.in-Ok.ensures in let pool = c.args.pool.now in
    let mid : Playing = record { seat = c.release.new.seat; nest = c.release.new.self; root = old.root } in
    let new : Playing = record { seat = c.end.new.seat; nest = c.release.new.self; root = old.root } in
    let lost = nat_lt (root_counts mid.nest) (root_counts old.nest) in
    let many : c.in-Ok.field-0.ended + live_slices mid.nest ≡ live_slices old.nest = e.ended in
    let tells : c.in-Ok.field-0.token ≡ Some c.in-Some.token = (cc (c.in-Ok.token-is, c.in-Some.is)) in
    subst (λ (r : Reply). IsPlayed pool (Release c.args.of) old r new) (sym c.let_go-in-Some.ensures)
    (ended_played pool old mid new c.args.of c.in-Ok.field-0.ended c.requires refl e.answers e.let_go e.counted many
    refl e.seat e.counts c.in-Some.token lost
    (subst (λ (o : Option EndToken). IsReleasedIf lost old.nest.root o old.seat mid.seat) tells e.released)
    c.end.ensures.proceeds c.end.ensures.ended)
