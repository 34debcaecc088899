use Rattle.std.proofs.Common.{◌≡◌, sym, ap, ◌∙◌}
use Rattle.std.proofs.lemmas.Result.{on_ok_weaker}
use Rattle.pool_law.specs.declared.note.Did.{Did}
use Rattle.pool_law.specs.declared.note.Note.{Note}
use Rattle.run_check.specs.declared.tally.Sums.{Sums}
use Rattle.run_check.specs.Tallying.{more_births, sums_step, sums_in, sums_after}
use Rattle.run_check.proofs.TallyLemmas.{pass-ref, pass-birth}
use Rattle.run_check.proofs.tally.Tally.pass.Goals as goal

pub returns-in-Ref : goal.returns-in-Ref
returns-in-Ref c other =
    let s = c.args.self.now in
    let root = c.in-Ref.root in
    let sums = c.step-sums.result in
    let step : sums ≡ sums_step (sums_in s root) c.in-Ref.did =
    c.step-sums.ensures ∙ ap (λ (a : Sums). sums_step a c.in-Ref.did) c.of.ensures in
    on_ok_weaker c.put.result
    (λ e.
    e
    ∙ pass-ref root other (sums_in s) c.in-Ref.did sums step
    ∙ ap (sums_after other (sums_in s other)) (sym c.in-Ref.is))
    (c.put.ensures other)

pub returns-in-Birth : goal.returns-in-Birth
returns-in-Birth c other =
    let s = c.args.self.now in
    let root = c.in-Birth.root in
    let sums = c.more_births-sums.result in
    let step : sums ≡ more_births (sums_in s root) =
    c.more_births-sums.ensures ∙ ap (λ (a : Sums). more_births a) c.of-in-Birth.ensures in
    let is : c.args.note.now ≡ Note.At c.in-At.object c.in-At.number (Did.Birth root c.in-Birth.region) =
    c.in-At.is ∙ ap (λ (d : Did). Note.At c.in-At.object c.in-At.number d) c.in-Birth.is in
    on_ok_weaker c.put-in-Birth.result
    (λ e.
    e
    ∙ pass-birth root other (sums_in s) c.in-At.object c.in-At.number c.in-Birth.region sums step
    ∙ ap (sums_after other (sums_in s other)) (sym is))
    (c.put-in-Birth.ensures other)
