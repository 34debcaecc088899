use Rattle.std.proofs.Common.{◌≡◌, sym, ◌∙◌, subst}
use Rattle.std.specs.Prelude.{◌↔◌, Option, Some}
use Rattle.lane_stages.specs.declared.stepped.Stepped.TheVariants.{Finished}
use Rattle.lane_stages.specs.declared.retirement.Ending.{Ending}
use Rattle.shared_composite.specs.Cores.{IsUnderway, HasStepped, IsOver, with_ending}
use Rattle.shared_composite.proofs.cores.Core.step.Goals as goal

pub go_on-requires-clause-core : goal.go_on-requires-clause-core
go_on-requires-clause-core c =
    subst (λ (e : Option Ending). IsUnderway c.args.pool.now (with_ending c.args.self.now e))
    (sym c.replace.ensures.value ∙ c.in-Some.is) c.requires.core

pub release_next-requires-clause-core : goal.release_next-requires-clause-core
release_next-requires-clause-core c =
    subst (λ (e : Option Ending). IsUnderway c.args.pool.now (with_ending c.args.self.now e))
    (sym c.replace.ensures.value ∙ c.in-None.is ∙ sym c.replace.ensures.after) c.requires.core

pub returns-in-Some : goal.returns-in-Some
returns-in-Some c =
    let old = c.args.self.now in let new = c.go_on.new.self in
    let is : Some c.in-Some.stage ≡ old.ending = sym c.in-Some.is ∙ c.replace.ensures.value in
    record {
      core = c.go_on.ensures.core;
      stepped =
          subst (λ (e : Option Ending). HasStepped c.args.pool.now (with_ending old e) new c.go_on.result) is
          c.go_on.ensures.stepped;
      finished = (
        λ done. absurd (c.go_on.ensures.unfinished done),
        λ over. absurd (let none = over.ending in cc (is, none)),
      );
    }

pub returns-in-None : goal.returns-in-None
returns-in-None c =
    let old = c.args.self.now in let new = c.release_next.new.self in
    let is : c.replace.new.dest ≡ old.ending = c.replace.ensures.after ∙ sym c.in-None.is ∙ c.replace.ensures.value in
    record {
      core = c.release_next.ensures.core;
      stepped =
          subst (λ (e : Option Ending). HasStepped c.args.pool.now (with_ending old e) new c.release_next.result) is
          c.release_next.ensures.stepped;
      finished =
          subst (λ (e : Option Ending). (c.release_next.result ≡ Finished) ↔ IsOver (with_ending old e)) is
          c.release_next.ensures.finished;
    }
