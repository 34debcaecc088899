use Rattle.std.proofs.Common.{subst, arith}
use Rattle.pool_law.proofs.ListLemmas.{slice_get-below}
use Rattle.shared_pool.specs.declared.went.Release.{Release}
use Rattle.shared_pool.specs.RootNotes.{IsReleasedAs}
use Rattle.shared_composite.proofs.ReleaseSteps.{first_counted, kept_so, last_so}
use Rattle.shared_composite.proofs.cores.Core.release_next.Goals as goal

pub release-requires-clause-counts : goal.release-requires-clause-counts
release-requires-clause-counts c =
    first_counted c.args.pool.now c.args.self.now c.part-part.result c.part-part.ensures.part c.requires.core

pub returns-in-Kept : goal.returns-in-Kept
returns-in-Kept c =
    let call = c.release in let less = slice_get-below c.args.self.now.parts c.args.self.now.next c.part-part.result
    c.part-part.ensures.part in
    let did = subst (λ (r : Release). IsReleasedAs r c.part-part.result.root c.args.self.now.seat call.new.seat)
    c.in-Kept.is call.ensures.did in
    let both = kept_so c.args.pool.now c.args.self.now c.part-part.result c.part-part.ensures.part c.requires.core
    c.requires.none less call.new.seat call.ensures.seat call.ensures.same did in
    record {
      core = both.0;
      stepped = both.1;
      finished = (λ done. absurd (cc done), λ over. absurd (let a = over.next in omega (arith, a, less)));
    }

pub returns-in-Ended : goal.returns-in-Ended
returns-in-Ended c =
    let call = c.release in let less = slice_get-below c.args.self.now.parts c.args.self.now.next c.part-part.result
    c.part-part.ensures.part in
    let did = subst (λ (r : Release). IsReleasedAs r c.part-part.result.root c.args.self.now.seat call.new.seat)
    c.in-Ended.is call.ensures.did in
    let both = last_so c.args.pool.now c.args.self.now c.part-part.result c.part-part.ensures.part c.requires.core
    c.requires.none less call.new.seat call.ensures.seat call.ensures.same c.in-Ended.token did.0 did.1 did.2
    c.put.new.self c.put.ensures in
    record {
      core = both.0;
      stepped = both.1;
      finished = (λ done. absurd (cc done), λ over. absurd (let a = over.next in omega (arith, a, less)));
    }
