use Rattle.std.proofs.Common.{◌≡◌, ℕ, ◌+◌, length, ◌<◌, ◌≤◌, Bool, None, refl, sym, subst, ◌∙◌}
use Rattle.std.specs.Prelude.{MatchBool}
use Rattle.pool_law.specs.declared.note.Did.{Did}
use Rattle.pool_member.specs.declared.account.Account.{Account}
use Rattle.pool_member.specs.Alone.{AreLaid}
use Rattle.pool_member.specs.Counting.{counted, known}
use Rattle.pool_member.specs.Tries.{HasAccessed, StaysOut}
use Rattle.pool_member.proofs.Alone.{own_after}
use Rattle.pool_member.proofs.Accessing.{accessed_after, same_account, waits_first, waits_on}
use Rattle.pool_member.proofs.work.access.get_apart.Goals as goal

pub try_get-requires-clause-counts : goal.try_get-requires-clause-counts
try_get-requires-clause-counts g c =
    subst (λ (a : Account). 0 < counted a.counts c.args.root)
    (sym (same_account c.args.pool.now c.args.member.now c.loop.member c.loop.invariant.0)) c.requires.counts

pub try_get-requires-clause-range : goal.try_get-requires-clause-range
try_get-requires-clause-range g c =
    subst (λ (a : Account). c.args.offset + length c.loop.out ≤ known a.counts c.args.root)
    (sym (same_account c.args.pool.now c.args.member.now c.loop.member c.loop.invariant.0))
    (subst (λ (n : ℕ). c.args.offset + n ≤ known c.args.member.now.account.counts c.args.root) (sym c.loop.invariant.1)
    c.requires.range)

pub try_get-requires-clause-turns : goal.try_get-requires-clause-turns
try_get-requires-clause-turns g c =
    subst (λ (a : Account). 1 ≤ a.turns)
    (sym (same_account c.args.pool.now c.args.member.now c.loop.member c.loop.invariant.0)) c.requires.turns

pub returns-then-try_get : goal.returns-then-try_get
returns-then-try_get g c =
    let pool = c.args.pool.now in let root = c.args.root in let mid = c.loop.member in
    let new = c.try_get.new.member in let out = c.try_get.new.out in let did = Did.Get c.args.offset out in
    let offset = c.args.offset in
    let it = subst (λ (b : Bool). MatchBool b (HasAccessed pool root did None mid new × AreLaid mid root offset out)
    (StaysOut pool root mid new × (out ≡ c.loop.out))) c.if-try_get.true c.try_get.ensures.tried in
    let all = accessed_after pool root c.args.member.now mid new did None c.loop.invariant.0 it.0 in
    record {
      does = all.does;
      own = own_after c.args.member.now mid new c.loop.invariant.0.view root offset out it.1;
      moves = all.moves;
      len = c.try_get.ensures.len ∙ c.loop.invariant.1;
      noted = (all.number, all.noted);
    }

pub loop-init : goal.loop-init
loop-init g c = (waits_first c.args.pool.now c.args.member.now c.requires.thread, refl)

pub loop-preserved : goal.loop-preserved
loop-preserved g c =
    let pool = c.args.pool.now in let root = c.args.root in let mid = c.loop.member in
    let new = c.try_get.new.member in let out = c.try_get.new.out in let did = Did.Get c.args.offset out in
    let offset = c.args.offset in
    let busy = subst (λ (b : Bool). MatchBool b (HasAccessed pool root did None mid new × AreLaid mid root offset out)
    (StaysOut pool root mid new × (out ≡ c.loop.out))) c.if-try_get.false c.try_get.ensures.tried in (
      waits_on pool root c.args.member.now mid new c.loop.invariant.0 busy.0,
      c.try_get.ensures.len ∙ c.loop.invariant.1,
    )
