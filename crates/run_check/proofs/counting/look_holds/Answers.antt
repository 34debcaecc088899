use Rattle.std.proofs.Common.{◌≡◌, ℕ, sym, ap, subst, ◌∙◌}
use Rattle.std.specs.Prelude.{◌↔◌, IsTrue}
use Rattle.pool_law.specs.declared.id.RootId.{RootId}
use Rattle.pool_law.specs.declared.note.Note.{Note}
use Rattle.pool_law.specs.declared.note.RefDid.{RefDid}
use Rattle.pool_law.specs.Counts.{LookHolds}
use Rattle.pool_law.specs.Legal.{LookAt}
use Rattle.run_check.specs.declared.tally.Sums.{Sums}
use Rattle.lane_reader.specs.Counting.{count_in}
use Rattle.run_check.specs.Tallying.{sums_in, others_sum}
use Rattle.run_check.proofs.NeedingLemmas.{look-each}
use Rattle.run_check.proofs.counting.look_holds.Goals as goal

pub returns : goal.returns
returns c =
    let s = c.args.own.now in
    let k = c.args.counts.now in
    let r = c.in-Ref.root in
    let found = c.in-Look.found in
    let good = c.is_within.result in
    let others = λ (q : RootId). others_sum q c.args.lane 0 c.args.tallies.now in
    let is : c.args.note.now ≡ Note.Ref r (RefDid.Look found) =
    c.in-Ref.is ∙ ap (λ (d : RefDid). Note.Ref r d) c.in-Look.is in
    let first : IsTrue good ↔ LookHolds r (sums_in s r).retains (sums_in s r).releases c.of-count.result
    c.others_of-others.result found =
    subst (λ (w : Sums). IsTrue good ↔ LookHolds r w.retains w.releases
    c.of-count.result c.others_of-others.result found)
    c.of-sums.ensures
    (subst (λ (n : ℕ). IsTrue good ↔ LookHolds r c.of-sums.result.retains c.of-sums.result.releases c.of-count.result
    c.others_of-others.result n)
    c.from.ensures (c.is_within.ensures r)) in
    let second : IsTrue good ↔ LookHolds r (sums_in s r).retains (sums_in s r).releases (count_in k r)
    c.others_of-others.result found =
    subst (λ (n : ℕ). IsTrue good ↔ LookHolds r (sums_in s r).retains (sums_in s r).releases n c.others_of-others.result
    found)
    c.of-count.ensures first in
    let one : IsTrue good ↔ LookHolds r (sums_in s r).retains (sums_in s r).releases (count_in k r) (others r) found =
    subst (λ (n : ℕ). IsTrue good ↔ LookHolds r (sums_in s r).retains (sums_in s r).releases (count_in k r) n found)
    c.others_of-others.ensures.sum second in
    subst
    (λ (n : Note). IsTrue good
    ↔ ((root : RootId) → LookAt root (sums_in s root).retains (sums_in s root).releases (count_in k root) (others root)
    n))
    (sym is)
    (look-each good r found (λ q. (sums_in s q).retains) (λ q. (sums_in s q).releases) (count_in k) others one)
