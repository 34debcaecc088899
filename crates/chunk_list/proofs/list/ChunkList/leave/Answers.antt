use Rattle.std.proofs.Common.{rules, ◌≡◌, sym, subst, ap, ◌∙◌, List, ℕ}
use Rattle.std.specs.Prelude.{not, ◌==◌}
use Rattle.std.specs.VecDeque.{deque_capacity}
use Rattle.std.proofs.lemmas.Fn.{filter_same}
use Rattle.pool_law.specs.ChunkLists.{without}
use Rattle.chunk_list.specs.Members.{with_numbers}
use Rattle.chunk_list.specs.Kept.{AreDifferent, AreBelow}
use Rattle.chunk_list.proofs.MemberLemmas.{different-without, below-without}
use Rattle.chunk_list.proofs.list.ChunkList.leave.Goals as goal

pub invariant_of-self : goal.invariant_of-self
invariant_of-self c =
    let chunk = c.args.chunk in
    let old = c.self.inside.chunks in
    let kept = c.self.invariant in
    let new = c.retain.new.self in
    let rest : new.items ≡ without chunk old.items =
    filter_same _ (λ x. not (x == chunk)) _ (λ x b f' k. search rules) _ _ c.retain.ensures.filtered in
    let room : deque_capacity new ≡ deque_capacity old = c.retain.ensures.capacity in
    record {
      different = subst AreDifferent (sym rest) (different-without chunk old.items kept.different);
      below =
          subst {A = ℕ × List ℕ} (λ k. AreBelow k.0 k.1) (λ i. (sym room i, sym rest i))
          (below-without (deque_capacity old) chunk old.items kept.below);
    }

pub returns : goal.returns
returns c =
    let chunk = c.args.chunk in
    let rest : c.retain.new.self.items ≡ without chunk c.self.inside.chunks.items =
    filter_same _ (λ x. not (x == chunk)) _ (λ x b f' k. search rules) _ _ c.retain.ensures.filtered in
    (λ i. record { places = c.retain.ensures.capacity i; numbers = rest i })
    ∙ ap (λ m. with_numbers m (without chunk m.numbers)) c.self.view_is
