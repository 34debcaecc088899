use Rattle.std.proofs.Common.{◌≡◌, [], ◌∷◌, ◌++◌, sym, subst, ap, ◌∙◌}
use Rattle.circular_buffer.specs.Buffer.{buffer}
use Rattle.handle_bin.specs.Bins.{IsHomeless}
use Rattle.handle_bin.specs.Kept.{AreHandlesOf}
use Rattle.handle_bin.specs.contracts.bin.Bin.{the_view}
use Rattle.handle_bin.proofs.BinLaws.{more_is_ready}
use Rattle.handle_bin.proofs.bin.Bin.put.Goals as goal

pub invariant_of-self : goal.invariant_of-self
invariant_of-self c =
    let h = c.args.handle in
    let old = c.self.inside in
    let kept = c.self.invariant in
    let homeless : IsHomeless (the_view old) h = subst (λ b. IsHomeless b h) (sym c.self.view_is) c.requires in
    let put : c.try_push_back-placed.new.self ≡ buffer (old.ready.items ++ h ∷ []) old.ready.capacity =
    c.in-Ok.ensures.ok in
    record {
      some_there = kept.some_there;
      capacity = ap (λ b. b.capacity) put ∙ kept.capacity;
      ready =
          subst (λ b. AreHandlesOf old.lane old.handles b.items) (sym put)
          (more_is_ready old.lane old.handles old.ready.items h kept.ready homeless.own homeless.away);
    }
