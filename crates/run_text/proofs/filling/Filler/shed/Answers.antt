use Rattle.std.proofs.Common.{◌≡◌, ℕ, ◌<◌, sym, ap, subst, ◌∙◌}
use Rattle.run_text.specs.Lines.{arena_at, key_at, region_with, uses_after}
use Rattle.run_text.proofs.filling.Filler.shed.Goals as goal

pub returns : goal.returns
returns c arenas all before region at same is =
    let taking = c.taking_at-taking.result in
    let some = subst (λ n. 0 < n) (sym at.arenas) at.some in
    let key : taking ≡ key_at arenas c.args.object.now region =
    c.taking_at-taking.ensures some ∙ (λ i. (arena_at (at.arenas i) c.args.object.now, same i)) in
    c.known_or.ensures region
    (c.region.ensures all all at.known
    ∙ ap (λ n. region_with all taking n) (c.uses_of.ensures all all at.known)
    ∙ ap (λ (k : ℕ × ℕ). region_with all k (uses_after all k)) key
    ∙ is)
