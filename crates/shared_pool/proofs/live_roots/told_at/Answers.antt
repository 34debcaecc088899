use Rattle.std.proofs.Common.{sym, ap, ◌∙◌}
use Rattle.std.specs.Prelude.{Some}
use Rattle.std.specs.Box.{with_value}
use Rattle.shared_pool.specs.RootPlaces.{PlaceState}
use Rattle.shared_pool.specs.declared.home.Home.{Home}
use Rattle.shared_pool.specs.declared.home.Home.TheVariants.{Root}
use Rattle.shared_pool.proofs.live_roots.told_at.Goals as goal

pub returns-clause-same : goal.returns-clause-same
returns-clause-same c =
    ap (λ (x : PlaceState). Some (Root (with_value c.in-Some-Root.place x)))
    (c.told.ensures.same ∙ c.deref_mut.ensures.value)
    ∙ sym (c.in-Some-Root.is ∙ ap (λ (x : Home). Some x) c.in-Some-Root.field-0-is)
