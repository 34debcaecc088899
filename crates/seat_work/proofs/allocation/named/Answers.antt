use Rattle.std.proofs.Common.{◌≡◌, ℕ, Ok, Result, IfOk, ap, sym, ◌∙◌, subst}
use Rattle.pool_law.specs.declared.id.RootId.{RootId}
use Rattle.seat_work.specs.declared.allocation.AllocNo.{AllocNo}
use Rattle.seat_work.proofs.allocation.named.Goals as goal

-- the answer that has this root with so many bytes
abbrev sized_as : RootId → ℕ → Result RootId AllocNo
sized_as root n = Ok (record { place = root.place; generation = root.generation; capacity = n })

pub returns-in-Ok : goal.returns-in-Ok
returns-in-Ok c = λ size sized.
    let root = c.in-Ok.root in
    let long : root.capacity ≡ size =
    subst (λ (r : Result RootId AllocNo). IfOk r (λ x. x.capacity ≡ size)) c.in-Ok.is sized in
    let same : sized_as root size ≡ sized_as root root.capacity = ap (sized_as root) (sym long) in
    same ∙ sym c.in-Ok.is
