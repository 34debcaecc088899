use Rattle.std.proofs.Common.{◌++◌, List, ℕ, refl, subst, rules}
use Rattle.sha2.specs.Hashers.{Holds256}
use Rattle.frame_hash.proofs.TakeLaws.{slice_read}
use Rattle.frame_hash.proofs.hashing.hash_slice.Goals as goal

pub returns : goal.returns
returns g c =
    let call = c.with_bytes-hasher in
    let shown = call.ensures.shown in
    let view = c.args.view.now in (
      shown.0,
      slice_read c.args.pool.now view.root view.offset shown.1 shown.0 c.args.seat.now call.new.seat c.release.new.seat
          c.release.result view shown.4 call.ensures.proceeds c.release.ensures.proceeds c.release.ensures.later refl
          refl
          shown.2,
      shown.2,
      λ m holds.
          (let said = shown.3.1 in
          subst (λ (xs : List ℕ). Holds256 call.result (m ++ xs)) shown.3.2 (search rules)),
    )
