use Rattle.std.proofs.Common.{[], ◌++◌, List, ℕ, refl, subst, sym, append-nil}
use Rattle.std.specs.Prelude.{Option}
use Rattle.pool_law.specs.declared.id.ViewData.{ViewData}
use Rattle.sha2.specs.Hashers.{Holds256}
use Rattle.frame_hash.specs.declared.turns.TheConstants.{HASH_TURNS}
use Rattle.frame_hash.specs.Takes.{HasSpent}
use Rattle.frame_hash.proofs.TakeLaws.{nothing_read}
use Rattle.frame_hash.proofs.hashing.hash_parcel.Goals as goal

pub returns-in-None : goal.returns-in-None
returns-in-None g c =
    let seat = c.args.seat.now in
    let pool = c.args.pool.now in (
      [],
      subst (λ (o : Option ViewData). HasSpent pool o [] seat seat) (sym c.in-None.is)
          (nothing_read pool seat HASH_TURNS 0 c.requires.works),
      refl,
      λ m holds. subst (λ (xs : List ℕ). Holds256 c.args.hasher xs) (sym (append-nil m)) holds,
    )
