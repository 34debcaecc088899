-- What was sent is seen in order.
use Rattle.std.specs.Prelude.{◌≡◌, ℕ, ◌<◌, List, ◌∷◌, ◌++◌, length, Some, slice_get}
use Rattle.pool_law.specs.declared.id.Parcel.{Parcel}
use Rattle.pool_law.specs.declared.note.Object.{Object}
use Rattle.pool_law.specs.declared.note.Object.TheVariants.{Mail}
use Rattle.pool_law.specs.declared.note.Did.{Did}
use Rattle.pool_law.specs.declared.note.Did.TheVariants.{Post, Fetch}
use Rattle.pool_law.specs.declared.note.Note.{Note}
use Rattle.pool_law.specs.declared.note.Note.TheVariants.{At}
use Rattle.pool_law.specs.Logs.{Logs, of_lane}
use Rattle.pool_law.specs.Mails.{posted, fetched}

-- what a lane did before its k-th post to another has, at each object, a lower number than what
-- that lane did there after its k-th fetch from it
abbrev pub IsHandedOver : Logs → Type 0
IsHandedOver logs =
    (sender receiver : ℕ) (early late before after : List Note)
    (sent taken : ℕ) (parcel got : Parcel) →
    let mail = Mail sender receiver in
    of_lane logs sender ≡ early ++ At mail sent (Post parcel) ∷ late →
    of_lane logs receiver ≡ before ++ At mail taken (Fetch got) ∷ after →
    length (posted mail early) ≡ length (fetched mail before) →
    (object : Object) (i j m n : ℕ) (d e : Did) →
    slice_get early i ≡ Some (At object m d) →
    slice_get after j ≡ Some (At object n e) →
    m < n
