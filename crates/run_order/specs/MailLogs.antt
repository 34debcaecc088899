-- Logs of two lanes with empty parcels between them.
use Rattle.std.specs.Prelude.{ℕ, List, [], ◌∷◌, None}
use Rattle.pool_law.specs.declared.id.Parcel.{Parcel}
use Rattle.pool_law.specs.declared.note.Object.{Object}
use Rattle.pool_law.specs.declared.note.Did.{Did}
use Rattle.pool_law.specs.declared.note.Note.{Note}
use Rattle.pool_law.specs.declared.note.Note.TheVariants.{At}
use Rattle.pool_law.specs.Logs.{Logs}

-- an empty parcel
abbrev pub nothing : Parcel
nothing = record { view = None }

-- a post from one lane to another, and a fetch, with their numbers
abbrev pub posts : ℕ → ℕ → ℕ → Note
posts sender receiver n = At (Object.Mail sender receiver) n (Did.Post nothing)

abbrev pub fetches : ℕ → ℕ → ℕ → Note
fetches receiver sender n = At (Object.Mail sender receiver) n (Did.Fetch nothing)

-- the second parcel is fetched before the first
abbrev pub second_fetched_first : Logs
second_fetched_first =
    (posts 0 1 1 ∷ posts 0 1 2 ∷ []) ∷ (fetches 1 0 2 ∷ fetches 1 0 1 ∷ []) ∷ []

-- one parcel is posted, and two are fetched
abbrev pub fetched_twice : Logs
fetched_twice = (posts 0 1 1 ∷ []) ∷ (fetches 1 0 1 ∷ fetches 1 0 2 ∷ []) ∷ []

-- the fetch of the first parcel is numbered behind its post, as if the mail had one numbering
abbrev pub numbered_with_its_post : Logs
numbered_with_its_post = (posts 0 1 1 ∷ []) ∷ (fetches 1 0 2 ∷ []) ∷ []

-- a post has the number behind the next
abbrev pub post_skipped : Logs
post_skipped = (posts 0 1 1 ∷ posts 0 1 3 ∷ []) ∷ []

-- all of these
abbrev pub forged_mails : List Logs
forged_mails = second_fetched_first ∷ fetched_twice ∷ numbered_with_its_post ∷ post_skipped ∷ []

-- two parcels are posted before the first is fetched, and a third goes the other way
abbrev pub fetched_in_turn : Logs
fetched_in_turn =
    (posts 0 1 1 ∷ posts 0 1 2 ∷ fetches 0 1 1 ∷ [])
    ∷ (fetches 1 0 1 ∷ posts 1 0 1 ∷ fetches 1 0 2 ∷ [])
    ∷ []
