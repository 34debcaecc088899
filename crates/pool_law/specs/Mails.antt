-- Mails: what a lane posts to another, and what that one fetches.
use Rattle.std.specs.Prelude.{◌≡◌, ℕ, ◌+◌, if◌then◌else◌, List, [], ◌∷◌, ◌++◌, length, take, Some, slice_get}
use Rattle.pool_law.specs.declared.id.Parcel.{Parcel}
use Rattle.pool_law.specs.declared.note.Object.{Object}
use Rattle.pool_law.specs.declared.note.Object.TheVariants.{Mail}
use Rattle.pool_law.specs.declared.note.Note.{Note}
use Rattle.pool_law.specs.declared.note.Note.TheVariants.{At, Ref, Busy}
use Rattle.pool_law.specs.Same.{same_object}
use Rattle.pool_law.specs.Kinds.{Passing, Stays, Goes, Comes, passing}
use Rattle.pool_law.specs.Logs.{Logs, of_lane}

-- a parcel that goes, or comes, with the number of its note
abbrev pub gone : ℕ → Passing → List (ℕ × Parcel)
gone number Stays = []
gone number (Goes parcel) = (number, parcel) ∷ []
gone number (Comes parcel) = []

abbrev pub come : ℕ → Passing → List (ℕ × Parcel)
come number Stays = []
come number (Goes parcel) = []
come number (Comes parcel) = (number, parcel) ∷ []

-- the parcels that these notes post to a mail, in order, each with its number
abbrev pub posted : Object → List Note → List (ℕ × Parcel)
posted mail [] = []
posted mail (At object number did ∷ ns) =
    (if same_object mail object then gone number (passing did) else []) ++ posted mail ns
posted mail (Ref root did ∷ ns) = posted mail ns
posted mail (Busy held ∷ ns) = posted mail ns

-- and those that they fetch from it
abbrev pub fetched : Object → List Note → List (ℕ × Parcel)
fetched mail [] = []
fetched mail (At object number did ∷ ns) =
    (if same_object mail object then come number (passing did) else []) ++ fetched mail ns
fetched mail (Ref root did ∷ ns) = fetched mail ns
fetched mail (Busy held ∷ ns) = fetched mail ns

-- the parcels of a mail come out in the order in which they went in: the posts are numbered from 1,
-- and what is fetched is the front of what is posted, with the same numbers
pub record MailHolds (mail : Object) (sent received : List Note) : Type 0 where
  pub numbered : (k : ℕ) (post : ℕ × Parcel) → slice_get (posted mail sent) k ≡ Some post →
      post.0 ≡ k + 1
  pub in_order :
      fetched mail received ≡ take (length (fetched mail received)) (posted mail sent)

-- each mail holds, between the log of its first lane and that of its second
abbrev pub MailsHold : Logs → Type 0
MailsHold logs =
    (sender receiver : ℕ) →
    MailHolds (Mail sender receiver) (of_lane logs sender) (of_lane logs receiver)
