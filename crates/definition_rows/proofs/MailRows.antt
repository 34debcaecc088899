-- Mails that hold, from what computes of them, and what those that do not hold would have.
use Rattle.std.proofs.Common.{◌≡◌, ℕ, ◌+◌, List, [], ◌∷◌, length, ap}
use Rattle.std.specs.Prelude.{map, take, Option, Some, None}
use Rattle.pool_law.specs.declared.id.Parcel.{Parcel}
use Rattle.pool_law.specs.declared.id.ViewData.{ViewData}
use Rattle.pool_law.specs.declared.note.Object.{Object}
use Rattle.pool_law.specs.declared.note.Note.{Note}
use Rattle.pool_law.specs.Mails.{posted, fetched}
use Rattle.definition_rows.specs.MailPlays.{Holds}
use Rattle.definition_rows.proofs.Lanes.{each_from}
use Rattle.definition_rows.proofs.HistoriesComputed.{numbers-at}

abbrev between : Object
between = Object.Mail 0 1

-- a mail holds where the numbers of its posts are 1, 2, .., and the fetches are the first of them
pub mail-holds : (sent received : List Note)
    → map (λ p. p.0) (posted between sent) ≡ each_from (λ k. k) 1 (length (posted between sent))
    → fetched between received ≡ take (length (fetched between received)) (posted between sent)
    → Holds sent received
mail-holds sent received numbers front =
    record { numbered = numbers-at (posted between sent) 1 numbers; in_order = front }

-- the sum of the numbers of some parcels
abbrev pub numbers_of : List (ℕ × Parcel) → ℕ
numbers_of [] = 0
numbers_of (p ∷ ps) = p.0 + numbers_of ps

-- the number of the first
abbrev pub first_of : List (ℕ × Parcel) → ℕ
first_of [] = 0
first_of (p ∷ ps) = p.0

-- how many bytes a view has written, where there is one
abbrev pub written_in : Option ViewData → ℕ
written_in None = 0
written_in (Some v) = v.writer

abbrev pub written_of : List (ℕ × Parcel) → ℕ
written_of [] = 0
written_of (p ∷ ps) = written_in p.1.view + written_of ps

-- whatever is reckoned of the fetches comes to the same of the front of the posts
pub front-has : (sent received : List Note) → Holds sent received → (f : List (ℕ × Parcel) → ℕ)
    → f (fetched between received) ≡ f (take (length (fetched between received)) (posted between sent))
front-has sent received h f = ap f h.in_order
