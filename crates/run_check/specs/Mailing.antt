-- Mails as the program reads them.
use Rattle.std.specs.Prelude.{◌≡◌, ℕ, ◌+◌, ◌-◌, ◌<◌, ◌≤◌, List, [], ◌∷◌, ◌++◌, map, Some, slice_get}
use Rattle.pool_law.specs.declared.id.Parcel.{Parcel}
use Rattle.pool_law.specs.declared.note.Did.{Did}
use Rattle.pool_law.specs.declared.note.Object.{Object}
use Rattle.pool_law.specs.declared.note.Object.TheVariants.{Arena, Cache, Bin, Mail, Root}
use Rattle.pool_law.specs.Kinds.{passing}
use Rattle.pool_law.specs.Logs.{Logs, of_lane}
use Rattle.pool_law.specs.Mails.{gone, come, MailHolds}
use Rattle.run_check.specs.declared.mails.Passed.{Passed}

-- the parcels that these notes at a mail post, and those that they fetch
abbrev pub sent_among : List (ℕ × Did) → List (ℕ × Parcel)
sent_among [] = []
sent_among (x ∷ xs) = gone x.0 (passing x.1) ++ sent_among xs

abbrev pub received_among : List (ℕ × Did) → List (ℕ × Parcel)
received_among [] = []
received_among (x ∷ xs) = come x.0 (passing x.1) ++ received_among xs

-- a parcel with its number, and such parcels one after another
abbrev pub passed_data : Passed → ℕ × Parcel
passed_data p = (p.number, p.parcel)

abbrev pub all_passed : List Passed → List (ℕ × Parcel)
all_passed ps = map passed_data ps

-- the post of this place, if there is one, has the number of its place, from 1
abbrev pub IsInTurn : List Passed → ℕ → Type 0
IsInTurn posts k = (p : Passed) → slice_get posts k ≡ Some p → p.number ≡ k + 1

-- the fetch of this place, if there is one, is the post there
abbrev pub IsOfPost : List Passed → List Passed → ℕ → Type 0
IsOfPost posts fetches k =
    (f : Passed) → slice_get fetches k ≡ Some f → slice_get posts k ≡ Some f

-- both hold at this place
abbrev pub Passes : List Passed → List Passed → ℕ → Type 0
Passes posts fetches k = IsInTurn posts k × IsOfPost posts fetches k

-- they hold at each place before this one, from 1, and not at it
pub record FailsAt (posts fetches : List Passed) (number : ℕ) : Type 0 where
  pub from_one : 1 ≤ number
  pub before : (k : ℕ) → k + 1 < number → Passes posts fetches k
  pub there : Passes posts fetches (number - 1) → ⊥

-- if the object is a mail, it holds
abbrev pub IsHeldMail : Logs → Object → Type 0
IsHeldMail logs (Arena number) = Unit {0}
IsHeldMail logs (Cache lane class) = Unit {0}
IsHeldMail logs (Bin lane) = Unit {0}
IsHeldMail logs (Mail sender receiver) =
    MailHolds (Mail sender receiver) (of_lane logs sender) (of_lane logs receiver)
IsHeldMail logs (Root place) = Unit {0}
