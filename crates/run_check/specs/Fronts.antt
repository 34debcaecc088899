-- Up to which number the notes at an object keep the law.
use Rattle.std.specs.Prelude.{◌≡◌, ℕ, ◌+◌, ◌-◌, ◌<◌, ◌≤◌, true, false, List, ◌++◌, length, take, Some, slice_get}
use Rattle.std.specs.List.{All}
use Rattle.pool_law.specs.declared.id.Parcel.{Parcel}
use Rattle.pool_law.specs.declared.note.Did.{Did}
use Rattle.pool_law.specs.declared.note.Note.{Note}
use Rattle.pool_law.specs.declared.note.Object.{Object}
use Rattle.pool_law.specs.declared.note.Object.TheVariants.{Arena, Cache, Bin, Mail, Root}
use Rattle.pool_law.specs.declared.run.Shape.{Shape}
use Rattle.pool_law.specs.Logs.{Logs, History, dids, of_lane, own, numbered}
use Rattle.pool_law.specs.Mails.{posted, fetched}
use Rattle.pool_law.specs.Histories.{accepts, IsAccepted}
use Rattle.run_check.specs.Gathering.{AreNumbered}
use Rattle.run_check.specs.Storing.{ObjectHolds}

-- each lane's notes are first those of this history, and then such as have later numbers
pub record IsFront (notes : ℕ → List (ℕ × Did)) (h : History) : Type 0 where
  pub later : ℕ → List (ℕ × Did)
  pub first : (lane : ℕ) → notes lane ≡ numbered lane 1 h ++ later lane
  pub behind : (lane : ℕ) → All (λ x. length h < x.0) (later lane)

-- the notes at the object with the numbers 1 to n stand once each, and it accepts them in this order
pub record HistoryHoldsTo (shape : Shape) (logs : Logs) (object : Object) (n : ℕ) : Type 0 where
  pub history : History
  pub long : length history ≡ n
  pub front : IsFront (λ lane. own object (of_lane logs lane)) history
  pub accepted : IsAccepted shape object (dids history)

-- the first n posts are numbered from 1, and each of the first n fetches is the post of its place
pub record MailHoldsTo (mail : Object) (sent received : List Note) (n : ℕ) : Type 0 where
  pub numbered : (k : ℕ) (post : ℕ × Parcel) → k < n →
      slice_get (posted mail sent) k ≡ Some post → post.0 ≡ k + 1
  pub in_order : (k : ℕ) (fetch : ℕ × Parcel) → k < n →
      slice_get (fetched mail received) k ≡ Some fetch →
      slice_get (posted mail sent) k ≡ Some fetch

-- the object holds up to this number
abbrev pub HoldsTo : Shape → Logs → Object → ℕ → Type 0
HoldsTo shape logs (Arena number) n = HistoryHoldsTo shape logs (Arena number) n
HoldsTo shape logs (Cache lane class) n = HistoryHoldsTo shape logs (Cache lane class) n
HoldsTo shape logs (Bin lane) n = HistoryHoldsTo shape logs (Bin lane) n
HoldsTo shape logs (Mail sender receiver) n =
    MailHoldsTo (Mail sender receiver) (of_lane logs sender) (of_lane logs receiver) n
HoldsTo shape logs (Root place) n = HistoryHoldsTo shape logs (Root place) n

-- the object does not hold: up to each number below this one it does, and up to this one it does not
pub record IsBrokenAt (shape : Shape) (logs : Logs) (object : Object) (number : ℕ) : Type 0 where
  pub law : ObjectHolds shape logs object → ⊥
  pub before : (n : ℕ) → n < number → HoldsTo shape logs object n
  pub with_it : HoldsTo shape logs object number → ⊥

-- the notes make no history: those before this number do so far, and with it none do
pub record StopsAt (notes : ℕ → List (ℕ × Did)) (h : History) (number : ℕ) : Type 0 where
  pub law : (g : History) → AreNumbered 1 notes g → ⊥
  pub long : length h ≡ number - 1
  pub before : (n : ℕ) → n < number → IsFront notes (take n h)
  pub with_it : (g : History) → length g ≡ number → IsFront notes g → ⊥

-- the object accepts so many of these notes, one after another, and no more
pub record AcceptsSoMany (shape : Shape) (object : Object) (ds : List Did) (n : ℕ) : Type 0 where
  pub there : n ≤ length ds
  pub accepted : accepts shape object (take n ds) ≡ true
  pub refused : n < length ds → accepts shape object (take (n + 1) ds) ≡ false
