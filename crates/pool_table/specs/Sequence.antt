-- All steps made so far, in one order, over all parts.
use Rattle.std.specs.Prelude.{◌≡◌, ℕ, ◌+◌, ◌<◌, ◌≤◌, ◌==◌, cond, List, [], ◌∷◌, ◌++◌, Option, Some, All, sum_by}
use Rattle.pool_law.specs.declared.run.Shape.{Shape}
use Rattle.pool_law.specs.declared.id.RootId.{RootId}
use Rattle.pool_law.specs.declared.note.RefDid.{RefDid}
use Rattle.pool_law.specs.declared.note.RefDid.TheVariants.{Born, Retain, Kept, Ended, Vacated, Look}
use Rattle.pool_law.specs.declared.note.Object.{Object}
use Rattle.pool_law.specs.declared.note.Object.TheVariants.{Mail}
use Rattle.pool_law.specs.Homes.{home_of}
use Rattle.pool_law.specs.Kinds.{Passing, Stays, Goes, Comes, passing}
use Rattle.pool_table.specs.declared.views.Entry.{Entry}
use Rattle.pool_table.specs.declared.views.Entry.TheVariants.{At, Ref, Busy}
use Rattle.pool_table.specs.declared.views.Part.{Part}
use Rattle.pool_table.specs.declared.views.SeatView.{SeatView}
use Rattle.pool_table.specs.Views.{parts_of, is_lane}
use Rattle.pool_table.specs.Counts.{weigh, on_root, on_place, ref_gain, ref_loss, ref_born, ref_ended, ref_vacated}
use Rattle.pool_table.specs.Letters.{sent_as, received_as, is_on_way}

-- a step that was made: the number of its part, if it has one, and the entry that it left there
pub record Made : Type 0 where
  pub lane : Option ℕ
  pub entry : Entry

-- what the entries of these steps weigh
abbrev pub weigh_made : (Entry → ℕ) → List Made → ℕ
weigh_made f made = sum_by (λ (x : Made). f x.entry) made

-- the entries of the part with the number m, in this order
abbrev pub entries_by : ℕ → List Made → List Entry
entries_by m [] = []
entries_by m (x ∷ xs) = cond (is_lane m x.lane) (x.entry ∷ entries_by m xs) (entries_by m xs)

-- 1 for a note of the object with the home i
abbrev pub on_object : Shape → ℕ → Entry → ℕ
on_object s i (At o k n) = cond (home_of s o == i) 1 0
on_object s i (Ref r d) = 0
on_object s i (Busy b) = 0

-- these steps leave n counts of the root, those in the mail included
abbrev pub Leave : List Made → RootId → ℕ → Type 0
Leave made r n =
    weigh_made (on_root ref_gain r.place r.generation) made
    ≡ weigh_made (on_root ref_loss r.place r.generation) made + n

-- a step on a count fits the steps before it: a birth is of the next generation, at a place that
-- was vacated as often as a root was born there; a retain finds a count, a release that keeps its
-- root finds two, the release that ends it finds one; the place is vacated once, where no count is
-- left; a look tells how many counts are left
abbrev pub FitsCount : List Made → RootId → RefDid → Type 0
FitsCount made r Born =
    (r.generation ≡ weigh_made (on_place ref_born r.place) made + 1)
    × (weigh_made (on_place ref_vacated r.place) made ≡ weigh_made (on_place ref_born r.place) made)
    × Leave made r 0
FitsCount made r Retain = (n : ℕ) × (0 < n) × Leave made r n
FitsCount made r Kept = (n : ℕ) × (1 < n) × Leave made r n
FitsCount made r Ended = Leave made r 1
FitsCount made r Vacated =
    (weigh_made (on_root ref_ended r.place r.generation) made
    ≡ weigh_made (on_root ref_vacated r.place r.generation) made + 1)
    × Leave made r 0
FitsCount made r (Look k) = (0 < k) × Leave made r k

-- how many letters from a to b these steps sent, and received
abbrev pub made_sent : ℕ → ℕ → List Made → ℕ
made_sent a b made = weigh_made (sent_as (is_on_way a b)) made

abbrev pub made_received : ℕ → ℕ → List Made → ℕ
made_received a b made = weigh_made (received_as (is_on_way a b)) made

-- a note at a mail fits the steps before it: a post has the next number of the posts there, a fetch
-- the next number of the fetches, and so many were posted
abbrev pub FitsMail : List Made → ℕ → ℕ → ℕ → Passing → Type 0
FitsMail made a b k Stays = ⊥
FitsMail made a b k (Goes parcel) = k ≡ made_sent a b made + 1
FitsMail made a b k (Comes parcel) = (k ≡ made_received a b made + 1) × (k ≤ made_sent a b made)

-- a note of another object has its next number
abbrev pub FitsNote : Shape → List Made → Object → ℕ → Passing → Type 0
FitsNote s made (Mail a b) k passed = FitsMail made a b k passed
FitsNote s made o k passed = k ≡ weigh_made (on_object s (home_of s o)) made + 1

-- a note has the next number of its kind, and a busy mark the number of the last note
abbrev pub Fits : Shape → List Made → Entry → Type 0
Fits s made (At o k n) = FitsNote s made o k (passing n.did)
Fits s made (Busy b) = b.number ≡ weigh_made (on_object s (home_of s b.object)) made
Fits s made (Ref r d) = FitsCount made r d

-- each step fits those before it
abbrev pub AllFit : Shape → List Made → Type 0
AllFit s made =
    (before after : List Made) (x : Made) → made ≡ before ++ x ∷ after → Fits s before x.entry

-- a numbered part has the entries of its number, in this order
abbrev pub HasItsOwn : List Made → Part → Type 0
HasItsOwn made q = (m : ℕ) → q.number ≡ Some m → q.notes ≡ entries_by m made

-- all steps that the views tell of stand in one order: each step of each part once, those of a
-- numbered part in its order, and each step fits those before it
pub record AreInOneOrder (s : Shape) (views : List SeatView) : Type 0 where
  pub made : List Made
  pub each : (f : Entry → ℕ) → sum_by (weigh f) views ≡ weigh_made f made
  pub parts : All (λ (v : SeatView). All (HasItsOwn made) (parts_of v)) views
  pub fits : AllFit s made
