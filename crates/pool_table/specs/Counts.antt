-- What a view counts of a root, and the word of a root's count.
use Rattle.std.specs.Prelude.{◌≡◌, ℕ, ◌+◌, ◌-◌, ◌*◌, ◌<◌, ◌≤◌, ◌⊎◌, ◌==◌, ◌&&◌, cond, List, [], ◌∷◌, ◌++◌, sum_by}
use Rattle.pool_law.specs.declared.id.RootId.{RootId}
use Rattle.pool_law.specs.declared.note.RefDid.{RefDid}
use Rattle.pool_law.specs.declared.note.RefDid.TheVariants.{Born, Retain, Kept, Ended, Vacated, Look}
use Rattle.pool_law.specs.declared.note.Noted.{Noted}
use Rattle.pool_law.specs.Same.{same_root}
use Rattle.history_laws.specs.NoteCounts.{is_root, did_fetch, did_post, did_fetch_of, did_post_of}
use Rattle.pool_table.specs.declared.views.Entry.{Entry}
use Rattle.pool_table.specs.declared.views.Entry.TheVariants.{At, Ref, Busy}
use Rattle.pool_table.specs.declared.views.Part.{Part}
use Rattle.pool_table.specs.declared.views.SeatView.{SeatView}
use Rattle.pool_table.specs.Views.{parts_of, noted_weight}

abbrev pub ref_gain : RefDid → ℕ
ref_gain Born = 1
ref_gain Retain = 1
ref_gain Kept = 0
ref_gain Ended = 0
ref_gain Vacated = 0
ref_gain (Look k) = 0

abbrev pub ref_loss : RefDid → ℕ
ref_loss Born = 0
ref_loss Retain = 0
ref_loss Kept = 1
ref_loss Ended = 1
ref_loss Vacated = 0
ref_loss (Look k) = 0

abbrev pub ref_retain : RefDid → ℕ
ref_retain Born = 0
ref_retain Retain = 1
ref_retain Kept = 0
ref_retain Ended = 0
ref_retain Vacated = 0
ref_retain (Look k) = 0

abbrev pub ref_kept : RefDid → ℕ
ref_kept Born = 0
ref_kept Retain = 0
ref_kept Kept = 1
ref_kept Ended = 0
ref_kept Vacated = 0
ref_kept (Look k) = 0

abbrev pub ref_born : RefDid → ℕ
ref_born Born = 1
ref_born Retain = 0
ref_born Kept = 0
ref_born Ended = 0
ref_born Vacated = 0
ref_born (Look k) = 0

abbrev pub ref_ended : RefDid → ℕ
ref_ended Born = 0
ref_ended Retain = 0
ref_ended Kept = 0
ref_ended Ended = 1
ref_ended Vacated = 0
ref_ended (Look k) = 0

abbrev pub ref_vacated : RefDid → ℕ
ref_vacated Born = 0
ref_vacated Retain = 0
ref_vacated Kept = 0
ref_vacated Ended = 0
ref_vacated Vacated = 1
ref_vacated (Look k) = 0

-- what an entry weighs for the root (p, g), by the weight of each kind of step on its word
abbrev pub on_root : (RefDid → ℕ) → ℕ → ℕ → Entry → ℕ
on_root weight p g (At o k n) = 0
on_root weight p g (Ref r d) = cond (is_root p g r) (weight d) 0
on_root weight p g (Busy b) = 0

-- the entries of all parts, weighed
abbrev pub weigh_in : (Entry → ℕ) → List Part → ℕ
weigh_in f parts = sum_by (λ (p : Part). sum_by f p.notes) parts

abbrev pub weigh : (Entry → ℕ) → SeatView → ℕ
weigh f v = weigh_in f (parts_of v)

-- the steps on the word of (p, g) in all views, weighed
abbrev pub tally : (RefDid → ℕ) → ℕ → ℕ → List SeatView → ℕ
tally weight p g views = sum_by (weigh (on_root weight p g)) views

-- the counts that a note gains and loses for its lane
abbrev pub at_gain : ℕ → ℕ → Entry → ℕ
at_gain p g e = noted_weight (λ (n : Noted). did_fetch p g n.did) e

abbrev pub at_loss : ℕ → ℕ → Entry → ℕ
at_loss p g e = noted_weight (λ (n : Noted). did_post p g n.did) e

-- the steps on the words of all roots, weighed
abbrev pub on_any : (RefDid → ℕ) → Entry → ℕ
on_any weight (At o k n) = 0
on_any weight (Ref r d) = weight d
on_any weight (Busy b) = 0

-- a view's count of a root is what it gained less what it lost
abbrev pub gained : ℕ → ℕ → SeatView → ℕ
gained p g v = weigh (on_root ref_gain p g) v + weigh (at_gain p g) v

abbrev pub lost : ℕ → ℕ → SeatView → ℕ
lost p g v = weigh (on_root ref_loss p g) v + weigh (at_loss p g) v

-- the same over the parts other than the seat's own
abbrev pub gained_beside : ℕ → ℕ → SeatView → ℕ
gained_beside p g v = weigh_in (on_root ref_gain p g) v.others + weigh_in (at_gain p g) v.others

abbrev pub lost_beside : ℕ → ℕ → SeatView → ℕ
lost_beside p g v = weigh_in (on_root ref_loss p g) v.others + weigh_in (at_loss p g) v.others

-- the retains made, with the moves left, and the releases that left their root alive. A retain
-- takes a move from its seat, and such a release gives one to its own
abbrev pub reached : SeatView → ℕ
reached v = weigh (on_any ref_retain) v + v.moves

abbrev pub returned : SeatView → ℕ
returned v = weigh (on_any ref_kept) v

-- the same for all roots of the place p
abbrev pub on_place : (RefDid → ℕ) → ℕ → Entry → ℕ
on_place weight p (At o k n) = 0
on_place weight p (Ref r d) = cond (r.place == p) (weight d) 0
on_place weight p (Busy b) = 0

abbrev pub place_tally : (RefDid → ℕ) → ℕ → List SeatView → ℕ
place_tally weight p views = sum_by (weigh (on_place weight p)) views

-- the steps on the word of the root (p, g) that name the capacity c
abbrev pub on_exact : (RefDid → ℕ) → ℕ → ℕ → ℕ → Entry → ℕ
on_exact weight p g c (At o k n) = 0
on_exact weight p g c (Ref r d) = cond (is_root p g r && (r.capacity == c)) (weight d) 0
on_exact weight p g c (Busy b) = 0

-- the steps on the word of this very root, with its capacity
abbrev pub on_this : (RefDid → ℕ) → RootId → Entry → ℕ
on_this weight r (At o k n) = 0
on_this weight r (Ref q d) = cond (same_root q r) (weight d) 0
on_this weight r (Busy b) = 0

-- the views of it that an entry fetches, and posts
abbrev pub fetches : RootId → Entry → ℕ
fetches r e = noted_weight (λ (n : Noted). did_fetch_of r n.did) e

abbrev pub posts : RootId → Entry → ℕ
posts r e = noted_weight (λ (n : Noted). did_post_of r n.did) e

-- a view counts the root: it gained more counts of it than it lost
abbrev pub gained_of : RootId → SeatView → ℕ
gained_of r v = weigh (on_this ref_gain r) v + weigh (fetches r) v

abbrev pub lost_of : RootId → SeatView → ℕ
lost_of r v = weigh (on_this ref_loss r) v + weigh (posts r) v

abbrev pub HasCount : RootId → SeatView → Type 0
HasCount r v = lost_of r v < gained_of r v

-- a view has the end token of a root that it ended and hasn't vacated
abbrev pub HasToken : RootId → SeatView → Type 0
HasToken r v = weigh (on_this ref_ended r) v ≡ weigh (on_this ref_vacated r) v + 1

-- a view counts at most one root of each place, and none whose end token it has
pub record CountsOne (v : SeatView) : Type 0 where
  pub one : (q r : RootId) → HasCount q v → HasCount r v → q.place ≡ r.place → q ≡ r
  pub ended : (r : RootId) → HasToken r v → HasCount r v → ⊥

-- the word of the root place p: its generation, twice the count while it is live, and 1 once it is
-- vacant; and what the steps on it in all views add up to
pub record IsCounted (p : ℕ) (views : List SeatView) (word : ℕ) : Type 0 where
  pub generation : ℕ
  pub count : ℕ
  pub vacant : ℕ
  pub word_is : word ≡ generation * 4294967296 + (2 * count + vacant)
  pub young : generation < 4294967296
  pub free : vacant ≤ 1
  pub live : 0 < count → vacant ≡ 0
  pub unborn : generation ≡ 0 → (count ≡ 0) × (vacant ≡ 1)
  -- no step is of a later generation, or of generation 0
  pub later : (weight : RefDid → ℕ) (g : ℕ) → (g ≡ 0) ⊎ (generation < g) →
      tally weight p g views ≡ 0
  pub born : (g : ℕ) → 0 < g → g ≤ generation → tally ref_born p g views ≡ 1
  pub counts : tally ref_gain p generation views ≡ tally ref_loss p generation views + count
  -- earlier roots have no counts left, one end and one vacating
  pub past : (g : ℕ) → 0 < g → g < generation →
      (tally ref_gain p g views ≡ tally ref_loss p g views)
      × (tally ref_ended p g views ≡ 1) × (tally ref_vacated p g views ≡ 1)
  -- the last root has its end exactly where no count is left
  pub ended : 0 < generation →
      (count ≡ 0 → tally ref_ended p generation views ≡ 1)
      × (0 < count → tally ref_ended p generation views ≡ 0)
  pub vacated : 0 < generation → tally ref_vacated p generation views ≡ vacant
  pub all_born : place_tally ref_born p views ≡ generation
  pub all_vacated : place_tally ref_vacated p views + 1 ≡ generation + vacant
  -- the counts beyond the first are the retains that no release took back
  pub beyond : place_tally ref_retain p views ≡ place_tally ref_kept p views + (count - 1)

-- the view after a step on a reference word
abbrev pub with_ref : SeatView → RootId → RefDid → ℕ → SeatView
with_ref v r d moves =
    record v {
      own = record { number = v.own.number; notes = v.own.notes ++ Ref r d ∷ [] };
      moves = moves;
    }
