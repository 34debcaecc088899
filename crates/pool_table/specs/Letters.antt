-- Letters: what the seat of one lane sends to that of another.
use Rattle.step_law.specs.Settings.{Setting}
use Rattle.std.specs.Prelude.{◌≡◌, ℕ, ◌+◌, ◌<◌, ◌==◌, ◌&&◌, List, [], ◌∷◌, ◌++◌, length, Option, Some, None, All, sum_by, slice_index}
use Rattle.pool_law.specs.declared.id.Parcel.{Parcel}
use Rattle.pool_law.specs.declared.note.Did.{Did}
use Rattle.pool_law.specs.declared.note.Did.TheVariants.{Post, Fetch}
use Rattle.pool_law.specs.declared.note.Noted.{Noted}
use Rattle.pool_law.specs.declared.note.Object.{Object}
use Rattle.pool_law.specs.declared.note.Object.TheVariants.{Mail}
use Rattle.pool_law.specs.Kinds.{Passing, Goes, Comes, passing}
use Rattle.history_laws.specs.NoteCounts.{one_if_so}
use Rattle.pool_table.specs.declared.views.Entry.{Entry}
use Rattle.pool_table.specs.declared.views.Entry.TheVariants.{At, Ref, Busy}
use Rattle.pool_table.specs.declared.views.Letter.{Letter}
use Rattle.pool_table.specs.declared.views.Part.{Part}
use Rattle.pool_table.specs.declared.views.SeatView.{SeatView}
use Rattle.pool_table.specs.Views.{parts_of, blank, with_entry}
use Rattle.pool_table.specs.Counts.{weigh}

-- the letter that goes into a mail with a note of this number, and the one that comes out
abbrev pub letter_in : Object → ℕ → Passing → Option Letter
letter_in (Mail a b) k (Goes parcel) =
    Some (record { from = a; to = b; number = k; parcel = parcel })
letter_in o k passed = None

abbrev pub letter_out : Object → ℕ → Passing → Option Letter
letter_out (Mail a b) k (Comes parcel) =
    Some (record { from = a; to = b; number = k; parcel = parcel })
letter_out o k passed = None

-- the letter that an entry sends, and the one that it receives
abbrev pub letter_sent : Entry → Option Letter
letter_sent (At o k n) = letter_in o k (passing n.did)
letter_sent (Ref r d) = None
letter_sent (Busy b) = None

abbrev pub letter_received : Entry → Option Letter
letter_received (At o k n) = letter_out o k (passing n.did)
letter_received (Ref r d) = None
letter_received (Busy b) = None

-- a weight of letters, of the letter that there is
abbrev pub letter_weight : (Letter → ℕ) → Option Letter → ℕ
letter_weight f (Some x) = f x
letter_weight f None = 0

-- what an entry weighs by the letter that it sends, and by the one that it receives
abbrev pub sent_as : (Letter → ℕ) → Entry → ℕ
sent_as f e = letter_weight f (letter_sent e)

abbrev pub received_as : (Letter → ℕ) → Entry → ℕ
received_as f e = letter_weight f (letter_received e)

-- 1 for a letter from the lane a to the lane b
abbrev pub is_on_way : ℕ → ℕ → Letter → ℕ
is_on_way a b x = one_if_so ((x.from == a) && (x.to == b))

-- how many letters from a to b these entries send, and receive
abbrev pub sent_on : ℕ → ℕ → List Entry → ℕ
sent_on a b entries = sum_by (sent_as (is_on_way a b)) entries

abbrev pub received_on : ℕ → ℕ → List Entry → ℕ
received_on a b entries = sum_by (received_as (is_on_way a b)) entries

-- the counts of a numbered part have how many letters it sends to each of up to 16 lanes
abbrev pub CountsSent : Part → List ℕ → Type 0
CountsSent q counts =
    (lane to : ℕ) → q.number ≡ Some lane →
    (length counts ≡ 16) × (to < 16 → slice_index counts to ≡ sent_on lane to q.notes)

-- the letters that a part sends from one lane to another are numbered 1, 2 and so on in its order,
-- and so are those that it receives
pub record IsInTurn (q : Part) : Type 0 where
  pub sent : (before after : List Entry) (e : Entry) (x : Letter) → q.notes ≡ before ++ e ∷ after →
      letter_sent e ≡ Some x → x.number ≡ sent_on x.from x.to before + 1
  pub received : (before after : List Entry) (e : Entry) (x : Letter) →
      q.notes ≡ before ++ e ∷ after →
      letter_received e ≡ Some x → x.number ≡ received_on x.from x.to before + 1

-- each letter that was sent was received, or lies in one view of the holders
pub record LettersKept (views holders : List SeatView) : Type 0 where
  pub kept : (f : Letter → ℕ) →
      sum_by (weigh (sent_as f)) views
      ≡ sum_by (weigh (received_as f)) views + sum_by (λ (v : SeatView). sum_by f v.letters) holders
  pub in_turn : All (λ (v : SeatView). All IsInTurn (parts_of v)) views

abbrev pub AreMailed : List SeatView → Type 0
AreMailed views = LettersKept views views

-- the note of a letter that is sent, and of one that is received
abbrev pub by_lane : ℕ → Did → Noted
by_lane lane did =
    record { did = did; lane = Some lane; watch = None; root = None; region = None }

abbrev pub post_of : Letter → Entry
post_of x = At (Mail x.from x.to) x.number (by_lane x.from (Post x.parcel))

abbrev pub fetch_of : Letter → Entry
fetch_of x = At (Mail x.from x.to) x.number (by_lane x.to (Fetch x.parcel))

-- the view that sent the letter, and the view that received it
abbrev pub sends : SeatView → Letter → SeatView
sends v x = with_entry v (post_of x) v.turns

abbrev pub receives : SeatView → Letter → SeatView
receives v x = with_entry v (fetch_of x) v.turns

-- the view that receives the first of these letters
abbrev pub receives_first : SeatView → List Letter → SeatView
receives_first v [] = v
receives_first v (x ∷ xs) = receives v x

-- a view with one letter and nothing else
abbrev pub letter_view : Option Setting → Letter → SeatView
letter_view setting x = record (blank setting) { letters = x ∷ [] }

abbrev pub first_letter : List Letter → Option Letter
first_letter [] = None
first_letter (x ∷ xs) = Some x

-- the lane of a number
abbrev pub lane_of : Option ℕ → ℕ
lane_of (Some lane) = lane
lane_of None = 0

-- the next letter of the view's lane to another
abbrev pub next_letter : ℕ → Parcel → SeatView → Letter
next_letter to parcel v =
    let lane = lane_of v.own.number in
    record {
      from = lane;
      to = to;
      number = sent_on lane to v.own.notes + 1;
      parcel = parcel;
    }
