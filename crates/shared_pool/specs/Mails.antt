-- The mails of a pool, and a seat's ends of them.
use Rattle.std.specs.Prelude.{◌≡◌, ℕ, ◌+◌, ◌*◌, ◌==◌, ◌<◌, if◌then◌else◌, List, HoldsAt}
use Rattle.atomic_table.specs.Seated.{TableId}
use Rattle.crossbeam_queue.specs.Passes.{Pass, view, IsPassOf}
use Rattle.pool_table.specs.declared.views.Entry.{Entry}
use Rattle.pool_table.specs.Letters.{received_on, sent_on}
use Rattle.shared_pool.specs.declared.mail.Mail.{Mail}
use Rattle.shared_pool.specs.declared.pool.SharedPool.{SharedPool}
use Rattle.shared_pool.specs.MailEnds.{KnownEnds, receiver, sender}
use Rattle.shared_pool.specs.Posting.{PostedLetter}

-- the name of a pool's table
abbrev pub table_of : SharedPool → TableId
table_of pool = pool.table.table.shared.table_id

-- so it is of the mail from one lane to another
abbrev pub AtMail : SharedPool → ℕ → ℕ → (Mail → Type 0) → Type 0
AtMail pool from to P = HoldsAt P pool.mails.items (from * pool.table.layout.shape.lanes + to)

-- a mail without room isn't used by posts and fetches: its lanes send letters by other channels
abbrev pub carried : Mail → ℕ → ℕ
carried m count = if m.room == 0 then 0 else count

-- the pass is the end of the lane that sends there, which sent what these notes say, or the end of
-- the one that receives
abbrev pub IsPostsEnd :
    SharedPool → ℕ → ℕ → List Entry → Pass PostedLetter KnownEnds → Type 0
IsPostsEnd pool from to notes pass =
    AtMail pool from to (λ m. IsPassOf m.queue pass
    × (view pass ≡ sender (table_of pool) from to m.room (carried m (sent_on from to notes))))

abbrev pub IsFetchesEnd :
    SharedPool → ℕ → ℕ → List Entry → Pass PostedLetter KnownEnds → Type 0
IsFetchesEnd pool from to notes pass =
    AtMail pool from to (λ m. IsPassOf m.queue pass
    × (view pass ≡ receiver (table_of pool) from to m.room (carried m (received_on from to notes))))

-- a lane's ends of the mails to each lane, and from each lane
abbrev pub ArePosts : SharedPool → ℕ → List Entry → List (Pass PostedLetter KnownEnds) → Type 0
ArePosts pool lane notes passes =
    (to : ℕ) → to < pool.table.layout.shape.lanes →
    HoldsAt (IsPostsEnd pool lane to notes) passes to

abbrev pub AreFetches : SharedPool → ℕ → List Entry → List (Pass PostedLetter KnownEnds) → Type 0
AreFetches pool lane notes passes =
    (from : ℕ) → from < pool.table.layout.shape.lanes →
    HoldsAt (IsFetchesEnd pool from lane notes) passes from
