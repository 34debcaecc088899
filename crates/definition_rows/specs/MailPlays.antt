-- Notes at the mail from the first lane to the second.
use Rattle.std.specs.Prelude.{ℕ, List, [], ◌∷◌}
use Rattle.pool_law.specs.declared.note.Object.{Object}
use Rattle.pool_law.specs.declared.note.Note.{Note}
use Rattle.pool_law.specs.Mails.{MailHolds}
use Rattle.definition_rows.specs.Notes.{root, view, mail, post, fetch, post_nothing, fetch_nothing}

-- a view of four bytes goes, and comes, with so many of them written
abbrev pub sends_four : ℕ → ℕ → Note
sends_four n written = mail 0 1 n (post (view (root 0 1 4) 0 4 0 written))

abbrev pub gets_four : ℕ → ℕ → Note
gets_four n written = mail 0 1 n (fetch (view (root 0 1 4) 0 4 0 written))

-- an empty parcel goes, and comes
abbrev pub sends_nothing : ℕ → Note
sends_nothing n = mail 0 1 n post_nothing

abbrev pub gets_nothing : ℕ → Note
gets_nothing n = mail 0 1 n fetch_nothing

-- two parcels go
abbrev pub two_sent : List Note
two_sent = sends_four 1 2 ∷ sends_nothing 2 ∷ []

-- the mail holds, of these notes of the two lanes
abbrev pub Holds : List Note → List Note → Type 0
Holds sent received = MailHolds (Object.Mail 0 1) sent received
