-- What the seats of a pool noted, as the logs of its lanes at the close.
use Rattle.std.proofs.Common.{◌≡◌, ℕ, zero, suc, List, [], ◌∷◌, length, map, take, refl, ap, sym, ◌∙◌, Option, Some}
use Rattle.std.specs.Prelude.{slice_get}
use Rattle.std.proofs.lemmas.List.{take-map}
use Rattle.pool_law.specs.declared.id.RootId.{RootId}
use Rattle.pool_law.specs.declared.id.Parcel.{Parcel}
use Rattle.pool_law.specs.declared.note.Did.{Did}
use Rattle.pool_law.specs.declared.note.Note.{Note}
use Rattle.pool_law.specs.declared.note.Noted.{Noted}
use Rattle.pool_law.specs.declared.note.Object.{Object}
use Rattle.pool_law.specs.declared.note.Object.TheVariants.{Mail}
use Rattle.pool_law.specs.declared.run.Shape.{Shape}
use Rattle.pool_law.specs.Lives.{StandsAt}
use Rattle.pool_law.specs.Logs.{ToldNote, Logs, of_lane}
use Rattle.pool_law.specs.Logs as logs
use Rattle.pool_law.specs.Mails.{fetched, posted}
use Rattle.pool_law.specs.Naming.{noted_by}
use Rattle.pool_law.proofs.ListLemmas.{get-map, map-get}
use Rattle.pool_table.specs.declared.views.Entry.{Entry}
use Rattle.pool_table.specs.declared.views.Entry.TheVariants.{At, Ref, Busy}
use Rattle.run_laws.proofs.LogEntries.{entries-at}
use Rattle.handed_bytes.specs.Handed.{Accesses, Fetches, Posts}
use Rattle.shared_pool.specs.declared.seat.PoolSeat.{PoolSeat}
use Rattle.shared_pool.specs.Closing.{AreWhole, entries_in, entry_of, logs_in, note_of}
use Rattle.shared_pool.specs.Notes.{plain}
use Rattle.shared_pool.specs.RootNotes.{access}
use Rattle.shared_pool.specs.SeatViews.{view_of}
use Rattle.shared_pool.specs.Seated.{parts_in}

-- what a seat noted
abbrev pub notes_of : PoolSeat → List Entry
notes_of s = (view_of s).own.notes

abbrev pub logs_of : List PoolSeat → Logs
logs_of seats = logs_in (parts_in seats)

-- a lane's log is what its seat noted
pub log_is : (seats : List PoolSeat) (lane : ℕ) (s : PoolSeat) → slice_get seats lane ≡ Some s
    → of_lane (logs_of seats) lane ≡ map note_of (notes_of s)
log_is [] lane s e = absurd (cc e)
log_is (t ∷ seats) zero s e = let same : t ≡ s = cc e in ap (λ x. map note_of (notes_of x)) same
log_is (t ∷ seats) (suc lane) s e = log_is seats lane s e

entries_are : (seats : List PoolSeat) (lane : ℕ) (s : PoolSeat) → slice_get seats lane ≡ Some s
    → of_lane (entries_in (parts_in seats)) lane ≡ map entry_of (notes_of s)
entries_are [] lane s e = absurd (cc e)
entries_are (t ∷ seats) zero s e = let same : t ≡ s = cc e in ap (λ x. map entry_of (notes_of x)) same
entries_are (t ∷ seats) (suc lane) s e = entries_are seats lane s e

-- a lane with a note has a seat
pub has_seat : (seats : List PoolSeat) (lane at : ℕ) (n : Note) → StandsAt (logs_of seats) lane at n
    → (s : PoolSeat) × (slice_get seats lane ≡ Some s)
has_seat [] lane at n e = absurd (cc e)
has_seat (s ∷ seats) zero at n e = (s, refl)
has_seat (s ∷ seats) (suc lane) at n e = has_seat seats lane at n e

-- the entry of a note at an object
noted_entry : (e : Entry) (object : Object) (number : ℕ) (did : Did) → note_of e ≡ Note.At object number did
    → (noted : Noted) × ((e ≡ At object number noted) × (noted.did ≡ did))
noted_entry (At o n noted) object number did e =
    let a : o ≡ object = cc e in
    let b : n ≡ number = cc e in
    (noted, (λ i. At (a i) (b i) noted, cc e))
noted_entry (Ref root d) object number did e = absurd (cc e)
noted_entry (Busy held) object number did e = absurd (cc e)

module _ (seats : List PoolSeat) (lane : ℕ) (s : PoolSeat) (own : slice_get seats lane ≡ Some s) where
  -- what the seat noted stands in its lane's log
  pub stands_in : (at : ℕ) (e : Entry) → slice_get (notes_of s) at ≡ Some e
      → StandsAt (logs_of seats) lane at (note_of e)
  stands_in at e there = ap (λ l. slice_get l at) (log_is seats lane s own) ∙ get-map note_of (notes_of s) at e there

  -- and the other way round
  pub noted_in : (at : ℕ) (object : Object) (number : ℕ) (did : Did)
      → StandsAt (logs_of seats) lane at (Note.At object number did)
      → (noted : Noted) × ((slice_get (notes_of s) at ≡ Some (At object number noted)) × (noted.did ≡ did))
  noted_in at object number did stands =
      let found = map-get note_of (notes_of s) at (Note.At object number did)
      (ap (λ l. slice_get l at) (sym (log_is seats lane s own)) ∙ stands) in
      let is = noted_entry found.0 object number did found.2 in
      (is.0, (found.1 ∙ ap (λ x. Some x) is.1.0, is.1.1))

  -- a post, and a fetch
  abbrev pub posts_in_log : (to at number k : ℕ) (parcel : Parcel)
      → slice_get (notes_of s) at
      ≡ Some (At (Mail lane to) number (noted_by (Some lane) (plain (Did.Post parcel))))
      → length (posted (Mail lane to) (map note_of (take at (notes_of s)))) ≡ k
      → Posts (logs_of seats) lane to k parcel
  posts_in_log to at number k parcel there earlier = record {
    at = at;
    number = number;
    stands = stands_in at _ there;
    earlier =
        ap (λ l. length (posted (Mail lane to) (take at l))) (log_is seats lane s own)
        ∙ ap (λ l. length (posted (Mail lane to) l)) (take-map note_of at (notes_of s))
        ∙ earlier;
  }

  abbrev pub fetches_in_log : (from at number k : ℕ) (noter : Option ℕ) (parcel : Parcel)
      → slice_get (notes_of s) at
      ≡ Some (At (Mail from lane) number (noted_by noter (plain (Did.Fetch parcel))))
      → length (fetched (Mail from lane) (map note_of (take at (notes_of s)))) ≡ k
      → Fetches (logs_of seats) from lane k parcel
  fetches_in_log from at number k noter parcel there earlier = record {
    at = at;
    number = number;
    stands = stands_in at _ there;
    earlier =
        ap (λ l. length (fetched (Mail from lane) (take at l))) (log_is seats lane s own)
        ∙ ap (λ l. length (fetched (Mail from lane) l)) (take-map note_of at (notes_of s))
        ∙ earlier;
  }

  module _ (shape : Shape) (whole : AreWhole shape (parts_in seats)) where
    -- the logs know of a note what its entry does
    entry_known : (at : ℕ) (e : Entry) → slice_get (notes_of s) at ≡ Some e
        → logs.entry_of (logs_of seats) (note_of e) ≡ entry_of e
    entry_known at e there =
        let ours : slice_get (of_lane (entries_in (parts_in seats)) lane) at ≡ Some (entry_of e) =
        ap (λ l. slice_get l at) (entries_are seats lane s own) ∙ get-map entry_of (notes_of s) at e there in
        let theirs : slice_get (of_lane (logs.entries_of (logs_of seats)) lane) at
        ≡ Some (logs.entry_of (logs_of seats) (note_of e)) =
        ap (λ l. slice_get l at) (entries-at (logs_of seats) (logs_of seats) lane)
        ∙ get-map (logs.entry_of (logs_of seats)) (of_lane (logs_of seats) lane) at (note_of e)
        (stands_in at e there) in
        let both : ◌≡◌ {A = Option ToldNote} (Some (logs.entry_of (logs_of seats) (note_of e))) (Some (entry_of e)) =
        sym theirs ∙ ap (λ es. slice_get (of_lane es lane) at) whole.entries ∙ ours in
        cc both

    -- so the root that an access names is the one that the logs give
    pub root_known : (at place number : ℕ) (noted : Noted)
        → slice_get (notes_of s) at ≡ Some (At (Object.Root place) number noted)
        → (logs.entry_of (logs_of seats) (Note.At (Object.Root place) number noted.did)).root ≡ noted.root
    root_known at place number noted there =
        ap (λ (x : ToldNote). x.root) (entry_known at (At (Object.Root place) number noted) there)

    -- an access of the seat as one of its lane's log
    abbrev pub accesses_in : (at number : ℕ) (root : RootId) (did : Did) (noter : Option ℕ)
        → slice_get (notes_of s) at ≡ Some (At (Object.Root root.place) number (noted_by noter (access root did)))
        → Accesses (logs_of seats) lane root did
    accesses_in at number root did noter there = record {
      at = at;
      number = number;
      stands = stands_in at _ there;
      root_is = root_known at root.place number (noted_by noter (access root did)) there;
    }

    -- and what the log's access says of the seat's note
    pub access_noted : (root : RootId) (did : Did) → (a : Accesses (logs_of seats) lane root did)
        → (noted : Noted) × ((slice_get (notes_of s) a.at ≡ Some (At (Object.Root root.place) a.number noted))
        × (noted.did ≡ did) × (noted.root ≡ Some root))
    access_noted root did a =
        let found = noted_in a.at (Object.Root root.place) a.number did a.stands in (
          found.0,
          (
            found.1.0,
            found.1.1,
            sym (root_known a.at root.place a.number found.0 found.1.0)
                ∙ ap (λ d. (logs.entry_of (logs_of seats) (Note.At (Object.Root root.place) a.number d)).root) found.1.1
                ∙ a.root_is,
          ),
        )
