-- The pieces that a lane took are those that the cutter sent it.
use Rattle.std.proofs.Common.{◌≡◌, ℕ, ◌<◌, List, length, ap, sym, ◌∙◌, subst, Option, Some}
use Rattle.std.specs.Prelude.{IfSome, slice_get}
use mathlib.Core.Logic.{dite}
use native.Mathlib.Decide.{ℕ_discrete}
use Rattle.pool_law.specs.declared.id.Parcel.{Parcel}
use Rattle.pool_law.specs.declared.id.RootId.{RootId}
use Rattle.pool_law.specs.declared.note.Did.{Did}
use Rattle.pool_law.specs.declared.note.Note.{Note}
use Rattle.pool_law.specs.declared.note.Object.{Object}
use Rattle.pool_law.specs.declared.note.Object.TheVariants.{Mail}
use Rattle.pool_law.specs.declared.note.RefDid.{RefDid}
use Rattle.pool_law.specs.declared.run.Shape.{Shape}
use Rattle.pool_law.specs.Lives.{StandsAt}
use Rattle.pool_law.specs.Naming.{noted_by}
use Rattle.pool_table.specs.declared.views.Entry.TheVariants.{At, Ref}
use Rattle.handed_bytes.specs.Handed.{Accesses, BornBefore, SendsPiece, TakesPiece, WritesBehindBirths, at_root}
use Rattle.handed_bytes.proofs.HandedLaw.{fetched-is}
use Rattle.handed_bytes.proofs.PieceLaws.{once-is, taken-is}
use Rattle.shared_pool.specs.declared.seat.PoolSeat.{PoolSeat}
use Rattle.shared_pool.specs.Closing.{AreWhole}
use Rattle.shared_pool.specs.Notes.{plain}
use Rattle.shared_pool.specs.Seated.{parts_in}
use Rattle.frame_hash.specs.Takes.{ReadsView, Takes, WriteNothing}
use Rattle.frame_cutter.specs.Sends.{SendsSlice, WriteFresh}
use Rattle.frame_cut.proofs.SeatLogs.{access_noted, accesses_in, fetches_in_log, has_seat, log_is, logs_of, noted_in, notes_of, posts_in_log, stands_in}
use Rattle.frame_cut.proofs.ShareLaws.{same_items}

module _ (shape : Shape) (seats : List PoolSeat) (whole : AreWhole shape (parts_in seats))
    (cutter : ℕ) (own : PoolSeat) (there : slice_get seats cutter ≡ Some own)
    (fresh : WriteFresh (notes_of own))
    (others : (lane : ℕ) (s : PoolSeat) → (lane ≡ cutter → ⊥) → slice_get seats lane ≡ Some s
    → WriteNothing (notes_of s)) where
  -- no other lane writes
  alone : (other at number offset : ℕ) (root : RootId) (bytes : List ℕ)
      → StandsAt (logs_of seats) other at (at_root root number (Did.Set offset bytes)) → other ≡ cutter
  alone other at number offset root bytes stands =
      let seat = has_seat seats other at _ stands in
      dite (ℕ_discrete other cutter) (λ same. same)
      (λ ne. absurd (others other seat.0 ne seat.1 at number offset root bytes
      (ap (λ l. slice_get l at) (sym (log_is seats other seat.0 seat.1)) ∙ stands)))

  -- and the cutter's writes are to roots that it bore just before
  births : (root : RootId) (offset : ℕ) (bytes : List ℕ)
      (write : Accesses (logs_of seats) cutter root (Did.Set offset bytes))
      → BornBefore (logs_of seats) cutter write.at root
  births root offset bytes write =
      let note = access_noted seats cutter own there shape whole root (Did.Set offset bytes) write in
      let found = fresh write.at note.0 offset bytes
      (record { place = root.place; number = write.number; stands = note.1.0; did = note.1.1 }) in
      let roots : ◌≡◌ {A = Option RootId} (Some found.0) (Some root) = sym found.1.0 ∙ note.1.2 in
      let same : found.0 ≡ root = cc roots in
      let born = found.1.1 in
      record {
        birth = born.birth;
        earlier = born.earlier;
        born = subst (λ r. StandsAt (logs_of seats) cutter born.birth (Note.Ref r RefDid.Born)) same
            (stands_in seats cutter own there born.birth (Ref found.0 RefDid.Born) born.born);
        last = λ before number more other written less stands.
            (let earlier = noted_in seats cutter own there before (Object.Root other.place) number
            (Did.Set more written) stands in
            born.last before earlier.0 more written less
            (record { place = other.place; number = number; stands = earlier.1.0; did = earlier.1.1 }));
      }

  behind : WritesBehindBirths (logs_of seats) cutter
  behind = record { alone = alone; births = births }

  -- a slice that was sent
  sent_piece : (lane k : ℕ) (piece : List ℕ) → (s : SendsSlice (notes_of own) cutter lane k piece)
      → SendsPiece (logs_of seats) cutter lane k s.view piece
  sent_piece lane k piece s =
      let w = s.slice.written in
      let write = accesses_in seats cutter own there shape whole w.at w.number s.view.root
      (Did.Set 0 s.slice.bytes) (Some cutter) w.stands in
      let once = once-is (logs_of seats) whole.one_order cutter s.view.root s.slice.bytes behind write in
      record {
        bytes = s.slice.bytes;
        written = record {
          write = write;
          only = λ other offset more a. once.only other offset more a;
        };
        post = posts_in_log seats cutter own there lane s.at s.number k (record { view = Some s.view }) s.stands
            s.earlier;
        order = s.order;
        inside = s.slice.inside;
        piece_is = s.slice.piece_is;
      }

  module _ (lane : ℕ) (seat : PoolSeat) (at_lane : slice_get seats lane ≡ Some seat) (noter : Option ℕ) where
    -- a slice that was taken, by the one that was sent
    taken_piece : (k : ℕ) (piece taken : List ℕ) → (s : SendsSlice (notes_of own) cutter lane k piece)
        → Takes (notes_of seat) noter cutter lane k taken
        → TakesPiece (logs_of seats) cutter lane k s.view taken
    taken_piece k piece taken s t =
        let sent : Parcel = record { view = Some s.view } in
        let post = posts_in_log seats cutter own there lane s.at s.number k sent s.stands s.earlier in
        let fetch = fetches_in_log seats lane seat at_lane cutter t.at t.number k noter t.parcel t.stands t.earlier in
        let same : t.parcel ≡ sent =
        fetched-is shape (logs_of seats) whole.histories cutter lane k sent t.parcel post fetch in
        let stands : slice_get (notes_of seat) t.at
        ≡ Some (At (Mail cutter lane) t.number (noted_by noter (plain (Did.Fetch sent)))) =
        t.stands ∙ ap (λ p. Some (At (Mail cutter lane) t.number (noted_by noter (plain (Did.Fetch p))))) same in
        let reads = subst (λ (p : Parcel). IfSome p.view (λ v.
        (r : ReadsView (notes_of seat) noter v taken) × (t.at < r.at))) same t.reads in
        record {
          fetch = fetches_in_log seats lane seat at_lane cutter t.at t.number k noter sent stands t.earlier;
          read = accesses_in seats lane seat at_lane shape whole reads.0.at reads.0.number s.view.root
              (Did.Get s.view.offset taken) noter reads.0.stands;
          order = reads.1;
          whole = reads.0.whole;
        }

    -- so all that was taken is all that was sent, where it is as many
    pub all_taken : (sent taken : List (List ℕ))
        → ((k : ℕ) (piece : List ℕ) → slice_get sent k ≡ Some piece
        → SendsSlice (notes_of own) cutter lane k piece)
        → ((k : ℕ) (piece : List ℕ) → slice_get taken k ≡ Some piece
        → Takes (notes_of seat) noter cutter lane k piece)
        → length taken ≡ length sent → taken ≡ sent
    all_taken sent taken sends takes many =
        same_items taken sent many (λ k mine theirs at_mine at_theirs.
        (let s = sends k theirs at_theirs in
        taken-is shape (logs_of seats) whole.histories whole.one_order cutter lane k s.view s.view theirs mine
        (sent_piece lane k theirs s) (taken_piece k theirs mine s (takes k mine at_mine))))
