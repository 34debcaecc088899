-- A seat that goes on without letters sent and received as many as before.
use Rattle.std.proofs.Common.{◌≡◌, ℕ, List, [], ◌∷◌, ◌++◌, Bool, true, false, ◌&&◌, ◌||◌, refl, sym, ap, subst, append_assoc, append-nil}
use Rattle.std.specs.List.{list_all}
use Rattle.std.proofs.lemmas.Bool.{and_parts}
use Rattle.pool_law.specs.declared.id.RootId.{RootId}
use Rattle.pool_law.specs.declared.note.Did.{Did}
use Rattle.pool_law.specs.declared.note.Did.TheVariants.{Post, Fetch}
use Rattle.pool_law.specs.declared.note.Noted.{Noted}
use Rattle.pool_law.specs.declared.note.Object.TheVariants.{Root}
use Rattle.pool_law.specs.declared.note.RefDid.{RefDid}
use Rattle.pool_law.specs.Counts.{root_is}
use Rattle.pool_law.specs.Kinds.{Stays, passing}
use Rattle.pool_law.specs.Naming.{noted_by}
use Rattle.pool_table.specs.Counts.{with_ref}
use Rattle.pool_table.specs.declared.views.Entry.{Entry}
use Rattle.pool_table.specs.declared.views.Entry.TheVariants.{At, Busy, Ref}
use Rattle.shared_pool.proofs.SeatEnds.{IsQuiet, SameLetters, letters_both, letters_quiet, letters_same, quiet_at, quiet_busy, quiet_ref, quiet_stays}
use Rattle.shared_pool.specs.declared.pool.SharedPool.{SharedPool}
use Rattle.shared_pool.specs.declared.seat.PoolSeat.{PoolSeat}
use Rattle.shared_pool.specs.SeatViews.{HasView, view_of}
use Rattle.shared_pool.specs.Seats.{IsNoted}
use Rattle.seat_work.specs.Growth.{is_ask, is_quiet, is_quiet_but, is_quiet_entry}
use Rattle.seat_work.specs.Works.{IsLater, IsLaterBut}
use Rattle.seat_work.proofs.Later.{quiet_note_stays}

quiet_entry : (e : Entry) → is_quiet_entry e ≡ true → IsQuiet e
quiet_entry (At o k n) quiet = quiet_stays o k n (quiet_note_stays n.did quiet)
quiet_entry (Ref r d) quiet = quiet_ref r d
quiet_entry (Busy held) quiet = quiet_busy held

-- nor does an ask for capacity pass a letter
asks_stay : (d : Did) → (is_quiet d || is_ask d) ≡ true → passing d ≡ Stays
asks_stay (Post parcel) either = absurd (cc either)
asks_stay (Fetch parcel) either = absurd (cc either)
asks_stay d either = refl

weaker : (a b c : Bool) → (a || (b && c)) ≡ true → (a || b) ≡ true
weaker true b c is = refl
weaker false true c is = refl
weaker false false c is = is

quiet_entry_but : (root : RootId) (e : Entry) → is_quiet_but root e ≡ true → IsQuiet e
quiet_entry_but root (At o k n) quiet =
    quiet_stays o k n (asks_stay n.did (weaker (is_quiet n.did) (is_ask n.did) (root_is root n.root) quiet))
quiet_entry_but root (Ref r d) quiet = quiet_ref r d
quiet_entry_but root (Busy held) quiet = quiet_busy held

letters_on : (is_so : Entry → Bool) → ((e : Entry) → is_so e ≡ true → IsQuiet e) → (xs es : List Entry)
    → list_all is_so es ≡ true → SameLetters xs (xs ++ es)
letters_on is_so each xs [] quiet = subst (SameLetters xs) (sym (append-nil xs)) (letters_same xs)
letters_on is_so each xs (e ∷ es) quiet =
    let both = and_parts (is_so e) (list_all is_so es) quiet in
    subst (SameLetters xs) (append_assoc xs (e ∷ []) es)
    (letters_both xs (xs ++ e ∷ []) ((xs ++ e ∷ []) ++ es) (letters_quiet xs e (each e both.0))
    (letters_on is_so each (xs ++ e ∷ []) es both.1))

-- the notes of both seats
abbrev pub KeepsLetters : PoolSeat → PoolSeat → Type 0
KeepsLetters old new = SameLetters (view_of old).own.notes (view_of new).own.notes

pub later_letters : (pool : SharedPool) (old new : PoolSeat) → IsLater pool old new → KeepsLetters old new
later_letters pool old new later =
    subst (SameLetters (view_of old).own.notes) (sym later.grown.notes)
    (letters_on is_quiet_entry quiet_entry (view_of old).own.notes later.added later.quiet)

pub later_letters_but : (pool : SharedPool) (root : RootId) (old new : PoolSeat) → IsLaterBut root pool old new
    → KeepsLetters old new
later_letters_but pool root old new later =
    subst (SameLetters (view_of old).own.notes) (sym later.grown.notes)
    (letters_on (is_quiet_but root) (quiet_entry_but root) (view_of old).own.notes later.added later.quiet)

-- a note at a root's place
pub noted_letters : (pool : SharedPool) (old new : PoolSeat) (root : RootId) (number : ℕ) (n : Noted)
    → IsNoted pool old new (Root root.place) number n → KeepsLetters old new
noted_letters pool old new root number n noted =
    let e : Entry = At (Root root.place) number (noted_by (view_of old).own.number n) in
    subst (SameLetters (view_of old).own.notes) (sym (ap (λ m. m.0.own.notes) noted.seat))
    (letters_quiet (view_of old).own.notes e (quiet_at (Root root.place) number _ refl))

-- a step on its word
pub ref_letters : (old new : PoolSeat) (root : RootId) (d : RefDid) (moves : ℕ)
    → HasView new (with_ref (view_of old) root d moves) → KeepsLetters old new
ref_letters old new root d moves has =
    subst (SameLetters (view_of old).own.notes) (sym (ap (λ m. m.0.own.notes) has))
    (letters_quiet (view_of old).own.notes (Ref root d) (quiet_ref root d))
