-- A seat stays one of the pool's where its own part got entries that neither send nor receive a letter.
use Rattle.std.proofs.Common.{◌≡◌, ℕ, List, [], ◌∷◌, ◌++◌, Bool, true, refl, sym, ap, ◌∙◌, subst, arith}
use Rattle.std.specs.Prelude.{HoldsAt, MatchBool, None, false}
use Rattle.std.proofs.lemmas.List.Sums.{sum_by_push}
use Rattle.crossbeam_queue.specs.Passes.{Pass, view, IsPassOf}
use Rattle.pool_law.specs.declared.id.RootId.{RootId}
use Rattle.pool_law.specs.declared.note.Held.{Held}
use Rattle.pool_law.specs.declared.note.Noted.{Noted}
use Rattle.pool_law.specs.declared.note.Object.{Object}
use Rattle.pool_law.specs.declared.note.Object.TheVariants.{Mail}
use Rattle.pool_law.specs.declared.note.RefDid.{RefDid}
use Rattle.pool_law.specs.Kinds.{Stays, passing}
use Rattle.pool_law.specs.Logs.{has_history}
use Rattle.pool_table.specs.declared.views.Entry.{Entry}
use Rattle.pool_table.specs.declared.views.Entry.TheVariants.{At, Busy, Ref}
use Rattle.pool_table.specs.declared.views.SeatView.{SeatView}
use Rattle.pool_table.specs.Counts.{CountsOne, with_ref}
use Rattle.pool_table.specs.Letters.{is_on_way, letter_in, letter_out, letter_received, letter_sent, letter_weight, received_as, received_on, sent_as, sent_on}
use Rattle.pool_table.specs.Views.{with_entry}
use Rattle.pool_table.proofs.OneRoot.{marked_one}
use Rattle.shared_pool.specs.declared.pool.SharedPool.{SharedPool}
use Rattle.shared_pool.specs.declared.seat.PoolSeat.{PoolSeat}
use Rattle.shared_pool.specs.MailEnds.{KnownEnds, receiver, sender}
use Rattle.shared_pool.specs.Mails.{ArePosts, AreFetches, AtMail, carried, table_of}
use Rattle.shared_pool.specs.Posting.{PostedLetter}
use Rattle.shared_pool.specs.SeatViews.{HasView, SameSeat, view_of}
use Rattle.shared_pool.specs.Seats.{IsPoolSeat, FoundBusy}

-- an entry that neither sends a letter nor receives one
pub record IsQuiet (e : Entry) : Type 0 where
  pub sends : letter_sent e ≡ None
  pub receives : letter_received e ≡ None

-- a note at an object with a history, a step on a root's word and the mark of a busy object are quiet
pub quiet_at : (o : Object) (k : ℕ) (n : Noted) → has_history o ≡ true → IsQuiet (At o k n)
quiet_at (Mail a b) k n there = absurd (cc there)
quiet_at o k n there = record { sends = refl; receives = refl }

pub quiet_ref : (r : RootId) (d : RefDid) → IsQuiet (Ref r d)
quiet_ref r d = record { sends = refl; receives = refl }

pub quiet_busy : (held : Held) → IsQuiet (Busy held)
quiet_busy held = record { sends = refl; receives = refl }

-- so is a note that is neither a post nor a fetch, at any object
pub quiet_stays : (o : Object) (k : ℕ) (n : Noted) → passing n.did ≡ Stays → IsQuiet (At o k n)
quiet_stays o k n stays =
    record { sends = ap (letter_in o k) stays ∙ none_in o; receives = ap (letter_out o k) stays ∙ none_out o }
  where
    none_in : (o : Object) → letter_in o k Stays ≡ None
    none_in (Mail a b) = refl
    none_in o = refl

    none_out : (o : Object) → letter_out o k Stays ≡ None
    none_out (Mail a b) = refl
    none_out o = refl

-- other notes send and receive as many letters on each way
pub record SameLetters (old new : List Entry) : Type 0 where
  pub sent : (a b : ℕ) → sent_on a b new ≡ sent_on a b old
  pub received : (a b : ℕ) → received_on a b new ≡ received_on a b old

pub letters_same : (es : List Entry) → SameLetters es es
letters_same es = record { sent = λ a b. refl; received = λ a b. refl }

pub letters_both : (xs ys zs : List Entry) → SameLetters xs ys → SameLetters ys zs → SameLetters xs zs
letters_both xs ys zs x y =
    record { sent = λ a b. y.sent a b ∙ x.sent a b; received = λ a b. y.received a b ∙ x.received a b }

pub letters_quiet : (es : List Entry) (e : Entry) → IsQuiet e → SameLetters es (es ++ e ∷ [])
letters_quiet es e quiet = record { sent = sent; received = received }
  where
    sent : (a b : ℕ) → sent_on a b (es ++ e ∷ []) ≡ sent_on a b es
    sent a b =
        let c = sum_by_push (sent_as (is_on_way a b)) es e in
        let z : sent_as (is_on_way a b) e ≡ 0 = ap (letter_weight (is_on_way a b)) quiet.sends in omega (arith, c, z)

    received : (a b : ℕ) → received_on a b (es ++ e ∷ []) ≡ received_on a b es
    received a b =
        let c = sum_by_push (received_as (is_on_way a b)) es e in
        let z : received_as (is_on_way a b) e ≡ 0 = ap (letter_weight (is_on_way a b)) quiet.receives in
        omega (arith, c, z)

-- the passes are the ends of the lane that made such notes
pub posts_stay : (pool : SharedPool) (lane : ℕ) (old new : List Entry) (passes : List (Pass PostedLetter KnownEnds))
    → SameLetters old new → ArePosts pool lane old passes → ArePosts pool lane new passes
posts_stay pool lane old new passes same are to below =
    subst
    (λ (k : ℕ). HoldsAt (λ (pass : Pass PostedLetter KnownEnds). AtMail pool lane to (λ m. IsPassOf m.queue pass
    × (view pass ≡ sender (table_of pool) lane to m.room (carried m k)))) passes to)
    (sym (same.sent lane to)) (are to below)

pub fetches_stay : (pool : SharedPool) (lane : ℕ) (old new : List Entry)
    (passes : List (Pass PostedLetter KnownEnds))
    → SameLetters old new → AreFetches pool lane old passes → AreFetches pool lane new passes
fetches_stay pool lane old new passes same are from below =
    subst
    (λ (k : ℕ). HoldsAt (λ (pass : Pass PostedLetter KnownEnds). AtMail pool from lane (λ m. IsPassOf m.queue pass
    × (view pass ≡ receiver (table_of pool) from lane m.room (carried m k)))) passes from)
    (sym (same.received from lane)) (are from below)

-- a view outside sections, where its own part made such notes, and its moves and turns may be others
pub record GoesQuietly (v w : SeatView) : Type 0 where
  pub inside : w.inside ≡ None
  pub others : w.others ≡ v.others
  pub number : w.own.number ≡ v.own.number
  pub setting : w.setting ≡ v.setting
  pub letters : SameLetters v.own.notes w.own.notes

pub goes_nowhere : (v : SeatView) → v.inside ≡ None → GoesQuietly v v
goes_nowhere v outside =
    record { inside = outside; others = refl; number = refl; setting = refl; letters = letters_same v.own.notes }

pub goes_entry : (v : SeatView) (e : Entry) (turns : ℕ) → IsQuiet e → GoesQuietly v (with_entry v e turns)
goes_entry v e turns quiet =
    record { inside = refl; others = refl; number = refl; setting = refl; letters = letters_quiet v.own.notes e quiet }

pub goes_ref : (v : SeatView) (r : RootId) (d : RefDid) (moves : ℕ) → v.inside ≡ None
    → GoesQuietly v (with_ref v r d moves)
goes_ref v r d moves outside = record {
  inside = outside;
  others = refl;
  number = refl;
  setting = refl;
  letters = letters_quiet v.own.notes (Ref r d) (quiet_ref r d);
}

pub goes_counts : (v : SeatView) (moves turns : ℕ) → v.inside ≡ None
    → GoesQuietly v (record v { moves = moves; turns = turns })
goes_counts v moves turns outside =
    record { inside = outside; others = refl; number = refl; setting = refl; letters = letters_same v.own.notes }

pub goes_both : (u v w : SeatView) → GoesQuietly u v → GoesQuietly v w → GoesQuietly u w
goes_both u v w x y = record {
  inside = y.inside;
  others = y.others ∙ x.others;
  number = y.number ∙ x.number;
  setting = y.setting ∙ x.setting;
  letters = letters_both u.own.notes v.own.notes w.own.notes x.letters y.letters;
}

-- ---- A seat of the pool that leaves its ends of the mails alone.

pub seat_goes : (pool : SharedPool) (old new : PoolSeat) (w : SeatView) → IsPoolSeat pool old → SameSeat old new
    → new.posts ≡ old.posts → new.fetches ≡ old.fetches → HasView new w → GoesQuietly (view_of old) w
    → CountsOne (view_of new) → IsPoolSeat pool new
seat_goes pool old new w s same posts fetches has goes counts =
    record {
      own = same.0 ∙ s.own;
      outside = (ap (λ m. m.0.inside) has ∙ goes.inside, ap (λ m. m.1) has);
      alone = ap (λ m. m.0.others) has ∙ (goes.others ∙ s.alone);
      lane = s.lane;
      number = ap (λ m. m.0.own.number) has ∙ (goes.number ∙ s.number);
      below = s.below;
      setting = s.setting;
      settled = ap (λ m. m.0.setting) has ∙ (goes.setting ∙ s.settled);
      arenas = s.arenas;
      counts = counts;
      posts =
          subst (λ (x : List Entry × List (Pass PostedLetter KnownEnds)). ArePosts pool s.lane x.0 x.1)
          (λ i. (sym notes i, sym (ap (λ v. v.items) posts) i))
          (posts_stay pool s.lane (view_of old).own.notes w.own.notes old.posts.items goes.letters s.posts);
      fetches =
          subst (λ (x : List Entry × List (Pass PostedLetter KnownEnds)). AreFetches pool s.lane x.0 x.1)
          (λ i. (sym notes i, sym (ap (λ v. v.items) fetches) i))
          (fetches_stay pool s.lane (view_of old).own.notes w.own.notes old.fetches.items goes.letters s.fetches);
    }
  where
    notes : (view_of new).own.notes ≡ w.own.notes
    notes = ap (λ m. m.0.own.notes) has

-- where it made one quiet note
pub seat_noted : (pool : SharedPool) (old new : PoolSeat) (e : Entry) (turns : ℕ) → IsPoolSeat pool old
    → SameSeat old new → new.posts ≡ old.posts → new.fetches ≡ old.fetches
    → HasView new (with_entry (view_of old) e turns) → IsQuiet e → CountsOne (view_of new) → IsPoolSeat pool new
seat_noted pool old new e turns s same posts fetches has quiet counts =
    seat_goes pool old new (with_entry (view_of old) e turns) s same posts fetches has
    (goes_entry (view_of old) e turns quiet) counts

-- where it made a step on a root's word
pub seat_stepped : (pool : SharedPool) (old new : PoolSeat) (r : RootId) (d : RefDid) (moves : ℕ) → IsPoolSeat pool old
    → SameSeat old new → new.posts ≡ old.posts → new.fetches ≡ old.fetches
    → HasView new (with_ref (view_of old) r d moves) → CountsOne (view_of new) → IsPoolSeat pool new
seat_stepped pool old new r d moves s same posts fetches has counts =
    seat_goes pool old new (with_ref (view_of old) r d moves) s same posts fetches has
    (goes_ref (view_of old) r d moves s.outside.0) counts

-- where it made such a note, and then such a step
pub seat_noted_stepped : (pool : SharedPool) (old new : PoolSeat) (e : Entry) (turns : ℕ) (r : RootId) (d : RefDid)
    (moves : ℕ) → IsPoolSeat pool old → SameSeat old new → new.posts ≡ old.posts → new.fetches ≡ old.fetches
    → HasView new (with_ref (with_entry (view_of old) e turns) r d moves) → IsQuiet e → CountsOne (view_of new)
    → IsPoolSeat pool new
seat_noted_stepped pool old new e turns r d moves s same posts fetches has quiet counts =
    let v = view_of old in let u = with_entry v e turns in
    seat_goes pool old new (with_ref u r d moves) s same posts fetches has
    (goes_both v u (with_ref u r d moves) (goes_entry v e turns quiet) (goes_ref u r d moves refl)) counts

-- where its moves and turns alone may be others
pub seat_spent : (pool : SharedPool) (old new : PoolSeat) (moves turns : ℕ) → IsPoolSeat pool old → SameSeat old new
    → new.posts ≡ old.posts → new.fetches ≡ old.fetches
    → HasView new (record (view_of old) { moves = moves; turns = turns }) → CountsOne (view_of new)
    → IsPoolSeat pool new
seat_spent pool old new moves turns s same posts fetches has counts =
    seat_goes pool old new (record (view_of old) { moves = moves; turns = turns }) s same posts fetches has
    (goes_counts (view_of old) moves turns s.outside.0) counts

-- where it found another seat at the object
pub held_seat : (pool : SharedPool) (o : Object) (mark : Bool) (old new : PoolSeat) (held : Held) → IsPoolSeat pool old
    → SameSeat old new → new.posts ≡ old.posts → new.fetches ≡ old.fetches → FoundBusy pool o mark old new held
    → IsPoolSeat pool new
held_seat pool o mark old new held s same posts fetches found = by mark found.marked
  where
    marks : CountsOne (with_entry (view_of old) (Busy held) (view_of old).turns)
    marks = marked_one (view_of old) held (view_of old).turns s.counts

    by : (mark : Bool) → MatchBool mark (HasView new (with_entry (view_of old) (Busy held) (view_of old).turns))
        (HasView new (view_of old)) → IsPoolSeat pool new
    by true has =
        seat_noted pool old new (Busy held) (view_of old).turns s same posts fetches has (quiet_busy held)
        (subst CountsOne (sym (ap (λ m. m.0) has)) marks)
    by false has =
        seat_goes pool old new (view_of old) s same posts fetches has (goes_nowhere (view_of old) s.outside.0)
        (subst CountsOne (sym (ap (λ m. m.0) has)) s.counts)
