-- What a seat has noted of slices, once more is noted.
use Rattle.std.proofs.Common.{◌≡◌, ℕ, zero, suc, ◌+◌, ◌<◌, List, [], ◌∷◌, ◌++◌, Bool, length, refl, sym, ap, subst, ◌∙◌, arith, Option, Some, None, ⊎_elim, append_assoc, append-nil, length-append}
use Rattle.std.specs.Prelude.{IfSome, slice_get, unwrap_or}
use Rattle.std.proofs.lemmas.List.{take-append-le}
use Rattle.std.proofs.lemmas.Option.{slice_get_within}
use Rattle.std.proofs.Math.Seq.{take-append_seam}
use Rattle.pool_law.specs.declared.id.Parcel.{Parcel}
use Rattle.pool_law.specs.declared.id.RootId.{RootId}
use Rattle.pool_law.specs.declared.id.ViewData.{ViewData}
use Rattle.pool_law.specs.declared.note.Did.{Did}
use Rattle.pool_law.specs.declared.note.Object.TheVariants.{Mail, Root}
use Rattle.pool_law.specs.Naming.{noted_by}
use Rattle.pool_law.proofs.ListLemmas.{get-front, get-further, get-split}
use Rattle.pool_table.specs.declared.views.Entry.{Entry}
use Rattle.pool_table.specs.declared.views.Entry.TheVariants.{At}
use Rattle.pool_table.specs.declared.views.SeatView.{SeatView}
use Rattle.seat_work.specs.Changes.{no_change, once_less, times}
use Rattle.seat_work.specs.HandOvers as hand_overs
use Rattle.seat_work.specs.Hands.{empty_hand}
use Rattle.seat_work.specs.Works.{Goes, IsLater, Proceeds, Works}
use Rattle.seat_work.proofs.HandedOver.{fetch_proceeds}
use Rattle.seat_work.proofs.Proceeding.{goes_on, goes_none}
use Rattle.shared_pool.specs.declared.pool.SharedPool.{SharedPool}
use Rattle.shared_pool.specs.declared.seat.PoolSeat.{PoolSeat}
use Rattle.shared_pool.specs.MailAnswers.{IsFetched}
use Rattle.shared_pool.specs.Notes.{plain}
use Rattle.shared_pool.specs.RootNotes.{access}
use Rattle.shared_pool.specs.SeatLanes.{lane_of}
use Rattle.shared_pool.specs.SeatViews.{view_of}
use Rattle.shared_pool.specs.Seats.{IsNoted, IsPoolSeat}
use Rattle.frame_hash.specs.declared.turns.TheConstants.{HASH_TURNS}
use Rattle.frame_hash.specs.Takes.{CountsNone, HasSpent, HasTaken, PostNothing, ReadsView, Takes, WriteNothing, fetches_in}
use Rattle.frame_hash.proofs.QuietLaws.{fetch_nothing_on, fetch_one, fetch_posts, fetches-on, other_writes, post_nothing_on, quiet_fetches, quiet_posts, quiet_writes, stays_fetches, stays_posts, write_nothing_on}

-- ---- What stands in notes stands there still.

module _ (es more : List Entry) (lane : Option ℕ) where
  abbrev reads_kept : (view : ViewData) (bytes : List ℕ) → ReadsView es lane view bytes
      → ReadsView (es ++ more) lane view bytes
  reads_kept view bytes r =
      record { at = r.at; number = r.number; stands = get-front es more r.at _ r.stands; whole = r.whole }

  if_reads_kept : (o : Option ViewData) (at : ℕ) (piece : List ℕ)
      → IfSome o (λ v. (r : ReadsView es lane v piece) × (at < r.at))
      → IfSome o (λ v. (r : ReadsView (es ++ more) lane v piece) × (at < r.at))
  if_reads_kept None at piece r = tt
  if_reads_kept (Some v) at piece r = (reads_kept v piece r.0, r.1)

  pub takes_kept : (sender receiver k : ℕ) (piece : List ℕ) → Takes es lane sender receiver k piece
      → Takes (es ++ more) lane sender receiver k piece
  takes_kept sender receiver k piece t =
      let within = slice_get_within es t.at _ t.stands in
      record {
        parcel = t.parcel;
        at = t.at;
        number = t.number;
        stands = get-front es more t.at _ t.stands;
        earlier = ap (fetches_in sender receiver) (take-append-le t.at es more (omega (arith, within))) ∙ t.earlier;
        reads = if_reads_kept t.parcel.view t.at piece t.reads;
      }

-- ---- A slice is read, and let go.

module _ (pool : SharedPool) (root : RootId) (offset number : ℕ) (bytes : List ℕ)
    (old mid new : PoolSeat) (last : Bool) (view : ViewData)
    (noted : IsNoted pool old mid (Root root.place) number (access root (Did.Get offset bytes)))
    (read : Proceeds pool empty_hand 1 0 no_change old mid)
    (let_go : Proceeds pool empty_hand 4 0 (once_less root last) mid new)
    (later : IsLater pool mid new) where
  abbrev note : Entry
  note = At (Root root.place) number (noted_by (view_of old).own.number (access root (Did.Get offset bytes)))

  pub slice_read : view.root ≡ root → view.offset ≡ offset → length bytes ≡ view.len
      → HasSpent pool (Some view) bytes old new
  slice_read root_is offset_is whole = record {
    goes =
        goes_on pool empty_hand empty_hand 1 0 4 0 HASH_TURNS 0 old mid new read.goes let_go.goes (omega arith)
        (omega arith);
    counts =
        λ q. (let a = read.changes.counts q in let b = let_go.changes.counts q in
        let c = ap (λ (r : RootId). times q (r ∷ [])) root_is in
        omega (arith, a, b, c));
    added = note ∷ later.added;
    notes =
        later.grown.notes ∙ ap (λ (es : List Entry). es ++ later.added) (ap (λ m. m.0.own.notes) noted.seat)
        ∙ append_assoc (view_of old).own.notes (note ∷ []) later.added;
    reads = record {
      at = 0;
      number = number;
      stands =
          sym (λ i. Some (At (Root (root_is i).place) number
          (noted_by (view_of old).own.number (access (root_is i) (Did.Get (offset_is i) bytes)))));
      whole = whole;
    };
    unfetched =
        fetch_nothing_on (note ∷ []) later.added
        (stays_fetches (Root root.place) number
        (noted_by (view_of old).own.number (access root (Did.Get offset bytes))) refl)
        (quiet_fetches later.added later.quiet);
    unposted =
        post_nothing_on (note ∷ []) later.added
        (stays_posts (Root root.place) number
        (noted_by (view_of old).own.number (access root (Did.Get offset bytes))) refl)
        (quiet_posts later.added later.quiet);
    unwritten =
        write_nothing_on (note ∷ []) later.added
        (other_writes (Root root.place) number (noted_by (view_of old).own.number (access root (Did.Get offset bytes)))
        (λ o bs e. cc e))
        (quiet_writes later.added later.quiet);
  }

-- a parcel without a view is no slice
pub nothing_read : (pool : SharedPool) (s : PoolSeat) (t m : ℕ) → Works pool empty_hand t m s
    → HasSpent pool None [] s s
nothing_read pool s t m works =
    let g = goes_none pool empty_hand t m s works in
    record {
      goes = record {
        seat = g.seat;
        held = g.held;
        paid = g.paid;
        turns_left = omega arith;
        moves_left = omega arith;
        number = refl;
        knows = g.knows;
      };
      counts = λ root. omega arith;
      added = [];
      notes = sym (append-nil (view_of s).own.notes);
      reads = tt;
      unfetched = λ sender receiver. refl;
      unposted = λ sender receiver. refl;
      unwritten = λ at number offset root bytes stands. cc stands;
    }

-- ---- A parcel is fetched, and its slice read.

module _ (pool : SharedPool) (old mid new : PoolSeat) (sender receiver number : ℕ)
    (parcel : Parcel) (piece : List ℕ) (pieces : List (List ℕ)) (works : Works pool empty_hand 0 0 old)
    (own : (view_of old).own.number ≡ Some receiver) (seat : IsPoolSeat pool mid)
    (fetch : IsFetched old mid sender number parcel) (read : HasSpent pool parcel.view piece mid new) where
  abbrev v : SeatView
  v = view_of old

  abbrev w : SeatView
  w = view_of new

  -- it goes to the seat's own lane
  lane-is : lane_of old ≡ receiver
  lane-is = ap (λ (n : Option ℕ). unwrap_or n 0) own

  abbrev came : Entry
  came = At (Mail sender receiver) number (noted_by v.own.number (plain (Did.Fetch parcel)))

  notes-mid : (view_of mid).own.notes ≡ v.own.notes ++ came ∷ []
  notes-mid =
      ap (λ m. m.0.own.notes) fetch.noted
      ∙ ap (λ (lane : ℕ). v.own.notes
      ++ At (Mail sender lane) number (noted_by v.own.number (plain (Did.Fetch parcel))) ∷ []) lane-is

  number-mid : (view_of mid).own.number ≡ v.own.number
  number-mid = ap (λ m. m.0.own.number) fetch.noted

  notes-new : w.own.notes ≡ v.own.notes ++ came ∷ read.added
  notes-new =
      read.notes ∙ ap (λ (es : List Entry). es ++ read.added) notes-mid
      ∙ append_assoc v.own.notes (came ∷ []) read.added

  pub number_new : w.own.number ≡ v.own.number
  number_new = read.goes.number ∙ number-mid

  -- the fetched piece, behind all notes of before
  further : (o : Option ViewData) → IfSome o (λ x. ReadsView read.added (view_of mid).own.number x piece)
      → IfSome o (λ x. (r : ReadsView (v.own.notes ++ came ∷ read.added) v.own.number x piece)
      × (length v.own.notes < r.at))
  further None r = tt
  further (Some x) r = (
    record {
      at = length v.own.notes + suc r.at;
      number = r.number;
      stands =
          get-further v.own.notes (came ∷ read.added) (suc r.at)
          ∙ r.stands
          ∙ ap (λ (lane : Option ℕ). Some (At (Root x.root.place) r.number
          (noted_by lane (access x.root (Did.Get x.offset piece))))) number-mid;
      whole = r.whole;
    },
    omega arith,
  )

  first : slice_get (v.own.notes ++ came ∷ read.added) (length v.own.notes + 0) ≡ Some came
  first = get-further v.own.notes (came ∷ read.added) 0

  last-taken : Takes (v.own.notes ++ came ∷ read.added) v.own.number sender receiver
      (fetches_in sender receiver v.own.notes) piece
  last-taken = record {
    parcel = parcel;
    at = length v.own.notes;
    number = number;
    stands =
        subst (λ (k : ℕ). slice_get (v.own.notes ++ came ∷ read.added) k ≡ Some came)
        (let e : length v.own.notes + 0 ≡ length v.own.notes = omega arith in e) first;
    earlier = ap (fetches_in sender receiver) (take-append_seam v.own.notes (came ∷ read.added));
    reads = further parcel.view read.reads;
  }

  -- one fetch more
  count-new : fetches_in sender receiver (v.own.notes ++ came ∷ read.added)
      ≡ fetches_in sender receiver v.own.notes + 1
  count-new =
      let a = fetches-on sender receiver v.own.notes (came ∷ read.added) in
      let b = fetches-on sender receiver (came ∷ []) read.added in
      let c = fetch_one sender receiver number (noted_by v.own.number (plain (Did.Fetch parcel))) parcel refl in
      let d = ap (λ ps. length ps) (read.unfetched sender receiver) in
      omega (arith, a, b, c, d)

  unposted-new : PostNothing v.own.notes → PostNothing (v.own.notes ++ came ∷ read.added)
  unposted-new before =
      post_nothing_on v.own.notes (came ∷ read.added) before
      (post_nothing_on (came ∷ []) read.added
      (fetch_posts (Mail sender receiver) number (noted_by v.own.number (plain (Did.Fetch parcel))) parcel refl)
      read.unposted)

  unwritten-new : WriteNothing v.own.notes → WriteNothing (v.own.notes ++ came ∷ read.added)
  unwritten-new before =
      write_nothing_on v.own.notes (came ∷ read.added) before
      (write_nothing_on (came ∷ []) read.added
      (other_writes (Mail sender receiver) number (noted_by v.own.number (plain (Did.Fetch parcel)))
      (λ o bs e. cc e)) read.unwritten)

  proceeds : Proceeds pool empty_hand 0 0 (hand_overs.fetched (Some parcel)) old mid
  proceeds = fetch_proceeds pool old mid seat number works sender parcel fetch

  even-new : CountsNone v → CountsNone w
  even-new before root =
      let a = proceeds.changes.counts root in
      let b = read.counts root in
      let c = before root in
      omega (arith, a, b, c)

  pub read_goes : Goes pool empty_hand HASH_TURNS 0 old new
  read_goes =
      goes_on pool empty_hand empty_hand 0 0 HASH_TURNS 0 HASH_TURNS 0 old mid new proceeds.goes read.goes (omega arith)
      (omega arith)

  module _ (taken : HasTaken v sender receiver pieces) where
    abbrev at_new : List Entry → Option ℕ → Type 0
    at_new es lane =
        (k : ℕ) (p : List ℕ) → slice_get (pieces ++ piece ∷ []) k ≡ Some p → Takes es lane sender receiver k p

    each-new : at_new (v.own.notes ++ came ∷ read.added) v.own.number
    each-new k p e =
        ⊎_elim (λ here. takes_kept v.own.notes (came ∷ read.added) v.own.number sender receiver k p
        (taken.each k p here))
        (λ there. behind there.0 there.1 there.2)
        (get-split pieces (piece ∷ []) k p e)
      where
        behind : (m : ℕ) → k ≡ length pieces + m → slice_get (piece ∷ []) m ≡ Some p
            → Takes (v.own.notes ++ came ∷ read.added) v.own.number sender receiver k p
        behind zero is same =
            let k_is : fetches_in sender receiver v.own.notes ≡ k = (let c = taken.count in omega (arith, c, is)) in
            let p_is : piece ≡ p = cc same in
            subst (λ (x : List ℕ). Takes (v.own.notes ++ came ∷ read.added) v.own.number sender receiver k x) p_is
            (subst (λ (n : ℕ). Takes (v.own.notes ++ came ∷ read.added) v.own.number sender receiver n piece) k_is
            last-taken)
        behind (suc m) is same = absurd (cc same)

    pub has_taken : HasTaken w sender receiver (pieces ++ piece ∷ [])
    has_taken = record {
      count =
          (let a = ap (fetches_in sender receiver) notes-new in let b = taken.count in
          let c = length-append pieces (piece ∷ []) in let d = count-new in
          omega (arith, a, b, c, d));
      each =
          subst (λ (lane : Option ℕ). at_new w.own.notes lane) (sym number_new)
          (subst (λ (es : List Entry). at_new es v.own.number) (sym notes-new) each-new);
      unposted = subst PostNothing (sym notes-new) (unposted-new taken.unposted);
      unwritten = subst WriteNothing (sym notes-new) (unwritten-new taken.unwritten);
      even = even-new taken.even;
    }
