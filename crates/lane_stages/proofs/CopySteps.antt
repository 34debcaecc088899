-- The steps of copying parts to a root, by what the pool answered.
use Rattle.std.proofs.Common.{◌≡◌, ℕ, ◌+◌, ◌*◌, ◌≤◌, List, [], ◌∷◌, length, refl, sym, ap, ◌∙◌, subst, arith}
use Rattle.std.specs.Prelude.{false, All, map}
use Rattle.std.specs.Global.{Vec}
use Rattle.std.proofs.lemmas.List.Elements.{All-head, All-tail, All-weaker}
use Rattle.pool_law.specs.declared.id.RootId.{RootId}
use Rattle.pool_law.specs.declared.note.Did.{Did}
use Rattle.pool_law.specs.declared.note.Held.{Held}
use Rattle.pool_law.specs.declared.note.Note.{Note}
use Rattle.pool_law.specs.declared.note.Object.{Object}
use Rattle.pool_law.specs.declared.note.Object.TheVariants.{Root}
use Rattle.pool_law.specs.Composites.{size_of}
use Rattle.pool_law.specs.Dids as says
use Rattle.pool_law.specs.Lanes.{copy_parts}
use Rattle.pool_law.specs.Logs.{ToldNote}
use Rattle.pool_law.specs.Readers.{Reader, ◌>>◌, access as accesses}
use Rattle.pool_law.proofs.PatternLemmas.{same_root-refl}
use Rattle.shared_pool.specs.declared.seat.PoolSeat.{PoolSeat}
use Rattle.pool_table.specs.declared.views.SeatView.{SeatView}
use Rattle.pool_table.specs.Counts.{HasCount}
use Rattle.shared_pool.specs.SeatViews.{view_of, SameSeat}
use Rattle.composite_buf.proofs.MapLaws.{size_of_cons}
use Rattle.shared_pool.specs.Closing.{entry_of}
use Rattle.shared_pool.specs.declared.pool.SharedPool.{SharedPool}
use Rattle.shared_pool.specs.RootNotes.{access}
use Rattle.shared_pool.specs.Seats.{IsPoolSeat, IsNoted, FoundBusy}
use Rattle.seat_work.specs.Hands.{empty_hand, IsHeld}
use Rattle.seat_work.proofs.Accesses.{IsQuiet, set_quiet, get_quiet}
use Rattle.lane_stages.specs.declared.copying.Copying.{Copying}
use Rattle.lane_stages.specs.declared.copying.Copying.TheVariants.{Get, Set}
use Rattle.lane_stages.specs.declared.stage_step.StageStep.{StageStep}
use Rattle.lane_stages.specs.declared.stage_step.StageStep.TheVariants.{More, Held as HeldBack, Done}
use Rattle.lane_stages.specs.declared.copying.Transfer.{Transfer}
use Rattle.lane_stages.specs.Budgets.{notes_alone, Spends}
use Rattle.lane_stages.specs.Copyings.{MayCopy, HasCopied, IsWithin, IsTriedAgain, Fits, FitsAfter, parts_of, left_of, left_after, rest_of, rest_after}
use Rattle.lane_stages.specs.Counting.{CountsAre}
use Rattle.lane_stages.specs.Logs.{HasWritten}
use Rattle.lane_stages.specs.NextNotes.{BeginsAt}
use Rattle.seat_work.specs.Readings.{ReadsOn}
use Rattle.lane_stages.specs.Readings.{none_asked}
use Rattle.lane_stages.proofs.AccessEntries.{IsAccessDid, set_is, get_is}
use Rattle.lane_stages.proofs.LogLaws.{wrote_none}
use Rattle.lane_stages.proofs.NextNotes.{begins_there}
use Rattle.lane_stages.proofs.OneNote.{wrote_note, wrote_nothing, found_there}
use Rattle.lane_stages.proofs.PartReads.{copy_part_on, read_set_at}
use Rattle.lane_stages.proofs.PartSteps.{part_entry, hand_on, counts_on, one_spent, same_counts, same_view, none_spent, knows_on}
use Rattle.pool_table.specs.Capacities.{knows_of}
use Rattle.seat_work.proofs.ReadLaws.{given_on}
use Rattle.lane_stages.proofs.ReadLaws.{still_on}

-- ---- What is left to be copied.

-- how the law reads the copying of these from an index on, and where bytes are set there before
abbrev copies : RootId → ℕ → List Transfer → Reader (Unit {0})
copies root at left = copy_parts root at (parts_of left)

abbrev sets : RootId → ℕ → List Transfer → List ℕ → Reader (Unit {0})
sets root at left bytes = accesses root (says.set at bytes) >> copies root (at + length bytes) left

-- each stage has a note left
pub copy_left : (stage : Copying) → 1 ≤ (left_of stage).notes
copy_left (Get root at first later) = omega arith
copy_left (Set root at bytes later) = omega arith

-- the parts lie in roots that are counted still, and of which no less is known
within_on : (v w : SeatView) → ((q : RootId) → HasCount q v → HasCount q w)
    → ((q : RootId) → knows_of q v ≤ knows_of q w) → (left : List Transfer)
    → All (IsWithin v) left → All (IsWithin w) left
within_on v w counts knows =
    All-weaker (IsWithin v) (IsWithin w) (λ (t : Transfer) (is : IsWithin v t). record {
      counts = counts t.part.root is.counts;
      inside = (let a = knows t.part.root in let b = is.inside in omega (arith, a, b));
      got = is.got;
      set = is.set;
    })

-- the bytes of the first lie in a root that is counted
module _ (v : SeatView) (first : Transfer) (left : List Transfer) (all : All (IsWithin v) (first ∷ left)) where
  pub first_within : IsWithin v first
  first_within = All-head (IsWithin v) first left all

  pub first_range : (bytes : List ℕ) → length bytes ≡ length first.got.items
      → first.part.offset + length bytes ≤ knows_of first.part.root v
  first_range bytes same = let a = first_within.inside in let b = first_within.got in omega (arith, a, b, same)

module _ (pool : SharedPool) (old new : PoolSeat) (is : IsPoolSeat pool new)
    (same : SameSeat old new) where
  abbrev v : SeatView
  v = view_of old

  abbrev w : SeatView
  w = view_of new

  -- a part was got or set, and this is what came of it
  module _ (stage : Copying) (after : StageStep Copying (Unit {0})) (may : MayCopy pool old stage) (r : RootId)
      (has : HasCount r v)
      (number : ℕ) (did : Did) (quiet : IsQuiet r number v.own.number did)
      (did_is : IsAccessDid r number v.own.number did)
      (noted : IsNoted pool old new (Root r.place) number (access r did)) (note : Note)
      (it : note ≡ Note.At (Root r.place) number did) (log later : Vec Note) (adds : HasWritten log later (note ∷ []))
    where
      copied : ReadsOn (rest_of stage) (entry_of (part_entry pool old new may.seat_is is r number did noted) ∷ [])
          none_asked (rest_after after) → FitsAfter w after → IsTriedAgain pool old new stage after (note ∷ []) →
          Spends v w (left_of stage) (left_after after) → HasCopied pool old new log later stage after
      copied read fits again spent = record {
        written = note ∷ [];
        log = adds;
        wrote =
            λ sampler. wrote_note pool old new may.seat_is is same sampler (rest_of stage) none_asked (rest_after after)
            (Root r.place) number (access r did) note noted it (did_is.sampled sampler) read;
        counts = same_counts pool old new may.seat_is is r number did noted did_is has;
        hand = hand_on pool old new may.seat_is is r number did noted quiet may.hand;
        fits = fits;
        again = again;
        spends = spent;
      }

  -- ---- A part is got, and is to be set.

  module _ (root : RootId) (at : ℕ) (first : Transfer) (left : Vec Transfer)
      (may : MayCopy pool old (Get root at first left)) (number : ℕ) (bytes : List ℕ)
      (same_length : length bytes ≡ length first.got.items)
      (noted : IsNoted pool old new (Root first.part.root.place) number
      (access first.part.root (Did.Get first.part.offset bytes))) (note : Note)
      (it : note ≡ Note.At (Root first.part.root.place) number (Did.Get first.part.offset bytes)) (log later : Vec Note)
      (adds : HasWritten log later (note ∷ [])) (got : Vec ℕ) (got_is : got.items ≡ bytes) where
    abbrev get_root : RootId
    get_root = first.part.root

    abbrev get_did : Did
    get_did = Did.Get first.part.offset bytes

    abbrev get_entry : ToldNote
    get_entry = entry_of (part_entry pool old new may.seat_is is get_root number get_did noted)

    get_within : IsWithin v first
    get_within = first_within v first left.items may.fits.1

    abbrev get_on : IsQuiet get_root number v.own.number get_did
    get_on = get_quiet get_root number v.own.number first.part.offset bytes

    abbrev get_did_is : IsAccessDid get_root number v.own.number get_did
    get_did_is = get_is get_root number v.own.number first.part.offset bytes

    get_read : ReadsOn (rest_of (Get root at first left)) (get_entry ∷ []) none_asked (rest_of (Set root at got left))
    get_read =
        subst (λ (bs : List ℕ). ReadsOn (rest_of (Get root at first left)) (get_entry ∷ []) none_asked
        (sets root at left.items bs)) (sym got_is)
        (copy_part_on first.part (parts_of left.items) get_entry number (same_root-refl get_root) root at bytes
        (same_length ∙ get_within.got) refl)

    pub copy_got : HasCopied pool old new log later (Get root at first left) (More (Set root at got left))
    copy_got =
        let counts : (q : RootId) → HasCount q v → HasCount q w =
        counts_on pool old new may.seat_is is get_root number get_did noted get_on in
        let knows : (q : RootId) → knows_of q v ≤ knows_of q w =
        knows_on pool old new may.seat_is is get_root number get_did noted in
        let long = ap (λ (bs : List ℕ). length bs) got_is in
        let more = size_of_cons first.part (parts_of left.items) in
        let enough = may.fits.2 in let len = get_within.got in
        copied (Get root at first left) (More (Set root at got left)) may get_root get_within.counts number get_did
        get_on get_did_is noted note it log later adds get_read (
          counts root may.fits.0,
          within_on v w counts knows left.items (All-tail (IsWithin v) first left.items may.fits.1),
          omega (arith, long, more, enough, len, same_length),
        ) (omega arith)
        (one_spent pool old new may.seat_is is get_root number get_did noted get_did_is (2 + 2 * length left.items)
        (1 + 2 * length left.items) (omega arith))

  -- ---- A part is set, and the next one is to be got.

  module _ (root : RootId) (at : ℕ) (bytes : Vec ℕ) (left : Vec Transfer)
      (may : MayCopy pool old (Set root at bytes left)) (number : ℕ)
      (noted : IsNoted pool old new (Root root.place) number (access root (Did.Set at bytes.items))) (note : Note)
      (it : note ≡ Note.At (Root root.place) number (Did.Set at bytes.items)) (log later : Vec Note)
      (adds : HasWritten log later (note ∷ [])) where
    abbrev set_did : Did
    set_did = Did.Set at bytes.items

    abbrev set_entry : ToldNote
    set_entry = entry_of (part_entry pool old new may.seat_is is root number set_did noted)

    abbrev set_on : IsQuiet root number v.own.number set_did
    set_on = set_quiet root number v.own.number at bytes.items

    abbrev set_did_is : IsAccessDid root number v.own.number set_did
    set_did_is = set_is root number v.own.number at bytes.items

    set_read : ReadsOn (rest_of (Set root at bytes left)) (set_entry ∷ []) none_asked
        (copies root (at + length bytes.items) left.items)
    set_read =
        given_on (accesses root (says.set at bytes.items)) (set_entry ∷ []) none_asked
        (λ _. copies root (at + length bytes.items) left.items) tt
        (read_set_at set_entry root number at (same_root-refl root) bytes.items refl)

    was_set : (after : StageStep Copying (Unit {0}))
        → ReadsOn (rest_of (Set root at bytes left)) (set_entry ∷ []) none_asked
        (rest_after after) → FitsAfter w after → IsTriedAgain pool old new (Set root at bytes left) after (note ∷ []) →
        Spends v w (left_of (Set root at bytes left)) (left_after after)
        → HasCopied pool old new log later (Set root at bytes left) after
    was_set after =
        copied (Set root at bytes left) after may root may.fits.0 number set_did set_on set_did_is noted note it log
        later adds

    set_spent : (after : ℕ) → after ≤ 2 * length left.items
        → Spends v w (notes_alone (1 + 2 * length left.items)) (notes_alone after)
    set_spent after le =
        one_spent pool old new may.seat_is is root number set_did noted set_did_is (1 + 2 * length left.items) after
        (omega (arith, le))

    pub copy_more : (behind : ℕ) → behind ≡ at + length bytes.items → (next : Transfer) (rest : Vec Transfer)
        → left.items ≡ next ∷ rest.items
        → HasCopied pool old new log later (Set root at bytes left) (More (Get root behind next rest))
    copy_more behind behind_is next rest is_next =
        let counts : (q : RootId) → HasCount q v → HasCount q w =
        counts_on pool old new may.seat_is is root number set_did noted set_on in
        let knows : (q : RootId) → knows_of q v ≤ knows_of q w =
        knows_on pool old new may.seat_is is root number set_did noted in
        let long = ap (λ (xs : List Transfer). length xs) is_next in
        let size = ap (λ (xs : List Transfer). size_of (parts_of xs)) is_next in let enough = may.fits.2 in
        was_set (More (Get root behind next rest))
        (subst (λ (p : ℕ × List Transfer). ReadsOn (rest_of (Set root at bytes left)) (set_entry ∷ []) none_asked
        (copies root p.0 p.1)) (λ i. (sym behind_is i, is_next i)) set_read) (
          counts root may.fits.0,
          subst (All (IsWithin w)) is_next (within_on v w counts knows left.items may.fits.1),
          omega (arith, behind_is, size, enough),
        ) (omega arith) (set_spent (2 + 2 * length rest.items) (omega (arith, long)))

    pub copy_done : left.items ≡ [] → HasCopied pool old new log later (Set root at bytes left) (Done tt)
    copy_done none =
        was_set (Done tt)
        (subst (λ (xs : List Transfer). ReadsOn (rest_of (Set root at bytes left)) (set_entry ∷ []) none_asked
        (copies root (at + length bytes.items) xs)) none set_read) tt (omega arith) (set_spent 0 (omega arith))

  -- ---- Another seat was there, and the same is to be tried again.

  pub copy_held : (o : Object) (held : Held) (stage : Copying) (log : Vec Note) → MayCopy pool old stage
      → FoundBusy pool o false old new held → BeginsAt o (rest_of stage)
      → HasCopied pool old new log log stage (HeldBack held stage)
  copy_held o held stage log may found begins =
      let view : view_of new ≡ view_of old = same_view pool old new may.seat_is is o held found in
      record {
        written = [];
        log = wrote_none log;
        wrote =
            λ sampler. wrote_nothing pool old new may.seat_is is same sampler (rest_of stage) none_asked
            (rest_of stage) o held found (still_on (rest_of stage));
        counts = λ cs. subst (λ (x : SeatView). CountsAre cs (map entry_of x.own.notes)) (sym view);
        hand = subst (λ (x : SeatView). IsHeld empty_hand x) (sym view) may.hand;
        fits = subst (λ (x : SeatView). Fits x stage) (sym view) may.fits;
        again = (
          refl,
          refl,
          found_there pool old new may.seat_is is same o false held found,
          begins_there o held (rest_of stage) found.object begins,
        );
        spends = none_spent pool old new may.seat_is is o held found (left_of stage);
      }
