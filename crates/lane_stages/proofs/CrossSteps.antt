-- The steps over the parts of a range, by what the pool answered.
use Rattle.std.proofs.Common.{◌≡◌, ℕ, ◌+◌, ◌≤◌, List, [], ◌∷◌, ◌++◌, length, refl, sym, ap, ◌∙◌, subst, arith, append-nil, append_assoc, length-append}
use Rattle.std.specs.Prelude.{false, All, map, vec_capacity, Some}
use Rattle.std.specs.Global.{Vec}
use Rattle.std.proofs.lemmas.List.Elements.{All-head, All-tail, All-weaker}
use Rattle.pool_law.specs.declared.id.Part.{Part}
use Rattle.pool_law.specs.declared.id.RootId.{RootId}
use Rattle.pool_law.specs.declared.note.Did.{Did}
use Rattle.pool_law.specs.declared.note.Held.{Held}
use Rattle.pool_law.specs.declared.note.Note.{Note}
use Rattle.pool_law.specs.declared.note.Object.{Object}
use Rattle.pool_law.specs.declared.note.Object.TheVariants.{Root}
use Rattle.pool_law.specs.Lanes.{set_parts, get_parts}
use Rattle.pool_law.specs.Logs.{ToldNote}
use Rattle.pool_law.specs.Readers.{Reader, ◌>>=◌, ◌>>◌, give}
use Rattle.pool_law.proofs.PatternLemmas.{same_root-refl}
use Rattle.shared_pool.specs.declared.seat.PoolSeat.{PoolSeat}
use Rattle.pool_table.specs.declared.views.SeatView.{SeatView}
use Rattle.pool_table.specs.Counts.{HasCount}
use Rattle.shared_pool.specs.SeatViews.{view_of, SameSeat}
use Rattle.shared_pool.specs.Closing.{entry_of}
use Rattle.shared_pool.specs.declared.pool.SharedPool.{SharedPool}
use Rattle.shared_pool.specs.RootNotes.{access}
use Rattle.shared_pool.specs.Seats.{IsPoolSeat, IsNoted, FoundBusy}
use Rattle.seat_work.specs.Hands.{empty_hand, IsHeld}
use Rattle.seat_work.proofs.Accesses.{IsQuiet, set_quiet, get_quiet}
use Rattle.lane_stages.specs.declared.crossing.Crossing.{Crossing}
use Rattle.lane_stages.specs.declared.crossing.Crossing.TheVariants.{Set, Get}
use Rattle.lane_stages.specs.declared.crossing.Crossed.{Crossed}
use Rattle.lane_stages.specs.declared.crossing.Crossed.TheVariants.{Set as WasSet, Got as WasGot}
use Rattle.lane_stages.specs.declared.stage_step.StageStep.{StageStep}
use Rattle.lane_stages.specs.declared.stage_step.StageStep.TheVariants.{More, Held as HeldBack, Done}
use Rattle.lane_stages.specs.declared.crossing.Stretch.{Stretch}
use Rattle.lane_stages.specs.Budgets.{notes_alone, Spends}
use Rattle.lane_stages.specs.Counting.{CountsAre}
use Rattle.lane_stages.specs.Crossings.{MayCross, HasCrossed, IsWithin, IsAlike, IsTriedAgain, Fits, FitsAfter, parts_of, bytes_of, left_of, left_after, rest_of, rest_after}
use Rattle.lane_stages.specs.Logs.{HasWritten}
use Rattle.lane_stages.specs.NextNotes.{BeginsAt}
use Rattle.seat_work.specs.Readings.{behind, ReadsOn}
use Rattle.lane_stages.specs.Readings.{none_asked}
use Rattle.lane_stages.proofs.AccessEntries.{IsAccessDid, set_is, get_is}
use Rattle.lane_stages.proofs.LogLaws.{wrote_none}
use Rattle.lane_stages.proofs.NextNotes.{begins_there}
use Rattle.lane_stages.proofs.OneNote.{wrote_note, wrote_nothing, found_there}
use Rattle.lane_stages.proofs.PartReads.{set_part_on, get_part_on}
use Rattle.lane_stages.proofs.PartSteps.{part_entry, hand_on, counts_on, one_spent, same_counts, same_view, none_spent, knows_on}
use Rattle.pool_table.specs.Capacities.{knows_of}
use Rattle.seat_work.proofs.ReadLaws.{then_on}
use Rattle.lane_stages.proofs.ReadLaws.{still_on}

-- ---- What is left of a range.

-- how the law reads these stretches, where they are set, and where they are got behind other bytes
abbrev sets : List Stretch → Reader (List ℕ)
sets left = set_parts (parts_of left) (bytes_of left) >> give []

abbrev gets : List ℕ → List Stretch → Reader (List ℕ)
gets got left = get_parts (parts_of left) >>= (λ more. give (got ++ more))

-- each stage has a note left
pub cross_left : (stage : Crossing) → 1 ≤ (left_of stage).notes
cross_left (Set first later) = omega arith
cross_left (Get first later got) = omega arith

-- the stretches lie in roots that are counted still, and of which no less is known
within_on : (v w : SeatView) → ((q : RootId) → HasCount q v → HasCount q w)
    → ((q : RootId) → knows_of q v ≤ knows_of q w) → (left : List Stretch)
    → All (IsWithin v) left → All (IsWithin w) left
within_on v w counts knows =
    All-weaker (IsWithin v) (IsWithin w) (λ (s : Stretch) (is : IsWithin v s). record {
      counts = counts s.part.root is.counts;
      inside = (let a = knows s.part.root in let b = is.inside in omega (arith, a, b));
      bytes = is.bytes;
    })

-- the bytes of the first, or as many others, lie in a root that is counted
module _ (v : SeatView) (first : Stretch) (left : List Stretch) (all : All (IsWithin v) (first ∷ left)) where
  first_within : IsWithin v first
  first_within = All-head (IsWithin v) first left all

  pub first_counts : HasCount first.part.root v
  first_counts = first_within.counts

  pub first_range : (bytes : List ℕ) → length bytes ≡ length first.bytes.items
      → first.part.offset + length bytes ≤ knows_of first.part.root v
  first_range bytes same = let a = first_within.inside in let b = first_within.bytes in omega (arith, a, b, same)

-- what was there and is tried again is alike
alike_again : (held : Held) (stage : Crossing) → IsAlike stage (HeldBack held stage)
alike_again held (Set first later) = tt
alike_again held (Get first later got) = tt

module _ (pool : SharedPool) (old new : PoolSeat) (is : IsPoolSeat pool new)
    (same : SameSeat old new) where
  abbrev v : SeatView
  v = view_of old

  abbrev w : SeatView
  w = view_of new

  -- a part was set or got, and this is what came of it
  module _ (stage : Crossing) (after : StageStep Crossing Crossed) (may : MayCross pool old stage) (r : RootId)
      (has : HasCount r v)
      (number : ℕ) (did : Did) (quiet : IsQuiet r number v.own.number did)
      (did_is : IsAccessDid r number v.own.number did)
      (noted : IsNoted pool old new (Root r.place) number (access r did)) (note : Note)
      (it : note ≡ Note.At (Root r.place) number did) (log later : Vec Note) (adds : HasWritten log later (note ∷ []))
    where
      crossed : ReadsOn (rest_of stage) (entry_of (part_entry pool old new may.seat_is is r number did noted) ∷ [])
          none_asked (rest_after after) → FitsAfter w after → IsAlike stage after →
          IsTriedAgain pool old new stage after (note ∷ []) → Spends v w (left_of stage) (left_after after)
          → HasCrossed pool old new log later stage after
      crossed read fits alike again spent = record {
        written = note ∷ [];
        log = adds;
        wrote =
            λ sampler. wrote_note pool old new may.seat_is is same sampler (rest_of stage) none_asked (rest_after after)
            (Root r.place) number (access r did) note noted it (did_is.sampled sampler) read;
        counts = same_counts pool old new may.seat_is is r number did noted did_is has;
        hand = hand_on pool old new may.seat_is is r number did noted quiet may.hand;
        fits = fits;
        alike = alike;
        again = again;
        spends = spent;
      }

  -- ---- A part is set.

  module _ (first : Stretch) (left : Vec Stretch) (may : MayCross pool old (Set first left)) (number : ℕ)
      (noted : IsNoted pool old new (Root first.part.root.place) number
      (access first.part.root (Did.Set first.part.offset first.bytes.items))) (note : Note)
      (it : note ≡ Note.At (Root first.part.root.place) number (Did.Set first.part.offset first.bytes.items))
      (log later : Vec Note) (adds : HasWritten log later (note ∷ [])) where
    abbrev set_root : RootId
    set_root = first.part.root

    abbrev set_did : Did
    set_did = Did.Set first.part.offset first.bytes.items

    abbrev set_entry : ToldNote
    set_entry = entry_of (part_entry pool old new may.seat_is is set_root number set_did noted)

    set_within : IsWithin v first
    set_within = first_within v first left.items may.fits.0

    set_read : ReadsOn (rest_of (Set first left)) (set_entry ∷ []) none_asked (sets left.items)
    set_read =
        let ps : List Part = parts_of left.items in let rest : List ℕ = bytes_of left.items in
        then_on (set_parts (first.part ∷ ps) (first.bytes.items ++ rest)) (set_entry ∷ []) none_asked (λ _. give [])
        (set_parts ps rest)
        (set_part_on first.part ps set_entry number (same_root-refl set_root) first.bytes.items rest set_within.bytes
        refl)

    was_set : (after : StageStep Crossing Crossed)
        → ReadsOn (rest_of (Set first left)) (set_entry ∷ []) none_asked (rest_after after)
        → FitsAfter w after → IsAlike (Set first left) after →
        IsTriedAgain pool old new (Set first left) after (note ∷ []) → Spends v w (left_of (Set first left))
        (left_after after)
        → HasCrossed pool old new log later (Set first left) after
    was_set after =
        crossed (Set first left) after may set_root set_within.counts number set_did
        (set_quiet set_root number v.own.number first.part.offset first.bytes.items)
        (set_is set_root number v.own.number first.part.offset first.bytes.items) noted note it log later adds

    set_spent : (before after : ℕ) → after + 1 ≤ before → Spends v w (notes_alone before) (notes_alone after)
    set_spent =
        one_spent pool old new may.seat_is is set_root number set_did noted
        (set_is set_root number v.own.number first.part.offset first.bytes.items)

    pub set_more : (next : Stretch) (rest : Vec Stretch) → left.items ≡ next ∷ rest.items
        → HasCrossed pool old new log later (Set first left) (More (Set next rest))
    set_more next rest is_next =
        let long = ap (λ (xs : List Stretch). length xs) is_next in
        was_set (More (Set next rest))
        (subst (λ (xs : List Stretch). ReadsOn (rest_of (Set first left)) (set_entry ∷ []) none_asked (sets xs)) is_next
        set_read) (
          subst (All (IsWithin w)) is_next
              (within_on v w
              (counts_on pool old new may.seat_is is set_root number set_did noted
              (set_quiet set_root number v.own.number first.part.offset first.bytes.items))
              (knows_on pool old new may.seat_is is set_root number set_did noted) left.items
              (All-tail (IsWithin v) first left.items may.fits.0)),
          tt,
        ) tt (omega arith)
        (set_spent (length (first ∷ left.items)) (length (next ∷ rest.items)) (omega (arith, long)))

    pub set_last : left.items ≡ [] → HasCrossed pool old new log later (Set first left) (Done WasSet)
    set_last none =
        was_set (Done WasSet)
        (subst (λ (xs : List Stretch). ReadsOn (rest_of (Set first left)) (set_entry ∷ []) none_asked (sets xs)) none
        set_read) tt tt (omega arith) (set_spent (length (first ∷ left.items)) 0 (omega arith))

  -- ---- A part is got.

  module _ (first : Stretch) (left : Vec Stretch) (got : Vec ℕ) (may : MayCross pool old (Get first left got))
      (number : ℕ) (bytes : List ℕ) (same_length : length bytes ≡ length first.bytes.items)
      (noted : IsNoted pool old new (Root first.part.root.place) number
      (access first.part.root (Did.Get first.part.offset bytes))) (note : Note)
      (it : note ≡ Note.At (Root first.part.root.place) number (Did.Get first.part.offset bytes)) (log later : Vec Note)
      (adds : HasWritten log later (note ∷ [])) (all : Vec ℕ) (all_is : all.items ≡ got.items ++ bytes)
      (room : vec_capacity all ≡ vec_capacity got) where
    abbrev get_root : RootId
    get_root = first.part.root

    abbrev get_did : Did
    get_did = Did.Get first.part.offset bytes

    abbrev get_entry : ToldNote
    get_entry = entry_of (part_entry pool old new may.seat_is is get_root number get_did noted)

    get_within : IsWithin v first
    get_within = first_within v first left.items may.fits.0

    get_read : ReadsOn (rest_of (Get first left got)) (get_entry ∷ []) none_asked (gets all.items left.items)
    get_read log =
        let ps : List Part = parts_of left.items in
        get_part_on first.part ps get_entry number (same_root-refl get_root)
        (λ (more : List ℕ). give (got.items ++ more)) bytes (same_length ∙ get_within.bytes) refl log
        ∙ (λ i. (get_parts ps >>= (λ more. give (sym (append_assoc got.items bytes more) i)))
        (behind log (get_entry ∷ []) none_asked))
        ∙ ap (λ (xs : List ℕ). gets xs left.items (behind log (get_entry ∷ []) none_asked)) (sym all_is)

    was_got : (after : StageStep Crossing Crossed)
        → ReadsOn (rest_of (Get first left got)) (get_entry ∷ []) none_asked (rest_after after)
        → FitsAfter w after → IsAlike (Get first left got) after →
        IsTriedAgain pool old new (Get first left got) after (note ∷ []) → Spends v w (left_of (Get first left got))
        (left_after after)
        → HasCrossed pool old new log later (Get first left got) after
    was_got after =
        crossed (Get first left got) after may get_root get_within.counts number get_did
        (get_quiet get_root number v.own.number first.part.offset bytes)
        (get_is get_root number v.own.number first.part.offset bytes) noted note it log later adds

    get_spent : (before after : ℕ) → after + 1 ≤ before → Spends v w (notes_alone before) (notes_alone after)
    get_spent =
        one_spent pool old new may.seat_is is get_root number get_did noted
        (get_is get_root number v.own.number first.part.offset bytes)

    pub get_more : (next : Stretch) (rest : Vec Stretch) → left.items ≡ next ∷ rest.items
        → HasCrossed pool old new log later (Get first left got) (More (Get next rest all))
    get_more next rest is_next =
        let long = ap (λ (xs : List Stretch). length xs) is_next in
        let more = ap (λ (xs : List ℕ). length xs) all_is in let a = length-append got.items bytes in
        let b = length-append first.bytes.items (bytes_of left.items) in let enough = may.fits.1 in
        let left_is = ap (λ (xs : List Stretch). length (bytes_of xs)) is_next in
        was_got (More (Get next rest all))
        (subst (λ (xs : List Stretch). ReadsOn (rest_of (Get first left got)) (get_entry ∷ []) none_asked
        (gets all.items xs)) is_next get_read) (
          subst (All (IsWithin w)) is_next
              (within_on v w
              (counts_on pool old new may.seat_is is get_root number get_did noted
              (get_quiet get_root number v.own.number first.part.offset bytes))
              (knows_on pool old new may.seat_is is get_root number get_did noted) left.items
              (All-tail (IsWithin v) first left.items may.fits.0)),
          omega (arith, more, a, b, enough, left_is, same_length, room),
        ) tt (omega arith)
        (get_spent (length (first ∷ left.items)) (length (next ∷ rest.items)) (omega (arith, long)))

    pub get_last : left.items ≡ [] → HasCrossed pool old new log later (Get first left got) (Done (WasGot all))
    get_last none =
        was_got (Done (WasGot all))
        (λ log.
        subst (λ (xs : List Stretch). ReadsOn (rest_of (Get first left got)) (get_entry ∷ []) none_asked
        (gets all.items xs)) none get_read log
        ∙ ap (λ (xs : List ℕ). Some (xs, behind log (get_entry ∷ []) none_asked)) (append-nil all.items)) tt tt
        (omega arith) (get_spent (length (first ∷ left.items)) 0 (omega arith))

  -- ---- Another seat was there, and the same is to be tried again.

  pub cross_held : (o : Object) (held : Held) (stage : Crossing) (log : Vec Note) → MayCross pool old stage
      → FoundBusy pool o false old new held → BeginsAt o (rest_of stage)
      → HasCrossed pool old new log log stage (HeldBack held stage)
  cross_held o held stage log may found begins =
      let view : view_of new ≡ view_of old = same_view pool old new may.seat_is is o held found in
      record {
        written = [];
        log = wrote_none log;
        wrote =
            λ sampler. wrote_nothing pool old new may.seat_is is same sampler (rest_of stage) none_asked
            (rest_of stage) o held found (still_on (rest_of stage));
        counts = λ cs. subst (λ (x : SeatView). CountsAre cs (map entry_of x.own.notes)) (sym view);
        hand = subst (λ (x : SeatView). IsHeld empty_hand x) (sym view) may.hand;
        fits = subst (λ (x : SeatView). Fits x stage) (sym view) may.fits;
        alike = alike_again held stage;
        again = (
          refl,
          refl,
          found_there pool old new may.seat_is is same o false held found,
          begins_there o held (rest_of stage) found.object begins,
        );
        spends = none_spent pool old new may.seat_is is o held found (left_of stage);
      }
