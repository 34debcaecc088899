-- The turns of an allotment for the bytes of a composite of too many parts.
use Rattle.std.proofs.Common.{◌≡◌, ℕ, ◌+◌, ◌*◌, ◌<◌, ◌≤◌, List, [], ◌∷◌, ◌++◌, length, map, refl, sym, ap, ◌∙◌, subst, arith, None}
use Rattle.std.specs.Global.{Box, Vec}
use Rattle.std.specs.Prelude.{All, Result, Ok, Err, option_and_then}
use Rattle.std.proofs.lemmas.List.Elements.{All-weaker, All-cons, All-nil}
use Rattle.pool_law.specs.declared.command.Command.{Command}
use Rattle.pool_law.specs.declared.id.Part.{Part}
use Rattle.pool_law.specs.declared.id.RegionId.{RegionId}
use Rattle.pool_law.specs.declared.id.RootId.{RootId}
use Rattle.pool_law.specs.declared.note.Held.{Held}
use Rattle.pool_law.specs.declared.note.Note.{Note}
use Rattle.pool_law.specs.declared.run.Reply.{Reply}
use Rattle.pool_law.specs.declared.run.Shape.{Shape}
use Rattle.pool_law.specs.Composites.{Composite, filled, moved_to, size_of, whole_part}
use Rattle.pool_law.specs.LaneLaw.{sweep_period, before_stop}
use Rattle.pool_law.specs.LaneStates.{LaneState}
use Rattle.pool_law.specs.Lanes.{Answer, composed, copied_to, copy_parts, release_parts}
use Rattle.pool_law.specs.Patterns.{New as LawNew}
use Rattle.pool_law.specs.Readers.{ToldNotes, Log, Reader, ◌>>=◌, ◌>>◌, give}
use Rattle.pool_table.specs.declared.views.Entry.{Entry}
use Rattle.pool_table.specs.declared.views.SeatView.{SeatView}
use Rattle.pool_table.specs.Counts.{HasCount}
use Rattle.shared_pool.specs.SeatViews.{view_of}
use Rattle.composite_buf.proofs.RangeLaws.{size_of-filled}
use Rattle.shared_pool.specs.declared.pool.SharedPool.{SharedPool}
use Rattle.shared_pool.specs.Closing.{entry_of}
use Rattle.shared_pool.specs.SeatLanes.{lane_of}
use Rattle.seat_work.specs.Changes.{one_for}
use Rattle.seat_work.specs.Hands.{Hand, empty_hand}
use Rattle.seat_work.proofs.Counting.{one_self}
use Rattle.lane_stages.specs.declared.allotment.Allotted.{Allotted}
use Rattle.lane_stages.specs.declared.allotment.Allotted.TheVariants.{New}
use Rattle.lane_stages.specs.declared.stage_step.StageStep.{StageStep}
use Rattle.lane_stages.specs.declared.stage_step.StageStep.TheVariants.{More, Held as AllotHeld, Done}
use Rattle.lane_stages.specs.declared.allotment.Allotting.{Allotting as AllotStage}
use Rattle.lane_stages.specs.declared.copying.Copying.TheVariants.{Get as CopyGet}
use Rattle.lane_stages.specs.declared.copying.Transfer.{Transfer}
use Rattle.lane_stages.specs.declared.counts.Counted.{Counted}
use Rattle.lane_context.specs.declared.context.Context.{Context}
use Rattle.lane_context.specs.declared.context.Stage.{Stage}
use Rattle.lane_context.specs.declared.context.Stage.TheVariants.{Consolidating, Copying, Replacing}
use Rattle.lane_context.specs.declared.context.Turn.{Turn}
use Rattle.lane_context.specs.declared.context.Turn.TheVariants.{Went, Pending}
use Rattle.lane_stages.specs.declared.releasing.Releasing.{Releasing}
use Rattle.lane_context.specs.declared.work.Consolidation.{Consolidation}
use Rattle.lane_stages.specs.Allotments as allotment
use Rattle.lane_stages.specs.Budgets.{Left, Spends, notes_alone}
use Rattle.lane_context.specs.Composing.{IsBindable, IsCandidate, IsConsolidation, IsMoved, IsTransfer, MovesTo}
use Rattle.lane_stages.specs.Copyings as copying
use Rattle.lane_stages.specs.Counting.{counted}
use Rattle.lane_context.specs.Named.{NamesAre, known_to, IsInRoot}
use Rattle.lane_stages.specs.NextNotes.{BeginsAt}
use Rattle.seat_work.specs.Readings.{ReadsOn}
use Rattle.lane_context.specs.Readings.{renamed, swept}
use Rattle.lane_stages.specs.Releasings as releasing
use Rattle.lane_stages.specs.Releasings.{AreUncounted}
use Rattle.lane_context.specs.Contexts.{ContextGrew, GoesOn, HasTurned, IsContext, log_of, reads_from, with_parts}
use Rattle.lane_context.specs.ContextSteps.{Concludes, CountsMore}
use Rattle.lane_stages.proofs.NextNotes.{then_begins}
use Rattle.lane_context.proofs.AllotTurns.{allotted, asks_least, read_on}
use Rattle.lane_context.proofs.ConsolidateLaws.{beside, copied_as, less_beside, made_of, moved_marked, replaced_as, consolidation_later}
use Rattle.lane_context.proofs.ContextGrown.{grew, lengthened}
use Rattle.lane_context.proofs.ContextLaws.{entries_more, reads_at, spends_at}
use Rattle.lane_stages.proofs.SeatCounts.{has_count}
use Rattle.lane_context.proofs.NameLaws.{rebound_same}
use Rattle.lane_stages.proofs.Knowing.{knows_more, knows_name}
use Rattle.lane_context.proofs.PartTurns.{candidate_on}
use Rattle.seat_work.proofs.ReadLaws.{given_on, then_on}
use Rattle.seat_work.specs.Growth.{HasMore}
use Rattle.lane_context.proofs.StageTurns.{none_of, some_of, staged, staged_concludes, staged_counts, staged_grew, staged_names, staged_on, staged_still}

module _ (pool : SharedPool) (old mid : Context) (p : Consolidation) (stage : AllotStage)
    (d : IsContext pool (allotment.hand_of stage) old) (is : IsConsolidation (known_to old.seat) old.shape old.counts p)
    (may : IsCandidate old p.name p.whole.value)
    (mid_so : mid ≡ record old {
      seat = mid.seat;
      sampler = mid.sampler;
      notes = mid.notes;
      asked = allotment.asks_of stage old.asked;
    }) where
  abbrev start : Context
  start = record old { seat = mid.seat; sampler = mid.sampler; asked = allotment.asks_of stage old.asked }

  abbrev lane : ℕ
  lane = lane_of old.seat

  abbrev c : Composite
  c = p.whole.value

  abbrev copied : ℕ
  copied = length p.transfers.items

  abbrev released : ℕ
  released = length p.parts.items

  abbrev rest : AllotStage → Reader (Result LawNew Reply)
  rest at = allotment.rest_of old.shape lane p.size p.class at

  abbrev Did : StageStep AllotStage Allotted → Type 0
  Did came =
      allotment.HasAllotted pool old.seat mid.seat old.sampler mid.sampler old.notes mid.notes p.size p.class stage
      came

  module _ (es : List Entry) (more : HasMore (view_of old.seat) (view_of mid.seat) es) where
    candidate_still : IsCandidate mid p.name c
    candidate_still =
        candidate_on old mid es more (ap (λ (x : Context). x.names) mid_so) (ap (λ (x : Context). x.composes) mid_so)
        (ap (λ (x : Context). x.replies) mid_so) p.name c may

    same_so : IsConsolidation (known_to mid.seat) mid.shape mid.counts p
    same_so =
        subst (λ (x : Shape × List Counted). IsConsolidation (known_to mid.seat) x.0 x.1 p)
        (λ i. (sym (ap (λ (x : Context). x.shape) mid_so) i, sym (ap (λ (x : Context). x.counts) mid_so) i))
        (consolidation_later (known_to old.seat) (known_to mid.seat)
        (knows_more (view_of old.seat) (view_of mid.seat) es more) old.shape old.counts p is)

  asked_is : mid.asked ≡ allotment.asks_of stage old.asked
  asked_is = ap (λ (x : Context). x.asked) mid_so

  module _ (low : old.asked + (allotment.left_of stage).asks ≤ sweep_period) (s : LaneState) (command : Command)
      (are : NamesAre s.names old.names) where
    -- how the law reads it from a stage on
    abbrev made_by : Result LawNew Reply → Reader (Result Composite Reply)
    made_by = copied_to old.shape c

    abbrev composes : Result Composite Reply → Reader Answer
    composes made = give (composed s p.name made)

    abbrev body : AllotStage → Reader Answer
    body at = rest at >>= made_by >>= composes

    abbrev reads_of : Stage → Reader Answer
    reads_of at = reads_from old.shape lane s command at

    pub consolidate_goes : (next : AllotStage) → Did (More next)
        → HasTurned pool old mid s command (Consolidating p stage) (Went (Consolidating p next))
    consolidate_goes next did =
        let before : Hand = allotment.hand_of stage in let after : Hand = allotment.hand_of next in
        let st = allotted pool old mid p.name p.size p.class stage d is.class mid_so (More next) did in
        let es = did.wrote.added in let asks = allotment.asks_of stage in
        let few = did.asked old.asked in let a = asked_is in
        record {
          added = es;
          grew = staged_grew pool before after old start mid es (λ root. 0) st (λ root. refl);
          fits = (same_so es did.wrote.more, did.fits, omega (arith, few, a, low));
          name = candidate_still es did.wrote.more;
          spends =
              spends_at old mid (with_parts copied released (allotment.left_of stage))
              (with_parts copied released (allotment.left_of next))
              (beside (view_of old.seat) (view_of mid.seat) (allotment.left_of stage) (allotment.left_of next) copied
              released did.spends) (omega (arith, few, a));
          comes =
              staged_on pool before after old start mid es (λ root. 0) st
              (some_of es did.written did.wrote.noted did.again) asks refl (reads_of (Consolidating p stage))
              (λ names. reads_from old.shape lane (renamed s names) command (Consolidating p next)) s.names are
              (then_on (body stage) (map entry_of es) asks (swept lane) (body next)
              (then_on (rest stage >>= made_by) (map entry_of es) asks composes (rest next >>= made_by)
              (then_on (rest stage) (map entry_of es) asks made_by (rest next)
              (read_on pool old mid p.name p.size p.class stage d is.class mid_so (More next) did))));
          waits = tt;
          held = tt;
        }

    pub consolidate_waits : (held : Held) (next : AllotStage) → Did (AllotHeld held next)
        → HasTurned pool old mid s command (Consolidating p stage) (Pending held (Consolidating p next))
    consolidate_waits held next did =
        let before : Hand = allotment.hand_of stage in let after : Hand = allotment.hand_of next in
        let st = allotted pool old mid p.name p.size p.class stage d is.class mid_so (AllotHeld held next) did in
        let es = did.wrote.added in let few = did.asked old.asked in let a = asked_is in
        record {
          added = es;
          grew = staged_grew pool before after old start mid es (λ root. 0) st (λ root. refl);
          fits = (same_so es did.wrote.more, did.fits, omega (arith, few, a, low));
          name = candidate_still es did.wrote.more;
          spends =
              spends_at old mid (with_parts copied released (allotment.left_of stage))
              (with_parts copied released (allotment.left_of next))
              (beside (view_of old.seat) (view_of mid.seat) (allotment.left_of stage) (allotment.left_of next) copied
              released did.spends) (omega (arith, few, a));
          comes = (
            λ log. ap (λ (at : AllotStage). reads_of (Consolidating p at) log) (sym did.again.0),
            staged_still pool before after old start mid es (λ root. 0) st
                (none_of es (did.wrote.noted ∙ did.again.1))
                (let b = asks_least stage old.asked in
                let e = ap (λ (at : AllotStage). (allotment.left_of at).asks) did.again.0 in
                omega (arith, few, b, e)),
          );
          waits = tt;
          held = (
            did.again.2,
            then_begins held.object (body stage) (swept lane)
                (then_begins held.object (rest stage >>= made_by) composes
                (then_begins held.object (rest stage) made_by
                (subst (λ (shape : Shape). BeginsAt held.object (allotment.rest_of shape lane p.size p.class stage))
                (sym d.shape) did.again.3))),
          );
        }

    -- it was refused
    module _ (new : Context) (came : StageStep AllotStage Allotted) (reply : Reply)
        (unstopped : before_stop (reply ∷ []) ≡ 1)
        (empty : allotment.hand_after came ≡ empty_hand)
        (none : (root : RootId) → allotment.born_in came root ≡ 0)
        (left : allotment.left_after came ≡ notes_alone 0)
        (some : (log : List Note) → allotment.IsTriedAgain pool old.seat mid.seat p.size p.class stage came log
        → 0 < length log)
        (rest_is : allotment.rest_after old.shape lane p.size p.class came ≡ give (Err reply))
        (did : Did came) where
      pub consolidate_refused : (turn : Turn) → Concludes mid new reply turn
          → HasTurned pool old new s command (Consolidating p stage) turn
      consolidate_refused turn concludes =
          let before : Hand = allotment.hand_of stage in let after : Hand = allotment.hand_after came in
          let gain = allotment.born_in came in let asks = allotment.asks_of stage in
          let es = did.wrote.added in let few = did.asked old.asked in
          let st = allotted pool old mid p.name p.size p.class stage d is.class mid_so came did in
          let names_are = staged_names pool before after old start mid es gain st in
          let counts_are = staged_counts pool before after old start mid es gain st in
          let spent : Spends (view_of old.seat) (view_of mid.seat) (allotment.left_of stage) (notes_alone 0) =
          subst (λ (l : Left). Spends (view_of old.seat) (view_of mid.seat) (allotment.left_of stage) l) left
          did.spends in
          staged_concludes pool before after old start mid es gain st empty new mid.names mid.counts reply unstopped
          (λ root. (let a = none root in let b = ap (λ (cs : List Counted). counted cs root) counts_are in
          omega (arith, a, b)))
          (ap (λ (cs : List Counted). length cs) counts_are) (rebound_same 0 old.names mid.names names_are) s command
          (Consolidating p stage) s.names (subst (NamesAre s.names) (sym names_are) are)
          (some_of es did.written did.wrote.noted (some did.written did.again))
          (with_parts copied released (allotment.left_of stage)) refl
          (less_beside (view_of old.seat) (view_of mid.seat) (allotment.left_of stage) (notes_alone 0) copied released
          spent 0 (omega arith)) (omega (arith, few)) asks refl (body stage) (λ log. refl)
          (given_on (rest stage >>= made_by) (map entry_of es) asks composes (Err reply)
          (given_on (rest stage) (map entry_of es) asks made_by (Err reply)
          (subst (λ r. ReadsOn (rest stage) (map entry_of es) asks r) rest_is
          (read_on pool old mid p.name p.size p.class stage d is.class mid_so came did)))) turn concludes

    -- a root was born, and is counted
    module _ (root : RootId) (region : RegionId) (did : Did (Done (New root region))) (cs : List Counted)
        (more : CountsMore mid.counts cs root) where
      abbrev es : List Entry
      es = did.wrote.added

      abbrev asks : ℕ → ℕ
      asks = allotment.asks_of stage

      abbrev made : Context
      made = record start { counts = cs; notes = mid.notes }

      abbrev moved : Composite
      moved = moved_to root c

      counts_more : (other : RootId) → counted cs other ≡ counted old.counts other + one_for root other
      counts_more other =
          more.counts other
          ∙ ap (λ (xs : List Counted). counted xs other + one_for root other) (ap (λ (x : Context). x.counts) mid_so)

      made_grew : ContextGrew pool empty_hand old made es
      made_grew =
          let before : Hand = allotment.hand_of stage in
          let st = allotted pool old mid p.name p.size p.class stage d is.class mid_so (Done (New root region)) did in
          let adv = staged pool before empty_hand old start mid es (one_for root) st in
          let spent = (view_of old.seat).moves in
          grew pool before empty_hand old start mid d refl es spent adv st.noted made refl
          (st.adds cs counts_more)
          (more.places ∙ ap (λ (x : Context). length x.counts) mid_so) st.sampled
          (let a = d.begun in let b = lengthened pool before empty_hand old start mid d refl es spent adv st.noted in
          omega (arith, a, b)) (omega arith) 0 (rebound_same 0 old.names old.names refl) (omega arith)

      made_counts : (other : RootId) → 0 < counted cs other → HasCount other (view_of made.seat)
      made_counts other = has_count cs (view_of made.seat) made_grew.context.seat.alone made_grew.context.counts other

      counted_still : (other : RootId) → 0 < counted old.counts other → HasCount other (view_of made.seat)
      counted_still other lt = let a = counts_more other in made_counts other (omega (arith, a, lt))

      root_counted : HasCount root (view_of made.seat)
      root_counted = let a = counts_more root in let b = one_self root in made_counts root (omega (arith, a, b))

      some_still : AreUncounted cs p.parts.items → ⊥
      some_still none =
          is.some (All-weaker (λ (x : Part). counted cs x.root ≡ 0) (λ (x : Part). counted old.counts x.root ≡ 0)
          (λ x gone. (let a = counts_more x.root in omega (arith, a, gone))) p.parts.items none)

      asked_low : made.asked ≤ sweep_period
      asked_low = let few = did.asked old.asked in omega (arith, few, low)

      few_asked : 0 + made.asked ≤ (allotment.left_of stage).asks + old.asked
      few_asked = let few = did.asked old.asked in omega (arith, few)

      capacity_is : root.capacity ≡ size_of c.parts
      capacity_is = did.place.1 ∙ is.size

      made_may : (whole : Box Composite) → whole.value ≡ moved → IsBindable made p.name whole.value
      made_may whole value =
          subst (λ (x : Composite). IsBindable made p.name x) (sym value) (
            record {
              name_is = may.name_is;
              composes = may.composes;
              few = may.few;
              inside =
                  All-cons (IsInRoot (known_to made.seat)) (whole_part root) []
                  (let k = knows_name root (view_of made.seat) in omega (arith, k))
                  (All-nil (IsInRoot (known_to made.seat)));
              marked = moved_marked root c capacity_is may.marked;
            },
            omega arith,
          )

      -- how the law reads what follows
      abbrev follows : Reader Answer
      follows = made_by (Ok (record { root = root; region = region })) >>= composes >>= swept lane

      made_reads : (rest_of : ToldNotes) → reads_of (Consolidating p stage) (log_of old (map entry_of es ++ rest_of))
          ≡ follows (log_of made rest_of)
      made_reads =
          reads_at old made (map entry_of es) asks (entries_more old made es did.wrote.more.notes) refl
          (reads_of (Consolidating p stage)) follows
          (then_on (body stage) (map entry_of es) asks (swept lane)
          (made_by (Ok (record { root = root; region = region })) >>= composes)
          (then_on (rest stage >>= made_by) (map entry_of es) asks composes
          (made_by (Ok (record { root = root; region = region })))
          (given_on (rest stage) (map entry_of es) asks made_by (Ok (record { root = root; region = region }))
          (read_on pool old mid p.name p.size p.class stage d is.class mid_so (Done (New root region)) did))))

      made_on : (next : Stage) → ((log : Log) → follows log ≡ reads_of next log)
          → GoesOn old made es (reads_of (Consolidating p stage))
          (λ names. reads_from old.shape lane (renamed s names) command next)
      made_on next same = record {
        some = some_of es did.written did.wrote.noted did.again;
        replies = refl;
        begun = refl;
        bound = s.names;
        names = are;
        reads = λ rest_of. made_reads rest_of ∙ same (log_of made rest_of);
      }

      -- all of these are to be released
      abbrev all_left : Releasing
      all_left = record { ending = None; left = p.parts }

      -- no part has a byte: all are released at once
      made_replacing : (whole : Box Composite) → whole.value ≡ moved → p.transfers.items ≡ []
          → HasTurned pool old made s command (Consolidating p stage) (Went (Replacing p.name whole all_left))
      made_replacing whole value none = record {
        added = es;
        grew = made_grew;
        fits = (tt, asked_low, λ over. some_still over.1);
        name = made_may whole value;
        spends =
            spends_at old made (with_parts copied released (allotment.left_of stage)) (releasing.left_of all_left)
            (less_beside (view_of old.seat) (view_of mid.seat) (allotment.left_of stage) (notes_alone 0) copied released
            did.spends (0 + 6 * released) (omega arith)) few_asked;
        comes =
            made_on (Replacing p.name whole all_left)
            (λ log.
            ap (λ (ps : List Part). option_and_then (λ got. swept lane got.0 got.1) (made_of s p.name old.shape
            c.parts moved
            ((copy_parts root 0 ps >> (release_parts old.shape c.parts >> give (Ok moved))) log)))
            (sym is.copied ∙ ap (map (λ (t : Transfer). t.part)) none)
            ∙ ap (option_and_then (λ (got : Answer × Log). swept lane got.0 got.1))
            (replaced_as s p.name old.shape c.parts moved (release_parts old.shape c.parts log))
            ∙ (λ i. option_and_then (λ (got : Answer × Log). swept lane got.0 got.1)
            (option_and_then (λ (got : Unit {0} × Log). give (composed s p.name (Ok (sym value i))) got.1)
            (release_parts old.shape (sym is.parts i) log))));
        waits = tt;
        held = tt;
      }

      -- the parts are copied
      made_copying : (whole : Box Composite) → whole.value ≡ moved → (first : Transfer) (later : Vec Transfer)
          → p.transfers.items ≡ first ∷ later.items
          → HasTurned pool old made s command (Consolidating p stage)
          (Went (Copying p.name whole p.parts (CopyGet root 0 first later)))
      made_copying whole value first later split =
          let left : List Transfer = first ∷ later.items in
          let v : SeatView = view_of made.seat in
          let are_filled : copying.parts_of left ≡ filled c.parts =
          ap (map (λ (t : Transfer). t.part)) (sym split) ∙ is.copied in
          record {
            added = es;
            grew = made_grew;
            fits = (
              (
                root_counted,
                subst (All (copying.IsWithin v)) split
                    (All-weaker (IsTransfer (known_to old.seat) old.counts) (copying.IsWithin v)
                    (λ (t : Transfer) (x : IsTransfer (known_to old.seat) old.counts t). record {
                      counts = counted_still t.part.root x.counts;
                      inside =
                          (let a = knows_more (view_of old.seat) v es did.wrote.more t.part.root in let b = x.inside in
                          omega (arith, a, b));
                      got = x.got;
                      set = x.set;
                    }) p.transfers.items is.transfers),
                (let a = ap size_of are_filled in let b = size_of-filled c.parts in let e = capacity_is in
                    omega (arith, a, b, e)),
              ),
              asked_low,
              some_still,
            );
            name = made_may whole value;
            spends =
                spends_at old made (with_parts copied released (allotment.left_of stage))
                (with_parts 0 released (copying.left_of (CopyGet root 0 first later)))
                (less_beside (view_of old.seat) (view_of mid.seat) (allotment.left_of stage) (notes_alone 0) copied
                released did.spends (2 + 2 * length later.items + 2 * 0 + 6 * released)
                (let a = ap (λ (ts : List Transfer). length ts) split in omega (arith, a))) few_asked;
            comes =
                made_on (Copying p.name whole p.parts (CopyGet root 0 first later))
                (λ log.
                ap (λ (ps : List Part). option_and_then (λ got. swept lane got.0 got.1) (made_of s p.name old.shape
                c.parts moved
                ((copy_parts root 0 ps >> (release_parts old.shape c.parts >> give (Ok moved))) log))) (sym are_filled)
                ∙ ap (option_and_then (λ (got : Answer × Log). swept lane got.0 got.1))
                (copied_as s p.name old.shape c.parts moved (copy_parts root 0 (copying.parts_of left) log))
                ∙ (λ i. option_and_then (λ (got : Answer × Log). swept lane got.0 got.1)
                (option_and_then (λ (got : Unit {0} × Log). give (composed s p.name (Ok (sym value i))) got.1)
                (option_and_then (λ (got : Unit {0} × Log). release_parts old.shape (sym is.parts i) got.1)
                (copy_parts root 0 (copying.parts_of left) log)))));
            waits = tt;
            held = tt;
          }

      -- whichever follows
      made_turn : (ts : List Transfer) → p.transfers.items ≡ ts → (next : Stage) → MovesTo p root ts next
          → HasTurned pool old made s command (Consolidating p stage) (Went next)
      made_turn [] split (Replacing name whole at) m =
          subst (λ (x : ℕ × Releasing). HasTurned pool old made s command (Consolidating p stage)
          (Went (Replacing x.0 whole x.1)))
          (λ i. (sym m.0 i, record { ending = sym m.2 i; left = sym m.3 i })) (made_replacing whole m.1 split)
      made_turn (first ∷ later) split (Copying name whole parts (CopyGet to at next left)) m =
          subst (λ (x : Stage). HasTurned pool old made s command (Consolidating p stage) (Went x))
          (λ i. Copying (sym m.0 i) whole (sym m.2 i) (CopyGet (sym m.3 i) (sym m.4 i) next left))
          (made_copying whole m.1 next left (split ∙ (λ i. sym m.5 i ∷ sym m.6 i)))
      made_turn ts split next m = absurd m

      pub consolidate_new : (next : Stage) → IsMoved p root next
          → HasTurned pool old (record mid { counts = cs }) s command (Consolidating p stage) (Went next)
      consolidate_new next moves =
          subst (λ (x : Context). HasTurned pool old x s command (Consolidating p stage) (Went next))
          (sym (ap (λ (x : Context). record x { counts = cs }) mid_so)) (made_turn p.transfers.items refl next moves)
