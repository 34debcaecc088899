-- What is planned of each command that reaches the bytes of a composite.
use Rattle.std.proofs.Common.{◌≡◌, ℕ, ◌+◌, ◌-◌, ◌≤◌, Bool, true, false, List, [], length, refl, sym, ap, ◌∙◌, arith, Option, Some, None, leb-true}
use Rattle.std.specs.Prelude.{if◌then◌else◌, ◌==◌, option_and_then}
use Rattle.std.specs.Global.{Vec}
use Rattle.pool_law.specs.declared.command.Command.{Command}
use Rattle.pool_law.specs.declared.id.Part.{Part}
use Rattle.pool_law.specs.declared.run.Reply.{Reply}
use Rattle.pool_law.specs.Composites.{Composite, ranges, size_of}
use Rattle.pool_law.specs.LaneStates.{LaneState, named}
use Rattle.pool_law.specs.Lanes.{answer, answer_of, get_at, get_parts, release_of, release_parts, set_at, set_parts}
use Rattle.pool_law.specs.Names.{Bound, Composed, Names, bind, composite_in, has_range, has_room, has_to_read, parts_at, read_on, reader_of, writer_of, written_on}
use Rattle.pool_law.specs.Readers.{Log, ◌>>=◌, ◌>>◌, give, given}
use Rattle.lane_context.specs.declared.access.Refusal.{Refusal}
use Rattle.lane_context.specs.declared.composed.Marks.{Marks}
use Rattle.lane_stages.specs.declared.crossing.Crossing.{Crossing}
use Rattle.lane_context.specs.declared.context.Context.{Context}
use Rattle.lane_context.specs.declared.work.Work.TheVariants.{End, Refused}
use Rattle.lane_context.specs.Accesses.{IsState}
use Rattle.lane_context.specs.Composing.{changed, rebound, released}
use Rattle.lane_context.specs.Named.{AreComposites, AreInside, bound_at, known_to}
use Rattle.lane_plans.specs.Plans.{GetsAt, IsDenied, IsPlanOf, IsUsable, SetsAt, work_on}
use Rattle.lane_context.specs.Works.{reads}
use Rattle.lane_plans.proofs.PlanReads.{getting, held, makes, marks_moved, refusing, setting}
use Rattle.lane_context.proofs.StateReads.{goes_composite, named_so}

module _ (d : Context) (composites : AreComposites d.composes (1 + length d.replies.items) d.names)
    (lies : AreInside (known_to d.seat) d.names) (name : ℕ) (c : Composite)
    (is : bound_at d.names name ≡ Some (Composed c)) where
  -- ---- Set.

  module _ (at : ℕ) (bytes : List ℕ) where
    pub set_refused : (inside : Bool) → inside ≡ has_range at (length bytes) (Composed c) → (r : Refusal)
        → IsDenied d.counts c inside r → IsPlanOf d (Command.Set name at bytes false) (Some (Refused r))
    set_refused =
        refusing d composites lies name c is (Command.Set name at bytes false) (has_range at (length bytes)) (λ s. refl)
        (λ s lane reply log. refl)

    pub set_planned : IsUsable d.counts c → true ≡ has_range at (length bytes) (Composed c) → (stage : Option Crossing)
        → SetsAt c at bytes stage
        → IsPlanOf d (Command.Set name at bytes false) (Some (work_on name None stage Reply.Ok))
    set_planned usable pass stage sets =
        setting d composites lies name c is (Command.Set name at bytes false) (has_range at (length bytes)) (λ s. refl)
        (λ s lane reply log. refl) usable pass (makes d composites lies name c is 16 1) at (length bytes) None tt
        (λ s. s.names) (λ s here. refl) bytes refl
        (λ s here lane log. ap (λ (o : Option Bound). (given o >>= set_at s at bytes) log) here) stage
        (sets (known_to d.seat) d.counts (held d composites lies name c is usable))

  -- ---- Get.

  module _ (at len : ℕ) where
    pub get_refused : (inside : Bool) → inside ≡ has_range at len (Composed c) → (r : Refusal)
        → IsDenied d.counts c inside r → IsPlanOf d (Command.Get name at len false) (Some (Refused r))
    get_refused =
        refusing d composites lies name c is (Command.Get name at len false) (has_range at len) (λ s. refl)
        (λ s lane reply log. refl)

    pub get_planned : IsUsable d.counts c → true ≡ has_range at len (Composed c) → (stage : Option Crossing)
        → GetsAt c at len stage
        → IsPlanOf d (Command.Get name at len false) (Some (work_on name None stage (Reply.OkBytes [])))
    get_planned usable pass stage gets =
        getting d composites lies name c is (Command.Get name at len false) (has_range at len) (λ s. refl)
        (λ s lane reply log. refl) usable pass (makes d composites lies name c is 16 1) at len None tt
        (λ s. s.names) (λ s here. refl)
        (λ s here lane log. ap (λ (o : Option Bound). (given o >>= get_at s at len) log) here) stage
        (gets (known_to d.seat) d.counts (held d composites lies name c is usable))

  -- ---- Write.

  module _ (bytes : List ℕ) (reader writer : ℕ) (r : reader ≡ c.reader) (w : writer ≡ c.writer) where
    has_room_so : (b : Bool) → b ≡ has_range writer (length bytes) (Composed c)
        → b ≡ has_room (length bytes) (Composed c)
    has_room_so b same = same ∙ ap (λ (i : ℕ). has_range i (length bytes) (Composed c)) w

    pub write_refused : (inside : Bool) → inside ≡ has_range writer (length bytes) (Composed c) → (r : Refusal)
        → IsDenied d.counts c inside r → IsPlanOf d (Command.Write name bytes) (Some (Refused r))
    write_refused inside same =
        refusing d composites lies name c is (Command.Write name bytes) (has_room (length bytes)) (λ s. refl)
        (λ s lane reply log. refl) inside (has_room_so inside same)

    abbrev written : Marks
    written = record { reader = reader; writer = writer + length bytes }

    pub write_planned : IsUsable d.counts c → true ≡ has_range writer (length bytes) (Composed c)
        → (stage : Option Crossing) → SetsAt c writer bytes stage
        → IsPlanOf d (Command.Write name bytes) (Some (work_on name (Some written) stage Reply.Ok))
    write_planned usable pass stage sets =
        setting d composites lies name c is (Command.Write name bytes) (has_room (length bytes)) (λ s. refl)
        (λ s lane reply log. refl) usable (has_room_so true pass) (makes d composites lies name c is 16 1) writer
        (length bytes) (Some written) (c, is, omega (arith, r, w, ordered), inside)
        (λ s. bind name (written_on (length bytes) (Composed c)) s.names)
        (λ s here. marks_moved s name c here written
        ∙ (λ i. bind name (Composed (record c { reader = r i; writer = w i + length bytes })) s.names)) bytes refl
        (λ s here lane log. ap (λ (o : Option Bound). (given o >>= (λ b. set_parts (parts_at b (writer_of b)
        (length bytes)) bytes >> give (answer Reply.Ok (bind name (written_on (length bytes) b) s.names)))) log) here
        ∙ (λ i. (set_parts (ranges c.parts (sym w i) (length bytes)) bytes
        >> give (answer Reply.Ok (bind name (written_on (length bytes) (Composed c)) s.names))) log)) stage
        (sets (known_to d.seat) d.counts (held d composites lies name c is usable))
      where
        ordered : c.reader ≤ c.writer
        ordered = (composites.formed name c is).marked.reader

        inside : writer + length bytes ≤ size_of c.parts
        inside = leb-true (writer + length bytes) (size_of c.parts) (sym pass)

  -- ---- Read.

  module _ (len reader writer : ℕ) (r : reader ≡ c.reader) (w : writer ≡ c.writer) where
    pub read_refused : (inside : Bool) → inside ≡ has_to_read len (Composed c) → (r : Refusal)
        → IsDenied d.counts c inside r → IsPlanOf d (Command.Read name len) (Some (Refused r))
    read_refused =
        refusing d composites lies name c is (Command.Read name len) (has_to_read len) (λ s. refl)
        (λ s lane reply log. refl)

    abbrev was_read : Marks
    was_read = record { reader = reader + len; writer = writer }

    pub read_planned : IsUsable d.counts c → true ≡ has_to_read len (Composed c) → (stage : Option Crossing)
        → GetsAt c reader len stage
        → IsPlanOf d (Command.Read name len) (Some (work_on name (Some was_read) stage (Reply.OkBytes [])))
    read_planned usable pass stage gets =
        getting d composites lies name c is (Command.Read name len) (has_to_read len) (λ s. refl)
        (λ s lane reply log. refl) usable pass (makes d composites lies name c is 16 1) reader len (Some was_read)
        (c, is, omega (arith, r, w, ordered, le), omega (arith, w, inside))
        (λ s. bind name (read_on len (Composed c)) s.names)
        (λ s here. marks_moved s name c here was_read
        ∙ (λ i. bind name (Composed (record c { reader = r i + len; writer = w i })) s.names))
        (λ s here lane log. ap (λ (o : Option Bound). (given o >>= (λ b. get_parts (parts_at b (reader_of b) len)
        >>= (λ bytes. give (answer (Reply.OkBytes bytes) (bind name (read_on len b) s.names))))) log) here
        ∙ (λ i. (get_parts (ranges c.parts (sym r i) len)
        >>= (λ bytes. give (answer (Reply.OkBytes bytes) (bind name (read_on len (Composed c)) s.names)))) log)) stage
        (gets (known_to d.seat) d.counts (held d composites lies name c is usable))
      where
        ordered : c.reader ≤ c.writer
        ordered = (composites.formed name c is).marked.reader

        inside : c.writer ≤ size_of c.parts
        inside = (composites.formed name c is).marked.writer

        le : len ≤ c.writer - c.reader
        le = leb-true len (c.writer - c.reader) (sym pass)

  -- ---- Release, of the last count.

  module _ (parts : Vec Part) (items : parts.items ≡ c.parts) (one : c.count ≡ 1) where
    reads_on : (s : LaneState) → IsState s d.names d.counts → (lane : ℕ) (log : Log)
        → answer_of d.shape lane s (Command.Release name) log ≡ reads d.shape lane s (End name parts) log
    reads_on s state lane log =
        let here : named s name ≡ Some (Composed c) = named_so s d.names d.counts state name (Some (Composed c)) is in
        let less : Names = bind name (Composed (released c)) s.names in
        let moved : changed released name s.names ≡ less =
        ap (λ (o : Option Bound). rebound released name s.names (option_and_then composite_in o)) here in
        goes_composite s d.names d.counts state d.shape lane (Command.Release name) name c is (omega (arith, one)) refl
        log
        ∙ ap (λ (o : Option Bound). (given o >>= release_of d.shape s name) log) here
        ∙ ap (λ (n : ℕ). (if n == 1 then release_parts d.shape c.parts >> give (answer Reply.Freed less)
        else give (answer Reply.Kept less)) log) one
        ∙ (λ i. (release_parts d.shape (sym items i) >> give (answer Reply.Freed (sym moved i))) log)

    pub release_planned : IsPlanOf d (Command.Release name) (Some (End name parts))
    release_planned = (
      (c, is, one, items),
      λ s state. record {
        within = (let few = (composites.formed name c is).parts in
            let long = ap (λ (ps : List Part). length ps) items in
            let most = makes d composites lies name c is 96 6 in
            record {
              notes = omega (arith, few, long, most);
              asks = omega arith;
              takes = omega arith;
              moves = omega arith;
              sends = λ to. omega arith;
            });
        read = reads_on s state;
      },
    )
