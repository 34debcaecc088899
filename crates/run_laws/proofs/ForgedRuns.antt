-- Why the laws refuse runs that no pool makes.
use Rattle.std.proofs.Common.{inl, inr, ◌≡◌, ℕ, ◌+◌, List, [], ◌∷◌, length, get_or, refl, sym, ap, subst, arith, Some, ◌∙◌, append-nil}
use Rattle.std.specs.Prelude.{false, Option, None}
use Rattle.pool_law.specs.declared.command.Command.{Command}
use Rattle.pool_law.specs.declared.note.Object.{Object}
use Rattle.pool_law.specs.declared.note.Did.{Did}
use Rattle.pool_law.specs.declared.note.Did.TheVariants.{Get}
use Rattle.pool_law.specs.declared.note.Note.TheVariants.{At}
use Rattle.pool_law.specs.declared.run.Reply.{Reply}
use Rattle.pool_law.specs.declared.id.Part.{Part}
use Rattle.pool_law.specs.Logs.{ToldNote, own, numbered, of_lane, entry_of, entries_of, history_of}
use Rattle.pool_law.specs.LaneStates.{LaneState}
use Rattle.pool_law.specs.LaneLaw.{IsLaneLog}
use Rattle.pool_law.specs.Legal.{logs_of, replies_of}
use Rattle.pool_law.proofs.LogLemmas.{entry-note}
use Rattle.run_laws.specs.Reads.{last_written, earlier_at, get_note, parts_read, joined, GetsPart, GetsParts, ReadsWritten, ReadsGiveWritten}
use Rattle.run_laws.specs.Reported.{ComesBefore, ListsLeaks}
use Rattle.run_laws.specs.Headline.{Headline}
use Rattle.run_laws.specs.Refused.{front_place, byte_root}
use Rattle.run_laws.specs.RefusedRuns.{byte_leak, stale, swapped, read_early, set_unnoted, read_past, touched, leaks_turned}

pub stale-read : ReadsGiveWritten stale → ⊥
stale-read reads = go (reads 0 3 (Command.Get 0 0 1 false) (0 ∷ []) refl refl)
  where
    second : ToldNote
    second = entry_of (logs_of stale) (At (Object.Root 0) 4 (Get 0 (0 ∷ [])))

    one : (part : Part) (b : List ℕ) → GetsPart (logs_of stale) part second b → (0 ∷ []) ≡ b → ⊥
    one part b g whole =
        let note : At (Object.Root 0) 4 (Get 0 (0 ∷ []))
        ≡ get_note part g.number b =
        sym (entry-note (logs_of stale) (At (Object.Root 0) 4 (Get 0 (0 ∷ [])))) ∙ ap (λ e. e.note) g.is
        ∙ entry-note (logs_of stale) (get_note part g.number b) in
        let place : 0 ≡ part.root.place = cc note in
        let got : 4 ≡ g.number = cc note in
        let index : 0 ≡ part.offset = cc note in
        let written : get_or b 0 0 ≡ last_written (part.offset + 0) 0
        (earlier_at (logs_of stale) part.root.place g.number) = g.written 0 (omega (arith, ap length whole)) in
        let here : 0 ≡ last_written (0 + 0) 0 (earlier_at (logs_of stale) 0 4) = ap (λ x. get_or x 0 0) whole ∙ written
        ∙ (λ i. last_written (sym index i + 0) 0 (earlier_at (logs_of stale) (sym place i) (sym got i))) in
        let last : last_written (0 + 0) 0 (earlier_at (logs_of stale) 0 4) ≡ 255 = refl in
        absurd (omega (arith, here ∙ last))

    parts : (ps : List Part) (bs : List (List ℕ)) → GetsParts (logs_of stale) ps (second ∷ []) bs → (0 ∷ []) ≡ joined bs
        → ⊥
    parts [] [] g whole = absurd g
    parts [] (b ∷ bs) g whole = absurd g
    parts (p ∷ ps) [] g whole = absurd g
    parts (p ∷ []) (b ∷ []) g whole = one p b g.0 (whole ∙ append-nil b)
    parts (p ∷ []) (b ∷ (c ∷ bs)) g whole = absurd g.1
    parts (p ∷ (q ∷ ps)) (b ∷ []) g whole = absurd g.1
    parts (p ∷ (q ∷ ps)) (b ∷ (c ∷ bs)) g whole = absurd g.1

    go : ReadsWritten stale 0 3 (Command.Get 0 0 1 false) (0 ∷ []) → ⊥
    go w =
        let own : Some (second ∷ []) ≡ Some w.notes = w.own in
        let notes : second ∷ [] ≡ w.notes = cc own in
        parts w.parts w.got (subst (λ es. GetsParts (logs_of stale) w.parts es w.got) (sym notes) w.gets) w.gives

-- what the composite's command reads, in the state that a run of commands gives
abbrev parts_if : Option (List Reply × LaneState) → Option (List Part)
parts_if None = None
parts_if (Some p) = parts_read p.1 (Command.Read 2 2)

pub swapped-read : ReadsGiveWritten swapped → ⊥
swapped-read reads = go (reads 0 5 (Command.Read 2 2) (2 ∷ 1 ∷ []) refl refl)
  where
    first : Part
    first = record { root = byte_root 0; offset = 0; len = 1 }

    second : Part
    second = record { root = byte_root 1; offset = 0; len = 1 }

    of_second : ToldNote
    of_second = entry_of (logs_of swapped) (At (Object.Root 1) 3 (Get 0 (2 ∷ [])))

    of_first : ToldNote
    of_first = entry_of (logs_of swapped) (At (Object.Root 0) 3 (Get 0 (1 ∷ [])))

    wrong : (bs : List (List ℕ)) → GetsParts (logs_of swapped) (first ∷ second ∷ []) (of_second ∷ of_first ∷ []) bs → ⊥
    wrong [] g = absurd g
    wrong (b ∷ bs) g =
        let note : At (Object.Root 1) 3 (Get 0 (2 ∷ []))
        ≡ get_note first g.0.number b =
        sym (entry-note (logs_of swapped) (At (Object.Root 1) 3 (Get 0 (2 ∷ [])))) ∙ ap (λ e. e.note) g.0.is
        ∙ entry-note (logs_of swapped) (get_note first g.0.number b) in
        let place : ◌≡◌ {A = ℕ} 1 0 = cc note in
        absurd (omega (arith, place))

    go : ReadsWritten swapped 0 5 (Command.Read 2 2) (2 ∷ 1 ∷ []) → ⊥
    go w =
        let parts_are : Some (first ∷ second ∷ []) ≡ Some w.parts = ap parts_if w.before ∙ w.is in
        let parts : first ∷ second ∷ [] ≡ w.parts = cc parts_are in
        let own : Some (of_second ∷ of_first ∷ []) ≡ Some w.notes = w.own in
        let notes : of_second ∷ of_first ∷ [] ≡ w.notes = cc own in
        wrong w.got (subst (λ ps. GetsParts (logs_of swapped) ps (of_second ∷ of_first ∷ []) w.got) (sym parts)
        (subst (λ es. GetsParts (logs_of swapped) w.parts es w.got) (sym notes) w.gets))

-- what the number of the second note is
abbrev second_number : List (ℕ × Did) → ℕ
second_number (x ∷ (y ∷ rest)) = y.0
second_number _ = 0

-- an object's numbers rise in each log
pub early-read : Headline read_early → ⊥
early-read h =
    let own_is : own (Object.Root 0) (of_lane (logs_of read_early) 0)
    ≡ numbered 0 1 (history_of (Object.Root 0) (logs_of read_early)) = h.legal.histories.whole (Object.Root 0) refl 0 in
    let number : ◌≡◌ {A = ℕ} 3 2 = ap second_number own_is in
    absurd (omega (arith, number))

-- a command's answer is that of its notes
pub unnoted-set : Headline set_unnoted → ⊥
unnoted-set h = go (h.legal.answers 0 (omega arith))
  where
    go : IsLaneLog set_unnoted.shape 0 (of_lane set_unnoted.trace.lanes 0) (replies_of set_unnoted 0)
        (of_lane (entries_of (logs_of set_unnoted)) 0) → ⊥
    go log =
        let none : ◌≡◌ {A = Option (List Reply × LaneState)} None
        (Some (Reply.OkPlace 16 front_place ∷ Reply.Ok ∷ Reply.Ok ∷ [], log.last)) = log.answered in
        absurd (cc none)

-- what a command would read in the state that a run of commands gives
abbrev reads_if : Command → Option (List Reply × LaneState) → Option (List Part)
reads_if c None = None
reads_if c (Some p) = parts_read p.1 c

pub past-read : ReadsGiveWritten read_past → ⊥
past-read reads = go (reads 0 2 (Command.Get 1 0 3 false) (0 ∷ 0 ∷ 0 ∷ []) refl refl)
  where
    go : ReadsWritten read_past 0 2 (Command.Get 1 0 3 false) (0 ∷ 0 ∷ 0 ∷ []) → ⊥
    go w =
        let none : ◌≡◌ {A = Option (List Part)} None (Some w.parts) = ap (reads_if (Command.Get 1 0 3 false)) w.before
        ∙ w.is in
        absurd (cc none)

pub touch-read : ReadsGiveWritten touched → ⊥
touch-read reads = go (reads 0 0 (Command.Touch 0) (7 ∷ []) refl refl)
  where
    go : ReadsWritten touched 0 0 (Command.Touch 0) (7 ∷ []) → ⊥
    go w = let none : ◌≡◌ {A = Option (List Part)} None (Some w.parts) = w.is in absurd (cc none)

pub turned-leaks : ListsLeaks leaks_turned → ⊥
turned-leaks lists = go (lists.order 0 1 (byte_leak 2) (byte_leak 1) refl refl (omega arith))
  where
    go : ComesBefore (byte_leak 2) (byte_leak 1) → ⊥
    go (inl lane) = absurd (omega (arith, lane))
    go (inr serial) = absurd (omega (arith, serial.1))
