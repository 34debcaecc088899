-- Pieces of a log, and readings of the whole of it.
use Rattle.std.proofs.Common.{◌≡◌, ℕ, zero, suc, ◌-◌, ◌<◌, ◌≤◌, List, [], ◌∷◌, length, take, drop, Bool, true, false, refl, sym, ap, arith, ◌∙◌, length-drop}
use Rattle.std.proofs.lemmas.Bool.{leb-true, leb-false}
use Rattle.std.proofs.lemmas.List.{take_all}
use Rattle.std.specs.Prelude.{Option, Some, None, option_map, option_and_then, is_some, min, nat_le}
use Rattle.pool_law.specs.declared.note.Note.{Note}
use Rattle.pool_law.specs.Logs.{ToldNote}
use Rattle.pool_law.specs.LaneStates.{new_lane, log_at}
use Rattle.pool_law.specs.Readers.{ToldNotes, Reader, Log, ◌>>◌, at_end, give, ended_with, read_all}
use Rattle.object_steps.specs.declared.told.PlaceTold.{PlaceTold}
use Rattle.lane_reader.specs.declared.log.At.{At}
use Rattle.lane_reader.specs.Reading.{entry, untold, entries_in, entries, log_from, passes}
use Rattle.lane_reader.proofs.ReadingLemmas.{entries-past, drop-min}

pub entries-first : (notes : List Note) (told : List PlaceTold) (count : ℕ) →
    entries_in (take count notes) told ≡ take count (entries_in notes told)
entries-first notes told zero = refl
entries-first [] told (suc count) = refl
entries-first (n ∷ ns) [] (suc count) = ap (λ (es : ToldNotes). entry n untold ∷ es) (entries-first ns [] count)
entries-first (n ∷ ns) (t ∷ ts) (suc count) = ap (λ (es : ToldNotes). entry n t ∷ es) (entries-first ns ts count)

entries-untold : (notes : List Note) (count : ℕ) → entries_in (drop count notes) [] ≡ drop count (entries_in notes [])
entries-untold notes zero = refl
entries-untold [] (suc count) = refl
entries-untold (n ∷ ns) (suc count) = entries-untold ns count

entries-dropped : (notes : List Note) (told : List PlaceTold) (count : ℕ) →
    entries_in (drop count notes) (drop count told) ≡ drop count (entries_in notes told)
entries-dropped notes told zero = refl
entries-dropped [] told (suc count) = refl
entries-dropped (n ∷ ns) [] (suc count) = entries-untold ns count
entries-dropped (n ∷ ns) (t ∷ ts) (suc count) = entries-dropped ns ts count

entries-behind : (notes : List Note) (told : List PlaceTold) (count k : ℕ) → k ≡ min (length told) count →
    entries_in (drop count notes) (drop k told) ≡ drop count (entries_in notes told)
entries-behind notes told count k is =
    ap (λ (ts : List PlaceTold). entries_in (drop count notes) ts) (drop-min told count k is)
    ∙ entries-dropped notes told count

pub rest-whole : {X : Type 0} (xs : List X) (n : ℕ) → take (length xs - n) (drop n xs) ≡ drop n xs
rest-whole xs n = take_all (length xs - n) (drop n xs) (omega (arith, length-drop n xs))

-- the same, as the program cuts them
pub entries-rest : (notes : List Note) (told : List PlaceTold) (count k : ℕ) → k ≡ min (length told) count →
    entries_in (take (length notes - count) (drop count notes)) (take (length told - k) (drop k told))
    ≡ drop count (entries_in notes told)
entries-rest notes told count k is =
    (λ i. entries_in (rest-whole notes count i) (rest-whole told k i)) ∙ entries-behind notes told count k is

-- what is so of each log with a note is so where some note is left
pub where-left : {X : Type 0} (F : ToldNotes → X) (x : X) → ((e : ToldNote) (rest : ToldNotes) → F (e ∷ rest) ≡ x) →
    (notes : List Note) (told : List PlaceTold) (at : ℕ) → at < length notes → F (drop at (entries_in notes told)) ≡ x
where-left F x f [] told at there = absurd (omega (arith, there))
where-left F x f (n ∷ ns) [] zero there = f (entry n untold) (entries_in ns [])
where-left F x f (n ∷ ns) (t ∷ ts) zero there = f (entry n t) (entries_in ns ts)
where-left F x f (n ∷ ns) [] (suc at) there = where-left F x f ns [] at (omega (arith, there))
where-left F x f (n ∷ ns) (t ∷ ts) (suc at) there = where-left F x f ns ts at (omega (arith, there))

-- the end behind what is read
abbrev ended : Option (Unit {0} × Log) → Option (Unit {0} × Log)
ended q = option_and_then (λ got. (at_end >> give got.0) got.1) q

-- whether a log of which this is left has ended
abbrev ends : Log → ToldNotes → Bool
ends log left = is_some (option_and_then (λ got. give got.0 got.1) (ended_with log left))

module _ (log : Rattle.lane_reader.specs.declared.log.Log.Log) (r : Reader (Unit {0})) where
  module _ (at : At) (read : r (log_at new_lane (entries log)) ≡ passes [] log (Some at)) where
    pub read-all : length log.notes.now ≤ at.place → is_some (read_all r (log_at new_lane (entries log))) ≡ true
    read-all past =
        ap (λ (q : Option (Unit {0} × Log)). is_some (ended q)) read
        ∙ ap (λ (es : ToldNotes). ends (log_from [] log at) es) (entries-past log.notes.now log.told.now at.place past)

    pub read-some : at.place < length log.notes.now → is_some (read_all r (log_at new_lane (entries log))) ≡ false
    read-some there =
        ap (λ (q : Option (Unit {0} × Log)). is_some (ended q)) read
        ∙ where-left (λ es. ends (log_from [] log at) es) false (λ e rest. refl) log.notes.now log.told.now at.place
        there

    -- whether the reading took all
    pub read-whole : is_some (read_all r (log_at new_lane (entries log))) ≡ nat_le (length log.notes.now) at.place
    read-whole = go (nat_le (length log.notes.now) at.place) refl
      where
        go : (b : Bool) → nat_le (length log.notes.now) at.place ≡ b →
            is_some (read_all r (log_at new_lane (entries log))) ≡ nat_le (length log.notes.now) at.place
        go true past = read-all (leb-true (length log.notes.now) at.place past) ∙ sym past
        go false there = read-some (leb-false (length log.notes.now) at.place there) ∙ sym there

-- whether something is there, whatever is made of it
pub still-there : {X Y : Type 0} (f : X → Y) (o : Option X) → is_some (option_map f o) ≡ is_some o
still-there f None = refl
still-there f (Some x) = refl
