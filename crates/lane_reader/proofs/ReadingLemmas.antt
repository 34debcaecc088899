-- The notes of a log from a place on.
use Rattle.std.proofs.Common.{◌≡◌, ℕ, zero, suc, ◌+◌, ◌<◌, ◌≤◌, List, [], ◌∷◌, ◌++◌, length, take, drop, get_or, refl, sym, ap, arith, ⊎_elim, ◌∙◌, append_assoc}
use Rattle.std.proofs.lemmas.List.{take_all, drop_all}
use Rattle.std.specs.Prelude.{◌⊎◌, min, Bool, true, false, if◌then◌else◌, Option, Some, None, slice_get, unwrap_or, option_map, option_and_then}
use Rattle.pool_law.specs.declared.id.RootId.{RootId}
use Rattle.pool_law.specs.declared.note.Object.{Object}
use Rattle.pool_law.specs.declared.note.Did.{Did}
use Rattle.pool_law.specs.declared.note.RefDid.{RefDid}
use Rattle.pool_law.specs.declared.note.Note.{Note}
use Rattle.pool_law.specs.Logs.{ToldNote}
use Rattle.pool_law.specs.Readers.{ToldNotes, behind_entry, first_of_left, next, done_at, done_to, note, step, access}
use Rattle.pool_law.specs.Counts.{root_is}
use Rattle.lane_reader.specs.declared.log.Log.{Log}
use Rattle.object_steps.specs.declared.told.PlaceTold.{PlaceTold}
use Rattle.lane_reader.specs.declared.log.At.{At}
use Rattle.lane_reader.specs.Reading.{entry, untold, entries_in, entries, log_from}

pub entries-past : (notes : List Note) (told : List PlaceTold) (at : ℕ) → length notes ≤ at →
    drop at (entries_in notes told) ≡ []
entries-past [] told zero past = refl
entries-past [] told (suc at) past = refl
entries-past (n ∷ ns) told zero past = absurd (omega (arith, past))
entries-past (n ∷ ns) [] (suc at) past = entries-past ns [] at (omega (arith, past))
entries-past (n ∷ ns) (t ∷ ts) (suc at) past = entries-past ns ts at (omega (arith, past))

pub entries-from : (notes : List Note) (told : List PlaceTold) (at : ℕ) (d : Note) → at < length notes →
    drop at (entries_in notes told)
    ≡ entry (get_or notes at d) (unwrap_or (slice_get told at) untold) ∷ drop (suc at) (entries_in notes told)
entries-from [] told at d there = absurd (omega (arith, there))
entries-from (n ∷ ns) [] zero d there = refl
entries-from (n ∷ ns) (t ∷ ts) zero d there = refl
entries-from (n ∷ ns) [] (suc at) d there = entries-from ns [] at d (omega (arith, there))
entries-from (n ∷ ns) (t ∷ ts) (suc at) d there = entries-from ns ts at d (omega (arith, there))

-- one entry more
pub take-next : {X : Type 0} (xs : List X) (at : ℕ) (x : X) (rest : List X) → drop at xs ≡ x ∷ rest →
    take (suc at) xs ≡ take at xs ++ x ∷ []
take-next [] zero x rest e = absurd (cc e)
take-next [] (suc at) x rest e = absurd (cc e)
take-next (y ∷ ys) zero x rest e = cc e
take-next (y ∷ ys) (suc at) x rest e = ap (λ zs. y ∷ zs) (take-next ys at x rest e)

-- the next note of a log, where one is left
pub next-there : (before : ToldNotes) (log : Log) (at : At) (d : Note) (told : PlaceTold) →
    at.place < length log.notes.now → told ≡ unwrap_or (slice_get log.told.now at.place) untold →
    let e = entry (get_or log.notes.now at.place d) told in
    let rest = drop (at.place + 1) (entries log) in
    (drop at.place (entries log) ≡ e ∷ rest)
    × (behind_entry (log_from before log at) e rest ≡ log_from before log (record at { place = at.place + 1 }))
next-there before log at d told there is =
    let es : ToldNotes = entries log in
    let e : ToldNote = entry (get_or log.notes.now at.place d) told in
    let further : suc at.place ≡ at.place + 1 = omega arith in
    let first : drop at.place es ≡ e ∷ drop (at.place + 1) es =
    entries-from log.notes.now log.told.now at.place d there
    ∙ (λ i. entry (get_or log.notes.now at.place d) (sym is i) ∷ drop (further i) es) in
    let seen : (before ++ take at.place es) ++ e ∷ [] ≡ before ++ take (at.place + 1) es =
    append_assoc before (take at.place es) (e ∷ [])
    ∙ ap (λ (xs : ToldNotes). before ++ xs)
    (sym (take-next es at.place e (drop (at.place + 1) es) first) ∙ ap (λ (k : ℕ). take k es) further) in
    (first, λ i. record { seen = seen i; asked = at.asked; left = drop (at.place + 1) es })

-- what the note at an object says
abbrev pub with : {A : Type 0} → Rattle.pool_law.specs.Readers.Log → A → A × Rattle.pool_law.specs.Readers.Log
with log a = (a, log)

says-of : {A B : Type 0} (f : B → Option A) (o : Option B) (l : Rattle.pool_law.specs.Readers.Log) →
    option_map (with l) (option_and_then f o)
    ≡ option_and_then (λ got. option_map (with got.1) (f got.0)) (option_map (with l) (option_and_then Some o))
says-of f None l = refl
says-of f (Some b) l = refl

pub note_says : {A : Type 0} (object : Object) (says : Did → Option A) (log : Rattle.pool_law.specs.Readers.Log) →
    note object says log
    ≡ option_and_then (λ got. option_map (with got.1) (says got.0)) (note object Some log)
note_says object says log = go log.left
  where
    go : (es : ToldNotes) →
        first_of_left (λ e. option_and_then says (done_at object e.note)) log es
        ≡ option_and_then (λ got. option_map (with got.1) (says got.0))
        (first_of_left (λ e. option_and_then Some (done_at object e.note)) log es)
    go [] = refl
    go (e ∷ es) = says-of says (done_at object e.note) (behind_entry log e es)

-- what a step on a word says
pub step_says : {A : Type 0} (root : RootId) (says : RefDid → Option A) (log : Rattle.pool_law.specs.Readers.Log) →
    step root says log
    ≡ option_and_then (λ got. option_map (with got.1) (says got.0)) (step root Some log)
step_says root says log = go log.left
  where
    go : (es : ToldNotes) →
        first_of_left (λ e. option_and_then says (done_to root e.note)) log es
        ≡ option_and_then (λ got. option_map (with got.1) (says got.0))
        (first_of_left (λ e. option_and_then Some (done_to root e.note)) log es)
    go [] = refl
    go (e ∷ es) = says-of says (done_to root e.note) (behind_entry log e es)

-- no note counts the allocations that asked a cache
pub next-asked : {A : Type 0} (read : ToldNote → Option A) (log after : Rattle.pool_law.specs.Readers.Log) (a : A) →
    next read log ≡ Some (a, after) → after.asked ≡ log.asked
next-asked {A} read log after a is = go log.left is
  where
    inner : (e : ToldNote) (es : ToldNotes) (o : Option A) → option_map (with (behind_entry log e es)) o ≡ Some (
      a,
      after,
    )
        → after.asked ≡ log.asked
    inner e es None h = absurd (cc h)
    inner e es (Some x) h =
        let same : ◌≡◌ {A = A × Rattle.pool_law.specs.Readers.Log} (x, behind_entry log e es) (a, after) = cc h in
        ap (λ p. p.1.asked) (sym same)

    go : (es : ToldNotes) → first_of_left read log es ≡ Some (a, after) → after.asked ≡ log.asked
    go [] h = absurd (cc h)
    go (e ∷ es) h = inner e es (read e) h

-- what is done at the place of a root
abbrev pub at_root : RootId → ToldNote → Option Did
at_root root e = done_at (Object.Root root.place) e.note

-- what an access says
pub access_says : {A : Type 0} (root : RootId) (says : Did → Option A) (log : Rattle.pool_law.specs.Readers.Log) →
    access root says log
    ≡ option_and_then (λ got. option_map (with got.1) (says got.0)) (access root Some log)
access_says {A} root says log = go log.left
  where
    inner : (b : Bool) (e : ToldNote) (es : ToldNotes) →
        option_map (with (behind_entry log e es)) (if b then option_and_then says (at_root root e) else None)
        ≡ option_and_then (λ got. option_map (with got.1) (says got.0))
        (option_map (with (behind_entry log e es)) (if b then option_and_then Some (at_root root e) else None))
    inner true e es = says-of says (at_root root e) (behind_entry log e es)
    inner false e es = refl

    go : (es : ToldNotes) →
        first_of_left (λ e. if root_is root e.root then option_and_then says (at_root root e) else None) log es
        ≡ option_and_then (λ got. option_map (with got.1) (says got.0))
        (first_of_left (λ e. if root_is root e.root then option_and_then Some (at_root root e) else None) log es)
    go [] = refl
    go (e ∷ es) = inner (root_is root e.root) e es

-- a piece that may be cut short by the end
pub take-min : {X : Type 0} (xs : List X) (n m : ℕ) → m ≡ min (length xs) n → take m xs ≡ take n xs
take-min {X} xs n m is =
    ⊎_elim (λ short. go short) (λ long. ap (λ (k : ℕ). take k xs) (omega (arith, is, long))) (order (length xs) n)
  where
    order : (a b : ℕ) → (a ≤ b) ⊎ (b ≤ a)
    order a b = grind arith

    go : length xs ≤ n → take m xs ≡ take n xs
    go short = let whole : length xs ≤ m = omega (arith, is, short) in take_all m xs whole ∙ sym (take_all n xs short)

pub drop-min : {X : Type 0} (xs : List X) (n m : ℕ) → m ≡ min (length xs) n → drop m xs ≡ drop n xs
drop-min {X} xs n m is =
    ⊎_elim (λ short. go short) (λ long. ap (λ (k : ℕ). drop k xs) (omega (arith, is, long))) (order (length xs) n)
  where
    order : (a b : ℕ) → (a ≤ b) ⊎ (b ≤ a)
    order a b = grind arith

    go : length xs ≤ n → drop m xs ≡ drop n xs
    go short = let whole : length xs ≤ m = omega (arith, is, short) in drop_all m xs whole ∙ sym (drop_all n xs short)

-- there are as many entries as notes
pub length-entries : (notes : List Note) (told : List PlaceTold) → length (entries_in notes told) ≡ length notes
length-entries [] told = refl
length-entries (x ∷ notes) [] = ap (λ n. suc n) (length-entries notes [])
length-entries (x ∷ notes) (t ∷ told) = ap (λ n. suc n) (length-entries notes told)
