-- What the slots of a history hold: of each number the first note that has it.
use Rattle.std.proofs.Common.{◌≡◌, ℕ, zero, suc, ◌+◌, ◌-◌, ◌<◌, ◌≤◌, set, Bool, true, false, ◌==◌, List, [], ◌∷◌, ◌++◌, length, map, drop, get_or, replicate, refl, sym, ap, ◌∙◌, arith, ne_eqb, append_assoc}
use Rattle.std.proofs.lemmas.List.{length-replicate, replicate-append-replicate, at_drop_more}
use Rattle.std.proofs.lemmas.Bool.Decides.{nat_tests}
use Rattle.std.specs.Prelude.{if◌then◌else◌, not, slice_get, Option, Some, None, option_map, unwrap_or}
use Rattle.std.specs.Option.{is_some}
use Rattle.pool_law.specs.declared.note.Did.{Did}
use Rattle.pool_law.specs.declared.note.Object.{Object}
use Rattle.pool_law.specs.declared.run.LaneLog.{LaneLog}
use Rattle.pool_law.specs.Arenas.{or_else}
use Rattle.pool_law.specs.Logs.{Logs, own, with_number, entry_at, notes_at, extended, history_from, history_of}
use Rattle.run_picture.specs.declared.history.Done.{Done}
use Rattle.run_picture.specs.Slots.{done_in, slots_in, Slots, put_at, put, entered, all_entered, present}

-- an entry at a number, if a test of the number holds
abbrev pub if_so : Bool → ℕ × Did → Option (ℕ × Did)
if_so b e = if b then Some e else None

or_else-none : {X : Type 0} (o : Option X) → or_else o None ≡ o
or_else-none None = refl
or_else-none (Some x) = refl

or_else-three : {X : Type 0} (a b c : Option X) → or_else (or_else a b) c ≡ or_else a (or_else b c)
or_else-three None b c = refl
or_else-three (Some x) b c = refl

pub length-put_at : (s : Slots) (k : ℕ) (e : ℕ × Did) → length (put_at s k e) ≡ length s
length-put_at [] k e = refl
length-put_at (o ∷ s) zero e = refl
length-put_at (o ∷ s) (suc k) e = ap (λ n. suc n) (length-put_at s k e)

pub length-put : (s : Slots) (n : ℕ) (e : ℕ × Did) → length (put s n e) ≡ length s
length-put s zero e = refl
length-put s (suc k) e = length-put_at s k e

pub length-entered : (lane : ℕ) (s : Slots) (xs : List (ℕ × Did)) → length (entered lane s xs) ≡ length s
length-entered lane s [] = refl
length-entered lane s (x ∷ xs) =
    length-entered lane (put s x.0 (lane, x.1)) xs ∙ length-put s x.0 (lane, x.1)

pub length-all : (object : Object) (lane : ℕ) (s : Slots) (logs : Logs) →
    length (all_entered object lane s logs) ≡ length s
length-all object lane s [] = refl
length-all object lane s (log ∷ logs) =
    length-all object (lane + 1) (entered lane s (own object log)) logs ∙ length-entered lane s (own object log)

-- an entry that is put into a slot stays behind one that is there
filled : (o : Option (ℕ × Did)) (e : ℕ × Did) → Some (unwrap_or o e) ≡ or_else o (Some e)
filled None e = refl
filled (Some y) e = refl

same_next : (j k : ℕ) → (j == k) ≡ (suc j == suc k)
same_next j k = grind (arith, nat_tests)

same_more : (j k : ℕ) → (j == k) ≡ (suc j == k + 1)
same_more j k = grind (arith, nat_tests)

-- what a slot holds after a note was put at a place
put_at-get : (s : Slots) (j k : ℕ) (e : ℕ × Did) (o : Option (ℕ × Did)) → slice_get s k ≡ Some o →
    slice_get (put_at s j e) k ≡ Some (or_else o (if_so (j == k) e))
put_at-get [] j k e o is = absurd (cc is)
put_at-get (x ∷ s) zero zero e o is =
    let same : x ≡ o = cc is in ap (λ y. Some (Some (unwrap_or y e))) same ∙ ap (λ y. Some y) (filled o e)
put_at-get (x ∷ s) zero (suc k) e o is =
    let other : (zero == suc k) ≡ false = ne_eqb zero (suc k) (λ same. omega (arith, same)) in
    is ∙ ap (λ y. Some y) (sym (or_else-none o)) ∙ ap (λ b. Some (or_else o (if_so b e))) (sym other)
put_at-get (x ∷ s) (suc j) zero e o is =
    let other : (suc j == zero) ≡ false = ne_eqb (suc j) zero (λ same. omega (arith, same)) in
    is ∙ ap (λ y. Some y) (sym (or_else-none o)) ∙ ap (λ b. Some (or_else o (if_so b e))) (sym other)
put_at-get (x ∷ s) (suc j) (suc k) e o is =
    put_at-get s j k e o is ∙ ap (λ b. Some (or_else o (if_so b e))) (same_next j k)

-- after a note of a number
put-get : (s : Slots) (n k : ℕ) (e : ℕ × Did) (o : Option (ℕ × Did)) → slice_get s k ≡ Some o →
    slice_get (put s n e) k ≡ Some (or_else o (if_so (n == k + 1) e))
put-get s zero k e o is =
    let other : (zero == k + 1) ≡ false = ne_eqb zero (k + 1) (λ same. omega (arith, same)) in
    is ∙ ap (λ y. Some y) (sym (or_else-none o)) ∙ ap (λ b. Some (or_else o (if_so b e))) (sym other)
put-get s (suc j) k e o is =
    put_at-get s j k e o is ∙ ap (λ b. Some (or_else o (if_so b e))) (same_more j k)

-- after the notes of a lane
entered-get : (lane : ℕ) (s : Slots) (xs : List (ℕ × Did)) (k : ℕ) (o : Option (ℕ × Did)) →
    slice_get s k ≡ Some o →
    slice_get (entered lane s xs) k
    ≡ Some (or_else o (option_map (λ d. (lane, d)) (with_number (k + 1) xs)))
entered-get lane s [] k o is = is ∙ ap (λ y. Some y) (sym (or_else-none o))
entered-get lane s (x ∷ xs) k o is =
    entered-get lane (put s x.0 (lane, x.1)) xs k (or_else o (if_so (x.0 == k + 1) (lane, x.1)))
    (put-get s x.0 k (lane, x.1) o is)
    ∙ ap (λ y. Some y)
    (or_else-three o (if_so (x.0 == k + 1) (lane, x.1)) (option_map (λ d. (lane, d)) (with_number (k + 1) xs))
    ∙ ap (λ y. or_else o y) (either (x.0 == k + 1)))
  where
    either : (b : Bool) →
        or_else (if_so b (lane, x.1)) (option_map (λ d. (lane, d)) (with_number (k + 1) xs))
        ≡ option_map (λ d. (lane, d)) (if b then Some x.1 else with_number (k + 1) xs)
    either true = refl
    either false = refl

-- after the notes of all lanes
all-get : (object : Object) (lane : ℕ) (s : Slots) (logs : Logs) (k : ℕ) (o : Option (ℕ × Did)) →
    slice_get s k ≡ Some o →
    slice_get (all_entered object lane s logs) k ≡ Some (or_else o (entry_at object (k + 1) lane logs))
all-get object lane s [] k o is = is ∙ ap (λ y. Some y) (sym (or_else-none o))
all-get object lane s (log ∷ logs) k o is =
    let here : Option (ℕ × Did) = option_map (λ d. (lane, d)) (with_number (k + 1) (own object log)) in
    all-get object (lane + 1) (entered lane s (own object log)) logs k (or_else o here)
    (entered-get lane s (own object log) k o is)
    ∙ ap (λ y. Some y) (or_else-three o here (entry_at object (k + 1) (lane + 1) logs))

-- slots that hold of each number its entry are the history
present-is : (object : Object) (logs : Logs) (s : Slots) (n : ℕ) →
    ((k : ℕ) → k < length s → slice_get s k ≡ Some (entry_at object (n + k) 0 logs)) →
    present s ≡ history_from object logs n (length s)
present-is object logs [] n each = refl
present-is object logs (x ∷ s) n each =
    ap (λ y. extended y (present s)) first
    ∙ ap (λ h. extended (entry_at object n 0 logs) h) (present-is object logs s (n + 1) later)
  where
    first : x ≡ entry_at object n 0 logs
    first =
        let at_zero : Some x ≡ Some (entry_at object (n + 0) 0 logs) = each 0 (omega arith) in
        let number : n + 0 ≡ n = omega arith in
        let got : x ≡ entry_at object (n + 0) 0 logs = cc at_zero in
        got ∙ ap (λ m. entry_at object m 0 logs) number

    later : (k : ℕ) → k < length s → slice_get s k ≡ Some (entry_at object (n + 1 + k) 0 logs)
    later k less =
        let number : n + suc k ≡ n + 1 + k = omega arith in
        each (suc k) (omega (arith, less)) ∙ ap (λ m. Some (entry_at object m 0 logs)) number

replicate-get : (n k : ℕ) → k < n → slice_get (replicate n (let o : Option (ℕ × Did) = None in o)) k ≡ Some None
replicate-get zero k less = absurd (omega (arith, less))
replicate-get (suc n) zero less = refl
replicate-get (suc n) (suc k) less = replicate-get n k (omega (arith, less))

-- empty slots for all notes, and the notes of all lanes put into them
pub history-is : (object : Object) (logs : Logs) →
    present (all_entered object 0 (replicate (notes_at object logs) None) logs) ≡ history_of object logs
history-is object logs =
    let count : ℕ = notes_at object logs in
    let s : Slots = all_entered object 0 (replicate count None) logs in
    let long : length s ≡ count = length-all object 0 (replicate count None) logs ∙ length-replicate count None in
    present-is object logs s 1 (each count s long refl)
    ∙ ap (λ n. history_from object logs 1 n) long
  where
    each : (count : ℕ) (s : Slots) → length s ≡ count → s ≡ all_entered object 0 (replicate count None) logs →
        (k : ℕ) → k < length s → slice_get s k ≡ Some (entry_at object (1 + k) 0 logs)
    each count s long same k less =
        let number : k + 1 ≡ 1 + k = omega arith in
        ap (λ t. slice_get t k) same
        ∙ all-get object 0 (replicate count None) logs k None (replicate-get count k (omega (arith, less, long)))
        ∙ ap (λ m. Some (entry_at object m 0 logs)) number

-- ---- Slots as the program has them.

-- the empty slots of one log more
pub slots-more : (object : Object) (logs : List LaneLog) (at : ℕ) (log : LaneLog) (old new : Slots) →
    at < length logs → log ≡ get_or logs at log → new ≡ old ++ replicate (length (own object log.notes)) None →
    new ++ replicate (notes_at object (map (λ x. x.notes) (drop (at + 1) logs))) None
    ≡ old ++ replicate (notes_at object (map (λ x. x.notes) (drop at logs))) None
slots-more object logs at log old new there is more =
    let empty : ℕ → Slots = λ n. replicate n None in
    let here : ℕ = length (own object log.notes) in
    let rest : List LaneLog = drop (at + 1) logs in
    let left : ℕ = notes_at object (map (λ x. x.notes) rest) in
    ap (λ (s : Slots). s ++ empty left) more
    ∙ append_assoc old (empty here) (empty left)
    ∙ ap (λ (s : Slots). old ++ s) (replicate-append-replicate here left None)
    ∙ ap (λ (l : LaneLog). old ++ empty (notes_at object (map (λ x. x.notes) (l ∷ rest)))) is
    ∙ sym (at_drop_more (λ (ls : List LaneLog). old ++ empty (notes_at object (map (λ x. x.notes) ls))) logs at log
    there)

pub put_at-empty : (slots : List (Option Done)) (k : ℕ) (d : Done) → slice_get slots k ≡ Some None →
    slots_in (set slots k (Some d)) ≡ put_at (slots_in slots) k (done_in d)
put_at-empty [] k d is = absurd (cc is)
put_at-empty (o ∷ slots) zero d is =
    let none : o ≡ None = cc is in
    ap (λ (x : Option (ℕ × Did)). x ∷ slots_in slots) (go o none)
  where
    go : (o : Option Done) → o ≡ None → Some (done_in d) ≡ Some (unwrap_or (option_map done_in o) (done_in d))
    go None is = refl
    go (Some x) is = absurd (cc is)
put_at-empty (o ∷ slots) (suc k) d is =
    ap (λ (s : Slots). option_map done_in o ∷ s) (put_at-empty slots k d is)

pub put_at-full : (slots : List (Option Done)) (k : ℕ) (x : Done) (e : ℕ × Did) → slice_get slots k ≡ Some (Some x) →
    slots_in slots ≡ put_at (slots_in slots) k e
put_at-full [] k x e is = absurd (cc is)
put_at-full (o ∷ slots) zero x e is =
    let some : o ≡ Some x = cc is in
    ap (λ (y : Option (ℕ × Did)). y ∷ slots_in slots) (go o some)
  where
    go : (o : Option Done) → o ≡ Some x → option_map done_in o ≡ Some (unwrap_or (option_map done_in o) e)
    go None is = absurd (cc is)
    go (Some y) is = refl
put_at-full (o ∷ slots) (suc k) x e is = ap (λ (s : Slots). option_map done_in o ∷ s) (put_at-full slots k x e is)

-- a slot that is free, or is held, by the answer of a test
pub put_at-free : (slots : List (Option Done)) (k : ℕ) (d : Done) (o : Option Done) (free : Bool) →
    slice_get slots k ≡ Some o → is_some o ≡ not free → free ≡ true →
    slots_in (set slots k (Some d)) ≡ put_at (slots_in slots) k (done_in d)
put_at-free slots k d None free there is good = put_at-empty slots k d there
put_at-free slots k d (Some x) free there is good =
    absurd (let both : true ≡ false = is ∙ ap (λ b. not b) good in cc both)

pub put_at-held : (slots : List (Option Done)) (k : ℕ) (e : ℕ × Did) (o : Option Done) (free : Bool) →
    slice_get slots k ≡ Some o → is_some o ≡ not free → free ≡ false →
    slots_in slots ≡ put_at (slots_in slots) k e
put_at-held slots k e (Some x) free there is bad = put_at-full slots k x e there
put_at-held slots k e None free there is bad =
    absurd (let both : false ≡ true = is ∙ ap (λ b. not b) bad in cc both)

pub put_at-past : (slots : List (Option Done)) (k : ℕ) (e : ℕ × Did) → length slots ≤ k →
    slots_in slots ≡ put_at (slots_in slots) k e
put_at-past [] k e past = refl
put_at-past (o ∷ slots) zero e past = absurd (omega (arith, past))
put_at-past (o ∷ slots) (suc k) e past =
    ap (λ (s : Slots). option_map done_in o ∷ s) (put_at-past slots k e (omega (arith, past)))
