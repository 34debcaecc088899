-- How far a history is merged.
use Rattle.std.proofs.Common.{◌≡◌, ℕ, zero, suc, ◌+◌, ◌-◌, ◌<◌, Bool, true, false, List, [], ◌∷◌, ◌++◌, length, get_or, set, take, drop, length-drop, eqb-true, refl, sym, ap, subst, arith, ◌∙◌}
use Rattle.std.specs.Prelude.{◌==◌, if◌then◌else◌}
use denote.Ref.{Bor}
use Rattle.pool_law.specs.declared.note.Did.{Did}
use Rattle.pool_law.specs.Logs.{History, numbered}
use Rattle.run_check.specs.declared.gathering.HistoryNote.{HistoryNote}
use Rattle.run_check.specs.declared.merging.Done.{Done}
use Rattle.run_check.specs.Merging.{dones_in}
use Rattle.run_check.specs.Gathering.{note_data, notes_data, left_of, AreNumbered, HasNext, IsStuck}
use Rattle.std.proofs.lemmas.List.{length-append, length-map, map-append, take_all}
use Rattle.std.proofs.lemmas.Bool.Decides.{nat_tests}
use Rattle.run_check.proofs.GatheringLemmas.{left-at}
use Rattle.run_check.proofs.MergeLemmas.{without_first, GoesOnWith, merge-found, merge-stuck, merge-push}

zero-next : (l : ℕ) → (0 == suc l) ≡ false
zero-next l = grind (arith, nat_tests)

next-zero : (l : ℕ) → (suc l == 0) ≡ false
next-zero l = grind (arith, nat_tests)

next-next : (a b : ℕ) → (suc a == suc b) ≡ (a == b)
next-next a b = grind (arith, nat_tests)

-- a lane has one note less
left-set : (left : List (Bor (List HistoryNote))) (lane : ℕ) (new : Bor (List HistoryNote)) → lane < length left → (l :
    ℕ) →
    left_of (set left lane new) l ≡ without_first lane (notes_data new.now) (left_of left) l
left-set [] lane new there l = absurd (omega (arith, there))
left-set (x ∷ left) zero new there zero = refl
left-set (x ∷ left) zero new there (suc l) =
    sym (ap (λ (b : Bool). if b then notes_data new.now else left_of left l) (zero-next l))
left-set (x ∷ left) (suc lane) new there zero =
    sym (ap (λ (b : Bool). if b then notes_data new.now else notes_data x.now) (next-zero lane))
left-set (x ∷ left) (suc lane) new there (suc l) =
    left-set left lane new (omega (arith, there)) l
    ∙ sym (ap (λ (b : Bool). if b then notes_data new.now else left_of left l) (next-next lane l))

-- whether a lane has a note
pub no-notes : (xs : List HistoryNote) → (length xs == 0) ≡ true → notes_data xs ≡ []
no-notes [] e = refl
no-notes (x ∷ xs) e = absurd (omega (arith, eqb-true (length (x ∷ xs)) 0 e))

pub some-notes : (xs : List HistoryNote) → (length xs == 0) ≡ false → notes_data xs ≡ [] → ⊥
some-notes [] e none = cc e
some-notes (x ∷ xs) e none = cc none

-- how many notes are left
abbrev pub left_total : List (Bor (List HistoryNote)) → ℕ
left_total [] = 0
left_total (x ∷ left) = length x.now + left_total left

pub left_total-set : (left : List (Bor (List HistoryNote))) (lane : ℕ) (notes new : Bor (List HistoryNote)) → lane <
    length left →
    notes ≡ get_or left lane notes → length new.now < length notes.now →
    left_total (set left lane new) < left_total left
left_total-set [] lane notes new there is less = absurd (omega (arith, there))
left_total-set (x ∷ left) zero notes new there is less =
    let same : length notes.now ≡ length x.now = ap (λ (s : Bor (List HistoryNote)). length s.now) is in
    omega (arith, same, less)
left_total-set (x ∷ left) (suc lane) notes new there is less =
    omega (arith, left_total-set left lane notes new (omega (arith, there)) is less)

-- a history is merged so far, and what is left goes on with this number
pub record SoFar (all left : ℕ → List (ℕ × Did)) (h : History) (number : ℕ) : Type 0 where
  pub numbers : number ≡ length h + 1
  pub so_far : (l : ℕ) → all l ≡ numbered l 1 h ++ left l
  pub going : (g : History) → AreNumbered 1 all g → (later : History) × AreNumbered number left later

pub so-far-none : (all : ℕ → List (ℕ × Did)) → SoFar all all [] 1
so-far-none all = record { numbers = refl; so_far = λ l. refl; going = λ g whole. (g, whole) }

so-far-more : (all left next : ℕ → List (ℕ × Did)) (h : History) (number lane : ℕ) (did : Did)
    (rest : List (ℕ × Did)) → SoFar all left h number → left lane ≡ (number, did) ∷ rest →
    ((l : ℕ) → next l ≡ without_first lane rest left l) → SoFar all next (h ++ (lane, did) ∷ []) (number + 1)
so-far-more all left next h number lane did rest s first is =
    let numbered_first : left lane ≡ (length h + 1, did) ∷ rest =
    first ∙ ap (λ (n : ℕ). (n, did) ∷ rest) s.numbers in
    record {
      numbers = omega (arith, s.numbers, length-append h ((lane, did) ∷ []));
      so_far = λ l.
          merge-push all left h lane did rest numbered_first s.so_far l
          ∙ ap (λ (xs : List (ℕ × Did)). numbered l 1 (h ++ (lane, did) ∷ []) ++ xs) (sym (is l));
      going = λ g whole.
          let on : (later : History) × AreNumbered number left later = s.going g whole in
          let found : GoesOnWith number lane did rest left on.0 =
          merge-found number lane did rest left on.0 first on.1 in
          (found.later, λ l. is l ∙ found.numbers l);
    }

pub so-far-stuck : (all left : ℕ → List (ℕ × Did)) (h : History) (number : ℕ) → SoFar all left h number →
    IsStuck number left → (((l : ℕ) → left l ≡ []) → ⊥) → (g : History) → AreNumbered 1 all g → ⊥
so-far-stuck all left h number s stuck some g whole =
    let on : (later : History) × AreNumbered number left later = s.going g whole in
    some (merge-stuck number left on.0 on.1 (λ lane did rest first.
    stuck lane (subst (λ (xs : List (ℕ × Did)). HasNext number xs) (sym first) refl)))

-- ---- One note further.

dones-pushed : (old new : List Done) (done : Done) → new ≡ old ++ done ∷ [] →
    dones_in new ≡ dones_in old ++ (done.lane, done.did.now) ∷ []
dones-pushed old new done is = ap dones_in is ∙ map-append (λ (d : Done). (d.lane, d.did.now)) old (done ∷ [])

shorter : (notes others : List HistoryNote) (first : HistoryNote) → notes_data notes ≡ note_data first ∷ notes_data
    others →
    length others < length notes
shorter notes others first is =
    let all : length (notes_data notes) ≡ suc (length (notes_data others)) = ap length is in
    omega (arith, all, length-map notes note_data, length-map others note_data)

-- the first note of the lane that has the number
first-numbered : (left : ℕ → List (ℕ × Did)) (lane number : ℕ) (notes others : List HistoryNote) (first : HistoryNote) →
    HasNext number (left lane) → left lane ≡ notes_data notes →
    notes_data notes ≡ note_data first ∷ notes_data others →
    left lane ≡ (number, first.did.now) ∷ notes_data others
first-numbered left lane number notes others first has mine is =
    let same : first.number ≡ number = subst (λ (xs : List (ℕ × Did)). HasNext number xs) (mine ∙ is) has in
    mine ∙ is ∙ ap (λ (n : ℕ). (n, first.did.now) ∷ notes_data others) same

pub none-first : (left : List (Bor (List HistoryNote))) (lane number : ℕ) (notes : Bor (List HistoryNote)) →
    HasNext number (left_of left lane) → lane < length left → notes ≡ get_or left lane notes →
    notes_data notes.now ≡ [] → ⊥
none-first left lane number notes has there mine none =
    subst (λ (xs : List (ℕ × Did)). HasNext number xs) (left-at left lane notes there mine ∙ none) has

-- the part of a list behind its first
pub part-is : (xs : List HistoryNote) → take (length xs - 1) (drop 1 xs) ≡ drop 1 xs
part-is xs = take_all (length xs - 1) (drop 1 xs) (omega (arith, length-drop 1 xs))

pub part-shorter : (notes : List HistoryNote) (first : HistoryNote) →
    notes_data notes ≡ note_data first ∷ notes_data (drop 1 notes) →
    length (take (length notes - 1) (drop 1 notes)) < length notes
part-shorter notes first is =
    let same : length (take (length notes - 1) (drop 1 notes)) ≡ length (drop 1 notes) = ap length (part-is notes) in
    omega (arith, same, shorter notes (drop 1 notes) first is)

-- the history with the first note of the lane that has the next number
-- behind one more the next number is one more than how many there are
pub numbered-next : (old pushed : List Done) (done : Done) (number count : ℕ) → number ≡ length (dones_in old) + 1 →
    pushed ≡ old ++ done ∷ [] → count ≡ length pushed → count + 1 ≡ number + 1
numbered-next old pushed done number count is push size =
    let many : length (dones_in old) ≡ length old = length-map old (λ (d : Done). (d.lane, d.did.now)) in
    let longer : length pushed ≡ length old + 1 = ap length push ∙ length-append old (done ∷ []) in
    omega (arith, is, many, longer, size)

pub so-far-next : (all : ℕ → List (ℕ × Did)) (left : List (Bor (List HistoryNote))) (lane number next : ℕ)
    (notes new : Bor (List HistoryNote)) (first : HistoryNote) (old pushed : List Done) (done : Done) →
    SoFar all (left_of left) (dones_in old) number → HasNext number (left_of left lane) → lane < length left →
    notes ≡ get_or left lane notes → notes_data notes.now ≡ note_data first ∷ notes_data (drop 1 notes.now) →
    new.now ≡ drop 1 notes.now → pushed ≡ old ++ done ∷ [] → done.lane ≡ lane → done.did.now ≡ first.did.now →
    next ≡ number + 1 → SoFar all (left_of (set left lane new)) (dones_in pushed) next
so-far-next all left lane number next notes new first old pushed done s has there is mine part push of did later =
    let here : left_of left lane ≡ notes_data notes.now = left-at left lane notes there is in
    let first_is : left_of left lane ≡ (number, first.did.now) ∷ notes_data (drop 1 notes.now) =
    first-numbered (left_of left) lane number notes.now (drop 1 notes.now) first has here mine in
    let more : SoFar all (left_of (set left lane new)) (dones_in old ++ (lane, first.did.now) ∷ []) (number + 1) =
    so-far-more all (left_of left) (left_of (set left lane new)) (dones_in old) number lane first.did.now
    (notes_data (drop 1 notes.now)) s first_is
    (λ l.
    left-set left lane new there l
    ∙ ap (λ (xs : List HistoryNote). without_first lane (notes_data xs) (left_of left) l) part) in
    let history : dones_in pushed ≡ dones_in old ++ (lane, first.did.now) ∷ [] =
    dones-pushed old pushed done push ∙ (λ i. dones_in old ++ (of i, did i) ∷ []) in
    subst (λ (h : History). SoFar all (left_of (set left lane new)) h next) (sym history)
    (subst
    (λ (n : ℕ). SoFar all (left_of (set left lane new)) (dones_in old ++ (lane, first.did.now) ∷ []) n)
    (sym later) more)
