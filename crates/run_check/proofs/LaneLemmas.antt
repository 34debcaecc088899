-- What holds of the log of each lane.
use Rattle.std.proofs.Common.{◌≡◌, ℕ, zero, suc, ◌+◌, ◌<◌, ◌≤◌, List, [], ◌∷◌, ◌++◌, length, map, get_or, take, ⊎_elim, refl, sym, ap, subst, arith, ◌∙◌}
use Rattle.std.specs.List.{AllZip}
use Rattle.std.proofs.lemmas.List.{length-map, take_more, take_all}
use Rattle.std.proofs.lemmas.Slice.Zip.{all_zipped_more}
use Rattle.std.proofs.lemmas.Bool.{cases_lt}
use Rattle.pool_law.specs.declared.note.Note.{Note}
use Rattle.pool_law.specs.declared.run.LaneLog.{LaneLog}
use Rattle.pool_law.specs.Logs.{Logs, of_lane, entry_of, entries_of}
use Rattle.pool_law.proofs.HistoryLemmas.{log-past}
use Rattle.run_check.specs.ByObject.{notes_in, replies_in}

pub notes-at : (logs : List LaneLog) (k : ℕ) (log : LaneLog) → k < length logs →
    log ≡ get_or logs k log → of_lane (notes_in logs) k ≡ log.notes
notes-at [] k log there is = absurd (omega (arith, there))
notes-at (x ∷ logs) zero log there is = ap (λ (l : LaneLog). l.notes) (sym is)
notes-at (x ∷ logs) (suc k) log there is = notes-at logs k log (omega (arith, there)) is

pub notes-get : (logs : List LaneLog) (k : ℕ) (d : LaneLog) → k < length logs →
    of_lane (notes_in logs) k ≡ (get_or logs k d).notes
notes-get [] k d there = absurd (omega (arith, there))
notes-get (x ∷ logs) zero d there = refl
notes-get (x ∷ logs) (suc k) d there = notes-get logs k d (omega (arith, there))

pub replies-get : (logs : List LaneLog) (k : ℕ) (d : LaneLog) → k < length logs →
    of_lane (replies_in logs) k ≡ (get_or logs k d).replies
replies-get [] k d there = absurd (omega (arith, there))
replies-get (x ∷ logs) zero d there = refl
replies-get (x ∷ logs) (suc k) d there = replies-get logs k d (omega (arith, there))

pub notes-past : (logs : List LaneLog) (k : ℕ) → length logs ≤ k → of_lane (notes_in logs) k ≡ []
notes-past [] k past = refl
notes-past (x ∷ logs) zero past = absurd (omega (arith, past))
notes-past (x ∷ logs) (suc k) past = notes-past logs k (omega (arith, past))

-- what holds of each lane that is there, and of an empty log, holds of all lanes
pub each-lane : {X : Type 0} (P : ℕ → List X → Type 0) (logs : List (List X)) (n : ℕ) →
    ((k : ℕ) → k < n → P k (of_lane logs k)) → length logs ≤ n → ((k : ℕ) → P k []) →
    (k : ℕ) → P k (of_lane logs k)
each-lane {X = X} P logs n there all none k =
    ⊎_elim
    (λ inside. there k inside)
    (λ past. subst (λ (xs : List X). P k xs) (sym (log-past logs k (omega (arith, past, all)))) (none k))
    (cases_lt k n)

pub each-notes : (P : ℕ → List Note → Type 0) (logs : List LaneLog) (n : ℕ) →
    ((k : ℕ) → k < n → P k (of_lane (notes_in logs) k)) → length logs ≤ n → ((k : ℕ) → P k []) →
    (k : ℕ) → P k (of_lane (notes_in logs) k)
each-notes P logs n there all none k =
    ⊎_elim
    (λ inside. there k inside)
    (λ past. subst (λ (xs : List Note). P k xs) (sym (notes-past logs k (omega (arith, past, all)))) (none k))
    (cases_lt k n)

-- two lists that go together, one item further
pub zip-push : {A B : Type 0} (R : A → B → Type 0) (xs new : List A) (ys : List B) (i : ℕ) (x : A) (y : B) →
    AllZip R xs (take i ys) → new ≡ xs ++ x ∷ [] → i < length ys → y ≡ get_or ys i y → R x y →
    AllZip R new (take (i + 1) ys)
zip-push R xs new ys i x y all is there here more =
    let front : take (i + 1) ys ≡ take i ys ++ y ∷ [] =
    take_more ys i y there ∙ ap (λ z. take i ys ++ z ∷ []) (sym here) in
    subst (λ zs. AllZip R zs (take (i + 1) ys)) (sym is)
    (subst (λ zs. AllZip R (xs ++ x ∷ []) zs) (sym front) (all_zipped_more R xs (take i ys) x y all more))

pub zip-all : {A B : Type 0} (R : A → B → Type 0) (xs : List A) (ys : List B) (i : ℕ) → AllZip R xs (take i ys) →
    length ys ≤ i → AllZip R xs ys
zip-all R xs ys i all past = subst (λ zs. AllZip R xs zs) (take_all i ys past) all

pub length-entries : (logs : List LaneLog) → length (entries_of (notes_in logs)) ≡ length logs
length-entries logs =
    length-map (notes_in logs) (map (entry_of (notes_in logs))) ∙ length-map logs (λ (l : LaneLog). l.notes)

pub entries-lane : (logs : Logs) (k : ℕ) → of_lane (entries_of logs) k ≡ map (entry_of logs) (of_lane logs k)
entries-lane logs k = go logs k
  where
    go : (rest : Logs) (i : ℕ) → of_lane (map (map (entry_of logs)) rest) i ≡ map (entry_of logs) (of_lane rest i)
    go [] i = refl
    go (log ∷ rest) zero = refl
    go (log ∷ rest) (suc i) = go rest i
