-- The report of live roots, by what the program keeps, is the law's.
use Rattle.std.proofs.Common.{◌≡◌, ℕ, zero, suc, ◌+◌, ◌-◌, ◌<◌, ◌≤◌, Bool, true, false, List, [], ◌∷◌, ◌++◌, length, get_or, take, drop, append_assoc, refl, sym, ap, arith, ◌∙◌}
use Rattle.std.proofs.lemmas.List.{take_more_same}
use Rattle.std.proofs.lemmas.Bool.Decides.{nat_tests}
use Rattle.pool_law.specs.declared.note.Did.TheVariants.{Birth}
use Rattle.pool_law.specs.declared.report.Access.{Access}
use Rattle.run_check.specs.declared.merging.Done.{Done}
use Rattle.std.specs.Prelude.{◌==◌, ◌&&◌, not, if◌then◌else◌}
use Rattle.std.specs.List.{AllZip}
use Rattle.pool_law.specs.declared.id.RootId.{RootId}
use Rattle.pool_law.specs.declared.note.Object.TheVariants.{Root}
use Rattle.pool_law.specs.declared.note.Note.{Note}
use Rattle.pool_law.specs.declared.note.Note.TheVariants.{At, Ref, Busy}
use Rattle.pool_law.specs.declared.report.Leak.{Leak}
use Rattle.pool_law.specs.declared.run.LaneLog.{LaneLog}
use Rattle.pool_law.specs.declared.run.Shape.{Shape}
use Rattle.pool_law.specs.Logs.{dids, history_of, entry_of, entries_of, present_in}
use Rattle.pool_law.specs.Histories.{place_after}
use Rattle.pool_law.specs.Counts.{total_of}
use Rattle.pool_law.specs.Leaks.{births, is_live, is_sampled, keeps_records, accesses, kept_of, dropped_of, capacity_in, leak_of, lane_leaks, leaks_from}
use Rattle.pool_law.proofs.HistoryLemmas.{history_of-is}
use Rattle.pool_law.proofs.LogLemmas.{entry-note}
use Rattle.run_check.specs.declared.histories.Histories.{Histories}
use Rattle.run_check.specs.declared.tally.Totals.{Totals}
use Rattle.run_check.specs.declared.tally.Tally.{Tally}
use Rattle.run_check.specs.ByObject.{notes_in}
use Rattle.run_check.specs.Storing.{history_in, AreHistories}
use Rattle.run_check.specs.Tallying.{total_sums, IsTally}
use Rattle.run_check.specs.Reporting.{access_by, accesses_in, kept_by, dropped_by, capacity_by, leak_by, one_leak, leaks_by, leaks_in, all_leaks}
use Rattle.run_check.proofs.TallyLemmas.{totals-counted}

module _ (shape : Shape) (logs : List LaneLog) (m : Histories) (tallies : List Tally)
    (are : AreHistories shape (notes_in logs) m) (sums : AllZip IsTally tallies logs) where
  total-is : (root : RootId) →
      (1 + (total_sums tallies root).retains) - (total_sums tallies root).releases
      ≡ total_of root (entries_of (notes_in logs))
  total-is root =
      ap (λ (s : Totals). (1 + s.retains) - s.releases)
      (totals-counted (entry_of (notes_in logs)) (entry-note (notes_in logs)) root tallies logs sums)

  history-is : (place : ℕ) → history_in m (Root place) ≡ history_of (Root place) (notes_in logs)
  history-is place =
      sym (history_of-is (Root place) (notes_in logs) (history_in m (Root place)) (are.whole (Root place) refl))

  one-is : (lane serial : ℕ) (root : RootId) →
      one_leak shape m tallies lane serial root
      ≡ (if is_live (notes_in logs) root && is_sampled shape.level shape.interval serial
      then leak_of shape.level (notes_in logs) lane serial root ∷ []
      else [])
  one-is lane serial root =
      λ i.
      if not (total-is root i == 0) && is_sampled shape.level shape.interval serial
      then record {
        lane = lane;
        serial = serial;
        capacity =
            capacity_in root (present_in (place_after root.place (dids (history-is root.place i))));
        count = total-is root i;
        records =
            (if keeps_records shape.level then kept_of (accesses root false (history-is root.place i)) else []);
        dropped =
            (if keeps_records shape.level then dropped_of (accesses root false (history-is root.place i)) else
            0);
      } ∷ []
      else []

  lane-is : (lane serial : ℕ) (roots : List RootId) →
      leaks_by shape m tallies lane serial roots ≡ lane_leaks shape (notes_in logs) lane serial roots
  lane-is lane serial [] = refl
  lane-is lane serial (root ∷ roots) = λ i. one-is lane serial root i ++ lane-is lane (serial + 1) roots i

  pub leaks-are : (lane : ℕ) (rest : List LaneLog) →
      all_leaks shape m tallies lane rest ≡ leaks_from shape (notes_in logs) lane (notes_in rest)
  leaks-are lane [] = refl
  leaks-are lane (log ∷ rest) = λ i. lane-is lane 1 (births log.notes) i ++ leaks-are (lane + 1) rest i

-- ---- What is reported, one note further.

-- a note lets one root be born at the most
pub one-birth : (n : Note) → length (births (n ∷ [])) ≤ 1
one-birth (At object number (Birth root region)) = omega arith
one-birth (At object number _) = omega arith
one-birth (Ref root did) = omega arith
one-birth (Busy held) = omega arith

births-front : (n : Note) (ns : List Note) → births (n ∷ ns) ≡ births (n ∷ []) ++ births ns
births-front (At object number (Birth root region)) ns = refl
births-front (At object number _) ns = refl
births-front (Ref root did) ns = refl
births-front (Busy held) ns = refl

module _ (shape : Shape) (m : Histories) (tallies : List Tally) (lane : ℕ) where
  leaks-append : (serial : ℕ) (xs ys : List RootId) →
      leaks_by shape m tallies lane serial (xs ++ ys)
      ≡ leaks_by shape m tallies lane serial xs ++ leaks_by shape m tallies lane (serial + length xs) ys
  leaks-append serial [] ys =
      let same : serial ≡ serial + 0 = omega arith in ap (λ (k : ℕ). leaks_by shape m tallies lane k ys) same
  leaks-append serial (x ∷ xs) ys =
      let one : List Leak = one_leak shape m tallies lane serial x in
      let front : List Leak = leaks_by shape m tallies lane (serial + 1) xs in
      let same : serial + 1 + length xs ≡ serial + suc (length xs) = omega arith in
      ap (λ (r : List Leak). one ++ r) (leaks-append (serial + 1) xs ys)
      ∙ sym (append_assoc one front (leaks_by shape m tallies lane (serial + 1 + length xs) ys))
      ∙ ap (λ (k : ℕ). (one ++ front) ++ leaks_by shape m tallies lane k ys) same

  pub leaks-front : (serial : ℕ) (n : Note) (ns : List Note) →
      leaks_in shape m tallies lane serial (n ∷ ns)
      ≡ leaks_in shape m tallies lane serial (n ∷ [])
      ++ leaks_in shape m tallies lane (serial + length (births (n ∷ []))) ns
  leaks-front serial n ns =
      ap (λ (roots : List RootId). leaks_by shape m tallies lane serial roots) (births-front n ns)
      ∙ leaks-append serial (births (n ∷ [])) (births ns)

-- ---- What is reported of one root.

not-zero : (n : ℕ) → (n ≡ 0 → ⊥) → not (n == 0) ≡ true
not-zero n some = grind (arith, nat_tests)

-- what is reported of a root with these sums
abbrev leak-with : Shape → Histories → ℕ → ℕ → RootId → Totals → Leak
leak-with shape m lane serial root sums =
    leak_by shape.level lane serial (capacity_by m root) sums
    (accesses root false (history_in m (Root root.place)))

-- what is reported of a root that is live and sampled
pub one-leak-is : (shape : Shape) (m : Histories) (tallies : List Tally) (lane serial : ℕ) (root : RootId)
    (sums : Totals) → sums ≡ total_sums tallies root → ((1 + sums.retains) - sums.releases ≡ 0 → ⊥) →
    is_sampled shape.level shape.interval serial ≡ true →
    one_leak shape m tallies lane serial root
    ≡ leak_by shape.level lane serial (capacity_by m root) sums
    (accesses root false (history_in m (Root root.place))) ∷ []
one-leak-is shape m tallies lane serial root sums is live sampled =
    let leak : Leak = leak-with shape m lane serial root sums in
    ap
    (λ (s : Totals). if not ((1 + s.retains) - s.releases == 0) && is_sampled shape.level shape.interval serial
    then leak-with shape m lane serial root s ∷ []
    else [])
    (sym is)
    ∙ ap (λ (b : Bool). if b && is_sampled shape.level shape.interval serial then leak ∷ [] else [])
    (not-zero ((1 + sums.retains) - sums.releases) live)
    ∙ ap (λ (b : Bool). if true && b then leak ∷ [] else []) sampled

-- ---- The records of accesses.

pub length-accesses : (dones : List Done) → length (accesses_in dones) ≡ length dones
length-accesses [] = refl
length-accesses (d ∷ dones) = ap suc (length-accesses dones)

pub access-at : (dones : List Done) (k : ℕ) (d : Access) (done : Done) → k < length dones → done ≡ get_or dones k done →
    get_or (accesses_in dones) k d ≡ access_by (done.lane, done.did.now)
access-at [] k d done there is = absurd (omega (arith, there))
access-at (x ∷ dones) zero d done there is = ap (λ (y : Done). access_by (y.lane, y.did.now)) (sym is)
access-at (x ∷ dones) (suc k) d done there is = access-at dones k d done (omega (arith, there)) is

module _ (records : List Access) (dones : List Done) (k : ℕ) (d : Access) (done : Done)
    (as_many : length records ≡ length dones) (within : k < length records) (is : done ≡ get_or dones k done) where
  there : k < length dones
  there = omega (arith, as_many, within)

  pub record-more : take k records ≡ take k (accesses_in dones)
      → get_or records k d ≡ access_by (done.lane, done.did.now) →
      take (k + 1) records ≡ take (k + 1) (accesses_in dones)
  record-more before here =
      take_more_same records (accesses_in dones) k d within (omega (arith, there, length-accesses dones)) before
      (here ∙ sym (access-at dones k d done there is))

  pub record-at : records ≡ accesses_in dones → get_or records k d ≡ access_by (done.lane, done.did.now)
  record-at all = ap (λ (xs : List Access). get_or xs k d) all ∙ access-at dones k d done there is

drop-accesses : (n : ℕ) (dones : List Done) → accesses_in (drop n dones) ≡ drop n (accesses_in dones)
drop-accesses zero dones = refl
drop-accesses (suc n) [] = refl
drop-accesses (suc n) (d ∷ dones) = drop-accesses n dones

-- the last accesses are kept, and the others are not
pub last-kept : (keeps : Bool) (dones : List Done) (n : ℕ) → keeps ≡ true → n ≡ length dones - 4 →
    accesses_in (drop n dones) ≡ kept_by keeps (accesses_in dones)
last-kept keeps dones n kept is =
    let same : n ≡ length (accesses_in dones) - 4 = omega (arith, is, length-accesses dones) in
    drop-accesses n dones
    ∙ ap (λ (k : ℕ). drop k (accesses_in dones)) same
    ∙ ap (λ (b : Bool). kept_by b (accesses_in dones)) (sym kept)

pub last-dropped : (keeps : Bool) (dones : List Done) (n : ℕ) → keeps ≡ true → n ≡ length dones - 4 →
    n ≡ dropped_by keeps (accesses_in dones)
last-dropped keeps dones n kept is =
    let same : n ≡ length (accesses_in dones) - 4 = omega (arith, is, length-accesses dones) in
    same ∙ ap (λ (b : Bool). dropped_by b (accesses_in dones)) (sym kept)
