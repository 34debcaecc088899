-- At each moment the counts of a root are those of the lanes and of the parcels in the mails.
use Rattle.std.proofs.Common.{◌≡◌, ℕ, ◌+◌, ◌-◌, ◌≤◌, Bool, List, [], ◌∷◌, ◌++◌, length, map, refl, sym, ap, subst, arith, ◌∙◌}
use Rattle.std.specs.Prelude.{if◌then◌else◌}
use Rattle.std.proofs.lemmas.List.{map-append}
use Rattle.pool_law.specs.declared.id.RootId.{RootId}
use Rattle.pool_law.specs.declared.note.Note.{Note}
use Rattle.pool_law.specs.declared.run.Run.{Run}
use Rattle.pool_law.specs.Logs.{Logs, ToldNote, of_lane, entry_of, entries_of}
use Rattle.pool_law.specs.Counts.{note_gains, note_loses, count_step, count_from, CountsHold, count_over, is_born, is_retain, is_release}
use Rattle.pool_law.specs.Legal.{IsLegal, logs_of}
use Rattle.pool_law.proofs.LogLemmas.{entry-note}
use Rattle.run_laws.specs.CountLaw.{is_posted, is_fetched, counts_of}
use Rattle.run_laws.specs.Parcels.{unfetched}
use Rattle.run_laws.proofs.CountSums.{each-lane, sums}
use Rattle.run_laws.proofs.LogEntries.{entries-at}
use Rattle.run_laws.proofs.ParcelLaw.{count-notes, posted-left}
use Rattle.run_laws.proofs.RunLaws.{logs-length, posts-are_near}
use Rattle.run_order.specs.Order.{Step, notes_by, made, Leave, InOneOrder}
use Rattle.order_laws.specs.Shares.{front, FrontsAreShared}
use Rattle.order_laws.proofs.MailMoments.{log-is}
use Rattle.order_laws.proofs.FrontLogs.{made-front, lanes-below, front-length, front-lane, front-stands, front-mails, front-within}

-- a count is of the notes alone, whichever logs their entries are made with
count-alike : (a b : Logs) (root : RootId) (k : ℕ) (ns : List Note)
    → count_from root k (map (entry_of a) ns) ≡ count_from root k (map (entry_of b) ns)
count-alike a b root k [] = refl
count-alike a b root k (n ∷ ns) =
    ap (λ j. count_from root j (map (entry_of a) ns)) step
    ∙ count-alike a b root (count_step root k (entry_of b n)) ns
  where
    step : count_step root k (entry_of a n) ≡ count_step root k (entry_of b n)
    step =
        ap (λ m. if note_gains root m then k + 1 else if note_loses root m then k - 1 else k)
        (entry-note a n ∙ sym (entry-note b n))

-- and so are all lanes' counts
counts-alike : (a b : Logs) (root : RootId) (logs : Logs)
    → counts_of root (map (map (entry_of a)) logs) ≡ counts_of root (map (map (entry_of b)) logs)
counts-alike a b root [] = refl
counts-alike a b root (log ∷ logs) = omega (arith, count-alike a b root 0 log, counts-alike a b root logs)

-- counts that hold in a log hold in each front of it
counts-front : (root : RootId) (k : ℕ) (es fs : List ToldNote) → CountsHold root k (es ++ fs) → CountsHold root k es
counts-front root k [] fs h = tt
counts-front root k (e ∷ es) fs h = (h.0, (h.1.0, counts-front root (count_step root k e) es fs h.1.1))

module _ (run : Run) (legal : IsLegal run) (o : InOneOrder (logs_of run)) (before after : List Step)
    (is : o.steps ≡ before ++ after) where
  abbrev logs : Logs
  logs = logs_of run

  abbrev lanes : ℕ
  lanes = run.shape.lanes

  few : length logs ≤ lanes
  few = omega (arith, logs-length run legal)

  -- the logs of the front, and their entries as the whole logs make them
  abbrev fronts : Logs
  fronts = front lanes before

  abbrev entries : List (List ToldNote)
  entries = map (map (entry_of logs)) fronts

  -- a lane's count holds after its part of the front
  front-counts : (root : RootId) (lane : ℕ) → CountsHold root 0 (of_lane entries lane)
  front-counts root lane =
      subst (CountsHold root 0)
      (sym (entries-at logs fronts lane
      ∙ ap (map (entry_of logs)) (front-lane run.shape logs legal.histories o lanes few before after is lane)))
      (counts-front root 0 (map (entry_of logs) (notes_by lane before)) (map (entry_of logs) (notes_by lane after))
      (subst (CountsHold root 0)
      (entries-at logs logs lane
      ∙ ap (map (entry_of logs)) (log-is run.shape logs legal.histories o before after is lane)
      ∙ map-append (entry_of logs) (notes_by lane before) (notes_by lane after))
      (legal.counts.lanes root lane)))

  -- what the lanes noted is what was made
  made-in : (test : Note → Bool) → count_over test entries ≡ made test before
  made-in test =
      count-notes logs test fronts
      ∙ made-front test lanes before (lanes-below run.shape logs legal.histories o lanes few before after is)

  -- an entry passes as its note does
  noted-in : (test : Note → Bool) → count_over test (entries_of fronts) ≡ count_over test entries
  noted-in test = count-notes fronts test fronts ∙ sym (count-notes logs test fronts)

  -- the counts of a root that the front leaves are the lanes' and the parcels'
  pub leaves-shared : (root : RootId)
      → Leave before root (counts_of root (entries_of fronts) + unfetched fronts root lanes)
  leaves-shared root =
      omega (
        arith,
        sums root entries (each-lane root entries (front-counts root)),
        counts-alike fronts logs root fronts,
        made-in (is_born root),
        made-in (is_retain root),
        made-in (is_release root),
        noted-in (is_posted root),
        noted-in (is_fetched root),
        posted-left run.shape fronts (front-stands run.shape logs legal.histories o lanes few before after is)
            (front-mails run.shape logs legal.histories o lanes few before after is) root lanes
            (omega (arith, front-length run.shape logs legal.histories o lanes few before after is))
            (front-within run.shape logs legal.histories o lanes few before after is (posts-are_near run legal)),
      )

-- so it is after each front
pub fronts-are_shared : (run : Run) → IsLegal run → (o : InOneOrder (logs_of run)) → FrontsAreShared run o
fronts-are_shared run legal o before after is root = leaves-shared run legal o before after is root
