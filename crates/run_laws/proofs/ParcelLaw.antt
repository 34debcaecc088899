-- What was posted and not fetched is in the mails at the end.
use Rattle.std.proofs.Common.{inl, inr, ◌≡◌, ℕ, zero, suc, ◌+◌, ◌≤◌, List, [], ◌∷◌, length, take, drop, take-append-drop, refl, sym, ap, arith, Bool, true, Some, ◌∙◌, eqb-true}
use Rattle.std.specs.Prelude.{◌⊎◌, ◌<◌, ◌==◌, ◌&&◌, if◌then◌else◌, map, slice_get}
use Rattle.std.specs.List.{list_all}
use Rattle.size_classes.specs.Sizes.{below}
use Rattle.pool_law.specs.declared.id.RootId.{RootId}
use Rattle.pool_law.specs.declared.id.Parcel.{Parcel}
use Rattle.pool_law.specs.declared.note.Object.{Object}
use Rattle.pool_law.specs.declared.note.Did.{Did}
use Rattle.pool_law.specs.declared.note.Did.TheVariants.{Post, Fetch}
use Rattle.pool_law.specs.declared.note.Note.{Note}
use Rattle.pool_law.specs.declared.note.Note.TheVariants.{At, Ref, Busy}
use Rattle.pool_law.specs.declared.run.Shape.{Shape}
use Rattle.pool_law.specs.Logs.{Logs, of_lane, entry_of, entries_of, note_stands}
use Rattle.pool_law.specs.Mails.{posted, fetched, MailsHold}
use Rattle.pool_law.specs.Legal.{CountsAgree}
use Rattle.pool_law.specs.Counts.{count_in, count_over, is_birth}
use Rattle.run_laws.specs.CountLaw.{is_posted, is_fetched}
use Rattle.run_laws.specs.Parcels.{parcels_of, unfetched_of, sum_up, unfetched, PostsWithin, TotalIsShared}
use Rattle.run_laws.proofs.LogEntries.{lane-there}
use Rattle.run_laws.proofs.CountSums.{total-is_counted}
use Rattle.pool_law.proofs.HistoryLemmas.{over_lanes, over-same, over-add}
use Rattle.run_laws.proofs.Sums.{sum_by, sum_over, sum-found, over-at, over-alike, over-single, over-many, none-if}
use Rattle.run_laws.proofs.Numbered.{plain, at_object}
use Rattle.run_laws.proofs.Totals.{over_lanes-none}
use Rattle.pool_law.proofs.PatternLemmas.{same_object-refl}
use Rattle.pool_law.proofs.LogLemmas.{entry-note}
use Rattle.run_laws.proofs.MailParcels.{one, posts, fetches, parcels-append, posts-sum, fetches-sum, IsMail, AtMail, at-mail, others-post, others-fetch, sum_up-over, pick-mail}
use Rattle.run_laws.proofs.Placed.{all-at}

abbrev pub note_weight : (Did → ℕ) → Note → ℕ
note_weight f (At o k d) = f d
note_weight f (Ref r did) = 0
note_weight f (Busy held) = 0

-- how many entries of all logs pass a test, by their notes
pub count-notes : (logs : Logs) (test : Note → Bool) (rest : Logs)
    → count_over test (map (map (entry_of logs)) rest) ≡ sum_over (λ x. one (test x)) rest
count-notes logs test [] = refl
count-notes logs test (log ∷ rest) = omega (arith, in_log log, count-notes logs test rest)
  where
    in_log : (log : List Note) → count_in test (map (entry_of logs) log) ≡ sum_by (λ x. one (test x)) log
    in_log [] = refl
    in_log (x ∷ log) = omega (arith, ap (λ y. one (test y)) (entry-note logs x), in_log log)

module _ (shape : Shape) (logs : Logs)
    (stand : (lane : ℕ) → list_all (note_stands shape lane) (of_lane logs lane) ≡ true) (hold : MailsHold logs)
    (root : RootId) (n : ℕ) (few : length logs ≤ n) (within : PostsWithin logs n) where
  -- a mail that is used lies between the lanes
  posted-inside : (lane i k from to : ℕ) (p : Parcel)
      → slice_get (of_lane logs lane) i ≡ Some (At (Object.Mail from to) k (Post p)) → (from < n) × (to < n)
  posted-inside lane i k from to p is =
      let stands : (lane == from) ≡ true = all-at (note_stands shape lane) (of_lane logs lane) i
      (At (Object.Mail from to) k (Post p)) (stand lane) is in (
        omega (arith, few, lane-there logs lane i (At (Object.Mail from to) k (Post p)) is, eqb-true lane from stands),
        within from to p (record { lane = lane; at = i; number = k; stands = is }),
      )

  -- what was posted to a mail, and what was fetched from it, with a view of the root
  abbrev sent : ℕ → ℕ → ℕ
  sent from to = parcels_of root (posted (Object.Mail from to) (of_lane logs from))

  abbrev got : ℕ → ℕ → ℕ
  got from to = parcels_of root (fetched (Object.Mail from to) (of_lane logs to))

  posts-total : (from to : ℕ) → sum_over (at_object (Object.Mail from to) (plain (posts root))) logs ≡ sent from to
  posts-total from to =
      over-single (at_object (Object.Mail from to) (plain (posts root))) logs from
      (λ lane differ. others-post shape root lane from to (of_lane logs lane) (stand lane) differ)
      ∙ posts-sum root (Object.Mail from to) (of_lane logs from)

  fetches-total : (from to : ℕ) → sum_over (at_object (Object.Mail from to) (plain (fetches root))) logs ≡ got from to
  fetches-total from to =
      over-single (at_object (Object.Mail from to) (plain (fetches root))) logs to
      (λ lane differ. others-fetch shape root lane from to (of_lane logs lane) (stand lane) differ)
      ∙ fetches-sum root (Object.Mail from to) (of_lane logs to)

  -- in one mail: what was posted was fetched, or is there
  mail-even : (from to : ℕ) → sent from to ≡ got from to + unfetched_of logs root from to
  mail-even from to =
      let ps : List (ℕ × Parcel) = posted (Object.Mail from to) (of_lane logs from) in
      let m : ℕ = length (fetched (Object.Mail from to) (of_lane logs to)) in
      omega (
        arith,
        ap (parcels_of root) (take-append-drop m ps),
        parcels-append root (take m ps) (drop m ps),
        ap (parcels_of root) (hold from to).in_order,
      )

  mail-inside : (lane i k from to : ℕ) (d : Did) → slice_get (of_lane logs lane) i ≡ Some (At (Object.Mail from to) k d)
      → 1 ≤ posts root d + fetches root d → (from < n) × (to < n)
  mail-inside lane i k from to (Post p) is some = posted-inside lane i k from to p is
  mail-inside lane i k from to (Fetch p) is some =
      let stands : (lane == to) ≡ true = all-at (note_stands shape lane) (of_lane logs lane) i
      (At (Object.Mail from to) k (Fetch p)) (stand lane) is in
      let weight : at_object (Object.Mail from to) (plain (fetches root)) (At (Object.Mail from to) k (Fetch p))
      ≡ fetches root (Fetch p) =
      ap (λ b. if b then fetches root (Fetch p) else 0) (same_object-refl (Object.Mail from to)) in
      let some_sent : 1 ≤ sum_by (at_object (Object.Mail from to) (plain (posts root))) (of_lane logs from) =
      omega (
        arith,
        some,
        weight,
        over-at (at_object (Object.Mail from to) (plain (fetches root))) logs lane i
            (At (Object.Mail from to) k (Fetch p)) is,
        fetches-total from to,
        mail-even from to,
        posts-sum root (Object.Mail from to) (of_lane logs from),
      ) in
      let f = sum-found (at_object (Object.Mail from to) (plain (posts root))) (of_lane logs from) some_sent in (
        omega (arith, few, lane-there logs from f.0 f.1 f.2),
        omega (arith, few, lane-there logs lane i (At (Object.Mail from to) k (Fetch p)) is, eqb-true lane to stands),
      )
  mail-inside lane i k from to _ is some = absurd (omega (arith, some))

  abbrev pub Mails : (Did → ℕ) → Note → ℕ
  Mails f x = over_lanes 0 n (λ from. over_lanes 0 n (λ to. at_object (Object.Mail from to) (plain f) x))

  none-inside : over_lanes 0 n (λ from. over_lanes 0 n (λ to. 0)) ≡ 0
  none-inside =
      over-same 0 n (λ from. over_lanes 0 n (λ to. 0)) (λ from. 0) (λ from. over_lanes-none 0 n) ∙ over_lanes-none 0 n

  -- a note with a weight stands in one mail
  at-mails : (f : Did → ℕ) (o : Object) (k : ℕ) (d : Did) (w : ℕ) → f d ≡ w → (w ≡ 0 → ⊥) ⊎ (w ≡ 0)
      → ((w ≡ 0 → ⊥) → IsMail o) → ((from to : ℕ) → o ≡ Object.Mail from to → (w ≡ 0 → ⊥) → (from < n) × (to < n))
      → f d ≡ Mails f (At o k d)
  at-mails f (Object.Mail from to) k d w is (inl some) mail inside =
      sym (pick-mail n from to (f d) (inside from to refl some).0 (inside from to refl some).1)
  at-mails f (Object.Mail from to) k d w is (inr none) mail inside =
      let zero_is : f d ≡ 0 = is ∙ none in
      zero_is ∙ sym (ap (λ v. over_lanes 0 n (λ a. over_lanes 0 n (λ b. if (a == from) && (b == to) then v else 0)))
      zero_is ∙ alike)
    where
      alike : over_lanes 0 n (λ a. over_lanes 0 n (λ b. if (a == from) && (b == to) then 0 else 0)) ≡ 0
      alike =
          over-same 0 n (λ a. over_lanes 0 n (λ b. if (a == from) && (b == to) then 0 else 0))
          (λ a. over_lanes 0 n (λ b. 0))
          (λ a. over-same 0 n (λ b. if (a == from) && (b == to) then 0 else 0) (λ b. 0)
          (λ b. none-if ((a == from) && (b == to)))) ∙ none-inside
  at-mails f (Object.Arena a) k d w is (inl some) mail inside = absurd (mail some)
  at-mails f (Object.Arena a) k d w is (inr none) mail inside = is ∙ none ∙ sym none-inside
  at-mails f (Object.Cache a b) k d w is (inl some) mail inside = absurd (mail some)
  at-mails f (Object.Cache a b) k d w is (inr none) mail inside = is ∙ none ∙ sym none-inside
  at-mails f (Object.Bin a) k d w is (inl some) mail inside = absurd (mail some)
  at-mails f (Object.Bin a) k d w is (inr none) mail inside = is ∙ none ∙ sym none-inside
  at-mails f (Object.Root a) k d w is (inl some) mail inside = absurd (mail some)
  at-mails f (Object.Root a) k d w is (inr none) mail inside = is ∙ none ∙ sym none-inside

  some-or : (w : ℕ) → (w ≡ 0 → ⊥) ⊎ (w ≡ 0)
  some-or zero = inr refl
  some-or (suc w) = inl (λ e. omega (arith, e))

  note-mail : (lane i k : ℕ) (o : Object) (d : Did) → slice_get (of_lane logs lane) i ≡ Some (At o k d) → AtMail o d
  note-mail lane i k o d is =
      at-mail shape lane o d (all-at (note_stands shape lane) (of_lane logs lane) i (At o k d) (stand lane) is)

  posts-mail : (o : Object) (d : Did) → AtMail o d → (posts root d ≡ 0 → ⊥) → IsMail o
  posts-mail o (Post p) m some = m
  posts-mail o _ m some = absurd (some refl)

  fetches-mail : (o : Object) (d : Did) → AtMail o d → (fetches root d ≡ 0 → ⊥) → IsMail o
  fetches-mail o (Fetch p) m some = m
  fetches-mail o _ m some = absurd (some refl)

  positive : (w : ℕ) → (w ≡ 0 → ⊥) → 1 ≤ w
  positive zero h = absurd (h refl)
  positive (suc w) h = omega arith

  posted-note : (x : Note) → one (is_posted root x) ≡ note_weight (posts root) x
  posted-note (At o k (Post p)) = refl
  posted-note (At o k _) = refl
  posted-note (Ref r did) = refl
  posted-note (Busy held) = refl

  fetched-note : (x : Note) → one (is_fetched root x) ≡ note_weight (fetches root) x
  fetched-note (At o k (Fetch p)) = refl
  fetched-note (At o k _) = refl
  fetched-note (Ref r did) = refl
  fetched-note (Busy held) = refl

  post-weight : (lane i : ℕ) (x : Note) → slice_get (of_lane logs lane) i ≡ Some x
      → one (is_posted root x) ≡ Mails (posts root) x
  post-weight lane i (At o k d) is =
      posted-note (At o k d)
      ∙ at-mails (posts root) o k d (posts root d) refl (some-or (posts root d))
      (posts-mail o d (note-mail lane i k o d is))
      (λ from to here some. mail-inside lane i k from to d (is ∙ ap (λ y. Some (At y k d)) here)
      (omega (arith, positive (posts root d) some)))
  post-weight lane i (Ref r did) is = sym none-inside
  post-weight lane i (Busy held) is = sym none-inside

  fetch-weight : (lane i : ℕ) (x : Note) → slice_get (of_lane logs lane) i ≡ Some x
      → one (is_fetched root x) ≡ Mails (fetches root) x
  fetch-weight lane i (At o k d) is =
      fetched-note (At o k d)
      ∙ at-mails (fetches root) o k d (fetches root d) refl (some-or (fetches root d))
      (fetches-mail o d (note-mail lane i k o d is))
      (λ from to here some. mail-inside lane i k from to d (is ∙ ap (λ y. Some (At y k d)) here)
      (omega (arith, positive (fetches root d) some)))
  fetch-weight lane i (Ref r did) is = sym none-inside
  fetch-weight lane i (Busy held) is = sym none-inside

  mails-total : (f : Did → ℕ) (total : ℕ → ℕ → ℕ)
      → ((from to : ℕ) → sum_over (at_object (Object.Mail from to) (plain f)) logs ≡ total from to)
      → sum_over (Mails f) logs ≡ over_lanes 0 n (λ from. over_lanes 0 n (total from))
  mails-total f total are =
      over-many (λ from x. over_lanes 0 n (λ to. at_object (Object.Mail from to) (plain f) x)) logs 0 n
      ∙ over-same 0 n (λ from. sum_over (λ x. over_lanes 0 n (λ to. at_object (Object.Mail from to) (plain f) x)) logs)
      (λ from. over_lanes 0 n (total from))
      (λ from. over-many (λ to x. at_object (Object.Mail from to) (plain f) x) logs 0 n
      ∙ over-same 0 n (λ to. sum_over (at_object (Object.Mail from to) (plain f)) logs) (total from) (are from))

  pub posted-left : count_over (is_posted root) (entries_of logs)
      ≡ count_over (is_fetched root) (entries_of logs) + unfetched logs root n
  posted-left =
      let p : count_over (is_posted root) (entries_of logs) ≡ over_lanes 0 n (λ from. over_lanes 0 n (sent from)) =
      count-notes logs (is_posted root) logs ∙ over-alike (λ x. one (is_posted root x)) (Mails (posts root)) logs
      post-weight
      ∙ mails-total (posts root) sent posts-total in
      let f : count_over (is_fetched root) (entries_of logs) ≡ over_lanes 0 n (λ from. over_lanes 0 n (got from)) =
      count-notes logs (is_fetched root) logs ∙ over-alike (λ x. one (is_fetched root x)) (Mails (fetches root)) logs
      fetch-weight ∙ mails-total (fetches root) got fetches-total in
      let u : unfetched logs root n ≡ over_lanes 0 n (λ from. over_lanes 0 n (unfetched_of logs root from)) =
      sum_up-over n (λ from. sum_up (below n) (unfetched_of logs root from))
      ∙ over-same 0 n (λ from. sum_up (below n) (unfetched_of logs root from))
      (λ from. over_lanes 0 n (unfetched_of logs root from))
      (λ from. sum_up-over n (unfetched_of logs root from)) in
      let both : over_lanes 0 n (λ from. over_lanes 0 n (sent from))
      ≡ over_lanes 0 n (λ from. over_lanes 0 n (got from))
      + over_lanes 0 n (λ from. over_lanes 0 n (unfetched_of logs root from)) =
      over-same 0 n (λ from. over_lanes 0 n (sent from))
      (λ from. over_lanes 0 n (got from) + over_lanes 0 n (unfetched_of logs root from))
      (λ from. over-same 0 n (sent from) (λ to. got from to + unfetched_of logs root from to) (mail-even from)
      ∙ over-add 0 n (got from) (unfetched_of logs root from))
      ∙ over-add 0 n (λ from. over_lanes 0 n (got from)) (λ from. over_lanes 0 n (unfetched_of logs root from)) in
      omega (arith, p, f, u, both)

  pub total-shared : CountsAgree (entries_of logs) → 0 < count_over (is_birth root) (entries_of logs)
      → TotalIsShared logs n root
  total-shared counts born =
      omega (
        arith,
        total-is_counted root (entries_of logs) (λ lane. counts.lanes root lane) (counts.totals root born),
        posted-left,
      )
