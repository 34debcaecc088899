-- The histories of all objects, whole in the parts of all lanes.
use Rattle.step_law.specs.Settings.{Setting}
use Rattle.std.proofs.Common.{◌≡◌, ◌⊎◌, ℕ, zero, suc, ◌+◌, ◌-◌, ◌<◌, ◌≤◌, List, [], ◌∷◌, length, map, Bool, true, false, cond, sym, refl, ap, ◌∙◌, subst, arith, inl, inr, ⊎_elim, ne_eqb, eqb-true, Some}
use Rattle.std.specs.Prelude.{◌&&◌, Option, option_map, All, IsTrue, sum_by, count_by, slice_get}
use Rattle.std.specs.List.{list_all}
use Rattle.std.proofs.lemmas.Option.{slice_get-map, slice_get_within, get_or_from_slice_get}
use Rattle.std.proofs.lemmas.List.Elements.{All-head, All-tail}
use Rattle.std.proofs.lemmas.List.Sums.{sum_by-cons}
use mathlib.Core.Logic.{dite}
use native.Mathlib.Decide.{ℕ_discrete}
use Rattle.pool_law.specs.declared.run.Shape.{Shape}
use Rattle.pool_law.specs.declared.note.Did.{Did}
use Rattle.pool_law.specs.declared.note.Note.{Note}
use Rattle.pool_law.specs.declared.note.Noted.{Noted}
use Rattle.pool_law.specs.declared.note.Object.{Object}
use Rattle.pool_law.specs.declared.note.Object.TheVariants.{Arena, Cache, Bin, Mail, Root}
use Rattle.pool_law.specs.Homes.{home_of, IsObjectOf}
use Rattle.pool_law.specs.Histories.{IsAccepted}
use Rattle.pool_law.specs.NotedHistories.{noted_dids}
use Rattle.pool_law.specs.Logs.{History, dids, of_lane, own, IsHistory, history_of, has_history, note_stands}
use Rattle.pool_law.specs.Mails.{MailsHold}
use Rattle.pool_law.specs.Legal.{HistoriesHold}
use Rattle.pool_law.proofs.HistoryLemmas.{history_of-is}
use Rattle.pool_law.proofs.ListLemmas.{map-get}
pub use Rattle.pool_law.proofs.ListLemmas.{map-get as in_map}
use Rattle.pool_table.specs.declared.views.Entry.{Entry}
use Rattle.pool_table.specs.declared.views.Entry.TheVariants.{At, Ref, Busy}
use Rattle.pool_table.specs.declared.views.Layout.{Layout}
use Rattle.pool_table.specs.declared.views.Part.{Part}
use Rattle.pool_table.specs.declared.views.SeatView.{SeatView}
use Rattle.pool_table.specs.Views.{parts_of, is_lane, is_numbered, object_part, object_view, in_object_view}
use Rattle.pool_table.specs.Sound.{Tells, IsTold, Stands}
use Rattle.pool_table.specs.Closed.{IsClosed}
use Rattle.shared_pool.specs.Closing.{AreLanes, logs_in}
use Rattle.shared_pool.proofs.ClosingNumbers.{lawful, AllLaned, none_numbered}
use Rattle.shared_pool.proofs.ClosingHistories.{object_or, notes_in, own_none, its_history, part_numbered}

-- ---- Lists.

-- what holds of each holds of one
pub at : {X : Type 0} (P : X → Type 0) (xs : List X) (i : ℕ) (x : X) → All P xs → slice_get xs i ≡ Some x → P x
at P xs i x all is = subst P (get_or_from_slice_get xs i x x is) (all i x (slice_get_within xs i x is))

pub there_or : {X : Type 0} (xs : List X) (i : ℕ) → ((x : X) × (slice_get xs i ≡ Some x)) ⊎ (length xs ≤ i)
there_or [] i = inr (omega arith)
there_or (x ∷ xs) zero = inl (x, refl)
there_or (x ∷ xs) (suc i) =
    ⊎_elim (λ t. inl t) (λ (le : length xs ≤ i). inr
    (let n : ℕ = length xs in let le' : n ≤ i = le in let g : suc n ≤ suc i = omega (arith, le') in g))
    (there_or xs i)

counted : {X : Type 0} (test : X → Bool) (xs : List X) → 0 < count_by test xs
    → (i : ℕ) × (x : X) × (slice_get xs i ≡ Some x) × (test x ≡ true)
counted test [] lt = absurd (omega (arith, lt))
counted {X = X} test (x ∷ xs) lt = by (test x) refl (λ more. counted test xs more)
  where
    by : (b : Bool) → test x ≡ b → (0 < count_by test xs
        → (i : ℕ) × (y : X) × (slice_get xs i ≡ Some y) × (test y ≡ true))
        → (i : ℕ) × (y : X) × (slice_get (x ∷ xs) i ≡ Some y) × (test y ≡ true)
    by true e rest = (zero, x, refl, e)
    by false e rest =
        let a = sum_by-cons (λ (y : X). cond {A = ℕ} (test y) 1 0) x xs in let b =
        ap (λ (t : Bool). cond {A = ℕ} t 1 0) e in
        let r = rest (omega (arith, a, b, lt)) in (suc r.0, r.1, r.2, r.3)

pub in_parts : (test : Entry → Bool) (ps : List Part) → 0 < sum_by (λ (p : Part). count_by test p.notes) ps →
    (i : ℕ) × (p : Part) × (slice_get ps i ≡ Some p) × (j : ℕ) × (e : Entry) × (slice_get p.notes j ≡ Some e)
    × (test e ≡ true)
in_parts test [] lt = absurd (omega (arith, lt))
in_parts test (p ∷ ps) lt = dite (ℕ_discrete (count_by test p.notes) 0)
    (λ z. let a = sum_by-cons (λ (q : Part). count_by test q.notes) p ps in
    let r = in_parts test ps (omega (arith, a, z, lt)) in (suc r.0, r.1, r.2, r.3, r.4, r.5, r.6))
    (λ ne. let r = counted test p.notes (omega (arith, ne)) in (zero, p, refl, r.0, r.1, r.2, r.3))

-- the log of a lane that has a part, and of one that has none
pub log_at : (ps : List Part) (lane : ℕ) (p : Part) → slice_get ps lane ≡ Some p
    → of_lane (logs_in ps) lane ≡ notes_in p.notes
log_at [] lane p is = absurd (cc is)
log_at (q ∷ ps) zero p is = let same : q ≡ p = cc is in ap (λ (x : Part). notes_in x.notes) same
log_at (q ∷ ps) (suc lane) p is = log_at ps lane p is

pub log_past : (ps : List Part) (lane : ℕ) → length ps ≤ lane → of_lane (logs_in ps) lane ≡ []
log_past [] lane le = refl
log_past (q ∷ ps) zero le =
    absurd (let n : ℕ = length ps in let le' : suc n ≤ 0 = le in let g : ⊥ = omega (arith, le') in g)
log_past (q ∷ ps) (suc lane) le =
    log_past ps lane (let n : ℕ = length ps in let le' : suc n ≤ suc lane = le in let g : n ≤ lane =
    omega (arith, le') in g)

-- ---- Histories.

dids_lawful : (h : List Noted) → dids (lawful h) ≡ noted_dids h
dids_lawful [] = refl
dids_lawful (n ∷ h) = ap (λ (ds : List Did). n.did ∷ ds) (dids_lawful h)

none_accepted : (s : Shape) (o : Object) → IsTrue (has_history o) → IsAccepted s o []
none_accepted s (Arena a) has = refl
none_accepted s (Cache l c) has = refl
none_accepted s (Bin l) has = refl
none_accepted s (Mail f t) has = absurd (cc has)
none_accepted s (Root p) has = refl

all_stand : (s : Shape) (lane : ℕ) (es : List Entry) → All (Stands s (Some lane)) es
    → IsTrue (list_all (note_stands s lane) (notes_in es))
all_stand s lane [] all = refl
all_stand s lane (At o k n ∷ es) all =
    let st = All-head (Stands s (Some lane)) (At o k n) es all in let ih =
    all_stand s lane es (All-tail (Stands s (Some lane)) (At o k n) es all) in
    λ i. st.lane_may i && ih i
all_stand s lane (Ref r d ∷ es) all = all_stand s lane es (All-tail (Stands s (Some lane)) (Ref r d) es all)
all_stand s lane (Busy b ∷ es) all =
    let st = All-head (Stands s (Some lane)) (Busy b) es all in let ih =
    all_stand s lane es (All-tail (Stands s (Some lane)) (Busy b) es all) in
    let has = its_history s b.object st.0 in
    λ i. has i && ih i

laned : (h : List Noted) → ((k : ℕ) (n : Noted) → slice_get h k ≡ Some n → (i : ℕ) × (n.lane ≡ Some i)) → AllLaned h
laned [] each = tt
laned (n ∷ h) each = (each 0 n refl, laned h (λ k m is. each (suc k) m is))

-- the number of a note that passes the test
at_number : (o : Object) (h : List Noted) (limit : ℕ) (lane : Option ℕ) (k : ℕ) (e : Entry)
    → is_numbered (k + 1) e ≡ true → Tells o h limit lane e →
    (n : Noted) → slice_get h k ≡ Some n → n.lane ≡ lane
at_number o h limit lane k (At p j m) e t n is =
    let same : j ≡ k + 1 = eqb-true j (k + 1) e in
    let place : j - 1 ≡ k = omega (arith, same) in
    let two : Some m ≡ Some n = sym t.1 ∙ (ap (λ (x : ℕ). slice_get h x) place ∙ is) in
    let one : m ≡ n = cc two in subst (λ (x : Noted). x.lane ≡ lane) one t.2
at_number o h limit lane k (Ref r d) e t n is = absurd (cc e)
at_number o h limit lane k (Busy b) e t n is = absurd (cc e)

module _ {H : Type 0} (stands : List ℕ → Setting → List Noted → H → Type 0) (l : Layout) (v : SeatView)
    (homes : List (Option H)) (words : List ℕ)
    (closed : IsClosed stands l v homes words) (lanes : AreLanes l.shape (parts_of v)) where
  -- the entries of a part may stand in its lane
  pub stands_at : (lane : ℕ) (p : Part) → slice_get (parts_of v) lane ≡ Some p → All (Stands l.shape p.number) p.notes
  stands_at lane p is =
      at (λ (q : Part). All (Stands l.shape q.number) q.notes) (parts_of v) lane p closed.view.notes is

  module _ (o : Object) (fits : IsObjectOf l.shape o) where
    abbrev pub history : List Noted
    history = (closed.objects o fits).history

    abbrev pub here : Part → Part
    here p = object_part l.shape (home_of l.shape o) p

    pub told_at : (lane : ℕ) (p : Part) → slice_get (parts_of v) lane ≡ Some p
        → IsTold o history (length history) (here p)
    told_at lane p is =
        at (IsTold o history (length history)) (map here (parts_of v)) lane (here p) (closed.objects o fits).told
        (slice_get-map here (parts_of v) lane ∙ ap (λ (x : Option Part). option_map here x) is)

    -- where a note of the history stands
    pub record Stood (k : ℕ) (n : Noted) : Type 0 where
      pub lane : ℕ
      pub part : Part
      pub there : slice_get (parts_of v) lane ≡ Some part
      pub index : ℕ
      pub entry : Entry
      pub stood : slice_get (here part).notes index ≡ Some entry
      pub number : is_numbered (k + 1) entry ≡ true
      pub lane_is : n.lane ≡ Some lane

    pub note_there : (k : ℕ) (n : Noted) → slice_get history k ≡ Some n → Stood k n
    note_there k n is =
        let lt = slice_get_within history k n is in
        let once = (closed.objects o fits).once k lt in
        let r = in_parts (is_numbered (k + 1)) (map here (parts_of v))
        (let m : ℕ = in_object_view (is_numbered (k + 1)) (object_view l.shape (home_of l.shape o) v) in let e : m
        ≡ 1 = once in let g : 0 < m = omega (arith, e) in g) in
        let q = map-get here (parts_of v) r.0 r.1 r.2 in
        let t = told_at r.0 q.0 q.1 in
        let there : slice_get (here q.0).notes r.3
        ≡ Some r.4 = subst (λ (x : Part). slice_get x.notes r.3 ≡ Some r.4) (sym q.2) r.5 in
        let tells = at (Tells o history (length history) q.0.number) (here q.0).notes r.3 r.4 t.told there in record {
          lane = r.0;
          part = q.0;
          there = q.1;
          index = r.3;
          entry = r.4;
          stood = there;
          number = r.6;
          lane_is = at_number o history (length history) q.0.number k r.4 r.6 tells n is ∙ lanes.numbers r.0 q.0 q.1;
        }

    -- each note is of a lane that has a part
    pub lane_there : (k : ℕ) (n : Noted) → slice_get history k ≡ Some n
        → (i : ℕ) × (n.lane ≡ Some i) × (i < length (parts_of v))
    lane_there k n is =
        let s = note_there k n is in (s.lane, s.lane_is, slice_get_within (parts_of v) s.lane s.part s.there)

    pub all_laned : AllLaned history
    all_laned = laned history (λ k n is. let t = lane_there k n is in (t.0, t.1))

    -- the logs have this history
    pub whole_at : IsHistory o (logs_in (parts_of v)) (lawful history)
    whole_at lane = ⊎_elim
        (λ (t : (p : Part) × (slice_get (parts_of v) lane ≡ Some p)).
        ap (λ (x : List Note). own o x) (log_at (parts_of v) lane t.0 t.1)
        ∙ part_numbered l.shape o history (length history) lane t.0 fits (lanes.numbers lane t.0 t.1)
        (stands_at lane t.0 t.1) (told_at lane t.0 t.1) all_laned)
        (λ (past : length (parts_of v) ≤ lane).
        ap (λ (x : List Note). own o x) (log_past (parts_of v) lane past)
        ∙ sym (none_numbered lane 1 history all_laned (λ k n is. let t = lane_there k n is in
        let a : t.0 < length (parts_of v) = t.2 in
        ap (λ (x : Option ℕ). is_lane lane x) t.1 ∙ ne_eqb t.0 lane
        (λ e. let m : ℕ = length (parts_of v) in let a' : t.0 < m = a in let b : m ≤ lane = past in
        omega (arith, a', b, e)))))
        (there_or (parts_of v) lane)

    pub history_at : history_of o (logs_in (parts_of v)) ≡ lawful history
    history_at = history_of-is o (logs_in (parts_of v)) (lawful history) whole_at

    pub dids_at : dids (history_of o (logs_in (parts_of v))) ≡ noted_dids history
    dids_at = ap dids history_at ∙ dids_lawful history

  -- an object that isn't one of the shape has none
  whole_none : (o : Object) → IsTrue (has_history o) → (IsObjectOf l.shape o → ⊥)
      → IsHistory o (logs_in (parts_of v)) []
  whole_none o has none lane = ⊎_elim
      (λ (t : (p : Part) × (slice_get (parts_of v) lane ≡ Some p)). ap (λ (x : List Note). own o x)
      (log_at (parts_of v) lane t.0 t.1) ∙ own_none l.shape t.0.number o has none t.0.notes (stands_at lane t.0 t.1))
      (λ (past : length (parts_of v) ≤ lane). ap (λ (x : List Note). own o x) (log_past (parts_of v) lane past))
      (there_or (parts_of v) lane)

  pub histories_hold : MailsHold (logs_in (parts_of v)) → HistoriesHold l.shape (logs_in (parts_of v))
  histories_hold mails = record {
    whole = λ o has. ⊎_elim
        (λ (fits : IsObjectOf l.shape o). subst (IsHistory o (logs_in (parts_of v))) (sym (history_at o fits))
        (whole_at o fits))
        (λ (none : IsObjectOf l.shape o → ⊥). subst (IsHistory o (logs_in (parts_of v)))
        (sym (history_of-is o (logs_in (parts_of v)) [] (whole_none o has none))) (whole_none o has none))
        (object_or l.shape o);
    accepted = λ o has. ⊎_elim
        (λ (fits : IsObjectOf l.shape o). subst (IsAccepted l.shape o) (sym (dids_at o fits))
        (closed.objects o fits).accepted.accepted)
        (λ (none : IsObjectOf l.shape o → ⊥). subst (λ (h : History). IsAccepted l.shape o (dids h))
        (sym (history_of-is o (logs_in (parts_of v)) [] (whole_none o has none))) (none_accepted l.shape o has))
        (object_or l.shape o);
    mails = mails;
    stand = λ lane. ⊎_elim
        (λ (t : (p : Part) × (slice_get (parts_of v) lane ≡ Some p)).
        subst (λ (x : List Note). IsTrue (list_all (note_stands l.shape lane) x))
        (sym (log_at (parts_of v) lane t.0 t.1))
        (all_stand l.shape lane t.0.notes
        (subst (λ (n : Option ℕ). All (Stands l.shape n) t.0.notes) (lanes.numbers lane t.0 t.1)
        (stands_at lane t.0 t.1))))
        (λ (past : length (parts_of v) ≤ lane). subst
        (λ (x : List Note). IsTrue (list_all (note_stands l.shape lane) x)) (sym (log_past (parts_of v) lane past))
        refl)
        (there_or (parts_of v) lane);
  }
