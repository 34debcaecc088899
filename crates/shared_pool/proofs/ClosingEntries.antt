-- What the entries of the parts know is what the histories of root places give.
use Rattle.step_law.specs.Settings.{Setting}
use Rattle.std.proofs.Common.{◌≡◌, ℕ, zero, suc, ◌-◌, List, [], ◌∷◌, ◌++◌, length, map, take, Bool, true, false, cond, sym, refl, ap, ◌∙◌, subst, eq-eqb, Some, append_assoc}
use Rattle.std.specs.Prelude.{Option, All, IsTrue, filter, slice_get}
use Rattle.std.proofs.lemmas.Option.{slice_get-get_or}
use Rattle.std.proofs.lemmas.List.Elements.{All-head, All-tail}
use Rattle.pool_law.specs.declared.note.Did.{Did}
use Rattle.pool_law.specs.declared.note.Note.{Note}
use Rattle.pool_law.specs.declared.note.Noted.{Noted}
use Rattle.pool_law.specs.declared.note.Object.{Object}
use Rattle.pool_law.specs.declared.note.Object.TheVariants.{Arena, Cache, Bin, Mail, Root}
use Rattle.pool_law.specs.Homes.{home_of, IsObjectOf}
use Rattle.pool_law.specs.Histories.{place_after}
use Rattle.pool_law.specs.NotedHistories.{noted_dids, IsRightAt}
use Rattle.pool_law.specs.Logs.{ToldNote, dids, has_history, history_of, entry_of as law_entry_of, entries_of, present_in, root_for, region_for}
use Rattle.history_laws.specs.Histories.{AreRight}
use Rattle.pool_table.specs.declared.views.Entry.{Entry}
use Rattle.pool_table.specs.declared.views.Entry.TheVariants.{At, Ref, Busy}
use Rattle.pool_table.specs.declared.views.Layout.{Layout}
use Rattle.pool_table.specs.declared.views.Part.{Part}
use Rattle.pool_table.specs.declared.views.SeatView.{SeatView}
use Rattle.pool_table.specs.Views.{parts_of, is_about}
use Rattle.pool_table.specs.Sound.{Tells, NoteStands, Stands}
use Rattle.pool_table.specs.Closed.{IsClosed}
use Rattle.shared_pool.specs.Closing.{AreLanes, note_of, entry_of, logs_in, entries_in}
use Rattle.shared_pool.proofs.ClosingHistories.{notes_in, with_history}
use Rattle.shared_pool.proofs.ClosingWhole.{at, told_at, stands_at, dids_at}

-- what holds of each by its index holds of each
pub from_at : {X : Type 0} (P : X → Type 0) (xs : List X) → ((i : ℕ) (x : X) → slice_get xs i ≡ Some x → P x) → All P xs
from_at P xs each k d lt = each k _ (slice_get-get_or xs k d lt)

-- what passes a test stands in the filtered list
pub in_filter : {X : Type 0} (test : X → Bool) (xs : List X) (i : ℕ) (x : X) → slice_get xs i ≡ Some x → test x ≡ true
    → (j : ℕ) × (slice_get (filter test xs) j ≡ Some x)
in_filter test [] i x is t = absurd (cc is)
in_filter test (y ∷ xs) zero x is t =
    let same : y ≡ x = cc is in
    (0, ap (λ (b : Bool). slice_get (cond b (y ∷ filter test xs) (filter test xs)) 0) (ap test same ∙ t) ∙ is)
in_filter {X = X} test (y ∷ xs) (suc i) x is t = by (test y) (in_filter test xs i x is t)
  where
    by : (b : Bool) → (j : ℕ) × (slice_get (filter test xs) j ≡ Some x)
        → (j : ℕ) × (slice_get (cond b (y ∷ filter test xs) (filter test xs)) j ≡ Some x)
    by true r = (suc r.0, r.1)
    by false r = r

right_from : (o : Object) (before h : List Noted) → AreRight o before h → (k : ℕ) (n : Noted) → slice_get h k ≡ Some n
    → IsRightAt o (before ++ take k h) n
right_from o before [] right k n is = absurd (cc is)
right_from o before (m ∷ h) right zero n is =
    let same : m ≡ n = cc is in let nil : before ≡ before ++ [] = sym (append-nil before) in
    subst (λ (x : List Noted × Noted). IsRightAt o x.0 x.1) (λ i. (nil i, same i)) right.0
  where
    append-nil : (xs : List Noted) → xs ++ [] ≡ xs
    append-nil [] = refl
    append-nil (x ∷ xs) = ap (λ (t : List Noted). x ∷ t) (append-nil xs)
right_from o before (m ∷ h) right (suc k) n is =
    subst (λ (x : List Noted). IsRightAt o x n) (append_assoc before (m ∷ []) (take k h))
    (right_from o (before ++ m ∷ []) h right.1 k n is)

dids_take : (k : ℕ) (h : List Noted) → take k (noted_dids h) ≡ noted_dids (take k h)
dids_take zero h = refl
dids_take (suc k) [] = refl
dids_take (suc k) (n ∷ h) = ap (λ (ds : List Did). n.did ∷ ds) (dids_take k h)

mapped : (g : Note → ToldNote) (ps : List Part) → All
    (λ (p : Part). All (λ (e : Entry). g (note_of e) ≡ entry_of e) p.notes) ps
    → map (map g) (logs_in ps) ≡ entries_in ps
mapped g [] all = refl
mapped g (p ∷ ps) all =
    let P : Part → Type 0 = λ (q : Part). All (λ (e : Entry). g (note_of e) ≡ entry_of e) q.notes in
    let a = notes p.notes (All-head P p ps all) in let b = mapped g ps (All-tail P p ps all) in λ i. a i ∷ b i
  where
    notes : (es : List Entry) → All (λ (e : Entry). g (note_of e) ≡ entry_of e) es
        → map g (notes_in es) ≡ map entry_of es
    notes [] all = refl
    notes (e ∷ es) all =
        let P : Entry → Type 0 = λ (e : Entry). g (note_of e) ≡ entry_of e in
        let a = All-head P e es all in let b = notes es (All-tail P e es all) in λ i. a i ∷ b i

module _ {H : Type 0} (stands : List ℕ → Setting → List Noted → H → Type 0) (l : Layout) (v : SeatView)
    (homes : List (Option H)) (words : List ℕ)
    (closed : IsClosed stands l v homes words) (lanes : AreLanes l.shape (parts_of v)) where
  abbrev pub History : (o : Object) → IsObjectOf l.shape o → List Noted
  History o fits = (closed.objects o fits).history

  -- a note of a part at an object with a history is that of the history
  pub told_note : (lane : ℕ) (p : Part) → slice_get (parts_of v) lane ≡ Some p
      → (j : ℕ) (o : Object) (k : ℕ) (n : Noted) → slice_get p.notes j ≡ Some (At o k n) → IsTrue (has_history o)
      → (fits : IsObjectOf l.shape o) × Tells o (History o fits) (length (History o fits)) p.number (At o k n)
  told_note lane p there j o k n is has =
      let st = at (Stands l.shape p.number) p.notes j (At o k n)
      (stands_at stands l v homes words closed lanes lane p there) is in
      let fits : IsObjectOf l.shape o = with_history l.shape o has st.object in
      let t = told_at stands l v homes words closed lanes o fits lane p there in
      let f = in_filter (is_about l.shape (home_of l.shape o)) p.notes j (At o k n) is
      (eq-eqb (home_of l.shape o) (home_of l.shape o) refl) in (
        fits,
        at (Tells o (History o fits) (length (History o fits)) p.number)
            (filter (is_about l.shape (home_of l.shape o)) p.notes) f.0 (At o k n) t.told f.1,
      )

  knows : (lane : ℕ) (p : Part) → slice_get (parts_of v) lane ≡ Some p → (j : ℕ) (e : Entry)
      → slice_get p.notes j ≡ Some e → law_entry_of (logs_in (parts_of v)) (note_of e) ≡ entry_of e
  knows lane p there j (At o k n) is =
      by o is
      (at (Stands l.shape p.number) p.notes j (At o k n)
      (stands_at stands l v homes words closed lanes lane p there) is)
    where
      right_at : (o : Object) → slice_get p.notes j ≡ Some (At o k n) → IsTrue (has_history o)
          → (fits : IsObjectOf l.shape o) × IsRightAt o (take (k - 1) (History o fits)) n
      right_at o is has = let t = told_note lane p there j o k n is has in (
        t.0,
        right_from o [] (History o t.0) (closed.objects o t.0).accepted.right (k - 1) n t.1.1,
      )

      by : (o : Object) → slice_get p.notes j ≡ Some (At o k n) → NoteStands l.shape p.number o n
          → law_entry_of (logs_in (parts_of v)) (note_of (At o k n)) ≡ entry_of (At o k n)
      by (Arena a) is st = let right = (right_at (Arena a) is refl).1 in
          λ i. record { note = Note.At (Arena a) k n.did; root = sym right.0 i; region = sym right.1 i }
      by (Cache d c) is st = let right = (right_at (Cache d c) is refl).1 in
          λ i. record { note = Note.At (Cache d c) k n.did; root = sym right.0 i; region = sym right.1 i }
      by (Bin d) is st = let right = (right_at (Bin d) is refl).1 in
          λ i. record { note = Note.At (Bin d) k n.did; root = sym right.0 i; region = sym right.1 i }
      by (Mail f u) is st =
          λ i. record { note = Note.At (Mail f u) k n.did; root = sym st.plain.0 i; region = sym st.plain.1 i }
      by (Root place) is st =
          let r = right_at (Root place) is refl in let fits = r.0 in let right = r.1 in
          let e : take (k - 1) (dids (history_of (Root place) (logs_in (parts_of v))))
          ≡ noted_dids (take (k - 1) (History (Root place) fits)) =
          ap (take (k - 1)) (dids_at stands l v homes words closed lanes (Root place) fits)
          ∙ dids_take (k - 1) (History (Root place) fits) in
          let p : present_in (place_after place (take (k - 1) (dids (history_of (Root place) (logs_in (parts_of v))))))
          ≡ present_in (place_after place (noted_dids (take (k - 1) (History (Root place) fits)))) =
          ap (λ (ds : List Did). present_in (place_after place ds)) e in
          λ i. record {
            note = Note.At (Root place) k n.did;
            root = (ap (root_for n.did) p ∙ sym right.0) i;
            region = (ap (region_for n.did) p ∙ sym right.1) i;
          }
  knows lane p there j (Ref r d) is = refl
  knows lane p there j (Busy b) is = refl

  pub entries_hold : entries_of (logs_in (parts_of v)) ≡ entries_in (parts_of v)
  entries_hold = mapped (law_entry_of (logs_in (parts_of v))) (parts_of v)
      (from_at (λ (p : Part). All (λ (e : Entry). law_entry_of (logs_in (parts_of v)) (note_of e) ≡ entry_of e) p.notes)
      (parts_of v)
      (λ lane p there. from_at (λ (e : Entry). law_entry_of (logs_in (parts_of v)) (note_of e) ≡ entry_of e) p.notes
      (knows lane p there)))
