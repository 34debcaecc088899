-- The busy marks of the parts, as the logs have them.
use Rattle.step_law.specs.Settings.{Setting}
use Rattle.std.proofs.Common.{◌≡◌, ℕ, suc, ◌+◌, ◌<◌, ◌≤◌, List, [], ◌∷◌, length, get_or, Bool, true, false, cond, sym, refl, ap, ◌∙◌, subst, arith, ⊎_elim, eq-eqb, eqb-true, Some}
use Rattle.std.specs.Prelude.{◌==◌, Option, option_map, unwrap_or, All, AllPairs, IsTrue, MatchBool, filter, max, slice_get}
use Rattle.std.proofs.lemmas.Option.{slice_get-map, slice_get_within, get_or_from_slice_get}
use Rattle.std.proofs.lemmas.List.Elements.{All-head, All-tail, All-weaker}
use mathlib.Core.Logic.{dite}
use native.Mathlib.Decide.{ℕ_discrete, dec_le}
use Rattle.pool_law.specs.declared.run.Shape.{Shape}
use Rattle.pool_law.specs.declared.note.Did.{Did}
use Rattle.pool_law.specs.declared.note.Held.{Held}
use Rattle.pool_law.specs.declared.note.Note.{Note}
use Rattle.pool_law.specs.declared.note.Noted.{Noted}
use Rattle.pool_law.specs.declared.note.Object.{Object}
use Rattle.pool_law.specs.declared.note.Object.TheVariants.{Arena, Cache, Bin, Mail, Root}
use Rattle.pool_law.specs.Homes.{home_of, IsObjectOf}
use Rattle.pool_law.specs.Same.{same_object}
use Rattle.pool_law.specs.Logs.{History as LawHistory, of_lane, has_history, history_of}
use Rattle.pool_law.specs.Busy.{MarksFit, IsOfAnother, MarksHold, BusyHolds}
use Rattle.pool_table.specs.declared.views.Entry.{Entry}
use Rattle.pool_table.specs.declared.views.Entry.TheVariants.{At, Ref, Busy}
use Rattle.pool_table.specs.declared.views.Layout.{Layout}
use Rattle.pool_table.specs.declared.views.Part.{Part}
use Rattle.pool_table.specs.declared.views.SeatView.{SeatView}
use Rattle.pool_table.specs.Views.{parts_of, is_about, is_numbered}
use Rattle.pool_table.specs.Sound.{Before, Tells, Stands}
use Rattle.pool_table.specs.Closed.{IsClosed}
use Rattle.pool_table.proofs.Known.{known}
use Rattle.shared_pool.specs.Closing.{AreLanes, logs_in}
use Rattle.shared_pool.proofs.ClosingNumbers.{with_lane}
use Rattle.shared_pool.proofs.ClosingHistories.{object_or, same_about, no_same, no_mail, notes_in, pairs_head, pairs_tail}
use Rattle.shared_pool.proofs.ClosingWhole.{at, there_or, log_at, log_past, stands_at, told_at, history_at, note_there}
use Rattle.shared_pool.proofs.ClosingEntries.{in_filter}

by_test : (b c : Bool) (A B : Type 0) → b ≡ c → MatchBool c A B → MatchBool b A B
by_test b c A B e t = subst (λ (x : Bool). MatchBool x A B) (sym e) t

-- ---- Numbers rise.

-- what stands in a lane's object part at an object is above what the lane has seen there
abbrev RisesIn : ℕ → List Entry → Type 0
RisesIn seen [] = Unit {0}
RisesIn seen (At o k n ∷ es) = (seen < k) × RisesIn k es
RisesIn seen (Ref r d ∷ es) = RisesIn seen es
RisesIn seen (Busy b ∷ es) = (seen ≤ b.number) × RisesIn b.number es

abbrev Above : ℕ → Entry → Type 0
Above seen (At o k n) = seen < k
Above seen (Ref r d) = Unit {0}
Above seen (Busy b) = seen ≤ b.number

after_note : (o : Object) (k : ℕ) (n : Noted) (e : Entry) → Before (At o k n) e → Above k e
after_note o k n (At p j m) t = t
after_note o k n (Ref r d) t = tt
after_note o k n (Busy b) t = t

after_mark : (b : Held) (e : Entry) → Before (Busy b) e → Above b.number e
after_mark b (At p j m) t = let a : b.number + 1 < j = t in let g : b.number < j = omega (arith, a) in g
after_mark b (Ref r d) t = tt
after_mark b (Busy c) t = t

rises_in : (seen : ℕ) (es : List Entry) → AllPairs Before es → All (Above seen) es → RisesIn seen es
rises_in seen [] pairs above = tt
rises_in seen (At o k n ∷ es) pairs above = (
  All-head (Above seen) (At o k n) es above,
  rises_in k es (pairs_tail Before (At o k n) es pairs)
      (All-weaker (Before (At o k n)) (Above k) (after_note o k n) es (pairs_head Before (At o k n) es pairs)),
)
rises_in seen (Ref r d ∷ es) pairs above =
    rises_in seen es (pairs_tail Before (Ref r d) es pairs) (All-tail (Above seen) (Ref r d) es above)
rises_in seen (Busy b ∷ es) pairs above = (
  All-head (Above seen) (Busy b) es above,
  rises_in b.number es (pairs_tail Before (Busy b) es pairs)
      (All-weaker (Before (Busy b)) (Above b.number) (after_mark b) es (pairs_head Before (Busy b) es pairs)),
)

-- a later number is the greatest
later : (a b : ℕ) → a < b → b ≡ max a b
later a b lt = omega (arith, lt)

-- and so the marks fit in the whole part
fits_all : (s : Shape) (lane : Option ℕ) (o : Object) → IsObjectOf s o → (seen least : ℕ) (es : List Entry)
    → least ≤ seen + 1 → All (Stands s lane) es → RisesIn seen (filter (is_about s (home_of s o)) es)
    → MarksFit o seen least (notes_in es)
fits_all s lane o fits seen least [] low all r = tt
fits_all s lane o fits seen least (At p k n ∷ es) low all r =
    let st = All-head (Stands s lane) (At p k n) es all in let rest = All-tail (Stands s lane) (At p k n) es all in
    by_test (same_object o p) (home_of s p == home_of s o) ((least ≤ k) × MarksFit o (max seen k) least (notes_in es))
    (MarksFit o seen least (notes_in es)) (same_about s o p fits st.object)
    (by (home_of s p == home_of s o) (λ x above t. fits_all s lane o fits x least es above rest t) r)
  where
    by : (b : Bool) → ((x : ℕ) → least ≤ x + 1 → RisesIn x (filter (is_about s (home_of s o)) es)
        → MarksFit o x least (notes_in es)) →
        RisesIn seen (cond b (At p k n ∷ filter (is_about s (home_of s o)) es) (filter (is_about s (home_of s o)) es)) →
        MatchBool b ((least ≤ k) × MarksFit o (max seen k) least (notes_in es)) (MarksFit o seen least (notes_in es))
    by true ih r = (
      omega (arith, low, r.0),
      subst (λ (x : ℕ). MarksFit o x least (notes_in es)) (later seen k r.0)
          (ih k (omega (arith, low, r.0)) r.1),
    )
    by false ih r = ih seen low r
fits_all s lane o fits seen least (Ref x d ∷ es) low all r =
    fits_all s lane o fits seen least es low (All-tail (Stands s lane) (Ref x d) es all) r
fits_all s lane o fits seen least (Busy h ∷ es) low all r =
    let st = All-head (Stands s lane) (Busy h) es all in let rest = All-tail (Stands s lane) (Busy h) es all in
    by_test (same_object o h.object) (home_of s h.object == home_of s o)
    ((seen ≤ h.number) × MarksFit o h.number (h.number + 1) (notes_in es)) (MarksFit o seen least (notes_in es))
    (same_about s o h.object fits (known s h.object st.0))
    (by (home_of s h.object == home_of s o) (λ x y above t. fits_all s lane o fits x y es above rest t) r)
  where
    by : (b : Bool) → ((x y : ℕ) → y ≤ x + 1 → RisesIn x (filter (is_about s (home_of s o)) es)
        → MarksFit o x y (notes_in es)) →
        RisesIn seen (cond b (Busy h ∷ filter (is_about s (home_of s o)) es) (filter (is_about s (home_of s o)) es)) →
        MatchBool b ((seen ≤ h.number) × MarksFit o h.number (h.number + 1) (notes_in es))
        (MarksFit o seen least (notes_in es))
    by true ih r = (r.0, ih h.number (h.number + 1) (omega arith) r.1)
    by false ih r = ih seen least low r

fits_none : (s : Shape) (lane : Option ℕ) (o : Object) → IsTrue (has_history o) → (IsObjectOf s o → ⊥)
    → (had least : ℕ) (es : List Entry) → All (Stands s lane) es → MarksFit o had least (notes_in es)
fits_none s lane o has none had least [] all = tt
fits_none s lane o has none had least (At p k n ∷ es) all =
    let st = All-head (Stands s lane) (At p k n) es all in
    by_test (same_object o p) false ((least ≤ k) × MarksFit o (max had k) least (notes_in es))
    (MarksFit o had least (notes_in es)) (no_same s o p has none st.object)
    (fits_none s lane o has none had least es (All-tail (Stands s lane) (At p k n) es all))
fits_none s lane o has none had least (Ref r d ∷ es) all =
    fits_none s lane o has none had least es (All-tail (Stands s lane) (Ref r d) es all)
fits_none s lane o has none had least (Busy h ∷ es) all =
    let st = All-head (Stands s lane) (Busy h) es all in
    by_test (same_object o h.object) false ((had ≤ h.number) × MarksFit o h.number (h.number + 1) (notes_in es))
    (MarksFit o had least (notes_in es)) (no_same s o h.object has none (known s h.object st.0))
    (fits_none s lane o has none had least es (All-tail (Stands s lane) (Busy h) es all))

-- no mark stands at a mail
fits_mail : (s : Shape) (lane : Option ℕ) (a b had : ℕ) (es : List Entry) → All (Stands s lane) es
    → MarksFit (Mail a b) had 0 (notes_in es)
fits_mail s lane a b had [] all = tt
fits_mail s lane a b had (At p k n ∷ es) all =
    let rest = All-tail (Stands s lane) (At p k n) es all in
    by (same_object (Mail a b) p) (fits_mail s lane a b (max had k) es rest) (fits_mail s lane a b had es rest)
  where
    by : (t : Bool) → MarksFit (Mail a b) (max had k) 0 (notes_in es) → MarksFit (Mail a b) had 0 (notes_in es)
        → MatchBool t ((0 ≤ k) × MarksFit (Mail a b) (max had k) 0 (notes_in es))
        (MarksFit (Mail a b) had 0 (notes_in es))
    by true on off = (omega arith, on)
    by false on off = off
fits_mail s lane a b had (Ref r d ∷ es) all =
    fits_mail s lane a b had es (All-tail (Stands s lane) (Ref r d) es all)
fits_mail s lane a b had (Busy h ∷ es) all =
    let st = All-head (Stands s lane) (Busy h) es all in
    by_test (same_object (Mail a b) h.object) false
    ((had ≤ h.number) × MarksFit (Mail a b) h.number (h.number + 1) (notes_in es))
    (MarksFit (Mail a b) had 0 (notes_in es)) (no_mail s a b h.object st.0)
    (fits_mail s lane a b had es (All-tail (Stands s lane) (Busy h) es all))

told_above : (o : Object) (h : List Noted) (limit : ℕ) (lane : Option ℕ) (e : Entry) → Tells o h limit lane e
    → Above 0 e
told_above o h limit lane (At p k n) t = t.0
told_above o h limit lane (Ref r d) t = tt
told_above o h limit lane (Busy b) t = omega arith

-- ---- Marks.

-- two of a list at two places
pairs_at : {X : Type 0} (R : X → X → Type 0) (xs : List X) (i j : ℕ) (x y : X) → AllPairs R xs → slice_get xs i ≡ Some x
    → slice_get xs j ≡ Some y → i < j → R x y
pairs_at {X = X} R xs i j x y all is there lt =
    let p = all i j x lt (slice_get_within xs j y there) in
    let a = get_or_from_slice_get xs i x x is in let b = get_or_from_slice_get xs j y x there in
    subst (λ (z : X). R z y) a (subst (λ (z : X). R (get_or xs i x) z) b p)

-- no note of a lane stands where its mark says that another's does
not_both : (es : List Entry) (i j : ℕ) (b : Held) (e : Entry) → AllPairs Before es → slice_get es i ≡ Some (Busy b)
    → slice_get es j ≡ Some e → is_numbered (b.number + 1) e ≡ true → ⊥
not_both es i j b (At p k n) pairs is there t =
    let same : k ≡ b.number + 1 = eqb-true k (b.number + 1) t in
    dite (ℕ_discrete i j)
    (λ e. let one : Some (Busy b) ≡ Some (At p k n) = sym is
    ∙ (ap (λ (x : ℕ). slice_get es x) e ∙ there) in absurd (cc one))
    (λ ne. dite (dec_le i j)
    (λ le. let a : b.number + 1 < k = pairs_at Before es i j (Busy b) (At p k n) pairs is there
    (omega (arith, le, ne)) in omega (arith, a, same))
    (λ gt. let a : k ≤ b.number = pairs_at Before es j i (At p k n) (Busy b) pairs there is (omega (arith, gt)) in
    omega (arith, a, same)))
not_both es i j b (Ref r d) pairs is there t = absurd (cc t)
not_both es i j b (Busy c) pairs is there t = absurd (cc t)

-- the marks of a list, each by itself
marks_from : (lane : ℕ) (history : Object → LawHistory) (es : List Entry)
    → ((j : ℕ) (b : Held) → slice_get es j ≡ Some (Busy b) → IsOfAnother lane (slice_get (history b.object) b.number)) →
    MarksHold lane history (notes_in es)
marks_from lane history [] each = tt
marks_from lane history (At o k n ∷ es) each = marks_from lane history es (λ j b is. each (suc j) b is)
marks_from lane history (Ref r d ∷ es) each = marks_from lane history es (λ j b is. each (suc j) b is)
marks_from lane history (Busy h ∷ es) each = (each 0 h refl, marks_from lane history es (λ j b is. each (suc j) b is))

module _ {H : Type 0} (stands : List ℕ → Setting → List Noted → H → Type 0) (l : Layout) (v : SeatView)
    (homes : List (Option H)) (words : List ℕ)
    (closed : IsClosed stands l v homes words) (lanes : AreLanes l.shape (parts_of v)) where
  abbrev histories : Object → LawHistory
  histories o = history_of o (logs_in (parts_of v))

  -- at an object of the shape, and at another with a history
  fits_there : (lane : ℕ) (p : Part) → slice_get (parts_of v) lane ≡ Some p → (o : Object) → IsTrue (has_history o)
      → MarksFit o 0 0 (notes_in p.notes)
  fits_there lane p there o has = ⊎_elim
      (λ (fits : IsObjectOf l.shape o).
      let h = (closed.objects o fits).history in let t =
      told_at stands l v homes words closed lanes o fits lane p there in
      fits_all l.shape p.number o fits 0 0 p.notes (omega arith)
      (stands_at stands l v homes words closed lanes lane p there)
      (rises_in 0 (filter (is_about l.shape (home_of l.shape o)) p.notes) t.ordered
      (All-weaker (Tells o h (length h) p.number) (Above 0) (told_above o h (length h) p.number)
      (filter (is_about l.shape (home_of l.shape o)) p.notes) t.told)))
      (λ (none : IsObjectOf l.shape o → ⊥). fits_none l.shape p.number o has none 0 0 p.notes
      (stands_at stands l v homes words closed lanes lane p there))
      (object_or l.shape o)

  fits_at : (lane : ℕ) (p : Part) → slice_get (parts_of v) lane ≡ Some p → (o : Object)
      → MarksFit o 0 0 (notes_in p.notes)
  fits_at lane p there (Arena a) = fits_there lane p there (Arena a) refl
  fits_at lane p there (Cache d c) = fits_there lane p there (Cache d c) refl
  fits_at lane p there (Bin b) = fits_there lane p there (Bin b) refl
  fits_at lane p there (Mail a b) =
      fits_mail l.shape p.number a b 0 p.notes (stands_at stands l v homes words closed lanes lane p there)
  fits_at lane p there (Root q) = fits_there lane p there (Root q) refl

  mark_at : (lane : ℕ) (p : Part) → slice_get (parts_of v) lane ≡ Some p → (j : ℕ) (b : Held)
      → slice_get p.notes j ≡ Some (Busy b) → IsOfAnother lane (slice_get (histories b.object) b.number)
  mark_at lane p there j b is =
      let st = at (Stands l.shape p.number) p.notes j (Busy b)
      (stands_at stands l v homes words closed lanes lane p there) is in
      let fits : IsObjectOf l.shape b.object = st.0 in let h = (closed.objects b.object fits).history in
      let es : List Entry = filter (is_about l.shape (home_of l.shape b.object)) p.notes in
      let t = told_at stands l v homes words closed lanes b.object fits lane p there in
      let f = in_filter (is_about l.shape (home_of l.shape b.object)) p.notes j (Busy b) is
      (eq-eqb (home_of l.shape b.object) (home_of l.shape b.object) refl) in
      let tells = at (Tells b.object h (length h) p.number) es f.0 (Busy b) t.told f.1 in
      ⊎_elim
      (λ (x : (n : Noted) × (slice_get h b.number ≡ Some n)).
      let law : slice_get (histories b.object) b.number ≡ Some (with_lane x.0) =
      ap (λ (q : LawHistory). slice_get q b.number) (history_at stands l v homes words closed lanes b.object fits)
      ∙ (slice_get-map with_lane h b.number ∙ ap (λ (o : Option Noted). option_map with_lane o) x.1) in
      let s = note_there stands l v homes words closed lanes b.object fits b.number x.0 x.1 in
      subst (λ (o : Option (ℕ × Did)). IsOfAnother lane o) (sym law)
      (λ e. let same : s.lane ≡ lane = sym (ap (λ (o : Option ℕ). unwrap_or o 0) s.lane_is) ∙ e in
      let part : Some s.part ≡ Some p = sym s.there ∙ (ap (λ (i : ℕ). slice_get (parts_of v) i) same ∙ there) in
      let one : s.part ≡ p = cc part in
      not_both es f.0 s.index b s.entry t.ordered f.1
      (subst (λ (q : Part). slice_get (filter (is_about l.shape (home_of l.shape b.object)) q.notes) s.index
      ≡ Some s.entry) one s.stood) s.number))
      (λ (past : length h ≤ b.number). let a : b.number < length h = tells.0 in let m : ℕ = length h in
      let a' : b.number < m = a in let c : m ≤ b.number = past in absurd (omega (arith, a', c)))
      (there_or h b.number)

  pub busy_holds : (lane : ℕ) → BusyHolds lane (λ o. history_of o (logs_in (parts_of v)))
      (of_lane (logs_in (parts_of v)) lane)
  busy_holds lane = ⊎_elim
      (λ (t : (p : Part) × (slice_get (parts_of v) lane ≡ Some p)).
      subst (λ (x : List Note). BusyHolds lane histories x) (sym (log_at (parts_of v) lane t.0 t.1))
      (record { fit = fits_at lane t.0 t.1; marks = marks_from lane histories t.0.notes (mark_at lane t.0 t.1) }))
      (λ (past : length (parts_of v) ≤ lane).
      subst (λ (x : List Note). BusyHolds lane histories x) (sym (log_past (parts_of v) lane past))
      (record { fit = λ o. tt; marks = tt }))
      (there_or (parts_of v) lane)
