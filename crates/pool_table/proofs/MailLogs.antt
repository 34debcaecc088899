-- At the close, the notes of a mail in the parts of its two lanes: what is fetched is the front of what is posted.
use Rattle.step_law.specs.Settings.{Setting}
use Rattle.std.proofs.Common.{◌≡◌, ◌⊎◌, inl, inr, ⊎_elim, ℕ, zero, suc, ◌+◌, ◌<◌, ◌≤◌, List, [], ◌∷◌, ◌++◌, map, Bool, true, false, cond, eqb, sym, refl, ap, ◌∙◌, subst, arith, eq-eqb, eqb-true}
use Rattle.std.specs.Prelude.{Option, Some, None, All, sum_by, slice_get, if◌then◌else◌, ◌&&◌}
use Rattle.std.proofs.lemmas.List.Elements.{All-head, All-weaker}
use Rattle.std.proofs.lemmas.List.Sums.{sum_by-cons}
use Rattle.std.proofs.lemmas.Cmp.{nat_eq_equiv}
use mathlib.Core.Logic.{dite}
use native.Mathlib.Decide.{ℕ_discrete}
use mathlib.Core.Option.{some}
use lib.ListN.{get_elem?}
use Rattle.step_law.proofs.Changes.{each_at, sum_only, sum_none, sum_at, sum_two}
use Rattle.pool_law.specs.declared.id.Parcel.{Parcel}
use Rattle.pool_law.specs.declared.note.Note.{Note}
use Rattle.pool_law.specs.declared.note.Noted.{Noted}
use Rattle.pool_law.specs.declared.note.Object.TheVariants.{Mail}
use Rattle.pool_law.specs.Kinds.{Passing, Stays, Goes, Comes, passing}
use Rattle.pool_law.specs.Mails.{posted, fetched, gone, come, MailHolds}
use Rattle.pool_law.specs.Same.{same_object}
use Rattle.pool_law.proofs.SameLemmas.{and-first, and-second}
use Rattle.pool_law.proofs.ListLemmas.{front-from-places}
use Rattle.pool_table.specs.declared.views.Entry.{Entry}
use Rattle.pool_table.specs.declared.views.Entry.TheVariants.{At, Ref, Busy}
use Rattle.pool_table.specs.declared.views.Layout.{Layout}
use Rattle.pool_table.specs.declared.views.Letter.{Letter}
use Rattle.pool_table.specs.declared.views.Part.{Part}
use Rattle.pool_table.specs.declared.views.SeatView.{SeatView}
use Rattle.pool_table.specs.Views.{parts_of, is_lane}
use Rattle.pool_table.specs.Counts.{weigh}
use Rattle.pool_table.specs.Letters.{letter_in, letter_out, letter_sent, letter_received, letter_weight, sent_as, received_as, is_on_way, IsInTurn}
use Rattle.pool_table.specs.Sound.{IsKnown, Stands}
use Rattle.pool_table.specs.Closed.{HasAllLanes, IsClosed}
use Rattle.pool_table.proofs.Posts.{is_letter, is_itself, only_itself, told_received, on_its_way, sender_is}
use Rattle.pool_table.proofs.Lists.{at_cut}
use Rattle.pool_table.proofs.Senders.{weighing, cut_weighs}

-- an entry of a part as a note of a log
abbrev pub law_note : Entry → Note
law_note (At o k n) = Note.At o k n.did
law_note (Ref r d) = Note.Ref r d
law_note (Busy b) = Note.Busy b

abbrev pub notes_of : List Entry → List Note
notes_of es = map law_note es

-- ---- The letters of a way in a list of entries, by their places.
module _ (a b : ℕ) (has : Entry → Option Letter) (lists : List Entry → List (ℕ × Parcel)) (none : lists [] ≡ []) where
  abbrev pub letter : ℕ × Parcel → Letter
  letter z = record { from = a; to = b; number = z.0; parcel = z.1 }

  abbrev pub w : Entry → ℕ
  w e = letter_weight (is_on_way a b) (has e)

  -- an entry has no such letter, or the first of the list
  abbrev pub Begins : Entry → List Entry → Type 0
  Begins e es =
      ((lists (e ∷ es) ≡ lists es) × (w e ≡ 0))
      ⊎ ((z : ℕ × Parcel) × (lists (e ∷ es) ≡ z ∷ lists es) × (has e ≡ Some (letter z)) × (w e ≡ 1))

  -- a letter stands in the list behind k others of its way
  abbrev Found : ℕ × Parcel → List Entry → ℕ → Type 0
  Found z es k =
      (before : List Entry) × (after : List Entry) × (e : Entry) × (es ≡ before ++ e ∷ after)
      × (has e ≡ Some (letter z)) × (sum_by w before ≡ k)

  longer : (z : ℕ × Parcel) (e : Entry) (es : List Entry) (k n : ℕ) → w e + k ≡ n → Found z es k → Found z (e ∷ es) n
  longer z e es k n sum m = let c = sum_by-cons w e m.0 in let at = m.5 in (
    e ∷ m.0,
    m.1,
    m.2,
    ap (λ (l : List Entry). e ∷ l) m.3,
    m.4,
    omega (arith, c, at, sum),
  )

  first : (z y : ℕ × Parcel) (e : Entry) (es : List Entry) (k : ℕ)
      → ((k : ℕ) → slice_get (lists es) k ≡ Some z → Found z es k) → has e ≡ Some (letter y) → w e ≡ 1
      → slice_get (y ∷ lists es) k ≡ Some z → Found z (e ∷ es) k
  first z y e es zero rest is one at =
      let same : y ≡ z = cc at in ([], es, e, refl, is ∙ ap (λ (z : ℕ × Parcel). Some (letter z)) same, refl)
  first z y e es (suc k) rest is one at = longer z e es k (suc k) (omega (arith, one)) (rest k at)

  by_first : (z : ℕ × Parcel) (e : Entry) (es : List Entry) (k : ℕ)
      → ((k : ℕ) → slice_get (lists es) k ≡ Some z → Found z es k) → slice_get (lists (e ∷ es)) k ≡ Some z
      → Begins e es → Found z (e ∷ es) k
  by_first z e es k rest is (inl t) = let t1 = t.1 in
      longer z e es k k (omega (arith, t1))
      (rest k (subst (λ (l : List (ℕ × Parcel)). slice_get l k ≡ Some z) t.0 is))
  by_first z e es k rest is (inr t) =
      first z t.0 e es k rest t.2 t.3 (subst (λ (l : List (ℕ × Parcel)). slice_get l k ≡ Some z) t.1 is)

  module _ (begins : (e : Entry) (es : List Entry) → Begins e es) where
    pub nth : (es : List Entry) (k : ℕ) (z : ℕ × Parcel) → slice_get (lists es) k ≡ Some z → Found z es k
    nth [] k z is = let e : None ≡ Some z = subst (λ (l : List (ℕ × Parcel)). slice_get l k ≡ Some z) none is in
        absurd (cc e)
    nth (e ∷ es) k z is = by_first z e es k (λ k. nth es k z) is (begins e es)

    pub find : (before after : List Entry) (e : Entry) (z : ℕ × Parcel) → has e ≡ Some (letter z)
        → slice_get (lists (before ++ e ∷ after)) (sum_by w before) ≡ Some z
    find [] after e z is = ⊎_elim
        (λ (t : (lists (e ∷ after) ≡ lists after) × (w e ≡ 0)). let t1 = t.1 in
        let one : w e ≡ 1 = ap (letter_weight (is_on_way a b)) is ∙ on_its_way (letter z) in
        absurd (omega (arith, t1, one)))
        (λ (t : (y : ℕ × Parcel) × (lists (e ∷ after) ≡ y ∷ lists after) × (has e ≡ Some (letter y)) × (w e ≡ 1)).
        let same : letter t.0 ≡ letter z = (let f : Some (letter t.0) ≡ Some (letter z) = sym t.2 ∙ is in cc f) in
        ap (λ (l : List (ℕ × Parcel)). slice_get l 0) t.1
        ∙ ap (λ (x : Letter). Some (x.number, x.parcel)) same)
        (begins e after)
    find (d ∷ before) after e z is = ⊎_elim
        (λ (t : (lists (d ∷ (before ++ e ∷ after)) ≡ lists (before ++ e ∷ after)) × (w d ≡ 0)).
        let t1 = t.1 in let c = sum_by-cons w d before in
        let at : sum_by w (d ∷ before) ≡ sum_by w before = omega (arith, c, t1) in
        ap (λ (k : ℕ). slice_get (lists (d ∷ (before ++ e ∷ after))) k) at
        ∙ (ap (λ (l : List (ℕ × Parcel)). slice_get l (sum_by w before)) t.0 ∙ find before after e z is))
        (λ (t : (y : ℕ × Parcel) × (lists (d ∷ (before ++ e ∷ after)) ≡ y ∷ lists (before ++ e ∷ after))
        × (has d ≡ Some (letter y)) × (w d ≡ 1)).
        let one = t.3 in let c = sum_by-cons w d before in
        let at : sum_by w (d ∷ before) ≡ suc (sum_by w before) = omega (arith, c, one) in
        ap (λ (k : ℕ). slice_get (lists (d ∷ (before ++ e ∷ after))) k) at
        ∙ (ap (λ (l : List (ℕ × Parcel)). slice_get l (suc (sum_by w before))) t.1 ∙ find before after e z is))
        (begins d (before ++ e ∷ after))

-- ---- What the law lists.
module _ (a b : ℕ) where
  abbrev pub sent_list : List Entry → List (ℕ × Parcel)
  sent_list es = posted (Mail a b) (notes_of es)

  abbrev pub received_list : List Entry → List (ℕ × Parcel)
  received_list es = fetched (Mail a b) (notes_of es)

  nothing_more : (t : Bool) (xs : List (ℕ × Parcel)) → (if t then [] else []) ++ xs ≡ xs
  nothing_more true xs = refl
  nothing_more false xs = refl

  on : (c d : ℕ) → (eqb c a && eqb d b) ≡ (eqb a c && eqb b d)
  on c d = λ i. nat_eq_equiv.symm c a i && nat_eq_equiv.symm d b i

  -- a letter of a way
  abbrev of_way : ℕ → ℕ → ℕ → Parcel → Option Letter
  of_way c d k q = Some (record { from = c; to = d; number = k; parcel = q })

  -- a letter of this way, or of another
  on_way : (c d k : ℕ) (q : Parcel) (xs : List (ℕ × Parcel)) (t : Bool) → (eqb a c && eqb b d) ≡ t
      → (((if t then (k, q) ∷ [] else []) ++ xs ≡ xs) × (cond {A = ℕ} (eqb c a && eqb d b) 1 0 ≡ 0))
      ⊎ ((z : ℕ × Parcel) × ((if t then (k, q) ∷ [] else []) ++ xs ≡ z ∷ xs)
      × (of_way c d k q ≡ Some (record { from = a; to = b; number = z.0; parcel = z.1 }))
      × (cond {A = ℕ} (eqb c a && eqb d b) 1 0 ≡ 1))
  on_way c d k q xs true e =
      let f : a ≡ c = eqb-true a c (and-first (eqb a c) (eqb b d) e) in
      let g : b ≡ d = eqb-true b d (and-second (eqb a c) (eqb b d) e) in
      inr (
        (k, q),
        refl,
        (λ i. Some (record { from = sym f i; to = sym g i; number = k; parcel = q })),
        ap (λ (t : Bool). cond {A = ℕ} t 1 0) (on c d ∙ e),
      )
  on_way c d k q xs false e = inl (refl, ap (λ (t : Bool). cond {A = ℕ} t 1 0) (on c d ∙ e))

  sent_begins : (e : Entry) (es : List Entry) → Begins a b letter_sent sent_list refl e es
  sent_begins (At (Mail c d) k n) es = by (passing n.did)
    where
      by : (p : Passing) →
          (((if same_object (Mail a b) (Mail c d) then gone k p else []) ++ sent_list es ≡ sent_list es)
          × (letter_weight (is_on_way a b) (letter_in (Mail c d) k p) ≡ 0))
          ⊎ ((z : ℕ × Parcel)
          × ((if same_object (Mail a b) (Mail c d) then gone k p else []) ++ sent_list es ≡ z ∷ sent_list es)
          × (letter_in (Mail c d) k p ≡ Some (record { from = a; to = b; number = z.0; parcel = z.1 }))
          × (letter_weight (is_on_way a b) (letter_in (Mail c d) k p) ≡ 1))
      by Stays = inl (nothing_more (same_object (Mail a b) (Mail c d)) (sent_list es), refl)
      by (Goes q) = on_way c d k q (sent_list es) (eqb a c && eqb b d) refl
      by (Comes q) = inl (nothing_more (same_object (Mail a b) (Mail c d)) (sent_list es), refl)
  sent_begins (At o k n) es = inl (refl, refl)
  sent_begins (Ref r d) es = inl (refl, refl)
  sent_begins (Busy h) es = inl (refl, refl)

  received_begins : (e : Entry) (es : List Entry) → Begins a b letter_received received_list refl e es
  received_begins (At (Mail c d) k n) es = by (passing n.did)
    where
      by : (p : Passing) →
          (((if same_object (Mail a b) (Mail c d) then come k p else []) ++ received_list es ≡ received_list es)
          × (letter_weight (is_on_way a b) (letter_out (Mail c d) k p) ≡ 0))
          ⊎ ((z : ℕ × Parcel)
          × ((if same_object (Mail a b) (Mail c d) then come k p else []) ++ received_list es ≡ z ∷ received_list es)
          × (letter_out (Mail c d) k p ≡ Some (record { from = a; to = b; number = z.0; parcel = z.1 }))
          × (letter_weight (is_on_way a b) (letter_out (Mail c d) k p) ≡ 1))
      by Stays = inl (nothing_more (same_object (Mail a b) (Mail c d)) (received_list es), refl)
      by (Goes q) = inl (nothing_more (same_object (Mail a b) (Mail c d)) (received_list es), refl)
      by (Comes q) = on_way c d k q (received_list es) (eqb a c && eqb b d) refl
  received_begins (At o k n) es = inl (refl, refl)
  received_begins (Ref r d) es = inl (refl, refl)
  received_begins (Busy h) es = inl (refl, refl)

module _ {H : Type 0} (stands : List ℕ → Setting → List Noted → H → Type 0) (l : Layout) (v : SeatView)
    (homes : List (Option H)) (words : List ℕ) (closed : IsClosed stands l v homes words)
    (lanes : HasAllLanes l v) where
  -- what only a lane's parts have, its one part has
  only_part : (m i : ℕ) (q : Part) (f : Entry → ℕ)
      → ((lane : Option ℕ) (e : Entry) → Stands l.shape lane e → is_lane m lane ≡ false → f e ≡ 0) → m < l.shape.lanes
      → get_elem? (parts_of v) i ≡ some q → q.number ≡ Some m → weigh f v ≡ sum_by f q.notes
  only_part m i q f none lt at own =
      let g : Part → ℕ = λ (p : Part). cond {A = ℕ} (is_lane m p.number) 1 0 in
      let one : g q ≡ 1 = subst (λ (x : Option ℕ). cond {A = ℕ} (is_lane m x) 1 0 ≡ 1) (sym own)
      (ap (λ (b : Bool). cond {A = ℕ} b 1 0) (eq-eqb m m refl)) in
      let all : sum_by g (parts_of v) ≡ 1 = lanes m lt in
      sum_only (λ (p : Part). sum_by f p.notes) (parts_of v) i q at (λ j p ne there.
      let two = sum_two g (parts_of v) i j q p (λ e. ne (sym e)) at there in
      let z : g p ≡ 0 = omega (arith, two, all, one) in
      let off : is_lane m p.number ≡ false = no (is_lane m p.number) z in
      sum_none f p.notes (All-weaker (Stands l.shape p.number) (λ (e : Entry). f e ≡ 0)
      (λ e st. none p.number e st off) p.notes
      (each_at (λ (p : Part). All (Stands l.shape p.number) p.notes) (parts_of v) j p closed.view.notes there)))
    where
      no : (b : Bool) → cond {A = ℕ} b 1 0 ≡ 0 → b ≡ false
      no true e = absurd (omega (arith, e))
      no false e = refl

  alone : (f : SeatView → ℕ) → sum_by f (v ∷ []) ≡ f v
  alone f = let c = sum_by-cons f v [] in let z : sum_by f [] ≡ 0 = refl in omega (arith, c, z)

  turn_of : (i : ℕ) (q : Part) → get_elem? (parts_of v) i ≡ some q → IsInTurn q
  turn_of i q at =
      each_at IsInTurn (parts_of v) i q
      (All-head (λ (u : SeatView). All IsInTurn (parts_of u)) v [] closed.mailed.in_turn) at

  -- another lane's part sends no such letter
  others_none : (x : Letter) (lane : Option ℕ) (e : Entry) → Stands l.shape lane e → is_lane x.from lane ≡ false
      → sent_as (is_letter x) e ≡ 0
  others_none x lane e st off = by (letter_sent e) refl
    where
      by : (o : Option Letter) → letter_sent e ≡ o → letter_weight (is_letter x) o ≡ 0
      by None is = refl
      by (Some y) is = dite (ℕ_discrete (is_letter x y) 0) (λ z. z)
          (λ ne. let same : x ≡ y = only_itself x y (omega (arith, ne)) in
          let lane_is : lane ≡ Some x.from = sender_is l.shape lane e y st is
          ∙ ap (λ (z : Letter). Some z.from) (sym same) in
          let on : is_lane x.from lane ≡ true = subst (λ (o : Option ℕ). is_lane x.from o ≡ true) (sym lane_is)
          (eq-eqb x.from x.from refl) in
          let both : true ≡ false = sym on ∙ off in absurd (cc both))

  -- the posts of a part are numbered from 1
  pub posts_numbered : (a b i : ℕ) (q : Part) → get_elem? (parts_of v) i ≡ some q → (k : ℕ) (post : ℕ × Parcel)
      → slice_get (posted (Mail a b) (notes_of q.notes)) k ≡ Some post → post.0 ≡ k + 1
  posts_numbered a b i q at k post is =
      let m = nth a b letter_sent (sent_list a b) refl (sent_begins a b) q.notes k post is in
      let n = (turn_of i q at).sent m.0 m.1 m.2 (letter a b letter_sent (sent_list a b) refl post) m.3 m.4 in
      let c = m.5 in omega (arith, n, c)

  -- no part has fetches from a lane that there isn't
  pub none_from_beyond : (a b j : ℕ) (p : Part) → get_elem? (parts_of v) j ≡ some p → l.shape.lanes ≤ a
      → fetched (Mail a b) (notes_of p.notes) ≡ []
  none_from_beyond a b j p there le = by (received_list a b p.notes) refl
    where
      by : (xs : List (ℕ × Parcel)) → received_list a b p.notes ≡ xs → xs ≡ []
      by [] is = refl
      by (z ∷ zs) is =
          let first = ap (λ (xs : List (ℕ × Parcel)). slice_get xs 0) is in
          let m = nth a b letter_received (received_list a b) refl (received_begins a b) p.notes 0 z first in
          let x : Letter = letter a b letter_received (received_list a b) refl z in
          let st = each_at (λ (p : Part). All (Stands l.shape p.number) p.notes) (parts_of v) j p closed.view.notes
          there in
          let here : Stands l.shape p.number m.2 =
          (at_cut (Stands l.shape p.number) m.0 m.1 m.2 (subst (All (Stands l.shape p.number)) m.3 st)).0 in
          let t = told_received m.2 x m.4 in
          let known : IsKnown l.shape (Mail a b) = (subst (Stands l.shape p.number) t.1 here).object in
          let lt : a < l.shape.lanes = known.0 in absurd (omega (arith, lt, le))

  -- the part of the lane that sends, and that of one that receives
  pub mail_holds : (a b i j : ℕ) (q p : Part) → a < l.shape.lanes → get_elem? (parts_of v) i ≡ some q
      → get_elem? (parts_of v) j ≡ some p → q.number ≡ Some a
      → MailHolds (Mail a b) (notes_of q.notes) (notes_of p.notes)
  mail_holds a b i j q p lt at there own = record {
    numbered = posts_numbered a b i q at;
    in_order = front-from-places (received_list a b p.notes) (sent_list a b q.notes) (λ k z is.
        let m = nth a b letter_received (received_list a b) refl (received_begins a b) p.notes k z is in
        let x : Letter = letter a b letter_received (received_list a b) refl z in
        let n = (turn_of j p there).received m.0 m.1 m.2 x m.3 m.4 in let c = m.5 in
        let came : received_as (is_letter x) m.2 ≡ 1 = ap (letter_weight (is_letter x)) m.4 ∙ is_itself x in
        let low = subst (λ (es : List Entry). sum_by (received_as (is_letter x)) m.0 + received_as (is_letter x) m.2
        ≤ sum_by (received_as (is_letter x)) es) (sym m.3) (cut_weighs (received_as (is_letter x)) m.0 m.1 m.2) in
        let up = sum_at (λ (p : Part). sum_by (received_as (is_letter x)) p.notes) (parts_of v) j p there in
        let kept = closed.mailed.kept (is_letter x) in
        let r1 = alone (weigh (received_as (is_letter x))) in let s1 = alone (weigh (sent_as (is_letter x))) in
        let only = only_part a i q (sent_as (is_letter x)) (others_none x) lt at own in
        let g = weighing (sent_as (is_letter x)) q.notes (omega (arith, came, low, up, kept, r1, s1, only)) in
        let sent : letter_sent g.element ≡ Some x = by x g.element (letter_sent g.element) refl g.weighs in
        let t = (turn_of i q at).sent g.before g.after g.element x g.cut sent in
        let found = find a b letter_sent (sent_list a b) refl (sent_begins a b) g.before g.after g.element z sent in
        let place : sum_by (sent_as (is_on_way a b)) g.before ≡ k = omega (arith, t, n, c) in
        subst (λ (y : List Entry × ℕ). slice_get (sent_list a b y.0) y.1 ≡ Some z) (λ h. (sym g.cut h, place h)) found);
  }
    where
      by : (x : Letter) (e : Entry) (o : Option Letter) → letter_sent e ≡ o → 0 < letter_weight (is_letter x) o
          → letter_sent e ≡ Some x
      by x e None is lt = absurd (omega (arith, lt))
      by x e (Some y) is lt = is ∙ ap Some (sym (only_itself x y lt))
