-- The capacities that the entries of all views tell, beside those of the root places' histories.
use Rattle.step_law.specs.Settings.{Setting}
use Rattle.std.proofs.Common.{◌≡◌, ℕ, ◌+◌, ◌<◌, ◌≤◌, Bool, true, false, cond, eqb, List, [], ◌∷◌, ◌++◌, length, sym, refl, ap, ◌∙◌, subst, inl, inr, ⊎_elim, arith, eqb-true, eq-eqb, le_refl, Some, None}
use Rattle.std.specs.Prelude.{◌==◌, ◌&&◌, ◌||◌, nat_le, nat_lt, max, if◌then◌else◌, Option, IfSome, All, sum_by}
use Rattle.std.proofs.Math.Nat.{max-le}
use Rattle.std.proofs.lemmas.List.Elements.{All-head}
use Rattle.std.proofs.lemmas.List.Sums.{sum_by-le-sum_by}
use Rattle.std.proofs.lemmas.Bool.{le-leb}
use mathlib.Core.Logic.{dite}
use native.Mathlib.Decide.{ℕ_discrete}
use mathlib.Core.Option.{some}
use lib.ListN.{get_elem?}
use Rattle.atomic_table.specs.Table.{State}
use Rattle.step_law.proofs.Changes.{each_at}
use Rattle.pool_law.specs.declared.run.Shape.{Shape}
use Rattle.pool_law.specs.declared.id.RootId.{RootId}
use Rattle.pool_law.specs.declared.id.ViewData.{ViewData}
use Rattle.pool_law.specs.declared.id.Parcel.{Parcel}
use Rattle.pool_law.specs.declared.note.Did.{Did}
use Rattle.pool_law.specs.declared.note.Did.TheVariants.{Post, Fetch, Birth, Room, Extend, Grow}
use Rattle.pool_law.specs.declared.note.Noted.{Noted}
use Rattle.pool_law.specs.declared.note.Object.{Object}
use Rattle.pool_law.specs.declared.note.Object.TheVariants.{Arena, Cache, Bin, Mail, Root}
use Rattle.pool_law.specs.Homes.{home_of, IsObjectOf}
use Rattle.pool_law.specs.NotedHistories.{MayNote}
use Rattle.pool_law.specs.Same.{same_root}
use Rattle.pool_law.specs.Logs.{present_in, root_for}
use Rattle.pool_law.specs.Counts.{root_is}
use Rattle.pool_law.specs.Capacities.{reach_of, told_by, known_of}
use Rattle.pool_law.specs.Roots.{Present, RootPlace, new_place, place_step, place_step_by}
use Rattle.pool_law.proofs.SameLemmas.{and-first, same_root-is}
use Rattle.history_laws.specs.Histories.{IsLawful, IsPlaceAfter}
use Rattle.history_laws.specs.NoteCounts.{one_if_so, did_birth, did_birth_as, did_end}
use Rattle.history_laws.proofs.BinSteps.{so}
use Rattle.history_laws.proofs.Runs.{last_note, right_last}
use Rattle.history_laws.proofs.Told.{place_there, place_fits}
use Rattle.pool_table.specs.declared.views.Entry.{Entry}
use Rattle.pool_table.specs.declared.views.Entry.TheVariants.{At, Ref, Busy}
use Rattle.pool_table.specs.declared.views.Layout.{Layout}
use Rattle.pool_table.specs.declared.views.Letter.{Letter}
use Rattle.pool_table.specs.declared.views.Part.{Part}
use Rattle.pool_table.specs.declared.views.SeatView.{SeatView}
use Rattle.pool_table.specs.LaneLogs.{law_entry, lane_entries}
use Rattle.pool_table.specs.Views.{parts_of}
use Rattle.pool_table.specs.Births.{IsBorn}
use Rattle.pool_table.specs.Capacities.{gives, at_gift, WasGiven, posted_to, TellsGiven, knows_of}
use Rattle.pool_table.specs.Counts.{weigh, HasCount}
use Rattle.pool_table.specs.Hands.{at_birth_as}
use Rattle.pool_table.specs.Letters.{post_of}
use Rattle.pool_table.specs.Sound.{IsSound, IsPlain, NoteStands}
use Rattle.pool_table.proofs.Exact.{count_born}
use Rattle.pool_table.proofs.Gifts.{given_in, given_within}
use Rattle.pool_table.proofs.Lasting.{Grows}
use Rattle.pool_table.proofs.Partition.{IsAmong}
use Rattle.pool_table.proofs.RegionNotes.{Among, object_notes}
use Rattle.pool_table.proofs.Tidings.{given_less, known_given, below_max}

-- a root that is told is this one
pub told_root : (r : RootId) (o : Option RootId) → root_is r o ≡ true → o ≡ Some r
told_root r None is = absurd (cc is)
told_root r (Some q) is = ap (λ (z : RootId). Some z) (same_root-is q r is)

-- what a birth gives
pub born_given : (views : List SeatView) (r : RootId) → IsBorn views r → WasGiven views r r.capacity
born_given views r born =
    let f : Entry → ℕ = at_birth_as r.place r.generation r.capacity in
    let a = sum_by-le-sum_by (weigh f) (weigh (at_gift r r.capacity)) views
    (λ v. sum_by-le-sum_by (λ (q : Part). sum_by f q.notes) (λ (q : Part). sum_by (at_gift r r.capacity) q.notes)
    (parts_of v) (λ q. sum_by-le-sum_by f (at_gift r r.capacity) q.notes gift)) in
    omega (arith, a, born)
  where
    by : (a b c d : Bool) → (c ≡ true → d ≡ true) → one_if_so ((a && b) && c) ≤ one_if_so ((a && (b && c)) && d)
    by false b c d more = omega arith
    by true false c d more = omega arith
    by true true false d more = omega arith
    by true true true d more = let e = ap one_if_so (more refl) in omega (arith, e)

    gift : (e : Entry) → at_birth_as r.place r.generation r.capacity e ≤ at_gift r r.capacity e
    gift (At o k n) = one n.did
      where
        one : (d : Did) → did_birth_as r.place r.generation r.capacity d ≤ one_if_so (gives r r.capacity n.root d)
        one (Birth q x) =
            by (q.place == r.place) (q.generation == r.generation) (q.capacity == r.capacity)
            (nat_le r.capacity q.capacity)
            (λ is. let e = eqb-true q.capacity r.capacity is in le-leb r.capacity q.capacity (omega (arith, e)))
        one d = omega arith
    gift (Ref q d) = omega arith
    gift (Busy b) = omega arith

-- an object of the shape is no mail: nothing is posted or fetched there
pub no_mail : (s : Shape) (o : Object) (lane : Option ℕ) (q : Parcel) → IsObjectOf s o
    → (MayNote s lane o (Post q) → ⊥) × (MayNote s lane o (Fetch q) → ⊥)
no_mail s (Arena a) (Some j) q fits = (λ may. cc may, λ may. cc may)
no_mail s (Cache d c) (Some j) q fits = (λ may. cc may, λ may. cc may)
no_mail s (Bin b) (Some j) q fits = (λ may. cc may, λ may. cc may)
no_mail s (Root p) (Some j) q fits = (λ may. cc may, λ may. cc may)
no_mail s (Mail a b) lane q fits = absurd fits
no_mail s o None q fits = (λ may. cc may, λ may. cc may)

module _ {H : Type 0} (stands : List ℕ → Setting → List Noted → H → Type 0) (l : Layout) where
  abbrev St : Type 0
  St = State (Option H) SeatView

  abbrev gift : RootId → ℕ → Noted → ℕ
  gift r c n = one_if_so (gives r c n.root n.did)

  -- ---- A gift is a note of the root's place.

  pub at_root : (r : RootId) (o : Object) (n : Noted) → IsPlain o n → root_is r n.root ≡ true → o ≡ Root r.place
  at_root r o n plain is = by o plain (told_root r n.root is)
    where
      by : (o : Object) → IsPlain o n → n.root ≡ Some r → o ≡ Root r.place
      by (Arena a) plain told = let both : None ≡ Some r = sym plain.0 ∙ told in absurd (cc both)
      by (Cache d c) plain told = let both : None ≡ Some r = sym plain.0 ∙ told in absurd (cc both)
      by (Bin b) plain told = let both : None ≡ Some r = sym plain.0 ∙ told in absurd (cc both)
      by (Mail a b) plain told = let both : None ≡ Some r = sym plain.0 ∙ told in absurd (cc both)
      by (Root p) plain told = ap (λ (k : ℕ). Root k) (sym (plain r told))

  among_gifts : (r : RootId) (c : ℕ) → Among stands l (home_of l.shape (Root r.place)) 1 (gift r c)
  among_gifts r c lane (At o k n) st = by (gives r c n.root n.did) refl
    where
      there : (d : Did) → n.did ≡ d → gives r c n.root d ≡ true → o ≡ Root r.place
      there (Birth q x) did is =
          let same = same_root-is q r (and-first (same_root q r) (nat_le c q.capacity) is) in
          let here : did_birth r.place n.did ≡ 1 = ap (did_birth r.place) did
          ∙ ap (λ (k : ℕ). did_birth k (Birth q x)) (sym (ap (λ (z : RootId). z.place) same))
          ∙ ap (λ (b : Bool). cond {A = ℕ} b 1 0) (eq-eqb q.place q.place refl) in ⊎_elim
          (λ (z : (did_birth r.place n.did ≡ 0) × ((g : ℕ) → did_end r.place g n.did ≡ 0)). let z0 = z.0 in
          absurd (omega (arith, z0, here)))
          (λ (e : o ≡ Root r.place). e)
          (st.in_place.rooted r.place)
      there (Extend size) did is = at_root r o n st.plain (and-first (root_is r n.root) (nat_le c size) is)
      there (Grow size x) did is = at_root r o n st.plain (and-first (root_is r n.root) (nat_le c size) is)
      there d did is = absurd (cc is)

      by : (b : Bool) → gives r c n.root n.did ≡ b → IsAmong l.shape (home_of l.shape (Root r.place)) 1 (gift r c)
          (At o k n)
      by false is = inl (ap one_if_so is)
      by true is =
          let e = there n.did refl is in inr (
            0,
            (let g : 0 < 1 = omega arith in g),
            (λ i. let b : ℕ = home_of l.shape (Root r.place) in let z : b
                ≡ b + 0 =
                omega arith in ap (λ (x : Object). eqb (home_of l.shape x) i) e ∙ ap (λ (x : ℕ). eqb x i) z),
          )
  among_gifts r c lane (Ref p d) st = inl refl
  among_gifts r c lane (Busy b) st = inl refl

  gifts_noted : (s : St) (r : IsSound stands l s) (q : RootId) (c : ℕ) (fits : IsObjectOf l.shape (Root q.place))
      → sum_by (weigh (at_gift q c)) s.views ≡ sum_by (gift q c) (r.objects (Root q.place) fits).history
  gifts_noted s r q c fits = object_notes stands l s r (Root q.place) fits (gift q c) (among_gifts q c)

  -- ---- The capacity of the root that is present.

  -- it was given
  capacity_given : (s : St) (r : IsSound stands l s) (p : ℕ) (fits : IsObjectOf l.shape (Root p)) (x : RootPlace)
      (q : Present) → IsPlaceAfter p (r.objects (Root p) fits).history x → x.present ≡ Some q
      → WasGiven s.views q.root (length q.bytes)
  capacity_given s r p fits x q after is =
      let place : q.root.place ≡ p = (place_fits p (r.objects (Root p) fits).history x after q is).0 in
      subst (λ (k : ℕ). (fits : IsObjectOf l.shape (Root k)) → IsPlaceAfter k (r.objects (Root k) fits).history x
      → WasGiven s.views q.root (length q.bytes)) place
      (λ fits after. let a = gifts_noted s r q.root (length q.bytes) fits in
      let b = given_in q.root.place l.shape (r.objects (Root q.root.place) fits).history x q
      (r.objects (Root q.root.place) fits).accepted after is in
      omega (arith, a, b)) fits after

  -- and no more was
  pub given_no_more : (s : St) (r : IsSound stands l s) (p : ℕ) (fits : IsObjectOf l.shape (Root p)) (x : RootPlace)
      (q : Present) (c : ℕ) → IsPlaceAfter p (r.objects (Root p) fits).history x → x.present ≡ Some q
      → WasGiven s.views q.root c → c ≤ length q.bytes
  given_no_more s r p fits x q c after is given =
      let place : q.root.place ≡ p = (place_fits p (r.objects (Root p) fits).history x after q is).0 in
      subst (λ (k : ℕ). (fits : IsObjectOf l.shape (Root k)) → IsPlaceAfter k (r.objects (Root k) fits).history x
      → c ≤ length q.bytes) place
      (λ fits after. let a = gifts_noted s r q.root c fits in
      given_within q.root.place l.shape (r.objects (Root q.root.place) fits).history x q c
      (r.objects (Root q.root.place) fits).accepted after is (omega (arith, a, given))) fits after

  -- ---- What the note of a section tells.

  room_given : (s : St) (r : IsSound stands l s) (p : ℕ) (fits : IsObjectOf l.shape (Root p)) (n : Noted) (asked c : ℕ)
      (q : RootId) → n.did ≡ Room asked c → n.root ≡ Some q
      → IsLawful l.shape (Root p) ((r.objects (Root p) fits).history ++ n ∷ []) → WasGiven s.views q c
  room_given s r p fits n asked c q did is accepted =
      let h = (r.objects (Root p) fits).history in let y = place_there l.shape p (h ++ n ∷ []) accepted in
      let last = last_note (place_step p) h n new_place y.0 y.1 in
      by last.0 y.0 last.1 (last.0).present refl (ap (place_step p last.0) (sym did) ∙ last.2)
      ((right_last (Root p) h n accepted.right).0
      ∙ (λ i. root_for (did i) (present_in (last.1 i))))
    where
      by : (x y : RootPlace) → IsPlaceAfter p (r.objects (Root p) fits).history x → (o : Option Present) → x.present ≡ o
          → place_step_by p x o (Room asked c) ≡ Some y → n.root ≡ root_for (Room asked c) x.present
          → WasGiven s.views q c
      by x y after None here e root = absurd (cc e)
      by x y after (Some w) here e root =
          let made = so ((c == length w.bytes) && (nat_le asked c || nat_lt w.region.place.len asked)) x y e in
          let size : c ≡ length w.bytes = eqb-true c (length w.bytes)
          (and-first (c == length w.bytes) (nat_le asked c || nat_lt w.region.place.len asked) made.0) in
          let both : Some q ≡ Some w.root = sym is ∙ root ∙ ap (root_for (Room asked c)) here in
          let same : q ≡ w.root = cc both in
          subst (λ (y : RootId × ℕ). WasGiven s.views y.0 y.1) (λ i. (sym same i, sym size i))
          (capacity_given s r p fits x w after here)

  pub note_tells : (s : St) (r : IsSound stands l s) (after : List SeatView) (o : Object) (fits : IsObjectOf l.shape o)
      (k : ℕ) (lane : Option ℕ) (n : Noted) → Grows s.views after
      → ((f : Entry → ℕ) → f (At o k n) ≤ sum_by (weigh f) after) → NoteStands l.shape lane o n
      → IsLawful l.shape o ((r.objects o fits).history ++ n ∷ []) → TellsGiven after (At o k n)
  note_tells s r after o fits k lane n grows counts st accepted q some_told = by n.did refl some_told
    where
      -- a gift of this note
      here : (c : ℕ) → gives q c n.root n.did ≡ true → WasGiven after q c
      here c is = let a = counts (at_gift q c) in let b : gift q c n ≡ 1 = ap one_if_so is in omega (arith, a, b)

      -- what is told of a test
      given : (b : Bool) (c : ℕ) → 0 < max (if b then c else 0) 0 → (b ≡ true → WasGiven after q c)
          → WasGiven after q (max (if b then c else 0) 0)
      given true c lt got =
          let whole : c ≤ c = omega arith in let none : 0 ≤ c = omega arith in
          given_less after q c (max c 0) (max-le whole none) (got refl)
      given false c lt got = absurd (omega (arith, lt))

      -- what is told of the present root was given before
      room : (asked c : ℕ) → n.did ≡ Room asked c → root_is q n.root ≡ true → WasGiven after q c
      room asked c did is =
          subst (λ (o : Object). (fits : IsObjectOf l.shape o)
          → IsLawful l.shape o ((r.objects o fits).history ++ n ∷ []) → WasGiven after q c)
          (sym (at_root q o n st.plain is))
          (λ fits accepted. let a = grows (at_gift q c) in
          let b = room_given s r q.place fits n asked c q did (told_root q n.root is) accepted in
          omega (arith, a, b)) fits accepted

      by : (d : Did) → n.did ≡ d → 0 < max (told_by q n.root (law_entry (At o k (record n { did = d }))).note)
          (posted_to q d)
          → WasGiven after q (max (told_by q n.root (law_entry (At o k (record n { did = d }))).note) (posted_to q d))
      by (Birth b x) did lt = given (same_root b q) b.capacity lt
          (λ is. here b.capacity (ap (gives q b.capacity n.root) did
          ∙ (λ i. is i && le-leb b.capacity b.capacity (omega arith) i)))
      by (Extend size) did lt = given (root_is q n.root) size lt
          (λ is. here size (ap (gives q size n.root) did ∙ (λ i. is i && le-leb size size (omega arith) i)))
      by (Grow size x) did lt = given (root_is q n.root) size lt
          (λ is. here size (ap (gives q size n.root) did ∙ (λ i. is i && le-leb size size (omega arith) i)))
      by (Room asked c) did lt = given (root_is q n.root) c lt (λ is. room asked c did is)
      by (Post parcel) did lt =
          absurd ((no_mail l.shape o lane parcel fits).0 (subst (λ (d : Did). MayNote l.shape lane o d) did
          st.lane_may))
      by (Fetch parcel) did lt =
          absurd ((no_mail l.shape o lane parcel fits).1 (subst (λ (d : Did). MayNote l.shape lane o d) did
          st.lane_may))
      by d did lt = absurd (omega (arith, lt))

  -- ---- What a view knows.

  module _ (s : St) (r : IsSound stands l s) (id : ℕ) (v : SeatView) (at : get_elem? s.views id ≡ some v) where
    abbrev Knows : Part → Type 0
    Knows q = All (TellsGiven s.views) q.notes

    own_known : All (TellsGiven s.views) v.own.notes
    own_known =
        All-head Knows v.own v.others (each_at (λ (u : SeatView). All Knows (parts_of u)) s.views id v r.known at)

    -- as much as a view knows of a root that it counts was given
    pub knows_given : (q : RootId) → HasCount q v → (c : ℕ) → 0 < c → c ≤ knows_of q v → WasGiven s.views q c
    knows_given q has c pos le = ⊎_elim
        (λ (low : c ≤ q.capacity). given_less s.views q q.capacity c low
        (born_given s.views q (count_born stands l s r id v at q has)))
        (λ (low : c ≤ known_of q (lane_entries v)). known_given s.views q v.own.notes own_known c pos low)
        (below_max q.capacity (known_of q (lane_entries v)) c le)

    -- and the root has as much
    pub knows_no_more : (q : RootId) → HasCount q v → (p : ℕ) (fits : IsObjectOf l.shape (Root p)) (x : RootPlace)
        (w : Present) → IsPlaceAfter p (r.objects (Root p) fits).history x → x.present ≡ Some w → w.root ≡ q
        → knows_of q v ≤ length w.bytes
    knows_no_more q has p fits x w after is same = dite (ℕ_discrete (knows_of q v) 0)
        (λ z. let n : ℕ = knows_of q v in let z' : n ≡ 0 = z in let g : n ≤ length w.bytes = omega (arith, z') in g)
        (λ ne. given_no_more s r p fits x w (knows_of q v) after is
        (subst (λ (t : RootId). WasGiven s.views t (knows_of q v)) (sym same)
        (knows_given q has (knows_of q v) (let n : ℕ = knows_of q v in let ne' : n ≡ 0 → ⊥ = ne in let g : 0 < n =
        omega (arith, ne') in g) (le_refl (knows_of q v)))))

    -- what a post tells, whose view reaches no further than its sender knows
    pub post_tells : (x : Letter) → IfSome x.parcel.view (λ (w : ViewData). HasCount w.root v)
        → IfSome x.parcel.view (λ (w : ViewData). w.offset + w.len ≤ knows_of w.root v) → TellsGiven s.views (post_of x)
    post_tells x counts reaches q lt = by x.parcel.view counts reaches lt
      where
        inner : (w : ViewData) (b : Bool) → HasCount w.root v → w.offset + w.len ≤ knows_of w.root v
            → same_root w.root q ≡ b → 0 < max 0 (if b then w.offset + w.len else 0)
            → WasGiven s.views q (max 0 (if b then w.offset + w.len else 0))
        inner w false has reach is lt = absurd (omega (arith, lt))
        inner w true has reach is lt =
            let c : ℕ = w.offset + w.len in let m : ℕ = max 0 c in
            let none : 0 ≤ c = omega arith in let whole : c ≤ c = omega arith in
            let most : m ≤ c = max-le none whole in let lt' : 0 < m = lt in
            subst (λ (t : RootId). WasGiven s.views t m) (same_root-is w.root q is)
            (knows_given w.root has m lt' (let k : ℕ = knows_of w.root v in let reach' : c ≤ k = reach in
            let g : m ≤ k = omega (arith, most, reach') in g))

        by : (o : Option ViewData) → IfSome o (λ (w : ViewData). HasCount w.root v)
            → IfSome o (λ (w : ViewData). w.offset + w.len ≤ knows_of w.root v) → 0 < max 0 (reach_of q o)
            → WasGiven s.views q (max 0 (reach_of q o))
        by None counts reaches lt = absurd (omega (arith, lt))
        by (Some w) counts reaches lt = inner w (same_root w.root q) counts reaches refl lt
