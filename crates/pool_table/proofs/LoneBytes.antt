-- What a place's history says of the bytes of a root that one seat alone names: its own notes laid them.
use Rattle.step_law.specs.Settings.{Setting}
use Rattle.std.proofs.Common.{◌≡◌, ◌⊎◌, ℕ, ◌+◌, ◌-◌, ◌<◌, ◌≤◌, Bool, true, false, cond, eqb, List, [], ◌∷◌, ◌++◌, length, map, replicate, sym, refl, ap, ◌∙◌, inl, inr, ⊎_elim, arith, eq-eqb, eqb-true, Some, None}
use Rattle.std.specs.Prelude.{◌==◌, ◌&&◌, ◌||◌, nat_lt, nat_le, if◌then◌else◌, Option, All, sum_by, fold, filter, filter_map}
use Rattle.std.proofs.lemmas.List.Elements.{All-cons, All-nil, All-head, All-tail, All-weaker}
use Rattle.std.proofs.lemmas.List.Sums.{sum_by-cons}
use mathlib.Core.Logic.{dite}
use native.Mathlib.Decide.{ℕ_discrete}
use mathlib.Core.Option.{some}
use lib.ListN.{get_elem?}
use Rattle.atomic_table.specs.Table.{State}
use Rattle.atomic_table.proofs.Lists.{at_map}
use Rattle.step_law.proofs.Changes.{each_at}
use Rattle.pool_law.specs.declared.run.Shape.{Shape}
use Rattle.pool_law.specs.declared.id.RootId.{RootId}
use Rattle.pool_law.specs.declared.note.Did.{Did}
use Rattle.pool_law.specs.declared.note.Did.TheVariants.{Birth, Set, Get, Touch, Room, Extend, Grow, End}
use Rattle.pool_law.specs.declared.note.Noted.{Noted}
use Rattle.pool_law.specs.declared.note.Object.{Object}
use Rattle.pool_law.specs.declared.note.Object.TheVariants.{Root}
use Rattle.pool_law.specs.Homes.{home_of, IsObjectOf}
use Rattle.pool_law.specs.Histories.{place_after}
use Rattle.pool_law.specs.NotedHistories.{noted_dids, IsRightAt}
use Rattle.pool_law.specs.Same.{same_root, same_bytes}
use Rattle.pool_law.specs.Logs.{present_in, root_for}
use Rattle.pool_law.specs.Counts.{root_is}
use Rattle.pool_law.specs.Roots.{RootPlace, Present, new_place, born, may_be_born, with_bytes, laid_over, bytes_at, zeros_to, place_step, place_step_by}
use Rattle.pool_law.proofs.PatternLemmas.{same_root-refl}
use Rattle.history_laws.specs.Histories.{IsLawful, IsPlaceAfter}
use Rattle.history_laws.specs.NoteCounts.{one_if_so, did_birth, did_birth_as, did_end, did_end_of}
use Rattle.history_laws.proofs.BinSteps.{so}
use Rattle.history_laws.proofs.Runs.{Runs, told, next_note}
use Rattle.pool_table.specs.declared.views.Entry.{Entry}
use Rattle.pool_table.specs.declared.views.Entry.TheVariants.{At, Ref, Busy}
use Rattle.pool_table.specs.declared.views.Layout.{Layout}
use Rattle.pool_table.specs.declared.views.Part.{Part}
use Rattle.pool_table.specs.declared.views.SeatView.{SeatView}
use Rattle.pool_table.specs.Views.{ObjectView, object_view, object_part, inside_total, is_in, is_about, is_lane, noted_of, noted_weight}
use Rattle.pool_table.specs.Counts.{weigh}
use Rattle.pool_table.specs.Lone.{told_at, names, IsLone, laid_by, laid_in, own_bytes}
use Rattle.pool_table.specs.Sound.{IsSound, IsView, IsTold, Stands}
use Rattle.pool_table.proofs.Capacities.{at_root}
use Rattle.pool_table.proofs.GiftSteps.{one_present}
use Rattle.pool_table.proofs.Lone.{own_slack}
use Rattle.pool_table.proofs.Partition.{IsAmong}
use Rattle.pool_table.proofs.RegionNotes.{Among, object_notes}
use Rattle.pool_table.proofs.RootEntries.{as_birth}

-- ---- What notes lay.

-- the note is made on this root
abbrev pub access : RootId → Noted → ℕ
access r n = one_if_so (root_is r n.root)

abbrev lay : RootId → List ℕ → Noted → List ℕ
lay r bytes n = laid_by r bytes n.root n.did

-- who doesn't tell of a root lays nothing
untold : (r : RootId) (n : Noted) (bytes : List ℕ) → told_at r n ≡ 0 → lay r bytes n ≡ bytes
untold r n bytes = by n.did
  where
    choose : (x y : List ℕ) (a b c : Bool) (m : ℕ) → cond {A = ℕ} ((a && b) && c) 1 0 + m ≡ 0
        → (if a && (b && c) then x else y) ≡ y
    choose x y true true true m z = absurd (omega (arith, z))
    choose x y true true false m z = refl
    choose x y true false c m z = refl
    choose x y false b c m z = refl

    on : (x y : List ℕ) (b : Bool) (m k : ℕ) → m + (one_if_so b + k) ≡ 0 → (if b then x else y) ≡ y
    on x y true m k z = absurd (omega (arith, z))
    on x y false m k z = refl

    by : (d : Did) → did_birth_as r.place r.generation r.capacity d + (access r n + did_end_of r d) ≡ 0
        → laid_by r bytes n.root d ≡ bytes
    by (Birth q x) z =
        choose (replicate r.capacity 0) bytes (q.place == r.place) (q.generation == r.generation)
        (q.capacity == r.capacity) (access r n + 0) z
    by (Set offset more) z = on (laid_over bytes offset more) bytes (root_is r n.root) 0 0 z
    by (Extend size) z = on (zeros_to size bytes) bytes (root_is r n.root) 0 0 z
    by (Grow size x) z = on (zeros_to size bytes) bytes (root_is r n.root) 0 0 z
    by d z = refl

module _ (p : ℕ) (r : RootId) where
  -- what is present has these bytes, if it is this root
  abbrev Has : RootPlace → List ℕ → Type 0
  Has x bytes = (q : Present) → x.present ≡ Some q → q.root ≡ r → q.bytes ≡ bytes

  record Lays (x : RootPlace) (n : Noted) (y : RootPlace) : Type 0 where
    pub did : place_step p x n.did ≡ Some y
    pub root : n.root ≡ root_for n.did x.present

  runs : (s : Shape) (h : List Noted) (x : RootPlace) → IsLawful s (Root p) h → IsPlaceAfter p h x
      → Runs Lays new_place h x
  runs s h x t e = told (place_step p) (Root p) (IsPlaceAfter p) Lays one h [] new_place x refl t.right e
    where
      carried : (before : List Noted) (x : RootPlace) (n : Noted) → IsPlaceAfter p before x
          → n.root ≡ root_for n.did (present_in (place_after p (noted_dids before))) → n.root ≡ root_for n.did x.present
      carried before x n e r = r ∙ ap (λ (o : Option RootPlace). root_for n.did (present_in o)) e

      one : (before : List Noted) (x y : RootPlace) (n : Noted) → IsPlaceAfter p before x → IsRightAt (Root p) before n
          → place_step p x n.did ≡ Some y → Lays x n y × IsPlaceAfter p (before ++ n ∷ []) y
      one before x y n there right is = (
        record { did = is; root = carried before x n there right.0 },
        next_note (place_step p) before n new_place x y there is,
      )

  step : (x y : RootPlace) (n : Noted) (bytes : List ℕ) → Lays x n y → Has x bytes → Has y (lay r bytes n)
  step x y n bytes lays has = by n.did x.present refl lays.did lays.root
    where
      -- the place is as it was
      same : x ≡ y → Has y bytes
      same e q is root = has q (ap (λ (z : RootPlace). z.present) e ∙ is) root

      -- what is present has other bytes
      other : (w new : Present) (f : List ℕ → List ℕ) → x.present ≡ Some w → y.present ≡ Some new
          → new.root ≡ w.root → new.bytes ≡ f w.bytes → n.root ≡ Some w.root
          → Has y (if root_is r n.root then f bytes else bytes)
      other w new f here is root laid carries q there this =
          let e : new ≡ q = one_present {o = y.present} new q is there in
          let of : w.root ≡ r = sym root ∙ ap (λ (z : Present). z.root) e ∙ this in
          let so : root_is r n.root ≡ true = ap (root_is r) carries ∙ ap (λ (z : RootId). same_root z r) of
          ∙ same_root-refl r in
          sym (ap (λ (z : Present). z.bytes) e) ∙ laid ∙ ap f (has w here of)
          ∙ sym (ap (λ (b : Bool). if b then f bytes else bytes) so)

      by : (d : Did) (o : Option Present) → x.present ≡ o → place_step_by p x o d ≡ Some y → n.root ≡ root_for d o
          → Has y (laid_by r bytes n.root d)
      by (Birth t z) None here e carries =
          λ q is this.
          let made = so (may_be_born p x t z) (born t z) y e in
          let what : Some q ≡ (born t z).present = sym is ∙ ap (λ (w : RootPlace). w.present) (sym made.1) in
          let new : q ≡ record { root = t; region = z; bytes = replicate t.capacity 0 } = cc what in
          let of : t ≡ r = sym (ap (λ (w : Present). w.root) new) ∙ this in
          let so : same_root t r ≡ true = ap (λ (w : RootId). same_root w r) of ∙ same_root-refl r in
          ap (λ (w : Present). w.bytes) new ∙ ap (λ (w : RootId). replicate w.capacity 0) of
          ∙ sym (ap (λ (b : Bool). if b then replicate r.capacity 0 else bytes) so)
      by (Set i bs) (Some w) here e carries =
          let made = so (nat_le (i + length bs) (length w.bytes)) (with_bytes x w (laid_over w.bytes i bs)) y e in
          other w (record w { bytes = laid_over w.bytes i bs }) (λ b. laid_over b i bs) here
          (ap (λ (z : RootPlace). z.present) (sym made.1)) refl refl carries
      by (Get i bs) (Some w) here e carries =
          same (so (nat_le (i + length bs) (length w.bytes) && same_bytes bs (bytes_at w.bytes i (length bs))) x y e).1
      by Touch (Some w) here e carries = same (cc e)
      by (Room asked capacity) (Some w) here e carries =
          same (so ((capacity == length w.bytes) && (nat_le asked capacity || nat_lt w.region.place.len asked)) x y e).1
      by (Extend size) (Some w) here e carries =
          let made = so (nat_lt (length w.bytes) size && nat_le size w.region.place.len)
          (with_bytes x w (zeros_to size w.bytes)) y e in
          other w (record w { bytes = zeros_to size w.bytes }) (λ b. zeros_to size b) here
          (ap (λ (z : RootPlace). z.present) (sym made.1)) refl refl carries
      by (Grow size z) (Some w) here e carries =
          let made = so (nat_lt w.region.place.len size && nat_le size z.place.len)
          (with_bytes x (record w { region = z }) (zeros_to size w.bytes)) y e in
          other w (record w { region = z; bytes = zeros_to size w.bytes }) (λ b. zeros_to size b) here
          (ap (λ (z : RootPlace). z.present) (sym made.1)) refl refl carries
      by (End t) (Some w) here e carries =
          λ q is this.
          let made = so (same_root t w.root) (record x { present = None }) y e in
          let both : Some q ≡ None = sym is ∙ ap (λ (z : RootPlace). z.present) (sym made.1) in absurd (cc both)
      by d None here e carries = absurd (cc e)
      by d (Some w) here e carries = absurd (cc e)

  laid : (h : List Noted) (x y : RootPlace) (bytes : List ℕ) → Runs Lays x h y → Has x bytes
      → Has y (fold (lay r) bytes h)
  laid [] x y bytes t has = λ q is root. has q (ap (λ (z : RootPlace). z.present) t ∙ is) root
  laid (n ∷ h) x y bytes t has = laid h t.0 y (lay r bytes n) t.2 (step x t.0 n bytes t.1 has)

-- ---- Notes of one lane.

abbrev OfLane : ℕ → Noted → Bool
OfLane m n = is_lane m n.lane

-- each note that tells of the root is the lane's
abbrev IsBy : ℕ → RootId → Noted → Type 0
IsBy m r n = 0 < told_at r n → OfLane m n ≡ true

by_lane : (m : ℕ) (r : RootId) (h : List Noted) (bytes : List ℕ) → All (IsBy m r) h
    → fold (lay r) bytes h ≡ fold (lay r) bytes (filter (OfLane m) h)
by_lane m r [] bytes all = refl
by_lane m r (n ∷ h) bytes all =
    one (OfLane m n) refl (λ b. by_lane m r h b (All-tail (IsBy m r) n h all))
  where
    one : (b : Bool) → OfLane m n ≡ b
        → ((bs : List ℕ) → fold (lay r) bs h ≡ fold (lay r) bs (filter (OfLane m) h))
        → fold (lay r) (lay r bytes n) h ≡ fold (lay r) bytes (cond b (n ∷ filter (OfLane m) h) (filter (OfLane m) h))
    one true is rest = rest (lay r bytes n)
    one false is rest = dite (ℕ_discrete (told_at r n) 0)
        (λ z. ap (λ (b : List ℕ). fold (lay r) b h) (untold r n bytes z) ∙ rest bytes)
        (λ ne. let so = All-head (IsBy m r) n h all (omega (arith, ne)) in
        let both : true ≡ false = sym so ∙ is in absurd (cc both))

-- an entry is about the object with this home, or its note tells nothing of the root
abbrev IsApart : Shape → ℕ → RootId → Entry → Type 0
IsApart s i r e = (is_about s i e ≡ true) ⊎ (noted_weight (told_at r) e ≡ 0)

module _ (s : Shape) (i : ℕ) (r : RootId) where
  abbrev here : List Entry → List Noted
  here es = filter_map noted_of (filter (is_about s i) es)

  in_entries : (es : List Entry) (bytes : List ℕ) → All (IsApart s i r) es
      → fold (lay r) bytes (here es) ≡ fold (laid_in r) bytes es
  in_entries [] bytes all = refl
  in_entries (e ∷ es) bytes all =
      one e (is_about s i e) refl (All-head (IsApart s i r) e es all)
      (λ b. in_entries es b (All-tail (IsApart s i r) e es all))
    where
      one : (e : Entry) (b : Bool) → is_about s i e ≡ b → IsApart s i r e
          → ((bs : List ℕ) → fold (lay r) bs (here es) ≡ fold (laid_in r) bs es)
          → fold (lay r) bytes (filter_map noted_of (cond b (e ∷ filter (is_about s i) es) (filter (is_about s i) es)))
          ≡ fold (laid_in r) (laid_in r bytes e) es
      one (At o k n) true is apart rest = rest (lay r bytes n)
      one (At o k n) false is (inl so) rest = let both : true ≡ false = sym so ∙ is in absurd (cc both)
      one (At o k n) false is (inr z) rest =
          rest bytes ∙ ap (λ (b : List ℕ). fold (laid_in r) b es) (sym (untold r n bytes z))
      one (Ref q d) true is apart rest = rest bytes
      one (Ref q d) false is apart rest = rest bytes
      one (Busy b) true is apart rest = rest bytes
      one (Busy b) false is apart rest = rest bytes

  weighs_here : (w : Noted → ℕ) → ((n : Noted) → w n ≤ told_at r n) → (es : List Entry) → All (IsApart s i r) es
      → sum_by (noted_weight w) es ≡ sum_by w (here es)
  weighs_here w le [] all = refl
  weighs_here w le (e ∷ es) all =
      let a = sum_by-cons (noted_weight w) e es in
      let b = weighs_here w le es (All-tail (IsApart s i r) e es all) in
      let c = one e (is_about s i e) refl (All-head (IsApart s i r) e es all) in omega (arith, a, b, c)
    where
      one : (e : Entry) (b : Bool) → is_about s i e ≡ b → IsApart s i r e
          → sum_by w (filter_map noted_of (cond b (e ∷ filter (is_about s i) es) (filter (is_about s i) es)))
          ≡ noted_weight w e + sum_by w (here es)
      one (At o k n) true is apart = sum_by-cons w n (here es)
      one (At o k n) false is (inl so) = let both : true ≡ false = sym so ∙ is in absurd (cc both)
      one (At o k n) false is (inr z) = let t = le n in let x : ℕ = sum_by w (here es) in omega (arith, t, z)
      one (Ref q d) true is apart = omega arith
      one (Ref q d) false is apart = omega arith
      one (Busy b) true is apart = omega arith
      one (Busy b) false is apart = omega arith

foreign_le : (m : ℕ) (r : RootId) (n : Noted) → cond {A = ℕ} (OfLane m n) 0 (told_at r n) ≤ told_at r n
foreign_le m r n = by (OfLane m n)
  where
    by : (b : Bool) → cond {A = ℕ} b 0 (told_at r n) ≤ told_at r n
    by true = omega arith
    by false = omega arith

-- the lane's own notes weigh nothing as others'
none_foreign : (m : ℕ) (r : RootId) (h : List Noted)
    → sum_by (λ (n : Noted). cond {A = ℕ} (OfLane m n) 0 (told_at r n)) (filter (OfLane m) h) ≡ 0
none_foreign m r [] = refl
none_foreign m r (n ∷ h) = one (OfLane m n) refl (none_foreign m r h)
  where
    one : (b : Bool) → OfLane m n ≡ b
        → sum_by (λ (n : Noted). cond {A = ℕ} (OfLane m n) 0 (told_at r n)) (filter (OfLane m) h) ≡ 0
        → sum_by (λ (n : Noted). cond {A = ℕ} (OfLane m n) 0 (told_at r n))
        (cond b (n ∷ filter (OfLane m) h) (filter (OfLane m) h)) ≡ 0
    one true is rest =
        let f : Noted → ℕ = λ (n : Noted). cond {A = ℕ} (OfLane m n) 0 (told_at r n) in
        let a = sum_by-cons f n (filter (OfLane m) h) in
        let z : f n ≡ 0 = ap (λ (b : Bool). cond {A = ℕ} b 0 (told_at r n)) is in omega (arith, a, rest, z)
    one false is rest = rest

-- where others' notes weigh nothing, each that tells of the root is the lane's
all_own : (m : ℕ) (r : RootId) (h : List Noted)
    → sum_by (λ (n : Noted). cond {A = ℕ} (OfLane m n) 0 (told_at r n)) h ≡ 0 → All (IsBy m r) h
all_own m r [] z = All-nil (IsBy m r)
all_own m r (n ∷ h) z =
    let f : Noted → ℕ = λ (n : Noted). cond {A = ℕ} (OfLane m n) 0 (told_at r n) in
    let a = sum_by-cons f n h in
    All-cons (IsBy m r) n h (λ lt. one (OfLane m n) refl (omega (arith, a, z)) lt)
    (all_own m r h (omega (arith, a, z)))
  where
    one : (b : Bool) → OfLane m n ≡ b → cond {A = ℕ} (OfLane m n) 0 (told_at r n) ≡ 0 → 0 < told_at r n → b ≡ true
    one true is none lt = refl
    one false is none lt =
        let e : cond {A = ℕ} (OfLane m n) 0 (told_at r n) ≡ told_at r n =
        ap (λ (b : Bool). cond {A = ℕ} b 0 (told_at r n)) is in absurd (omega (arith, e, none, lt))

-- ---- The table.

end_less : (r : RootId) (d : Did) → ((g : ℕ) → did_end r.place g d ≡ 0) → did_end_of r d ≡ 0
end_less r (End q) none = by (q.place == r.place) (q.generation == r.generation) (q.capacity == r.capacity)
    (none r.generation)
  where
    by : (a b c : Bool) → cond {A = ℕ} (a && b) 1 0 ≡ 0 → cond {A = ℕ} (a && (b && c)) 1 0 ≡ 0
    by true true c z = absurd (omega (arith, z))
    by true false c z = refl
    by false b c z = refl
end_less r d none = refl

module _ {H : Type 0} (stands : List ℕ → Setting → List Noted → H → Type 0) (l : Layout) where
  pub told_own : (s : State (Option H) SeatView) (r : IsSound stands l s) (id : ℕ) (v : SeatView) (o : Object)
      (fits : IsObjectOf l.shape o) → get_elem? s.views id ≡ some v
      → let i = home_of l.shape o in let h = (r.objects o fits).history in
      IsTold o h (length h + (inside_total (map (object_view l.shape i) s.views) - is_in (object_view l.shape i v)))
      (object_part l.shape i v.own)
  told_own s r id v o fits at =
      let i : ℕ = home_of l.shape o in let k = r.objects o fits in let h : List Noted = k.history in
      let t : ℕ = inside_total (map (object_view l.shape i) s.views) in let limit : ObjectView
      → ℕ = λ (f : ObjectView). length h + (t - is_in f) in
      All-head (IsTold o h (limit (object_view l.shape i v))) (object_part l.shape i v.own)
      (map (object_part l.shape i) v.others)
      (each_at (λ (f : ObjectView). All (IsTold o h (limit f)) f.parts) (map (object_view l.shape i) s.views) id
      (object_view l.shape i v)
      k.told (at_map (object_view l.shape i) s.views id v at))

  pub among_accesses : (q : RootId) → Among stands l (home_of l.shape (Root q.place)) 1 (access q)
  among_accesses q lane (At o k n) st = by (root_is q n.root) refl
    where
      by : (b : Bool) → root_is q n.root ≡ b → IsAmong l.shape (home_of l.shape (Root q.place)) 1 (access q) (At o k n)
      by false is = inl (ap one_if_so is)
      by true is = inr (about q (At o k n) (at_root stands l q o n st.plain is))
        where
          about : (q : RootId) (e : Entry) → o ≡ Root q.place
              → (j : ℕ) × (j < 1) × ((i : ℕ) → is_about l.shape i (At o k n)
              ≡ eqb (home_of l.shape (Root q.place) + j) i)
          about q e same = (
            0,
            (let g : 0 < 1 = omega arith in g),
            (λ i. let b : ℕ = home_of l.shape (Root q.place) in let z : b
                ≡ b + 0 =
                omega arith in ap (λ (x : Object). eqb (home_of l.shape x) i) same ∙ ap (λ (x : ℕ). eqb x i) z),
          )
  among_accesses q lane (Ref p d) st = inl refl
  among_accesses q lane (Busy b) st = inl refl

  -- what tells of a root stands at its place
  among_told : (q : RootId) (lane : Option ℕ) (e : Entry) → Stands l.shape lane e
      → IsApart l.shape (home_of l.shape (Root q.place)) q e
  among_told q lane (At o k n) st = ⊎_elim
      (λ (z : (did_birth q.place n.did ≡ 0) × ((g : ℕ) → did_end q.place g n.did ≡ 0)).
      by (root_is q n.root) refl (as_birth q.place q.generation q.capacity n.did z.0) (end_less q n.did z.1))
      (λ (e : o ≡ Root q.place). inl (here e))
      (st.in_place.rooted q.place)
    where
      here : o ≡ Root q.place → is_about l.shape (home_of l.shape (Root q.place)) (At o k n) ≡ true
      here e = let b : ℕ = home_of l.shape (Root q.place) in
          ap (λ (x : Object). eqb (home_of l.shape x) b) e ∙ eq-eqb b b refl

      by : (b : Bool) → root_is q n.root ≡ b → did_birth_as q.place q.generation q.capacity n.did ≡ 0
          → did_end_of q n.did ≡ 0 → IsApart l.shape (home_of l.shape (Root q.place)) q (At o k n)
      by true is y z = inl (here (at_root stands l q o n st.plain is))
      by false is y z =
          let x : access q n ≡ 0 = ap one_if_so is in
          inr (let g : told_at q n ≡ 0 = omega (arith, x, y, z) in g)
  among_told q lane (Ref p d) st = inr refl
  among_told q lane (Busy b) st = inr refl

  module _ (s : State (Option H) SeatView) (r : IsSound stands l s) (id : ℕ) (v : SeatView)
      (at : get_elem? s.views id ≡ some v) (q : RootId) (fits : IsObjectOf l.shape (Root q.place)) (m : ℕ)
      (number : v.own.number ≡ Some m) (lone : IsLone q v) where
    abbrev i : ℕ
    i = home_of l.shape (Root q.place)

    abbrev h : List Noted
    h = (r.objects (Root q.place) fits).history

    abbrev w : Noted → ℕ
    w n = cond (OfLane m n) 0 (told_at q n)

    own_is : filter_map noted_of (filter (is_about l.shape i) v.own.notes) ≡ filter (OfLane m) h
    own_is = (told_own s r id v (Root q.place) fits at).own m number

    apart : All (IsApart l.shape i q) v.own.notes
    apart =
        All-weaker (Stands l.shape v.own.number) (IsApart l.shape i q) (among_told q v.own.number) v.own.notes
        (All-head (λ (p : Part). All (Stands l.shape p.number) p.notes) v.own v.others
        (each_at (IsView l.shape r.setting) s.views id v r.views at).notes)

    among_foreign : Among stands l i 1 w
    among_foreign lane (At o k n) st = ⊎_elim
        (λ (e : is_about l.shape i (At o k n) ≡ true). inr (
          0,
          (let g : 0 < 1 = omega arith in g),
          (λ j. let b : ℕ = i in let z : b ≡ b + 0 = omega arith in
              ap (λ (x : ℕ). eqb x j) (eqb-true (home_of l.shape o) b e ∙ z)),
        ))
        (λ (z : told_at q n ≡ 0). inl (let t = foreign_le m q n in let g : w n ≡ 0 = omega (arith, t, z) in g))
        (among_told q lane (At o k n) st)
    among_foreign lane (Ref p d) st = inl refl
    among_foreign lane (Busy b) st = inl refl

    weight_le : (e : Entry) → noted_weight w e ≤ names q e
    weight_le (At o k n) = let t = foreign_le m q n in omega (arith, t)
    weight_le (Ref p d) = omega arith
    weight_le (Busy b) = omega arith

    -- so each note of the place that tells of the root is this lane's
    by_me : All (IsBy m q) h
    by_me =
        let seen = object_notes stands l s r (Root q.place) fits w among_foreign in
        let alone = each_at (λ (u : SeatView). (t : RootId) → IsLone t u
        → sum_by (weigh (names t)) s.views ≡ sum_by (names t) u.own.notes) s.views id v r.lone at q lone in
        let slack = own_slack (noted_weight w) (names q) s.views id v weight_le at in
        let mine = weighs_here l.shape i q w (foreign_le m q) v.own.notes apart in
        let none = ap (λ (ns : List Noted). sum_by w ns) own_is ∙ none_foreign m q h in
        let x : ℕ = sum_by (weigh (noted_weight w)) s.views in let y : ℕ = sum_by (weigh (names q)) s.views in
        let o : ℕ = sum_by (noted_weight w) v.own.notes in let hw : ℕ = sum_by w h in
        let ow : ℕ = sum_by w (filter_map noted_of (filter (is_about l.shape i) v.own.notes)) in
        let seen' : x ≡ hw = seen in let alone' : y ≡ sum_by (names q) v.own.notes = alone in
        let slack' : x + sum_by (names q) v.own.notes ≤ y + o = slack in let mine' : o ≡ ow = mine in
        let none' : ow ≡ 0 = none in
        all_own m q h (omega (arith, seen', alone', slack', mine', none'))

    -- and the bytes that are there its own notes laid
    pub lone_bytes : (x : RootPlace) (w : Present) → IsPlaceAfter q.place h x → x.present ≡ Some w → w.root ≡ q
        → w.bytes ≡ own_bytes q v
    lone_bytes x w after is root =
        laid q.place q h new_place x [] (runs q.place q l.shape h x (r.objects (Root q.place) fits).accepted after)
        (λ z none this. absurd (cc none)) w is root
        ∙ by_lane m q h [] by_me
        ∙ (ap (λ (ns : List Noted). fold (lay q) [] ns) (sym own_is) ∙ in_entries l.shape i q v.own.notes [] apart)
