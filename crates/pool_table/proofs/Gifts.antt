-- What a root place's history tells of the capacity of its present root: it was given, and no more was.
use Rattle.std.proofs.Common.{◌≡◌, ◌⊎◌, ℕ, ◌<◌, ◌≤◌, Bool, true, false, List, [], ◌∷◌, length, replicate, sym, refl, ap, ◌∙◌, subst, inl, inr, ⊎_elim, arith, Some, None}
use Rattle.std.specs.Prelude.{◌&&◌, nat_le, Option, sum_by}
use Rattle.std.proofs.lemmas.List.{length-replicate}
use Rattle.std.proofs.lemmas.List.Sums.{sum_by-cons}
use Rattle.std.proofs.lemmas.Bool.{leb-true, le-leb}
use mathlib.Core.Logic.{dite}
use native.Mathlib.Decide.{ℕ_discrete}
use Rattle.pool_law.specs.declared.run.Shape.{Shape}
use Rattle.pool_law.specs.declared.id.RootId.{RootId}
use Rattle.pool_law.specs.declared.note.Did.{Did}
use Rattle.pool_law.specs.declared.note.Noted.{Noted}
use Rattle.pool_law.specs.declared.note.Object.TheVariants.{Root}
use Rattle.pool_law.specs.Same.{same_root}
use Rattle.pool_law.specs.Roots.{RootPlace, Present, new_place}
use Rattle.pool_law.specs.Logs.{root_for}
use Rattle.pool_law.specs.Counts.{root_is}
use Rattle.pool_law.proofs.SameLemmas.{and-first, and-second, same_root-is}
use Rattle.pool_law.proofs.PatternLemmas.{same_root-refl}
use Rattle.history_laws.specs.Histories.{IsLawful, IsPlaceAfter}
use Rattle.history_laws.specs.NoteCounts.{one_if_so}
use Rattle.history_laws.proofs.Runs.{Runs}
use Rattle.history_laws.proofs.PlaceSteps.{FitsPlace}
use Rattle.history_laws.proofs.Told.{place_fits}
use Rattle.pool_table.specs.Capacities.{gives}
use Rattle.pool_table.proofs.GiftSteps.{GivesNone, GivesSome, Stepped, Born, Stayed, Ended, one_present, Step, run}

module _ (p : ℕ) where
  -- ---- No generation comes back.

  monotone : (h : List Noted) (x y : RootPlace) → Runs (Step p) x h y → x.generation ≤ y.generation
  monotone [] x y r = let e = ap (λ (z : RootPlace). z.generation) r in omega (arith, e)
  monotone (n ∷ h) x y r =
      let rest = monotone h r.0 y r.2 in let one = step_up x r.0 n.did (r.1).did in omega (arith, rest, one)
    where
      step_up : (x z : RootPlace) (d : Did) → Stepped x z d → x.generation ≤ z.generation
      step_up x z d (Born b) =
          let a = b.next in let g : z.generation ≡ b.root.generation = ap (λ (w : RootPlace). w.generation) b.is in
          omega (arith, a, g)
      step_up x z d (Stayed s) = let g = s.generation in omega (arith, g)
      step_up x z d (Ended t) = let g = t.generation in omega (arith, g)

  -- a root that comes after a vacant place is of a later generation
  later : (h : List Noted) (x y : RootPlace) (q : Present) → Runs (Step p) x h y → x.present ≡ None → FitsPlace p y
      → y.present ≡ Some q → x.generation < q.root.generation
  later [] x y q r none fits is =
      let both : None ≡ Some q = sym none ∙ ap (λ (z : RootPlace). z.present) r ∙ is in absurd (cc both)
  later (n ∷ h) x y q r none fits is = by (r.1).did
    where
      by : Stepped x r.0 n.did → x.generation < q.root.generation
      by (Born b) =
          let a = b.next in let g : (r.0).generation ≡ b.root.generation = ap (λ (w : RootPlace). w.generation) b.is in
          let up = monotone h r.0 y r.2 in let here = (fits q is).1 in omega (arith, a, g, up, here)
      by (Stayed s) = let both : None ≡ Some s.old = sym none ∙ s.was in absurd (cc both)
      by (Ended t) = let both : None ≡ Some t.old = sym none ∙ t.was in absurd (cc both)

  -- ---- A root that is present keeps what it has.

  keeps_on : (h : List Noted) (x y : RootPlace) (a q : Present) → Runs (Step p) x h y → FitsPlace p y
      → x.present ≡ Some a → y.present ≡ Some q → a.root ≡ q.root → length a.bytes ≤ length q.bytes
  keeps_on [] x y a q r fy was is same =
      let one : a ≡ q = one_present {o = y.present} a q (ap (λ (z : RootPlace). z.present) (sym r) ∙ was) is in
      let e = ap (λ (z : Present). length z.bytes) one in omega (arith, e)
  keeps_on (n ∷ h) x y a q r fy was is same =
      by (r.1).did (λ b here root. keeps_on h r.0 y b q r.2 fy here is root)
    where
      by : Stepped x r.0 n.did → ((b : Present) → (r.0).present ≡ Some b → b.root ≡ q.root
          → length b.bytes ≤ length q.bytes) → length a.bytes ≤ length q.bytes
      by (Born b) more = let both : None ≡ Some a = sym b.vacant ∙ was in absurd (cc both)
      by (Stayed s) more =
          let old : s.old ≡ a = one_present {o = x.present} s.old a s.was was in
          let rest = more s.new s.is (s.same ∙ ap (λ (z : Present). z.root) old ∙ same) in
          let len : length s.old.bytes ≡ length a.bytes = ap (λ (z : Present). length z.bytes) old in
          ⊎_elim
          (λ (g : GivesNone n.did s.old s.new). let b = g.bytes in omega (arith, rest, len, b))
          (λ (g : GivesSome n.did s.old s.new). let b = g.more in omega (arith, rest, len, b))
          s.gift
      by (Ended t) more =
          let up = later h r.0 y q r.2 t.gone fy is in let g = t.generation in let f = ((r.1).fits a was).1 in
          let e : a.root.generation ≡ q.root.generation = ap (λ (z : RootId). z.generation) same in
          absurd (omega (arith, up, g, f, e))

  -- ---- What was given to the root that is present.

  abbrev gift : RootId → ℕ → Noted → ℕ
  gift r c n = one_if_so (gives r c n.root n.did)

  given : (b : Bool) → 0 < one_if_so b → b ≡ true
  given true lt = refl
  given false lt = absurd (omega (arith, lt))

  -- a gift is to the root that is present then, which has as much
  record Got (y : RootPlace) (r : RootId) (c : ℕ) : Type 0 where
    pub now : Present
    pub is : y.present ≡ Some now
    pub root : now.root ≡ r
    pub has : c ≤ length now.bytes

  got : (x y : RootPlace) (n : Noted) (r : RootId) (c : ℕ) → Step p x n y → 0 < gift r c n → Got y r c
  got x y n r c step lt = by step.did
    where
      yes : gives r c n.root n.did ≡ true
      yes = given (gives r c n.root n.did) lt

      by : Stepped x y n.did → Got y r c
      by (Born b) =
          let on : (same_root b.root r && nat_le c b.root.capacity)
          ≡ true = ap (λ (d : Did). gives r c n.root d) (sym b.did) ∙ yes in
          let size : length {A = ℕ} (replicate b.root.capacity 0) ≡ b.root.capacity =
          length-replicate b.root.capacity 0 in
          let le = leb-true c b.root.capacity (and-second (same_root b.root r) (nat_le c b.root.capacity) on) in
          record {
            now = record { root = b.root; region = b.region; bytes = replicate b.root.capacity 0 };
            is = ap (λ (z : RootPlace). z.present) b.is;
            root = same_root-is b.root r (and-first (same_root b.root r) (nat_le c b.root.capacity) on);
            has =
                omega (arith, size, le);
          }
      by (Stayed s) = ⊎_elim
          (λ (g : GivesNone n.did s.old s.new). let both : true ≡ false = sym yes ∙ g.none r c n.root in
          absurd (cc both))
          (λ (g : GivesSome n.did s.old s.new).
          let root : n.root ≡ Some s.old.root = step.root ∙ ap (root_for n.did) s.was ∙ s.carries in
          let on : (same_root s.old.root r && nat_le c g.size)
          ≡ true = ap (λ (o : Option RootId). root_is r o && nat_le c g.size) (sym root) ∙ sym (g.some r c n.root)
          ∙ yes in
          let le = leb-true c g.size (and-second (same_root s.old.root r) (nat_le c g.size) on) in let up = g.no_less in
          record {
            now = s.new;
            is = s.is;
            root = s.same
                ∙ same_root-is s.old.root r (and-first (same_root s.old.root r) (nat_le c g.size) on);
            has = omega (arith, le, up);
          })
          s.gift
      by (Ended t) = let both : true ≡ false = sym yes ∙ t.none r c n.root in absurd (cc both)

  no_more : (h : List Noted) (x y : RootPlace) (q : Present) (c : ℕ) → Runs (Step p) x h y → FitsPlace p y
      → y.present ≡ Some q → 0 < sum_by (gift q.root c) h → c ≤ length q.bytes
  no_more [] x y q c r fits is lt = absurd (omega (arith, lt))
  no_more (n ∷ h) x y q c r fits is lt =
      let s = sum_by-cons (gift q.root c) n h in dite (ℕ_discrete (gift q.root c n) 0)
      (λ z. no_more h r.0 y q c r.2 fits is (omega (arith, s, z, lt)))
      (λ ne. let g = got x r.0 n q.root c r.1 (omega (arith, ne)) in
      let up = keeps_on h r.0 y g.now q r.2 fits g.is is g.root in let has = g.has in
      omega (arith, up, has))

  -- the capacity of the root that is present was given, by the last note or before
  record Had (x : RootPlace) (q : Present) : Type 0 where
    pub before : Present
    pub is : x.present ≡ Some before
    pub root : before.root ≡ q.root
    pub bytes : length before.bytes ≡ length q.bytes

  one_gift : (r : RootId) (c : ℕ) (n : Noted) → gives r c n.root n.did ≡ true → gift r c n ≡ 1
  one_gift r c n is = ap one_if_so is

  just_given : (x y : RootPlace) (n : Noted) (q : Present) → Step p x n y → y.present ≡ Some q
      → Had x q ⊎ (gift q.root (length q.bytes) n ≡ 1)
  just_given x y n q step is = by step.did
    where
      itself : (r : RootId) (size c : ℕ) → c ≤ size → (same_root r r && nat_le c size) ≡ true
      itself r size c le = λ i. same_root-refl r i && le-leb c size le i

      by : Stepped x y n.did → Had x q ⊎ (gift q.root (length q.bytes) n ≡ 1)
      by (Born b) =
          let now : Present = record { root = b.root; region = b.region; bytes = replicate b.root.capacity 0 } in
          let one : now ≡ q = one_present {o = y.present} now q (ap (λ (z : RootPlace). z.present) b.is) is in
          let size : length {A = ℕ} (replicate b.root.capacity 0) ≡ b.root.capacity =
          length-replicate b.root.capacity 0 in
          inr (subst (λ (w : Present). gift w.root (length w.bytes) n ≡ 1) one
          (one_gift b.root (length now.bytes) n
          (ap (λ (d : Did). gives b.root (length now.bytes) n.root d) b.did
          ∙ itself b.root b.root.capacity (length now.bytes) (omega (arith, size)))))
      by (Stayed s) =
          let one : s.new ≡ q = one_present {o = y.present} s.new q s.is is in
          ⊎_elim
          (λ (g : GivesNone n.did s.old s.new). inl (record {
            before = s.old;
            is = s.was;
            root = sym s.same ∙ ap (λ (z : Present). z.root) one;
            bytes =
                sym g.bytes
                ∙ ap (λ (z : Present). length z.bytes) one;
          }))
          (λ (g : GivesSome n.did s.old s.new). let size = g.bytes (step.lies s.old s.was) in
          let root : n.root ≡ Some s.new.root = step.root ∙ ap (root_for n.did) s.was ∙ s.carries
          ∙ ap (λ (r : RootId). Some r) (sym s.same) in
          inr (subst (λ (w : Present). gift w.root (length w.bytes) n ≡ 1) one
          (one_gift s.new.root (length s.new.bytes) n
          (g.some s.new.root (length s.new.bytes) n.root
          ∙ ap (λ (o : Option RootId). root_is s.new.root o && nat_le (length s.new.bytes) g.size) root
          ∙ itself s.new.root g.size (length s.new.bytes) (omega (arith, size))))))
          s.gift
      by (Ended t) = let both : Some q ≡ None = sym is ∙ t.gone in absurd (cc both)

  was_given : (h : List Noted) (x y : RootPlace) (q : Present) → Runs (Step p) x h y → y.present ≡ Some q
      → Had x q ⊎ (0 < sum_by (gift q.root (length q.bytes)) h)
  was_given [] x y q r is =
      inl (record { before = q; is = ap (λ (z : RootPlace). z.present) r ∙ is; root = refl; bytes = refl })
  was_given (n ∷ h) x y q r is =
      let s = sum_by-cons (gift q.root (length q.bytes)) n h in ⊎_elim
      (λ (m : Had r.0 q). ⊎_elim
      (λ (k : Had x m.before). inl (record {
        before = k.before;
        is = k.is;
        root = k.root ∙ m.root;
        bytes = k.bytes ∙ m.bytes;
      }))
      (λ (e : gift m.before.root (length m.before.bytes) n ≡ 1). let e' : gift q.root (length q.bytes) n ≡ 1 =
      (λ i. gift (sym m.root i) (sym m.bytes i) n) ∙ e in inr (omega (arith, s, e')))
      (just_given x r.0 n m.before r.1 m.is))
      (λ (lt : 0 < sum_by (gift q.root (length q.bytes)) h). inr (omega (arith, s, lt)))
      (was_given h r.0 y q r.2 is)

  -- ---- Of a whole history.

  pub given_in : (s : Shape) (h : List Noted) (x : RootPlace) (q : Present) → IsLawful s (Root p) h
      → IsPlaceAfter p h x → x.present ≡ Some q → 0 < sum_by (gift q.root (length q.bytes)) h
  given_in s h x q t e is = ⊎_elim
      (λ (k : Had new_place q). absurd (cc k.is))
      (λ (lt : 0 < sum_by (gift q.root (length q.bytes)) h). lt)
      (was_given h new_place x q (run p s h x t e) is)

  pub given_within : (s : Shape) (h : List Noted) (x : RootPlace) (q : Present) (c : ℕ) → IsLawful s (Root p) h
      → IsPlaceAfter p h x → x.present ≡ Some q → 0 < sum_by (gift q.root c) h → c ≤ length q.bytes
  given_within s h x q c t e is lt = no_more h new_place x q c (run p s h x t e) (place_fits p h x e) is lt
