-- What accepted histories say of births and ends.
use Rattle.std.proofs.Common.{◌≡◌, ◌≢◌, ◌⊎◌, ℕ, ◌+◌, ◌<◌, ◌≤◌, List, [], ◌∷◌, ◌++◌, Bool, true, false, cond, eqb, sym, refl, ap, ◌∙◌, subst, inl, inr, ⊎_elim, arith, eq-eqb, ne_eqb, Some, None}
use Rattle.std.specs.Prelude.{◌&&◌, sum_by, Option, unwrap_or}
use Rattle.std.proofs.lemmas.List.Sums.{sum_by-cons}
use mathlib.Core.Logic.{dite}
use native.Mathlib.Decide.{ℕ_discrete}
use Rattle.pool_law.specs.declared.run.Shape.{Shape}
use Rattle.pool_law.specs.declared.id.RootId.{RootId}
use Rattle.pool_law.specs.declared.id.RegionId.{RegionId}
use Rattle.pool_law.specs.declared.note.Did.{Did}
use Rattle.pool_law.specs.declared.note.Did.TheVariants.{Take, Full, Give, Hit, Miss, Kept, Back, Trim, Close, Shed, Handle, NoHandle, Home, Birth, Set, Get, Touch, Room, Extend, Grow, End}
use Rattle.pool_law.specs.declared.note.Object.{Object}
use Rattle.pool_law.specs.declared.note.Object.TheVariants.{Arena, Cache, Bin, Mail, Root}
use Rattle.pool_law.specs.declared.note.Noted.{Noted}
use Rattle.pool_law.specs.Arenas.{Arena as ArenaState}
use Rattle.pool_law.specs.Caches.{Cache as CacheState}
use Rattle.pool_law.specs.Roots.{RootPlace, Present, new_place}
use Rattle.history_laws.specs.NoteCounts.{did_birth, did_birth_of, did_birth_as, did_end}
use Rattle.history_laws.specs.Histories.{IsLawful, IsPlaceAfter}
use Rattle.history_laws.specs.Standing.{IsRooted}
use Rattle.history_laws.proofs.Runs.{Runs, balance}
use Rattle.history_laws.proofs.BinSteps.{IsBinStep}
use Rattle.history_laws.proofs.ArenaSteps.{IsArenaStep}
use Rattle.history_laws.proofs.CacheSteps.{IsCacheStep}
use Rattle.history_laws.proofs.PlaceSteps.{IsPlaceStep, FitsPlace, root_in}
use Rattle.history_laws.proofs.Told.{no_mail, place_note, place_runs, place_fits, last_place, last_bin, last_arena, last_cache}
use Rattle.history_laws.proofs.ArenaTakings.{at_most, none_noted}

same_one : (a b : RootId) → Some a ≡ Some b → a ≡ b
same_one a b e = ap (λ (o : Option RootId). unwrap_or o a) e

none_some : {X : Type 0} (r : RootId) → None ≡ Some r → X
none_some r e = absurd (cc e)

-- nothing is there where no root is
none_in : (y : RootPlace) → y.present ≡ None → root_in y ≡ None
none_in y e = ap (λ (o : Option Present). option_root o) e
  where
    option_root : Option Present → Option RootId
    option_root o = root_in (record { generation = 0; present = o })

-- a root is born as itself
pub its_birth : (r : RootId) (z : RegionId) → did_birth_as r.place r.generation r.capacity (Birth r z) ≡ 1
its_birth r z = λ i. cond {A = ℕ}
    ((eq-eqb r.place r.place refl i && eq-eqb r.generation r.generation refl i)
    && eq-eqb r.capacity r.capacity refl i) 1 0

here : (p n : ℕ) (r : RootId) → r.place ≡ p → r.generation ≡ n → did_end p n (End r) ≡ 1
here p n r a b =
    ap (λ (c : Bool). cond {A = ℕ} (c && eqb r.generation n) 1 0) (eq-eqb r.place p a)
    ∙ ap (λ (c : Bool). cond {A = ℕ} (true && c) 1 0) (eq-eqb r.generation n b)

elsewhere : (p g : ℕ) (r : RootId) → r.generation ≢ g → did_end p g (End r) ≡ 0
elsewhere p g r ne =
    ap (λ (c : Bool). cond {A = ℕ} (eqb r.place p && c) 1 0) (ne_eqb r.generation g ne) ∙ off (eqb r.place p)
  where
    off : (b : Bool) → cond {A = ℕ} (b && false) 1 0 ≡ 0
    off true = refl
    off false = refl

-- ---- Ends.

-- of a place so many ends of each generation were noted
pub record IsEnded (p : ℕ) (x : RootPlace) (ends : ℕ → ℕ) : Type 0 where
  pub fits : (r : RootId) → root_in x ≡ Some r → (r.place ≡ p) × (r.generation ≡ x.generation)
  pub some : (r : RootId) → root_in x ≡ Some r → 0 < x.generation
  pub beyond : (g : ℕ) → x.generation < g → ends g ≡ 0
  pub present : (r : RootId) → root_in x ≡ Some r → ends x.generation ≡ 0
  pub gone : root_in x ≡ None → 0 < x.generation → 1 ≤ ends x.generation

-- nothing was born and nothing ended
stays : (p : ℕ) (x y : RootPlace) (e f : ℕ → ℕ) → y.generation ≡ x.generation → root_in y ≡ root_in x
    → ((g : ℕ) → f g ≡ e g) → IsEnded p x e → IsEnded p y f
stays p x y e f mn yx same k =
    let n : ℕ = x.generation in let m : ℕ = y.generation in let mn' : m ≡ n = mn in record {
      fits = λ r q. let t = k.fits r (sym yx ∙ q) in (t.0, t.1 ∙ sym mn);
      some = λ r q. let a : 0 < n = k.some r (sym yx ∙ q) in omega (arith, a, mn');
      beyond = λ g lt. same g ∙ k.beyond g (omega (arith, lt, mn'));
      present = λ r q. same m ∙ (ap e mn ∙ k.present r (sym yx ∙ q));
      gone =
          λ q pos. let a =
          same m ∙ ap e mn in let b =
          k.gone (sym yx ∙ q) (omega (arith, pos, mn')) in let u : ℕ = f m in let v : ℕ = e n in let a' : u
          ≡ v = a in let b' : 1 ≤ v = b in let g : 1 ≤ u = omega (arith, a', b') in g;
    }

step_ends : (p : ℕ) (x : RootPlace) (d : Did) (region : Option RegionId) (y : RootPlace) (e : ℕ → ℕ)
    → IsPlaceStep p x d region y → IsEnded p x e → IsEnded p y (λ g. e g + did_end p g d)
step_ends p x (Birth r z) region y e t k =
    let n : ℕ = x.generation in let m : ℕ = y.generation in let mn : m ≡ n + 1 = t.generation in record {
      fits =
          λ r' q. let s : r ≡ r' = same_one r r' (sym t.root ∙ q) in
          subst (λ (u : RootId). (u.place ≡ p) × (u.generation ≡ m)) s (t.place, t.next ∙ sym t.generation);
      some = λ r' q. omega (arith, mn);
      beyond = λ g lt. let b = k.beyond g (omega (arith, lt, mn)) in omega (arith, b);
      present = λ r' q. let b = k.beyond m (omega (arith, mn)) in omega (arith, b);
      gone = λ q pos. none_some r (sym q ∙ t.root);
    }
step_ends p x (End r) region y e t k =
    let f = k.fits r t.there in let n : ℕ = x.generation in let m : ℕ = y.generation in let mn : m
    ≡ n = t.generation in let fg : r.generation ≡ n = f.1 in
    record {
      fits = λ r' q. none_some r' (sym (none_in y t.vacant) ∙ q);
      some = λ r' q. none_some r' (sym (none_in y t.vacant) ∙ q);
      beyond =
          λ g lt. let b =
          k.beyond g (omega (arith, lt, mn)) in let o =
          elsewhere p g r (λ same. omega (arith, same, fg, lt, mn)) in omega (arith, b, o);
      present = λ r' q. none_some r' (sym (none_in y t.vacant) ∙ q);
      gone = λ q pos. let o = here p m r f.0 (f.1 ∙ sym t.generation) in omega (arith, o);
    }
step_ends p x (Set i bs) region y e t k = stays p x y e (λ g. e g + 0) t.generation t.same_root (λ g. omega arith) k
step_ends p x (Get i bs) region y e t k = stays p x y e (λ g. e g + 0) t.generation t.same_root (λ g. omega arith) k
step_ends p x Touch region y e t k = stays p x y e (λ g. e g + 0) t.generation t.same_root (λ g. omega arith) k
step_ends p x (Room asked c) region y e t k = stays p x y e (λ g. e g + 0) t.generation t.same_root (λ g. omega arith) k
step_ends p x (Extend c) region y e t k = stays p x y e (λ g. e g + 0) t.generation t.same_root (λ g. omega arith) k
step_ends p x (Grow c z) region y e t k = stays p x y e (λ g. e g + 0) t.generation t.same_root (λ g. omega arith) k
step_ends p x d region y e t k = absurd t

abbrev ended : ℕ → ℕ → List Noted → ℕ
ended p g h = sum_by (λ (n : Noted). did_end p g n.did) h

run_ends : (p : ℕ) (h : List Noted) (x y : RootPlace) (e : ℕ → ℕ) → Runs (place_note p) x h y → IsEnded p x e
    → IsEnded p y (λ g. e g + ended p g h)
run_ends p [] x y e r k =
    stays p x y e (λ g. e g + 0) (ap (λ (v : RootPlace). v.generation) (sym r)) (ap root_in (sym r)) (λ g. omega arith)
    k
run_ends p (a ∷ h) x y e r k =
    let s = run_ends p h r.0 y (λ g. e g + did_end p g a.did) r.2 (step_ends p x a.did a.region r.0 e r.1 k) in
    stays p y y (λ g. e g + did_end p g a.did + ended p g h) (λ g. e g + ended p g (a ∷ h)) refl refl
    (λ g. let c = sum_by-cons (λ (n : Noted). did_end p g n.did) a h in omega (arith, c)) s

new_ended : (p : ℕ) → IsEnded p new_place (λ g. 0)
new_ended p = record {
  fits = λ r q. none_some r q;
  some = λ r q. none_some r q;
  beyond = λ g lt. refl;
  present = λ r q. refl;
  gone = λ q pos. absurd (omega (arith, pos));
}

-- the ends of a place whose history is h
pub place_ends : (s : Shape) (p : ℕ) (h : List Noted) (x : RootPlace) → IsLawful s (Root p) h → IsPlaceAfter p h x
    → IsEnded p x (λ g. ended p g h)
place_ends s p h x t e =
    stays p x x (λ g. 0 + ended p g h) (λ g. ended p g h) refl refl (λ g. omega arith)
    (run_ends p h new_place x (λ g. 0) (place_runs s p h x t e) (new_ended p))

-- ---- Births.

step_births : (p : ℕ) (x : RootPlace) (d : Did) (region : Option RegionId) (y : RootPlace) → IsPlaceStep p x d region y
    → x.generation + did_birth p d ≡ 0 + y.generation
step_births p x (Birth r z) region y t =
    let a = ap (λ (c : Bool). cond {A = ℕ} c 1 0) (eq-eqb r.place p t.place) in let b = t.generation in
    omega (arith, a, b)
step_births p x (End r) region y t = let b = t.generation in omega (arith, b)
step_births p x (Set i bs) region y t = let b = t.generation in omega (arith, b)
step_births p x (Get i bs) region y t = let b = t.generation in omega (arith, b)
step_births p x Touch region y t = let b = t.generation in omega (arith, b)
step_births p x (Room asked c) region y t = let b = t.generation in omega (arith, b)
step_births p x (Extend c) region y t = let b = t.generation in omega (arith, b)
step_births p x (Grow c z) region y t = let b = t.generation in omega (arith, b)
step_births p x d region y t = absurd t

pub place_births : (s : Shape) (p : ℕ) (h : List Noted) (x : RootPlace) → IsLawful s (Root p) h → IsPlaceAfter p h x
    → sum_by (λ (n : Noted). did_birth p n.did) h ≡ x.generation
place_births s p h x t e =
    let a = balance (place_note p) (λ x. x.generation) (λ n. did_birth p n.did) (λ n. 0)
    (λ x y n step. step_births p x n.did n.region y step) h new_place x (place_runs s p h x t e) in
    let z = none_noted h in omega (arith, a, z)

-- so many births of each generation were noted where n roots were born
record IsBornOnce (n : ℕ) (births : ℕ → ℕ) : Type 0 where
  pub once : (g : ℕ) → births g ≤ 1
  pub beyond : (g : ℕ) → n < g → births g ≡ 0
  pub never : births 0 ≡ 0

same_born : (n m : ℕ) (e f : ℕ → ℕ) → m ≡ n → ((g : ℕ) → f g ≡ e g) → IsBornOnce n e → IsBornOnce m f
same_born n m e f mn same k = record {
  once = λ g. let a = same g in let b = k.once g in omega (arith, a, b);
  beyond = λ g lt. same g ∙ k.beyond g (omega (arith, lt, mn));
  never = same 0 ∙ k.never;
}

step_born : (p : ℕ) (x : RootPlace) (d : Did) (region : Option RegionId) (y : RootPlace) (e : ℕ → ℕ)
    → IsPlaceStep p x d region y → IsBornOnce x.generation e → IsBornOnce y.generation (λ g. e g + did_birth_of p g d)
step_born p x (Birth r z) region y e t k =
    let n : ℕ = x.generation in let m : ℕ = y.generation in let gen : r.generation ≡ n + 1 = t.next in let mn : m
    ≡ n + 1 = t.generation in
    record {
      once =
          λ g. let le =
          at_most ((eqb r.place p) && (eqb r.generation g)) in let old = k.once g in dite (ℕ_discrete g (n + 1))
          (λ q. let b = k.beyond g (omega (arith, q)) in omega (arith, le, b))
          (λ ne. let b = elsewhere p g r (λ q. ne (sym q ∙ gen)) in omega (arith, old, b));
      beyond =
          λ g lt. let b =
          k.beyond g (omega (arith, lt, mn)) in let o =
          elsewhere p g r (λ q. omega (arith, q, gen, mn, lt)) in omega (arith, b, o);
      never = (let b = k.never in let o = elsewhere p 0 r (λ q. omega (arith, q, gen)) in omega (arith, b, o));
    }
step_born p x (End r) region y e t k =
    same_born x.generation y.generation e (λ g. e g + 0) t.generation (λ g. omega arith) k
step_born p x (Set i bs) region y e t k =
    same_born x.generation y.generation e (λ g. e g + 0) t.generation (λ g. omega arith) k
step_born p x (Get i bs) region y e t k =
    same_born x.generation y.generation e (λ g. e g + 0) t.generation (λ g. omega arith) k
step_born p x Touch region y e t k =
    same_born x.generation y.generation e (λ g. e g + 0) t.generation (λ g. omega arith) k
step_born p x (Room asked c) region y e t k =
    same_born x.generation y.generation e (λ g. e g + 0) t.generation (λ g. omega arith) k
step_born p x (Extend c) region y e t k =
    same_born x.generation y.generation e (λ g. e g + 0) t.generation (λ g. omega arith) k
step_born p x (Grow c z) region y e t k =
    same_born x.generation y.generation e (λ g. e g + 0) t.generation (λ g. omega arith) k
step_born p x d region y e t k = absurd t

abbrev born_of : ℕ → ℕ → List Noted → ℕ
born_of p g h = sum_by (λ (n : Noted). did_birth_of p g n.did) h

run_born : (p : ℕ) (h : List Noted) (x y : RootPlace) (e : ℕ → ℕ) → Runs (place_note p) x h y
    → IsBornOnce x.generation e → IsBornOnce y.generation (λ g. e g + born_of p g h)
run_born p [] x y e r k =
    same_born x.generation y.generation e (λ g. e g + 0) (ap (λ (v : RootPlace). v.generation) (sym r))
    (λ g. omega arith) k
run_born p (a ∷ h) x y e r k =
    let s = run_born p h r.0 y (λ g. e g + did_birth_of p g a.did) r.2 (step_born p x a.did a.region r.0 e r.1 k) in
    same_born y.generation y.generation (λ g. e g + did_birth_of p g a.did + born_of p g h)
    (λ g. e g + born_of p g (a ∷ h)) refl
    (λ g. let c = sum_by-cons (λ (n : Noted). did_birth_of p g n.did) a h in omega (arith, c)) s

-- a root is born at most once, and none of generation 0 or above the last
pub place_born : (s : Shape) (p : ℕ) (h : List Noted) (x : RootPlace) → IsLawful s (Root p) h → IsPlaceAfter p h x
    → (g : ℕ) →
    (sum_by (λ (n : Noted). did_birth_of p g n.did) h ≤ 1)
    × ((g ≡ 0) ⊎ (x.generation < g) → sum_by (λ (n : Noted). did_birth_of p g n.did) h ≡ 0)
place_born s p h x t e g =
    let k = run_born p h new_place x (λ g. 0) (place_runs s p h x t e)
    (record { once = λ g. omega arith; beyond = λ g lt. refl; never = refl }) in
    let a = k.once g in (
      omega (arith, a),
      (λ w. ⊎_elim
          (λ (z : g ≡ 0). let e = ap (λ (k : ℕ). born_of p k h) z in let b = k.never in let u : ℕ = born_of p g h in
          let o : ℕ = born_of p 0 h in let e' : u ≡ o = e in let b' : 0 + o ≡ 0 = b in let q : u
          ≡ 0 = omega (arith, e', b') in
          q)
          (λ (lt : x.generation < g). let b = k.beyond g lt in omega (arith, b)) w),
    )

pub of_birth : (p g : ℕ) (d : Did) → did_birth p d ≡ 0 → did_birth_of p g d ≡ 0
of_birth p g (Birth r x) z = dite (ℕ_discrete r.place p)
    (λ e. let o = ap (λ (c : Bool). cond {A = ℕ} c 1 0) (eq-eqb r.place p e) in absurd (omega (arith, z, o)))
    (λ ne. ap (λ (c : Bool). cond {A = ℕ} (c && eqb r.generation g) 1 0) (ne_eqb r.place p ne))
of_birth p g d z = refl

-- ---- The root that is present.

-- the birth of the root that is present was noted, if one was noted before or none was present
step_present : (p : ℕ) (x : RootPlace) (d : Did) (region : Option RegionId) (y : RootPlace) (r : RootId)
    → IsPlaceStep p x d region y → root_in y ≡ Some r →
    (root_in x ≡ Some r) ⊎ (did_birth_as r.place r.generation r.capacity d ≡ 1)
step_present p x (Birth q z) region y r t is =
    let e : q ≡ r = same_one q r (sym t.root ∙ is) in
    inr (subst (λ (r : RootId). did_birth_as r.place r.generation r.capacity (Birth q z) ≡ 1) e (itself q z))
  where
    itself : (q : RootId) (z : RegionId) → did_birth_as q.place q.generation q.capacity (Birth q z) ≡ 1
    itself q z = λ i. cond {A = ℕ} ((on q.place i && on q.generation i) && on q.capacity i) 1 0
      where
        on : (n : ℕ) → eqb n n ≡ true
        on n = eq-eqb n n refl
step_present p x (End q) region y r t is = none_some r (sym (none_in y t.vacant) ∙ is)
step_present p x (Set i bs) region y r t is = inl (sym t.same_root ∙ is)
step_present p x (Get i bs) region y r t is = inl (sym t.same_root ∙ is)
step_present p x Touch region y r t is = inl (sym t.same_root ∙ is)
step_present p x (Room asked c) region y r t is = inl (sym t.same_root ∙ is)
step_present p x (Extend c) region y r t is = inl (sym t.same_root ∙ is)
step_present p x (Grow c z) region y r t is = inl (sym t.same_root ∙ is)
step_present p x d region y r t is = absurd t

run_present : (p : ℕ) (h : List Noted) (x y : RootPlace) (r : RootId) → Runs (place_note p) x h y → root_in y ≡ Some r →
    (root_in x ≡ Some r) ⊎ (0 < sum_by (λ (n : Noted). did_birth_as r.place r.generation r.capacity n.did) h)
run_present p [] x y r t is = inl (ap root_in t ∙ is)
run_present p (n ∷ h) x y r t is =
    let c = sum_by-cons (λ (n : Noted). did_birth_as r.place r.generation r.capacity n.did) n h in ⊎_elim
    (λ (e : root_in t.0 ≡ Some r). ⊎_elim
    (λ (e : root_in x ≡ Some r). inl e)
    (λ (e : did_birth_as r.place r.generation r.capacity n.did ≡ 1). inr (omega (arith, c, e)))
    (step_present p x n.did n.region t.0 r t.1 e))
    (λ (lt : 0 < sum_by (λ (n : Noted). did_birth_as r.place r.generation r.capacity n.did) h). inr
    (omega (arith, c, lt)))
    (run_present p h t.0 y r t.2 is)

-- the root that is present was born as it is
pub place_present : (s : Shape) (p : ℕ) (h : List Noted) (x : RootPlace) (r : RootId) → IsLawful s (Root p) h
    → IsPlaceAfter p h x → root_in x ≡ Some r →
    0 < sum_by (λ (n : Noted). did_birth_as r.place r.generation r.capacity n.did) h
place_present s p h x r t e is = ⊎_elim
    (λ (e : root_in new_place ≡ Some r). none_some r e)
    (λ (lt : 0 < sum_by (λ (n : Noted). did_birth_as r.place r.generation r.capacity n.did) h). lt)
    (run_present p h new_place x r (place_runs s p h x t e) is)

-- ---- The last note.

-- a birth finds the place vacant
pub birth_step : (p q : ℕ) (x : RootPlace) (d : Did) (region : Option RegionId) (y : RootPlace)
    → IsPlaceStep p x d region y → 0 < did_birth q d → root_in x ≡ None
birth_step p q x (Birth r z) region y t lt = none_in x t.vacant
birth_step p q x d region y t lt = absurd (omega (arith, lt))

and_one : (a b : ℕ) (r : RootId) → 0 < cond {A = ℕ} ((eqb r.place a) && (eqb r.generation b)) 1 0
    → (r.place ≡ a) × (r.generation ≡ b)
and_one a b r lt = dite (ℕ_discrete r.place a)
    (λ e. dite (ℕ_discrete r.generation b) (λ f. (e, f))
    (λ nf. let z = elsewhere a b r nf in absurd (omega (arith, lt, z))))
    (λ ne. let z = ap (λ (c : Bool). cond {A = ℕ} (c && eqb r.generation b) 1 0) (ne_eqb r.place a ne) in
    absurd (omega (arith, lt, z)))

-- an end finds its root present
pub end_step : (p q g : ℕ) (x : RootPlace) (d : Did) (region : Option RegionId) (y : RootPlace)
    → IsPlaceStep p x d region y → 0 < did_end q g d →
    (r : RootId) × (root_in x ≡ Some r) × (r.place ≡ q) × (r.generation ≡ g)
end_step p q g x (End r) region y t lt = let a = and_one q g r lt in (r, t.there, a.0, a.1)
end_step p q g x d region y t lt = absurd (omega (arith, lt))

-- ---- Where births and ends stand.

arena_rooted : (o : Object) (a : ℕ) (x y : ArenaState) (d : Did) → IsArenaStep a x d y → IsRooted o d
arena_rooted o a x y (Take c r) t p = inl (refl, λ g. refl)
arena_rooted o a x y (Full c) t p = inl (refl, λ g. refl)
arena_rooted o a x y (Give r) t p = inl (refl, λ g. refl)
arena_rooted o a x y d t p = absurd t

cache_rooted : (o : Object) (l c : ℕ) (x y : CacheState) (d : Did) → IsCacheStep l c x d y → IsRooted o d
cache_rooted o l c x y (Hit r) t p = inl (refl, λ g. refl)
cache_rooted o l c x y (Shed r) t p = inl (refl, λ g. refl)
cache_rooted o l c x y (Kept r) t p = inl (refl, λ g. refl)
cache_rooted o l c x y Miss t p = inl (refl, λ g. refl)
cache_rooted o l c x y (Back r why) t p = inl (refl, λ g. refl)
cache_rooted o l c x y (Trim k) t p = inl (refl, λ g. refl)
cache_rooted o l c x y (Close k) t p = inl (refl, λ g. refl)
cache_rooted o l c x y d t p = absurd t

bin_rooted : (s : Shape) (l : ℕ) (o : Object) (q m : List ℕ) (d : Did) → IsBinStep s l q d m → IsRooted o d
bin_rooted s l o q m (Handle x) t p = inl (refl, λ g. refl)
bin_rooted s l o q m NoHandle t p = inl (refl, λ g. refl)
bin_rooted s l o q m (Home x) t p = inl (refl, λ g. refl)
bin_rooted s l o q m d t p = absurd t

root_rooted : (p : ℕ) (x : RootPlace) (d : Did) (region : Option RegionId) (y : RootPlace)
    → ((r : RootId) → root_in x ≡ Some r → r.place ≡ p) → IsPlaceStep p x d region y → IsRooted (Root p) d
root_rooted p x (Birth r z) region y f t q = dite (ℕ_discrete r.place q)
    (λ e. inr (ap Root (sym t.place ∙ e)))
    (λ ne. inl (ap (λ (c : Bool). cond {A = ℕ} c 1 0) (ne_eqb r.place q ne), λ g. refl))
root_rooted p x (End r) region y f t q = dite (ℕ_discrete r.place q)
    (λ e. inr (ap Root (sym (f r t.there) ∙ e)))
    (λ ne. inl (refl, λ g. ap (λ (c : Bool). cond {A = ℕ} (c && eqb r.generation g) 1 0) (ne_eqb r.place q ne)))
root_rooted p x (Set i bs) region y f t q = inl (refl, λ g. refl)
root_rooted p x (Get i bs) region y f t q = inl (refl, λ g. refl)
root_rooted p x Touch region y f t q = inl (refl, λ g. refl)
root_rooted p x (Room asked c) region y f t q = inl (refl, λ g. refl)
root_rooted p x (Extend c) region y f t q = inl (refl, λ g. refl)
root_rooted p x (Grow c z) region y f t q = inl (refl, λ g. refl)
root_rooted p x d region y f t q = absurd t

-- the root that is present is of its place
root_of : (p : ℕ) (x : RootPlace) → FitsPlace p x → (r : RootId) → root_in x ≡ Some r → r.place ≡ p
root_of p x fits r e = by x.present refl e
  where
    by : (o : Option Present) → x.present ≡ o → root_in (record { generation = 0; present = o }) ≡ Some r → r.place ≡ p
    by None is e = none_some r e
    by (Some q) is e =
        let same : q.root ≡ r = same_one q.root r e in ap (λ (v : RootId). v.place) (sym same) ∙ (fits q is).0

-- a root is born and ends only at its place
pub rooted : (s : Shape) (o : Object) (h : List Noted) (n : Noted) → IsLawful s o (h ++ n ∷ []) → IsRooted o n.did
rooted s (Arena a) h n t = let k = last_arena s a h n t in arena_rooted (Arena a) a k.0 k.1 n.did k.3
rooted s (Cache l c) h n t = let k = last_cache s l c h n t in cache_rooted (Cache l c) l c k.0 k.1 n.did k.2
rooted s (Bin l) h n t = let k = last_bin s l h n t in bin_rooted s l (Bin l) k.0 k.1 n.did k.2
rooted s (Mail f u) h n t = absurd (no_mail s f u h n t)
rooted s (Root p) h n t =
    let k = last_place s p h n t in root_rooted p k.0 n.did n.region k.1 (root_of p k.0 (place_fits p h k.0 k.2)) k.3
