-- What entries say of one root, by its name.
use Rattle.std.proofs.Common.{◌≡◌, ◌≢◌, ℕ, ◌+◌, ◌*◌, ◌<◌, ◌≤◌, List, [], ◌∷◌, Bool, true, false, cond, eqb, sym, refl, ap, ◌∙◌, subst, inl, inr, ⊎_elim, arith, eq-eqb, ne_eqb, Some, None}
use Rattle.std.specs.Prelude.{Option, option_map, All, sum_by, ◌&&◌}
use Rattle.std.proofs.lemmas.List.Elements.{All-head, All-tail}
use Rattle.std.proofs.lemmas.List.Sums.{sum_by-cons}
use mathlib.Core.Logic.{dite}
use native.Mathlib.Decide.{ℕ_discrete}
use Rattle.pool_law.specs.declared.run.Shape.{Shape}
use Rattle.pool_law.specs.declared.id.ViewData.{ViewData}
use Rattle.pool_law.specs.declared.id.RootId.{RootId}
use Rattle.pool_law.specs.declared.note.Did.{Did}
use Rattle.pool_law.specs.declared.note.Did.TheVariants.{Post, Fetch, Birth, End}
use Rattle.pool_law.specs.declared.note.RefDid.{RefDid}
use Rattle.pool_law.specs.declared.note.Noted.{Noted}
use Rattle.pool_law.specs.declared.note.Object.{Object}
use Rattle.pool_law.specs.declared.note.Object.TheVariants.{Root}
use Rattle.pool_law.specs.Homes.{home_of}
use Rattle.pool_law.specs.Same.{same_root}
use Rattle.pool_law.proofs.PatternLemmas.{same_root-refl}
use Rattle.history_laws.specs.NoteCounts.{is_root, view_weight, view_of_root, did_birth, did_birth_of, did_birth_as, did_end, did_fetch, did_post, did_fetch_of, did_post_of, did_end_of}
use Rattle.history_laws.proofs.Names.{same_root-or}
use Rattle.history_laws.proofs.Roots.{of_birth}
use Rattle.pool_table.specs.declared.views.Entry.{Entry}
use Rattle.pool_table.specs.declared.views.Entry.TheVariants.{At, Ref, Busy}
use Rattle.pool_table.specs.declared.views.Part.{Part}
use Rattle.pool_table.specs.Counts.{on_root, on_this, at_gain, at_loss, fetches, posts}
use Rattle.pool_table.specs.Hands.{at_birth_of, at_birth_as, at_end, ends}
use Rattle.pool_table.specs.Births.{carried, root_named}
use Rattle.pool_table.specs.Sound.{IsKnown, Stands}
use Rattle.pool_table.proofs.Partition.{IsAmong}

-- ---- One entry.

-- a weight of one root is one of its place and generation, where these fit one capacity
this_root : (w : ℕ) (q r : RootId) → (q.place ≡ r.place → q.generation ≡ r.generation → q ≡ r)
    → cond {A = ℕ} (same_root q r) w 0 ≡ cond {A = ℕ} (is_root r.place r.generation q) w 0
this_root w q r one = dite (ℕ_discrete q.place r.place)
    (λ p. dite (ℕ_discrete q.generation r.generation)
    (λ g. let e = one p g in
    let a : same_root q r ≡ true = subst (λ (y : RootId). same_root q y ≡ true) e (same_root-refl q) in
    let b : is_root r.place r.generation q ≡ true =
    λ i. both (eq-eqb q.place r.place p) (eq-eqb q.generation r.generation g) i in
    ap (λ (t : Bool). cond {A = ℕ} t w 0) (a ∙ sym b))
    (λ ng. ap (λ (t : Bool). cond {A = ℕ} (eqb q.place r.place && (t && eqb q.capacity r.capacity)) w 0)
    (ne_eqb q.generation r.generation ng)
    ∙ (off (eqb q.place r.place) ∙ sym
    (ap (λ (t : Bool). cond {A = ℕ} (eqb q.place r.place && t) w 0) (ne_eqb q.generation r.generation ng)
    ∙ off (eqb q.place r.place)))))
    (λ np. ap (λ (t : Bool). cond {A = ℕ} (t && (eqb q.generation r.generation && eqb q.capacity r.capacity)) w 0)
    (ne_eqb q.place r.place np)
    ∙ sym (ap (λ (t : Bool). cond {A = ℕ} (t && eqb q.generation r.generation) w 0) (ne_eqb q.place r.place np)))
  where
    both : {a b : Bool} → a ≡ true → b ≡ true → (a && b) ≡ true
    both e f = λ i. e i && f i

    off : (t : Bool) → cond {A = ℕ} (t && false) w 0 ≡ 0
    off true = refl
    off false = refl

-- what an entry weighs for a root, where each root of this place and generation that it names is this one
abbrev pub Alone : RootId → Entry → Type 0
Alone r e = (q : RootId) → root_named e ≡ Some q → q.place ≡ r.place → q.generation ≡ r.generation → q ≡ r

pub steps_alone : (f : RefDid → ℕ) (r : RootId) (e : Entry) → Alone r e
    → on_this f r e ≡ on_root f r.place r.generation e
steps_alone f r (At o k n) one = refl
steps_alone f r (Ref q d) one = this_root (f d) q r (one q refl)
steps_alone f r (Busy b) one = refl

view_alone : (r : RootId) (v : Option ViewData)
    → ((q : RootId) → option_map (λ (w : ViewData). w.root) v ≡ Some q → q.place ≡ r.place → q.generation ≡ r.generation
    → q ≡ r) → view_of_root r v ≡ view_weight r.place r.generation v
view_alone r None one = refl
view_alone r (Some v) one = this_root 1 v.root r (one v.root refl)

pub fetches_alone : (r : RootId) (e : Entry) → Alone r e → fetches r e ≡ at_gain r.place r.generation e
fetches_alone r (At o k n) one = by n.did one
  where
    by : (d : Did) → ((q : RootId) → carried d ≡ Some q → q.place ≡ r.place → q.generation ≡ r.generation → q ≡ r)
        → did_fetch_of r d ≡ did_fetch r.place r.generation d
    by (Fetch q) one = view_alone r q.view one
    by d one = refl
fetches_alone r (Ref q d) one = refl
fetches_alone r (Busy b) one = refl

pub posts_alone : (r : RootId) (e : Entry) → Alone r e → posts r e ≡ at_loss r.place r.generation e
posts_alone r (At o k n) one = by n.did one
  where
    by : (d : Did) → ((q : RootId) → carried d ≡ Some q → q.place ≡ r.place → q.generation ≡ r.generation → q ≡ r)
        → did_post_of r d ≡ did_post r.place r.generation d
    by (Post q) one = view_alone r q.view one
    by d one = refl
posts_alone r (Ref q d) one = refl
posts_alone r (Busy b) one = refl

-- an entry that weighs something for a root names it
pub named_this : (q r : RootId) (w : ℕ) → 0 < cond {A = ℕ} (same_root q r) w 0 → q ≡ r
named_this q r w lt =
    ⊎_elim (λ (t : (same_root q r ≡ true) × (q ≡ r)). t.1)
    (λ (e : same_root q r ≡ false). let z : cond {A = ℕ} (same_root q r) w 0
    ≡ 0 = ap (λ (b : Bool). cond {A = ℕ} b w 0) e in absurd (omega (arith, lt, z))) (same_root-or q r)

pub step_names : (f : RefDid → ℕ) (r : RootId) (e : Entry) → 0 < on_this f r e → root_named e ≡ Some r
step_names f r (At o k n) lt = absurd (omega (arith, lt))
step_names f r (Ref q d) lt = ap (λ (x : RootId). Some x) (named_this q r (f d) lt)
step_names f r (Busy b) lt = absurd (omega (arith, lt))

pub view_names : (r : RootId) (v : Option ViewData) → 0 < view_of_root r v
    → option_map (λ (w : ViewData). w.root) v ≡ Some r
view_names r None lt = absurd (omega (arith, lt))
view_names r (Some v) lt = ap (λ (x : RootId). Some x) (named_this v.root r 1 lt)

pub fetch_names : (r : RootId) (e : Entry) → 0 < fetches r e → root_named e ≡ Some r
fetch_names r (At o k n) lt = by n.did lt
  where
    by : (d : Did) → 0 < did_fetch_of r d → carried d ≡ Some r
    by (Fetch q) lt = view_names r q.view lt
    by d lt = absurd (omega (arith, lt))
fetch_names r (Ref q d) lt = absurd (omega (arith, lt))
fetch_names r (Busy b) lt = absurd (omega (arith, lt))

pub post_names : (r : RootId) (e : Entry) → 0 < posts r e → root_named e ≡ Some r
post_names r (At o k n) lt = by n.did lt
  where
    by : (d : Did) → 0 < did_post_of r d → carried d ≡ Some r
    by (Post q) lt = view_names r q.view lt
    by d lt = absurd (omega (arith, lt))
post_names r (Ref q d) lt = absurd (omega (arith, lt))
post_names r (Busy b) lt = absurd (omega (arith, lt))

pub ends_alone : (r : RootId) (e : Entry) → Alone r e → ends r e ≡ at_end r.place r.generation e
ends_alone r (At o k n) one = by n.did one
  where
    by : (d : Did) → ((q : RootId) → carried d ≡ Some q → q.place ≡ r.place → q.generation ≡ r.generation → q ≡ r)
        → did_end_of r d ≡ did_end r.place r.generation d
    by (End q) one = this_root 1 q r (one q refl)
    by d one = refl
ends_alone r (Ref q d) one = refl
ends_alone r (Busy b) one = refl

-- two births of one place and generation with different capacities
pub two_births : (p g c d : ℕ) → c ≢ d → (e : Entry) → at_birth_as p g c e + at_birth_as p g d e ≤ at_birth_of p g e
two_births p g c d ne (At o k n) = by n.did
  where
    one : (a : Bool) (m : ℕ) → cond {A = ℕ} (a && eqb m c) 1 0 + cond {A = ℕ} (a && eqb m d) 1 0 ≤ cond {A = ℕ} a 1 0
    one false m = omega arith
    one true m = dite (ℕ_discrete m c)
        (λ mc. let z = ap (λ (b : Bool). cond {A = ℕ} (true && b) 1 0) (ne_eqb m d (λ md. ne (sym mc ∙ md))) in let y =
        small (eqb m c) in omega (arith, z, y))
        (λ nc. let z = ap (λ (b : Bool). cond {A = ℕ} (true && b) 1 0) (ne_eqb m c nc) in let y = small (eqb m d) in
        omega (arith, z, y))
      where
        small : (b : Bool) → cond {A = ℕ} (true && b) 1 0 ≤ 1
        small true = omega arith
        small false = omega arith

    by : (x : Did) → did_birth_as p g c x + did_birth_as p g d x ≤ did_birth_of p g x
    by (Birth q z) = one (is_root p g q) q.capacity
    by x = omega arith
two_births p g c d ne (Ref q x) = omega arith
two_births p g c d ne (Busy b) = omega arith

-- a birth of one capacity is one of its place
pub as_birth : (p g c : ℕ) (d : Did) → did_birth p d ≡ 0 → did_birth_as p g c d ≡ 0
as_birth p g c (Birth q z) e = let a = of_birth p g (Birth q z) e in less (is_root p g q) (eqb q.capacity c) a
  where
    less : (a b : Bool) → cond {A = ℕ} a 1 0 ≡ 0 → cond {A = ℕ} (a && b) 1 0 ≡ 0
    less true b z = absurd (omega (arith, z))
    less false b z = refl
as_birth p g c d e = refl

-- ---- One view.

pub weigh_both : (f g : Entry → ℕ) (ps : List Part) → All (λ (q : Part). All (λ (e : Entry). f e ≡ g e) q.notes) ps
    → sum_by (λ (q : Part). sum_by f q.notes) ps ≡ sum_by (λ (q : Part). sum_by g q.notes) ps
weigh_both f g [] all = refl
weigh_both f g (q ∷ ps) all =
    let P : Part → Type 0 = λ (q : Part). All (λ (e : Entry). f e ≡ g e) q.notes in
    let a = sum_by-cons (λ (q : Part). sum_by f q.notes) q ps in let b =
    sum_by-cons (λ (q : Part). sum_by g q.notes) q ps in
    let c = entries q.notes (All-head P q ps all) in let d = weigh_both f g ps (All-tail P q ps all) in
    omega (arith, a, b, c, d)
  where
    entries : (es : List Entry) → All (λ (e : Entry). f e ≡ g e) es → sum_by f es ≡ sum_by g es
    entries [] all = refl
    entries (e ∷ es) all =
        let a = sum_by-cons f e es in let b = sum_by-cons g e es in let c =
        All-head (λ (e : Entry). f e ≡ g e) e es all in let d =
        entries es (All-tail (λ (e : Entry). f e ≡ g e) e es all) in
        omega (arith, a, b, c, d)

-- a view with some weight has an entry with some
pub some_entry : (B : Type 0) (f : Entry → ℕ) (ps : List Part)
    → All (λ (q : Part). All (λ (e : Entry). 0 < f e → B) q.notes) ps → 0 < sum_by (λ (q : Part). sum_by f q.notes) ps
    → B
some_entry B f [] all lt = absurd (omega (arith, lt))
some_entry B f (q ∷ ps) all lt =
    let P : Part → Type 0 = λ (q : Part). All (λ (e : Entry). 0 < f e → B) q.notes in
    let a = sum_by-cons (λ (q : Part). sum_by f q.notes) q ps in
    dite (ℕ_discrete (sum_by f q.notes) 0)
    (λ z. some_entry B f ps (All-tail P q ps all) (omega (arith, a, z, lt)))
    (λ ne. here q.notes (All-head P q ps all) (omega (arith, ne)))
  where
    here : (es : List Entry) → All (λ (e : Entry). 0 < f e → B) es → 0 < sum_by f es → B
    here [] all lt = absurd (omega (arith, lt))
    here (e ∷ es) all lt =
        let a = sum_by-cons f e es in
        dite (ℕ_discrete (f e) 0)
        (λ z. here es (All-tail (λ (e : Entry). 0 < f e → B) e es all) (omega (arith, a, z, lt)))
        (λ ne. All-head (λ (e : Entry). 0 < f e → B) e es all (omega (arith, ne)))

-- ---- All views.

pub among_root : (s : Shape) (p : ℕ) (w : Did → ℕ)
    → ((d : Did) → did_birth p d ≡ 0 → ((g : ℕ) → did_end p g d ≡ 0) → w d ≡ 0) → (lane : Option ℕ) (e : Entry)
    → Stands s lane e → IsAmong s (home_of s (Root p)) 1 (λ (n : Noted). w n.did) e
among_root s p w free lane (At o k n) t = ⊎_elim
    (λ (z : (did_birth p n.did ≡ 0) × ((g : ℕ) → did_end p g n.did ≡ 0)). inl (free n.did z.0 z.1))
    (λ (e : o ≡ Root p). inr (
      0,
      (let g : 0 < 1 = omega arith in g),
      (λ i. let b : ℕ = home_of s (Root p) in let z : b
          ≡ b + 0 = omega arith in ap (λ (x : Object). eqb (home_of s x) i) e ∙ ap (λ (x : ℕ). eqb x i) z),
    ))
    (t.in_place.rooted p)
among_root s p w free lane (Ref r d) t = inl refl
among_root s p w free lane (Busy b) t = inl refl

-- at a place that isn't one of the shape's no root is born
pub none_among : (s : Shape) (p g c : ℕ) → (p < s.lanes * s.handles → ⊥) → (lane : Option ℕ) (e : Entry)
    → Stands s lane e
    → IsAmong s 0 0 (λ (n : Noted). did_birth_as p g c n.did) e
none_among s p g c none (lane) (At o k n) t = ⊎_elim
    (λ (z : (did_birth p n.did ≡ 0) × ((g : ℕ) → did_end p g n.did ≡ 0)). inl (as_birth p g c n.did z.0))
    (λ (e : o ≡ Root p). let fits : p < s.lanes * s.handles = subst (IsKnown s) e t.object in absurd (none fits))
    (t.in_place.rooted p)
none_among s p g c none lane (Ref r d) t = inl refl
none_among s p g c none lane (Busy b) t = inl refl
