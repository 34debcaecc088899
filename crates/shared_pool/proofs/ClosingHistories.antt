-- The parts of all lanes give each object its history.
use Rattle.std.proofs.Common.{◌≡◌, ◌⊎◌, ℕ, suc, ◌+◌, ◌-◌, ◌*◌, ◌<◌, ◌≤◌, List, [], ◌∷◌, ◌++◌, length, map, Bool, true, false, cond, sym, refl, ap, ◌∙◌, subst, arith, inl, inr, ⊎_elim, eq-eqb, ne_eqb, Some}
use Rattle.std.specs.Prelude.{◌==◌, Option, IsTrue, All, AllPairs, filter, filter_map}
use Rattle.std.proofs.lemmas.List.Elements.{All-head, All-tail, All-weaker}
use mathlib.Core.Logic.{dite}
use native.Mathlib.Decide.{ℕ_discrete, dec_le}
use Rattle.pool_law.specs.declared.run.Shape.{Shape}
use Rattle.pool_law.specs.declared.note.Did.{Did}
use Rattle.pool_law.specs.declared.note.Note.{Note}
use Rattle.pool_law.specs.declared.note.Noted.{Noted}
use Rattle.pool_law.specs.declared.note.Object.{Object}
use Rattle.pool_law.specs.declared.note.Object.TheVariants.{Arena, Cache, Bin, Mail, Root}
use Rattle.pool_law.specs.Homes.{home_of, IsObjectOf}
use Rattle.pool_law.specs.Logs.{own, numbered, has_history}
use Rattle.pool_law.specs.Same.{same_object}
use Rattle.pool_law.proofs.SameLemmas.{same_object-is}
use Rattle.pool_law.proofs.PatternLemmas.{same_object-refl}
use Rattle.pool_table.specs.declared.views.Entry.{Entry}
use Rattle.pool_table.specs.declared.views.Entry.TheVariants.{At, Ref, Busy}
use Rattle.pool_table.specs.declared.views.Part.{Part}
use Rattle.pool_table.specs.Views.{is_about, noted_of, object_part}
use Rattle.pool_table.specs.Sound.{Before, Tells, IsKnown, IsTold, Stands}
use Rattle.pool_table.proofs.Known.{one_known}
use Rattle.pool_table.proofs.Sequence.{is_its}
use Rattle.shared_pool.specs.Closing.{note_of}
use Rattle.shared_pool.proofs.ClosingNumbers.{Tagged, dids_in, lawful, Rising, AllSit, AllLaned, is_numbered as are_numbered}

-- ---- Objects.

below_or : (a b : ℕ) → (a < b) ⊎ ((a < b) → ⊥)
below_or a b = dite (dec_le (suc a) b) (λ le. inl (omega (arith, le))) (λ gt. inr (λ lt. gt (omega (arith, lt))))

both_or : (a b c d : ℕ) → ((a < b) × (c < d)) ⊎ (((a < b) × (c < d)) → ⊥)
both_or a b c d = ⊎_elim
    (λ (x : a < b). ⊎_elim (λ (y : c < d). inl (x, y)) (λ (n : (c < d) → ⊥). inr (λ p. n p.1)) (below_or c d))
    (λ (n : (a < b) → ⊥). inr (λ p. n p.0))
    (below_or a b)

pub object_or : (s : Shape) (o : Object) → IsObjectOf s o ⊎ (IsObjectOf s o → ⊥)
object_or s (Arena a) = below_or a s.arenas
object_or s (Cache l c) = both_or l s.lanes c 40
object_or s (Bin l) = below_or l s.lanes
object_or s (Mail f t) = inr (λ none. none)
object_or s (Root p) = below_or p (s.lanes * s.handles)

-- a test that isn't passed
not_passed : (b : Bool) → (b ≡ true → ⊥) → b ≡ false
not_passed true fails = absurd (fails refl)
not_passed false fails = refl

-- an object with a history that is known is one of the shape
pub with_history : (s : Shape) (o : Object) → IsTrue (has_history o) → IsKnown s o → IsObjectOf s o
with_history s (Arena a) has known = known
with_history s (Cache l c) has known = known
with_history s (Bin l) has known = known
with_history s (Mail f t) has known = absurd (cc has)
with_history s (Root p) has known = known

-- an object of the shape has a history
pub its_history : (s : Shape) (o : Object) → IsObjectOf s o → IsTrue (has_history o)
its_history s (Arena a) fits = refl
its_history s (Cache l c) fits = refl
its_history s (Bin l) fits = refl
its_history s (Mail f t) fits = absurd fits
its_history s (Root p) fits = refl

-- an object of the shape and a known one are the same where they have the same home
pub same_about : (s : Shape) (o p : Object) → IsObjectOf s o → IsKnown s p
    → same_object o p ≡ (home_of s p == home_of s o)
same_about s o p fo kp = dite (ℕ_discrete (home_of s p) (home_of s o))
    (λ e. let same : p ≡ o = one_known s p o kp fo e in
    subst (λ (x : Object). same_object o x ≡ true) (sym same) (same_object-refl o)
    ∙ sym (eq-eqb (home_of s p) (home_of s o) e))
    (λ ne. not_passed (same_object o p) (λ t. ne (ap (home_of s) (sym (same_object-is o p t))))
    ∙ sym (ne_eqb (home_of s p) (home_of s o) ne))

-- and one with a history that isn't of the shape is no known one
pub no_same : (s : Shape) (o p : Object) → IsTrue (has_history o) → (IsObjectOf s o → ⊥) → IsKnown s p
    → same_object o p ≡ false
no_same s o p has none kp =
    not_passed (same_object o p)
    (λ t. none (with_history s o has (subst (IsKnown s) (sym (same_object-is o p t)) kp)))

-- an object of the shape is no mail
pub no_mail : (s : Shape) (a b : ℕ) (p : Object) → IsObjectOf s p → same_object (Mail a b) p ≡ false
no_mail s a b p fits =
    not_passed (same_object (Mail a b) p)
    (λ t. subst (IsObjectOf s) (sym (same_object-is (Mail a b) p t)) fits)

-- ---- One part.

abbrev pub notes_in : List Entry → List Note
notes_in es = map note_of es

abbrev pub tagged : List Entry → Tagged
tagged [] = []
tagged (At o k n ∷ es) = (k, n) ∷ tagged es
tagged (Ref r d ∷ es) = tagged es
tagged (Busy b ∷ es) = tagged es

-- what a lane noted at an object is what its object part there has
pub own_object_part : (s : Shape) (lane : Option ℕ) (o : Object) → IsObjectOf s o → (es : List Entry)
    → All (Stands s lane) es → own o (notes_in es) ≡ dids_in (tagged (filter (is_about s (home_of s o)) es))
own_object_part s lane o fits [] all = refl
own_object_part s lane o fits (At p k n ∷ es) all =
    let st = All-head (Stands s lane) (At p k n) es all in let ih =
    own_object_part s lane o fits es (All-tail (Stands s lane) (At p k n) es all) in
    let e : same_object o p ≡ (home_of s p == home_of s o) = same_about s o p fits st.object in
    ap (λ (b : Bool). cond b ((k, n.did) ∷ []) [] ++ own o (notes_in es)) e ∙ by (home_of s p == home_of s o) ih
  where
    by : (b : Bool) → own o (notes_in es) ≡ dids_in (tagged (filter (is_about s (home_of s o)) es)) →
        cond b ((k, n.did) ∷ []) [] ++ own o (notes_in es)
        ≡ dids_in (tagged (cond b (At p k n ∷ filter (is_about s (home_of s o)) es)
        (filter (is_about s (home_of s o)) es)))
    by true ih = ap (λ (t : List (ℕ × Did)). (k, n.did) ∷ t) ih
    by false ih = ih
own_object_part s lane o fits (Ref r d ∷ es) all =
    own_object_part s lane o fits es (All-tail (Stands s lane) (Ref r d) es all)
own_object_part s lane o fits (Busy b ∷ es) all =
    own_object_part s lane o fits es (All-tail (Stands s lane) (Busy b) es all) ∙ by (home_of s b.object == home_of s o)
  where
    by : (t : Bool) → dids_in (tagged (filter (is_about s (home_of s o)) es))
        ≡ dids_in (tagged (cond t (Busy b ∷ filter (is_about s (home_of s o)) es)
        (filter (is_about s (home_of s o)) es)))
    by true = refl
    by false = refl

-- at what isn't an object of the shape it noted nothing
pub own_none : (s : Shape) (lane : Option ℕ) (o : Object) → IsTrue (has_history o) → (IsObjectOf s o → ⊥)
    → (es : List Entry) → All (Stands s lane) es → own o (notes_in es) ≡ []
own_none s lane o has none [] all = refl
own_none s lane o has none (At p k n ∷ es) all =
    let st = All-head (Stands s lane) (At p k n) es all in let ih =
    own_none s lane o has none es (All-tail (Stands s lane) (At p k n) es all) in
    ap (λ (b : Bool). cond b ((k, n.did) ∷ []) [] ++ own o (notes_in es)) (no_same s o p has none st.object) ∙ ih
own_none s lane o has none (Ref r d ∷ es) all =
    own_none s lane o has none es (All-tail (Stands s lane) (Ref r d) es all)
own_none s lane o has none (Busy b ∷ es) all =
    own_none s lane o has none es (All-tail (Stands s lane) (Busy b) es all)

-- the first of a list is related to all others
pub pairs_head : {X : Type 0} (R : X → X → Type 0) (x : X) (xs : List X) → AllPairs R (x ∷ xs) → All (R x) xs
pairs_head R x xs all k d lt =
    all 0 (suc k) d (omega arith) (let n : ℕ = length xs in let lt' : k < n = lt in let g : suc k < suc n =
    omega (arith, lt') in g)

pub pairs_tail : {X : Type 0} (R : X → X → Type 0) (x : X) (xs : List X) → AllPairs R (x ∷ xs) → AllPairs R xs
pairs_tail R x xs all i j d lt below =
    all (suc i) (suc j) d (omega (arith, lt))
    (let n : ℕ = length xs in let lt' : j < n = below in let g : suc j < suc n = omega (arith, lt') in g)

-- a note's number is at least n
abbrev pub AtLeast : ℕ → Entry → Type 0
AtLeast n (At o k m) = n ≤ k
AtLeast n (Ref r d) = Unit {0}
AtLeast n (Busy b) = Unit {0}

pub rises : (n : ℕ) (es : List Entry) → AllPairs Before es → All (AtLeast n) es → Rising n (tagged es)
rises n [] pairs least = tt
rises n (At o k m ∷ es) pairs least = (
  All-head (AtLeast n) (At o k m) es least,
  rises (k + 1) es (pairs_tail Before (At o k m) es pairs)
      (All-weaker (Before (At o k m)) (AtLeast (k + 1)) (after o k m) es (pairs_head Before (At o k m) es pairs)),
)
  where
    after : (o : Object) (k : ℕ) (m : Noted) (e : Entry) → Before (At o k m) e → AtLeast (k + 1) e
    after o k m (At p j n) lt = let a : k < j = lt in let g : k + 1 ≤ j = omega (arith, a) in g
    after o k m (Ref r d) t = tt
    after o k m (Busy b) t = tt
rises n (Ref r d ∷ es) pairs least =
    rises n es (pairs_tail Before (Ref r d) es pairs) (All-tail (AtLeast n) (Ref r d) es least)
rises n (Busy b ∷ es) pairs least =
    rises n es (pairs_tail Before (Busy b) es pairs) (All-tail (AtLeast n) (Busy b) es least)

told_least : (o : Object) (h : List Noted) (limit : ℕ) (lane : Option ℕ) (e : Entry) → Tells o h limit lane e
    → AtLeast 1 e
told_least o h limit lane (At p k n) t = let a : 0 < k = t.0 in let g : 1 ≤ k = omega (arith, a) in g
told_least o h limit lane (Ref r d) t = tt
told_least o h limit lane (Busy b) t = tt

sit : (o : Object) (h : List Noted) (limit i : ℕ) (es : List Entry) → All (Tells o h limit (Some i)) es
    → AllSit i 1 h (tagged es)
sit o h limit i [] all = tt
sit o h limit i (At p k n ∷ es) all =
    let t = All-head (Tells o h limit (Some i)) (At p k n) es all in
    let a : 0 < k = t.0 in (
      (k - 1, (let g : k ≡ 1 + (k - 1) = omega (arith, a) in g), t.1),
      is_its i n.lane t.2,
      sit o h limit i es
          (All-tail (Tells o h limit (Some i)) (At p k n) es all),
    )
sit o h limit i (Ref r d ∷ es) all = sit o h limit i es (All-tail (Tells o h limit (Some i)) (Ref r d) es all)
sit o h limit i (Busy b ∷ es) all = sit o h limit i es (All-tail (Tells o h limit (Some i)) (Busy b) es all)

notes_tagged : (es : List Entry) → map (λ (x : ℕ × Noted). x.1) (tagged es) ≡ filter_map noted_of es
notes_tagged [] = refl
notes_tagged (At p k n ∷ es) = ap (λ (t : List Noted). n ∷ t) (notes_tagged es)
notes_tagged (Ref r d ∷ es) = notes_tagged es
notes_tagged (Busy b ∷ es) = notes_tagged es

-- a lane's notes at an object are those that the history has of the lane
pub part_numbered : (s : Shape) (o : Object) (h : List Noted) (limit i : ℕ) (p : Part) → IsObjectOf s o
    → p.number ≡ Some i → All (Stands s p.number) p.notes → IsTold o h limit (object_part s (home_of s o) p)
    → AllLaned h →
    own o (notes_in p.notes) ≡ numbered i 1 (lawful h)
part_numbered s o h limit i p fits number st told laned =
    let es : List Entry = filter (is_about s (home_of s o)) p.notes in
    own_object_part s p.number o fits p.notes st
    ∙ are_numbered i 1 h (tagged es)
    (rises 1 es told.ordered (All-weaker (Tells o h limit p.number) (AtLeast 1) (told_least o h limit p.number) es
    told.told))
    (sit o h limit i es (subst (λ (l : Option ℕ). All (Tells o h limit l) es) number told.told))
    laned
    (notes_tagged es ∙ told.own i number)
