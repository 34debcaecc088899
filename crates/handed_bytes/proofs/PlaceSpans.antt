-- What a root place keeps from one note to a later one.
use Rattle.std.proofs.Common.{◌≡◌, ℕ, zero, suc, ◌+◌, ◌-◌, ◌<◌, ◌≤◌, List, [], ◌∷◌, ◌++◌, length, take, refl, sym, ap, subst, arith, Some, None, append_assoc, append-nil, ◌∙◌}
use Rattle.std.specs.Prelude.{Option, ◌==◌, ◌&&◌, ◌||◌, nat_le, nat_lt, replicate, option_and_then, slice_get}
use Rattle.pool_law.specs.declared.id.RootId.{RootId}
use Rattle.pool_law.specs.declared.note.Did.{Did}
use Rattle.pool_law.specs.declared.note.Did.TheVariants.{Birth, Set, Get, Touch, Room, Extend, Grow, End}
use Rattle.pool_law.specs.Same.{same_root, same_bytes}
use Rattle.pool_law.specs.Roots.{RootPlace, Present, new_place, bytes_at, zeros_to, with_bytes, place_step, place_step_by, vacant_step}
use Rattle.pool_law.specs.Histories.{after}
use Rattle.run_laws.proofs.CacheLaw.{if_so-is}
use Rattle.run_laws.proofs.PlaceLaw.{Births, Stays, Does, place_step-does, vacant_step-does, after-first}

-- the root that is present is of the last generation
abbrev pub IsLast : RootPlace → Type 0
IsLast s = (p : Present) → s.present ≡ Some p → p.root.generation ≡ s.generation

pub new-last : IsLast new_place
new-last p e = absurd (cc e)

does-last : (place : ℕ) (s t : RootPlace) (d : Did) → Does place s d t → IsLast s → IsLast t
does-last place s t (Birth root region) does last p e =
    ap (λ r. r.generation) (does.present p e).0 ∙ does.next ∙ sym does.generation
does-last place s t (Grow capacity region) does last p e =
    ap (λ r. r.generation) (does.present p e).0 ∙ last does.there does.there_is ∙ sym does.generation
does-last place s t _ does last p e =
    let q = does.present p e in
    ap (λ r. r.generation) q.2 ∙ last q.0 q.1 ∙ sym does.generation

does-more : (place : ℕ) (s t : RootPlace) (d : Did) → Does place s d t → s.generation ≤ t.generation
does-more place s t (Birth root region) does = omega (arith, does.generation)
does-more place s t _ does = omega (arith, does.generation)

pub after-last : (place : ℕ) (ds : List Did) (s t : RootPlace) → after (place_step place) s ds ≡ Some t → IsLast s
    → IsLast t
after-last place [] s t e last = let same : s ≡ t = cc e in subst IsLast same last
after-last place (d ∷ ds) s t e last =
    let f = after-first place s t d ds e in
    after-last place ds f.0 t f.2 (does-last place s f.0 d (place_step-does place s f.0 d f.1) last)

after-more : (place : ℕ) (ds : List Did) (s t : RootPlace) → after (place_step place) s ds ≡ Some t
    → s.generation ≤ t.generation
after-more place [] s t e = let same : s ≡ t = cc e in omega (arith, ap (λ x. x.generation) same)
after-more place (d ∷ ds) s t e =
    let f = after-first place s t d ds e in
    omega (arith, does-more place s f.0 d (place_step-does place s f.0 d f.1), after-more place ds f.0 t f.2)

-- what is present at last, where nothing was at first, is of a later generation
vacant-later : (place : ℕ) (ds : List Did) (s t : RootPlace) (q : Present) → after (place_step place) s ds ≡ Some t
    → s.present ≡ None → t.present ≡ Some q → s.generation < q.root.generation
vacant-later place [] s t q e none some =
    let same : s ≡ t = cc e in absurd (cc (sym none ∙ ap (λ x. x.present) same ∙ some))
vacant-later place (d ∷ ds) s t q e none some =
    let f = after-first place s t d ds e in
    born d f.0 (ap (λ o. place_step_by place s o d) (sym none) ∙ f.1) f.2
  where
    born : (d : Did) (m : RootPlace) → vacant_step place s d ≡ Some m → after (place_step place) m ds ≡ Some t
        → s.generation < q.root.generation
    born (Birth root region) m step rest =
        let does : Births place s m root region = vacant_step-does place s m (Birth root region) step in
        let last : IsLast m =
        λ p e. ap (λ r. r.generation) (does.present p e).0 ∙ does.next ∙ sym does.generation in
        omega (arith, does.generation, after-more place ds m t rest, after-last place ds m t rest last q some)
    born _ m step rest = absurd (cc step)

-- nothing is set on this root by these notes
abbrev pub Unset : ℕ → RootId → RootPlace → List Did → Type 0
Unset place root s ds =
    (j offset : ℕ) (bytes : List ℕ) (m : RootPlace) (p : Present) → after (place_step place) s (take j ds) ≡ Some m
    → slice_get ds j ≡ Some (Set offset bytes) → m.present ≡ Some p → p.root ≡ root → ⊥

-- the bytes of a root stay, where nothing is set on it; others may come behind them
pub bytes-stay : (place : ℕ) (ds : List Did) (s t : RootPlace) (p q : Present) → after (place_step place) s ds ≡ Some t
    → s.present ≡ Some p → t.present ≡ Some q → IsLast s → q.root ≡ p.root → Unset place p.root s ds
    → (more : List ℕ) × (q.bytes ≡ p.bytes ++ more)
bytes-stay place [] s t p q e here there last same unset =
    let is : s ≡ t = cc e in
    let one : q ≡ p = cc (sym there ∙ ap (λ x. x.present) (sym is) ∙ here) in
    ([], ap (λ x. x.bytes) one ∙ sym (append-nil p.bytes))
bytes-stay place (d ∷ ds) s t p q e here there last same unset =
    let f = after-first place s t d ds e in
    go d f.0 f.1 (ap (λ o. place_step_by place s o d) (sym here) ∙ f.1) f.2 unset
    (λ r is own left. bytes-stay place ds f.0 t r q f.2 is there
    (does-last place s f.0 d (place_step-does place s f.0 d f.1) last) (same ∙ sym own)
    (subst (λ x. Unset place x f.0 ds) (sym own) left))
  where
    shifted : (d : Did) (m : RootPlace) → place_step place s d ≡ Some m → Unset place p.root s (d ∷ ds)
        → Unset place p.root m ds
    shifted d m step unset j offset bytes n r e is there own =
        unset (suc j) offset bytes n r (ap (λ o. option_and_then (λ x. after (place_step place) x
        (take j ds)) o) step ∙ e)
        is there own

    go : (d : Did) (m : RootPlace) → place_step place s d ≡ Some m → place_step_by place s (Some p) d ≡ Some m
        → after (place_step place) m ds ≡ Some t → Unset place p.root s (d ∷ ds)
        → ((r : Present) → m.present ≡ Some r → r.root ≡ p.root → Unset place p.root m ds
        → (more : List ℕ) × (q.bytes ≡ r.bytes ++ more))
        → (more : List ℕ) × (q.bytes ≡ p.bytes ++ more)
    go (Set offset bytes) m own step rest unset kept = absurd (unset 0 offset bytes s p refl refl here refl)
    go (Get offset bytes) m own step rest unset kept =
        let is : s ≡ m =
        if_so-is (nat_le (offset + length bytes) (length p.bytes) && same_bytes bytes
        (bytes_at p.bytes offset (length bytes))) s m step in
        kept p (ap (λ x. x.present) (sym is) ∙ here) refl (shifted (Get offset bytes) m own unset)
    go Touch m own step rest unset kept =
        let is : s ≡ m = cc step in
        kept p (ap (λ x. x.present) (sym is) ∙ here) refl (shifted Touch m own unset)
    go (Room asked capacity) m own step rest unset kept =
        let is : s ≡ m =
        if_so-is ((capacity == length p.bytes) && (nat_le asked capacity || nat_lt p.region.place.len asked)) s m
        step in
        kept p (ap (λ x. x.present) (sym is) ∙ here) refl (shifted (Room asked capacity) m own unset)
    go (Extend size) m own step rest unset kept =
        let zeros : List ℕ = replicate (size - length p.bytes) 0 in
        let is : with_bytes s p (zeros_to size p.bytes) ≡ m =
        if_so-is (nat_lt (length p.bytes) size && nat_le size p.region.place.len)
        (with_bytes s p (zeros_to size p.bytes)) m step in
        let later =
        kept (record p { bytes = zeros_to size p.bytes }) (ap (λ x. x.present) (sym is)) refl
        (shifted (Extend size) m own unset) in
        (zeros ++ later.0, later.1 ∙ append_assoc p.bytes zeros later.0)
    go (Grow capacity region) m own step rest unset kept =
        let zeros : List ℕ = replicate (capacity - length p.bytes) 0 in
        let moved : Present = record p { region = region } in
        let is : with_bytes s moved (zeros_to capacity p.bytes) ≡ m =
        if_so-is (nat_lt p.region.place.len capacity && nat_le capacity region.place.len)
        (with_bytes s moved (zeros_to capacity p.bytes)) m step in
        let later =
        kept (record moved { bytes = zeros_to capacity p.bytes }) (ap (λ x. x.present) (sym is)) refl
        (shifted (Grow capacity region) m own unset) in
        (zeros ++ later.0, later.1 ∙ append_assoc p.bytes zeros later.0)
    go (End root) m own step rest unset kept =
        let is : record s { present = None } ≡ m =
        if_so-is (same_root root p.root) (record s { present = None }) m step in
        let later : m.generation < q.root.generation =
        vacant-later place ds m t q rest (ap (λ x. x.present) (sym is)) there in
        let generation : s.generation ≡ m.generation = ap (λ x. x.generation) is in
        absurd (omega (arith, later, generation, last p here, ap (λ r. r.generation) same))
    go _ m own step rest unset kept = absurd (cc step)
