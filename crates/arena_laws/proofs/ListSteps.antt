-- Which chunks are in a list after one of them entered, left or settled.
use Rattle.std.proofs.Common.{◌≡◌, ◌≢◌, ℕ, List, [], ◌∷◌, refl, sym, ap, Bool, true, false, Some, None, ◌∙◌, eq-eqb, eqb-true, ne_eqb}
use Rattle.std.specs.Prelude.{◌==◌, ◌||◌, not, if◌then◌else◌, Option}
use Rattle.std.proofs.lemmas.Bool.{cond_both}
use Rattle.pool_law.specs.declared.report.ListName.{ListName}
use Rattle.pool_law.specs.declared.report.ListName.TheVariants.{QInit, Q000, Q025, Q050, Q075, Q100}
use Rattle.pool_law.specs.ChunkLists.{Lists, no_chunks, list_named, entered, without, left, has, list_of, same_list, lists_above, risen, moved_to, settled_up, settled_down}
use Rattle.pool_law.proofs.NumberLemmas.{has-without}

-- ---- one list

pub has-first : (c : ℕ) (xs : List ℕ) → has c (c ∷ xs) ≡ true
has-first c xs = ap (λ b. b || has c xs) (eq-eqb c c refl)

pub has-later : (c d : ℕ) (xs : List ℕ) → d ≢ c → has d (c ∷ xs) ≡ has d xs
has-later c d xs other = ap (λ b. b || has d xs) (ne_eqb c d (λ e. other (sym e)))

pub has-without_other : (c d : ℕ) (xs : List ℕ) → d ≢ c → has d (without c xs) ≡ has d xs
has-without_other c d [] other = refl
has-without_other c d (x ∷ xs) other = go (x == c) refl (has-without_other c d xs other)
  where
    go : (b : Bool) → (x == c) ≡ b → has d (without c xs) ≡ has d xs → has d (without c (x ∷ xs)) ≡ has d (x ∷ xs)
    go true is rest =
        ap (λ b. has d (if not b then x ∷ without c xs else without c xs)) is ∙ rest
        ∙ sym (ap (λ b. b || has d xs) (ne_eqb x d (λ e. other (sym e ∙ eqb-true x c is))))
    go false is rest =
        ap (λ b. has d (if not b then x ∷ without c xs else without c xs)) is ∙ ap (λ b. (x == d) || b) rest

-- ---- the six lists

-- a chunk is in no list where each of them is without it
pub in-none : (l : Lists) (c : ℕ) → list_of l c ≡ None → (name : ListName) → has c (list_named l name) ≡ false
in-none l c e = named
  where
    not-here : (b : Bool) (here : ListName) (rest : Option ListName) → (if b then Some here else rest) ≡ None
        → (b ≡ false) × (rest ≡ None)
    not-here true here rest e = absurd (cc e)
    not-here false here rest e = (refl, e)

    e5 : Option ListName
    e5 = (if has c l.q100 then Some Q100 else None)

    e4 : Option ListName
    e4 = (if has c l.q075 then Some Q075 else e5)

    e3 : Option ListName
    e3 = (if has c l.q050 then Some Q050 else e4)

    e2 : Option ListName
    e2 = (if has c l.q025 then Some Q025 else e3)

    e1 : Option ListName
    e1 = (if has c l.q000 then Some Q000 else e2)

    n0 : (has c l.init ≡ false) × (e1 ≡ None)
    n0 = not-here (has c l.init) QInit e1 e

    n1 : (has c l.q000 ≡ false) × (e2 ≡ None)
    n1 = not-here (has c l.q000) Q000 e2 n0.1

    n2 : (has c l.q025 ≡ false) × (e3 ≡ None)
    n2 = not-here (has c l.q025) Q025 e3 n1.1

    n3 : (has c l.q050 ≡ false) × (e4 ≡ None)
    n3 = not-here (has c l.q050) Q050 e4 n2.1

    n4 : (has c l.q075 ≡ false) × (e5 ≡ None)
    n4 = not-here (has c l.q075) Q075 e5 n3.1

    e6 : Option ListName
    e6 = None

    n5 : (has c l.q100 ≡ false) × (e6 ≡ None)
    n5 = not-here (has c l.q100) Q100 e6 n4.1

    named : (name : ListName) → has c (list_named l name) ≡ false
    named QInit = n0.0
    named Q000 = n1.0
    named Q025 = n2.0
    named Q050 = n3.0
    named Q075 = n4.0
    named Q100 = n5.0

-- the list of a chunk is found by which of them have it
pub list_of-same : (l k : Lists) (c : ℕ) → ((name : ListName) → has c (list_named l name) ≡ has c (list_named k name))
    → list_of l c ≡ list_of k c
list_of-same l k c same = rw (same QInit, same Q000, same Q025, same Q050, same Q075, same Q100) refl

pub list_of-none : (l : Lists) (c : ℕ) → ((name : ListName) → has c (list_named l name) ≡ false) → list_of l c ≡ None
list_of-none l c none = rw (none QInit, none Q000, none Q025, none Q050, none Q075, none Q100) refl

pub entered-here : (l : Lists) (c : ℕ) (name : ListName) → has c (list_named (entered l name c) name) ≡ true
entered-here l c QInit = has-first c l.init
entered-here l c Q000 = has-first c l.q000
entered-here l c Q025 = has-first c l.q025
entered-here l c Q050 = has-first c l.q050
entered-here l c Q075 = has-first c l.q075
entered-here l c Q100 = has-first c l.q100

pub entered-others : (l : Lists) (c d : ℕ) → d ≢ c → (name there : ListName)
    → has d (list_named (entered l name c) there) ≡ has d (list_named l there)
entered-others l c d other QInit QInit = has-later c d l.init other
entered-others l c d other Q000 Q000 = has-later c d l.q000 other
entered-others l c d other Q025 Q025 = has-later c d l.q025 other
entered-others l c d other Q050 Q050 = has-later c d l.q050 other
entered-others l c d other Q075 Q075 = has-later c d l.q075 other
entered-others l c d other Q100 Q100 = has-later c d l.q100 other
entered-others l c d other _ _ = refl

pub left-here : (l : Lists) (c : ℕ) (name : ListName) → has c (list_named (left l c) name) ≡ false
left-here l c QInit = has-without c l.init
left-here l c Q000 = has-without c l.q000
left-here l c Q025 = has-without c l.q025
left-here l c Q050 = has-without c l.q050
left-here l c Q075 = has-without c l.q075
left-here l c Q100 = has-without c l.q100

pub left-others : (l : Lists) (c d : ℕ) → d ≢ c → (name : ListName)
    → has d (list_named (left l c) name) ≡ has d (list_named l name)
left-others l c d other QInit = has-without_other c d l.init other
left-others l c d other Q000 = has-without_other c d l.q000 other
left-others l c d other Q025 = has-without_other c d l.q025 other
left-others l c d other Q050 = has-without_other c d l.q050 other
left-others l c d other Q075 = has-without_other c d l.q075 other
left-others l c d other Q100 = has-without_other c d l.q100 other

-- ---- where a chunk is

-- a chunk that entered a list is in one, and the others are where they were
pub entered-in : (l : Lists) (c : ℕ) (name : ListName) → list_of (entered l name c) c ≡ None → ⊥
entered-in l c name e = cc (entered-here l c name, in-none (entered l name c) c e name)

pub entered-other : (l : Lists) (c d : ℕ) (name : ListName) → d ≢ c → list_of (entered l name c) d ≡ list_of l d
entered-other l c d name other = list_of-same (entered l name c) l d (entered-others l c d other name)

-- a chunk that left is in none
pub left-in : (l : Lists) (c : ℕ) → list_of (left l c) c ≡ None
left-in l c = list_of-none (left l c) c (left-here l c)

pub left-other : (l : Lists) (c d : ℕ) → d ≢ c → list_of (left l c) d ≡ list_of l d
left-other l c d other = list_of-same (left l c) l d (left-others l c d other)

-- a chunk that moved is in a list
pub moved-in : (l : Lists) (c : ℕ) (here there : ListName) → (list_of l c ≡ None → ⊥)
    → list_of (moved_to l c here there) c ≡ None → ⊥
moved-in l c here there was =
    cond_both (same_list here there) l (entered (left l c) there c) (λ k. list_of k c ≡ None → ⊥) (λ _. was)
    (λ _. entered-in (left l c) c there)

pub moved-other : (l : Lists) (c d : ℕ) (here there : ListName) → d ≢ c
    → list_of (moved_to l c here there) d ≡ list_of l d
moved-other l c d here there other =
    cond_both (same_list here there) l (entered (left l c) there c) (λ k. list_of k d ≡ list_of l d) (λ _. refl)
    (λ _. entered-other (left l c) c d there other ∙ left-other l c d other)

-- so is one that settled upwards
pub up-in : (l : Lists) (c percent : ℕ) (o : Option ListName) → (list_of l c ≡ None → ⊥)
    → list_of (settled_up l c percent o) c ≡ None → ⊥
up-in l c percent None was = was
up-in l c percent (Some here) was = moved-in l c here (risen percent here (lists_above here)) was

pub up-other : (l : Lists) (c d percent : ℕ) (o : Option ListName) → d ≢ c
    → list_of (settled_up l c percent o) d ≡ list_of l d
up-other l c d percent None other = refl
up-other l c d percent (Some here) other = moved-other l c d here (risen percent here (lists_above here)) other

-- and one that settled downwards, where it was not destroyed
pub down-other : (l : Lists) (c d : ℕ) (o there : Option ListName) → d ≢ c
    → list_of (settled_down l c o there) d ≡ list_of l d
down-other l c d None there other = refl
down-other l c d (Some here) None other = left-other l c d other
down-other l c d (Some here) (Some there) other = moved-other l c d here there other

pub nowhere : (c : ℕ) → list_of no_chunks c ≡ None
nowhere c = refl
