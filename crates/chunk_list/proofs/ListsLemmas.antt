-- The six lists: which of them a chunk is in once it has left or entered.
use Rattle.std.proofs.Common.{◌≡◌, ℕ, List, ◌∷◌, refl, ap, Bool, true, false, Some, None, ◌∙◌, eq-eqb}
use Rattle.std.specs.Prelude.{◌==◌, ◌||◌, not, if◌then◌else◌, Option}
use Rattle.pool_law.specs.declared.report.ListName.{ListName}
use Rattle.pool_law.specs.declared.report.ListName.TheVariants.{QInit, Q000, Q025, Q050, Q075, Q100}
use Rattle.pool_law.specs.ChunkLists.{Lists, list_named, entered, without, left, has, list_of}
use Rattle.pool_law.proofs.NumberLemmas.{has-without}
use Rattle.chunk_list.proofs.MemberLemmas.{without-absent}

-- the chunk is in none of the lists
pub record IsInNone (l : Lists) (c : ℕ) : Type 0 where
  pub init : has c l.init ≡ false
  pub q000 : has c l.q000 ≡ false
  pub q025 : has c l.q025 ≡ false
  pub q050 : has c l.q050 ≡ false
  pub q075 : has c l.q075 ≡ false
  pub q100 : has c l.q100 ≡ false

not-here : (b : Bool) (here : ListName) (rest : Option ListName) → (if b then Some here else rest) ≡ None →
    (b ≡ false) × (rest ≡ None)
not-here true here rest e = absurd (cc e)
not-here false here rest e = (refl, e)

further : (b : Bool) (here : ListName) (rest o : Option ListName) → b ≡ false → rest ≡ o →
    (if b then Some here else rest) ≡ o
further b here rest o other e = ap (λ x. if x then Some here else rest) other ∙ e

-- a chunk that has no list is in none of them
pub in_none : (l : Lists) (c : ℕ) → list_of l c ≡ None → IsInNone l c
in_none l c e =
    let e5 : Option ListName = if has c l.q100 then Some Q100 else None in
    let e4 : Option ListName = if has c l.q075 then Some Q075 else e5 in
    let e3 : Option ListName = if has c l.q050 then Some Q050 else e4 in
    let e2 : Option ListName = if has c l.q025 then Some Q025 else e3 in
    let e1 : Option ListName = if has c l.q000 then Some Q000 else e2 in
    let n0 : (has c l.init ≡ false) × (e1 ≡ None) = not-here (has c l.init) QInit e1 e in
    let n1 : (has c l.q000 ≡ false) × (e2 ≡ None) = not-here (has c l.q000) Q000 e2 n0.1 in
    let n2 : (has c l.q025 ≡ false) × (e3 ≡ None) = not-here (has c l.q025) Q025 e3 n1.1 in
    let n3 : (has c l.q050 ≡ false) × (e4 ≡ None) = not-here (has c l.q050) Q050 e4 n2.1 in
    let n4 : (has c l.q075 ≡ false) × (e5 ≡ None) = not-here (has c l.q075) Q075 e5 n3.1 in
    let n5 : (has c l.q100 ≡ false) × (None ≡ None) = not-here (has c l.q100) Q100 None n4.1 in
    record { init = n0.0; q000 = n1.0; q025 = n2.0; q050 = n3.0; q075 = n4.0; q100 = n5.0 }

pub none_named : (l : Lists) (c : ℕ) (name : ListName) → IsInNone l c → has c (list_named l name) ≡ false
none_named l c QInit none = none.init
none_named l c Q000 none = none.q000
none_named l c Q025 none = none.q025
none_named l c Q050 none = none.q050
none_named l c Q075 none = none.q075
none_named l c Q100 none = none.q100

-- a chunk that left is in none of the lists
pub left_none : (l : Lists) (c : ℕ) → IsInNone (left l c) c
left_none l c =
    record {
      init = has-without c l.init;
      q000 = has-without c l.q000;
      q025 = has-without c l.q025;
      q050 = has-without c l.q050;
      q075 = has-without c l.q075;
      q100 = has-without c l.q100;
    }

-- what a chunk is in none of it leaves as it is
pub left-absent : (l : Lists) (c : ℕ) → IsInNone l c → left l c ≡ l
left-absent l c none =
    λ i. record {
      init = without-absent c l.init none.init i;
      q000 = without-absent c l.q000 none.q000 i;
      q025 = without-absent c l.q025 none.q025 i;
      q050 = without-absent c l.q050 none.q050 i;
      q075 = without-absent c l.q075 none.q075 i;
      q100 = without-absent c l.q100 none.q100 i;
    }

itself : (c : ℕ) → (c == c) ≡ true
itself c = eq-eqb c c refl

-- after it has entered a list it is in that one
pub list_of-entered : (l : Lists) (c : ℕ) (name : ListName) → IsInNone l c → list_of (entered l name c) c ≡ Some name
list_of-entered l c name none = go name
  where
    first : (here : ListName) (xs : List ℕ) (rest : Option ListName) →
        (if has c (c ∷ xs) then Some here else rest) ≡ Some here
    first here xs rest = ap (λ b. if b || has c xs then Some here else rest) (itself c)

    go : (name : ListName) → list_of (entered l name c) c ≡ Some name
    go QInit = first QInit l.init _
    go Q000 = further (has c l.init) QInit _ _ none.init (first Q000 l.q000 _)
    go Q025 =
        further (has c l.init) QInit _ _ none.init
        (further (has c l.q000) Q000 _ _ none.q000 (first Q025 l.q025 _))
    go Q050 =
        further (has c l.init) QInit _ _ none.init
        (further (has c l.q000) Q000 _ _ none.q000
        (further (has c l.q025) Q025 _ _ none.q025 (first Q050 l.q050 _)))
    go Q075 =
        further (has c l.init) QInit _ _ none.init
        (further (has c l.q000) Q000 _ _ none.q000
        (further (has c l.q025) Q025 _ _ none.q025
        (further (has c l.q050) Q050 _ _ none.q050 (first Q075 l.q075 _))))
    go Q100 =
        further (has c l.init) QInit _ _ none.init
        (further (has c l.q000) Q000 _ _ none.q000
        (further (has c l.q025) Q025 _ _ none.q025
        (further (has c l.q050) Q050 _ _ none.q050
        (further (has c l.q075) Q075 _ _ none.q075 (first Q100 l.q100 _)))))

-- and after it has left, in none
pub list_of-left : (l : Lists) (c : ℕ) → list_of (left l c) c ≡ None
list_of-left l c =
    let none : IsInNone (left l c) c = left_none l c in
    further _ QInit _ _ none.init
    (further _ Q000 _ _ none.q000
    (further _ Q025 _ _ none.q025
    (further _ Q050 _ _ none.q050
    (further _ Q075 _ _ none.q075
    (further _ Q100 None None none.q100 refl)))))

-- a chunk that entered the first list leaves the lists as they were before
pub left-entered_first : (l : Lists) (c : ℕ) → IsInNone l c → left (entered l QInit c) c ≡ l
left-entered_first l c none =
    ap (λ b. record (left l c) { init = (if not b then c ∷ without c l.init else without c l.init) }) (itself c)
    ∙ left-absent l c none
