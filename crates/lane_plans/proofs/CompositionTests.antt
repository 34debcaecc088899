-- What the tests of a composite that is to be made say of its names.
use Rattle.std.proofs.Common.{◌≡◌, ℕ, suc, ◌<◌, Bool, true, false, List, [], ◌∷◌, ◌++◌, length, refl, sym, ap, ◌∙◌, arith, Option, Some, None, le-leb, leb-true}
use Rattle.std.specs.Prelude.{All, ⊤, IsTrue, ◌↔◌, if◌then◌else◌, not, ◌&&◌, nat_le, is_none, is_some}
use Rattle.std.specs.List.{list_any, list_all}
use Rattle.std.proofs.lemmas.Bool.{and_parts, false≢true}
use Rattle.std.proofs.lemmas.List.Elements.{All-nil, All-cons, All-head, All-tail, All-same}
use Rattle.pool_law.specs.declared.id.Part.{Part}
use Rattle.pool_law.specs.declared.id.ViewData.{ViewData}
use Rattle.pool_law.specs.declared.run.Reply.{Reply}
use Rattle.pool_law.specs.Arenas.{or_else}
use Rattle.pool_law.specs.Composites.{Composite, readable}
use Rattle.pool_law.specs.Names.{Bound, Plain, Composed, composite_in, is_usable, passes, view_in}
use Rattle.pool_law.specs.Refusals.{Refusal, first_refusal}
use Rattle.lane_stages.specs.declared.counts.Counted.{Counted}
use Rattle.lane_plans.specs.Compositions.{counts_in, is_composite, is_illegal, is_plain, is_taken, is_unbound, readable_at, readable_in, readable_of, refusals_to_add, refusals_to_compose}
use Rattle.lane_stages.specs.Counting.{counted}
use Rattle.lane_context.specs.Named.{bound_at}
use Rattle.lane_plans.specs.Plans.{IsUsable}
use Rattle.lane_plans.proofs.RefusalLists.{each, first_refusal-append, first_of_each, none_passes}

not_false : (b : Bool) → not b ≡ false → b ≡ true
not_false true is = refl
not_false false is = absurd (cc is)

-- ---- Names that are bound to views whose roots are counted.

abbrev pub IsShown : List (Option Bound) → List Counted → ℕ → Type 0
IsShown names cs name = (v : ViewData) × (bound_at names name ≡ Some (Plain v)) × (0 < counted cs v.root)

abbrev pub AreShown : List (Option Bound) → List Counted → List ℕ → Type 0
AreShown names cs [] = ⊤
AreShown names cs (n ∷ ns) = IsShown names cs n × AreShown names cs ns

-- what is neither unbound nor a composite nor illegal is such a view
shown_by : (cs : List Counted) (o : Option Bound) → is_none o ≡ false → passes (λ b. is_some (composite_in b)) o ≡ false
    → passes (λ b. not (is_usable (counts_in cs) b)) o ≡ false
    → (v : ViewData) × (o ≡ Some (Plain v)) × (0 < counted cs v.root)
shown_by cs None bound view legal = absurd (cc bound)
shown_by cs (Some (Composed c)) bound view legal = absurd (cc view)
shown_by cs (Some (Plain v)) bound view legal =
    let lt = leb-true 1 (counted cs v.root) (not_false (nat_le 1 (counted cs v.root)) legal) in
    (v, refl, omega (arith, lt))

module _ (names : List (Option Bound)) (cs : List Counted) where
  pub are_shown : (of : List ℕ) → list_any (is_unbound names) of ≡ false → list_any (is_composite names) of ≡ false
      → list_any (is_illegal names cs) of ≡ false → AreShown names cs of
  are_shown [] bound views legal = tt
  are_shown (n ∷ ns) bound views legal =
      let b = none_passes (is_unbound names) n ns bound in
      let v = none_passes (is_composite names) n ns views in
      let l = none_passes (is_illegal names cs) n ns legal in
      (shown_by cs (bound_at names n) b.0 v.0 l.0, are_shown ns b.1 v.1 l.1)

  -- each of them has one part
  pub one_part : (n : ℕ) (shown : IsShown names cs n) → readable_at names n ≡ readable shown.0 ∷ []
  one_part n shown = ap readable_in shown.1

  pub first_part : (n : ℕ) (ns : List ℕ) (shown : IsShown names cs n)
      → readable_of names (n ∷ ns) ≡ readable shown.0 ∷ readable_of names ns
  first_part n ns shown = ap (λ (ps : List Part). ps ++ readable_of names ns) (one_part n shown)

  pub length-readable : (of : List ℕ) → AreShown names cs of → length (readable_of names of) ≡ length of
  length-readable [] shown = refl
  length-readable (n ∷ ns) shown =
      ap (λ (ps : List Part). length ps) (first_part n ns shown.0) ∙ ap suc (length-readable ns shown.1)

  pub counts-readable : (of : List ℕ) → AreShown names cs of
      → All (λ p. 0 < counted cs p.root) (readable_of names of)
  counts-readable [] shown = All-nil (λ (p : Part). 0 < counted cs p.root)
  counts-readable (n ∷ ns) shown =
      All-same (λ p. 0 < counted cs p.root) (readable_of names (n ∷ ns)) (readable shown.0.0 ∷ readable_of names ns)
      (first_part n ns shown.0)
      (All-cons (λ p. 0 < counted cs p.root) (readable shown.0.0) (readable_of names ns) shown.0.2
      (counts-readable ns shown.1))

-- ---- The refusals of a new composite.

abbrev pub first_by : Bool → Bool → Bool → Bool → Option Reply
first_by unbound taken composite illegal =
    if unbound
    then Some Reply.Unbound
    else (if taken
    then Some Reply.Taken
    else (if composite then Some Reply.Composite else (if illegal then Some Reply.Illegal else None)))

joins : (a b c d : Bool) → or_else
    (or_else (if a then Some Reply.Unbound else None)
    (if b then Some Reply.Taken else (if c then Some Reply.Composite else None)))
    (if d then Some Reply.Illegal else None) ≡ first_by a b c d
joins true b c d = refl
joins false true c d = refl
joins false false true d = refl
joins false false false true = refl
joins false false false false = refl

none_by : (a b c d : Bool) → None ≡ first_by a b c d → (a ≡ false) × (b ≡ false) × (c ≡ false) × (d ≡ false)
none_by true b c d is = absurd (cc is)
none_by false true c d is = absurd (cc is)
none_by false false true d is = absurd (cc is)
none_by false false false true is = absurd (cc is)
none_by false false false false is = (refl, refl, refl, refl)

module _ (names : List (Option Bound)) (cs : List Counted) (fresh : ℕ) (of : List ℕ) where
  abbrev test_by : Option Reply
  test_by =
      first_by (list_any (is_unbound names) of) (is_taken names fresh) (list_any (is_composite names) of)
      (list_any (is_illegal names cs) of)

  pub first_to_compose : first_refusal (refusals_to_compose names cs fresh of) ≡ test_by
  first_to_compose =
      let unbound = each (is_unbound names) Reply.Unbound of in
      let composite = each (is_composite names) Reply.Composite of in
      let illegal = each (is_illegal names cs) Reply.Illegal of in
      let free : Refusal = record { reply = Reply.Taken; comes = is_taken names fresh } in
      first_refusal-append (unbound ++ free ∷ composite) illegal
      ∙ ap (λ (o : Option Reply). or_else o (first_refusal illegal)) (first_refusal-append unbound (free ∷ composite))
      ∙ (λ i. or_else
      (or_else (first_of_each (is_unbound names) Reply.Unbound of i)
      (if is_taken names fresh then Some Reply.Taken else first_of_each (is_composite names) Reply.Composite of i))
      (first_of_each (is_illegal names cs) Reply.Illegal of i))
      ∙ joins (list_any (is_unbound names) of) (is_taken names fresh) (list_any (is_composite names) of)
      (list_any (is_illegal names cs) of)

  -- by the answers of the tests
  pub by_answers : (a free c d : Bool) → list_any (is_unbound names) of ≡ a → is_unbound names fresh ≡ free
      → list_any (is_composite names) of ≡ c → list_any (is_illegal names cs) of ≡ d
      → first_by a (not free) c d ≡ first_refusal (refusals_to_compose names cs fresh of)
  by_answers a free c d is_a is_free is_c is_d =
      (λ i. first_by (sym is_a i) (taken_or (bound_at names fresh) free is_free i) (sym is_c i) (sym is_d i))
      ∙ sym first_to_compose
    where
      taken_or : (o : Option Bound) (b : Bool) → is_none o ≡ b → not b ≡ is_some o
      taken_or None b is = ap (λ (x : Bool). not x) (sym is)
      taken_or (Some bound) b is = ap (λ (x : Bool). not x) (sym is)

  -- where none comes, the names are bound to views whose roots are counted
  pub shown_to_compose : None ≡ first_refusal (refusals_to_compose names cs fresh of) → AreShown names cs of
  shown_to_compose none =
      let clear =
      none_by (list_any (is_unbound names) of) (is_taken names fresh) (list_any (is_composite names) of)
      (list_any (is_illegal names cs) of) (none ∙ first_to_compose) in
      are_shown names cs of clear.0 clear.2 clear.3

-- ---- The refusals of one more part.

-- a composite that has not ended, all of whose roots are counted
pub record IsWhole (names : List (Option Bound)) (cs : List Counted) (name : ℕ) : Type 0 where
  pub composite : Composite
  pub bound : bound_at names name ≡ Some (Composed composite)
  pub counts : All (λ p. 0 < counted cs p.root) composite.parts

all_counted : (cs : List Counted) (parts : List Part) → list_all (λ p. counts_in cs p.root) parts ≡ true
    → All (λ p. 0 < counted cs p.root) parts
all_counted cs [] is = All-nil (λ (p : Part). 0 < counted cs p.root)
all_counted cs (p ∷ ps) is =
    let two = and_parts (counts_in cs p.root) (list_all (λ q. counts_in cs q.root) ps) is in
    let lt = leb-true 1 (counted cs p.root) two.0 in
    All-cons (λ q. 0 < counted cs q.root) p ps (omega (arith, lt)) (all_counted cs ps two.1)

counted_all : (cs : List Counted) (parts : List Part) → All (λ p. 0 < counted cs p.root) parts
    → list_all (λ p. counts_in cs p.root) parts ≡ true
counted_all cs [] all = refl
counted_all cs (p ∷ ps) all =
    let lt : 0 < counted cs p.root = All-head (λ (q : Part). 0 < counted cs q.root) p ps all in
    (λ i. le-leb 1 (counted cs p.root) (omega (arith, lt)) i && list_all (λ q. counts_in cs q.root) ps)
    ∙ counted_all cs ps (All-tail (λ (q : Part). 0 < counted cs q.root) p ps all)

-- the answer whether a composite may be used is the law's
pub usable_so : (cs : List Counted) (c : Composite) (r : Bool) → (IsTrue r ↔ IsUsable cs c)
    → r ≡ is_usable (counts_in cs) (Composed c)
usable_so cs c r says = go r (is_usable (counts_in cs) (Composed c)) refl says
  where
    go : (r b : Bool) → is_usable (counts_in cs) (Composed c) ≡ b → (IsTrue r ↔ IsUsable cs c) → r ≡ b
    go true b is says =
        let usable = says.0 refl in
        let some = usable.count in
        sym ((λ i. le-leb 1 c.count (omega (arith, some)) i && list_all (λ p. counts_in cs p.root) c.parts)
        ∙ counted_all cs c.parts usable.parts)
        ∙ is
    go false false is says = refl
    go false true is says =
        let two = and_parts (nat_le 1 c.count) (list_all (λ p. counts_in cs p.root) c.parts) is in
        let some = leb-true 1 c.count two.0 in
        absurd (false≢true (says.1 (record { count = omega (arith, some); parts = all_counted cs c.parts two.1 })))

whole_by : (cs : List Counted) (o : Option Bound) → is_none o ≡ false → passes (λ b. is_some (view_in b)) o ≡ false
    → passes (λ b. not (is_usable (counts_in cs) b)) o ≡ false
    → (c : Composite) × (o ≡ Some (Composed c)) × All (λ p. 0 < counted cs p.root) c.parts
whole_by cs None bound composite legal = absurd (cc bound)
whole_by cs (Some (Plain v)) bound composite legal = absurd (cc composite)
whole_by cs (Some (Composed c)) bound composite legal =
    let usable =
    and_parts (nat_le 1 c.count) (list_all (λ p. counts_in cs p.root) c.parts)
    (not_false (is_usable (counts_in cs) (Composed c)) legal) in
    (c, refl, all_counted cs c.parts usable.1)

module _ (names : List (Option Bound)) (cs : List Counted) (whole name : ℕ) where
  none_to_add : (a b c d e f : Bool) → None
      ≡ (if a
      then Some Reply.Unbound
      else (if b
      then Some Reply.Unbound
      else (if c
      then Some Reply.Plain
      else (if d
      then Some Reply.Composite
      else (if e then Some Reply.Illegal else (if f then Some Reply.Illegal else None))))))
      → (a ≡ false) × (b ≡ false) × (c ≡ false) × (d ≡ false) × (e ≡ false) × (f ≡ false)
  none_to_add true b c d e f is = absurd (cc is)
  none_to_add false true c d e f is = absurd (cc is)
  none_to_add false false true d e f is = absurd (cc is)
  none_to_add false false false true e f is = absurd (cc is)
  none_to_add false false false false true f is = absurd (cc is)
  none_to_add false false false false false true is = absurd (cc is)
  none_to_add false false false false false false is = (refl, refl, refl, refl, refl, refl)

  pub clear_to_add : None ≡ first_refusal (refusals_to_add names cs whole name)
      → IsWhole names cs whole × IsShown names cs name
  clear_to_add none =
      let clear =
      none_to_add (is_unbound names whole) (is_unbound names name) (is_plain names whole) (is_composite names name)
      (is_illegal names cs whole) (is_illegal names cs name) none in
      let c = whole_by cs (bound_at names whole) clear.0 clear.2 clear.4 in
      (record { composite = c.0; bound = c.1; counts = c.2 }, shown_by cs (bound_at names name) clear.1 clear.3 clear.5)
