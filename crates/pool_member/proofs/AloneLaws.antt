-- What is kept of the roots that a thread alone has, once what is kept at a place has changed.
use Rattle.std.proofs.Common.{◌≡◌, ◌≢◌, ◌⊎◌, ◌<◌, Bool, true, false, List, inl, inr, sym, ap, ◌∙◌, ⊎_elim, arith, Some}
use Rattle.std.specs.Prelude.{◌&&◌, slice_get, slice_set}
use Rattle.std.proofs.lemmas.Bool.{cases_eq, and_right}
use Rattle.history_laws.proofs.Names.{same_root-or}
use Rattle.pool_law.specs.declared.id.RootId.{RootId}
use Rattle.pool_law.specs.Same.{same_root}
use Rattle.pool_law.proofs.ListLemmas.{slice_get-set_same, slice_get-set_other, slice_get-below}
use Rattle.pool_law.proofs.PatternLemmas.{same_root-refl}
use Rattle.pool_member.specs.declared.counts.Counted.{Counted}
use Rattle.pool_member.specs.Counting.{counted, if_alone, is_alone}

and_true : (a b : Bool) → (a && b) ≡ true → (a && true) ≡ true
and_true true b is = λ i. true
and_true false b is = is

module _ (cs : List Counted) (root : RootId) (c : Counted) (at : slice_get cs root.place ≡ Some c) where
  alone_here : (other : RootId) → other.place ≡ root.place → is_alone cs other ≡ (same_root c.root other && c.alone)
  alone_here other e = ap (λ o. if_alone o other) (ap (slice_get cs) e ∙ at)

  alone_there : (x : Counted) (other : RootId) → other.place ≡ root.place
      → is_alone (slice_set cs root.place x) other ≡ (same_root x.root other && x.alone)
  alone_there x other e =
      ap (λ o. if_alone o other) (ap (slice_get (slice_set cs root.place x)) e
      ∙ slice_get-set_same cs root.place x (slice_get-below cs root.place c at))

  alone_else : (x : Counted) (other : RootId) → other.place ≢ root.place
      → is_alone (slice_set cs root.place x) other ≡ is_alone cs other
  alone_else x other ne = ap (λ o. if_alone o other) (slice_get-set_other cs root.place other.place x ne)

  -- the same is kept of the same root
  pub alone_same : (x : Counted) → x.root ≡ c.root → x.alone ≡ c.alone → (other : RootId)
      → is_alone (slice_set cs root.place x) other ≡ is_alone cs other
  alone_same x is same other = ⊎_elim
      (λ (e : other.place ≡ root.place). alone_there x other e ∙ (λ i. same_root (is i) other && same i)
      ∙ sym (alone_here other e))
      (λ (ne : other.place ≢ root.place). alone_else x other ne)
      (cases_eq other.place root.place)

  -- nothing is kept of it
  pub alone_less : (x : Counted) → x.alone ≡ false → (other : RootId)
      → is_alone (slice_set cs root.place x) other ≡ true → is_alone cs other ≡ true
  alone_less x none other is = ⊎_elim
      (λ (e : other.place ≡ root.place).
      (let gone = alone_there x other e ∙ and_right (same_root x.root other) x.alone none in
      absurd (cc (sym is ∙ gone))))
      (λ (ne : other.place ≢ root.place). sym (alone_else x other ne) ∙ is)
      (cases_eq other.place root.place)

  -- another root that is counted stays kept, where this one takes the place of one that isn't
  pub alone_kept : (x : Counted) → same_root c.root root ≡ false
      → ((other : RootId) → other.place ≡ root.place → 0 < counted cs other → other ≡ root) → (other : RootId)
      → 0 < counted cs other → is_alone cs other ≡ true → is_alone (slice_set cs root.place x) other ≡ true
  alone_kept x differs alone other lt is = ⊎_elim
      (λ (e : other.place ≡ root.place).
      (let same = alone other e lt in
      absurd (cc (sym is ∙ alone_here other e ∙ (λ i. same_root c.root (same i) && c.alone)
      ∙ (λ i. differs i && c.alone)))))
      (λ (ne : other.place ≢ root.place). alone_else x other ne ∙ is)
      (cases_eq other.place root.place)

  -- and where nothing was counted at the place
  pub alone_fresh : (x : Counted) → ((other : RootId) → other.place ≡ root.place → counted cs other ≡ 0)
      → (other : RootId) → 0 < counted cs other → is_alone cs other ≡ true
      → is_alone (slice_set cs root.place x) other ≡ true
  alone_fresh x fresh other lt is = ⊎_elim
      (λ (e : other.place ≡ root.place). absurd (omega (arith, fresh other e, lt)))
      (λ (ne : other.place ≢ root.place). alone_else x other ne ∙ is)
      (cases_eq other.place root.place)

  -- and where something else changes of this one
  pub alone_apart : (x : Counted) → c.root ≡ root → (other : RootId) → same_root root other ≡ false
      → is_alone cs other ≡ true → is_alone (slice_set cs root.place x) other ≡ true
  alone_apart x here other apart is = ⊎_elim
      (λ (e : other.place ≡ root.place).
      absurd (cc (sym is ∙ alone_here other e ∙ (λ i. same_root (here i) other && c.alone)
      ∙ (λ i. apart i && c.alone))))
      (λ (ne : other.place ≢ root.place). alone_else x other ne ∙ is)
      (cases_eq other.place root.place)

  pub alone_gone : (x : Counted) → x.alone ≡ false → is_alone (slice_set cs root.place x) root ≡ false
  alone_gone x none = alone_there x root (λ i. root.place) ∙ and_right (same_root x.root root) x.alone none

  -- it is kept of this root
  pub alone_own : (x : Counted) → x.root ≡ root → (other : RootId)
      → is_alone (slice_set cs root.place x) other ≡ true → (other ≡ root) ⊎ (is_alone cs other ≡ true)
  alone_own x here other is = ⊎_elim same
      (λ (ne : other.place ≢ root.place). inr (sym (alone_else x other ne) ∙ is))
      (cases_eq other.place root.place)
    where
      same : other.place ≡ root.place → (other ≡ root) ⊎ (is_alone cs other ≡ true)
      same e = ⊎_elim
          (λ t. inl (sym t.1))
          (λ (apart : same_root root other ≡ false). absurd (cc
          (sym is ∙ alone_there x other e ∙ (λ i. same_root (here i) other && x.alone) ∙ (λ i. apart i && x.alone))))
          (same_root-or root other)

  pub alone_more : (x : Counted) → x.root ≡ c.root → x.alone ≡ true → (other : RootId)
      → is_alone cs other ≡ true → is_alone (slice_set cs root.place x) other ≡ true
  alone_more x same kept other is = ⊎_elim
      (λ (e : other.place ≡ root.place).
      alone_there x other e ∙ (λ i. same_root (same i) other && kept i)
      ∙ and_true (same_root c.root other) c.alone (sym (alone_here other e) ∙ is))
      (λ (ne : other.place ≢ root.place). alone_else x other ne ∙ is)
      (cases_eq other.place root.place)

  pub alone_now : (x : Counted) → x.root ≡ root → x.alone ≡ true → is_alone (slice_set cs root.place x) root ≡ true
  alone_now x here kept =
      alone_there x root (λ i. root.place) ∙ (λ i. same_root (here i) root && kept i)
      ∙ (λ i. same_root-refl root i && true)
