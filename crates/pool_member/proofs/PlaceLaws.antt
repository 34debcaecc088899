-- What is kept of roots by place stays in its place.
use Rattle.std.proofs.Common.{◌≡◌, ◌≢◌, ℕ, ◌<◌, List, length, get_or, Option, Some, refl, sym, ap, ◌∙◌, subst, ⊎_elim}
use Rattle.std.specs.Prelude.{IfSome, slice_get, slice_set}
use Rattle.std.proofs.lemmas.Bool.{cases_eq}
use Rattle.std.proofs.lemmas.Option.{slice_get_read}
use Rattle.pool_law.specs.declared.id.RootId.{RootId}
use Rattle.pool_law.proofs.ListLemmas.{slice_get-set_same, slice_get-set_other}
use Rattle.pool_member.specs.declared.counts.Counted.{Counted}
use Rattle.pool_member.specs.Counting.{counted, StandInPlace}
use Rattle.pool_member.proofs.CountLaws.{counted_within}

pub stands_here : (cs : List Counted) (n : ℕ) (c : Counted) → StandInPlace cs → slice_get cs n ≡ Some c
    → c.root.place ≡ n
stands_here cs n c all at = subst (λ (o : Option Counted). IfSome o (λ d. d.root.place ≡ n)) at (all n)

-- once something of that place is written there
pub stand_set : (cs : List Counted) (n : ℕ) (x : Counted) → n < length cs → StandInPlace cs → x.root.place ≡ n
    → StandInPlace (slice_set cs n x)
stand_set cs n x lt all is p = ⊎_elim
    (λ (e : p ≡ n).
    subst (λ (k : ℕ). IfSome (slice_get (slice_set cs n x) k) (λ d. d.root.place ≡ k)) (sym e)
    (subst (λ (o : Option Counted). IfSome o (λ d. d.root.place ≡ n)) (sym (slice_get-set_same cs n x lt)) is))
    (λ (ne : p ≢ n).
    subst (λ (o : Option Counted). IfSome o (λ d. d.root.place ≡ p)) (sym (slice_get-set_other cs n p x ne)) (all p))
    (cases_eq p n)

-- once something else than its name changed of a root that is counted, which was read there
pub stand_counted : (cs : List Counted) (root : RootId) (c x : Counted) → 0 < counted cs root
    → c ≡ get_or cs root.place c → StandInPlace cs → x.root ≡ c.root → StandInPlace (slice_set cs root.place x)
stand_counted cs root c x lt read all same =
    let within = counted_within cs root lt in
    let at : slice_get cs root.place ≡ Some c = slice_get_read cs (length cs) root.place c refl within read in
    stand_set cs root.place x within all (ap (λ (r : RootId). r.place) same ∙ stands_here cs root.place c all at)
