-- The objects that notes name: those of the shape, and mails.
use Rattle.std.proofs.Common.{◌≡◌, ◌≢◌, ◌<◌, ℕ, List, [], ◌∷◌, ◌++◌, sym, refl, ap, ◌∙◌, arith}
use Rattle.pool_law.specs.declared.run.Shape.{Shape}
use Rattle.pool_law.specs.declared.note.Noted.{Noted}
use Rattle.pool_law.specs.declared.note.Object.{Object}
use Rattle.pool_law.specs.declared.note.Object.TheVariants.{Arena, Cache, Bin, Mail, Root}
use Rattle.pool_law.specs.Homes.{home_of, objects_of, IsObjectOf}
use Rattle.history_laws.proofs.Apart.{home_within, one_home}
use Rattle.pool_law.specs.Kinds.{Passing, Beside, ItsRoot, ItsRegion, ItsRootAndRegion, ItsWatch, Nothing, beside}
use Rattle.std.specs.Prelude.{Option, Some, None}
use Rattle.pool_law.specs.declared.id.RootId.{RootId}
use Rattle.pool_law.specs.Roots.{Present, RootPlace}
use Rattle.pool_law.specs.Histories.{place_after}
use Rattle.pool_law.specs.NotedHistories.{noted_dids}
use Rattle.pool_law.specs.Logs.{present_in, root_beside, root_for}
use Rattle.history_laws.specs.Histories.{IsLawful}
use Rattle.history_laws.proofs.Runs.{right_last}
use Rattle.history_laws.proofs.Told.{place_fits}
use Rattle.pool_table.specs.Letters.{letter_in, letter_out}
use Rattle.pool_table.specs.Sound.{IsKnown, IsPlain}

-- no mail is at the home of an object of the shape
pub no_home : (s : Shape) (a b : ℕ) (o : Object) → IsObjectOf s o → objects_of s ≢ home_of s o
no_home s a b o fits e =
    let lt = home_within s o fits in let m : ℕ = home_of s o in let n : ℕ = objects_of s in
    let lt' : m < n = lt in let e' : n ≡ m = e in omega (arith, lt', e')

-- a known object at the home of an object of the shape is that object
pub one_known : (s : Shape) (p o : Object) → IsKnown s p → IsObjectOf s o → home_of s p ≡ home_of s o → p ≡ o
one_known s (Arena a) o known fits e = one_home s (Arena a) o known fits e
one_known s (Cache d c) o known fits e = one_home s (Cache d c) o known fits e
one_known s (Bin b) o known fits e = one_home s (Bin b) o known fits e
one_known s (Mail a b) o known fits e = absurd (no_home s a b o fits e)
one_known s (Root p) o known fits e = one_home s (Root p) o known fits e

-- an object of the shape is known
pub known : (s : Shape) (o : Object) → IsObjectOf s o → IsKnown s o
known s (Arena a) fits = fits
known s (Cache d c) fits = fits
known s (Bin b) fits = fits
known s (Mail a b) fits = absurd fits
known s (Root p) fits = fits

-- what a place gives as the root of a note is present there
pub root_beside-is : (b : Beside) (o : Option Present) (r : RootId) → root_beside b o ≡ Some r
    → (q : Present) × (o ≡ Some q) × (q.root ≡ r)
root_beside-is ItsRoot (Some q) r is = (q, refl, cc is)
root_beside-is ItsRootAndRegion (Some q) r is = (q, refl, cc is)
root_beside-is ItsRoot None r is = absurd (cc is)
root_beside-is ItsRootAndRegion None r is = absurd (cc is)
root_beside-is ItsRegion o r is = absurd (cc is)
root_beside-is ItsWatch o r is = absurd (cc is)
root_beside-is Nothing o r is = absurd (cc is)

-- a note that is accepted tells of roots of its place alone
pub plain_at : (s : Shape) (o : Object) (h : List Noted) (n : Noted) → IsObjectOf s o → IsLawful s o (h ++ n ∷ [])
    → IsPlain o n
plain_at s (Arena a) h n is more = let t = right_last (Arena a) h n more.right in (t.0, t.1)
plain_at s (Cache d c) h n is more = let t = right_last (Cache d c) h n more.right in (t.0, t.1)
plain_at s (Bin b) h n is more = let t = right_last (Bin b) h n more.right in (t.0, t.1)
plain_at s (Mail a b) h n is more = absurd is
plain_at s (Root p) h n is more =
    λ r told. by r (place_after p (noted_dids h)) refl (sym (right_last (Root p) h n more.right).0 ∙ told)
  where
    by : (r : RootId) (o : Option RootPlace) → place_after p (noted_dids h) ≡ o
        → root_for n.did (present_in o) ≡ Some r → r.place ≡ p
    by r None after is = let t = root_beside-is (beside n.did) None r is in absurd (cc t.1)
    by r (Some x) after is =
        let t = root_beside-is (beside n.did) x.present r is in
        sym (ap (λ (z : RootId). z.place) t.2) ∙ (place_fits p h x after t.0 t.1).0

-- no letter goes into an object of the shape, and none comes out
pub none_in : (s : Shape) (o : Object) → IsObjectOf s o → (k : ℕ) (passed : Passing) → letter_in o k passed ≡ None
none_in s (Arena a) fits k passed = refl
none_in s (Cache d c) fits k passed = refl
none_in s (Bin b) fits k passed = refl
none_in s (Mail a b) fits k passed = absurd fits
none_in s (Root p) fits k passed = refl

pub none_out : (s : Shape) (o : Object) → IsObjectOf s o → (k : ℕ) (passed : Passing) → letter_out o k passed ≡ None
none_out s (Arena a) fits k passed = refl
none_out s (Cache d c) fits k passed = refl
none_out s (Bin b) fits k passed = refl
none_out s (Mail a b) fits k passed = absurd fits
none_out s (Root p) fits k passed = refl
