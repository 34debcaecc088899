-- Lemmas for the tests: the two seats of a new table, and what a first note of a bin may be.
use Rattle.std.proofs.Common.{◌≡◌, ℕ, zero, suc, ◌<◌, get_or, List, [], ◌∷◌, ◌++◌, length, sym, subst, refl, arith}
use Rattle.std.specs.Prelude.{All, slice_get, Option, Some, None, IsTrue, is_some}
use Rattle.pool_law.specs.declared.run.Shape.{Shape}
use Rattle.pool_law.specs.declared.note.Noted.{Noted}
use Rattle.pool_law.specs.declared.note.Did.TheVariants.{Handle}
use Rattle.pool_law.specs.declared.note.Object.{Object}
use Rattle.pool_law.specs.declared.note.Object.TheVariants.{Bin}
use Rattle.pool_law.specs.Homes.{home_of, objects_of, IsObjectOf}
use Rattle.history_laws.proofs.Apart.{home_within}
use Rattle.pool_law.specs.Caches.{new_bin, bin_step}
use Rattle.pool_law.specs.Histories.{after}
use Rattle.pool_law.specs.Naming.{noted_by}
use Rattle.history_laws.specs.Histories.{IsLawful}

-- a value that each of the homes is, each object's is
pub each_stands : {H : Type 0} (s : Shape) (homes : List H) (P : H → Type 0) → length homes ≡ objects_of s → All P homes
    →
    (o : Object) → IsObjectOf s o → (x : H) × (slice_get homes (home_of s o) ≡ Some x) × P x
each_stands {H} s homes P many all o fits =
    let near : home_of s o < length homes = subst (λ (n : ℕ). home_of s o < n) (sym many) (home_within s o fits) in
    let t = there homes (home_of s o) near in
    (t.0, t.1, subst P (t.2 t.0) (all (home_of s o) t.0 near))
  where
    there : (xs : List H) (i : ℕ) → i < length xs → (x : H) × (slice_get xs i ≡ Some x) × ((d : H) → get_or xs i d ≡ x)
    there [] i lt = absurd (omega (arith, lt))
    there (x ∷ xs) zero lt = (x, refl, λ d. refl)
    there (x ∷ xs) (suc i) lt = there xs i (omega (arith, lt))

pub none_of : {X : Type 0} (xs : List X) → length xs ≡ 0 → xs ≡ []
none_of [] e = refl
none_of (x ∷ xs) e = absurd (omega (arith, e))

-- the first note of the first bin of lanes with one handle each
pub first_handle : (s : Shape) (o : Object) (h : List Noted) (lane : Option ℕ) → s.handles ≡ 1 → o ≡ Bin 0 → h ≡ [] →
    IsLawful s o (h ++ noted_by lane (record { did = Handle 0; lane = None; watch = None; root = None; region = None })
    ∷ [])
first_handle s o h lane one bin empty =
    let n : Noted = noted_by lane (record { did = Handle 0; lane = None; watch = None; root = None; region = None }) in
    subst (λ (y : Object × List Noted). IsLawful s y.0 (y.1 ++ n ∷ [])) (λ q. (sym bin q, sym empty q)) (record {
      accepted =
          subst (λ (k : ℕ). IsTrue (is_some (after (bin_step 0 k) (new_bin 0 k) (Handle 0 ∷ [])))) (sym one) refl;
      right = ((refl, refl, refl), tt);
    })
