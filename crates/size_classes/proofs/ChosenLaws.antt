-- The free run that is chosen: it is one of the runs, and there is none where every run is shorter.
use Rattle.std.proofs.Common.{◌≡◌, ◌⊎◌, ℕ, ◌<◌, ◌≤◌, Bool, true, false, List, [], ◌∷◌, refl, ◌∙◌, Some, None}
use Rattle.std.specs.Prelude.{nat_le, ◌==◌, ◌&&◌, if◌then◌else◌, find}
use Rattle.std.proofs.lemmas.Bool.{lt-leb}
use Rattle.size_classes.specs.Sizes.{Geometry, page_class_under}
use Rattle.size_classes.specs.Pages.{Span, least_class, chosen}
use Rattle.size_classes.specs.Spans.{AreShorter}
use Rattle.size_classes.proofs.Runs.{EachPair}
use Rattle.size_classes.proofs.OutLaws.{IsAmong, each-of}
use mathlib.Core.Logic.{inl, inr}

-- what a search finds is one of the runs
pub find-among : (test : Span → Bool) (runs : List Span) (x : Span) → find test runs ≡ Some x → IsAmong x runs
find-among test [] x e = absurd (cc e)
find-among test (r ∷ runs) x e = by (test r) (find-among test runs x) e
  where
    by : (b : Bool) → (find test runs ≡ Some x → IsAmong x runs) → (if b then Some r else find test runs) ≡ Some x →
        IsAmong x (r ∷ runs)
    by true rest e = inl (cc e)
    by false rest e = inr (rest e)

pub chosen-among : (g : Geometry) (pages : ℕ) (runs : List Span) (x : Span) → chosen g pages runs ≡ Some x
    → IsAmong x runs
chosen-among g pages runs x e =
    find-among (λ run. nat_le pages run.1 && (page_class_under g run.1 == least_class g pages runs)) runs x e

-- where every run is shorter none is chosen
pub shorter-none : (g : Geometry) (pages : ℕ) (runs : List Span) → AreShorter pages runs → chosen g pages runs ≡ None
shorter-none g pages runs short = go (least_class g pages runs) runs (each-of (λ r. r.1 < pages) runs short)
  where
    go : (class : ℕ) (rs : List Span) → EachPair (λ r. r.1 < pages) rs →
        find (λ run. nat_le pages run.1 && (page_class_under g run.1 == class)) rs ≡ None
    go class [] h = refl
    go class (r ∷ rs) h = rw (lt-leb pages r.1 h.0) (go class rs h.1)
