-- What is told of one more note.
use Rattle.std.proofs.Common.{◌≡◌, ℕ, zero, suc, ◌+◌, ◌<◌, List, [], ◌∷◌, ◌++◌, length, take, drop, get_or, Option, Some, None, sym, ap, ◌∙◌, append_assoc}
use Rattle.std.specs.Prelude.{option_map, option_and_then, unwrap_or, slice_get}
use denote.Ref.{Bor}
use Rattle.pool_law.specs.declared.note.Did.{Did}
use Rattle.pool_law.specs.Roots.{RootPlace, place_step}
use Rattle.pool_law.specs.Histories.{after}
use Rattle.object_steps.specs.declared.told.PlaceTold.{PlaceTold}
use Rattle.object_steps.specs.Behind.{dids_behind}
use Rattle.object_steps.specs.Telling.{told_by, told_of_each}
use Rattle.object_steps.proofs.AfterLemmas.{at-did}

pub told-more : (place : ℕ) (dids : List (Bor Did)) (i : ℕ) (s t : RootPlace) (told : List PlaceTold) (did : Bor Did) →
    i < length dids → did ≡ get_or dids i did → Some t ≡ place_step place s did.now →
    (told ++ told_by did.now s.present ∷ []) ++ told_of_each place t (drop (i + 1) (dids_behind dids))
    ≡ told ++ told_of_each place s (drop i (dids_behind dids))
told-more place dids i s t told did there is e =
    let rest : List Did = drop (i + 1) (dids_behind dids) in
    let one : told_of_each place s (drop i (dids_behind dids)) ≡ told_by did.now s.present ∷ told_of_each place t rest =
    ap (λ (ds : List Did). told_of_each place s ds) (at-did dids i did there is)
    ∙ ap (λ (o : Option RootPlace). told_by did.now s.present ∷ unwrap_or
    (option_map (λ u. told_of_each place u rest) o) []) (sym e) in
    append_assoc told (told_by did.now s.present ∷ []) (told_of_each place t rest)
    ∙ ap (λ (xs : List PlaceTold). told ++ xs) (sym one)

-- what is told of the note at a place is by what is present after those before it
pub told-at : (place : ℕ) (s : RootPlace) (ds : List Did) (k : ℕ) (d : Did) (t : RootPlace) →
    slice_get ds k ≡ Some d → after (place_step place) s (take k ds) ≡ Some t →
    slice_get (told_of_each place s ds) k ≡ Some (told_by d t.present)
told-at place s [] k d t here e = absurd (cc here)
told-at place s (x ∷ ds) zero d t here e =
    let first : x ≡ d = cc here in
    let state : s ≡ t = cc e in
    ap (λ (y : Did). Some (told_by y s.present)) first ∙ ap (λ (u : RootPlace). Some (told_by d u.present)) state
told-at place s (x ∷ ds) (suc k) d t here e = go (place_step place s x) e (λ u f. told-at place u ds k d t here f)
  where
    go : (o : Option RootPlace) → option_and_then (λ u. after (place_step place) u (take k ds)) o ≡ Some t →
        ((u : RootPlace) → after (place_step place) u (take k ds) ≡ Some t →
        slice_get (told_of_each place u ds) k ≡ Some (told_by d t.present)) →
        slice_get (unwrap_or (option_map (λ u. told_of_each place u ds) o) []) k ≡ Some (told_by d t.present)
    go None f rest = absurd (cc f)
    go (Some u) f rest = rest u f
