-- Caches that are drained, one after another.
use Rattle.std.proofs.Common.{◌≡◌, ℕ, zero, suc, ◌+◌, ◌<◌, List, [], ◌∷◌, drop, length, get_or, refl, ap, arith, ◌∙◌, eqb-true, true, drop-cons}
use Rattle.std.specs.Prelude.{◌==◌, Option, Some, None, option_and_then, IfSome}
use Rattle.std.proofs.lemmas.Bool.{agree_below_at}
use Rattle.size_classes.specs.Sizes.{below}
use Rattle.pool_law.specs.declared.id.RegionId.{RegionId}
use Rattle.pool_law.specs.declared.note.Did.{Did}
use Rattle.pool_law.specs.declared.note.Object.{Object}
use Rattle.pool_law.specs.declared.note.Object.TheVariants.{Cache, Arena}
use Rattle.pool_law.specs.Dids as says
use Rattle.pool_law.specs.Readers.{Log, Reader, ◌>>=◌, ◌>>◌, note, done_at}
use Rattle.pool_law.specs.Patterns.{give_back, sheds, drain}
use Rattle.pool_law.specs.LaneLaw.{sweep_period}
use Rattle.lane_reader.specs.declared.log.At.{At}
use Rattle.lane_reader.specs.Reading.{log_from, passes}
use Rattle.lane_reader.specs.Draining.{shed_one, drain_one}
use Rattle.lane_reader.proofs.ReadingLemmas.{next-asked}

pub sheds-is : (lane class n : ℕ) (log : Log) →
    sheds lane class (suc n) log ≡ option_and_then (λ got. sheds lane class n got.1) (shed_one lane class log)
sheds-is lane class n log = go (note (Cache lane class) says.shed log)
  where
    go : (o : Option (RegionId × Log)) →
        option_and_then (λ got. option_and_then (λ given. sheds lane class n given.1) (give_back got.0 got.1)) o
        ≡ option_and_then (λ got. sheds lane class n got.1) (option_and_then (λ got. give_back got.0 got.1) o)
    go None = refl
    go (Some p) = refl

pub drain-is : (lane : ℕ) (kind : Did → Option ℕ) (class : ℕ) (classes : List ℕ) (log : Log) →
    drain lane kind (class ∷ classes) log
    ≡ option_and_then (λ got. drain lane kind classes got.1) (drain_one lane kind class log)
drain-is lane kind class classes log = go (note (Cache lane class) kind log)
  where
    go : (o : Option (ℕ × Log)) →
        option_and_then (λ got. option_and_then (λ shed. drain lane kind classes shed.1) (sheds lane class got.0 got.1))
        o
        ≡ option_and_then (λ got. drain lane kind classes got.1)
        (option_and_then (λ got. sheds lane class got.0 got.1) o)
    go None = refl
    go (Some p) = refl

-- a reading counts no allocation that asked a cache
abbrev pub KeepsAsked : {A : Type 0} → Reader A → Type 0
KeepsAsked {A} r = (log after : Log) (a : A) → r log ≡ Some (a, after) → after.asked ≡ log.asked

pub keeps-then : {A B : Type 0} (r : Reader A) (f : A → Reader B) → KeepsAsked r → ((a : A) → KeepsAsked (f a))
    → KeepsAsked (r >>= f)
keeps-then {A} {B} r f first second log after b is = go (r log) refl is
  where
    go : (o : Option (A × Log)) → r log ≡ o → option_and_then (λ got. f got.0 got.1) o ≡ Some (b, after)
        → after.asked ≡ log.asked
    go None was h = absurd (cc h)
    go (Some p) was h = second p.0 p.1 after b h ∙ first log p.1 p.0 was

keeps-note : {A : Type 0} (object : Object) (said : Did → Option A) → KeepsAsked (note object said)
keeps-note object said log after a is = next-asked (λ e. option_and_then said (done_at object e.note)) log after a is

keeps-given : (region : RegionId) → KeepsAsked (give_back region)
keeps-given region = keeps-note (Arena region.place.arena) (says.give region)

keeps-sheds : (lane class n : ℕ) → KeepsAsked (sheds lane class n)
keeps-sheds lane class zero =
    λ log after a is. let same : ◌≡◌ {A = Unit {0} × Log} (a, after) (tt, log) = cc is in ap (λ p. p.1.asked) same
keeps-sheds lane class (suc n) =
    keeps-then (note (Cache lane class) says.shed) (λ region. give_back region >> sheds lane class n)
    (keeps-note (Cache lane class) says.shed)
    (λ region. keeps-then (give_back region) (λ _. sheds lane class n) (keeps-given region)
    (λ _. keeps-sheds lane class n))

pub keeps-drain : (lane : ℕ) (kind : Did → Option ℕ) (classes : List ℕ) → KeepsAsked (drain lane kind classes)
keeps-drain lane kind [] =
    λ log after a is. let same : ◌≡◌ {A = Unit {0} × Log} (a, after) (tt, log) = cc is in ap (λ p. p.1.asked) same
keeps-drain lane kind (class ∷ classes) =
    keeps-then (note (Cache lane class) kind) (λ quota. sheds lane class quota >> drain lane kind classes)
    (keeps-note (Cache lane class) kind)
    (λ quota. keeps-then (sheds lane class quota) (λ _. drain lane kind classes) (keeps-sheds lane class quota)
    (λ _. keeps-drain lane kind classes))

-- where no allocation asked a cache yet, few did behind a drain
pub drained-few : (lane : ℕ) (kind : Did → Option ℕ) (classes : List ℕ)
    (log : Rattle.lane_reader.specs.declared.log.Log.Log)
    (at : At) (o : Option At) → at.asked ≡ 0 →
    drain lane kind classes (log_from [] log at) ≡ passes [] log o → IfSome o (λ behind. behind.asked < sweep_period)
drained-few lane kind classes log at None none is = tt
drained-few lane kind classes log at (Some behind) none is =
    let kept : behind.asked ≡ at.asked = keeps-drain lane kind classes (log_from [] log at) (log_from [] log behind) tt
    is in
    omega (arith, kept, none)

-- the first forty numbers
below-at : (k : ℕ) → k < 40 → get_or (below 40) k 0 ≡ k
below-at k h =
    eqb-true (get_or (below 40) k 0) k (agree_below_at (λ k. get_or (below 40) k 0 == k) (λ _. true) 40 k refl h)

pub classes-from : (classes : List ℕ) (k : ℕ) → classes ≡ below 40 → k < 40 → drop k classes ≡ k ∷ drop (k + 1) classes
classes-from classes k e h =
    let long : length classes ≡ 40 = ap length e in
    let there : k < length classes = omega (arith, long, h) in
    let here : get_or classes k 0 ≡ k = ap (λ cs. get_or cs k 0) e ∙ below-at k h in
    let next : suc k ≡ k + 1 = omega arith in
    drop-cons classes k 0 there ∙ (λ i. here i ∷ drop (next i) classes)
