-- The births of a lane: the k-th one of its log has the watch that its sampler gives the k-th.
use Rattle.std.proofs.Common.{⊎_elim, inl, inr, ◌≡◌, ℕ, zero, suc, ◌+◌, List, [], ◌∷◌, refl, sym, ap, subst, arith, Some, ◌∙◌}
use Rattle.std.specs.Prelude.{◌⊎◌, map, slice_get}
use Rattle.pool_law.specs.declared.id.RootId.{RootId}
use Rattle.pool_law.specs.declared.id.RegionId.{RegionId}
use Rattle.pool_law.specs.declared.note.Did.{Did}
use Rattle.pool_law.specs.declared.note.Did.TheVariants.{Birth}
use Rattle.pool_law.specs.declared.note.Note.{Note}
use Rattle.pool_law.specs.declared.note.Noted.{Noted}
use Rattle.pool_law.specs.declared.note.Object.{Object}
use Rattle.pool_law.specs.Leaks.{births}
use Rattle.pool_table.specs.declared.views.Entry.{Entry}
use Rattle.pool_table.specs.declared.views.Entry.TheVariants.{At, Ref, Busy}
use Rattle.leak_records.specs.Records.{Sampling, with_birth, watch_of}
use Rattle.shared_pool.specs.Closing.{note_of}
use Rattle.lane_stages.specs.Sampled.{AreSampled, IsSampledBy, sampler_after}

-- a note is a birth, or it is none for the births and the sampler
abbrev IsBirth : Did → Type 0
IsBirth d = (root : RootId) × (region : RegionId) × (d ≡ Birth root region)

record IsNone (s : Sampling) (d : Did) : Type 0 where
  births_same : (o : Object) (k : ℕ) (ns : List Note) → births (Note.At o k d ∷ ns) ≡ births ns
  sampler_same : sampler_after s d ≡ s

birth-or : (s : Sampling) (d : Did) → IsBirth d ⊎ IsNone s d
birth-or s (Birth root region) = inl (root, region, refl)
birth-or s d = inr (record { births_same = λ o k ns. refl; sampler_same = refl })

births-one : (o : Object) (k : ℕ) (d : Did) (ns : List Note) (root : RootId) (region : RegionId) → d ≡ Birth root region
    → births (Note.At o k d ∷ ns) ≡ root ∷ births ns
births-one o k d ns root region e = subst (λ x. births (Note.At o k x ∷ ns) ≡ root ∷ births ns) (sym e) refl

-- the sampler after so many births
abbrev pub sampler_at : Sampling → ℕ → Sampling
sampler_at s n = record s { births = s.births + n + 1 }

-- the birth with an index among the births
pub record BirthAt (s : Sampling) (es : List Entry) (nth : ℕ) (root : RootId) : Type 0 where
  pub at : ℕ
  pub object : Object
  pub number : ℕ
  pub noted : Noted
  pub region : RegionId
  pub stands : slice_get es at ≡ Some (At object number noted)
  pub birth : noted.did ≡ Birth root region
  pub watch : noted.watch ≡ watch_of (sampler_at s nth)

watch-next : (s : Sampling) (n : ℕ) → watch_of (sampler_at (with_birth s) n) ≡ watch_of (sampler_at s (suc n))
watch-next s n =
    let same : s.births + 1 + n + 1 ≡ s.births + suc n + 1 = omega arith in
    ap (λ b. watch_of (record s { births = b })) same

watch-first : (s : Sampling) → watch_of (with_birth s) ≡ watch_of (sampler_at s 0)
watch-first s =
    let same : s.births + 1 ≡ s.births + 0 + 1 = omega arith in ap (λ b. watch_of (record s { births = b })) same

sampled-birth : (s : Sampling) (n : Noted) (root : RootId) (region : RegionId) → n.did ≡ Birth root region
    → IsSampledBy s n.did n → n.watch ≡ watch_of (with_birth s)
sampled-birth s n root region e by = subst (λ d. IsSampledBy s d n) e by

sampler-birth : (s : Sampling) (d : Did) (root : RootId) (region : RegionId) → d ≡ Birth root region
    → sampler_after s d ≡ with_birth s
sampler-birth s d root region e = ap (sampler_after s) e

-- a birth that stands in a part has an index
pub index-of_birth : (s last : Sampling) (es : List Entry) → AreSampled s es last
    → (at : ℕ) (o : Object) (k : ℕ) (n : Noted) (root : RootId) (region : RegionId) →
    slice_get es at ≡ Some (At o k n) → n.did ≡ Birth root region →
    (nth : ℕ) × (slice_get (births (map note_of es)) nth ≡ Some root) × (n.watch ≡ watch_of (sampler_at s nth))
index-of_birth s last [] sampled at o k n root region e b = absurd (cc e)
index-of_birth s last (At p j m ∷ es) sampled zero o k n root region e b =
    let same : m ≡ n = cc e in
    let did : m.did ≡ Birth root region = ap (λ x. x.did) same ∙ b in (
      0,
      ap (λ xs. slice_get xs 0) (births-one p j m.did (map note_of es) root region did),
      ap (λ x. x.watch) (sym same) ∙ sampled-birth s m root region did sampled.0 ∙ watch-first s,
    )
index-of_birth s last (At p j m ∷ es) sampled (suc at) o k n root region e b =
    ⊎_elim
    (λ (is : IsBirth m.did).
    let next : AreSampled (with_birth s) es last =
    subst (λ t. AreSampled t es last) (sampler-birth s m.did is.0 is.1 is.2) sampled.1 in
    let i = index-of_birth (with_birth s) last es next at o k n root region e b in (
      suc i.0,
      ap (λ xs. slice_get xs (suc i.0)) (births-one p j m.did (map note_of es) is.0 is.1 is.2) ∙ i.1,
      i.2
          ∙ watch-next s i.0,
    ))
    (λ (no : IsNone s m.did).
    let next : AreSampled s es last = subst (λ t. AreSampled t es last) no.sampler_same sampled.1 in
    let i = index-of_birth s last es next at o k n root region e b in
    (i.0, ap (λ xs. slice_get xs i.0) (no.births_same p j (map note_of es)) ∙ i.1, i.2))
    (birth-or s m.did)
index-of_birth s last (Ref r d ∷ es) sampled zero o k n root region e b = absurd (cc e)
index-of_birth s last (Ref r d ∷ es) sampled (suc at) o k n root region e b =
    index-of_birth s last es sampled at o k n root region e b
index-of_birth s last (Busy h ∷ es) sampled zero o k n root region e b = absurd (cc e)
index-of_birth s last (Busy h ∷ es) sampled (suc at) o k n root region e b =
    index-of_birth s last es sampled at o k n root region e b

later : (s : Sampling) (x : Entry) (es : List Entry) (nth : ℕ) (root : RootId) → BirthAt s es nth root
    → BirthAt s (x ∷ es) nth root
later s x es nth root b = record {
  at = suc b.at;
  object = b.object;
  number = b.number;
  noted = b.noted;
  region = b.region;
  stands = b.stands;
  birth = b.birth;
  watch = b.watch;
}

-- and each index has its birth
pub birth-of_index : (s last : Sampling) (es : List Entry) → AreSampled s es last → (nth : ℕ) (root : RootId)
    → slice_get (births (map note_of es)) nth ≡ Some root → BirthAt s es nth root
birth-of_index s last [] sampled nth root e = absurd (cc e)
birth-of_index s last (At p j m ∷ es) sampled nth root e =
    ⊎_elim (λ (is : IsBirth m.did). born is (λ next k. birth-of_index (with_birth s) last es next k root) nth e)
    (λ (no : IsNone s m.did).
    let next : AreSampled s es last = subst (λ t. AreSampled t es last) no.sampler_same sampled.1 in
    later s (At p j m) es nth root
    (birth-of_index s last es next nth root
    (sym (ap (λ xs. slice_get xs nth) (no.births_same p j (map note_of es))) ∙ e)))
    (birth-or s m.did)
  where
    born : IsBirth m.did → (AreSampled (with_birth s) es last → (k : ℕ)
        → slice_get (births (map note_of es)) k ≡ Some root → BirthAt (with_birth s) es k root) → (nth : ℕ)
        → slice_get (births (Note.At p j m.did ∷ map note_of es)) nth ≡ Some root → BirthAt s (At p j m ∷ es) nth root
    born is f zero e =
        let same : Some is.0 ≡ Some root = sym
        (ap (λ xs. slice_get xs 0) (births-one p j m.did (map note_of es) is.0 is.1 is.2)) ∙ e in
        let here : is.0 ≡ root = cc same in
        record {
          at = 0;
          object = p;
          number = j;
          noted = m;
          region = is.1;
          stands = refl;
          birth = is.2 ∙ ap (λ r. Birth r is.1) here;
          watch = sampled-birth s m is.0 is.1 is.2 sampled.0 ∙ watch-first s;
        }
    born is f (suc nth) e =
        let next : AreSampled (with_birth s) es last =
        subst (λ t. AreSampled t es last) (sampler-birth s m.did is.0 is.1 is.2) sampled.1 in
        let b = f next nth (sym (ap (λ xs. slice_get xs (suc nth))
        (births-one p j m.did (map note_of es) is.0 is.1 is.2)) ∙ e) in
        record {
          at = suc b.at;
          object = b.object;
          number = b.number;
          noted = b.noted;
          region = b.region;
          stands = b.stands;
          birth = b.birth;
          watch = b.watch ∙ watch-next s nth;
        }
birth-of_index s last (Ref r d ∷ es) sampled nth root e =
    later s (Ref r d) es nth root (birth-of_index s last es sampled nth root e)
birth-of_index s last (Busy h ∷ es) sampled nth root e =
    later s (Busy h) es nth root (birth-of_index s last es sampled nth root e)
