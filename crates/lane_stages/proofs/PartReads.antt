-- How the law reads the notes of the parts of a composite on, part after part.
use Rattle.std.proofs.Common.{◌≡◌, ℕ, ◌+◌, List, [], ◌∷◌, ◌++◌, true, length, take, drop, refl, sym, ap, ◌∙◌, Option, Some, None, eq-eqb}
use Rattle.std.specs.Prelude.{option_and_then}
use Rattle.std.proofs.Math.Seq.{take-append_seam, drop-append_seam}
use Rattle.pool_law.specs.declared.id.Part.{Part}
use Rattle.pool_law.specs.declared.id.RootId.{RootId}
use Rattle.pool_law.specs.declared.note.Did.{Did}
use Rattle.pool_law.specs.declared.note.Note.{Note}
use Rattle.pool_law.specs.declared.note.Object.TheVariants.{Root}
use Rattle.pool_law.specs.Counts.{root_is}
use Rattle.pool_law.specs.Dids as says
use Rattle.pool_law.specs.Lanes.{set_parts, get_parts, copy_parts}
use Rattle.pool_law.specs.Logs.{ToldNote}
use Rattle.pool_law.specs.Readers.{Log, Reader, ◌>>=◌, ◌>>◌, give, access}
use Rattle.pool_law.proofs.CompositeLemmas.{same_bytes-refl}
use Rattle.pool_law.proofs.PatternLemmas.{same_number}
use Rattle.seat_work.specs.Readings.{before_left, behind, ReadsOn}
use Rattle.lane_stages.specs.Readings.{none_asked}
use Rattle.seat_work.proofs.ReadLaws.{then_on, given_on, access_on}

-- one reading after two
pub after_two : {A B C : Type 0} (f : A → Reader B) (g : B → Reader C) (o : Option (A × Log)) →
    option_and_then (λ got. g got.0 got.1) (option_and_then (λ got. f got.0 got.1) o)
    ≡ option_and_then (λ got. (f got.0 >>= g) got.1) o
after_two f g None = refl
after_two f g (Some got) = refl

-- the entry of an access to the root is the first
module _ (e : ToldNote) (r : RootId) (number offset : ℕ) (here : root_is r e.root ≡ true) where
  pub read_set_at : (bytes : List ℕ) → e.note ≡ Note.At (Root r.place) number (Did.Set offset bytes)
      → ReadsOn (access r (says.set offset bytes)) (e ∷ []) none_asked (give tt)
  read_set_at bytes is =
      let did : Did = Did.Set offset bytes in
      let so : says.set offset bytes did ≡ Some tt = rw (same_number offset, same_bytes-refl bytes) refl in
      access_on e r (says.set offset bytes) number did is here tt so

  pub read_get_at : (len : ℕ) (bytes : List ℕ) → length bytes ≡ len
      → e.note ≡ Note.At (Root r.place) number (Did.Get offset bytes)
      → ReadsOn (access r (says.get offset len)) (e ∷ []) none_asked (give bytes)
  read_get_at len bytes long is =
      let did : Did = Did.Get offset bytes in
      let so : says.get offset len did ≡ Some bytes = rw (same_number offset, eq-eqb (length bytes) len long) refl in
      access_on e r (says.get offset len) number did is here bytes so

-- the first part's note is the first entry
module _ (p : Part) (ps : List Part) (e : ToldNote) (number : ℕ) (here : root_is p.root e.root ≡ true) where
  -- the part is set to these bytes, and those behind it to the rest
  pub set_part_on : (first rest : List ℕ) → length first ≡ p.len
      → e.note ≡ Note.At (Root p.root.place) number (Did.Set p.offset first)
      → ReadsOn (set_parts (p ∷ ps) (first ++ rest)) (e ∷ []) none_asked (set_parts ps rest)
  set_part_on first rest long is log =
      let sets : List ℕ × List ℕ → Reader (Unit {0}) = λ (bs : List ℕ × List ℕ). access p.root
      (says.set p.offset bs.0) >> set_parts ps bs.1 in
      let cut : take p.len (first ++ rest) ≡ first = ap (λ (n : ℕ). take n (first ++ rest)) (sym long)
      ∙ take-append_seam first rest in
      let left : drop p.len (first ++ rest) ≡ rest = ap (λ (n : ℕ). drop n (first ++ rest)) (sym long)
      ∙ drop-append_seam first rest in
      (λ i. sets (cut i, left i) (before_left log (e ∷ [])))
      ∙ given_on (access p.root (says.set p.offset first)) (e ∷ []) none_asked (λ _. set_parts ps rest) tt
      (read_set_at e p.root number p.offset here first is) log

  -- the part's bytes are got, and those of the others behind them
  pub get_part_on : {A : Type 0} (f : List ℕ → Reader A) (bytes : List ℕ) → length bytes ≡ p.len
      → e.note ≡ Note.At (Root p.root.place) number (Did.Get p.offset bytes)
      → ReadsOn (get_parts (p ∷ ps) >>= f) (e ∷ []) none_asked (get_parts ps >>= (λ more. f (bytes ++ more)))
  get_part_on f bytes long is log =
      let gets : List ℕ → Reader (List ℕ) = λ (first : List ℕ). get_parts ps >>= (λ rest. give (first ++ rest)) in
      then_on (get_parts (p ∷ ps)) (e ∷ []) none_asked f (gets bytes)
      (given_on (access p.root (says.get p.offset p.len)) (e ∷ []) none_asked gets bytes
      (read_get_at e p.root number p.offset here p.len bytes long is)) log
      ∙ after_two (λ (rest : List ℕ). give (bytes ++ rest)) f (get_parts ps (behind log (e ∷ []) none_asked))

  -- the part's bytes are got, and are set next
  pub copy_part_on : (root : RootId) (at : ℕ) (bytes : List ℕ) → length bytes ≡ p.len
      → e.note ≡ Note.At (Root p.root.place) number (Did.Get p.offset bytes)
      → ReadsOn (copy_parts root at (p ∷ ps)) (e ∷ []) none_asked
      (access root (says.set at bytes) >> copy_parts root (at + length bytes) ps)
  copy_part_on root at bytes long is log =
      let copies : List ℕ → Reader (Unit {0}) = λ (got : List ℕ). access root (says.set at got) >> copy_parts root
      (at + p.len) ps in
      given_on (access p.root (says.get p.offset p.len)) (e ∷ []) none_asked copies bytes
      (read_get_at e p.root number p.offset here p.len bytes long is) log
      ∙ ap (λ (n : ℕ). (access root (says.set at bytes) >> copy_parts root (at + n) ps)
      (behind log (e ∷ []) none_asked)) (sym long)
