-- What a text asks for is within the limits.
use Rattle.std.proofs.Common.{◌≡◌, ℕ, ◌<◌, ◌≤◌, Bool, true, false, List, [], ◌∷◌, refl, ap, suc, length, arith, tests, rules, codes}
use Rattle.std.specs.Prelude.{Option, Some, None, IfSome, All, nat_le, nat_lt, if◌then◌else◌}
use Rattle.std.proofs.lemmas.List.Elements.{All-nil, All-cons, All-weaker}
use Rattle.serde_json.specs.Data.{Data}
use Rattle.serde_json.specs.Find.{get}
use Rattle.trace_text.specs.Items.{◌>>=◌, only_if, array_in, bytes_in, number_in}
use Rattle.trace_text.specs.Options.{has_keys_of}
use Rattle.trace_text.proofs.FormSteps.{through, through_if}
use Rattle.share_text.specs.declared.inputs.Input.{Input}
use Rattle.share_text.specs.Inputs.{IsFew, IsInput, byte_limit, composite_in, composite_limit, composites_in, each_of, few_in, input_in, is_few, input_keys, part_in, part_limit, read_count, read_in, read_limit, reader_limit, readers_in, reads_in}

-- what passes a test
only_so : {A : Type 0} (test : A → Bool) (Q : A → Type 0) (a : A) → (test a ≡ true → Q a) → IfSome (only_if test a) Q
only_so {A} test Q a so = elim (test a) as (λ (t : Bool). test a ≡ t → IfSome {T = A} (if t then Some a else None) Q) [
  | true ↦ λ e. so e
  | false ↦ λ e. tt
] refl

weaker : {A : Type 0} (P Q : A → Type 0) (o : Option A) → ((a : A) → P a → Q a) → IfSome o P → IfSome o Q
weaker P Q None so known = tt
weaker P Q (Some a) so known = so a known

-- ---- Arrays.

few : {A : Type 0} (most : ℕ) (xs : List A) → is_few most xs ≡ true → IsFew most xs
few most xs h = search (rules, tests)

few_fits : (most : ℕ) (d : Data) → IfSome (few_in most d) (IsFew most)
unfolding few_in
few_fits most d =
    through (IsFew most) (array_in d) (only_if (is_few most)) (λ (ds : List Data).
    only_so (is_few {A = Data} most) (IsFew most) ds (few most ds))

-- as many as there were values, each of which has what a reading gives
abbrev Fits : {A : Type 0} → (A → Type 0) → List Data → List A → Type 0
Fits Q ds xs = (length xs ≡ length ds) × All Q xs

each_fits : {A : Type 0} (read : Data → Option A) (Q : A → Type 0) → ((d : Data) → IfSome (read d) Q)
    → (ds : List Data) → IfSome (each_of read ds) (Fits Q ds)
each_fits read Q fits [] = (refl, All-nil Q)
each_fits read Q fits (d ∷ ds) =
    through_if Q (Fits Q (d ∷ ds)) (read d) _ (fits d) (λ a q.
    through_if (Fits Q ds) (Fits Q (d ∷ ds)) (each_of read ds) _ (each_fits read Q fits ds) (λ xs known.
    (ap (λ n. suc n) known.0, All-cons Q a xs q known.1)))

-- at least one and at most so many, each of which has what a reading gives
abbrev FewFit : {A : Type 0} → ℕ → (A → Type 0) → List A → Type 0
FewFit most Q xs = IsFew most xs × All Q xs

few_long : {A B : Type 0} (most : ℕ) (xs : List A) (ys : List B) → length xs ≡ length ys → IsFew most ys → IsFew most xs
few_long most xs ys long (some, up) = (omega arith, omega arith)

few_each : {A : Type 0} (most : ℕ) (read : Data → Option A) (Q : A → Type 0) → ((d : Data) → IfSome (read d) Q)
    → (d : Data) → IfSome (few_in most d >>= each_of read) (FewFit most Q)
few_each most read Q fits d =
    through_if (IsFew most) (FewFit most Q) (few_in most d) (each_of read) (few_fits most d) (λ ds up.
    weaker (Fits Q ds) (FewFit most Q) (each_of read ds) (λ xs known.
    (few_long most xs ds known.0 up, known.1)) (each_fits read Q fits ds))

-- ---- Composites.

abbrev PartFits : List ℕ → Type 0
PartFits part = length part ≤ byte_limit

abbrev is_small : List ℕ → Bool
is_small part = nat_le (length part) byte_limit

small : (part : List ℕ) → is_small part ≡ true → PartFits part
small part h = search (rules, tests)

part_fits : (d : Data) → IfSome (part_in d) PartFits
unfolding part_in
part_fits d =
    through PartFits (bytes_in d) (only_if is_small) (λ part. only_so is_small PartFits part (small part))

abbrev CompositeFits : List (List ℕ) → Type 0
CompositeFits = FewFit part_limit PartFits

composite_fits : (d : Data) → IfSome (composite_in d) CompositeFits
unfolding composite_in
composite_fits d = few_each part_limit part_in PartFits part_fits d

abbrev CompositesFit : List (List (List ℕ)) → Type 0
CompositesFit = FewFit composite_limit CompositeFits

composites_fit : (d : Data) → IfSome (composites_in d) CompositesFit
unfolding composites_in
composites_fit d = few_each composite_limit composite_in CompositeFits composite_fits d

-- ---- Readers.

abbrev ReadFits : ℕ → ℕ → Type 0
ReadFits count k = k < count

below : (count k : ℕ) → nat_lt k count ≡ true → ReadFits count k
below count k h = search (rules, tests)

read_fits : (count : ℕ) (d : Data) → IfSome (read_in count d) (ReadFits count)
unfolding read_in
read_fits count d =
    through (ReadFits count) (number_in d) (only_if (λ k. nat_lt k count)) (λ k.
    only_so (λ n. nat_lt n count) (ReadFits count) k (below count k))

reads_fit : (count : ℕ) (d : Data) → IfSome (reads_in count d) (All (ReadFits count))
unfolding reads_in
reads_fit count d =
    through (All (ReadFits count)) (array_in d) (each_of (read_in count)) (λ ds.
    weaker (Fits (ReadFits count) ds) (All (ReadFits count)) (each_of (read_in count) ds) (λ ks known. known.1)
    (each_fits (read_in count) (ReadFits count) (read_fits count) ds))

abbrev ReadersFit : ℕ → List (List ℕ) → Type 0
ReadersFit count readers =
    FewFit reader_limit (All (ReadFits count)) readers × (read_count readers ≤ read_limit)

abbrev are_few_reads : List (List ℕ) → Bool
are_few_reads readers = nat_le (read_count readers) read_limit

few_reads : (readers : List (List ℕ)) → are_few_reads readers ≡ true → read_count readers ≤ read_limit
few_reads readers h = search (rules, tests)

readers_fit : (count : ℕ) (d : Data) → IfSome (readers_in count d) (ReadersFit count)
unfolding readers_in
readers_fit count d =
    through_if (FewFit reader_limit (All (ReadFits count))) (ReadersFit count)
    (few_in reader_limit d >>= each_of (reads_in count)) (only_if are_few_reads)
    (few_each reader_limit (reads_in count) (All (ReadFits count)) (reads_fit count) d)
    (λ readers known. only_so are_few_reads (ReadersFit count) readers (λ h. (known, few_reads readers h)))

-- ---- Inputs.

input_so : (input : Input) → CompositesFit input.composites
    → ReadersFit (length input.composites) input.readers → IsInput input
input_so input cs rs = record {
  composites = cs.0;
  parts = All-weaker CompositeFits (IsFew part_limit) (λ parts known. known.0) input.composites cs.1;
  bytes = All-weaker CompositeFits (All PartFits) (λ parts known. known.1) input.composites cs.1;
  readers = rs.0.0;
  reads = rs.0.1;
  few_reads = rs.1;
}

pub input_fits : (d : Data) → IfSome (input_in d) IsInput
unfolding input_in
input_fits d =
    through IsInput (only_if (has_keys_of input_keys) d) _ (λ object.
    through_if CompositesFit IsInput (get (codes "composites") object >>= composites_in) _
    (through CompositesFit (get (codes "composites") object) composites_in composites_fit) (λ composites cs.
    through_if (ReadersFit (length composites)) IsInput
    (get (codes "reads") object >>= readers_in (length composites)) _
    (through (ReadersFit (length composites)) (get (codes "reads") object) (readers_in (length composites))
    (readers_fit (length composites))) (λ readers rs.
    input_so (record { composites = composites; readers = readers }) cs rs)))

pub read_so : (d : Data) (input : Input) → input_in d ≡ Some input → IsInput input
read_so d input same = let fit = rw same at (input_fits d) in fit
