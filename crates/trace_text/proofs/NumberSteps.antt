-- The names of a composite, one after the other.
use Rattle.std.proofs.Common.{◌≡◌, ℕ, ◌+◌, ◌<◌, List, [], ◌∷◌, ◌++◌, refl, map, length, drop, get_or, append_assoc}
use Rattle.std.specs.Prelude.{Some, None, option_map}
use Rattle.serde_json.specs.declared.value.Value.{Value}
use Rattle.serde_json.specs.Data.{Data}
use Rattle.serde_json.specs.View.{view}
use Rattle.trace_text.specs.Items.{◌>>=◌, name_in}
use Rattle.trace_text.specs.Names.{Mentions, number_of, with_name}
use Rattle.trace_text.specs.Forms.{Read, numbers_in}
use Rattle.trace_text.proofs.LaneSteps.{rest_at}

-- numbers that stand behind these
abbrev pub behind : List ℕ → Read (List ℕ) → Read (List ℕ)
behind front read = option_map (λ p. (front ++ p.0, p.1)) read

-- a number before those that are read, and behind those that were
one_before : (front : List ℕ) (number : ℕ) (read : Read (List ℕ))
    → behind front (read >>= (λ rest. Some (number ∷ rest.0, rest.1))) ≡ behind (front ++ number ∷ []) read
one_before front number None = refl
one_before front number (Some p) = rw (append_assoc) refl

-- one more number
pub number_taken : (names new : Mentions) (name front numbers : List ℕ) (number i : ℕ) (values : List Value)
    (value : Value) (all : Read (List ℕ)) → i < length values → value ≡ get_or values i value
    → all ≡ behind front (numbers_in names (drop i (map view values)))
    → name_in (view value) ≡ Some name → number ≡ number_of names name → new ≡ with_name names name
    → numbers ≡ front ++ number ∷ []
    → all ≡ behind numbers (numbers_in new (drop (i + 1) (map view values)))
number_taken names new name front numbers number i values value all h is before named at more longer =
    let rest : List Data = drop (i + 1) (map view values) in
    rw (before, rest_at values i value h is, named, longer, at, more)
    (one_before front (number_of names name) (numbers_in (with_name names name) rest))

-- an item that is no name
pub number_refused : (names : Mentions) (front : List ℕ) (i : ℕ) (values : List Value)
    (value : Value) (all : Read (List ℕ)) → i < length values → value ≡ get_or values i value
    → all ≡ behind front (numbers_in names (drop i (map view values)))
    → name_in (view value) ≡ None → all ≡ None
number_refused names front i values value all h is before none =
    rw (before, rest_at values i value h is, none) refl
