-- The first refusal of a command, as the program finds it.
use Rattle.std.proofs.Common.{◌≡◌, ℕ, Bool, true, false, List, [], ◌∷◌, ◌++◌, length, map, Option, Some, None, refl, ap, ◌∙◌, append_assoc}
use Rattle.std.specs.Prelude.{if◌then◌else◌, ◌||◌, IfSome, option_map, option_and_then}
use Rattle.pool_law.specs.declared.command.Command.{Command}
use Rattle.pool_law.specs.declared.command.Command.TheVariants.{Set, Get, Compose, Add}
use Rattle.pool_law.specs.declared.id.ViewData.{ViewData}
use Rattle.pool_law.specs.declared.run.Reply.{Reply}
use Rattle.pool_law.specs.declared.run.Shape.{Shape}
use Rattle.pool_law.specs.Composites.{Composite, composite_of, extended_by, readable}
use Rattle.pool_law.specs.LaneStates.{LaneState, composite_from, composite_named, view_named, views_named}
use Rattle.pool_law.specs.Refusals.{Refusal, refusal, first_refusal, refusals, unbound, taken, composite, illegal, too_long}
use Rattle.lane_reader.specs.Candidates.{candidate_of}
use Rattle.lane_reader.specs.Refusing.{some_comes, IsRead}

-- the refusals of a set are those of a get of as many bytes
pub set-refusals : (shape : Shape) (s : LaneState) (name index : ℕ) (bytes : List ℕ) (tries : Bool) →
    refusals shape s (Set name index bytes tries) ≡ refusals shape s (Get name index (length bytes) tries)
set-refusals shape s name index bytes true = refl
set-refusals shape s name index bytes false = refl

-- where the first refusals are of one kind, for one name each
first-of-kind : (f : ℕ → Refusal) (reply : Reply) → ((name : ℕ) → (f name).reply ≡ reply) →
    (names : List ℕ) (rest : List Refusal) →
    first_refusal (map f names ++ rest) ≡ first_refusal (refusal reply (some_comes (map f names)) ∷ rest)
first-of-kind f reply kind [] rest = refl
first-of-kind f reply kind (name ∷ names) rest = go (f name).comes (first-of-kind f reply kind names rest)
  where
    go : (b : Bool) →
        first_refusal (map f names ++ rest) ≡ first_refusal (refusal reply (some_comes (map f names)) ∷ rest) →
        (if b then Some (f name).reply else first_refusal (map f names ++ rest))
        ≡ first_refusal (refusal reply (b || some_comes (map f names)) ∷ rest)
    go true others = ap (λ (r : Reply). Some r) (kind name)
    go false others = others

-- one refusal of each kind stands for those of a composite's names
pub compose-refusals : (shape : Shape) (s : LaneState) (fresh : ℕ) (names : List ℕ) →
    first_refusal (refusals shape s (Compose fresh names))
    ≡ first_refusal (refusal Reply.Unbound (some_comes (map (unbound s) names)) ∷ taken s fresh
    ∷ refusal Reply.Composite (some_comes (map (composite s) names))
    ∷ refusal Reply.Illegal (some_comes (map (illegal s) names))
    ∷ too_long shape (composite_from s names) ∷ [])
compose-refusals shape s fresh names =
    let us : List Refusal = map (unbound s) names in
    let cs : List Refusal = map (composite s) names in
    let is : List Refusal = map (illegal s) names in
    let last : List Refusal = too_long shape (composite_from s names) ∷ [] in
    let illegals = first-of-kind (illegal s) Reply.Illegal (λ _. refl) names last in
    let composites :
    first_refusal (cs ++ (is ++ last))
    ≡ first_refusal (refusal Reply.Composite (some_comes cs) ∷ refusal Reply.Illegal (some_comes is) ∷ last) =
    first-of-kind (composite s) Reply.Composite (λ _. refl) names (is ++ last)
    ∙ ap (λ (o : Option Reply). if some_comes cs then Some Reply.Composite else o) illegals in
    ap first_refusal
    (append_assoc (us ++ (taken s fresh ∷ cs)) is last ∙ append_assoc us (taken s fresh ∷ cs) (is ++ last))
    ∙ first-of-kind (unbound s) Reply.Unbound (λ _. refl) names (taken s fresh ∷ (cs ++ (is ++ last)))
    ∙ ap (λ (o : Option Reply). if some_comes us then Some Reply.Unbound else
    if (taken s fresh).comes then Some Reply.Taken else o) composites

-- the composite that a command makes can be read up to its end
pub candidate-read : (s : LaneState) (command : Command) → IfSome (candidate_of s command) IsRead
candidate-read s (Compose fresh names) = go (views_named s names)
  where
    go : (o : Option (List ViewData)) → IfSome (option_map (λ vs. composite_of (map readable vs)) o) IsRead
    go None = tt
    go (Some vs) = refl
candidate-read s (Add whole name) = go (composite_named s whole) (view_named s name)
  where
    go : (o : Option Composite) (p : Option ViewData) →
        IfSome (option_and_then (λ c. option_map (λ v. extended_by (readable v) c) p) o) IsRead
    go None p = tt
    go (Some c) None = tt
    go (Some c) (Some v) = refl
candidate-read s _ = tt
