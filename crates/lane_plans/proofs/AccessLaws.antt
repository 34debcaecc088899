-- How the law reads a command that accesses bytes of the view of a name, and that an access is
-- prepared for it.
use Rattle.std.proofs.Common.{◌≡◌, ℕ, List, [], ◌∷◌, ◌++◌, length, refl, ap, ◌∙◌, arith, append-nil, Option, Some, None}
use Rattle.std.specs.Prelude.{option_and_then}
use Rattle.std.proofs.lemmas.List.{take_all}
use Rattle.pool_law.specs.declared.id.Part.{Part}
use Rattle.pool_law.specs.declared.id.RootId.{RootId}
use Rattle.pool_law.specs.declared.id.ViewData.{ViewData}
use Rattle.pool_law.specs.declared.note.Object.TheVariants.{Root}
use Rattle.pool_law.specs.declared.run.Reply.{Reply}
use Rattle.pool_law.specs.Arenas.{or_else}
use Rattle.pool_law.specs.Dids as says
use Rattle.pool_law.specs.LaneStates.{LaneState}
use Rattle.pool_law.specs.Lanes.{Answer, answer, set_parts, get_parts, busy_or}
use Rattle.pool_law.specs.Names.{Names}
use Rattle.pool_law.specs.Readers.{Log, Reader, ◌>>=◌, ◌>>◌, give, nothing, busy, access}

-- ---- One part.

-- how the law reads a set and a get of one part, by where they are
abbrev pub set_with : RootId → ℕ → List ℕ → Names → Reader Answer
set_with root offset bytes names = access root (says.set offset bytes) >> give (answer Reply.Ok names)

abbrev pub get_with : RootId → ℕ → ℕ → Names → Reader Answer
get_with root offset len names =
    access root (says.get offset len) >>= (λ bytes. give (answer (Reply.OkBytes bytes) names))

module _ (root : RootId) (offset : ℕ) (names : Names) where
  abbrev part : ℕ → List Part
  part len = record { root = root; offset = offset; len = len } ∷ []

  abbrev then_ok : Unit {0} × Log → Option (Answer × Log)
  then_ok got = Some (answer Reply.Ok names, got.1)

  abbrev then_none : Unit {0} × Log → Option (Unit {0} × Log)
  then_none got = Some (tt, got.1)

  abbrev then_bytes : List ℕ × Log → Option (Answer × Log)
  then_bytes got = Some (answer (Reply.OkBytes got.0) names, got.1)

  abbrev then_rest : List ℕ × Log → Option (List ℕ × Log)
  then_rest got = Some (got.0 ++ [], got.1)

  pub one_set : (bytes : List ℕ) (log : Log)
      → (set_parts (part (length bytes)) bytes >> give (answer Reply.Ok names)) log
      ≡ set_with root offset bytes names log
  one_set bytes log =
      ap (λ (xs : List ℕ). (access root (says.set offset xs) >> nothing >> give (answer Reply.Ok names)) log)
      (take_all (length bytes) bytes (omega arith))
      ∙ last (access root (says.set offset bytes) log)
    where
      last : (o : Option (Unit {0} × Log)) → option_and_then then_ok (option_and_then then_none o)
          ≡ option_and_then then_ok o
      last None = refl
      last (Some got) = refl

  pub one_get : (len : ℕ) (log : Log)
      → (get_parts (part len) >>= (λ bytes. give (answer (Reply.OkBytes bytes) names))) log
      ≡ get_with root offset len names log
  one_get len log = last (access root (says.get offset len) log)
    where
      last : (o : Option (List ℕ × Log)) → option_and_then then_bytes (option_and_then then_rest o)
          ≡ option_and_then then_bytes o
      last None = refl
      last (Some got) = ap (λ (xs : List ℕ). Some (answer (Reply.OkBytes xs) names, got.1)) (append-nil got.0)

-- what a command that tries reads where the root isn't busy
pub tries_alike : (s : LaneState) (v : ViewData) (r q : Reader Answer) (log : Log) → r log ≡ q log
    → busy_or s v r log ≡ busy_or s v q log
tries_alike s v r q log same =
    ap (or_else ((busy (Root v.root.place) >>= (λ number. give (answer (Reply.Busy number) s.names))) log)) same
