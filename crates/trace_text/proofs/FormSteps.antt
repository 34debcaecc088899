-- What the form of a command gives: the lanes that it names are there, and a composite has 1 to 24 views.
use Rattle.std.proofs.Common.{◌≡◌, ℕ, suc, List, [], ◌∷◌, length, drop, refl, ap, true, false, Bool, arith, length-drop}
use Rattle.std.specs.Prelude.{Option, Some, None, IfSome, nat_le, nat_lt, ◌&&◌, if◌then◌else◌}
use Rattle.std.proofs.lemmas.Bool.Decides.{nat_tests}
use Rattle.serde_json.specs.Data.{Data}
use Rattle.pool_law.specs.declared.command.Command.{Command}
use Rattle.pool_law.specs.declared.command.Command.TheVariants as commands
use Rattle.trace_text.specs.declared.words.Word.{Word}
use Rattle.trace_text.specs.declared.words.Word.TheVariants as words
use Rattle.trace_text.specs.Items.{◌>>=◌, only_if, item_at, lane_number_in, name_in}
use Rattle.trace_text.specs.Names.{Mentions, with_name}
use Rattle.trace_text.specs.Forms.{Read, mentioned, numbers_in, row_between, set_of, get_of, write_of, slice_of, compose_of, one_name_in, two_names_in, name_and_number_in, name_and_lane_in}
use Rattle.trace_text.specs.Words.{form_of, command_in, read_as}

-- a lane that the command names is one of so many, and the views that it composes are 1 to 24
abbrev pub names_lanes : ℕ → Command → Bool
names_lanes lanes (commands.Send name lane) = nat_lt lane lanes
names_lanes lanes (commands.Recv fresh lane) = nat_lt lane lanes
names_lanes lanes (commands.Compose fresh names) = nat_le 1 (length names) && nat_le (length names) 24
names_lanes lanes _ = true

abbrev Named : ℕ → Read Command → Type 0
Named lanes read = IfSome read (λ p. names_lanes lanes p.0 ≡ true)

-- what holds whatever a step gives
pub through : {A B : Type 0} (P : B → Type 0) (o : Option A) (next : A → Option B) → ((a : A) → IfSome (next a) P)
    → IfSome (o >>= next) P
through P None next h = tt
through P (Some a) next h = h a

pub passed : {A : Type 0} (test : A → Bool) (a : A) → IfSome (only_if test a) (λ b. test b ≡ true)
passed test a = elim (test a) as (λ (t : Bool). test a ≡ t → IfSome (if t then Some a else None) (λ b. test b ≡ true)) [
  | true ↦ λ e. e
  | false ↦ λ e. tt
] refl

-- what a step gives, where that is known
pub through_if : {A B : Type 0} (Q : A → Type 0) (P : B → Type 0) (o : Option A) (next : A → Option B) → IfSome o Q
    → ((a : A) → Q a → IfSome (next a) P) → IfSome (o >>= next) P
through_if Q P None next known h = tt
through_if Q P (Some a) next known h = h a known

as_read : {A : Type 0} (Q : A → Type 0) (lanes : ℕ) (command : A → Command) (read : Read A) → IfSome read (λ p. Q p.0)
    → ((a : A) → Q a → names_lanes lanes (command a) ≡ true) → Named lanes (read_as command read)
as_read Q lanes command None known h = tt
as_read Q lanes command (Some p) known h = h p.0 known

any_read : {A : Type 0} (read : Read A) → IfSome read (λ p. Unit {0})
any_read None = tt
any_read (Some p) = tt

set_named : (lanes : ℕ) (tries : Bool) (names : Mentions) (ds : List Data) → Named lanes (set_of tries names ds)
unfolding set_of
set_named lanes tries names ds = search (through) depth 9

get_named : (lanes : ℕ) (tries : Bool) (names : Mentions) (ds : List Data) → Named lanes (get_of tries names ds)
unfolding get_of
get_named lanes tries names ds = search (through) depth 9

write_named : (lanes : ℕ) (names : Mentions) (ds : List Data) → Named lanes (write_of names ds)
unfolding write_of
write_named lanes names ds = search (through) depth 9

slice_named : (lanes : ℕ) (retained : Bool) (names : Mentions) (ds : List Data)
    → Named lanes (slice_of retained names ds)
unfolding slice_of
slice_named lanes retained names ds = search (through) depth 9

-- as many numbers as items
numbers_long : (names : Mentions) (ds : List Data) → IfSome (numbers_in names ds) (λ p. length p.0 ≡ length ds)
numbers_long names [] = refl
numbers_long names (d ∷ ds) =
    through (λ (p : List ℕ × Mentions). length p.0 ≡ length (d ∷ ds)) (name_in d) _
    (λ name. through_if (λ (p : List ℕ × Mentions). length p.0 ≡ length ds)
    (λ (p : List ℕ × Mentions). length p.0 ≡ length (d ∷ ds)) (numbers_in (with_name names name) ds) _
    (numbers_long (with_name names name) ds) (λ rest long. ap suc long))

-- a row of so many items has so many views
views_counted : (row : List Data) (numbers : List ℕ) → (nat_le 3 (length row) && nat_le (length row) 26) ≡ true
    → length numbers ≡ length (drop 2 row) → (nat_le 1 (length numbers) && nat_le (length numbers) 24) ≡ true
views_counted row numbers sized long =
    let left = length-drop 2 row in grind (arith, nat_tests, sized, long, left)

compose_named : (lanes : ℕ) (names : Mentions) (ds : List Data) → Named lanes (compose_of names ds)
unfolding compose_of
compose_named lanes names ds =
    let named : Command × Mentions → Type 0 = λ p. names_lanes lanes p.0 ≡ true in
    through_if (λ (row : List Data). (nat_le 3 (length row) && nat_le (length row) 26) ≡ true) named
    (row_between 3 26 ds) _ (passed (λ (row : List Data). nat_le 3 (length row) && nat_le (length row) 26) ds)
    (λ row sized. through named (name_in (item_at row 1)) _
    (λ new. through_if (λ (p : List ℕ × Mentions). length p.0 ≡ length (drop 2 row)) named
    (numbers_in (with_name names new) (drop 2 row)) _ (numbers_long (with_name names new) (drop 2 row))
    (λ b long. views_counted row b.0 sized long)))

lane_number_named : (lanes : ℕ) (d : Data) → IfSome (lane_number_in lanes d) (λ lane. nat_lt lane lanes ≡ true)
unfolding lane_number_in
lane_number_named lanes d = search (through, passed) depth 9

abbrev lane_after : Mentions → List ℕ → ℕ → Read (ℕ × ℕ)
lane_after names name lane = do
  a ← mentioned names name
  Some ((a.0, lane), a.1)

lane_next : (lanes : ℕ) (names : Mentions) (name : List ℕ) (d : Data)
    → IfSome (lane_number_in lanes d >>= lane_after names name) (λ p. nat_lt p.0.1 lanes ≡ true)
lane_next lanes names name d =
    through_if (λ lane. nat_lt lane lanes ≡ true) (λ (p : (ℕ × ℕ) × Mentions). nat_lt p.0.1 lanes ≡ true)
    (lane_number_in lanes d) (lane_after names name) (lane_number_named lanes d) (λ lane below. below)

lane_named : (lanes : ℕ) (names : Mentions) (ds : List Data)
    → IfSome (name_and_lane_in lanes names ds) (λ p. nat_lt p.0.1 lanes ≡ true)
unfolding name_and_lane_in
lane_named lanes names ds = search (through, lane_next) depth 9

form_named : (word : Word) (lanes : ℕ) (names : Mentions) (ds : List Data) → Named lanes (form_of word lanes names ds)
unfolding form_of
form_named words.Alloc lanes names ds =
    as_read (λ p. Unit {0}) lanes (λ p. commands.Alloc p.0 p.1) _ (any_read (name_and_number_in names ds))
    (λ p any. refl)
form_named words.Set lanes names ds = set_named lanes false names ds
form_named words.TrySet lanes names ds = set_named lanes true names ds
form_named words.Get lanes names ds = get_named lanes false names ds
form_named words.TryGet lanes names ds = get_named lanes true names ds
form_named words.Write lanes names ds = write_named lanes names ds
form_named words.Read lanes names ds =
    as_read (λ p. Unit {0}) lanes (λ p. commands.Read p.0 p.1) _ (any_read (name_and_number_in names ds))
    (λ p any. refl)
form_named words.Slice lanes names ds = slice_named lanes false names ds
form_named words.RetainedSlice lanes names ds = slice_named lanes true names ds
form_named words.Dup lanes names ds =
    as_read (λ p. Unit {0}) lanes (λ p. commands.Dup p.0 p.1) _ (any_read (two_names_in names ds)) (λ p any. refl)
form_named words.Retain lanes names ds =
    as_read (λ p. Unit {0}) lanes commands.Retain _ (any_read (one_name_in names ds)) (λ p any. refl)
form_named words.Release lanes names ds =
    as_read (λ p. Unit {0}) lanes commands.Release _ (any_read (one_name_in names ds)) (λ p any. refl)
form_named words.Refcnt lanes names ds =
    as_read (λ p. Unit {0}) lanes commands.Refcnt _ (any_read (one_name_in names ds)) (λ p any. refl)
form_named words.Touch lanes names ds =
    as_read (λ p. Unit {0}) lanes commands.Touch _ (any_read (one_name_in names ds)) (λ p any. refl)
form_named words.Forget lanes names ds =
    as_read (λ p. Unit {0}) lanes commands.Forget _ (any_read (one_name_in names ds)) (λ p any. refl)
form_named words.Send lanes names ds =
    as_read (λ p. nat_lt p.1 lanes ≡ true) lanes (λ p. commands.Send p.0 p.1) _ (lane_named lanes names ds)
    (λ p below. below)
form_named words.Recv lanes names ds =
    as_read (λ p. nat_lt p.1 lanes ≡ true) lanes (λ p. commands.Recv p.0 p.1) _ (lane_named lanes names ds)
    (λ p below. below)
form_named words.Compose lanes names ds = compose_named lanes names ds
form_named words.Add lanes names ds =
    as_read (λ p. Unit {0}) lanes (λ p. commands.Add p.0 p.1) _ (any_read (two_names_in names ds)) (λ p any. refl)
form_named words.Capacity lanes names ds =
    as_read (λ p. Unit {0}) lanes (λ p. commands.Capacity p.0 p.1) _ (any_read (name_and_number_in names ds))
    (λ p any. refl)

pub command_named : (lanes : ℕ) (names : Mentions) (d : Data)
    → IfSome (command_in lanes names d) (λ p. names_lanes lanes p.0 ≡ true)
unfolding command_in
command_named lanes names d = search (through, form_named) depth 9
