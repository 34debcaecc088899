-- How the law reads a command that reaches the bytes of a composite, and the work on it.
use Rattle.std.proofs.Common.{◌≡◌, ℕ, suc, ◌+◌, ◌-◌, ◌≤◌, Bool, true, false, List, [], ◌∷◌, ◌++◌, length, refl, sym, ap, ◌∙◌, arith, Option, Some, None}
use Rattle.std.specs.Prelude.{if◌then◌else◌, ◌==◌, not, min, nat_le, option_and_then}
use Rattle.std.proofs.lemmas.Bool.{false≢true}
use Rattle.std.proofs.lemmas.List.{length-map}
use Rattle.std.proofs.lemmas.List.Sums.{length-filter, count_by-le-length}
use Rattle.pool_law.specs.declared.command.Command.{Command}
use Rattle.pool_law.specs.declared.id.Part.{Part}
use Rattle.pool_law.specs.declared.id.RootId.{RootId}
use Rattle.pool_law.specs.declared.run.Reply.{Reply}
use Rattle.pool_law.specs.declared.run.Shape.{Shape}
use Rattle.pool_law.specs.Bounds.{most_notes}
use Rattle.pool_law.specs.Composites.{Composite, cuts, ranges}
use Rattle.pool_law.specs.LaneStates.{LaneState, named}
use Rattle.pool_law.specs.Lanes.{answer, answer_by, answer_of, carried_out, get_parts, set_parts}
use Rattle.pool_law.specs.Names.{Bound, Composed, Names, bind, composite_in, is_usable, passes}
use Rattle.pool_law.specs.Readers.{Log, Reader, ◌>>=◌, ◌>>◌, give}
use Rattle.pool_law.specs.Refusals.{Refusal as Refuses, first_refusal, illegal, refusal, refusals, unbound}
use Rattle.lane_context.specs.declared.access.Refusal.{Refusal}
use Rattle.lane_context.specs.declared.access.Refusal.TheVariants.{Unbound, Taken, Composite as NoComposite, Illegal, Range, Plain as NotComposite, TooLarge}
use Rattle.lane_context.specs.declared.composed.Marks.{Marks}
use Rattle.lane_stages.specs.declared.counts.Counted.{Counted}
use Rattle.lane_stages.specs.declared.crossing.Crossing.{Crossing}
use Rattle.lane_stages.specs.declared.crossing.Crossing.TheVariants.{Set, Get}
use Rattle.lane_context.specs.declared.context.Context.{Context}
use Rattle.lane_context.specs.declared.work.Work.TheVariants.{Refused}
use Rattle.lane_context.specs.Accesses.{IsState, reply_for}
use Rattle.lane_stages.specs.Budgets.{notes_alone}
use Rattle.lane_context.specs.Composing.{MarksFit, crossed, marked, set_marks, rebound}
use Rattle.lane_plans.specs.Compositions.{counts_in}
use Rattle.lane_stages.specs.Crossings.{bytes_of, parts_of, stretches}
use Rattle.lane_context.specs.Contexts.{left_for}
use Rattle.lane_context.specs.Named.{AreComposites, AreInside, bound_at, known_to}
use Rattle.lane_plans.specs.Plans.{AreUsable, Gets, IsDenied, IsPlanOf, IsUsable, Sets, work_on}
use Rattle.lane_context.specs.Works.{IsReady, IsWithin, left_of, reads}
use Rattle.lane_plans.proofs.CompositionTests.{usable_so}
use Rattle.lane_context.proofs.StateReads.{comes_first, goes, is_bound, named_so, passed, refuses}

-- ---- How many notes.

length-cuts : (ps : List Part) (i n : ℕ) → length (cuts ps i n) ≡ length ps
length-cuts [] i n = refl
length-cuts (p ∷ ps) i n =
    ap suc (length-cuts ps (i - min i p.len) (n - min n (p.len - min i p.len)))

few_ranges : (ps : List Part) (i n : ℕ) → length (ranges ps i n) ≤ length ps
few_ranges ps i n =
    let few = length-filter (λ (p : Part). not (p.len == 0)) (cuts ps i n) in
    let most = count_by-le-length (λ (p : Part). not (p.len == 0)) (cuts ps i n) in
    let same = length-cuts ps i n in
    omega (arith, few, most, same)

-- how many parts are set or got
abbrev steps : Option Crossing → ℕ
steps None = 0
steps (Some stage) = length (stretches stage)

as_many : (stage : Crossing) (parts : List Part) → parts_of (stretches stage) ≡ parts
    → length (stretches stage) ≡ length parts
as_many stage parts are =
    sym (length-map (stretches stage) (λ s. s.part)) ∙ ap (λ (ps : List Part). length ps) are

few_sets : (known : RootId → ℕ) (cs : List Counted) (parts : List Part) (bytes : List ℕ) (stage : Option Crossing)
    → Sets known cs parts bytes stage → steps stage ≤ length parts
few_sets known cs parts bytes None sets = omega arith
few_sets known cs parts bytes (Some (Set first later)) sets =
    let same = as_many (Set first later) parts sets.0 in omega (arith, same)
few_sets known cs parts bytes (Some (Get first later got)) sets = absurd sets

few_gets : (known : RootId → ℕ) (cs : List Counted) (parts : List Part) (stage : Option Crossing)
    → Gets known cs parts stage
    → steps stage ≤ length parts
few_gets known cs parts None gets = omega arith
few_gets known cs parts (Some (Set first later)) gets = absurd gets
few_gets known cs parts (Some (Get first later got)) gets =
    let same = as_many (Get first later got) parts gets.0 in omega (arith, same)

-- ---- Readings one behind the other.

abbrev no_bytes : List ℕ
no_bytes = []

then_given : {A B C : Type 0} (r : Reader A) (f : A → B) (g : B → C) (log : Log)
    → (r >>= (λ a. give (g (f a)))) log ≡ (r >>= (λ a. give (f a)) >>= (λ b. give (g b))) log
then_given {A} {B} {C} r f g log = go (r log)
  where
    go : (o : Option (A × Log)) → option_and_then (λ got. give (g (f got.0)) got.1) o
        ≡ option_and_then (λ got. give (g got.0) got.1) (option_and_then (λ got. give (f got.0) got.1) o)
    go None = refl
    go (Some got) = refl

module _ (known : RootId → ℕ) (cs : List Counted) (shape : Shape) (lane : ℕ) (s : LaneState) (name : ℕ)
    (marks : Option Marks) (after : Names)
    (moved : marked name marks s.names ≡ after) (parts : List Part) (log : Log) where
  set_read : (bytes : List ℕ) (stage : Option Crossing) → Sets known cs parts bytes stage
      → (set_parts parts bytes >> give (answer Reply.Ok after)) log
      ≡ reads shape lane s (work_on name marks stage Reply.Ok) log
  set_read bytes None sets =
      λ i. (set_parts (sets.0 i) (sets.1 i) >> give (answer Reply.Ok (sym moved i))) log
  set_read bytes (Some (Set first later)) sets =
      (λ i. (set_parts (sym sets.0 i) (sym sets.1 i) >> give (answer Reply.Ok (sym moved i))) log)
      ∙ then_given (set_parts (parts_of (first ∷ later.items)) (bytes_of (first ∷ later.items)))
      (λ u. no_bytes) (λ bytes. crossed s name marks (Set first later) bytes) log
  set_read bytes (Some (Get first later got)) sets = absurd sets

  get_read : (stage : Option Crossing) → Gets known cs parts stage
      → (get_parts parts >>= (λ bytes. give (answer (Reply.OkBytes bytes) after))) log
      ≡ reads shape lane s (work_on name marks stage (Reply.OkBytes [])) log
  get_read None gets =
      λ i. (get_parts (gets i) >>= (λ bytes. give (answer (Reply.OkBytes bytes) (sym moved i)))) log
  get_read (Some (Set first later)) gets = absurd gets
  get_read (Some (Get first later got)) gets =
      (λ i. (get_parts (sym gets.0 i)
      >>= (λ bytes. give (answer (Reply.OkBytes (sym gets.1 i ++ bytes)) (sym moved i)))) log)
      ∙ then_given (get_parts (parts_of (first ∷ later.items))) (λ more. got.items ++ more)
      (λ bytes. crossed s name marks (Get first later got) bytes) log

-- ---- What refuses the command.

abbrev outside : LaneState → ℕ → (Bound → Bool) → Refuses
outside s name test = refusal Reply.Range (passes (λ b. not (test b)) (named s name))

-- the refusals of a command that reaches the bytes of what a name is bound to
abbrev of_bytes : LaneState → ℕ → (Bound → Bool) → List Refuses
of_bytes s name test = unbound s name ∷ illegal s name ∷ outside s name test ∷ []

module _ (s : LaneState) (names : List (Option Bound)) (cs : List Counted) (state : IsState s names cs) (name : ℕ)
    (c : Composite) (is : bound_at names name ≡ Some (Composed c)) where
  illegal_by : (usable : Bool) → usable ≡ is_usable (counts_in cs) (Composed c) → (illegal s name).comes ≡ not usable
  illegal_by usable same =
      (λ i. passes (λ b. not (is_usable (λ root. nat_le 1 (state.counts_are.counts root i)) b))
      (named_so s names cs state name (Some (Composed c)) is i))
      ∙ ap (λ (b : Bool). not b) (sym same)

  legal : IsUsable cs c → (illegal s name).comes ≡ false
  legal usable = illegal_by true (usable_so cs c true ((λ e. usable), (λ u. refl)))

  forbidden : (IsUsable cs c → ⊥) → (illegal s name).comes ≡ true
  forbidden denies = illegal_by false (usable_so cs c false ((λ e. absurd (false≢true e)), (λ u. absurd (denies u))))

  module _ (test : Bound → Bool) where
    outside_so : (inside : Bool) → inside ≡ test (Composed c) → (outside s name test).comes ≡ not inside
    outside_so inside same =
        ap (λ (o : Option Bound). passes (λ b. not (test b)) o) (named_so s names cs state name (Some (Composed c)) is)
        ∙ ap (λ (b : Bool). not b) (sym same)

    bound_first : first_refusal (of_bytes s name test) ≡ first_refusal (illegal s name ∷ outside s name test ∷ [])
    bound_first =
        passed (unbound s name) (illegal s name ∷ outside s name test ∷ [])
        (is_bound s names cs state name (Composed c) is)

    denied : (inside : Bool) → inside ≡ test (Composed c) → (r : Refusal) → IsDenied cs c inside r
        → first_refusal (of_bytes s name test) ≡ Some (reply_for r)
    denied inside same Illegal why =
        bound_first ∙ comes_first (illegal s name) (outside s name test ∷ []) (forbidden why)
    denied inside same Range why =
        bound_first ∙ passed (illegal s name) (outside s name test ∷ []) (legal why.0)
        ∙ comes_first (outside s name test) [] (outside_so false (sym why.1 ∙ same))
    denied inside same Unbound why = absurd why
    denied inside same Taken why = absurd why
    denied inside same NoComposite why = absurd why
    denied inside same NotComposite why = absurd why
    denied inside same TooLarge why = absurd why

    granted : IsUsable cs c → true ≡ test (Composed c) → first_refusal (of_bytes s name test) ≡ None
    granted usable pass =
        bound_first ∙ passed (illegal s name) (outside s name test ∷ []) (legal usable)
        ∙ passed (outside s name test) [] (outside_so true pass)

-- ---- The work on a composite of the context.

module _ (d : Context) (composites : AreComposites d.composes (1 + length d.replies.items) d.names)
    (lies : AreInside (known_to d.seat) d.names) (name : ℕ) (c : Composite)
    (is : bound_at d.names name ≡ Some (Composed c)) where
  abbrev known : RootId → ℕ
  known = known_to d.seat

  -- the lane makes composites, so that it has notes for their parts
  pub makes : (most less : ℕ) → (if d.composes then most else less) ≡ most
  makes most less = go d.composes refl
    where
      go : (b : Bool) → d.composes ≡ b → (if b then most else less) ≡ most
      go true so = refl
      go false so = absurd (composites.unmixed so name c is)

  pub held : IsUsable d.counts c → AreUsable known d.counts c.parts
  held usable = record { inside = lies.each name (Composed c) is; counts = usable.parts }

  module _ (command : Command) (test : Bound → Bool)
      (of : (s : LaneState) → refusals d.shape s command ≡ of_bytes s name test)
      (alone : (s : LaneState) (lane : ℕ) (reply : Reply) (log : Log) →
      answer_by d.shape lane s command (Some reply) log ≡ Some (answer reply s.names, log)) where
    none_spent : IsWithin (notes_alone 0) (left_for d.composes command)
    none_spent = record {
      notes = omega arith;
      asks = omega arith;
      takes = omega arith;
      moves = omega arith;
      sends = λ to. omega arith;
    }

    -- it is refused
    pub refusing : (inside : Bool) → inside ≡ test (Composed c) → (r : Refusal) → IsDenied d.counts c inside r
        → IsPlanOf d command (Some (Refused r))
    refusing inside same r why = (
      tt,
      λ s state. record {
        within = none_spent;
        read = λ lane log.
            refuses s d.names d.counts state d.shape lane command (reply_for r)
            (ap first_refusal (of s) ∙ denied s d.names d.counts state name c is test inside same r why) log
            ∙ alone s lane (reply_for r) log;
      },
    )

    module _ (usable : IsUsable d.counts c) (pass : true ≡ test (Composed c))
        (room : most_notes d.composes command ≡ 16) (at len : ℕ) (marks : Option Marks)
        (fit : MarksFit d.names name marks) (after : LaneState → Names)
        (moved : (s : LaneState) → named s name ≡ Some (Composed c) → marked name marks s.names ≡ after s) where
      carried_on : (s : LaneState) (state : IsState s d.names d.counts) (lane : ℕ) (log : Log)
          → answer_of d.shape lane s command log ≡ carried_out d.shape lane s command log
      carried_on s state lane log =
          goes s d.names d.counts state d.shape lane command
          (ap first_refusal (of s) ∙ granted s d.names d.counts state name c is test usable pass) log

      few : length (ranges c.parts at len) ≤ 16
      few = let less = few_ranges c.parts at len in
          let least = (composites.formed name c is).parts in omega (arith, less, least)

      within_by : (stage : Option Crossing) (reply : Reply) → steps stage ≤ length (ranges c.parts at len)
          → IsWithin (left_of (work_on name marks stage reply)) (left_for d.composes command)
      within_by None reply le = none_spent
      within_by (Some stage) reply le = record {
        notes = (let most = few in omega (arith, le, most, room));
        asks = omega arith;
        takes = omega arith;
        moves = omega arith;
        sends = λ to. omega arith;
      }

      -- the range is set
      pub setting : (bytes : List ℕ) → length bytes ≡ len
          → ((s : LaneState) → named s name ≡ Some (Composed c) → (lane : ℕ) (log : Log)
          → carried_out d.shape lane s command log
          ≡ (set_parts (ranges c.parts at len) bytes >> give (answer Reply.Ok (after s))) log)
          → (stage : Option Crossing) → Sets known d.counts (ranges c.parts at len) bytes stage
          → IsPlanOf d command (Some (work_on name marks stage Reply.Ok))
      setting bytes long carried stage sets = (
        ready stage sets,
        λ s state. record {
          within = within_by stage Reply.Ok (few_sets known d.counts (ranges c.parts at len) bytes stage sets);
          read = λ lane log.
              let here = named_so s d.names d.counts state name (Some (Composed c)) is in
              carried_on s state lane log ∙ carried s here lane log
              ∙ set_read known d.counts d.shape lane s name marks (after s) (moved s here) (ranges c.parts at len)
              log bytes stage sets;
        },
      )
        where
          ready : (stage : Option Crossing) → Sets known d.counts (ranges c.parts at len) bytes stage
              → IsReady d (work_on name marks stage Reply.Ok)
          ready None sets = (fit, refl)
          ready (Some (Set first later)) sets = (fit, sets.2)
          ready (Some (Get first later got)) sets = absurd sets

      -- the range is got
      pub getting : ((s : LaneState) → named s name ≡ Some (Composed c) → (lane : ℕ) (log : Log)
          → carried_out d.shape lane s command log
          ≡ (get_parts (ranges c.parts at len) >>= (λ bytes. give (answer (Reply.OkBytes bytes) (after s)))) log)
          → (stage : Option Crossing) → Gets known d.counts (ranges c.parts at len) stage
          → IsPlanOf d command (Some (work_on name marks stage (Reply.OkBytes no_bytes)))
      getting carried stage gets = (
        ready stage gets,
        λ s state. record {
          within = within_by stage (Reply.OkBytes no_bytes)
              (few_gets known d.counts (ranges c.parts at len) stage gets);
          read = λ lane log.
              let here = named_so s d.names d.counts state name (Some (Composed c)) is in
              carried_on s state lane log ∙ carried s here lane log
              ∙ get_read known d.counts d.shape lane s name marks (after s) (moved s here) (ranges c.parts at len)
              log stage gets;
        },
      )
        where
          ready : (stage : Option Crossing) → Gets known d.counts (ranges c.parts at len) stage
              → IsReady d (work_on name marks stage (Reply.OkBytes no_bytes))
          ready None gets = (fit, refl)
          ready (Some (Set first later)) gets = absurd gets
          ready (Some (Get first later got)) gets = (fit, gets.2)

-- the names once the reader and the writer of the composite are elsewhere
pub marks_moved : (s : LaneState) (name : ℕ) (c : Composite) → named s name ≡ Some (Composed c) → (marks : Marks)
    → marked name (Some marks) s.names ≡ bind name (Composed (set_marks marks c)) s.names
marks_moved s name c here marks =
    ap (λ (o : Option Bound). rebound (set_marks marks) name s.names (option_and_then composite_in o)) here
