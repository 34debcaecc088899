-- Which refusal of a command comes, by what the lane's names and counts are.
use Rattle.std.proofs.Common.{◌≡◌, ℕ, ◌<◌, Bool, true, false, List, [], ◌∷◌, ap, ◌∙◌, arith, Option, Some, None, le-leb}
use Rattle.std.proofs.lemmas.Bool.{lt-leb}
use Rattle.std.specs.Prelude.{if◌then◌else◌, not, option_and_then, is_none, is_some}
use Rattle.pool_law.specs.declared.command.Command.{Command}
use Rattle.pool_law.specs.declared.id.RootId.{RootId}
use Rattle.pool_law.specs.declared.id.ViewData.{ViewData}
use Rattle.pool_law.specs.declared.run.Reply.{Reply}
use Rattle.pool_law.specs.declared.run.Shape.{Shape}
use Rattle.pool_law.specs.Counts.{count_of}
use Rattle.pool_law.specs.LaneStates.{LaneState, counts, named, view_named}
use Rattle.pool_law.specs.Lanes.{answer_by, answer_of, carried_out}
use Rattle.pool_law.specs.Composites.{Composite as LawComposite}
use Rattle.pool_law.specs.Names.{Bound, Plain, Composed, passes, view_in, composite_in, is_usable, is_counted}
use Rattle.pool_law.specs.Readers.{Log}
use Rattle.pool_law.specs.Refusals.{Refusal as Refuses, first_refusal, refusals, refusal, unbound, taken, composite, illegal, uncounted}
use Rattle.lane_context.specs.declared.access.Refusal.{Refusal}
use Rattle.lane_context.specs.declared.access.Refusal.TheVariants.{Unbound, Taken, Composite, Illegal, Range, Plain as NotComposite, TooLarge}
use Rattle.lane_stages.specs.declared.counts.Counted.{Counted}
use Rattle.lane_context.specs.Named.{bound_at}
use Rattle.lane_stages.specs.Counting.{counted}
use Rattle.lane_context.specs.Accesses.{reply_for, IsState, IsRefused, IsRefusedFresh, IsRefusedRange, IsUncounted, IsRefusedCount}
use Rattle.lane_context.specs.Works.{IsPlainAt}

-- a refusal that doesn't come is passed, and one that comes is the first
pub passed : (r : Refuses) (rest : List Refuses) → r.comes ≡ false → first_refusal (r ∷ rest) ≡ first_refusal rest
passed r rest is = ap (λ (b : Bool). if b then Some r.reply else first_refusal rest) is

pub comes_first : (r : Refuses) (rest : List Refuses) → r.comes ≡ true → first_refusal (r ∷ rest) ≡ Some r.reply
comes_first r rest is = ap (λ (b : Bool). if b then Some r.reply else first_refusal rest) is

module _ (s : LaneState) (names : List (Option Bound)) (cs : List Counted) (state : IsState s names cs) where
  -- what a name is bound to
  pub named_so : (name : ℕ) (o : Option Bound) → bound_at names name ≡ o → named s name ≡ o
  named_so name o is = state.names_are name ∙ is

  pub counting : (root : RootId) → 0 < counted cs root → counts s root ≡ true
  counting root lt =
      let same = state.counts_are.counts root in le-leb 1 (count_of root s.seen) (omega (arith, same, lt))

  not_counting : (root : RootId) → counted cs root ≡ 0 → counts s root ≡ false
  not_counting root none =
      let same = state.counts_are.counts root in lt-leb 1 (count_of root s.seen) (omega (arith, same, none))

  -- a new name is free, or taken
  pub is_free : (fresh : ℕ) → bound_at names fresh ≡ None → (taken s fresh).comes ≡ false
  is_free fresh is = ap (λ (o : Option Bound). is_some o) (named_so fresh None is)

  pub is_taken : (fresh : ℕ) (b : Bound) → bound_at names fresh ≡ Some b → (taken s fresh).comes ≡ true
  is_taken fresh b is = ap (λ (o : Option Bound). is_some o) (named_so fresh (Some b) is)

  pub is_unbound : (name : ℕ) → bound_at names name ≡ None → (unbound s name).comes ≡ true
  is_unbound name is = ap (λ (o : Option Bound). is_none o) (named_so name None is)

  pub is_bound : (name : ℕ) (b : Bound) → bound_at names name ≡ Some b → (unbound s name).comes ≡ false
  is_bound name b is = ap (λ (o : Option Bound). is_none o) (named_so name (Some b) is)

  -- a command that takes no composite is refused one
  is_composite : (name : ℕ) (c : LawComposite) → bound_at names name ≡ Some (Composed c)
      → (composite s name).comes ≡ true
  is_composite name c is =
      ap (λ (o : Option Bound). passes (λ b. is_some (composite_in b)) o) (named_so name (Some (Composed c)) is)

  -- what has no count of the lane's or its own
  module _ (name : ℕ) (b : Bound) (is : bound_at names name ≡ Some b) where
    count_test : (uncounted s name).comes ≡ not (is_counted (counts s) b)
    count_test =
        ap (λ (o : Option Bound). passes (λ x. not (is_counted (counts s) x)) o) (named_so name (Some b) is)

    counted_not : (x : Bound) → IsUncounted cs x → is_counted (counts s) x ≡ false
    counted_not (Plain v) none = not_counting v.root none
    counted_not (Composed c) none = lt-leb 1 c.count (omega (arith, none))

    has_none : IsUncounted cs b → (uncounted s name).comes ≡ true
    has_none none = count_test ∙ ap (λ (t : Bool). not t) (counted_not b none)

  module _ (name : ℕ) (v : ViewData) (is : bound_at names name ≡ Some (Plain v)) where
    is_plain : (composite s name).comes ≡ false
    is_plain = ap (λ (o : Option Bound). passes (λ b. is_some (composite_in b)) o) (named_so name (Some (Plain v)) is)

    is_legal : 0 < counted cs v.root → (illegal s name).comes ≡ false
    is_legal lt =
        ap (λ (o : Option Bound). passes (λ b. not (is_usable (counts s) b)) o) (named_so name (Some (Plain v)) is)
        ∙ ap (λ (b : Bool). not b) (counting v.root lt)

    is_illegal : counted cs v.root ≡ 0 → (illegal s name).comes ≡ true
    is_illegal none =
        ap (λ (o : Option Bound). passes (λ b. not (is_usable (counts s) b)) o) (named_so name (Some (Plain v)) is)
        ∙ ap (λ (b : Bool). not b) (not_counting v.root none)

    has_count : 0 < counted cs v.root → (uncounted s name).comes ≡ false
    has_count lt =
        ap (λ (o : Option Bound). passes (λ b. not (is_counted (counts s) b)) o) (named_so name (Some (Plain v)) is)
        ∙ ap (λ (b : Bool). not b) (counting v.root lt)

    -- the name's view
    pub viewed : view_named s name ≡ Some v
    viewed = ap (option_and_then view_in) (named_so name (Some (Plain v)) is)

    -- a test of what the name is bound to
    pub tested : (test : Bound → Bool) → passes test (named s name) ≡ test (Plain v)
    tested test = ap (λ (o : Option Bound). passes test o) (named_so name (Some (Plain v)) is)

  -- ---- The first refusals of a command on the view of a name.

  module _ (name : ℕ) where
    abbrev of_bytes : List Refuses → List Refuses
    of_bytes rest = unbound s name ∷ illegal s name ∷ rest

    abbrev of_view : List Refuses → List Refuses
    of_view rest = unbound s name ∷ composite s name ∷ illegal s name ∷ rest

    abbrev of_fresh : ℕ → List Refuses → List Refuses
    of_fresh fresh rest = unbound s name ∷ taken s fresh ∷ composite s name ∷ illegal s name ∷ rest

    abbrev of_count : List Refuses
    of_count = unbound s name ∷ uncounted s name ∷ []

    -- where the lane counts it, none of them comes
    module _ (v : ViewData) (is : bound_at names name ≡ Some (Plain v)) (lt : 0 < counted cs v.root) where
      pub used : (rest : List Refuses) → first_refusal (of_bytes rest) ≡ first_refusal rest
      used rest =
          passed (unbound s name) (illegal s name ∷ rest) (is_bound name (Plain v) is)
          ∙ passed (illegal s name) rest (is_legal name v is lt)

      pub used_view : (rest : List Refuses) → first_refusal (of_view rest) ≡ first_refusal rest
      used_view rest =
          passed (unbound s name) (composite s name ∷ illegal s name ∷ rest) (is_bound name (Plain v) is)
          ∙ passed (composite s name) (illegal s name ∷ rest) (is_plain name v is)
          ∙ passed (illegal s name) rest (is_legal name v is lt)

      pub used_fresh : (fresh : ℕ) → bound_at names fresh ≡ None → (rest : List Refuses)
          → first_refusal (of_fresh fresh rest) ≡ first_refusal rest
      used_fresh fresh none rest =
          passed (unbound s name) (taken s fresh ∷ composite s name ∷ illegal s name ∷ rest) (is_bound name
          (Plain v) is)
          ∙ passed (taken s fresh) (composite s name ∷ illegal s name ∷ rest) (is_free fresh none)
          ∙ passed (composite s name) (illegal s name ∷ rest) (is_plain name v is)
          ∙ passed (illegal s name) rest (is_legal name v is lt)

      pub used_count : first_refusal of_count ≡ None
      used_count =
          passed (unbound s name) (uncounted s name ∷ []) (is_bound name (Plain v) is)
          ∙ passed (uncounted s name) [] (has_count name v is lt)

    -- where it is refused, that comes
    pub refused : IsPlainAt names name → (refusal : Refusal) → IsRefused names cs name refusal → (rest : List Refuses)
        → first_refusal (of_bytes rest) ≡ Some (reply_for refusal)
    refused plain Unbound is rest = comes_first (unbound s name) (illegal s name ∷ rest) (is_unbound name is)
    refused plain Illegal is rest =
        passed (unbound s name) (illegal s name ∷ rest) (is_bound name (Plain is.0) is.1)
        ∙ comes_first (illegal s name) rest (is_illegal name is.0 is.1 is.2)
    refused plain Composite is rest = absurd (plain is.0 is.1)
    refused plain Taken is rest = absurd is
    refused plain Range is rest = absurd is
    refused plain NotComposite is rest = absurd is
    refused plain TooLarge is rest = absurd is

    pub refused_view : (refusal : Refusal) → IsRefused names cs name refusal → (rest : List Refuses)
        → first_refusal (of_view rest) ≡ Some (reply_for refusal)
    refused_view Unbound is rest =
        comes_first (unbound s name) (composite s name ∷ illegal s name ∷ rest) (is_unbound name is)
    refused_view Composite is rest =
        passed (unbound s name) (composite s name ∷ illegal s name ∷ rest) (is_bound name (Composed is.0) is.1)
        ∙ comes_first (composite s name) (illegal s name ∷ rest) (is_composite name is.0 is.1)
    refused_view Illegal is rest =
        passed (unbound s name) (composite s name ∷ illegal s name ∷ rest) (is_bound name (Plain is.0) is.1)
        ∙ passed (composite s name) (illegal s name ∷ rest) (is_plain name is.0 is.1)
        ∙ comes_first (illegal s name) rest (is_illegal name is.0 is.1 is.2)
    refused_view Taken is rest = absurd is
    refused_view Range is rest = absurd is
    refused_view NotComposite is rest = absurd is
    refused_view TooLarge is rest = absurd is

    pub refused_count : (refusal : Refusal) → IsRefusedCount names cs name refusal
        → first_refusal of_count ≡ Some (reply_for refusal)
    refused_count Unbound is = comes_first (unbound s name) (uncounted s name ∷ []) (is_unbound name is)
    refused_count Illegal is =
        passed (unbound s name) (uncounted s name ∷ []) (is_bound name is.0 is.1)
        ∙ comes_first (uncounted s name) [] (has_none name is.0 is.1 is.2)
    refused_count Composite is = absurd is
    refused_count Taken is = absurd is
    refused_count Range is = absurd is
    refused_count NotComposite is = absurd is
    refused_count TooLarge is = absurd is

    pub refused_fresh : (fresh : ℕ) (refusal : Refusal) → IsRefusedFresh names cs fresh name refusal
        → (rest : List Refuses) → first_refusal (of_fresh fresh rest) ≡ Some (reply_for refusal)
    refused_fresh fresh Unbound is rest =
        comes_first (unbound s name) (taken s fresh ∷ composite s name ∷ illegal s name ∷ rest) (is_unbound name is)
    refused_fresh fresh Taken is rest =
        passed (unbound s name) (taken s fresh ∷ composite s name ∷ illegal s name ∷ rest) (is_bound name is.0 is.2)
        ∙ comes_first (taken s fresh) (composite s name ∷ illegal s name ∷ rest) (is_taken fresh is.1 is.3)
    refused_fresh fresh Composite is rest =
        passed (unbound s name) (taken s fresh ∷ composite s name ∷ illegal s name ∷ rest)
        (is_bound name (Composed is.0) is.1)
        ∙ passed (taken s fresh) (composite s name ∷ illegal s name ∷ rest) (is_free fresh is.2)
        ∙ comes_first (composite s name) (illegal s name ∷ rest) (is_composite name is.0 is.1)
    refused_fresh fresh Illegal is rest =
        passed (unbound s name) (taken s fresh ∷ composite s name ∷ illegal s name ∷ rest)
        (is_bound name (Plain is.0) is.1)
        ∙ passed (taken s fresh) (composite s name ∷ illegal s name ∷ rest) (is_free fresh is.2)
        ∙ passed (composite s name) (illegal s name ∷ rest) (is_plain name is.0 is.1)
        ∙ comes_first (illegal s name) rest (is_illegal name is.0 is.1 is.3)
    refused_fresh fresh Range is rest = absurd is
    refused_fresh fresh NotComposite is rest = absurd is
    refused_fresh fresh TooLarge is rest = absurd is

  -- ---- And where what the name is bound to has to pass a test.

  module _ (name : ℕ) (test : Bound → Bool) where
    abbrev out_of_range : Refuses
    out_of_range = refusal Reply.Range (passes (λ b. not (test b)) (named s name))

    module _ (v : ViewData) (is : bound_at names name ≡ Some (Plain v)) where
      in_range_so : test (Plain v) ≡ true → out_of_range.comes ≡ false
      in_range_so pass = tested name v is (λ b. not (test b)) ∙ ap (λ (b : Bool). not b) pass

      out_of_range_so : test (Plain v) ≡ false → out_of_range.comes ≡ true
      out_of_range_so fail = tested name v is (λ b. not (test b)) ∙ ap (λ (b : Bool). not b) fail

      pub ranged : 0 < counted cs v.root → test (Plain v) ≡ true
          → first_refusal (of_bytes name (out_of_range ∷ [])) ≡ None
      ranged lt pass = used name v is lt (out_of_range ∷ []) ∙ passed out_of_range [] (in_range_so pass)

      pub ranged_view : 0 < counted cs v.root → test (Plain v) ≡ true
          → first_refusal (of_view name (out_of_range ∷ [])) ≡ None
      ranged_view lt pass = used_view name v is lt (out_of_range ∷ []) ∙ passed out_of_range [] (in_range_so pass)

      -- with a new name
      module _ (fresh : ℕ) (none : bound_at names fresh ≡ None) (lt : 0 < counted cs v.root) where
        pub ranged_fresh : test (Plain v) ≡ true → first_refusal (of_fresh name fresh (out_of_range ∷ [])) ≡ None
        ranged_fresh pass =
            used_fresh name v is lt fresh none (out_of_range ∷ []) ∙ passed out_of_range [] (in_range_so pass)

        pub unranged_fresh : test (Plain v) ≡ false
            → first_refusal (of_fresh name fresh (out_of_range ∷ [])) ≡ Some Reply.Range
        unranged_fresh fail =
            used_fresh name v is lt fresh none (out_of_range ∷ []) ∙ comes_first out_of_range [] (out_of_range_so fail)

    pub unranged : IsPlainAt names name → (why : Refusal) → IsRefusedRange names cs name (λ v. test (Plain v)) why
        → first_refusal (of_bytes name (out_of_range ∷ [])) ≡ Some (reply_for why)
    unranged plain Range is =
        used name is.0 is.1 is.2 (out_of_range ∷ []) ∙ comes_first out_of_range [] (out_of_range_so is.0 is.1 is.3)
    unranged plain Unbound is = refused name plain Unbound is (out_of_range ∷ [])
    unranged plain Illegal is = refused name plain Illegal is (out_of_range ∷ [])
    unranged plain Composite is = refused name plain Composite is (out_of_range ∷ [])
    unranged plain Taken is = absurd is
    unranged plain NotComposite is = absurd is
    unranged plain TooLarge is = absurd is

    pub unranged_view : (why : Refusal) → IsRefusedRange names cs name (λ v. test (Plain v)) why
        → first_refusal (of_view name (out_of_range ∷ [])) ≡ Some (reply_for why)
    unranged_view Range is =
        used_view name is.0 is.1 is.2 (out_of_range ∷ []) ∙ comes_first out_of_range [] (out_of_range_so is.0 is.1 is.3)
    unranged_view Unbound is = refused_view name Unbound is (out_of_range ∷ [])
    unranged_view Illegal is = refused_view name Illegal is (out_of_range ∷ [])
    unranged_view Composite is = refused_view name Composite is (out_of_range ∷ [])
    unranged_view Taken is = absurd is
    unranged_view NotComposite is = absurd is
    unranged_view TooLarge is = absurd is

  -- ---- What the law reads then.

  module _ (shape : Shape) (lane : ℕ) (command : Command) where
    -- a command whose refusals don't come is carried out
    pub goes : first_refusal (refusals shape s command) ≡ None → (log : Log)
        → answer_of shape lane s command log ≡ carried_out shape lane s command log
    goes none log = ap (λ (o : Option Reply). answer_by shape lane s command o log) none

    -- and else it isn't
    pub refuses : (reply : Reply) → first_refusal (refusals shape s command) ≡ Some reply → (log : Log)
        → answer_of shape lane s command log ≡ answer_by shape lane s command (Some reply) log
    refuses reply first log = ap (λ (o : Option Reply). answer_by shape lane s command o log) first

    -- a command on the count of a composite
    pub goes_composite : (name : ℕ) (c : LawComposite) → bound_at names name ≡ Some (Composed c) → 0 < c.count
        → refusals shape s command ≡ unbound s name ∷ uncounted s name ∷ [] → (log : Log)
        → answer_of shape lane s command log ≡ carried_out shape lane s command log
    goes_composite name c is lt of =
        goes (ap first_refusal of
        ∙ passed (unbound s name) (uncounted s name ∷ []) (is_bound name (Composed c) is)
        ∙ passed (uncounted s name) []
        (count_test name (Composed c) is ∙ ap (λ (t : Bool). not t) (le-leb 1 c.count (omega (arith, lt)))))

    -- and of a view
    pub goes_uncounted : (name : ℕ) (v : ViewData) → bound_at names name ≡ Some (Plain v) → 0 < counted cs v.root
        → refusals shape s command ≡ unbound s name ∷ uncounted s name ∷ [] → (log : Log)
        → answer_of shape lane s command log ≡ carried_out shape lane s command log
    goes_uncounted name v is lt of = goes (ap first_refusal of ∙ used_count name v is lt)
