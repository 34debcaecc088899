-- How the law reads a command that makes a composite, and that the work is planned for it.
use Rattle.std.proofs.Common.{◌≡◌, ℕ, ◌+◌, ◌*◌, ◌≤◌, Bool, true, false, List, [], ◌∷◌, ◌++◌, length, map, refl, sym, ap, ◌∙◌, subst, arith, Option, Some, None, Ok, length-append}
use Rattle.std.specs.Prelude.{if◌then◌else◌, ◌==◌, not, nat_le, is_none, is_some, option_map, option_and_then}
use Rattle.std.proofs.lemmas.List.{length-map}
use Rattle.std.proofs.lemmas.List.Sums.{length-filter, count_by-le-length}
use Rattle.pool_law.specs.declared.command.Command.{Command}
use Rattle.pool_law.specs.declared.id.Part.{Part}
use Rattle.pool_law.specs.declared.id.ViewData.{ViewData}
use Rattle.pool_law.specs.declared.run.Reply.{Reply}
use Rattle.pool_law.specs.declared.run.Shape.{Shape}
use Rattle.pool_law.specs.Arenas.{or_else}
use Rattle.pool_law.specs.Bounds.{most_notes, may_ask}
use Rattle.pool_law.specs.Composites.{Composite, composite_of, extended_by, filled, is_crowded, readable, size_of}
use Rattle.pool_law.specs.LaneStates.{LaneState, composite_from, composite_with, named, view_named, views_named}
use Rattle.pool_law.specs.Lanes.{Answer, answer, answer_by, answer_of, carried_out, composed, consolidate, copied_to}
use Rattle.pool_law.specs.Names.{Bound, Composed, composite_in, is_usable, passes, view_in}
use Rattle.pool_law.specs.Patterns.{allot}
use Rattle.pool_law.specs.Readers.{Log, Reader, ◌>>=◌, give, given}
use Rattle.pool_law.specs.Refusals.{Refusal as Refuses, first_refusal, is_too_long, refusal, refusals, too_long}
use Rattle.lane_context.specs.declared.access.Refusal.{Refusal}
use Rattle.lane_context.specs.declared.access.Refusal.TheVariants.{TooLarge}
use Rattle.lane_stages.specs.declared.counts.Counted.{Counted}
use Rattle.lane_context.specs.declared.context.Context.{Context}
use Rattle.lane_context.specs.declared.work.Consolidation.{Consolidation}
use Rattle.lane_context.specs.declared.work.Work.{Work}
use Rattle.lane_context.specs.declared.work.Work.TheVariants.{Refused, Empty, Cross, End, Bind, Consolidate}
use Rattle.lane_context.specs.Accesses.{IsState, reply_for}
use Rattle.lane_stages.specs.Budgets.{notes_alone}
use Rattle.lane_context.specs.Composing.{IsConsolidation}
use Rattle.lane_plans.specs.Compositions.{IsMade, joined, readable_at, readable_of, refusals_to_add, refusals_to_compose}
use Rattle.lane_context.specs.Contexts.{left_for, moves_of}
use Rattle.lane_context.specs.Named.{bound_at, known_to}
use Rattle.lane_context.specs.Works.{IsPlanned, IsWithin}
use Rattle.lane_plans.proofs.CompositionTests.{AreShown, IsShown, clear_to_add, first_part, length-readable, one_part, shown_to_compose}
use Rattle.lane_plans.proofs.RefusalLists.{first_refusal-append}
use Rattle.lane_context.proofs.StateReads.{goes, named_so, refuses, viewed}

module _ (s : LaneState) (names : List (Option Bound)) (cs : List Counted) (state : IsState s names cs) where
  -- ---- The law's refusals are those of what the lane keeps.

  pub to_compose : (shape : Shape) (fresh : ℕ) (of : List ℕ) → refusals shape s (Command.Compose fresh of)
      ≡ refusals_to_compose names cs fresh of ++ too_long shape (composite_from s of) ∷ []
  to_compose shape fresh of = λ i.
      map (λ n. refusal Reply.Unbound (is_none (state.names_are n i))) of
      ++ refusal Reply.Taken (is_some (state.names_are fresh i))
      ∷ map (λ n. refusal Reply.Composite (passes (λ b. is_some (composite_in b)) (state.names_are n i))) of
      ++ map (λ n. refusal Reply.Illegal
      (passes (λ b. not (is_usable (λ root. nat_le 1 (state.counts_are.counts root i)) b)) (state.names_are n i))) of
      ++ too_long shape (composite_from s of) ∷ []

  pub to_add : (shape : Shape) (whole name : ℕ) → refusals shape s (Command.Add whole name)
      ≡ refusals_to_add names cs whole name ++ too_long shape (composite_with s whole name) ∷ []
  to_add shape whole name = λ i.
      refusal Reply.Unbound (is_none (state.names_are whole i))
      ∷ refusal Reply.Unbound (is_none (state.names_are name i))
      ∷ refusal Reply.Plain (passes (λ b. is_some (view_in b)) (state.names_are whole i))
      ∷ refusal Reply.Composite (passes (λ b. is_some (composite_in b)) (state.names_are name i))
      ∷ refusal Reply.Illegal
      (passes (λ b. not (is_usable (λ root. nat_le 1 (state.counts_are.counts root i)) b)) (state.names_are whole i))
      ∷ refusal Reply.Illegal
      (passes (λ b. not (is_usable (λ root. nat_le 1 (state.counts_are.counts root i)) b)) (state.names_are name i))
      ∷ too_long shape (composite_with s whole name)
      ∷ []

  -- ---- Its composites are those that the lane makes.

  views_of : (of : List ℕ) → AreShown names cs of
      → (vs : List ViewData) × (views_named s of ≡ Some vs) × (map readable vs ≡ readable_of names of)
  views_of [] shown = ([], refl, refl)
  views_of (n ∷ ns) shown =
      let rest = views_of ns shown.1 in
      let v : ViewData = shown.0.0 in (
        v ∷ rest.0,
        ap (option_and_then (λ v. option_map (λ vs. v ∷ vs) (views_named s ns))) (viewed s names cs state n v shown.0.1)
            ∙ ap (option_map (λ (vs : List ViewData). v ∷ vs)) rest.1,
        ap (λ (ps : List Part). readable v ∷ ps) rest.2 ∙ sym (first_part names cs n ns shown.0),
      )

  pub composes_so : (of : List ℕ) → AreShown names cs of
      → composite_from s of ≡ Some (joined (readable_of names of) 1 0)
  composes_so of shown =
      let views = views_of of shown in
      ap (option_map (λ (vs : List ViewData). composite_of (map readable vs))) views.1
      ∙ ap (λ (ps : List Part). Some (composite_of ps)) views.2

  pub adds_so : (whole name : ℕ) (c : Composite) → named s whole ≡ Some (Composed c) → IsShown names cs name
      → composite_with s whole name ≡ Some (joined (c.parts ++ readable_at names name) c.count c.reader)
  adds_so whole name c is shown =
      let v : ViewData = shown.0 in
      ap (λ (o : Option Bound). option_and_then (λ c. option_map (λ v. extended_by (readable v) c) (view_named s name))
      (option_and_then composite_in o)) is
      ∙ ap (option_map (λ (v : ViewData). extended_by (readable v) c)) (viewed s names cs state name v shown.1)
      ∙ ap (λ (ps : List Part). Some (joined (c.parts ++ ps) c.count c.reader)) (sym (one_part names cs name shown))

  -- ---- The work is what it reads.

  module _ (d : Context) (command : Command) (mine : List Refuses) (o : Option Composite)
      (of_law : refusals d.shape s command ≡ mine ++ too_long d.shape o ∷ [])
      (alone : (lane : ℕ) (reply : Reply) (log : Log) →
      answer_by d.shape lane s command (Some reply) log ≡ Some (answer reply s.names, log)) where
    first_of_law : first_refusal (refusals d.shape s command)
        ≡ or_else (first_refusal mine) (first_refusal (too_long d.shape o ∷ []))
    first_of_law = ap first_refusal of_law ∙ first_refusal-append mine (too_long d.shape o ∷ [])

    none_spent : IsWithin (notes_alone 0) (left_for d.composes command)
    none_spent = record {
      notes = omega arith;
      asks = omega arith;
      takes = omega arith;
      moves = omega arith;
      sends = λ to. omega arith;
    }

    planned_by : (refusal : Refusal) → first_refusal (refusals d.shape s command) ≡ Some (reply_for refusal)
        → IsPlanned d command (Refused refusal) s
    planned_by refusal first = record {
      within = none_spent;
      read = λ lane log.
          refuses s names cs state d.shape lane command (reply_for refusal) first log
          ∙ alone lane (reply_for refusal) log;
    }

    -- a refusal by the tests
    pub planned_refusal : (refusal : Refusal) → Some (reply_for refusal) ≡ first_refusal mine
        → IsPlanned d command (Refused refusal) s
    planned_refusal refusal first =
        planned_by refusal
        (first_of_law ∙ ap (λ (r : Option Reply). or_else r (first_refusal (too_long d.shape o ∷ []))) (sym first))

    module _ (name : ℕ) (c : Composite) (there : o ≡ Some c) (none : None ≡ first_refusal mine)
        (carried : (lane : ℕ) (log : Log) → carried_out d.shape lane s command log
        ≡ (consolidate d.shape lane c >>= (λ made. give (composed s name made))) log)
        (room : 5 + 8 * length c.parts ≤ most_notes d.composes command) (asks : 1 ≤ may_ask command)
        (moves : 1 ≤ moves_of command) where
      by_length : (long : Bool) → is_too_long d.shape (Some c) ≡ long
          → first_refusal (refusals d.shape s command) ≡ (if long then Some Reply.TooLarge else None)
      by_length long is =
          first_of_law
          ∙ ap (λ (r : Option Reply). or_else r (first_refusal (too_long d.shape o ∷ []))) (sym none)
          ∙ ap (λ (o : Option Composite). first_refusal (too_long d.shape o ∷ [])) there
          ∙ ap (λ (b : Bool). if b then Some Reply.TooLarge else None) is

      abbrev consolidates : Bool → ℕ → Reader Answer
      consolidates crowded lane =
          (if crowded then allot d.shape lane (size_of c.parts) >>= copied_to d.shape c else give (Ok c))
          >>= (λ made. give (composed s name made))

      goes_on : (crowded : Bool) → is_too_long d.shape (Some c) ≡ false → is_crowded c ≡ crowded
          → (lane : ℕ) (log : Log)
          → answer_of d.shape lane s command log ≡ consolidates crowded lane log
      goes_on crowded short is lane log =
          goes s names cs state d.shape lane command (by_length false short) log ∙ carried lane log
          ∙ ap (λ (b : Bool). consolidates b lane log) is

      few_transfers : (p : Consolidation) → p.whole.value ≡ c → IsConsolidation (known_to d.seat) d.shape d.counts p
          → (length p.transfers.items ≤ length c.parts) × (length p.parts.items ≡ length c.parts)
      few_transfers p is k =
          let parts : p.whole.value.parts ≡ c.parts = ap (λ (c : Composite). c.parts) is in
          let same : length p.transfers.items ≡ length (filled p.whole.value.parts) =
          sym (length-map p.transfers.items (λ t. t.part)) ∙ ap (λ (ps : List Part). length ps) k.copied in
          let few = length-filter (λ (q : Part). not (q.len == 0)) p.whole.value.parts in
          let most = count_by-le-length (λ (q : Part). not (q.len == 0)) p.whole.value.parts in
          let long = ap (λ (ps : List Part). length ps) parts in
          (omega (arith, same, few, most, long), ap (λ (ps : List Part). length ps) (k.parts ∙ parts))

      pub planned_made : (work : Work) → IsMade d name c work → IsPlanned d command work s
      planned_made (Refused refusal) made =
          subst (λ (r : Refusal). IsPlanned d command (Refused r) s) (sym made.0)
          (planned_by TooLarge (by_length true made.1))
      planned_made (Empty other marks reply) made = absurd made
      planned_made (Cross other marks stage) made = absurd made
      planned_made (End other parts) made = absurd made
      planned_made (Bind other box) made = record {
        within = none_spent;
        read = λ lane log.
            goes_on false made.2 made.3 lane log
            ∙ (λ i. Some (composed s (sym made.0 i) (Ok (sym made.1 i)), log));
      }
      planned_made (Consolidate p) made = record {
        within = (let few = few_transfers p made.1 made.4 in record {
          notes = omega (arith, few.0, few.1, room);
          asks = asks;
          takes = asks;
          moves = moves;
          sends = λ to. omega arith;
        });
        read = λ lane log.
            goes_on true made.2 made.3 lane log
            ∙ (λ i. (allot d.shape lane (size_so i) >>= copied_to d.shape (sym made.1 i)
            >>= (λ got. give (composed s (sym made.0 i) got))) log);
      }
        where
          size_so : size_of c.parts ≡ p.size
          size_so = sym (made.4.size ∙ ap (λ (c : Composite). size_of c.parts) made.1)

-- ---- The two commands.

module _ (d : Context) (s : LaneState) (state : IsState s d.names d.counts) where
  module _ (fresh : ℕ) (of : List ℕ) where
    abbrev composing : List Refuses
    composing = refusals_to_compose d.names d.counts fresh of

    pub refuses_to_compose : (refusal : Refusal) → Some (reply_for refusal) ≡ first_refusal composing
        → IsPlanned d (Command.Compose fresh of) (Refused refusal) s
    refuses_to_compose =
        planned_refusal s d.names d.counts state d (Command.Compose fresh of) composing (composite_from s of)
        (to_compose s d.names d.counts state d.shape fresh of) (λ lane reply log. refl)

    pub composes : None ≡ first_refusal composing → length of ≤ 24 → (work : Work)
        → IsMade d fresh (joined (readable_of d.names of) 1 0) work → IsPlanned d (Command.Compose fresh of) work s
    composes none few =
        let shown = shown_to_compose d.names d.counts fresh of none in
        let c : Composite = joined (readable_of d.names of) 1 0 in
        let there : composite_from s of ≡ Some c = composes_so s d.names d.counts state of shown in
        let long = length-readable d.names d.counts of shown in
        planned_made s d.names d.counts state d (Command.Compose fresh of) composing (composite_from s of)
        (to_compose s d.names d.counts state d.shape fresh of) (λ lane reply log. refl) fresh c there none
        (λ lane log. ap (λ (o : Option Composite). (given o >>= (λ c. consolidate d.shape lane c
        >>= (λ made. give (composed s fresh made)))) log) there)
        (omega (arith, long, few)) (omega arith) (omega arith)

  module _ (whole name : ℕ) where
    abbrev adding : List Refuses
    adding = refusals_to_add d.names d.counts whole name

    pub refuses_to_add : (refusal : Refusal) → Some (reply_for refusal) ≡ first_refusal adding
        → IsPlanned d (Command.Add whole name) (Refused refusal) s
    refuses_to_add =
        planned_refusal s d.names d.counts state d (Command.Add whole name) adding (composite_with s whole name)
        (to_add s d.names d.counts state d.shape whole name) (λ lane reply log. refl)

    pub adds : None ≡ first_refusal adding → (before : Composite) → bound_at d.names whole ≡ Some (Composed before)
        → length before.parts ≤ 16 → (work : Work)
        → IsMade d whole (joined (before.parts ++ readable_at d.names name) before.count before.reader) work
        → IsPlanned d (Command.Add whole name) work s
    adds none before is few =
        let clear = clear_to_add d.names d.counts whole name none in
        let c : Composite = joined (before.parts ++ readable_at d.names name) before.count before.reader in
        let there : composite_with s whole name ≡ Some c =
        adds_so s d.names d.counts state whole name before (named_so s d.names d.counts state whole (Some
        (Composed before)) is) clear.1 in
        let long : length c.parts ≡ length before.parts + 1 =
        ap (λ (ps : List Part). length (before.parts ++ ps)) (one_part d.names d.counts name clear.1)
        ∙ length-append before.parts (readable clear.1.0 ∷ []) in
        planned_made s d.names d.counts state d (Command.Add whole name) adding (composite_with s whole name)
        (to_add s d.names d.counts state d.shape whole name) (λ lane reply log. refl) whole c there none
        (λ lane log. ap (λ (o : Option Composite). (given o >>= (λ c. consolidate d.shape lane c
        >>= (λ made. give (composed s whole made)))) log) there)
        (omega (arith, long, few)) (omega arith) (omega arith)
