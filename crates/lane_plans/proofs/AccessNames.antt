-- How the law reads an access of the view of a name, and that one is prepared for it.
use Rattle.std.proofs.Common.{◌≡◌, ℕ, ◌+◌, ◌<◌, ◌≤◌, Bool, true, false, List, length, refl, sym, ap, ◌∙◌, subst, arith, Option, Some, Result, Ok, Err, Vec, Global, leb-true}
use Rattle.std.specs.Prelude.{slice_set, IfOk, IfErr}
use Rattle.pool_law.specs.declared.command.Command.{Command}
use Rattle.pool_law.specs.declared.id.RootId.{RootId}
use Rattle.pool_law.specs.declared.id.ViewData.{ViewData}
use Rattle.pool_law.specs.declared.run.Reply.{Reply}
use Rattle.pool_law.specs.declared.run.Shape.{Shape}
use Rattle.pool_law.specs.Bounds.{most_notes}
use Rattle.pool_law.specs.LaneStates.{LaneState}
use Rattle.pool_law.specs.Lanes.{Answer, answer, answer_of, set_parts, get_parts, set_at, get_at, busy_or}
use Rattle.pool_law.specs.Names.{Bound, Plain, bind, has_range, has_to_read, has_room, reader_of, writer_of, read_on, written_on, parts_at}
use Rattle.pool_law.specs.Readers.{Log, Reader, ◌>>=◌, ◌>>◌, give, given}
use Rattle.pool_law.specs.Views.{LiesIn, root_index, in_range, can_read, can_write, after_read, after_write}
use Rattle.lane_context.specs.declared.access.Refusal.{Refusal}
use Rattle.lane_context.specs.declared.access.Reach.{Reach}
use Rattle.lane_context.specs.declared.access.Access.{Access}
use Rattle.lane_context.specs.declared.access.Access.TheVariants.{Refused, Set, Get}
use Rattle.lane_stages.specs.declared.counts.Counted.{Counted}
use Rattle.lane_context.specs.Named.{AreInside, bound_at, NamesAre}
use Rattle.lane_stages.specs.Counting.{counted}
use Rattle.lane_context.specs.Accesses.{reply_for, tries_or, IsState, IsRefusedRange, Reaches, IsPrepared}
use Rattle.lane_plans.specs.Reaching.{IsReached, BindsBelow, IsMadeSet, IsMadeGet}
use Rattle.lane_context.specs.Works.{IsPlainAt, IsUnplanned}
use Rattle.lane_context.proofs.NameLaws.{bound_within, NamesAre-again, NamesAre-bind}
use Rattle.lane_context.proofs.StateReads.{named_so, viewed, ranged, ranged_view, unranged, unranged_view, goes, refuses}
use Rattle.lane_plans.proofs.AccessLaws.{set_with, get_with, one_set, one_get, tries_alike}

-- what is made of a range that was reached binds a name that was bound
module _ (names : List (Option Bound)) (cs : List Counted) (name : ℕ) (tries : Bool) (test : ViewData → Bool)
    (index : ViewData → ℕ) (behind : ViewData → ViewData) where
  name_within : (r other : Reach) → IsReached names cs name tries test index behind r → other ≡ r
      → other.name < length names
  name_within r other reached same =
      subst (λ n. n < length names) (sym (ap (λ (x : Reach). x.name) same ∙ reached.name_is))
      (bound_within names name (Plain reached.view) reached.bound)

  pub set_within : (reach : Result Reach Refusal) (bytes : List ℕ) (made : Access)
      → IfOk reach (IsReached names cs name tries test index behind) → IsMadeSet reach bytes made
      → BindsBelow (length names) made
  set_within (Ok reach) bytes (Set other copy) ok is = name_within reach other ok is.0
  set_within (Err refusal) bytes (Refused other) ok is = tt
  set_within _ bytes _ ok is = absurd is

  pub get_within : (reach : Result Reach Refusal) (len : ℕ) (made : Access)
      → IfOk reach (IsReached names cs name tries test index behind) → IsMadeGet reach len made
      → BindsBelow (length names) made
  get_within (Ok reach) len (Get other note reply) ok is = name_within reach other ok is.0
  get_within (Err refusal) len (Refused other) ok is = tt
  get_within _ len _ ok is = absurd is

module _ (s : LaneState) (names : List (Option Bound)) (cs : List Counted) (state : IsState s names cs)
  where
    module _ (name : ℕ) (tries : Bool) (test : ViewData → Bool) (index : ViewData → ℕ) (behind : ViewData → ViewData)
        (r : Reach) (reached : IsReached names cs name tries test index behind r) where
      -- the names afterwards are those with the view behind the access
      again : ((v : ViewData) → behind v ≡ v) → NamesAre s.names (slice_set names r.name (Some (Plain r.after.at)))
      again same =
          subst (λ (p : ℕ × ViewData). NamesAre s.names (slice_set names p.0 (Some (Plain p.1))))
          (λ i. (sym reached.name_is i, sym (reached.after ∙ same reached.view) i))
          (NamesAre-again s.names names state.names_are name (Plain reached.view) reached.bound)

      bound_behind : NamesAre (bind name (Plain (behind reached.view)) s.names) (slice_set names r.name (Some
          (Plain r.after.at)))
      bound_behind =
          subst (λ (p : ℕ × ViewData). NamesAre (bind name (Plain (behind reached.view)) s.names)
          (slice_set names p.0 (Some (Plain p.1))))
          (λ i. (sym reached.name_is i, sym reached.after i))
          (NamesAre-bind s.names names state.names_are name (Plain (behind reached.view))
          (bound_within names name (Plain reached.view) reached.bound))

      -- the bytes lie in the root, since they lie in the view
      reaches : (len : ℕ) → (behind reached.view).root ≡ reached.view.root
          → (behind reached.view).offset ≡ reached.view.offset → index reached.view + len ≤ (behind reached.view).len
          → (behind reached.view).len ≡ reached.view.len → (known : RootId → ℕ) → AreInside known names
          → Reaches known cs len r
      reaches len root offset lt long known are =
          record {
            counts = subst (λ root. 0 < counted cs root) (sym reached.root) reached.counts;
            inside =
                (let start : r.offset ≡ reached.view.offset + index reached.view = reached.offset in
                let own = ap known reached.root in omega (arith, start, lies, own, long, lt));
            view = root_is ∙ sym reached.root;
            lies =
                (let len_is = ap (λ (v : ViewData). v.len) reached.after in
                let offset_is = ap (λ (v : ViewData). v.offset) reached.after in
                let same = ap known root_is in omega (arith, lies, len_is, offset_is, offset, long, same));
          }
        where
          lies : LiesIn (known reached.view.root) reached.view
          lies = are.each name (Plain reached.view) reached.bound

          root_is : r.after.at.root ≡ reached.view.root
          root_is = ap (λ (v : ViewData). v.root) reached.after ∙ root

    -- a refusal is prepared
    prepared_refusal : (command : Command) → ((composes : Bool) → 1 ≤ most_notes composes command) → (refusal : Refusal)
        → ((shape : Shape) (lane : ℕ) (log : Log) → answer_of shape lane s command log
        ≡ Some (answer (reply_for refusal) s.names, log)) → IsPrepared names cs command (Refused refusal) s
    prepared_refusal command noted refusal reads =
        record { ready = λ known are. tt; noted = noted; bound = s.names; names_are = state.names_are; read = reads }

    module _ (name at : ℕ) (bytes : List ℕ) where
      abbrev can_set : ViewData → Bool
      can_set v = in_range v at (length bytes)

      -- a set notes once, tried or not
      set_noted : (tries composes : Bool) → 1 ≤ most_notes composes (Command.Set name at bytes tries)
      set_noted true composes = omega arith
      set_noted false true = omega arith
      set_noted false false = omega arith

      -- where it isn't refused, and where it is
      reads_set : (tries : Bool) (v : ViewData) → bound_at names name ≡ Some (Plain v) → 0 < counted cs v.root
          → can_set v ≡ true
          → (shape : Shape) (lane : ℕ) (log : Log) →
          answer_of shape lane s (Command.Set name at bytes tries) log
          ≡ tries_or tries s v (set_with v.root (root_index v at) bytes s.names) log
      reads_set false v is lt pass shape lane log =
          goes s names cs state shape lane (Command.Set name at bytes false)
          (ranged s names cs state name (has_range at (length bytes)) v is lt pass) log
          ∙ ap (λ (o : Option Bound). (given o >>= set_at s at bytes) log) (named_so s names cs state name (Some
          (Plain v)) is)
          ∙ one_set v.root (root_index v at) s.names bytes log
      reads_set true v is lt pass shape lane log =
          goes s names cs state shape lane (Command.Set name at bytes true)
          (ranged_view s names cs state name (has_range at (length bytes)) v is lt pass) log
          ∙ ap (λ (o : Option ViewData). (given o >>= (λ view. busy_or s view (set_at s at bytes (Plain view)))) log)
          (viewed s names cs state name v is)
          ∙ tries_alike s v (set_at s at bytes (Plain v)) (set_with v.root (root_index v at) bytes s.names) log
          (one_set v.root (root_index v at) s.names bytes log)

      refuses_set : (tries : Bool) → IsUnplanned names (Command.Set name at bytes tries) → (why : Refusal)
          → IsRefusedRange names cs name can_set why
          → (shape : Shape) (lane : ℕ) (log : Log) → answer_of shape lane s (Command.Set name at bytes tries) log
          ≡ Some (answer (reply_for why) s.names, log)
      refuses_set false plain why is shape lane log =
          refuses s names cs state shape lane (Command.Set name at bytes false) (reply_for why)
          (unranged s names cs state name (has_range at (length bytes)) plain why is) log
      refuses_set true plain why is shape lane log =
          refuses s names cs state shape lane (Command.Set name at bytes true) (reply_for why)
          (unranged_view s names cs state name (has_range at (length bytes)) why is) log

      module _ (tries : Bool) where
        set_reached : (r : Reach) (copy : Vec ℕ Global) → IsReached names cs name tries can_set (λ v. at) (λ v. v) r
            → copy.items ≡ bytes → IsPrepared names cs (Command.Set name at bytes tries) (Set r copy) s
        set_reached r copy k same = record {
          ready =
              reaches name tries can_set (λ v. at) (λ v. v) r k (length copy.items) refl refl
              (let pass = leb-true (at + length bytes) k.view.len k.passes in let len = ap length same in
              omega (arith, pass, len)) refl;
          noted = set_noted tries;
          bound = s.names;
          names_are = again name tries can_set (λ v. at) (λ v. v) r k (λ v. refl);
          read = λ shape lane log.
              reads_set tries k.view k.bound k.counts k.passes shape lane log
              ∙ (λ i. tries_or (sym k.tries_is i) s (sym k.after i)
              (set_with (sym k.root i) (sym k.offset i) (sym same i) s.names) log);
        }

        pub prepared_set : IsUnplanned names (Command.Set name at bytes tries)
            → (reach : Result Reach Refusal) (made : Access)
            → IfOk reach (IsReached names cs name tries can_set (λ v. at) (λ v. v))
            → IfErr reach (IsRefusedRange names cs name can_set) → IsMadeSet reach bytes made
            → IsPrepared names cs (Command.Set name at bytes tries) made s
        prepared_set plain (Ok reach) (Set other copy) ok err is =
            set_reached other copy (subst (IsReached names cs name tries can_set (λ v. at) (λ v. v)) (sym is.0) ok) is.1
        prepared_set plain (Err refusal) (Refused other) ok err is =
            prepared_refusal (Command.Set name at bytes tries) (set_noted tries) other
            (refuses_set tries plain other (subst (IsRefusedRange names cs name can_set) (sym is) err))
        prepared_set plain _ _ ok err is = absurd is

    module _ (name at len : ℕ) where
      abbrev can_get : ViewData → Bool
      can_get v = in_range v at len

      get_noted : (tries composes : Bool) → 1 ≤ most_notes composes (Command.Get name at len tries)
      get_noted true composes = omega arith
      get_noted false true = omega arith
      get_noted false false = omega arith

      reads_get : (tries : Bool) (v : ViewData) → bound_at names name ≡ Some (Plain v) → 0 < counted cs v.root
          → can_get v ≡ true
          → (shape : Shape) (lane : ℕ) (log : Log) →
          answer_of shape lane s (Command.Get name at len tries) log
          ≡ tries_or tries s v (get_with v.root (root_index v at) len s.names) log
      reads_get false v is lt pass shape lane log =
          goes s names cs state shape lane (Command.Get name at len false)
          (ranged s names cs state name (has_range at len) v is lt pass) log
          ∙ ap (λ (o : Option Bound). (given o >>= get_at s at len) log) (named_so s names cs state name (Some
          (Plain v)) is)
          ∙ one_get v.root (root_index v at) s.names len log
      reads_get true v is lt pass shape lane log =
          goes s names cs state shape lane (Command.Get name at len true)
          (ranged_view s names cs state name (has_range at len) v is lt pass) log
          ∙ ap (λ (o : Option ViewData). (given o >>= (λ view. busy_or s view (get_at s at len (Plain view)))) log)
          (viewed s names cs state name v is)
          ∙ tries_alike s v (get_at s at len (Plain v)) (get_with v.root (root_index v at) len s.names) log
          (one_get v.root (root_index v at) s.names len log)

      refuses_get : (tries : Bool) → IsUnplanned names (Command.Get name at len tries) → (why : Refusal)
          → IsRefusedRange names cs name can_get why
          → (shape : Shape) (lane : ℕ) (log : Log) → answer_of shape lane s (Command.Get name at len tries) log
          ≡ Some (answer (reply_for why) s.names, log)
      refuses_get false plain why is shape lane log =
          refuses s names cs state shape lane (Command.Get name at len false) (reply_for why)
          (unranged s names cs state name (has_range at len) plain why is) log
      refuses_get true plain why is shape lane log =
          refuses s names cs state shape lane (Command.Get name at len true) (reply_for why)
          (unranged_view s names cs state name (has_range at len) why is) log

      module _ (tries : Bool) where
        get_reached : (r : Reach) (note reply : Vec ℕ Global)
            → IsReached names cs name tries can_get (λ v. at) (λ v. v) r
            → length note.items ≡ len → length reply.items ≡ len
            → IsPrepared names cs (Command.Get name at len tries) (Get r note reply) s
        get_reached r note reply k same also = record {
          ready = λ known are. (
            reaches name tries can_get (λ v. at) (λ v. v) r k (length note.items) refl refl
                (let pass = leb-true (at + len) k.view.len k.passes in omega (arith, pass, same)) refl known are,
            also ∙ sym same,
          );
          noted = get_noted tries;
          bound = s.names;
          names_are = again name tries can_get (λ v. at) (λ v. v) r k (λ v. refl);
          read = λ shape lane log.
              reads_get tries k.view k.bound k.counts k.passes shape lane log
              ∙ (λ i. tries_or (sym k.tries_is i) s (sym k.after i)
              (get_with (sym k.root i) (sym k.offset i) (sym same i) s.names) log);
        }

        pub prepared_get : IsUnplanned names (Command.Get name at len tries)
            → (reach : Result Reach Refusal) (made : Access)
            → IfOk reach (IsReached names cs name tries can_get (λ v. at) (λ v. v))
            → IfErr reach (IsRefusedRange names cs name can_get) → IsMadeGet reach len made
            → IsPrepared names cs (Command.Get name at len tries) made s
        prepared_get plain (Ok reach) (Get other note reply) ok err is =
            get_reached other note reply (subst (IsReached names cs name tries can_get (λ v. at) (λ v. v)) (sym is.0)
            ok)
            is.1 is.2
        prepared_get plain (Err refusal) (Refused other) ok err is =
            prepared_refusal (Command.Get name at len tries) (get_noted tries) other
            (refuses_get tries plain other (subst (IsRefusedRange names cs name can_get) (sym is) err))
        prepared_get plain _ _ ok err is = absurd is

    module _ (name : ℕ) (bytes : List ℕ) where
      abbrev may_write : ViewData → Bool
      may_write v = can_write v (length bytes)

      abbrev written : ViewData → ViewData
      written v = after_write v (length bytes)

      abbrev writes : Bound → Reader Answer
      writes b =
          set_parts (parts_at b (writer_of b) (length bytes)) bytes >> give
          (answer Reply.Ok (bind name (written_on (length bytes) b) s.names))

      reads_write : (v : ViewData) → bound_at names name ≡ Some (Plain v) → 0 < counted cs v.root → may_write v ≡ true
          → (shape : Shape) (lane : ℕ) (log : Log) →
          answer_of shape lane s (Command.Write name bytes) log
          ≡ set_with v.root (root_index v v.writer) bytes (bind name (Plain (written v)) s.names) log
      reads_write v is lt pass shape lane log =
          goes s names cs state shape lane (Command.Write name bytes)
          (ranged s names cs state name (has_room (length bytes)) v is lt pass) log
          ∙ ap (λ (o : Option Bound). (given o >>= writes) log) (named_so s names cs state name (Some (Plain v)) is)
          ∙ one_set v.root (root_index v v.writer) (bind name (Plain (written v)) s.names) bytes log

      write_noted : (composes : Bool) → 1 ≤ most_notes composes (Command.Write name bytes)
      write_noted true = omega arith
      write_noted false = omega arith

      write_reached : (r : Reach) (copy : Vec ℕ Global)
          → IsReached names cs name false may_write (λ v. v.writer) written r → copy.items ≡ bytes
          → IsPrepared names cs (Command.Write name bytes) (Set r copy) s
      write_reached r copy k same = record {
        ready =
            reaches name false may_write (λ v. v.writer) written r k (length copy.items) refl refl
            (let pass = leb-true (k.view.writer + length bytes) k.view.len k.passes in let len = ap length same in
            omega (arith, pass, len)) refl;
        noted = write_noted;
        bound = bind name (Plain (written k.view)) s.names;
        names_are = bound_behind name false may_write (λ v. v.writer) written r k;
        read = λ shape lane log.
            reads_write k.view k.bound k.counts k.passes shape lane log
            ∙ (λ i. tries_or (sym k.tries_is i) s (sym k.after i)
            (set_with (sym k.root i) (sym k.offset i) (sym same i) (bind name (Plain (written k.view)) s.names)) log);
      }

      pub prepared_write : IsPlainAt names name → (reach : Result Reach Refusal) (made : Access)
          → IfOk reach (IsReached names cs name false may_write (λ v. v.writer) written)
          → IfErr reach (IsRefusedRange names cs name may_write) → IsMadeSet reach bytes made
          → IsPrepared names cs (Command.Write name bytes) made s
      prepared_write plain (Ok reach) (Set other copy) ok err is =
          write_reached other copy (subst (IsReached names cs name false may_write (λ v. v.writer) written) (sym is.0)
          ok)
          is.1
      prepared_write plain (Err refusal) (Refused other) ok err is =
          prepared_refusal (Command.Write name bytes) write_noted other
          (λ shape lane. refuses s names cs state shape lane (Command.Write name bytes) (reply_for other)
          (unranged s names cs state name (has_room (length bytes)) plain other
          (subst (IsRefusedRange names cs name may_write) (sym is) err)))
      prepared_write plain _ _ ok err is = absurd is

    module _ (name len : ℕ) where
      abbrev may_read : ViewData → Bool
      may_read v = can_read v len

      abbrev past : ViewData → ViewData
      past v = after_read v len

      abbrev reads_of : Bound → Reader Answer
      reads_of b =
          get_parts (parts_at b (reader_of b) len) >>=
          (λ bytes. give (answer (Reply.OkBytes bytes) (bind name (read_on len b) s.names)))

      reads_read : (v : ViewData) → bound_at names name ≡ Some (Plain v) → 0 < counted cs v.root → may_read v ≡ true
          → (shape : Shape) (lane : ℕ) (log : Log) →
          answer_of shape lane s (Command.Read name len) log
          ≡ get_with v.root (root_index v v.reader) len (bind name (Plain (past v)) s.names) log
      reads_read v is lt pass shape lane log =
          goes s names cs state shape lane (Command.Read name len)
          (ranged s names cs state name (has_to_read len) v is lt pass) log
          ∙ ap (λ (o : Option Bound). (given o >>= reads_of) log) (named_so s names cs state name (Some (Plain v)) is)
          ∙ one_get v.root (root_index v v.reader) (bind name (Plain (past v)) s.names) len log

      read_noted : (composes : Bool) → 1 ≤ most_notes composes (Command.Read name len)
      read_noted true = omega arith
      read_noted false = omega arith

      read_reached : (r : Reach) (note reply : Vec ℕ Global)
          → IsReached names cs name false may_read (λ v. v.reader) past r → length note.items ≡ len
          → length reply.items ≡ len → IsPrepared names cs (Command.Read name len) (Get r note reply) s
      read_reached r note reply k same also = record {
        ready = λ known are. (
          reaches name false may_read (λ v. v.reader) past r k (length note.items) refl refl
              (let order = r.after.is_view.reader in let most = r.after.is_view.writer in
              let reader : r.after.at.reader ≡ k.view.reader + len = ap (λ (v : ViewData). v.reader) k.after in
              let full : r.after.at.len ≡ k.view.len = ap (λ (v : ViewData). v.len) k.after in
              omega (arith, order, most, same, reader, full)) refl known are,
          also ∙ sym same,
        );
        noted = read_noted;
        bound = bind name (Plain (past k.view)) s.names;
        names_are = bound_behind name false may_read (λ v. v.reader) past r k;
        read = λ shape lane log.
            reads_read k.view k.bound k.counts k.passes shape lane log
            ∙ (λ i. tries_or (sym k.tries_is i) s (sym k.after i)
            (get_with (sym k.root i) (sym k.offset i) (sym same i) (bind name (Plain (past k.view)) s.names)) log);
      }

      pub prepared_read : IsPlainAt names name → (reach : Result Reach Refusal) (made : Access)
          → IfOk reach (IsReached names cs name false may_read (λ v. v.reader) past)
          → IfErr reach (IsRefusedRange names cs name may_read) → IsMadeGet reach len made
          → IsPrepared names cs (Command.Read name len) made s
      prepared_read plain (Ok reach) (Get other note reply) ok err is =
          read_reached other note reply (subst (IsReached names cs name false may_read (λ v. v.reader) past) (sym is.0)
          ok) is.1 is.2
      prepared_read plain (Err refusal) (Refused other) ok err is =
          prepared_refusal (Command.Read name len) read_noted other
          (λ shape lane. refuses s names cs state shape lane (Command.Read name len) (reply_for other)
          (unranged s names cs state name (has_to_read len) plain other
          (subst (IsRefusedRange names cs name may_read) (sym is) err)))
      prepared_read plain _ _ ok err is = absurd is
