-- What names are bound to, once one of them has changed, and that it is what the law's names say.
use Rattle.std.proofs.Common.{◌≡◌, ◌≢◌, ℕ, zero, suc, ◌+◌, ◌<◌, ◌≤◌, Bool, true, false, List, [], ◌∷◌, length, map, replicate, get_or, refl, sym, ap, ◌∙◌, subst, ⊎_elim, arith, Option, Some, None, eqb-true, ne_eqb, eq-eqb}
use Rattle.std.specs.Prelude.{◌==◌, All, not, if◌then◌else◌, option_and_then, option_map, unwrap_or, slice_set}
use Rattle.std.proofs.lemmas.Bool.{cases_eq}
use Rattle.std.proofs.lemmas.List.Elements.{All-weaker}
use Rattle.pool_law.specs.declared.id.Part.{Part}
use Rattle.pool_law.specs.declared.id.RootId.{RootId}
use Rattle.pool_law.specs.declared.id.ViewData.{ViewData}
use Rattle.pool_law.specs.Composites.{Composite, size_of}
use Rattle.pool_law.specs.Names.{Bound, Plain, Composed, Names, composite_in, lookup, without, bind}
use Rattle.pool_law.specs.Views.{LiesIn}
use Rattle.pool_law.proofs.ListLemmas.{slice_get-set_same, slice_get-set_other, slice_set-length}
use Rattle.shared_pool.specs.declared.seat.PoolSeat.{PoolSeat}
use Rattle.lane_context.specs.declared.bound.Bound.{Bound as HeldBound}
use Rattle.lane_context.specs.declared.composed.Marks.{Marks}
use Rattle.lane_context.specs.declared.context.Context.{Context}
use Rattle.lane_context.specs.Composing.{changed, rebound, set_marks}
use Rattle.lane_context.specs.Named.{bound_of, bound_at, NamesAre, AreComposites, AreInside, IsFormed, IsInRoot, IsInside, known_to}

pub map-replicate : {X Y : Type 0} (f : X → Y) (n : ℕ) (x : X) → map f (replicate n x) ≡ replicate n (f x)
map-replicate f zero x = refl
map-replicate f (suc n) x = ap (λ xs. f x ∷ xs) (map-replicate f n x)

-- a name that is bound is one of the list's
pub bound_within : (names : List (Option Bound)) (name : ℕ) (b : Bound) → bound_at names name ≡ Some b
    → name < length names
bound_within [] name b is = absurd (cc is)
bound_within (x ∷ xs) zero b is = omega arith
bound_within (x ∷ xs) (suc n) b is = let ih : n < length xs = bound_within xs n b is in omega (arith, ih)

-- what the lane keeps of a name that is bound to a composite
pub bound_of_item : (items : List (Option HeldBound)) (name : ℕ) (x : Option HeldBound) (c : Composite)
    → bound_at (map (option_map bound_of) items) name ≡ Some (Composed c)
    → option_map bound_of (get_or items name x) ≡ Some (Composed c)
bound_of_item [] name x c is = absurd (cc is)
bound_of_item (y ∷ ys) zero x c is = is
bound_of_item (y ∷ ys) (suc n) x c is = bound_of_item ys n x c is

bound_at-set_same : (names : List (Option Bound)) (name : ℕ) (x : Option Bound) → name < length names
    → bound_at (slice_set names name x) name ≡ x
bound_at-set_same names name x lt =
    ap (λ (o : Option (Option Bound)). unwrap_or o None) (slice_get-set_same names name x lt)

bound_at-set_other : (names : List (Option Bound)) (name other : ℕ) (x : Option Bound) → other ≢ name
    → bound_at (slice_set names name x) other ≡ bound_at names other
bound_at-set_other names name other x ne =
    ap (λ (o : Option (Option Bound)). unwrap_or o None) (slice_get-set_other names name other x ne)

lookup-without_other : (name other : ℕ) (bs : Names) → other ≢ name → lookup other (without name bs) ≡ lookup other bs
lookup-without_other name other [] ne = refl
lookup-without_other name other (b ∷ bs) ne = go (lookup-without_other name other bs ne) (b.0 == name) refl
  where
    go : lookup other (without name bs) ≡ lookup other bs → (t : Bool) → (b.0 == name) ≡ t
        → lookup other (if not t then b ∷ without name bs else without name bs) ≡ lookup other (b ∷ bs)
    go rest false is = ap (λ o. if b.0 == other then Some b.1 else o) rest
    go rest true is =
        rest ∙ ap (λ t. if t then Some b.1 else lookup other bs)
        (sym (ne_eqb b.0 other (λ e. ne (sym e ∙ eqb-true b.0 name is))))

lookup-without_same : (name : ℕ) (bs : Names) → lookup name (without name bs) ≡ None
lookup-without_same name [] = refl
lookup-without_same name (b ∷ bs) = go (lookup-without_same name bs) (b.0 == name) refl
  where
    go : lookup name (without name bs) ≡ None → (t : Bool) → (b.0 == name) ≡ t
        → lookup name (if not t then b ∷ without name bs else without name bs) ≡ None
    go rest true is = rest
    go rest false is = ap (λ t. if t then Some b.1 else lookup name (without name bs)) is ∙ rest

lookup-bind_same : (name : ℕ) (b : Bound) (bs : Names) → lookup name (bind name b bs) ≡ Some b
lookup-bind_same name b bs =
    ap (λ t. if t then Some b else lookup name (without name bs)) (eq-eqb name name refl)

lookup-bind_other : (name other : ℕ) (b : Bound) (bs : Names) → other ≢ name
    → lookup other (bind name b bs) ≡ lookup other bs
lookup-bind_other name other b bs ne =
    ap (λ t. if t then Some b else lookup other (without name bs)) (ne_eqb name other (λ e. ne (sym e)))
    ∙ lookup-without_other name other bs ne

module _ (bs : Names) (names : List (Option Bound)) (are : NamesAre bs names) (name : ℕ) where
  -- a name is bound
  pub NamesAre-bind : (b : Bound) → name < length names → NamesAre (bind name b bs) (slice_set names name (Some b))
  NamesAre-bind b lt other = ⊎_elim same different (cases_eq other name)
    where
      same : other ≡ name → lookup other (bind name b bs) ≡ bound_at (slice_set names name (Some b)) other
      same e =
          subst (λ n. lookup n (bind name b bs) ≡ bound_at (slice_set names name (Some b)) n) (sym e)
          (lookup-bind_same name b bs ∙ sym (bound_at-set_same names name (Some b) lt))

      different : other ≢ name → lookup other (bind name b bs) ≡ bound_at (slice_set names name (Some b)) other
      different ne =
          lookup-bind_other name other b bs ne ∙ are other ∙ sym (bound_at-set_other names name other (Some b) ne)

  -- a name is bound to what it was bound to
  pub NamesAre-again : (b : Bound) → bound_at names name ≡ Some b → NamesAre bs (slice_set names name (Some b))
  NamesAre-again b is other = ⊎_elim same different (cases_eq other name)
    where
      same : other ≡ name → lookup other bs ≡ bound_at (slice_set names name (Some b)) other
      same e =
          subst (λ n. lookup n bs ≡ bound_at (slice_set names name (Some b)) n) (sym e)
          (are name ∙ is ∙ sym (bound_at-set_same names name (Some b) (bound_within names name b is)))

      different : other ≢ name → lookup other bs ≡ bound_at (slice_set names name (Some b)) other
      different ne = are other ∙ sym (bound_at-set_other names name other (Some b) ne)

  -- a name is unbound
  pub NamesAre-unbound : name < length names → NamesAre (without name bs) (slice_set names name None)
  NamesAre-unbound lt other = ⊎_elim same different (cases_eq other name)
    where
      same : other ≡ name → lookup other (without name bs) ≡ bound_at (slice_set names name None) other
      same e =
          subst (λ n. lookup n (without name bs) ≡ bound_at (slice_set names name None) n) (sym e)
          (lookup-without_same name bs ∙ sym (bound_at-set_same names name None lt))

      different : other ≢ name → lookup other (without name bs) ≡ bound_at (slice_set names name None) other
      different ne =
          lookup-without_other name other bs ne ∙ are other ∙ sym (bound_at-set_other names name other None ne)

  -- the composite of a name is changed
  pub NamesAre-changed : (change : Composite → Composite) (c : Composite) → bound_at names name ≡ Some (Composed c)
      → NamesAre (changed change name bs) (slice_set names name (Some (Composed (change c))))
  NamesAre-changed change c is =
      subst (λ o. NamesAre (rebound change name bs (option_and_then composite_in o))
      (slice_set names name (Some (Composed (change c))))) (sym (are name ∙ is))
      (NamesAre-bind (Composed (change c)) (bound_within names name (Composed c) is))

-- ---- How far they reach.

-- parts that lie in what is known lie in what is known later
pub parts_later : (known later : RootId → ℕ) → ((r : RootId) → known r ≤ later r) → (parts : List Part)
    → All (IsInRoot known) parts → All (IsInRoot later) parts
parts_later known later up parts inside =
    All-weaker (IsInRoot known) (IsInRoot later)
    (λ (p : Part) (is : IsInRoot known p). (let a = up p.root in omega (arith, a, is))) parts inside

-- so does what names are bound to
inside_on : (known later : RootId → ℕ) → ((r : RootId) → known r ≤ later r) → (b : Bound) → IsInside known b
    → IsInside later b
inside_on known later up (Plain v) inside = let a = up v.root in omega (arith, a, inside)
inside_on known later up (Composed c) inside = parts_later known later up c.parts inside

pub inside_later : (known later : RootId → ℕ) → ((r : RootId) → known r ≤ later r) → (names : List (Option Bound))
    → AreInside known names → AreInside later names
inside_later known later up names are =
    record { each = λ name b bound. inside_on known later up b (are.each name b bound) }

-- one of them is bound to something else, that lies in what is known
inside_set : (known : RootId → ℕ) (names : List (Option Bound)) (name : ℕ) (o : Option Bound) → name < length names
    → ((b : Bound) → o ≡ Some b → IsInside known b) → AreInside known names → AreInside known (slice_set names name o)
inside_set known names name o lt inside are =
    record { each = λ other b bound. ⊎_elim (same other b bound) (different other b bound) (cases_eq other name) }
  where
    same : (other : ℕ) (b : Bound) → bound_at (slice_set names name o) other ≡ Some b → other ≡ name
        → IsInside known b
    same other b bound e =
        inside b (sym (bound_at-set_same names name o lt)
        ∙ subst (λ n. bound_at (slice_set names name o) n ≡ Some b) e bound)

    different : (other : ℕ) (b : Bound) → bound_at (slice_set names name o) other ≡ Some b → other ≢ name
        → IsInside known b
    different other b bound ne = are.each other b (sym (bound_at-set_other names name other o ne) ∙ bound)

-- so where it is bound to that
inside_of : (known : RootId → ℕ) (x : Bound) → IsInside known x → (b : Bound) → Some x ≡ Some b → IsInside known b
inside_of known x inside b is = let same : x ≡ b = cc is in subst (IsInside known) same inside

-- ---- The composites among them.

-- a composite that a name may be bound to, where the lane makes some, with a count of at most this
pub record IsAllowed (composes : Bool) (most : ℕ) (c : Composite) : Type 0 where
  pub composes_some : composes ≡ false → ⊥
  pub few : c.count ≤ most
  pub formed : IsFormed c

-- the names are as many, and those of composites are bound to such as are allowed, with a count that
-- is more by at most this; and where all lay in what is known of the roots, all lie there
pub record Rebound (known : RootId → ℕ) (composes : Bool) (most up : ℕ) (old new : List (Option Bound)) : Type 0 where
  pub count : length new ≡ length old
  pub composites : AreComposites composes most old → (name : ℕ) (c : Composite)
      → bound_at new name ≡ Some (Composed c) → IsAllowed composes (most + up) c
  pub inside : AreInside known old → AreInside known new

-- so the names of a context may be bound, by what a seat knows then
abbrev pub RebindsAt : ℕ → Context → PoolSeat → List (Option Bound) → Type 0
RebindsAt up d seat names = Rebound (known_to seat) d.composes (1 + length d.replies.items) up d.names names

-- a composite that a name was bound to is allowed
was_allowed : (composes : Bool) (most up : ℕ) (old : List (Option Bound)) → AreComposites composes most old
    → (name : ℕ) (c : Composite) → bound_at old name ≡ Some (Composed c) → IsAllowed composes (most + up) c
was_allowed composes most up old are name c is = record {
  composes_some = λ none. are.unmixed none name c is;
  few = (let a = are.few name c is in omega (arith, a));
  formed = are.formed name c is;
}

module _ {known : RootId → ℕ} {composes : Bool} {most : ℕ} (up : ℕ) (old new : List (Option Bound)) where
  module _ (is : new ≡ old) where
    -- they are the same
    pub rebound_same : Rebound known composes most up old new
    rebound_same = record {
      count = ap (λ (names : List (Option Bound)). length names) is;
      composites = λ are name c bound.
          was_allowed composes most up old are name c
          (subst (λ (names : List (Option Bound)). bound_at names name ≡ Some (Composed c)) is bound);
      inside = λ are. subst (AreInside known) (sym is) are;
    }

    module _ (name : ℕ) (lt : name < length old) where
      -- one of them is bound to something else, that is allowed where it is a composite
      rebound_set : (o : Option Bound)
          → (AreComposites composes most old → (c : Composite) → o ≡ Some (Composed c)
          → IsAllowed composes (most + up) c)
          → (AreInside known old → (b : Bound) → o ≡ Some b → IsInside known b)
          → Rebound known composes most up old (slice_set new name o)
      rebound_set o allowed lies = record {
        count = slice_set-length new name o ∙ ap (λ (names : List (Option Bound)). length names) is;
        composites = λ are other c bound.
            ⊎_elim (same are other c bound) (different are other c bound) (cases_eq other name);
        inside = λ are.
            inside_set known new name o (subst (λ (names : List (Option Bound)). name < length names) (sym is) lt)
            (lies are) (subst (AreInside known) (sym is) are);
      }
        where
          same : AreComposites composes most old → (other : ℕ) (c : Composite)
              → bound_at (slice_set new name o) other ≡ Some (Composed c) → other ≡ name
              → IsAllowed composes (most + up) c
          same are other c bound e =
              allowed are c (sym (bound_at-set_same new name o
              (subst (λ (names : List (Option Bound)). name < length names) (sym is) lt))
              ∙ subst (λ n. bound_at (slice_set new name o) n ≡ Some (Composed c)) e bound)

          different : AreComposites composes most old → (other : ℕ) (c : Composite)
              → bound_at (slice_set new name o) other ≡ Some (Composed c) → other ≢ name
              → IsAllowed composes (most + up) c
          different are other c bound ne =
              rebound_same.composites are other c (sym (bound_at-set_other new name other o ne) ∙ bound)

      -- it is bound to a view that lies in what is known
      pub rebound_view : (v : ViewData) → LiesIn (known v.root) v
          → Rebound known composes most up old (slice_set new name (Some (Plain v)))
      rebound_view v lies =
          rebound_set (Some (Plain v)) (λ are c is_one. absurd (cc is_one)) (λ are. inside_of known (Plain v) lies)

      pub rebound_none : Rebound known composes most up old (slice_set new name None)
      rebound_none = rebound_set None (λ are c is_one. absurd (cc is_one)) (λ are b is_one. absurd (cc is_one))

      -- one is bound to a composite that is allowed
      rebound_to : (c : Composite) → (AreComposites composes most old → IsAllowed composes (most + up) c)
          → (AreInside known old → All (IsInRoot known) c.parts)
          → Rebound known composes most up old (slice_set new name (Some (Composed c)))
      rebound_to c allowed lies =
          rebound_set (Some (Composed c))
          (λ are other same. subst (IsAllowed composes (most + up)) (ap composite_of_name same) (allowed are))
          (λ are. inside_of known (Composed c) (lies are))
        where
          composite_of_name : Option Bound → Composite
          composite_of_name (Some (Composed x)) = x
          composite_of_name (Some (Plain v)) = c
          composite_of_name None = c

      -- one is bound to a new composite
      pub rebound_composite : (c : Composite) → composes ≡ true → c.count ≤ most + up → IsFormed c
          → All (IsInRoot known) c.parts → Rebound known composes most up old (slice_set new name (Some (Composed c)))
      rebound_composite c some few formed lies =
          rebound_to c (λ are. record { composes_some = λ none. absurd (cc (some, none)); few = few; formed = formed })
          (λ are. lies)

    module _ (name : ℕ) (c : Composite) (bound : bound_at old name ≡ Some (Composed c)) where
      -- a composite has another count
      pub rebound_count : (count : ℕ) → count ≤ c.count + up
          → Rebound known composes most up old (slice_set new name (Some (Composed (record c { count = count }))))
      rebound_count count le =
          rebound_to name (bound_within old name (Composed c) bound) (record c { count = count }) (λ are. record {
            composes_some = λ none. are.unmixed none name c bound;
            few = (let a = are.few name c bound in omega (arith, a, le));
            formed = (let f = are.formed name c bound in record {
              marked = record { reader = f.marked.reader; writer = f.marked.writer };
              parts = f.parts;
            });
          }) (λ are. are.each name (Composed c) bound)

      -- a composite has its reader and its writer elsewhere in it
      pub rebound_marks : (marks : Marks) → marks.reader ≤ marks.writer → marks.writer ≤ size_of c.parts
          → Rebound known composes most up old (slice_set new name (Some (Composed (set_marks marks c))))
      rebound_marks marks reader writer =
          rebound_to name (bound_within old name (Composed c) bound) (set_marks marks c) (λ are. record {
            composes_some = λ none. are.unmixed none name c bound;
            few = (let a = are.few name c bound in omega (arith, a));
            formed = (let f = are.formed name c bound in record {
              marked = record { reader = reader; writer = writer };
              parts = f.parts;
            });
          }) (λ are. are.each name (Composed c) bound)

-- so their composites stay those of the lane, with replies enough
pub composites_kept : (known : RootId → ℕ) (composes : Bool) (most more up : ℕ) (old new : List (Option Bound))
    → most + up ≤ more → AreComposites composes most old → Rebound known composes most up old new
    → AreComposites composes more new
composites_kept known composes most more up old new le are r = record {
  unmixed = λ none name c bound. (let is = r.composites are name c bound in is.composes_some none);
  few = λ name c bound. (let is = r.composites are name c bound in let a = is.few in omega (arith, a, le));
  formed = λ name c bound. (let is = r.composites are name c bound in is.formed);
}

pub rebound_more : {known : RootId → ℕ} {composes : Bool} {most : ℕ} (old new : List (Option Bound))
    → Rebound known composes most 0 old new → Rebound known composes most 1 old new
rebound_more old new r = record {
  count = r.count;
  composites = λ are name c bound. (let was = r.composites are name c bound in record {
    composes_some = was.composes_some;
    few = (let a = was.few in omega (arith, a));
    formed = was.formed;
  });
  inside = r.inside;
}
