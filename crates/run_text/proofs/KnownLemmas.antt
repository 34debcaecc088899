-- What lines say, and maps that know it.
use Rattle.std.proofs.Common.{◌≡◌, ℕ, zero, suc, ◌<◌, ◌≢◌, Bool, true, false, cond, List, [], ◌∷◌, ◌++◌, Option, Some, None, Result, Ok, Err, refl, sym, ap, ◌∙◌, arith, inl, inr}
use Rattle.std.specs.Prelude.{OnOk}
use Rattle.std.specs.Option.{IsSome, option_map, option_or}
use Rattle.std.specs.Cmp.{nat_cmp_is, ranks}
use Rattle.std.specs.declared.cmp.Ordering.{Ordering}
use Rattle.std.specs.declared.cmp.Ordering.TheVariants.{Less, Equal, Greater}
use Rattle.std.specs.Ordering.{is_eq, nat_cmp, ordering_then}
use Rattle.std.proofs.lemmas.Bool.{cases_eq, ne_eqb}
use Rattle.pool_law.specs.declared.id.RegionId.{RegionId}
use Rattle.pool_law.specs.declared.id.RootId.{RootId}
use Rattle.pool_law.specs.declared.note.Note.{Note}
use Rattle.pool_law.proofs.NumberLemmas.{is_eq-nat}
use Rattle.run_text.specs.Lines.{Begun, Line, begun, begun_before, born, keyed, last, last_begun, last_born, last_taken, last_use, root_key, same_key, taken, taking_key}
use Rattle.run_text.specs.Told.{use_told}
use Rattle.run_text.specs.Knowing.{key_cmp, use_of}
use Rattle.run_text.specs.declared.known.Use.{Use}

-- ---- Results.

pub same_some : {X : Type 0} (o : Option X) (x y : X) → o ≡ Some x → o ≡ Some y → x ≡ y
same_some o x y e f = cc

pub not_none : {X : Type 0} (o : Option X) (x : X) → o ≡ None → o ≡ Some x → ⊥
not_none o x e f = cc

pub map_none : {X Y : Type 0} (f : X → Y) (o : Option X) → None ≡ option_map f o → o ≡ None
map_none f None e = refl
map_none f (Some x) e = absurd (cc)

pub none_or_some : {X : Type 0} (o : Option X) → (IsSome o → ⊥) → o ≡ None
none_or_some None h = refl
none_or_some (Some x) h = absurd (h refl)

-- what holds where there is a result
pub when_ok : {X E : Type 0} (r : Result X E) (P : Type 0) → ((x : X) → r ≡ Ok x → P) → OnOk r P
when_ok (Ok x) P h = h x refl
when_ok (Err e) P h = tt

-- ---- One more line.

or-none : {X : Type 0} (o : Option X) → option_or o None ≡ o
or-none None = refl
or-none (Some x) = refl

or-assoc : {X : Type 0} (a b c : Option X) → option_or (option_or a b) c ≡ option_or a (option_or b c)
or-assoc None b c = refl
or-assoc (Some x) b c = refl

-- it is the last
pub last-push : {X : Type 0} (says : Line → Option X) (lines : List Line) (line : Line)
    → last says (lines ++ line ∷ []) ≡ option_or (says line) (last says lines)
last-push says [] line = sym (or-none (says line))
last-push says (x ∷ lines) line =
    ap (λ o. option_or o (says x)) (last-push says lines line) ∙ or-assoc (says line) (last says lines) (says x)

module _ (lines : List Line) (lane : ℕ) (note : Note) (key : ℕ × ℕ) where
  pub more_taken : (o : Option RegionId) → taken note ≡ o
      → last_taken (lines ++ (lane, note) ∷ []) key ≡ option_or (keyed taking_key key o) (last_taken lines key)
  more_taken o e =
      last-push (λ line. keyed taking_key key (taken line.1)) lines (lane, note)
      ∙ ap (λ (x : Option RegionId). option_or (keyed taking_key key x) (last_taken lines key)) e

  pub more_born : (o : Option RootId) → o ≡ born note
      → option_or (keyed root_key key o) (last_born lines key) ≡ last_born (lines ++ (lane, note) ∷ []) key
  more_born o e =
      ap (λ (x : Option RootId). option_or (keyed root_key key x) (last_born lines key)) e
      ∙ sym (last-push (λ line. keyed root_key key (born line.1)) lines (lane, note))

-- ---- Maps.

-- what a map has once this was put in at its key is what the last line says
pub put_this : {X : Type 0} (key : X → ℕ × ℕ) (q : ℕ × ℕ) (x : X) (k : ℕ × ℕ) (old new o : Option X) → k ≡ key x
    → new ≡ cond (same_key k q) (Some x) old → old ≡ o → new ≡ option_or (keyed key q (Some x)) o
put_this key q x k old new o is e was =
    e ∙ (λ i. cond (same_key (is i) q) (Some x) (was i)) ∙ go (same_key (key x) q)
  where
    go : (b : Bool) → cond b (Some x) o ≡ option_or (cond b (Some x) None) o
    go true = refl
    go false = refl

-- what the line of a birth or a growth tells
abbrev pub told_of : Begun → ℕ × ℕ × RegionId
told_of b = (b.0.0, b.0.1, use_told b.1)

-- the uses that are put in by what a line tells are those of the note
uses_put : (key : ℕ × ℕ) (n : Option Begun) (o : Option Begun)
    → option_or (option_map (λ b. b.2.uses) (keyed (λ b. taking_key b.2) key (option_map told_of n)))
    (option_map (λ b. b.1.uses) o)
    ≡ option_map (λ b. b.1.uses) (option_or (keyed (λ b. taking_key b.1) key n) o)
uses_put key None o = refl
uses_put key (Some b) o = go (same_key (taking_key b.1) key)
  where
    go : (t : Bool)
        → option_or (option_map (λ b. b.2.uses) (cond t (Some (told_of b)) None)) (option_map (λ b. b.1.uses) o)
        ≡ option_map (λ b. b.1.uses) (option_or (cond t (Some b) None) o)
    go true = refl
    go false = refl

begun_put : (key : ℕ × ℕ) (n : Option Begun) (o : Option Begun)
    → option_or (option_map (λ b. use_of b.2) (keyed (λ b. (b.0, b.1)) key (option_map told_of n)))
    (option_map (λ b. use_of b.1) o)
    ≡ option_map (λ b. use_of b.1) (option_or (keyed (λ b. b.0) key n) o)
begun_put key None o = refl
begun_put key (Some b) o = go (same_key b.0 key)
  where
    go : (t : Bool)
        → option_or (option_map (λ b. use_of b.2) (cond t (Some (told_of b)) None)) (option_map (λ b. use_of b.1) o)
        ≡ option_map (λ b. use_of b.1) (option_or (cond t (Some b) None) o)
    go true = refl
    go false = refl

module _ (lines : List Line) (lane : ℕ) (note : Note) (key : ℕ × ℕ) where
  pub more_uses : option_or
      (option_map (λ b. b.2.uses) (keyed (λ b. taking_key b.2) key (option_map told_of (begun note))))
      (option_map (λ b. b.1.uses) (last_use lines key))
      ≡ option_map (λ b. b.1.uses) (last_use (lines ++ (lane, note) ∷ []) key)
  more_uses =
      uses_put key (begun note) (last_use lines key)
      ∙ ap (λ (o : Option Begun). option_map (λ b. b.1.uses) o)
      (sym (last-push (λ line. keyed (λ b. taking_key b.1) key (begun line.1)) lines (lane, note)))

  pub more_begun : option_or
      (option_map (λ b. use_of b.2) (keyed (λ b. (b.0, b.1)) key (option_map told_of (begun note))))
      (option_map (λ b. use_of b.1) (last_begun lines key))
      ≡ option_map (λ b. use_of b.1) (last_begun (lines ++ (lane, note) ∷ []) key)
  more_begun =
      begun_put key (begun note) (last_begun lines key)
      ∙ ap (λ (o : Option Begun). option_map (λ b. use_of b.1) o)
      (sym (last-push (λ line. keyed (λ b. b.0) key (begun line.1)) lines (lane, note)))

-- ---- What began last before a note.

-- the order of keys
pub less_there : (place m n : ℕ) → m < n → key_cmp (place, m) (place, n) ≡ Less
less_there place m n low =
    ap (λ (o : Ordering). ordering_then o (nat_cmp m n)) (sym (nat_cmp_is place place Equal refl))
    ∙ sym (nat_cmp_is m n Less low)

then_less : (a b : Ordering) → ordering_then a b ≡ Less → (is_eq a ≡ false) → a ≡ Less
then_less Less b e apart = refl
then_less Equal b e apart = absurd (cc)
then_less Greater b e apart = absurd (cc)

-- a lesser key of the same place has a lesser number
pub number_less : (k : ℕ × ℕ) (place n : ℕ) → key_cmp k (place, n) ≡ Less → k.0 ≡ place → k.1 < n
number_less k place n e same =
    let less : nat_cmp k.1 n ≡ Less =
    ap (λ (o : Ordering). ordering_then o (nat_cmp k.1 n)) (nat_cmp_is k.0 place Equal same) ∙ e in
    rw less at (ranks k.1 n)

-- one of another place is less than all of this
pub other_less : (k : ℕ × ℕ) (place n : ℕ) → key_cmp k (place, n) ≡ Less → k.0 ≢ place → (m : ℕ)
    → key_cmp k (place, m) ≡ Less
other_less k place n e apart m =
    ap (λ (o : Ordering). ordering_then o (nat_cmp k.1 m))
    (then_less (nat_cmp k.0 place) (nat_cmp k.1 n) e (is_eq-nat k.0 place ∙ ne_eqb k.0 place apart))

-- nothing began before, where nothing began by a note of a lesser number
pub none_before : (lines : List Line) (place n : ℕ)
    → ((m : ℕ) → m < n → last_begun lines (place, m) ≡ None) → begun_before lines place n ≡ None
none_before lines place zero h = refl
none_before lines place (suc n) h =
    ap (λ (o : Option Begun). option_or o (begun_before lines place n)) (h n (omega arith))
    ∙ none_before lines place n (λ m low. h m (omega (arith, low)))

-- what began by the note of the greatest lesser number
pub some_before : (lines : List Line) (place n m : ℕ) (b : Begun) → m < n → last_begun lines (place, m) ≡ Some b
    → ((k : ℕ) → m < k → k < n → last_begun lines (place, k) ≡ None) → begun_before lines place n ≡ Some b
some_before lines place zero m b low is h = absurd (omega (arith, low))
some_before lines place (suc n) m b low is h =
    elim (cases_eq m n) [
      | inl same ↦
          ap (λ (o : Option Begun). option_or o (begun_before lines place n))
          (ap (λ k. last_begun lines (place, k)) (sym same) ∙ is)
      | inr apart ↦
          let less : m < n = omega (arith, low, apart) in
          ap (λ (o : Option Begun). option_or o (begun_before lines place n)) (h n less (omega arith))
          ∙ some_before lines place n m b less is (λ k over under. h k over (omega (arith, under)))
    ]

-- a use that is known is one that began
pub known_use : (o : Option Begun) (u : Use) → Some u ≡ option_map (λ b. use_of b.1) o
    → (b : Begun) × (o ≡ Some b) × (use_of b.1 ≡ u)
known_use None u e = absurd (cc)
known_use (Some b) u e = (b, refl, cc)
