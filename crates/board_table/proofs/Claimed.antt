-- A claim keeps the rule: it gets into a section where no view is, or finds another view there.
use Rattle.std.proofs.Common.{◌≡◌, ◌≢◌, ℕ, ◌+◌, ◌*◌, ◌/◌, ◌<◌, ◌≤◌, List, length, set, Bool, true, false, cond, eqb, sym, refl, ap, ◌∙◌, subst, arith, le_refl, length-set, get_or-set_same, get_or-set_other, eq-eqb, ne_eqb}
use Rattle.std.specs.Prelude.{Option, Some, None, IfSome, slice_index, bit_or}
use Rattle.std.proofs.lemmas.Bool.{eqb-true}
use Rattle.std.proofs.lemmas.List.{set-get_or}
use mathlib.Core.Logic.{dite}
use native.Mathlib.Decide.{ℕ_discrete}
use mathlib.Core.Option.{some, none, some-injective}
use lib.ListN.{get_elem?}
use Rattle.atomic_table.specs.Table.{State, Me, step, keeps, takes, Allows}
use Rattle.atomic_table.proofs.Lists.{set_else, set_again}
use Rattle.step_law.proofs.Changes.{each_at, each_set, sum_at, sum_two, sum_same}
use Rattle.step_law.proofs.LowestBit.{or_even, or_odd}
use Rattle.board_table.specs.declared.views.Stake.{Stake}
use Rattle.board_table.specs.declared.views.Inside.{Inside}
use Rattle.board_table.specs.declared.views.BoardView.{BoardView}
use Rattle.board_table.specs.declared.views.Opening.{Opening}
use Rattle.board_table.specs.Views.{stake_of, total, inside_total, is_at, is_in, turns_left, entered}
use Rattle.board_table.specs.Sound.{IsSound, IsView, Knows, section_word, count_word, WasHeld}
use Rattle.board_table.specs.Steps.{claims}
use Rattle.board_table.specs.Seats.{MayEnter}
use Rattle.board_table.specs.Sections.{StandsFor}
use Rattle.board_table.proofs.Totals.{adds, inside, total_same}
use Rattle.board_table.proofs.Changes.{changes}
use Rattle.board_table.proofs.CountSteps.{one_counts}

-- the section that a view is in
pub section_at : (k : ℕ) (y : Option Inside) → 0 < is_at k y → (x : Inside) × (y ≡ Some x) × (x.composite ≡ k)
section_at k None p = absurd (omega (arith, p))
section_at k (Some x) p = cases (eqb x.composite k) refl p
  where
    cases : (b : Bool) → eqb x.composite k ≡ b → 0 < cond {A = ℕ} b 1 0
        → (z : Inside) × (Some x ≡ Some z) × (z.composite ≡ k)
    cases true e p = (x, refl, eqb-true x.composite k e)
    cases false e p = absurd (omega (arith, p))

pub is_at_own : (k n t : ℕ) → is_at k (Some (record { composite = k; number = n; turns = t })) ≡ 1
is_at_own k n t = ap (λ (b : Bool). cond {A = ℕ} b 1 0) (eq-eqb k k refl)

pub is_at_other : (k j n t : ℕ) → j ≢ k → is_at j (Some (record { composite = k; number = n; turns = t })) ≡ 0
is_at_other k j n t ne = ap (λ (b : Bool). cond {A = ℕ} b 1 0) (ne_eqb k j (λ e. ne (sym e)))

module _ {H T : Type 0} (stands : T → ℕ → H → Type 0) (left : H → ℕ) (o : Opening T) where
  abbrev pub St : Type 0
  St = State (Option H) BoardView

  -- where a view may enter, the core wasn't taken; and with a mark nobody counts it and no other has a mark
  pub not_taken : (s : St) (r : IsSound stands left o s) (id k : ℕ) (v : BoardView) → k < o.composites
      → get_elem? s.views id ≡ some v → MayEnter k v → (total k s.views).taken ≡ 0
  not_taken s r id k v lt at may =
      let c = r.composites k lt in let a = one_counts stands left o (λ (x : Stake). x.counts) k s.views id v at in
      let b = one_counts stands left o (λ (x : Stake). x.marks) k s.views id v at in
      let n : ℕ = (stake_of k v).counts in let m : ℕ = (stake_of k v).marks in let tc : ℕ = (total k s.views).counts in
      let tm : ℕ = (total k s.views).marks in let tk : ℕ = (total k s.views).taken in
      let a' : n ≤ tc = a in let b' : m ≤ tm = b in let has : 0 < n + m = may in
      dite (ℕ_discrete tc 0)
      (λ z. let e : tm + tk ≡ 1 = c.ended z in let goal : tk ≡ 0 = omega (arith, a', b', has, z, e) in goal)
      (λ ne. let e : tm + tk ≡ 0 = c.counted (omega (arith, ne)) in let goal : tk ≡ 0 = omega (arith, e) in goal)

  -- a view with the mark and another one that may enter
  never_two : (s : St) (r : IsSound stands left o s) (i j k : ℕ) (v u : BoardView) → k < o.composites → i ≢ j
      → get_elem? s.views i ≡ some v → get_elem? s.views j ≡ some u → 0 < (stake_of k v).marks → MayEnter k u → ⊥
  never_two s r i j k v u lt ne at bt mark may =
      let c = r.composites k lt in let a = one_counts stands left o (λ (x : Stake). x.counts) k s.views j u bt in
      let b = sum_two (λ (w : BoardView). (stake_of k w).marks) s.views i j v u ne at bt in
      let n : ℕ = (stake_of k u).counts in let m : ℕ = (stake_of k u).marks in let m' : ℕ = (stake_of k v).marks in
      let tc : ℕ = (total k s.views).counts in let tm : ℕ = (total k s.views).marks in let tk : ℕ =
      (total k s.views).taken in
      let a' : n ≤ tc = a in let b' : m' + m ≤ tm = b in let has : 0 < n + m = may in let mark' : 0 < m' = mark in
      dite (ℕ_discrete tc 0)
      (λ z. let e : tm + tk ≡ 1 = c.ended z in omega (arith, a', b', has, mark', z, e))
      (λ nz. let e : tm + tk ≡ 0 = c.counted (omega (arith, nz)) in omega (arith, b', mark', e))

  -- what holds of a view in a section
  pub inside_may : (s : St) (r : IsSound stands left o s) (j k : ℕ) (u : BoardView) (x : Inside)
      → get_elem? s.views j ≡ some u → u.inside ≡ Some x → x.composite ≡ k → MayEnter k u × (0 < u.turns)
  inside_may s r j k u x bt e ke =
      let fine = each_at IsView s.views j u r.views bt in
      let f = subst (λ (y : Option Inside). IfSome y (λ (x : Inside). (0 < (stake_of x.composite u).counts
      + (stake_of x.composite u).marks) × (0 < u.turns))) e fine.inside in
      (subst (λ (n : ℕ). MayEnter n u) ke f.0, f.1)

  -- another view is in the section
  was_held : (holds : St → Type 0) (tells : (s : St) → IsSound stands left o s → holds s) (s : St)
      (r : IsSound stands left o s) (id k : ℕ) (v : BoardView) → k < o.composites → get_elem? s.views id ≡ some v
      → v.inside ≡ None → 0 < inside_total k s.views
      → WasHeld holds k (total k s.views).sections v × ((stake_of k v).marks ≡ 0)
  was_held holds tells s r id k v lt at out some_in =
      let b = adds (is_in k) s.views some_in in let j : ℕ = b.0 in let u : BoardView = b.1 in
      let ne : j ≢ id = (λ same. let uv : u ≡ v = some-injective u v
      (sym b.2 ∙ ap (λ (n : ℕ). get_elem? s.views n) same ∙ at) in
      let z : is_at k u.inside ≡ 0 = ap (λ (y : BoardView). is_at k y.inside) uv ∙ ap (is_at k) out in let p = b.3 in
      let q : ℕ = is_at k u.inside in let z' : q ≡ 0 = z in let p' : 0 < q = p in omega (arith, z', p')) in
      let x = section_at k u.inside b.3 in
      let knows = subst (λ (y : Option Inside). IfSome y (λ (x : Inside).
      (x.number ≡ (total x.composite s.views).sections) × (turns_left s.views ≤ x.turns))) x.1
      (each_at (Knows s.views) s.views j u r.knows b.2) in
      let may = inside_may s r j k u x.0 b.2 x.1 x.2 in (
        record {
          moment = s;
          sound = tells s r;
          seat = id;
          view = at;
          other = j;
          apart = ne;
          holder = u;
          holds_it = b.2;
          section = x.0;
          inside = x.1;
          composite = x.2;
          number = knows.0 ∙ ap (λ (n : ℕ). (total n s.views).sections) x.2;
        },
        dite (ℕ_discrete (stake_of k v).marks 0) (λ z. z)
            (λ nz. absurd (never_two s r id j k v u lt (λ e. ne (sym e)) at b.2 (let m : ℕ = (stake_of k v).marks in
            let nz' : m ≢ 0 = nz in let goal : 0 < m = omega (arith, nz') in goal) may.0)),
      )

  module _ (id : ℕ) (me : Me (Option H) BoardView) (k : ℕ) (lt : k < o.composites) (may : MayEnter k me.0)
      (out : me.0.inside ≡ None) (turn : 0 < me.0.turns) where
    abbrev pub v : BoardView
    v = me.0

    -- the board once the view is in the section
    gets_in : (s : St) (r : IsSound stands left o s) → get_elem? s.views id ≡ some v → inside_total k s.views ≡ 0
        → IsSound stands left o (record {
          words = set s.words (section_word k) (bit_or (slice_index s.words (section_word k)) 1);
          homes = set s.homes k none;
          views = set s.views id (entered k (total k s.views).sections (turns_left s.views) v);
        })
    gets_in s r at z =
        let n : ℕ = (total k s.views).sections in let t : ℕ = turns_left s.views in let w = entered k n t v in
        let c = r.composites k lt in let word : ℕ = slice_index s.words (section_word k) in
        let now : ℕ = bit_or word 1 in let new = set s.views id w in
        let even : word ≡ 2 * n =
        (let e : word ≡ 2 * n + inside_total k s.views = c.section_is in omega (arith, e, z)) in
        let up : now ≡ word + 1 = or_even word n even in
        let in_words : section_word k < length s.words = (let e = r.words in omega (arith, e, lt)) in
        let out_k : is_in k v ≡ 0 = ap (is_at k) out in
        let one : inside_total k new ≡ 1 = (let a = inside s.views id v w at k in let b = is_at_own k n t in
        let p : ℕ = inside_total k new in let q : ℕ = inside_total k s.views in let i : ℕ = is_in k v in let i' : ℕ =
        is_in k w in let a' : p + i ≡ q + i' = a in let b' : i' ≡ 1 = b in let c' : i ≡ 0 = out_k in let z' : q ≡ 0 = z
        in let goal : p ≡ 1 = omega (arith, a', b', c', z') in goal) in
        let same : (j : ℕ) → total j new ≡ total j s.views = (λ j. total_same s.views id v w at j refl) in
        let same_turns : turns_left new ≡ t = sum_same (λ (u : BoardView). u.turns) s.views id v w at refl in
        let fine = each_at IsView s.views id v r.views at in
        changes stands left o s r id v w k (section_word k) now (set s.homes k none) at (λ j ne. refl)
        (λ j ne. is_at_other k j n t ne ∙ sym (ap (is_at j) out)) (le_refl v.turns)
        (λ j ne. ((λ e. ne (omega (arith, e))), (λ e. omega (arith, e))))
        (record { inside = (may, turn); taken = fine.taken })
        (each_set (Knows s.views) (Knows new) s.views id w r.knows
        (λ j u ne there knows. others new same same_turns u.inside knows) (
          ap (λ (y : Stake). y.sections) (sym (same k)),
          (let goal : turns_left new ≤ t = omega (arith, same_turns) in
              goal),
        ))
        (length-set s.homes k none) (λ j ne. set_else s.homes k j none ne) refl refl
        (record {
          section_is = let e = get_or-set_same s.words (section_word k) now 0 in_words in
              let f : (total k new).sections ≡ n = ap (λ (y : Stake). y.sections) (same k) in
              let a : ℕ = slice_index (set s.words (section_word k) now) (section_word k) in let b : ℕ =
              (total k new).sections in let p : ℕ = inside_total k new in let e' : a ≡ now = e in let f' : b ≡ n = f in
              let one' : p ≡ 1 = one in let goal : a ≡ 2 * b + p = omega (arith, e', f', one', up, even) in goal;
          alone = omega (arith, one);
          count_is = get_or-set_other s.words (section_word k) (count_word k) now 0 (λ e. omega (arith, e)) ∙ c.count_is
              ∙ sym (ap (λ (y : Stake). y.counts) (same k));
          few = subst (λ (y : Stake). y.counts ≤ 1 + y.retained) (sym (same k)) c.few;
          ended = subst (λ (y : Stake). y.counts ≡ 0 → y.marks + y.taken ≡ 1) (sym (same k)) c.ended;
          counted = subst (λ (y : Stake). 0 < y.counts → y.marks + y.taken ≡ 0) (sym (same k)) c.counted;
          home_is = λ zero here. absurd (omega (arith, one, zero));
          empty = λ zero gone. absurd (omega (arith, one, zero));
        })
      where
        others : (new : List BoardView) → ((j : ℕ) → total j new ≡ total j s.views)
            → turns_left new ≡ turns_left s.views → (y : Option Inside)
            → IfSome y (λ (x : Inside). (x.number ≡ (total x.composite s.views).sections)
            × (turns_left s.views ≤ x.turns))
            → IfSome y (λ (x : Inside). (x.number ≡ (total x.composite new).sections) × (turns_left new ≤ x.turns))
        others new same turns None k = tt
        others new same turns (Some x) k = (
          k.0 ∙ sym (ap (λ (y : Stake). y.sections) (same x.composite)),
          subst (λ (n : ℕ). n ≤ x.turns) (sym turns) k.1,
        )

    pub claims_allowed : (holds : St → Type 0) → ((s : St) → IsSound stands left o s → holds s)
        → (Fits : H → ℕ → Type 0) → ((x : H) (turns : ℕ) → StandsFor stands left o k turns x → Fits x turns)
        → Allows (IsSound stands left o) o.composites id me (section_word k) (λ n. bit_or n 1)
        (claims holds Fits k (step o.composites (section_word k) 1 0 none) me)
    claims_allowed holds tells Fits suits s r _ at under =
        let word : ℕ = slice_index s.words (section_word k) in let c = r.composites k lt in
        let n : ℕ = (total k s.views).sections in let i : ℕ = inside_total k s.views in
        let is : word ≡ 2 * n + i = c.section_is in let le : i ≤ 1 = c.alone in
        dite (ℕ_discrete i 0)
        (λ z. let h = c.home_is z (not_taken s r id k v lt at may) in let x : H = h.0 in
        let even : word ≡ 2 * n = omega (arith, is, z) in (
          entered k n (turns_left s.views) v,
          takes k (Some x),
          h.1,
          gets_in s r at z,
          (
            (λ e. record {
              number = n;
              turns = turns_left s.views;
              home = x;
              found_is = even;
              is = refl;
              fits = suits x (turns_left s.views) (record { stands_for = h.2; reserved = h.3 });
              own = sum_at (λ (u : BoardView). u.turns) s.views id v at;
              was_free = record {
                moment = s;
                sound = tells s r;
                seat = id;
                view = at;
                free = z;
                number = refl;
                home_is = h.1;
              };
            }),
            (λ e. absurd (omega (arith, even, e))),
          ),
        ))
        (λ nz. let one : i ≡ 1 = omega (arith, nz, le) in let odd : word ≡ 2 * n + 1 = omega (arith, is, one) in
        let some_in : 0 < i = omega (arith, one) in let held = was_held holds tells s r id k v lt at out some_in in
        let half : word / 2 ≡ n = omega (arith, odd) in (
          v,
          keeps,
          tt,
          subst (IsSound stands left o)
              (λ j. record {
                words = (sym (set-get_or s.words (section_word k) 0)
                    ∙ ap (set s.words (section_word k)) (sym (or_odd word n odd))) j;
                homes = s.homes;
                views = sym (set_again s.views id v at) j;
              }) r,
          (
            (λ e. absurd (omega (arith, odd, e))),
            (λ e. (refl, held.1, subst (λ (m : ℕ). WasHeld holds k m v) (sym half) held.0)),
          ),
        ))
