-- What one accepted note does to an arena, as far as takings go.
use Rattle.std.proofs.Common.{◌≡◌, ℕ, ◌+◌, ◌<◌, List, [], ◌∷◌, ◌++◌, cond, Bool, true, false, sym, refl, ap, ◌∙◌, subst, arith, Some, None}
use Rattle.std.specs.Prelude.{⊤, ◌||◌, not, nat_lt, if◌then◌else◌, Option, option_map, count_by, filter}
use Rattle.std.specs.List.{list_any}
use Rattle.std.proofs.lemmas.Bool.{cond_both}
use Rattle.std.proofs.lemmas.List.Sums.{sum_by-cons}
use Rattle.size_classes.specs.Sizes.{Geometry, class_count}
use Rattle.pool_law.specs.declared.id.RegionId.{RegionId}
use Rattle.pool_law.specs.declared.note.Did.{Did}
use Rattle.pool_law.specs.declared.note.Did.TheVariants.{Take, Full, Give}
use Rattle.pool_law.specs.Same.{same_taking, same_region}
use Rattle.pool_law.specs.Arenas.{Arena as ArenaState, arena_step, take, take_class, noted_taking, region_of, as_noted, if_none, is_out_of, give}
use Rattle.pool_law.proofs.SameLemmas.{same_region-is}
use Rattle.history_laws.proofs.Names.{same_taking-is}
use Rattle.history_laws.proofs.Frames.{Leaves, take_leaves, given_leaves}
use Rattle.history_laws.proofs.BinSteps.{so}

-- a taking is the next of its arena
pub record IsNextTaking (a n class : ℕ) (r : RegionId) : Type 0 where
  pub arena : r.place.arena ≡ a
  pub taking : r.taking ≡ n + 1
  pub class_is : r.class ≡ class
  pub unused : r.uses ≡ 0

-- the arena x with the number a becomes y
abbrev pub IsArenaStep : ℕ → ArenaState → Did → ArenaState → Type 0
IsArenaStep a x (Take c r) y = IsNextTaking a x.takings c r × (y.takings ≡ x.takings + 1) × (y.out ≡ x.out ++ r ∷ [])
IsArenaStep a x (Full c) y = (y.takings ≡ x.takings) × (y.out ≡ x.out)
IsArenaStep a x (Give r) y =
    (r.place.arena ≡ a) × (y.takings ≡ x.takings) × (0 < count_by (same_taking r) x.out)
    × (y.out ≡ filter (λ o. not (same_taking r o)) x.out)
IsArenaStep a x d y = ⊥

-- all of these are takings of the arena
abbrev pub OfArena : ℕ → List RegionId → Type 0
OfArena a [] = ⊤
OfArena a (r ∷ rs) = (r.place.arena ≡ a) × OfArena a rs

arena_push : (a : ℕ) (rs : List RegionId) (r : RegionId) → OfArena a rs → r.place.arena ≡ a → OfArena a (rs ++ r ∷ [])
arena_push a [] r of is = (is, tt)
arena_push a (x ∷ rs) r of is = (of.0, arena_push a rs r of.1 is)

arena_filter : (a : ℕ) (p : RegionId → Bool) (rs : List RegionId) → OfArena a rs → OfArena a (filter p rs)
arena_filter a p [] of = tt
arena_filter a p (r ∷ rs) of = one (p r) (arena_filter a p rs of.1)
  where
    one : (b : Bool) → OfArena a (filter p rs) → OfArena a (if b then r ∷ filter p rs else filter p rs)
    one true rest = (of.0, rest)
    one false rest = rest

take_told : (g : Geometry) (a : ℕ) (x y : ArenaState) (c : ℕ) (r : RegionId) → OfArena a x.out
    → as_noted r (take g a x c r.owner) ≡ Some y → IsArenaStep a x (Take c r) y × OfArena a y.out
take_told g a x y c r of e = go (take_class g x c) (take_leaves g x c) e
  where
    go : (o : Option (ℕ × ℕ × ArenaState)) → Leaves x o → as_noted r (option_map (noted_taking a c r.owner) o) ≡ Some y
        → IsArenaStep a x (Take c r) y × OfArena a y.out
    go None s e = absurd (cc e)
    go (Some t) s e = one (same_region r q) refl e
      where
        q : RegionId
        q = region_of a c r.owner (t.2.takings + 1) t.0 t.1

        z : ArenaState
        z = (noted_taking a c r.owner t).1

        one : (b : Bool) → same_region r q ≡ b → (if b then Some z else None) ≡ Some y
            → IsArenaStep a x (Take c r) y × OfArena a y.out
        one true same e =
            let is : r ≡ q = same_region-is r q same in
            let zy : z ≡ y = cc e in
            let tk : t.2.takings + 1 ≡ x.takings + 1 = ap (λ n. n + 1) s.takings in
            let arena : r.place.arena ≡ a = ap (λ (v : RegionId). v.place.arena) is in
            let out : y.out ≡ x.out ++ r ∷ [] = ap (λ (v : ArenaState). v.out) (sym zy)
            ∙ (ap (λ (v : List RegionId). v ++ q ∷ []) s.out ∙ ap (λ (v : RegionId). x.out ++ v ∷ []) (sym is)) in (
              (
                record {
                  arena = arena;
                  taking = ap (λ (v : RegionId). v.taking) is
                      ∙ tk;
                  class_is = ap (λ (v : RegionId). v.class) is;
                  unused = ap (λ (v : RegionId). v.uses) is;
                },
                ap (λ (v : ArenaState). v.takings) (sym zy) ∙ tk,
                out,
              ),
              subst (OfArena a) (sym out) (arena_push a x.out r of arena),
            )
        one false same e = absurd (cc e)

full_told : (g : Geometry) (a : ℕ) (x y : ArenaState) (c : ℕ) → OfArena a x.out → (o : Option (RegionId × ArenaState))
    → if_none o x ≡ Some y → IsArenaStep a x (Full c) y × OfArena a y.out
full_told g a x y c of None e =
    let same : x ≡ y = cc e in (
      (ap (λ (v : ArenaState). v.takings) (sym same), ap (λ (v : ArenaState). v.out) (sym same)),
      subst
          (λ (v : ArenaState). OfArena a v.out) same of,
    )
full_told g a x y c of (Some t) e = absurd (cc e)

-- a taking that is out is one of the arena's
out_here : (a : ℕ) (r : RegionId) (rs : List RegionId) → OfArena a rs → list_any (λ o. same_taking r o) rs ≡ true
    → (r.place.arena ≡ a) × (0 < count_by (same_taking r) rs)
out_here a r [] of e = absurd (cc e)
out_here a r (x ∷ rs) of e =
    one (same_taking r x) refl e (out_here a r rs of.1)
    (sum_by-cons (λ (o : RegionId). if same_taking r o then 1 else 0) x rs)
  where
    one : (b : Bool) → same_taking r x ≡ b → (b || list_any (λ o. same_taking r o) rs) ≡ true →
        (list_any (λ o. same_taking r o) rs ≡ true → (r.place.arena ≡ a) × (0 < count_by (same_taking r) rs)) →
        count_by (same_taking r) (x ∷ rs) ≡ (if same_taking r x then 1 else 0) + count_by (same_taking r) rs
        → (r.place.arena ≡ a) × (0 < count_by (same_taking r) (x ∷ rs))
    one true same e rest c =
        let is = same_taking-is r x same in
        let n : ℕ = (if same_taking r x then 1 else 0) in
        let u : n ≡ 1 = ap (λ (b : Bool). cond {A = ℕ} b 1 0) same in
        (ap (λ v. v.arena) is.place ∙ of.0, omega (arith, c, u))
    one false same e rest c = let t = rest e in let k = t.1 in (t.0, omega (arith, c, k))

give_told : (g : Geometry) (a : ℕ) (x y : ArenaState) (r : RegionId) → OfArena a x.out
    → (if is_out_of x r then Some (give g x r) else None) ≡ Some y → IsArenaStep a x (Give r) y × OfArena a y.out
give_told g a x y r of e =
    let f = so (is_out_of x r) (give g x r) y e in
    let here = out_here a r x.out of f.0 in
    let out : y.out ≡ filter (λ o. not (same_taking r o)) x.out = ap (λ (v : ArenaState). v.out) (sym f.1) in (
      (
        here.0,
        ap (λ (v : ArenaState). v.takings) (sym f.1)
            ∙ (given_leaves g x r.class r.place.chunk r.place.offset).takings,
        here.1,
        out,
      ),
      subst (OfArena a) (sym out) (arena_filter a (λ o. not (same_taking r o)) x.out of),
    )

pub arena_told : (g : Geometry) (a : ℕ) (x y : ArenaState) (d : Did) → OfArena a x.out → arena_step g a x d ≡ Some y
    → IsArenaStep a x d y × OfArena a y.out
arena_told g a x y (Take c r) of e = take_told g a x y c r of e
arena_told g a x y (Full c) of e =
    cond_both (nat_lt c (class_count g)) (if_none (take g a x c 0) x) None
    (λ z. z ≡ Some y → IsArenaStep a x (Full c) y × OfArena a y.out)
    (λ _ is. full_told g a x y c of (take g a x c 0) is) (λ _ is. absurd (cc is)) e
arena_told g a x y (Give r) of e = give_told g a x y r of e
arena_told g a x y d of e = absurd (cc e)
