-- How the history of an object numbers what a part has of it.
use Rattle.std.proofs.Common.{◌≡◌, ◌==◌, ℕ, ◌+◌, ◌-◌, ◌≤◌, List, length, true, ap, arith, eq-eqb}
use Rattle.std.specs.Prelude.{Option, All, filter}
use Rattle.std.proofs.lemmas.Option.{slice_get_within}
use Rattle.std.proofs.lemmas.List.Elements.{All-weaker}
use Rattle.pool_law.specs.declared.run.Shape.{Shape}
use Rattle.pool_law.specs.declared.note.Noted.{Noted}
use Rattle.pool_law.specs.declared.note.Object.{Object}
use Rattle.pool_law.specs.Homes.{home_of}
use Rattle.pool_table.specs.declared.views.Entry.{Entry}
use Rattle.pool_table.specs.declared.views.Entry.TheVariants.{At, Ref, Busy}
use Rattle.pool_table.specs.Views.{is_about}
use Rattle.pool_table.specs.Numbers.{IsBefore, IsAbove, IsUpTo, IsNotBelow}
use Rattle.pool_table.specs.Sound.{Tells}
use Rattle.pool_table.proofs.Newest.{filtered}

module _ (s : Shape) (o : Object) (h : List Noted) (limit : ℕ) (lane : Option ℕ) where
  -- the history tells the entry, if it is of the object
  abbrev pub IsTellable : Entry → Type 0
  IsTellable y = is_about s (home_of s o) y ≡ true → Tells o h limit lane y

  same_home : (p : Object) → p ≡ o → (home_of s p == home_of s o) ≡ true
  same_home p same = eq-eqb (home_of s p) (home_of s o) (ap (home_of s) same)

  before_next : limit ≤ length h → (y : Entry) → IsTellable y → IsBefore o (length h + 1) y
  before_next le (At p k m) told =
      λ same. let t =
      told (same_home p same) in let lt =
      slice_get_within h (k - 1) m t.1 in let some = t.0 in omega (arith, lt, some)
  before_next le (Busy b) told = λ same. let lt = (told (same_home b.object same)).0 in omega (arith, lt, le)
  before_next le (Ref r d) told = tt

  up_to_last : limit ≤ length h + 1 → (y : Entry) → IsTellable y → IsUpTo o (length h) y
  up_to_last le (At p k m) told =
      λ same. let t =
      told (same_home p same) in let lt =
      slice_get_within h (k - 1) m t.1 in let some = t.0 in omega (arith, lt, some)
  up_to_last le (Busy b) told = λ same. let lt = (told (same_home b.object same)).0 in omega (arith, lt, le)
  up_to_last le (Ref r d) told = tt

  -- the next note is above all that the history tells while nobody is in the section
  pub next_above : limit ≤ length h → (es : List Entry)
      → All (Tells o h limit lane) (filter (is_about s (home_of s o)) es) → IsAbove o (length h + 1) es
  next_above le es told =
      All-weaker IsTellable (IsBefore o (length h + 1)) (before_next le) es
      (filtered (Tells o h limit lane) (is_about s (home_of s o)) es told)

  -- the last note isn't below what it tells while one view is in
  pub last_not_below : limit ≤ length h + 1 → (es : List Entry)
      → All (Tells o h limit lane) (filter (is_about s (home_of s o)) es) → IsNotBelow o (length h) es
  last_not_below le es told =
      All-weaker IsTellable (IsUpTo o (length h)) (up_to_last le) es
      (filtered (Tells o h limit lane) (is_about s (home_of s o)) es told)
