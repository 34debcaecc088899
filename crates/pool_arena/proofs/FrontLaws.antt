-- The subpages of a front, as pairs.
use Rattle.std.proofs.Common.{◌≡◌, ℕ, List, [], ◌∷◌, refl, ap, Bool}
use Rattle.std.specs.Prelude.{not, ◌==◌, ◌&&◌, map, filter, if◌then◌else◌}
use Rattle.std.proofs.lemmas.Bool.{cond_both}
use Rattle.pool_law.specs.Arenas.{without_subpage}
use Rattle.pool_arena.specs.declared.subpage_list.SubpageAt.{SubpageAt}
use Rattle.pool_arena.specs.SubpageLists.{pair_of}

-- whether a subpage is another than this one
abbrev pub is_other : ℕ → ℕ → SubpageAt → Bool
is_other c page s = not ((s.chunk == c) && (s.page == page))

-- what leaves the subpages leaves their pairs
pub pairs-left : (c page : ℕ) (subpages : List SubpageAt) → map pair_of (filter (is_other c page) subpages)
    ≡ without_subpage c page (map pair_of subpages)
pairs-left c page [] = refl
pairs-left c page (s ∷ subpages) =
    cond_both (is_other c page s) (s ∷ filter (is_other c page) subpages) (filter (is_other c page) subpages)
    (λ z. map pair_of z ≡ (if is_other c page s then pair_of s ∷ without_subpage c page (map pair_of subpages) else
    without_subpage c page (map pair_of subpages)))
    (λ stays. rw stays (ap (λ (xs : List (ℕ × ℕ)). pair_of s ∷ xs) (pairs-left c page subpages)))
    (λ leaves. rw leaves (pairs-left c page subpages))
