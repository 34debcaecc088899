-- What a view knows of a root's capacity behind entries that tell nothing of it.
use Rattle.std.proofs.Common.{◌≡◌, ℕ, List, [], ◌∷◌, ◌++◌, max, ap, ◌∙◌, arith}
use Rattle.std.specs.Prelude.{map}
use Rattle.std.proofs.lemmas.List.{map-append}
use Rattle.pool_law.specs.declared.id.RootId.{RootId}
use Rattle.pool_law.specs.Capacities.{told_by, known_of}
use Rattle.pool_law.specs.Logs.{ToldNote}
use Rattle.pool_table.specs.declared.views.Entry.{Entry}
use Rattle.pool_table.specs.declared.views.SeatView.{SeatView}
use Rattle.pool_table.specs.Capacities.{knows_of}
use Rattle.pool_table.specs.LaneLogs.{law_entry, lane_entries}
use Rattle.shared_pool.proofs.Knowledge.{regroup}

-- what these entries tell of the root's capacity
abbrev pub told_in : RootId → List Entry → ℕ
told_in r es = known_of r (map law_entry es)

none_more : (k : ℕ) → k ≡ max 0 k
none_more k = omega arith

known_append : (r : RootId) (xs ys : List ToldNote) → known_of r (xs ++ ys) ≡ max (known_of r xs) (known_of r ys)
known_append r [] ys = none_more (known_of r ys)
known_append r (x ∷ xs) ys =
    ap (max (told_by r x.root x.note)) (known_append r xs ys)
    ∙ regroup (told_by r x.root x.note) (known_of r xs) (known_of r ys)

-- entries that tell nothing of it leave known what was
pub knows_same : (v w : SeatView) (added : List Entry) → w.own.notes ≡ v.own.notes ++ added → (r : RootId)
    → told_in r added ≡ 0 → knows_of r w ≡ knows_of r v
knows_same v w added notes r none =
    same (knows_of r v) (told_in r added) (knows_of r w)
    (ap (λ (es : List Entry). max r.capacity (known_of r (map law_entry es))) notes
    ∙ ap (λ (es : List ToldNote). max r.capacity (known_of r es)) (map-append law_entry v.own.notes added)
    ∙ ap (max r.capacity) (known_append r (lane_entries v) (map law_entry added))
    ∙ regroup r.capacity (known_of r (lane_entries v)) (told_in r added)) none
  where
    same : (k t n : ℕ) → n ≡ max k t → t ≡ 0 → n ≡ k
    same k t n is none = omega (arith, is, none)
