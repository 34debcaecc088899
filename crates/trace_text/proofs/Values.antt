-- Lists of JSON values.
use Rattle.std.proofs.Common.{ℕ, ◌<◌, ◌≡◌, List, [], ◌∷◌, refl, ap, map, length, get_or}
use Rattle.std.proofs.lemmas.List.{get_or-map}
use Rattle.serde_json.specs.declared.value.Value.{Value}
use Rattle.serde_json.specs.View.{view, items_of}
use Rattle.serde_json.specs.Data.{Data, null}
use Rattle.trace_text.specs.Items.{listed, item_at}

pub listed-items_of : (ds : List Data) → listed (items_of ds) ≡ ds
listed-items_of [] = refl
listed-items_of (d ∷ ds) = ap (λ (es : List Data). d ∷ es) (listed-items_of ds)

pub item_view : (values : List Value) (i : ℕ) (d : Value) → i < length values
    → item_at (map view values) i ≡ view (get_or values i d)
item_view values i d h = get_or-map view values i d null h
