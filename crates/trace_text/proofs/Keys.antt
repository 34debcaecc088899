-- The keys of an object, and texts among others.
use Rattle.std.proofs.Common.{◌≡◌, ℕ, List, [], ◌∷◌, refl, ap, map, Bor, String, Global, string_bytes, bytes_eq, Bool, true, false, sym, ◌∙◌}
use Rattle.std.specs.List.{list_all, list_any}
use Rattle.std.specs.Map as maps
use Rattle.std.proofs.lemmas.Bool.{false_from_ne_true}
use Rattle.std.proofs.lemmas.List.Folds.{list_all-map}
use Rattle.std.proofs.lemmas.Slice.Eq.{bytes_eq-Decides}
use Rattle.serde_json.specs.declared.value.Value.{Value}
use Rattle.serde_json.specs.View.{members_view}
use Rattle.trace_text.specs.Options.{keys_of}

-- the keys of the members are those of the map
keys_viewed : (es : List (String Global × Value)) → keys_of (members_view es) ≡ map string_bytes (maps.keys_of es)
keys_viewed [] = refl
keys_viewed (e ∷ es) = ap (λ (ks : List (List ℕ)). string_bytes e.0 ∷ ks) (keys_viewed es)

-- a test of all keys
pub all_keys : (test : List ℕ → Bool) (es : List (String Global × Value))
    → list_all (λ key. test (string_bytes key)) (maps.keys_of es) ≡ list_all test (keys_of (members_view es))
all_keys test es = sym (ap (list_all test) (keys_viewed es) ∙ list_all-map test string_bytes (maps.keys_of es))

same_texts : (a b : List ℕ) → bytes_eq a b ≡ bytes_eq b a
same_texts a b =
    elim (bytes_eq b a) as (λ (t : Bool). bytes_eq b a ≡ t → bytes_eq a b ≡ t) [
      | true ↦ λ e. (bytes_eq-Decides a b).1 (sym ((bytes_eq-Decides b a).0 e))
      | false ↦ λ e. false_from_ne_true (bytes_eq a b) (λ f.
          let back : bytes_eq b a ≡ true = (bytes_eq-Decides b a).1 (sym ((bytes_eq-Decides a b).0 f)) in cc)
    ] refl

-- a text is one of others, whichever side it is compared on
pub among : (text : List ℕ) (others : List (Bor (List ℕ)))
    → list_any (λ other. bytes_eq other.now text) others ≡ list_any (bytes_eq text) (map (λ other. other.now) others)
among text [] = refl
among text (o ∷ os) = rw (same_texts o.now text, among text os) refl
