-- A value that was read has no more values in it than its text has bytes, and one.
use Rattle.std.proofs.Common.{◌≡◌, ℕ, suc, ◌+◌, ◌≤◌, List, [], ◌∷◌, length, Option, Some, None, option_map, option_and_then, Ordering, Less, Equal, Greater, refl, subst, arith}
use Rattle.std.specs.Prelude.{⊤}
use Rattle.std.specs.Ordering.{nat_cmp, match_ordering}
use Rattle.std.specs.Cmp.Lexicographic.{slice_cmp}
use Rattle.json.specs.Token.{Token}
use Rattle.json.specs.Lex.{tokens}
use Rattle.json.specs.Json as json
use Rattle.serde_json.specs.Data.{Data, number, array, object, item, Items, Members, no_members, member, put}
use Rattle.serde_json.specs.Read.{number_of, of_json, of_items, of_members, max_depth, read}
use Rattle.trace_text.proofs.TextWeights.{weight, items_weight, members_weight, value-weight, tokens-length}

-- how many values there are in one, itself among them
abbrev mutual
  pub size : Data → ℕ
  size Data.null = 1
  size (Data.boolean b) = 1
  size (Data.number n) = 1
  size (Data.string s) = 1
  size (Data.array ds) = suc (items_size ds)
  size (Data.object ms) = suc (members_size ms)

  pub items_size : Items → ℕ
  items_size Items.no_items = 0
  items_size (Items.item d ds) = size d + items_size ds

  pub members_size : Members → ℕ
  members_size Members.no_members = 0
  members_size (Members.member k d ms) = size d + members_size ms

abbrev AtMost : {A : Type 0} → (A → ℕ) → ℕ → Option A → Type 0
AtMost f n None = ⊤
AtMost f n (Some a) = f a ≤ n

AtMost-map : {A B : Type 0} (f : A → ℕ) (g : B → ℕ) (m n : ℕ) (h : A → B) → ((a : A) → f a ≤ m → g (h a) ≤ n)
    → (o : Option A) → AtMost f m o → AtMost g n (option_map h o)
AtMost-map f g m n h k None x = tt
AtMost-map f g m n h k (Some a) x = k a x

AtMost-and_then : {A B : Type 0} (f : A → ℕ) (g : B → ℕ) (m n : ℕ) (h : A → Option B)
    → ((a : A) → f a ≤ m → AtMost g n (h a)) → (o : Option A) → AtMost f m o → AtMost g n (option_and_then h o)
AtMost-and_then f g m n h k None x = tt
AtMost-and_then f g m n h k (Some a) x = k a x

flat : {A : Type 0} (o : Option A) → AtMost (λ _. 0) 0 o
flat None = tt
flat (Some a) = omega arith

-- ---- What the text's value becomes.

ordered : (o : Ordering) (a b c : Members) (n : ℕ) → members_size a ≤ n → members_size b ≤ n → members_size c ≤ n
    → members_size (match_ordering o a b c) ≤ n
ordered Less a b c n p q r = p
ordered Equal a b c n p q r = q
ordered Greater a b c n p q r = r

put-size : (k : List ℕ) (d : Data) (ms : Members) → members_size (put k d ms) ≤ size d + members_size ms
put-size k d no_members = omega arith
put-size k d (member l e ms) =
    let more = put-size k d ms in
    ordered (slice_cmp nat_cmp k l) (member k d (member l e ms)) (member l d ms) (member l e (put k d ms)) _
    (omega arith) (omega arith) (omega (arith, more))

mutual
  size-of_json : (j : json.Json) (n : ℕ) → weight j ≤ n → AtMost size n (of_json j)
  size-of_json json.null n h = omega (arith, h)
  size-of_json (json.boolean b) n h = omega (arith, h)
  size-of_json (json.number s) n h =
      AtMost-map (λ _. 0) size 0 n number (λ a x. omega (arith, h)) (number_of s) (flat _)
  size-of_json (json.string s) n h = omega (arith, h)
  size-of_json (json.array js) n h =
      AtMost-map items_size size (items_weight js) n array (λ a x. omega (arith, h, x)) _ (size-of_items js)
  size-of_json (json.object ms) n h =
      AtMost-map members_size size (members_weight ms) n object (λ a x. omega (arith, h, x)) _
      (size-of_members ms no_members (members_weight ms) (omega arith))

  size-of_items : (js : json.Items) → AtMost items_size (items_weight js) (of_items js)
  size-of_items json.no_items = omega arith
  size-of_items (json.item j js) =
      AtMost-and_then size items_size (weight j) _ _
      (λ d x. AtMost-map items_size items_size (items_weight js) _ (item d) (λ ds y. omega (arith, x, y)) _
      (size-of_items js)) _ (size-of_json j (weight j) (omega arith))

  size-of_members : (ms : json.Members) (found : Members) (n : ℕ) → members_weight ms + members_size found ≤ n
      → AtMost members_size n (of_members ms found)
  size-of_members json.no_members found n h = omega (arith, h)
  size-of_members (json.member name j ms) found n h =
      AtMost-and_then size members_size (weight j) n _
      (λ d x. let more = put-size name d found in
      size-of_members ms (put name d found) n (omega (arith, h, x, more))) _
      (size-of_json j (weight j) (omega arith))

last_within : (o : Option (json.Json × List Token)) (n : ℕ)
    → ((j : json.Json) (r : List Token) → o ≡ Some (j, r) → weight j ≤ n)
    → AtMost weight n (option_and_then (λ p. json.if_last p.0 p.1) o)
last_within None n h = tt
last_within (Some (j, [])) n h = h j [] refl
last_within (Some (j, t ∷ r)) n h = tt

pub size-read : (text : List ℕ) (d : Data) → read text ≡ Some d → size d ≤ suc (length text)
size-read text d e =
    let n = suc (length text) in
    let few = tokens-length text in
    subst (AtMost size n) e (AtMost-and_then weight size n n of_json (λ j x. size-of_json j n x) _
    (last_within _ n (λ j r is. let w = value-weight max_depth (tokens text) r j is in omega (arith, w, few))))
