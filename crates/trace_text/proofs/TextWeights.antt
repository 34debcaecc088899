-- What the grammar of JSON reads has no more values in it than there were tokens, and there are no
-- more tokens than bytes, but for one that tells of a fault.
use Rattle.std.proofs.Common.{◌≡◌, ℕ, zero, suc, ◌+◌, ◌≤◌, Bool, true, false, List, [], ◌∷◌, length, Option, Some, None, option_and_then, refl, subst, arith}
use Rattle.std.specs.Prelude.{⊤}
use Rattle.json.specs.Token.{Token}
use Rattle.json.specs.Json.{Json, Items, Members, Parse, parse_map, after_end_array, read_key, items_step, members_step, items, members, value_with, value}
use Rattle.json.specs.Lex.{Lexeme, Class, Mode, Place, class, lex_byte, lex, begins_colon, if_allowed, place_token, punctuate, tokens}
use Rattle.json.proofs.Grammar.{after_end_array-shorter, read_key-shorter}

-- ---- Values.

-- how many values there are in one, itself among them
abbrev mutual
  pub weight : Json → ℕ
  weight Json.null = 1
  weight (Json.boolean b) = 1
  weight (Json.number s) = 1
  weight (Json.string s) = 1
  weight (Json.array js) = suc (items_weight js)
  weight (Json.object ms) = suc (members_weight ms)

  pub items_weight : Items → ℕ
  items_weight Items.no_items = 0
  items_weight (Items.item j js) = weight j + items_weight js

  pub members_weight : Members → ℕ
  members_weight Members.no_members = 0
  members_weight (Members.member k j ms) = weight j + members_weight ms

-- what was read and what is left are no more than so much
abbrev AtMost : {A : Type 0} → (A → ℕ) → ℕ → Option (A × List Token) → Type 0
AtMost f n None = ⊤
AtMost f n (Some p) = f p.0 + length p.1 ≤ n

abbrev Within : {A : Type 0} → (A → ℕ) → Parse A → Type 0
Within f p = (ts : List Token) → AtMost f (length ts) (p ts)

wider : {A : Type 0} (f : A → ℕ) (m n : ℕ) → m ≤ n → (o : Option (A × List Token)) → AtMost f m o → AtMost f n o
wider f m n le None x = tt
wider f m n le (Some p) x = omega (arith, le, x)

mapped : {A B : Type 0} (f : A → ℕ) (g : B → ℕ) (m n : ℕ) (h : A → B)
    → ((a : A) (k : ℕ) → f a + k ≤ m → g (h a) + k ≤ n)
    → (o : Option (A × List Token)) → AtMost f m o → AtMost g n (parse_map h o)
mapped f g m n h k None x = tt
mapped f g m n h k (Some p) x = k p.0 (length p.1) x

and_more : {B : Type 0} (g : B → ℕ) (n : ℕ) (h : Json → B → B)
    → ((j : Json) (b : B) → g (h j b) ≡ weight j + g b) → (more : Parse B) → Within g more
    → (o : Option (Json × List Token)) → AtMost weight n o
    → AtMost g n (option_and_then (λ q. parse_map (h q.0) (more q.1)) o)
and_more g n h is more within None x = tt
and_more g n h is more within (Some q) x =
    mapped g g (length q.1) n (h q.0) (λ b k y. let e = is q.0 b in omega (arith, e, x, y)) (more q.1) (within q.1)

module _ (p : Parse Json) (within : Within weight p) where
  item_turn : (more : Parse Items) → Within items_weight more → (ts : List Token) (o : Option (List Token))
      → after_end_array ts ≡ o → AtMost items_weight (length ts) (items_step p more ts o)
  item_turn more again ts (Some r) e = let short = after_end_array-shorter ts r e in omega (arith, short)
  item_turn more again ts None e =
      and_more items_weight (length ts) Items.item (λ j b. refl) more again (p ts) (within ts)

  Within-items : (n : ℕ) → Within items_weight (items p n)
  unfolding items
  Within-items zero ts = tt
  Within-items (suc n) ts = item_turn (items p n) (Within-items n) ts (after_end_array ts) refl

  member_turn : (more : Parse Members) → Within members_weight more → (ts : List Token)
      (o : Option (Option (List ℕ) × List Token)) → read_key ts ≡ o
      → AtMost members_weight (length ts) (option_and_then (λ q. members_step p more q.0 q.1) o)
  member_turn more again ts None e = tt
  member_turn more again ts (Some (None, s)) e = let short = read_key-shorter ts None s e in omega (arith, short)
  member_turn more again ts (Some (Some k, s)) e =
      let short = read_key-shorter ts (Some k) s e in
      wider members_weight (length s) (length ts) (omega (arith, short)) _
      (and_more members_weight (length s) (Members.member k) (λ j b. refl) more again (p s) (within s))

  Within-members : (n : ℕ) → Within members_weight (members p n)
  unfolding members
  Within-members zero ts = tt
  Within-members (suc n) ts = member_turn (members p n) (Within-members n) ts (read_key ts) refl

one_level : (a : Parse Items) (o : Parse Members) → Within items_weight a → Within members_weight o
    → Within weight (value_with a o)
one_level a o p q [] = tt
one_level a o p q (Token.begin_object ∷ ts) =
    mapped members_weight weight (length ts) _ Json.object (λ ms k x. omega (arith, x)) (o ts) (q ts)
one_level a o p q (Token.end_object ∷ ts) = tt
one_level a o p q (Token.begin_array ∷ ts) =
    mapped items_weight weight (length ts) _ Json.array (λ js k x. omega (arith, x)) (a ts) (p ts)
one_level a o p q (Token.end_array ∷ ts) = tt
one_level a o p q (Token.key s ∷ ts) = tt
one_level a o p q (Token.string s ∷ ts) = omega arith
one_level a o p q (Token.number s ∷ ts) = omega arith
one_level a o p q (Token.boolean b ∷ ts) = omega arith
one_level a o p q (Token.null ∷ ts) = omega arith
one_level a o p q (Token.bad ∷ ts) = tt

Within-value : (d : ℕ) → Within weight (value d)
unfolding value
Within-value zero = one_level (λ ts. None) (λ ts. None) (λ ts. tt) (λ ts. tt)
Within-value (suc d) =
    one_level (λ ts. items (value d) (length ts) ts) (λ ts. members (value d) (length ts) ts)
    (λ ts. Within-items (value d) (Within-value d) (length ts) ts)
    (λ ts. Within-members (value d) (Within-value d) (length ts) ts)

pub value-weight : (d : ℕ) (ts r : List Token) (j : Json) → value d ts ≡ Some (j, r) → weight j ≤ length ts
value-weight d ts r j e =
    let within : weight j + length r ≤ length ts = subst (AtMost weight (length ts)) e (Within-value d ts) in
    omega (arith, within)

-- ---- Tokens.

lexed : (m : Mode) (c : Class) (x : ℕ) (xs : List ℕ) (k : Mode → List Lexeme) → ((n : Mode) → length (k n) ≤ length xs)
    → length (lex_byte m c x xs k) ≤ suc (length xs)
lexed Mode.between Class.quote x xs k le = let l = le Mode.in_string in omega (arith, l)
lexed Mode.between Class.backslash x xs k le = let l = le Mode.in_word in omega (arith, l)
lexed Mode.between Class.operator x xs k le = let l = le Mode.between in omega (arith, l)
lexed Mode.between Class.space x xs k le = let l = le Mode.between in omega (arith, l)
lexed Mode.between Class.other x xs k le = let l = le Mode.in_word in omega (arith, l)
lexed Mode.in_word Class.quote x xs k le = let l = le Mode.in_word in omega (arith, l)
lexed Mode.in_word Class.backslash x xs k le = let l = le Mode.in_word in omega (arith, l)
lexed Mode.in_word Class.operator x xs k le = let l = le Mode.between in omega (arith, l)
lexed Mode.in_word Class.space x xs k le = let l = le Mode.between in omega (arith, l)
lexed Mode.in_word Class.other x xs k le = let l = le Mode.in_word in omega (arith, l)
lexed Mode.in_string Class.quote x xs k le = let l = le Mode.between in omega (arith, l)
lexed Mode.in_string Class.backslash x xs k le = let l = le Mode.in_escape in omega (arith, l)
lexed Mode.in_string Class.operator x xs k le = let l = le Mode.in_string in omega (arith, l)
lexed Mode.in_string Class.space x xs k le = let l = le Mode.in_string in omega (arith, l)
lexed Mode.in_string Class.other x xs k le = let l = le Mode.in_string in omega (arith, l)
lexed Mode.in_escape c x xs k le = let l = le Mode.in_string in omega (arith, l)

lex-length : (m : Mode) (xs : List ℕ) → length (lex m xs) ≤ length xs
unfolding lex
lex-length m [] = omega arith
lex-length m (x ∷ xs) =
    let l = lexed m (class x) x xs (λ next. lex next xs) (λ n. lex-length n xs) in omega (arith, l)

allowed : (b : Bool) (t : Token) (k : Place → List Token) (p : Place) (n : ℕ) → ((q : Place) → length (k q) ≤ n)
    → length (if_allowed b t k p) ≤ suc n
allowed true t k p n le = let l = le p in omega (arith, l)
allowed false t k p n le = omega arith

placed : (p : Place) (t : Token) (b : Bool) (k : Place → List Token) (n : ℕ) → ((q : Place) → length (k q) ≤ n)
    → length (place_token p t b k) ≤ suc n
placed p Token.begin_object b k n le = allowed _ Token.begin_object k _ n le
placed p Token.end_object b k n le = allowed _ Token.end_object k _ n le
placed p Token.begin_array b k n le = allowed _ Token.begin_array k _ n le
placed p Token.end_array b k n le = allowed _ Token.end_array k _ n le
placed p (Token.key s) b k n le = omega arith
placed p (Token.string s) true k n le = allowed _ (Token.key s) k _ n le
placed p (Token.string s) false k n le = allowed _ (Token.string s) k _ n le
placed p (Token.number s) b k n le = allowed _ (Token.number s) k _ n le
placed p (Token.boolean v) b k n le = allowed _ (Token.boolean v) k _ n le
placed p Token.null b k n le = allowed _ Token.null k _ n le
placed p Token.bad b k n le = omega arith

punctuated : (p : Place) (ls : List Lexeme) → length (punctuate p ls) ≤ suc (length ls)
unfolding punctuate
punctuated Place.fresh [] = omega arith
punctuated Place.after_value [] = omega arith
punctuated Place.after_comma [] = omega arith
punctuated Place.after_key [] = omega arith
punctuated Place.fresh (Lexeme.token t ∷ ls) =
    let l = placed Place.fresh t (begins_colon ls) (λ next. punctuate next ls) (suc (length ls))
    (λ q. punctuated q ls) in omega (arith, l)
punctuated Place.after_value (Lexeme.token t ∷ ls) =
    let l = placed Place.after_value t (begins_colon ls) (λ next. punctuate next ls) (suc (length ls))
    (λ q. punctuated q ls) in omega (arith, l)
punctuated Place.after_comma (Lexeme.token t ∷ ls) =
    let l = placed Place.after_comma t (begins_colon ls) (λ next. punctuate next ls) (suc (length ls))
    (λ q. punctuated q ls) in omega (arith, l)
punctuated Place.after_key (Lexeme.token t ∷ ls) =
    let l = placed Place.after_key t (begins_colon ls) (λ next. punctuate next ls) (suc (length ls))
    (λ q. punctuated q ls) in omega (arith, l)
punctuated Place.fresh (Lexeme.comma ∷ ls) = omega arith
punctuated Place.after_value (Lexeme.comma ∷ ls) = let l = punctuated Place.after_comma ls in omega (arith, l)
punctuated Place.after_comma (Lexeme.comma ∷ ls) = omega arith
punctuated Place.after_key (Lexeme.comma ∷ ls) = omega arith
punctuated Place.fresh (Lexeme.colon ∷ ls) = omega arith
punctuated Place.after_value (Lexeme.colon ∷ ls) = omega arith
punctuated Place.after_comma (Lexeme.colon ∷ ls) = omega arith
punctuated Place.after_key (Lexeme.colon ∷ ls) = let l = punctuated Place.fresh ls in omega (arith, l)

pub tokens-length : (text : List ℕ) → length (tokens text) ≤ suc (length text)
tokens-length text =
    let few = punctuated Place.fresh (lex Mode.between text) in
    let short = lex-length Mode.between text in
    omega (arith, few, short)
