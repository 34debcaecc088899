-- Each listed word has a place of its own among the table's words. All that proofs need of where words lie.
use Rattle.std.proofs.Common.{◌≡◌, ◌≢◌, ℕ, ◌+◌, ◌-◌, ◌*◌, ◌/◌, ◌<◌, ◌≤◌, Bool, true, false, cond, nat_lt, refl, ap, ◌∙◌, arith, lt_of_not-le, lt-ltb, le-ltb, mul-le-mul_right}
use Rattle.std.proofs.Math.Nat.{div-lt_iff_lt-mul, le-div_iff_mul-le}
use mathlib.Core.Logic.{dite}
use native.Mathlib.Decide.{ℕ_discrete, dec_le}
use Rattle.pool_law.specs.declared.run.Shape.{Shape}
use Rattle.pool_law.specs.declared.note.Object.{Object}
use Rattle.pool_law.specs.Homes.{home_of, objects_of, IsObjectOf}
use Rattle.history_laws.proofs.Apart.{home_within}
use Rattle.pool_table.specs.Words.{listed_of, single_of, padding, lies, all_words, word_at, words_of, word_of, count_word_of}

pub lies_single : (s : Shape) (i : ℕ) → i < single_of s → lies s i ≡ i * 16
lies_single s i lt =
    let a : ℕ = single_of s in let t : nat_lt i a ≡ true = lt-ltb i a lt in
    ap (λ (b : Bool). cond b (i * 16) (a * 16 + ((i - a) + (i - a) / s.handles * padding s))) t

pub lies_packed : (s : Shape) (i : ℕ) → single_of s ≤ i
    → lies s i ≡ single_of s * 16 + ((i - single_of s) + (i - single_of s) / s.handles * padding s)
lies_packed s i le =
    let a : ℕ = single_of s in let t : nat_lt i a ≡ false = le-ltb i a le in
    ap (λ (b : Bool). cond b (i * 16) (a * 16 + ((i - a) + (i - a) / s.handles * padding s))) t

-- no division by zero behind the single words
some_handles : (s : Shape) (i : ℕ) → single_of s ≤ i → i < listed_of s → 0 < s.handles
some_handles s i le lt = dite (ℕ_discrete s.handles 0)
    (λ z. let e : s.lanes * s.handles ≡ s.lanes * 0 = ap (λ (k : ℕ). s.lanes * k) z in let p : ℕ =
    s.lanes * s.handles in let e' : p ≡ 0 = (let c : s.lanes * 0 ≡ 0 = omega arith in e ∙ c) in
    let a : ℕ = single_of s in let lt' : i < a + p + p = lt in let le' : a ≤ i = le in
    absurd (omega (arith, lt', le', e')))
    (λ ne. let h : ℕ = s.handles in let ne' : h ≢ 0 = ne in let g : 0 < h = omega (arith, ne') in g)

div_rises : (a b k : ℕ) → 0 < k → a ≤ b → a / k ≤ b / k
div_rises a b k pos le =
    let q : ℕ = a / k in let low : q * k ≤ a = (le-div_iff_mul-le {k = k} {x = q} {y = a} pos).0
    (let g : q ≤ a / k = omega arith in g) in
    (le-div_iff_mul-le {k = k} {x = q} {y = b} pos).1
    (let m : ℕ = q * k in let low' : m ≤ a = low in let g : m ≤ b = omega (arith, low', le) in g)

-- a later word lies further on
rises : (s : Shape) (i j : ℕ) → i < j → j < listed_of s → lies s i < lies s j
rises s i j lt most = let a : ℕ = single_of s in
    dite (dec_le a i)
    (λ le. let lj : a ≤ j = omega (arith, le, lt) in let h : ℕ = s.handles in let w : ℕ = padding s in
    let d : (i - a) / h * w ≤ (j - a) / h * w = mul-le-mul_right w
    (div_rises (i - a) (j - a) h (some_handles s j lj most) (omega (arith, lt))) in
    let x : ℕ = (i - a) / h * w in let y : ℕ = (j - a) / h * w in let d' : x ≤ y = d in let c : ℕ = a * 16 in
    let ei : lies s i ≡ c + ((i - a) + x) = lies_packed s i le in let ej : lies s j
    ≡ c + ((j - a) + y) = lies_packed s j lj in
    let m : ℕ = lies s i in let n : ℕ = lies s j in let ei' : m ≡ c + ((i - a) + x) = ei in let ej' : n
    ≡ c + ((j - a) + y) = ej in let g : m < n = omega (arith, ei', ej', d', le, lt) in
    g)
    (λ gt. let li : i < a = lt_of_not-le gt in let ei : lies s i
    ≡ i * 16 = lies_single s i li in let m : ℕ = lies s i in let n : ℕ = lies s j in let ei' : m ≡ i * 16 = ei in
    dite (dec_le a j)
    (λ lj. let y : ℕ = (j - a) + (j - a) / s.handles * padding s in let ej : n
    ≡ a * 16 + y = lies_packed s j lj in let g : m < n = omega (arith, ei', ej, li) in g)
    (λ gj. let ej : n ≡ j * 16 = lies_single s j (lt_of_not-le gj) in let g : m < n = omega (arith, ei', ej, lt) in g))

within : (s : Shape) (i : ℕ) → i < listed_of s → lies s i < all_words s
within s i lt = let a : ℕ = single_of s in let h : ℕ = s.handles in let w : ℕ = padding s in let m : ℕ = lies s i in
    dite (dec_le a i)
    (λ le. let pos : 0 < h = some_handles s i le lt in let j : ℕ = i - a in let p : ℕ = s.lanes * h in
    let lt' : i < a + p + p = lt in let le' : a ≤ i = le in
    let e : 2 * s.lanes * h ≡ p + p = twice s.lanes h in let q : ℕ = 2 * s.lanes * h in let e' : q ≡ p + p = e in
    let under : j < q = omega (arith, lt', le', e') in
    let rows : j / h < 2 * s.lanes = (div-lt_iff_lt-mul {k = h} {x = j} {y = 2 * s.lanes} pos).1 under in
    let r : ℕ = j / h in let t : ℕ = 2 * s.lanes in let rows' : r < t = rows in
    let over : r * w ≤ t * w = mul-le-mul_right w (let g : r ≤ t = omega (arith, rows') in g) in
    let x : ℕ = r * w in let y : ℕ = t * w in let over' : x ≤ y = over in
    let ei : m ≡ a * 16 + (j + x) = lies_packed s i le in
    let sum : t * (h + w) ≡ t * h + t * w = spread t h w in let z : ℕ = t * (h + w) in let sum' : z ≡ q + y = sum in
    let g : m < a * 16 + z = omega (arith, ei, under, over', sum') in g)
    (λ gt. let li : i < a = lt_of_not-le gt in let ei : m
    ≡ i * 16 =
    lies_single s i li in let z : ℕ = 2 * s.lanes * (h + w) in let g : m < a * 16 + z = omega (arith, ei, li) in
    g)
  where
    twice : (n h : ℕ) → 2 * n * h ≡ n * h + n * h
    twice n h = search (arith)

    spread : (t h w : ℕ) → t * (h + w) ≡ t * h + t * w
    spread t h w = search (arith)

pub word_there : (s : Shape) (i : ℕ) → i < listed_of s → word_at s i < words_of s
unfolding word_at words_of
word_there s i lt = within s i lt

pub word_once : (s : Shape) (i j : ℕ) → i < listed_of s → j < listed_of s → word_at s i ≡ word_at s j → i ≡ j
unfolding word_at
word_once s i j li lj e = dite (dec_le i j)
    (λ le. dite (dec_le j i) (λ ge. omega (arith, le, ge))
    (λ gt. let h = rises s i j (lt_of_not-le gt) lj in let m : ℕ = lies s i in let n : ℕ = lies s j in
    let h' : m < n = h in let e' : m ≡ n = e in absurd (omega (arith, h', e'))))
    (λ gt. let h = rises s j i (lt_of_not-le gt) li in let m : ℕ = lies s i in let n : ℕ = lies s j in let h' : n < m =
    h in let e' : m ≡ n = e in absurd (omega (arith, h', e')))

-- where code lays them
pub word_lies : (s : Shape) (i : ℕ) → word_at s i ≡ lies s i
unfolding word_at
word_lies s i = refl

pub words_are : (s : Shape) → words_of s ≡ all_words s
unfolding words_of
words_are s = refl

-- the words of objects and of counts
pub object_listed : (s : Shape) (o : Object) → IsObjectOf s o → home_of s o < listed_of s
object_listed s o f =
    let h : ℕ = home_of s o in let q : ℕ = objects_of s in let z : ℕ = s.lanes * s.handles in let a : h < q =
    home_within s o f in let g : h < q + z = omega (arith, a) in
    g

pub count_listed : (s : Shape) (p : ℕ) → p < s.lanes * s.handles → objects_of s + p < listed_of s
count_listed s p lt =
    let q : ℕ = objects_of s in let z : ℕ = s.lanes * s.handles in let lt' : p < z = lt in let g : q + p < q + z =
    omega (arith, lt') in
    g

pub object_word : (s : Shape) (o : Object) → IsObjectOf s o → word_of s o < words_of s
object_word s o f = word_there s (home_of s o) (object_listed s o f)

pub count_word : (s : Shape) (p : ℕ) → p < s.lanes * s.handles → count_word_of s p < words_of s
count_word s p lt = word_there s (objects_of s + p) (count_listed s p lt)

pub object_once : (s : Shape) (o p : Object) → IsObjectOf s o → IsObjectOf s p → home_of s o ≢ home_of s p
    → word_of s o ≢ word_of s p
object_once s o p f g ne e = ne (word_once s (home_of s o) (home_of s p) (object_listed s o f) (object_listed s p g) e)

pub count_once : (s : Shape) (p q : ℕ) → p < s.lanes * s.handles → q < s.lanes * s.handles → p ≢ q
    → count_word_of s p ≢ count_word_of s q
count_once s p q lp lq ne e =
    ne (let a = word_once s (objects_of s + p) (objects_of s + q) (count_listed s p lp) (count_listed s q lq) e in
    let n : ℕ = objects_of s in let a' : n + p ≡ n + q = a in omega (arith, a'))

-- the word of an object is no count
pub object_no_count : (s : Shape) (o : Object) (p : ℕ) → IsObjectOf s o → p < s.lanes * s.handles
    → word_of s o ≢ count_word_of s p
object_no_count s o p f lt e =
    let a = word_once s (home_of s o) (objects_of s + p) (object_listed s o f) (count_listed s p lt) e in let h : ℕ =
    home_of s o in let n : ℕ = objects_of s in let near : h < n = home_within s o f in let a' : h ≡ n + p = a in
    omega (arith, a', near)

-- there is a first word
pub some_word : (s : Shape) (words : ℕ) → 0 < s.lanes → words ≡ words_of s → 0 < words
some_word s words lt are =
    let y : ℕ = s.lanes * s.handles in
    let g : 0 < s.arenas + s.lanes * 41 + y + y = omega (arith, lt) in
    let a : word_at s 0 < words_of s = word_there s 0 g in let n : ℕ = words_of s in let m : ℕ = word_at s 0 in
    let a' : m < n = a in let are' : words ≡ n = are in
    omega (arith, a', are')
