-- What is read of the words that are printed.
use Rattle.std.proofs.Common.{◌≡◌, ℕ, ◌+◌, ◌<◌, ◌^◌, ◌≢◌, ◌==◌, Bool, true, false, List, [], ◌∷◌, ◌++◌, length, get_or, Option, Some, None, Result, Ok, Err, Bor, refl, sym, ap, ◌∙◌, decimal, arith, length-append, append_assoc}
use Rattle.std.specs.Prelude.{IsErrAnd, ◌/◌, ◌%◌, ◌&&◌, not, nat_lt, codes, if◌then◌else◌}
use Rattle.std.specs.Str.{bytes_eq}
use Rattle.std.proofs.Math.Seq.{get_or-append_seam}
use Rattle.std.proofs.lemmas.Bool.{not-true, eqb-false, ne_eqb, false≢true}
use Rattle.std.proofs.lemmas.Fmt.{decimal_by_steps}
use Rattle.std.proofs.lemmas.List.Folds.{list_all-append}
use Rattle.std.proofs.lemmas.List.Sums.{AllPass-from_list_all}
use Rattle.std.proofs.lemmas.Slice.Eq.{bytes_eq-Decides}
use Rattle.std.proofs.lemmas.Str.Pattern.{IsSplitOnceResult, split_after, split_parts}
use Rattle.hex.specs.Hex.{IsBytes, decode_of}
use Rattle.hex.proofs.HexLemmas.{decode_of-encode_lower}
use Rattle.pool_law.specs.declared.id.Place.{Place}
use Rattle.pool_law.specs.Text.{Text, dotted, hex, hex_digit, shown_bytes, shown_place, spaced}
use Rattle.run_report.proofs.HexLaws.{shown_is}
use Rattle.run_text.specs.declared.TextNo.{TextNo}
use Rattle.run_text.specs.declared.TextNo.TheVariants.{Memory}
use Rattle.run_text.specs.Reading.{Gives, is_word, lacks}

-- ---- Results, and tests of texts.

pub same_ok : {X E : Type 0} (r : Result X E) (x y : X) → r ≡ Ok x → r ≡ Ok y → x ≡ y
same_ok r x y e f = cc

pub not_err : {X E : Type 0} (r : Result X E) (why : E) (y : X) → r ≡ Err why → r ≡ Ok y → ⊥
not_err r why y e f = cc

-- a test that holds says that the texts are the same, and one that fails that they are not
pub is_text : (r : Bool) (a b : Text) → r ≡ bytes_eq a b → r ≡ true → a ≡ b
is_text r a b e t = (bytes_eq-Decides a b).0 (sym e ∙ t)

pub not_text : (r : Bool) (a b : Text) → r ≡ bytes_eq a b → r ≡ false → a ≢ b
not_text r a b e f same = false≢true (sym f ∙ e ∙ (bytes_eq-Decides a b).1 same)

-- ---- Texts that lack a mark.

-- a mark that a text lacks stands nowhere in it
lacks_at : (mark : ℕ) (text : Text) → lacks mark text ≡ true → (i : ℕ) → i < length text → get_or text i 0 ≢ mark
lacks_at mark text h i low =
    eqb-false (get_or text i 0) mark (not-true _ (AllPass-from_list_all (λ b. not (b == mark)) text h i 0 low))

-- two texts that lack a mark lack it one behind the other
pub lacks-append : (mark : ℕ) (a b : Text) → lacks mark a ≡ true → lacks mark b ≡ true → lacks mark (a ++ b) ≡ true
lacks-append mark a b h k =
    list_all-append (λ x. not (x == mark)) a b
    ∙ ap (λ (t : Bool). t && lacks mark b) h
    ∙ k

pub lacks-cons : (mark x : ℕ) (b : Text) → x ≢ mark → lacks mark b ≡ true → lacks mark (x ∷ b) ≡ true
lacks-cons mark x b apart k = ap (λ (t : Bool). not t && lacks mark b) (ne_eqb x mark apart) ∙ k

-- ---- Where a text is cut at its first mark.

module _ (mark : ℕ) (ascii : mark < 128) (text : Text) (r : Option (Bor (List ℕ) × Bor (List ℕ)))
    (split : IsSplitOnceResult mark text r) where
  pub cut : (x : Bor (List ℕ) × Bor (List ℕ)) → r ≡ Some x → (a b : Text) → lacks mark a ≡ true
      → text ≡ a ++ mark ∷ b → (x.0.now ≡ a) × (x.1.now ≡ b)
  cut x is a b free e = rw is at (split_after mark text a b r split ascii e (lacks_at mark a free))

  pub is_cut : r ≡ None → (a b : Text) → lacks mark a ≡ true → text ≡ a ++ mark ∷ b → ⊥
  is_cut is a b free e = rw is at (split_after mark text a b r split ascii e (lacks_at mark a free))

  pub not_cut : (x : Bor (List ℕ) × Bor (List ℕ)) → r ≡ Some x → lacks mark text ≡ true → ⊥
  not_cut x is free =
      let (e, before) = rw is at (split_parts mark text r split ascii) in
      lacks_at mark text free (length x.0.now)
      (omega (arith, ap length e, length-append x.0.now (mark ∷ x.1.now)))
      (ap (λ (t : Text). get_or t (length x.0.now) 0) e ∙ get_or-append_seam x.0.now mark x.1.now 0)

-- ---- The next word.

module _ (text : Text) (r : Option (Bor (List ℕ) × Bor (List ℕ))) (split : IsSplitOnceResult 32 text r) where
  pub before_space : (x : Bor (List ℕ) × Bor (List ℕ)) → r ≡ Some x → (word : Text) (more : List Text)
      → is_word word ≡ true → text ≡ spaced (word ∷ more) → (x.0.now ≡ word) × (x.1.now ≡ spaced more)
  before_space x is word [] free e =
      absurd (not_cut 32 (omega arith) text r split x is (ap (lacks 32) e ∙ free))
  before_space x is word (next ∷ more) free e = cut 32 (omega arith) text r split x is word (spaced (next ∷ more)) free
      e

  pub without_space : r ≡ None → (word : Text) (more : List Text) → is_word word ≡ true
      → text ≡ spaced (word ∷ more) → (text ≡ word) × (spaced more ≡ [])
  without_space is word [] free e = (e, refl)
  without_space is word (next ∷ more) free e =
      absurd (is_cut 32 (omega arith) text r split is word (spaced (next ∷ more)) free e)

-- ---- Printed numbers.

-- digits are above the marks
pub lacks-decimal : (mark n : ℕ) → mark < 48 → n < 2 ^ 64 → lacks mark (decimal n) ≡ true
lacks-decimal mark n low small =
    decimal_by_steps (λ m ds. lacks mark ds ≡ true) (λ m few. last m)
    (λ m ds many before. lacks-append mark ds ((48 + m % 10) ∷ []) before (last (m % 10))) n small
  where
    last : (d : ℕ) → lacks mark ((48 + d) ∷ []) ≡ true
    last d = lacks-cons mark (48 + d) [] (omega arith) refl

-- two numbers with a mark between them
pub is_word-pair : (mark a b : ℕ) → 32 < mark → a < 2 ^ 32 → b < 2 ^ 32
    → is_word (decimal a ++ mark ∷ decimal b) ≡ true
is_word-pair mark a b high low least =
    lacks-append 32 (decimal a) (mark ∷ decimal b) (lacks-decimal 32 a (omega arith) (omega arith))
    (lacks-cons 32 mark (decimal b) (omega arith) (lacks-decimal 32 b (omega arith) (omega arith)))

-- a place is its arena, and its chunk and offset behind a dot
pub place_parts : (p : Place) → shown_place p ≡ decimal p.arena ++ 46 ∷ (decimal p.chunk ++ 43 ∷ decimal p.offset)
place_parts p = append_assoc (decimal p.arena) (46 ∷ decimal p.chunk) (43 ∷ decimal p.offset)

pub is_word-place : (p : Place) → p.arena < 2 ^ 32 → p.chunk < 2 ^ 32 → p.offset < 2 ^ 32
    → is_word (shown_place p) ≡ true
is_word-place p a c o =
    lacks-append 32 (dotted p.arena p.chunk) (43 ∷ decimal p.offset) (is_word-pair 46 p.arena p.chunk (omega arith) a c)
    (lacks-cons 32 43 (decimal p.offset) (omega arith) (lacks-decimal 32 p.offset (omega arith) (omega arith)))

-- what lacks a mark is no two numbers with it between them
pub not_parted : (mark a b : ℕ) (word : Text) → lacks mark word ≡ true → decimal a ++ mark ∷ decimal b ≢ word
not_parted mark a b word free e =
    lacks_at mark word free (length (decimal a))
    (omega (arith, ap length e, length-append (decimal a) (mark ∷ decimal b)))
    (ap (λ (t : Text). get_or t (length (decimal a)) 0) (sym e) ∙ get_or-append_seam (decimal a) mark (decimal b) 0)

-- ---- Printed bytes.

lacks-digit : (mark d : ℕ) (rest : Text) → mark < 48 → lacks mark rest ≡ true → lacks mark (hex_digit d ∷ rest) ≡ true
lacks-digit mark d rest low h = lacks-cons mark (hex_digit d) rest (apart (nat_lt d 10)) h
  where
    apart : (t : Bool) → (if t then 48 + d else 87 + d) ≢ mark
    apart true = λ e. omega arith
    apart false = λ e. omega arith

lacks-hex : (mark : ℕ) (bytes : List ℕ) → mark < 48 → lacks mark (hex bytes) ≡ true
lacks-hex mark [] low = refl
lacks-hex mark (b ∷ bytes) low =
    lacks-digit mark (b / 16) (hex_digit (b % 16) ∷ hex bytes) low
    (lacks-digit mark (b % 16) (hex bytes) low (lacks-hex mark bytes low))

pub is_word-bytes : (bytes : List ℕ) → is_word (shown_bytes bytes) ≡ true
is_word-bytes [] = refl
is_word-bytes (b ∷ bytes) = lacks-hex 32 (b ∷ bytes) (omega arith)

-- a dash is printed for no bytes alone
pub dash-none : (bytes : List ℕ) → shown_bytes bytes ≡ codes "-" → bytes ≡ []
dash-none [] e = refl
dash-none (b ∷ bytes) e = cc

-- others are decoded
pub decode-shown : (bytes : List ℕ) → IsBytes bytes → shown_bytes bytes ≢ codes "-" → decode_of (shown_bytes bytes) ≡
    Ok bytes
decode-shown [] small apart = absurd (apart refl)
decode-shown (b ∷ bytes) small apart =
    ap decode_of (sym (shown_is (b ∷ bytes) (ne_eqb _ 0 (omega arith)) small)) ∙ decode_of-encode_lower (b ∷ bytes)
    small

-- ---- Which word stands first.

-- the first of these words, and those behind it
abbrev pub head : List Text → Text
head [] = []
head (word ∷ more) = word

abbrev pub tail : List Text → List Text
tail [] = []
tail (word ∷ more) = more

-- what is known once the first word was read
abbrev Reads : Text → Text → Text → Type 0
Reads word rest text =
    (first : Text) (more : List Text) → is_word first ≡ true → text ≡ spaced (first ∷ more)
    → (word ≡ first) × (rest ≡ spaced more)

-- a test of the first word holds only where it is that word, and fails only where it isn't
pub misread : (word rest text : Text) (r : Bool) (name : Text) (words : List Text) → Reads word rest text
    → r ≡ bytes_eq word name → r ≡ true → text ≡ spaced (head words ∷ tail words)
    → is_word (head words) ≡ true → bytes_eq (head words) name ≡ false → ⊥
misread word rest text r name words reads e holds is free apart =
    let w = reads (head words) (tail words) free is in
    false≢true (sym apart ∙ ap (λ (t : Text). bytes_eq t name) (sym w.0) ∙ sym e ∙ holds)

pub unread : (word rest text : Text) (r : Bool) (name : Text) (words : List Text) → Reads word rest text
    → r ≡ bytes_eq word name → r ≡ false → text ≡ spaced (head words ∷ tail words)
    → is_word (head words) ≡ true → bytes_eq (head words) name ≡ true → ⊥
unread word rest text r name words reads e fails is free same =
    let w = reads (head words) (tail words) free is in
    false≢true (sym fails ∙ e ∙ ap (λ (t : Text). bytes_eq t name) w.0 ∙ same)

-- a refusal that is passed on is want of memory where it was
pub passed_on : {X : Type 0} (r : Result X TextNo) (why : TextNo) (left : Text) (x : X) (more : List Text)
    → IsErrAnd r (λ e. e ≡ why) → why ≡ Memory → Gives r left x more
passed_on (Ok y) why left x more h memory = absurd h
passed_on (Err e) why left x more h memory = h ∙ memory
