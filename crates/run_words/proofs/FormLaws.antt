-- Words that are written as options are read as these, and words that are read are written so.
use Rattle.std.proofs.Common.{◌≡◌, ℕ, ◌<◌, List, [], ◌∷◌, ◌++◌, length, refl, true, false, Bool, arith, Some, None, sym, ◌∙◌, ap, subst, cond, get_or, length-append, append_assoc}
use Rattle.std.specs.Prelude.{Option, nat_le, if◌then◌else◌, ◌==◌, ◌||◌, is_some, map, codes, All, find, option_map, option_and_then}
use Rattle.std.specs.List.{flat_map, position_or_len, before_first, after_first}
use Rattle.std.specs.Str.{bytes_eq}
use Rattle.std.specs.Str.Parse.{digits_value}
use Rattle.std.specs.Cmp.Lexicographic.{bytes_decides}
use Rattle.std.proofs.lemmas.Bool.Decides.{nat_tests}
use Rattle.std.proofs.lemmas.List.Elements.{All-cons, All-head, All-nil, All-tail}
use Rattle.std.proofs.lemmas.List.Sums.{passes_at_first, split_at_first}
use Rattle.std.proofs.lemmas.Option.{same_Some}
use Rattle.pool_law.specs.declared.run.Level.{Level}
use Rattle.pool_law.specs.declared.run.Level.TheVariants.{Disabled, Simple, Advanced, Paranoid}
use Rattle.run_words.specs.declared.settings.Setting.{Setting}
use Rattle.run_words.specs.declared.settings.Setting.TheVariants.{Order, Arenas, Chunks, Handles, Workers, Interval, Generate, Lanes, Commands}
use Rattle.run_words.specs.declared.asked.Given.{Given}
use Rattle.run_words.specs.declared.asked.Given.TheVariants as givens
use Rattle.run_words.specs.declared.words.RunOptions.{RunOptions}
use Rattle.trace_text.specs.Options.{level_named, level_word, levels}
use Rattle.option_words.specs.Numerals.{is_numeral}
use Rattle.option_words.specs.Options.{given_alone, has_sign, is_sign, is_whole, with_given}
use Rattle.run_words.specs.Settings.{history_name, is_within, level_name, named, number_for, row_of, settings}
use Rattle.run_words.specs.Words.{flag_given, given_by, givens_in, level_given, number_given, options_given, options_of}
use Rattle.option_words.proofs.Firsts.{kept}
use Rattle.run_words.proofs.WordLaws.{inside}
use Rattle.run_words.specs.WordForm.{HasForm, IsNumberFor, IsValued, OfHistory, OfLevel, OfNumber, Written, given_of, name_and_value, words_of}

-- ---- names and signs

-- the name of an option with a number, or of the one with a level
abbrev name : Option Setting → List ℕ
name None = level_name
name (Some s) = (row_of s).name

-- name and value in one word
abbrev joined : Option Setting → List ℕ → List ℕ
joined o value = name o ++ codes "=" ++ value

named_name : (s : Setting) → named (row_of s).name ≡ Some s
unfolding named
named_name Order = refl
named_name Arenas = refl
named_name Chunks = refl
named_name Handles = refl
named_name Workers = refl
named_name Interval = refl
named_name Generate = refl
named_name Lanes = refl
named_name Commands = refl

no_level : (s : Setting) → bytes_eq (row_of s).name level_name ≡ false
no_level Order = refl
no_level Arenas = refl
no_level Chunks = refl
no_level Handles = refl
no_level Workers = refl
no_level Interval = refl
no_level Generate = refl
no_level Lanes = refl
no_level Commands = refl

not_whole : (o : Option Setting) → is_whole flag_given given_by (name o) ≡ false
unfolding flag_given
not_whole None = refl
not_whole (Some Order) = refl
not_whole (Some Arenas) = refl
not_whole (Some Chunks) = refl
not_whole (Some Handles) = refl
not_whole (Some Workers) = refl
not_whole (Some Interval) = refl
not_whole (Some Generate) = refl
not_whole (Some Lanes) = refl
not_whole (Some Commands) = refl

no_flag : (o : Option Setting) (value : List ℕ) → flag_given (joined o value) ≡ None
unfolding flag_given
no_flag None value = refl
no_flag (Some Order) value = refl
no_flag (Some Arenas) value = refl
no_flag (Some Chunks) value = refl
no_flag (Some Handles) value = refl
no_flag (Some Workers) value = refl
no_flag (Some Interval) value = refl
no_flag (Some Generate) value = refl
no_flag (Some Lanes) value = refl
no_flag (Some Commands) value = refl

sign_at : (o : Option Setting) (value : List ℕ) → position_or_len is_sign (joined o value) ≡ length (name o)
sign_at None value = refl
sign_at (Some Order) value = refl
sign_at (Some Arenas) value = refl
sign_at (Some Chunks) value = refl
sign_at (Some Handles) value = refl
sign_at (Some Workers) value = refl
sign_at (Some Interval) value = refl
sign_at (Some Generate) value = refl
sign_at (Some Lanes) value = refl
sign_at (Some Commands) value = refl

split_at : (o : Option Setting) (value : List ℕ)
    → given_by (before_first is_sign (joined o value)) (after_first is_sign (joined o value)) ≡ given_by (name o) value
split_at None value = refl
split_at (Some Order) value = refl
split_at (Some Arenas) value = refl
split_at (Some Chunks) value = refl
split_at (Some Handles) value = refl
split_at (Some Workers) value = refl
split_at (Some Interval) value = refl
split_at (Some Generate) value = refl
split_at (Some Lanes) value = refl
split_at (Some Commands) value = refl

parts : (o : Option Setting) (value : List ℕ)
    → given_alone flag_given given_by (joined o value) ≡ given_by (name o) value
parts o value = rw (no_flag o value) (split_at o value)

sign_in : (o : Option Setting) (value : List ℕ) → is_whole flag_given given_by (joined o value) ≡ true
sign_in o value =
    let long = length-append (name o ++ codes "=") value in
    let front = length-append (name o) (codes "=") in
    let inside : position_or_len is_sign (joined o value) < length (joined o value) =
    rw (sign_at o value) (omega (arith, long, front)) in
    let sign : has_sign (joined o value) ≡ true = grind (arith, nat_tests) in
    rw (no_flag o value, sign) refl

-- ---- what is written is read

number_back : (s : Setting) (value : List ℕ) → IsNumberFor s value
    → given_by (row_of s).name value ≡ Some (givens.Number s (digits_value 10 value))
unfolding given_by number_given number_for
number_back s value valued =
    let least : nat_le (row_of s).least (digits_value 10 value) ≡ true =
    grind (arith, nat_tests, valued.least) in
    let greatest : nat_le (digits_value 10 value) (row_of s).greatest ≡ true =
    grind (arith, nat_tests, valued.greatest) in
    rw (no_level s, named_name s, valued.numeral, least, greatest) refl

level_back : (l : Level) → given_by level_name (level_word l) ≡ Some (givens.Level l)
unfolding given_by level_named
level_back Disabled = refl
level_back Simple = refl
level_back Advanced = refl
level_back Paranoid = refl

givens_one : (word : List ℕ) (rest : List (List ℕ)) → is_whole flag_given given_by word ≡ true
    → givens_in (word ∷ rest) ≡ with_given (given_alone flag_given given_by word) (givens_in rest)
givens_one word [] e = rw e refl
givens_one word (next ∷ words) e = rw e refl

givens_two : (word next : List ℕ) (rest : List (List ℕ)) → is_whole flag_given given_by word ≡ false
    → givens_in (word ∷ next ∷ rest) ≡ with_given (given_by word next) (givens_in rest)
givens_two word next rest e = rw e refl

valued_back : (o : Option Setting) (value : List ℕ) (in_one : Bool) (rest : List (List ℕ)) (g : Given) (gs : List Given)
    → given_by (name o) value ≡ Some g → givens_in rest ≡ Some gs
    → givens_in (name_and_value (name o) value in_one ++ rest) ≡ Some (g ∷ gs)
valued_back o value true rest g gs here there =
    givens_one (joined o value) rest (sign_in o value) ∙ rw (parts o value, here, there) refl
valued_back o value false rest g gs here there = givens_two (name o) value rest (not_whole o) ∙ rw (here, there) refl

first_back : (w : Written) (rest : List (List ℕ)) (gs : List Given) → IsValued w → givens_in rest ≡ Some gs
    → givens_in (words_of w ++ rest) ≡ Some (given_of w ∷ gs)
unfolding flag_given
first_back (OfNumber s value in_one) rest gs valued there =
    valued_back (Some s) value in_one rest (givens.Number s (digits_value 10 value)) gs (number_back s value valued)
    there
first_back (OfLevel l in_one) rest gs valued there =
    valued_back None (level_word l) in_one rest (givens.Level l) gs (level_back l) there
first_back OfHistory rest gs valued there = givens_one history_name rest refl ∙ rw there refl

pub read_back : (ws : List Written) → All IsValued ws → givens_in (flat_map words_of ws) ≡ Some (map given_of ws)
read_back [] h = refl
read_back (w ∷ ws) h =
    first_back w (flat_map words_of ws) (map given_of ws) (All-head IsValued w ws h)
    (read_back ws (All-tail IsValued w ws h))

-- ---- what is read is written

none_some : {X : Type 0} (x : X) → None ≡ Some x → ⊥
none_some x e = cc

found_passes : {X : Type 0} (p : X → Bool) (xs : List X) (x : X) → find p xs ≡ Some x → p x ≡ true
found_passes p [] x e = absurd (none_some x e)
found_passes {X} p (y ∷ ys) x e =
    elim (p y) as (λ (b : Bool). p y ≡ b → cond b (Some y) (find p ys) ≡ Some x → p x ≡ true) [
      | true ↦ λ passes f. subst (λ (z : X). p z ≡ true) (same_Some y x f) passes
      | false ↦ λ fails f. found_passes p ys x f
    ] refl e

name_back : (n : List ℕ) (s : Setting) → named n ≡ Some s → n ≡ (row_of s).name
unfolding named
name_back n s e =
    sym ((bytes_decides (row_of s).name n).0 (found_passes (λ (t : Setting). bytes_eq (row_of t).name n) settings s e))

word_back : (text : List ℕ) (l : Level) → level_named text ≡ Some l → text ≡ level_word l
unfolding level_named
word_back text l e =
    sym ((bytes_decides (level_word l) text).0 (found_passes (λ (k : Level). bytes_eq (level_word k) text) levels l e))

-- how an option was written that a name and a text give
record Reads (n text : List ℕ) (g : Given) (in_one : Bool) : Type 0 where
  written : Written
  spelling : name_and_value n text in_one ≡ words_of written
  valued : IsValued written
  giving : given_of written ≡ g

reads_number : (n text : List ℕ) (s : Setting) (k : ℕ) (in_one : Bool) → named n ≡ Some s → number_for s text ≡ Some k
    → Reads n text (givens.Number s k) in_one
unfolding number_for
reads_number n text s k in_one is has =
    let h = kept (is_numeral text) (is_within (row_of s) (digits_value 10 text)) (digits_value 10 text) k has in
    let range = inside (row_of s) (digits_value 10 text) h.1 in
    record {
      written = OfNumber s text in_one;
      spelling = ap (λ (m : List ℕ). name_and_value m text in_one) (name_back n s is);
      valued = record { numeral = h.0; least = range.0; greatest = range.1 };
      giving = ap (givens.Number s) h.2;
    }

reads_by_number : (n text : List ℕ) (g : Given) (in_one : Bool) → number_given n text ≡ Some g → Reads n text g in_one
unfolding number_given
reads_by_number n text g in_one e =
    elim (named n) as (λ (o : Option Setting). named n ≡ o
    → option_and_then (λ s. option_map (λ k. givens.Number s k) (number_for s text)) o ≡ Some g
    → Reads n text g in_one) [
      | None ↦ λ is f. absurd (none_some g f)
      | Some s ↦ λ is f. elim (number_for s text) as (λ (o : Option ℕ). number_for s text ≡ o
          → option_map (λ k. givens.Number s k) o ≡ Some g → Reads n text g in_one) [
            | None ↦ λ has h. absurd (none_some g h)
            | Some k ↦ λ has h.
                subst (λ (x : Given). Reads n text x in_one) (same_Some _ g h) (reads_number n text s k in_one is has)
          ] refl f
    ] refl e

reads_level : (n text : List ℕ) (l : Level) (in_one : Bool) → n ≡ level_name → level_named text ≡ Some l
    → Reads n text (givens.Level l) in_one
reads_level n text l in_one is has = record {
  written = OfLevel l in_one;
  spelling = rw (is, word_back text l has) refl;
  valued = tt;
  giving = refl;
}

reads_by_level : (n text : List ℕ) (g : Given) (in_one : Bool) → n ≡ level_name → level_given text ≡ Some g
    → Reads n text g in_one
reads_by_level n text g in_one is e =
    elim (level_named text) as (λ (o : Option Level). level_named text ≡ o
    → option_map (λ l. givens.Level l) o ≡ Some g → Reads n text g in_one) [
      | None ↦ λ has f. absurd (none_some g f)
      | Some l ↦ λ has f. subst (λ (x : Given). Reads n text x in_one) (same_Some _ g f)
          (reads_level n text l in_one is has)
    ] refl e

reads : (n text : List ℕ) (g : Given) (in_one : Bool) → given_by n text ≡ Some g → Reads n text g in_one
unfolding given_by
reads n text g in_one e =
    elim (bytes_eq n level_name) as (λ (b : Bool). bytes_eq n level_name ≡ b
    → (if b then level_given text else number_given n text) ≡ Some g → Reads n text g in_one) [
      | true ↦ λ is f. reads_by_level n text g in_one ((bytes_decides n level_name).0 is) f
      | false ↦ λ is f. reads_by_number n text g in_one f
    ] refl e

-- these words were written so, and give these options
pub record Spells (words : List (List ℕ)) (gs : List Given) : Type 0 where
  pub written : List Written
  pub spelling : words ≡ flat_map words_of written
  pub values : All IsValued written
  pub giving : map given_of written ≡ gs

-- one more option is written
written_first : (w : Written) (words rest : List (List ℕ)) (g : Given) (gs : List Given)
    → words ≡ words_of w ++ rest → IsValued w → given_of w ≡ g → Spells rest gs → Spells words (g ∷ gs)
written_first w words rest g gs split valued giving others = record {
  written = w ∷ others.written;
  spelling = split ∙ ap (λ (r : List (List ℕ)). words_of w ++ r) others.spelling;
  values = All-cons IsValued w others.written valued others.values;
  giving = rw (giving, others.giving) refl;
}

-- what is given first
record Splits (given : Option Given) (others : Option (List Given)) (gs : List Given) : Type 0 where
  first : Given
  rest : List Given
  here : given ≡ Some first
  there : others ≡ Some rest
  all : first ∷ rest ≡ gs

splits : (given : Option Given) (others : Option (List Given)) (gs : List Given) → with_given given others ≡ Some gs
    → Splits given others gs
splits None others gs e = absurd (none_some gs e)
splits (Some g) None gs e = absurd (none_some gs e)
splits (Some g) (Some hs) gs e =
    record { first = g; rest = hs; here = refl; there = refl; all = same_Some (g ∷ hs) gs e }

nothing_spelled : (gs : List Given) → Some [] ≡ Some gs → Spells [] gs
nothing_spelled gs e = record { written = []; spelling = refl; values = All-nil IsValued; giving = same_Some [] gs e }

-- a word round its first sign
cut : (word : List ℕ) → has_sign word ≡ true → word ≡ before_first is_sign word ++ codes "=" ++ after_first is_sign word
cut word e =
    let inside : position_or_len is_sign word < length word = grind (arith, nat_tests) in
    let passes : (get_or word (position_or_len is_sign word) 0 == 61) ≡ true =
    passes_at_first is_sign word 0 inside in
    let sign : get_or word (position_or_len is_sign word) 0 ≡ 61 = grind (arith, nat_tests) in
    rw sign at (split_at_first is_sign word 0 inside)
    ∙ sym (append_assoc (before_first is_sign word) (codes "=") (after_first is_sign word))

-- a name and a value give the first option
valued_first : (n text : List ℕ) (in_one : Bool) (words rest : List (List ℕ)) (g : Given) (gs : List Given)
    → words ≡ name_and_value n text in_one ++ rest → given_by n text ≡ Some g → Spells rest gs → Spells words (g ∷ gs)
valued_first n text in_one words rest g gs split e others =
    let r = reads n text g in_one e in
    let here = split ∙ ap (λ (ws : List (List ℕ)). ws ++ rest) r.spelling in
    written_first r.written words rest g gs here r.valued r.giving others

-- the option without a value is written by its name
flag_back : (word : List ℕ) (g : Given) → flag_given word ≡ Some g → (word ≡ history_name) × (givens.History ≡ g)
unfolding flag_given
flag_back word g e =
    elim (bytes_eq word history_name) as (λ (b : Bool). bytes_eq word history_name ≡ b
    → (if b then Some givens.History else None) ≡ Some g → (word ≡ history_name) × (givens.History ≡ g)) [
      | true ↦ λ is f. ((bytes_decides word history_name).0 is, same_Some _ g f)
      | false ↦ λ is f. absurd (none_some g f)
    ] refl e

-- a word that is a whole option gives it
alone_first : (word : List ℕ) (rest : List (List ℕ)) (g : Given) (gs : List Given)
    → is_whole flag_given given_by word ≡ true
    → given_alone flag_given given_by word ≡ Some g → Spells rest gs → Spells (word ∷ rest) (g ∷ gs)
alone_first word rest g gs whole e others =
    elim (flag_given word) as (λ (o : Option Given). flag_given word ≡ o → (is_some o || has_sign word) ≡ true
    → (if is_some o then o else given_by (before_first is_sign word) (after_first is_sign word)) ≡ Some g
    → Spells (word ∷ rest) (g ∷ gs)) [
      | Some h ↦ λ flag sign f.
          let is = flag_back word h flag in
          let here = ap (λ (x : List ℕ). x ∷ rest) is.0 in
          written_first OfHistory (word ∷ rest) rest g gs here tt (is.1 ∙ same_Some h g f) others
      | None ↦ λ flag sign f.
          let split = ap (λ (x : List ℕ). x ∷ rest) (cut word sign) in
          valued_first _ _ true (word ∷ rest) rest g gs split f others
    ] refl whole e

-- one word gives the first option
one_first : (word : List ℕ) (rest : List (List ℕ)) (others : Option (List Given)) (gs : List Given)
    → is_whole flag_given given_by word ≡ true
    → with_given (given_alone flag_given given_by word) others ≡ Some gs
    → ((hs : List Given) → others ≡ Some hs → Spells rest hs) → Spells (word ∷ rest) gs
one_first word rest others gs whole e more =
    let s = splits (given_alone flag_given given_by word) others gs e in
    subst (Spells (word ∷ rest)) s.all (alone_first word rest s.first s.rest whole s.here (more s.rest s.there))

-- two words give the first option
two_first : (word next : List ℕ) (rest : List (List ℕ)) (others : Option (List Given)) (gs : List Given)
    → with_given (given_by word next) others ≡ Some gs
    → ((hs : List Given) → others ≡ Some hs → Spells rest hs) → Spells (word ∷ next ∷ rest) gs
two_first word next rest others gs e more =
    let s = splits (given_by word next) others gs e in
    let words : List (List ℕ) = word ∷ next ∷ rest in
    subst (Spells words) s.all
    (valued_first word next false words rest s.first s.rest refl s.here (more s.rest s.there))

pub spelled : (words : List (List ℕ)) (gs : List Given) → givens_in words ≡ Some gs → Spells words gs
spelled [] gs e = nothing_spelled gs e
spelled (word ∷ []) gs e =
    elim (is_whole flag_given given_by word) as (λ (b : Bool). is_whole flag_given given_by word ≡ b
    → (if b then with_given (given_alone flag_given given_by word) (Some []) else None) ≡ Some gs
    → Spells (word ∷ []) gs) [
      | true ↦ λ sign f. one_first word [] (Some []) gs sign f nothing_spelled
      | false ↦ λ sign f. absurd (none_some gs f)
    ] refl e
spelled (word ∷ next ∷ words) gs e =
    elim (is_whole flag_given given_by word) as (λ (b : Bool). is_whole flag_given given_by word ≡ b
    → (if b then with_given (given_alone flag_given given_by word) (givens_in (next ∷ words))
    else with_given (given_by word next) (givens_in words)) ≡ Some gs
    → Spells (word ∷ next ∷ words) gs) [
      | true ↦ λ sign f.
          one_first word (next ∷ words) (givens_in (next ∷ words)) gs sign f (λ hs h. spelled (next ∷ words) hs h)
      | false ↦ λ sign f. two_first word next words (givens_in words) gs f (λ hs h. spelled words hs h)
    ] refl e

-- ---- both ways

pub form_from : (words : List (List ℕ)) (options : RunOptions) → options_of words ≡ Some options → HasForm words options
unfolding options_of
form_from words options e =
    elim (givens_in words) as (λ (gs : Option (List Given)). givens_in words ≡ gs
    → option_and_then options_given gs ≡ Some options → HasForm words options) [
      | None ↦ λ is f. absurd (none_some options f)
      | Some gs ↦ λ is f.
          let s = spelled words gs is in
          record { written = s.written; spelling = s.spelling; values = s.values; asked = rw s.giving f }
    ] refl e

pub form_to : (words : List (List ℕ)) (options : RunOptions) → HasForm words options → options_of words ≡ Some options
unfolding options_of
form_to words options h = rw (h.spelling, read_back h.written h.values) h.asked
