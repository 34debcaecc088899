-- The lines of replies, and their words.
use Rattle.std.specs.Prelude.{slice_get, map, Some}
use Rattle.std.proofs.lemmas.List.{map-append, take_more}
use Rattle.std.proofs.Common.{append-nil, ◌≢◌, ◌≡◌, ℕ, suc, ◌+◌, ◌<◌, ◌^◌, true, false, List, [], ◌∷◌, ◌++◌, length, get_or, take, drop, refl, sym, ap, ◌∙◌, arith, codes, decimal, zero, length-append, append_assoc, subst, Result, Ok, Err}
use Rattle.pool_law.specs.declared.command.Command.{Command}
use Rattle.pool_law.specs.declared.run.Reply.{Reply}
use Rattle.pool_law.specs.Text.{Text, command_word, dotted, reply_words, spaced}
use Rattle.run_text.specs.Answering.{FitLanes, FitReplies, FitsReply, Tale, lanes_texts, reply_text, reply_texts, tale_of}
use Rattle.std.specs.Str.{bytes_eq}
use Rattle.std.proofs.lemmas.Bool.{false≢true}
use Rattle.std.proofs.lemmas.Slice.Eq.{bytes_eq-Decides}
use Rattle.run_text.specs.Reading.{Gives, is_word}
use Rattle.run_text.specs.declared.TextNo.{TextNo}
use Rattle.run_text.proofs.PlaceLemmas.{text_behind}
use Rattle.run_text.proofs.WordLemmas.{head, lacks-append, lacks-cons, lacks-decimal}

-- the number of a line is a word
pub is_word-dotted : (a b : ℕ) → a < 2 ^ 64 → b < 2 ^ 64 → is_word (dotted a b) ≡ true
is_word-dotted a b low least =
    lacks-append 32 (decimal a) (46 ∷ decimal b) (lacks-decimal 32 a (omega arith) low)
    (lacks-cons 32 46 (decimal b) (omega arith) (lacks-decimal 32 b (omega arith) least))

-- and so is that of a command
pub is_word-command : (c : Command) → is_word (command_word c) ≡ true
is_word-command (Command.Alloc name size) = refl
is_word-command (Command.Set name at bytes true) = refl
is_word-command (Command.Set name at bytes false) = refl
is_word-command (Command.Get name at len true) = refl
is_word-command (Command.Get name at len false) = refl
is_word-command (Command.Write name bytes) = refl
is_word-command (Command.Read name len) = refl
is_word-command (Command.Slice fresh name at len true) = refl
is_word-command (Command.Slice fresh name at len false) = refl
is_word-command (Command.Dup fresh name) = refl
is_word-command (Command.Retain name) = refl
is_word-command (Command.Release name) = refl
is_word-command (Command.Refcnt name) = refl
is_word-command (Command.Touch name) = refl
is_word-command (Command.Forget name) = refl
is_word-command (Command.Send name lane) = refl
is_word-command (Command.Recv fresh lane) = refl
is_word-command (Command.Compose fresh names) = refl
is_word-command (Command.Add whole name) = refl
is_word-command (Command.Capacity name size) = refl

abbrev pub no_reply : Reply
no_reply = Reply.Ok

-- as many replies as commands, each with a line
pub replies_many : (cs : List Command) (rs : List Reply) → FitReplies cs rs → length rs ≡ length cs
replies_many [] [] fits = refl
replies_many [] (r ∷ rs) fits = absurd fits
replies_many (c ∷ cs) [] fits = absurd fits
replies_many (c ∷ cs) (r ∷ rs) fits = ap suc (replies_many cs rs fits.1)

pub texts_many : (lane at : ℕ) (cs : List Command) (rs : List Reply) → FitReplies cs rs
    → length (reply_texts lane at cs rs) ≡ length cs
texts_many lane at [] rs fits = refl
texts_many lane at (c ∷ cs) [] fits = absurd fits
texts_many lane at (c ∷ cs) (r ∷ rs) fits = ap suc (texts_many lane (suc at) cs rs fits.1)

-- that of a command
pub fits_at : (cs : List Command) (rs : List Reply) → FitReplies cs rs → (k : ℕ) → k < length cs → (dc : Command)
    → FitsReply (get_or cs k dc) (get_or rs k no_reply)
fits_at [] rs fits k low dc = absurd (omega arith)
fits_at (c ∷ cs) [] fits k low dc = absurd fits
fits_at (c ∷ cs) (r ∷ rs) fits zero low dc = fits.0
fits_at (c ∷ cs) (r ∷ rs) fits (suc k) low dc = fits_at cs rs fits.1 k (omega (arith, low)) dc

pub text_at : (lane at : ℕ) (cs : List Command) (rs : List Reply) → FitReplies cs rs → (k : ℕ) → k < length cs
    → (dc : Command)
    → get_or (reply_texts lane at cs rs) k [] ≡ reply_text lane (k + at) (get_or cs k dc) (get_or rs k no_reply)
text_at lane at [] rs fits k low dc = absurd (omega arith)
text_at lane at (c ∷ cs) [] fits k low dc = absurd fits
text_at lane at (c ∷ cs) (r ∷ rs) fits zero low dc =
    let same : at ≡ zero + at = omega arith in
    ap (λ n. reply_text lane n c r) same
text_at lane at (c ∷ cs) (r ∷ rs) fits (suc k) low dc =
    text_at lane (suc at) cs rs fits.1 k (omega (arith, low)) dc
    ∙ ap (λ n. reply_text lane n (get_or cs k dc) (get_or rs k no_reply)) (next k)
  where
    next : (n : ℕ) → n + suc at ≡ suc n + at
    next n = omega arith

-- the line at a command, and its reply
module _ (texts front back : List Text) (lane from k at : ℕ) (cs : List Command) (rs : List Reply)
    (fits : FitReplies cs rs) (is : texts ≡ front ++ (reply_texts lane 0 cs rs ++ back))
    (long : length front ≡ from) (placed : at ≡ from + k) (low : k < length cs) (c : Command)
    (item : c ≡ get_or cs k c) where
  pub line_here : slice_get texts at
      ≡ Some (spaced (dotted lane k ∷ command_word c ∷ (reply_words (get_or rs k no_reply) ++ [])))
  line_here =
      let there : at ≡ length front + k = omega (arith, long, placed) in
      let inside : k < length (reply_texts lane 0 cs rs) = omega (arith, low, texts_many lane 0 cs rs fits) in
      let number : k + 0 ≡ k = omega arith in
      ap (λ (t : List Text). slice_get t at) is
      ∙ ap (λ m. slice_get (front ++ (reply_texts lane 0 cs rs ++ back)) m) there
      ∙ text_behind front (reply_texts lane 0 cs rs) back k inside
      ∙ ap Some (text_at lane 0 cs rs fits k low c
      ∙ (λ i. reply_text lane (number i) (sym item i) (get_or rs k no_reply))
      ∙ ap (λ (words : List Text). spaced (dotted lane k ∷ command_word c ∷ words))
      (sym (append-nil (reply_words (get_or rs k no_reply)))))

  pub fits_here : FitsReply c (get_or rs k no_reply)
  fits_here = subst (λ (x : Command). FitsReply x (get_or rs k no_reply)) (sym item) (fits_at cs rs fits k low c)

  pub room : at < length texts
  room =
      omega (
        arith,
        ap length is,
        length-append front (reply_texts lane 0 cs rs ++ back),
        length-append (reply_texts lane 0 cs rs) back,
        texts_many lane 0 cs rs fits,
        low,
        placed,
        long,
      )

  -- one more of them
  pub one_more_reply : (old new : List Reply) (reply : Reply) → new ≡ old ++ reply ∷ [] → old ≡ take k rs
      → reply ≡ get_or rs k no_reply → new ≡ take (k + 1) rs
  one_more_reply old new reply pushed were read =
      pushed
      ∙ (λ i. were i ++ read i ∷ [])
      ∙ sym (take_more rs k no_reply (omega (arith, low, replies_many cs rs fits)))

-- ---- Lane by lane.

-- as many lanes with replies as there are
pub lanes_many : (css : List (List Command)) (all : List (List Reply)) → FitLanes css all → length all ≡ length css
lanes_many [] [] fits = refl
lanes_many [] (rs ∷ all) fits = absurd fits
lanes_many (cs ∷ css) [] fits = absurd fits
lanes_many (cs ∷ css) (rs ∷ all) fits = ap suc (lanes_many css all fits.1)

pub lane_fits : (css : List (List Command)) (all : List (List Reply)) → FitLanes css all → (k : ℕ) → k < length css
    → (d : List Command) → FitReplies (get_or css k d) (get_or all k [])
lane_fits [] all fits k low d = absurd (omega arith)
lane_fits (cs ∷ css) [] fits k low d = absurd fits
lane_fits (cs ∷ css) (rs ∷ all) fits zero low d = fits.0
lane_fits (cs ∷ css) (rs ∷ all) fits (suc k) low d = lane_fits css all fits.1 k (omega (arith, low)) d

-- what comes before a lane's lines, and behind them
pub lanes_parted : (lane : ℕ) (css : List (List Command)) (all : List (List Reply)) → FitLanes css all → (k : ℕ)
    → k < length css → (d : List Command)
    → lanes_texts lane css all
    ≡ lanes_texts lane (take k css) (take k all)
    ++ (reply_texts (k + lane) 0 (get_or css k d) (get_or all k [])
    ++ lanes_texts (suc k + lane) (drop (suc k) css) (drop (suc k) all))
lanes_parted lane [] all fits k low d = absurd (omega arith)
lanes_parted lane (cs ∷ css) [] fits k low d = absurd fits
lanes_parted lane (cs ∷ css) (rs ∷ all) fits zero low d =
    let same : lane ≡ zero + lane = omega arith in
    let next : suc lane ≡ suc zero + lane = omega arith in
    (λ i. reply_texts (same i) 0 cs rs ++ lanes_texts (next i) css all)
lanes_parted lane (cs ∷ css) (rs ∷ all) fits (suc k) low d =
    let same : k + suc lane ≡ suc k + lane = omega arith in
    let next : suc k + suc lane ≡ suc (suc k) + lane = omega arith in
    ap (λ (rest : List Text). reply_texts lane 0 cs rs ++ rest)
    (lanes_parted (suc lane) css all fits.1 k (omega (arith, low)) d)
    ∙ (λ i. reply_texts lane 0 cs rs ++ (lanes_texts (suc lane) (take k css) (take k all)
    ++ (reply_texts (same i) 0 (get_or css k d) (get_or all k [])
    ++ lanes_texts (next i) (drop (suc k) css) (drop (suc k) all))))
    ∙ sym (append_assoc (reply_texts lane 0 cs rs) (lanes_texts (suc lane) (take k css) (take k all))
    (reply_texts (suc k + lane) 0 (get_or css k d) (get_or all k [])
    ++ lanes_texts (suc (suc k) + lane) (drop (suc k) css) (drop (suc k) all)))

-- one lane more
lanes_suc : (lane : ℕ) (css : List (List Command)) (all : List (List Reply)) → FitLanes css all → (k : ℕ)
    → k < length css
    → length (lanes_texts lane (take (suc k) css) (take (suc k) all))
    ≡ length (lanes_texts lane (take k css) (take k all)) + length (get_or all k [])
lanes_suc lane [] all fits k low = absurd (omega arith)
lanes_suc lane (cs ∷ css) [] fits k low = absurd fits
lanes_suc lane (cs ∷ css) (rs ∷ all) fits zero low =
    omega (
      arith,
      length-append (reply_texts lane 0 cs rs) [],
      texts_many lane 0 cs rs fits.0,
      replies_many cs rs fits.0,
    )
lanes_suc lane (cs ∷ css) (rs ∷ all) fits (suc k) low =
    omega (
      arith,
      lanes_suc (suc lane) css all fits.1 k (omega (arith, low)),
      length-append (reply_texts lane 0 cs rs) (lanes_texts (suc lane) (take (suc k) css) (take (suc k) all)),
      length-append (reply_texts lane 0 cs rs) (lanes_texts (suc lane) (take k css) (take k all)),
    )

pub lanes_more : (css : List (List Command)) (all : List (List Reply)) → FitLanes css all → (k : ℕ)
    → k < length css
    → length (lanes_texts 0 (take (k + 1) css) (take (k + 1) all))
    ≡ length (lanes_texts 0 (take k css) (take k all)) + length (get_or all k [])
lanes_more css all fits k low =
    let next : k + 1 ≡ suc k = omega arith in
    ap (λ n. length (lanes_texts 0 (take n css) (take n all))) next ∙ lanes_suc 0 css all fits k low

-- a refusal is a reply that is read
pub refused_so : (r : Result Reply TextNo) (reply : Reply) (left : Text) (more : List Text) → r ≡ Ok reply
    → left ≡ spaced more → Gives r left reply more
refused_so (Ok y) reply left more e is = (let same : y ≡ reply = cc in same, is)
refused_so (Err why) reply left more e is = cc

-- what is told of a command that is done
pub behind_ok : (words told : List Text) → codes "ok" ∷ words ≡ codes "ok" ∷ told → words ≡ told
behind_ok words told e = cc

-- and of no other
pub other_first : (words told : List Text) → words ≡ codes "ok" ∷ told → bytes_eq (head words) (codes "ok") ≡ false
    → ⊥
other_first words told e apart =
    false≢true (sym apart ∙ (bytes_eq-Decides (head words) (codes "ok")).1 (ap head e))

-- what stands before the lines of a lane, and behind them
abbrev pub before_lane : List (List Command) → List (List Reply) → ℕ → List Text
before_lane css all k = lanes_texts 0 (take k css) (take k all)

abbrev pub behind_lane : List (List Command) → List (List Reply) → List Text → ℕ → List Text
behind_lane css all back k = lanes_texts (suc k + 0) (drop (suc k) css) (drop (suc k) all) ++ back

module _ (texts back : List Text) (css : List (List Command)) (all : List (List Reply)) (fits : FitLanes css all)
    (is : texts ≡ lanes_texts 0 css all ++ back) (k at : ℕ) (low : k < length css)
    (placed : at ≡ length (before_lane css all k)) (cs d : List Command) (item : cs ≡ get_or css k d) where
  pub fits_lane : FitReplies cs (get_or all k [])
  fits_lane =
      subst (λ (these : List Command). FitReplies these (get_or all k [])) (sym item) (lane_fits css all fits k low d)

  pub is_lane : texts
      ≡ before_lane css all k ++ (reply_texts (k + 0) 0 cs (get_or all k []) ++ behind_lane css all back k)
  is_lane =
      is
      ∙ ap (λ (t : List Text). t ++ back) (lanes_parted 0 css all fits k low d)
      ∙ append_assoc (before_lane css all k)
      (reply_texts (k + 0) 0 (get_or css k d) (get_or all k [])
      ++ lanes_texts (suc k + 0) (drop (suc k) css) (drop (suc k) all)) back
      ∙ ap (λ (t : List Text). before_lane css all k ++ t)
      (append_assoc (reply_texts (k + 0) 0 (get_or css k d) (get_or all k []))
      (lanes_texts (suc k + 0) (drop (suc k) css) (drop (suc k) all)) back)
      ∙ (λ i. before_lane css all k
      ++ (reply_texts (k + 0) 0 (sym item i) (get_or all k []) ++ behind_lane css all back k))

  pub lane_long : length (before_lane css all k) ≡ at
  lane_long = sym placed

-- one more of them
pub one_more_lane : {V : Type 0} (f : V → List Reply) (all : List (List Reply)) (k : ℕ) → k < length all
    → (old new : List V) (v : V) → new ≡ old ++ v ∷ [] → map f old ≡ take k all → f v ≡ get_or all k []
    → map f new ≡ take (k + 1) all
one_more_lane f all k low old new v pushed were read =
    ap (map f) pushed
    ∙ map-append f old (v ∷ [])
    ∙ (λ i. were i ++ read i ∷ [])
    ∙ sym (take_more all k [] low)

-- an allocation tells of a place alone
pub tale_is : (c : Command) (name size : ℕ) (tale : Tale) → c ≡ Command.Alloc name size → tale_of c ≡ tale
    → Tale.OfPlace ≡ tale
tale_is c name size tale e is = ap tale_of (sym e) ∙ is

pub not_bare : Tale.OfPlace ≢ Tale.Bare
not_bare e = cc

pub not_bytes : Tale.OfPlace ≢ Tale.OfBytes
not_bytes e = cc

pub not_number : Tale.OfPlace ≢ Tale.OfNumber
not_number e = cc
