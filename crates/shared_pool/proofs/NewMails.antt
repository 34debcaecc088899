-- The mails of a new pool, and their first passes.
use Rattle.std.proofs.Common.{◌≡◌, ℕ, ◌+◌, ◌*◌, ◌<◌, ◌≤◌, List, [], ◌∷◌, ◌++◌, length, get_or, map, take, sym, ap, ◌∙◌, subst, arith, append_assoc, append-nil}
use Rattle.std.specs.Prelude.{HoldsAt}
use Rattle.std.specs.Global.{Vec}
use Rattle.std.proofs.lemmas.List.{get_or_append_left, get_or_push, length-map, length-take-le, length_push, map_push, take_more}
use Rattle.std.proofs.lemmas.Nat.{mul-le}
use Rattle.crossbeam_queue.specs.Passes.{Pass, view, IsPassOf}
use Rattle.shared_pool.specs.declared.mail.Mail.{Mail}
use Rattle.shared_pool.specs.MailEnds.{KnownEnds, no_ends}
use Rattle.shared_pool.specs.Posting.{PostedLetter}
use Rattle.shared_pool.specs.Dealing.{AreFirstPasses, AreFirstRows, IsFirstPass, Longer}
use Rattle.shared_pool.proofs.Dealings.{holds_push}

-- a pass on a mail, as contracts see it
abbrev pub EndPass : Type 0
EndPass = Pass PostedLetter KnownEnds

-- no mails are put behind the others, or one more is
longer_none : (mails : List Mail) → Longer mails mails
longer_none mails = record { more = []; is = sym (append-nil mails) }

pub longer_push : (old mid new : List Mail) (m : Mail) → Longer old mid → new ≡ mid ++ m ∷ [] → Longer old new
longer_push old mid new m longer is =
    record {
      more = longer.more ++ m ∷ [];
      is = is ∙ (ap (λ ms. ms ++ m ∷ []) longer.is ∙ append_assoc old longer.more (m ∷ []));
    }

-- a first pass stays one as mails are put behind the others
first_kept : (old new : List Mail) (i : ℕ) (p : EndPass) → Longer old new → i < length old → IsFirstPass old i p
    → IsFirstPass new i p
first_kept old new i p longer lt is d =
    subst (λ m. IsPassOf m.queue p × (view p ≡ no_ends))
    (sym (ap (λ ms. get_or ms i d) longer.is ∙ get_or_append_left old longer.more d i lt)) (is d)

-- so do those of many mails
passes_kept : (old new : List Mail) (start count : ℕ) (ps : List EndPass) → Longer old new
    → start + count ≤ length old → AreFirstPasses old start count ps → AreFirstPasses new start count ps
passes_kept old new start count ps longer le are =
    record {
      many = are.many;
      each = λ k lt d.
          first_kept old new (start + k) (get_or ps k d) longer (omega (arith, lt, le)) (are.each k lt d);
    }

-- with one mail more, its first pass goes behind the others
pub passes_push : (old new : List Mail) (m : Mail) (start count : ℕ) (ps qs : List EndPass) (p : EndPass)
    → length old ≡ start + count → AreFirstPasses old start count ps → new ≡ old ++ m ∷ [] → qs ≡ ps ++ p ∷ []
    → IsPassOf m.queue p × (view p ≡ no_ends) → AreFirstPasses new start (count + 1) qs
passes_push old new m start count ps qs p at are is more of =
    let kept = passes_kept old new start count ps (longer_push old old new m (longer_none old) is)
    (omega (arith, at)) are in
    record {
      many = ap length more ∙ (length_push ps p ∙ ap (λ n. n + 1) are.many);
      each = holds_push (λ k. IsFirstPass new (start + k)) count ps qs p are.many kept.each here more;
    }
  where
    here : IsFirstPass new (start + count) p
    here d =
        subst (λ x. IsPassOf x.queue p × (view p ≡ no_ends))
        (sym (ap (λ ms. get_or ms (start + count) d) is ∙ get_or_push old m d (start + count) at)) of

-- a row ends before the next ones
row_below : (k lanes count : ℕ) → k < count → k * lanes + lanes ≤ count * lanes
row_below k lanes count lt =
    let e = mul-le (k + 1) lanes count lanes (omega (arith, lt)) (omega arith) in omega (arith, e)

-- one lane's row goes behind the others
pub rows_push : (old new : List Mail) (lanes count : ℕ) (rows more : List (Vec EndPass)) (row : Vec EndPass)
    → length old ≡ count * lanes → Longer old new → AreFirstRows old lanes count rows
    → AreFirstPasses new (count * lanes) lanes row.items → more ≡ rows ++ row ∷ []
    → AreFirstRows new lanes (count + 1) more
rows_push old new lanes count rows more row at longer are last is =
    record {
      many = ap length is ∙ (length_push rows row ∙ ap (λ n. n + 1) are.many);
      each =
          holds_push (λ k (r : Vec EndPass). AreFirstPasses new (k * lanes) lanes r.items) count rows more row are.many
          kept last is;
    }
  where
    kept : (k : ℕ) → k < count → HoldsAt (λ (r : Vec EndPass). AreFirstPasses new (k * lanes) lanes r.items) rows k
    kept k lt d =
        passes_kept old new (k * lanes) lanes (get_or rows k d).items longer
        (let below = row_below k lanes count lt in omega (arith, below, at)) (are.each k lt d)

-- how many mails there are, by their rooms
pub mails_many : (mails : List Mail) (n : ℕ) (rooms : List ℕ) → map (λ m. m.room) mails ≡ take n rooms
    → n ≤ length rooms
    → length mails ≡ n
mails_many mails n rooms are le = sym (length-map mails (λ m. m.room)) ∙ (ap length are ∙ length-take-le n rooms le)

-- with one mail more they have the next room too
pub rooms_push : (old new : List Mail) (m : Mail) (i : ℕ) (rooms : List ℕ) → i < length rooms
    → map (λ m. m.room) old ≡ take i rooms → new ≡ old ++ m ∷ [] → m.room ≡ get_or rooms i 0
    → map (λ m. m.room) new ≡ take (i + 1) rooms
rooms_push old new m i rooms lt are is room =
    ap (map (λ m. m.room)) is ∙ (map_push (λ m. m.room) old m ∙ ((λ j. are j ++ room j ∷ [])
    ∙ sym (take_more rooms i 0 lt)))
