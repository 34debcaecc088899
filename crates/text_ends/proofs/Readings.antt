-- What is made of a text that was read, and a source that wasn't called.
use Rattle.std.proofs.Common.{◌≡◌, ℕ, ◌+◌, ◌<◌, List, [], ◌∷◌, ◌++◌, length, map, string_bytes, refl, ap, sym, ◌∙◌, arith, Some, None, inl, inr, append-nil, length-append}
use Rattle.std.specs.Prelude.{Option, String}
use Rattle.std.specs.declared.alloc.Global.{Global}
use Rattle.std.specs.Io.KnownBytes.{Keeps}
use Rattle.std.proofs.lemmas.Bool.{cases_lt}
use Rattle.trace_text.specs.Reading.{text_limit}
use Rattle.text_ends.specs.Spans.{IsUnread}
use Rattle.text_ends.specs.Transfer.{ReadsText}

pub kept_as_is : (bytes : Option (List ℕ)) → Keeps bytes bytes
kept_as_is None = tt
kept_as_is (Some xs) = refl

-- a source that wasn't called
pub unread : (left : Option (List ℕ)) (faults : ℕ)
    → IsUnread (record { left = left; left_then = left; faults = faults; faults_then = faults })
unread left faults = record { left = kept_as_is left; faults = refl }

-- no words have no bytes
pub empty_words : (words : List (String Global)) → length words ≡ 0 → map string_bytes words ≡ []
empty_words [] e = refl
empty_words (w ∷ words) e = absurd (omega (arith, e))

-- of a long text no more is read than shows that it is long, and what is made of long texts is one thing
module _ {A : Type 0} (made_of : List ℕ → A)
    (both_long : (a b : List ℕ) → text_limit < length a → text_limit < length b → made_of a ≡ made_of b) where
  same_reading : (left : List ℕ) (new : Option (List ℕ)) (text : List ℕ) → ReadsText (Some left) new text
      → made_of text ≡ made_of left
  same_reading left None text h = absurd h.bytes
  same_reading left (Some rest) text h = elim (cases_lt text_limit (length text)) [
    | inr short ↦
        ap made_of (sym (h.bytes ∙ ap (λ (r : List ℕ). text ++ r) (h.whole short) ∙ append-nil text))
    | inl long ↦
        (let all : length left ≡ length text + length rest = ap (λ (xs : List ℕ). length xs) h.bytes
        ∙ length-append text rest in both_long text left long (omega (arith, all, long)))
  ]

  pub told_reading : (left : Option (List ℕ)) (all : List ℕ) (new : Option (List ℕ)) (text : List ℕ) → left ≡ Some all
      → ReadsText left new text → made_of text ≡ made_of all
  told_reading left all new text told h = same_reading all new text (rw told at h)
