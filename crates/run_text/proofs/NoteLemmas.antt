-- The words of notes, from the first on.
use Rattle.std.proofs.Common.{◌≡◌, ℕ, ◌≢◌, true, false, List, [], ◌∷◌, ◌++◌, codes, decimal, refl, ap, ◌∙◌, append_assoc}
use Rattle.std.specs.Str.{bytes_eq}
use Rattle.pool_law.specs.declared.note.Did.{Did}
use Rattle.pool_law.specs.declared.note.Held.{Held}
use Rattle.pool_law.specs.declared.note.Note.{Note}
use Rattle.pool_law.specs.declared.note.Object.{Object}
use Rattle.pool_law.specs.Text.{Text, did_words, note_words, object_words}
use Rattle.run_text.specs.Reading.{is_word}
use Rattle.run_text.proofs.WordLemmas.{head, tail, not_text}

-- texts whose test fails differ
pub texts_apart : (a b : Text) → bytes_eq a b ≡ false → a ≢ b
texts_apart a b h = not_text (bytes_eq a b) a b refl h

-- an object begins with a word, which is neither of those that a note at no object begins with
object_first : (o : Object) (more : List Text)
    → object_words o ++ more ≡ head (object_words o) ∷ (tail (object_words o) ++ more)
object_first (Object.Arena number) more = refl
object_first (Object.Cache lane class) more = refl
object_first (Object.Bin lane) more = refl
object_first (Object.Mail from to) more = refl
object_first (Object.Root place) more = refl

pub object_word : (o : Object) → is_word (head (object_words o)) ≡ true
object_word (Object.Arena number) = refl
object_word (Object.Cache lane class) = refl
object_word (Object.Bin lane) = refl
object_word (Object.Mail from to) = refl
object_word (Object.Root place) = refl

pub not_ref : (o : Object) → head (object_words o) ≢ codes "ref"
not_ref (Object.Arena number) = texts_apart _ _ refl
not_ref (Object.Cache lane class) = texts_apart _ _ refl
not_ref (Object.Bin lane) = texts_apart _ _ refl
not_ref (Object.Mail from to) = texts_apart _ _ refl
not_ref (Object.Root place) = texts_apart _ _ refl

pub not_busy : (o : Object) → head (object_words o) ≢ codes "busy"
not_busy (Object.Arena number) = texts_apart _ _ refl
not_busy (Object.Cache lane class) = texts_apart _ _ refl
not_busy (Object.Bin lane) = texts_apart _ _ refl
not_busy (Object.Mail from to) = texts_apart _ _ refl
not_busy (Object.Root place) = texts_apart _ _ refl

-- a note at an object: its object, its number, and what was done
pub at_words : (o : Object) (n : ℕ) (did : Did) (more : List Text)
    → note_words (Note.At o n did) ++ more ≡ object_words o ++ decimal n ∷ (did_words did ++ more)
at_words o n did more = append_assoc (object_words o) (decimal n ∷ did_words did) more

pub at_first : (o : Object) (n : ℕ) (did : Did) (more : List Text)
    → note_words (Note.At o n did) ++ more
    ≡ head (object_words o) ∷ (tail (object_words o) ++ decimal n ∷ (did_words did ++ more))
at_first o n did more = at_words o n did more ∙ object_first o (decimal n ∷ (did_words did ++ more))

-- a busy mark: its object and its number
pub busy_words : (held : Held) (more : List Text)
    → note_words (Note.Busy held) ++ more ≡ codes "busy" ∷ (object_words held.object ++ decimal held.number ∷ more)
busy_words held more =
    ap (λ (words : List Text). codes "busy" ∷ words)
    (append_assoc (object_words held.object) (decimal held.number ∷ []) more)
