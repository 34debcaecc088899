-- What was done, by the first of its words.
use Rattle.std.proofs.Common.{◌≡◌, ℕ, true, List, ◌∷◌, ◌++◌, Result, codes, refl}
use Rattle.pool_law.specs.declared.id.RegionId.{RegionId}
use Rattle.pool_law.specs.declared.id.RootId.{RootId}
use Rattle.pool_law.specs.declared.note.Did.{Did}
use Rattle.pool_law.specs.Text.{Text, did_words, spaced}
use Rattle.run_text.specs.declared.TextNo.{TextNo}
use Rattle.run_text.specs.Reading.{Gives, is_word}
use Rattle.run_text.specs.Told.{FitsDid, did_told}
use Rattle.run_text.proofs.NoteLemmas.{texts_apart}
use Rattle.run_text.proofs.WordLemmas.{head, tail}

-- what a text gives where it is that of this
abbrev pub Reading : Text → Result Did TextNo → Text → List Text → Did → Type 0
Reading text r left more did =
    FitsDid did → text ≡ spaced (did_words did ++ more) → Gives r left (did_told did) more

-- it begins with a word
pub did_first : (did : Did) (more : List Text) → did_words did ++ more ≡ head (did_words did) ∷
    (tail (did_words did) ++ more)
did_first (Did.Take class region) more = refl
did_first (Did.Full class) more = refl
did_first (Did.Give region) more = refl
did_first (Did.Hit region) more = refl
did_first Did.Miss more = refl
did_first (Did.Kept region) more = refl
did_first (Did.Back region why) more = refl
did_first (Did.Trim quota) more = refl
did_first (Did.Close quota) more = refl
did_first (Did.Shed region) more = refl
did_first (Did.Handle place) more = refl
did_first Did.NoHandle more = refl
did_first (Did.Home place) more = refl
did_first (Did.Post parcel) more = refl
did_first (Did.Fetch parcel) more = refl
did_first (Did.Birth root region) more = refl
did_first (Did.Set offset bytes) more = refl
did_first (Did.Get offset bytes) more = refl
did_first Did.Touch more = refl
did_first (Did.Room asked capacity) more = refl
did_first (Did.Extend size) more = refl
did_first (Did.Grow capacity region) more = refl
did_first (Did.End root) more = refl

pub did_word : (did : Did) → is_word (head (did_words did)) ≡ true
did_word (Did.Take class region) = refl
did_word (Did.Full class) = refl
did_word (Did.Give region) = refl
did_word (Did.Hit region) = refl
did_word Did.Miss = refl
did_word (Did.Kept region) = refl
did_word (Did.Back region why) = refl
did_word (Did.Trim quota) = refl
did_word (Did.Close quota) = refl
did_word (Did.Shed region) = refl
did_word (Did.Handle place) = refl
did_word Did.NoHandle = refl
did_word (Did.Home place) = refl
did_word (Did.Post parcel) = refl
did_word (Did.Fetch parcel) = refl
did_word (Did.Birth root region) = refl
did_word (Did.Set offset bytes) = refl
did_word (Did.Get offset bytes) = refl
did_word Did.Touch = refl
did_word (Did.Room asked capacity) = refl
did_word (Did.Extend size) = refl
did_word (Did.Grow capacity region) = refl
did_word (Did.End root) = refl

-- which word it is says what was done
module _ (P : Did → Type 0) where
  pub only_birth : (did : Did) → head (did_words did) ≡ codes "birth"
      → ((root : RootId) (region : RegionId) → P (Did.Birth root region)) → P did
  only_birth (Did.Birth root region) is p = p root region
  only_birth did is p = absurd (texts_apart (head (did_words did)) (codes "birth") refl is)

  pub only_set : (did : Did) → head (did_words did) ≡ codes "set"
      → ((offset : ℕ) (bytes : List ℕ) → P (Did.Set offset bytes)) → P did
  only_set (Did.Set offset bytes) is p = p offset bytes
  only_set did is p = absurd (texts_apart (head (did_words did)) (codes "set") refl is)

  pub only_get : (did : Did) → head (did_words did) ≡ codes "get"
      → ((offset : ℕ) (bytes : List ℕ) → P (Did.Get offset bytes)) → P did
  only_get (Did.Get offset bytes) is p = p offset bytes
  only_get did is p = absurd (texts_apart (head (did_words did)) (codes "get") refl is)

  pub only_touch : (did : Did) → head (did_words did) ≡ codes "touch" → P Did.Touch → P did
  only_touch Did.Touch is p = p
  only_touch did is p = absurd (texts_apart (head (did_words did)) (codes "touch") refl is)

  pub only_room : (did : Did) → head (did_words did) ≡ codes "room"
      → ((asked : ℕ) (capacity : ℕ) → P (Did.Room asked capacity)) → P did
  only_room (Did.Room asked capacity) is p = p asked capacity
  only_room did is p = absurd (texts_apart (head (did_words did)) (codes "room") refl is)

  pub only_extend : (did : Did) → head (did_words did) ≡ codes "extend" → ((size : ℕ) → P (Did.Extend size)) → P did
  only_extend (Did.Extend size) is p = p size
  only_extend did is p = absurd (texts_apart (head (did_words did)) (codes "extend") refl is)

  pub only_grow : (did : Did) → head (did_words did) ≡ codes "grow"
      → ((capacity : ℕ) (region : RegionId) → P (Did.Grow capacity region)) → P did
  only_grow (Did.Grow capacity region) is p = p capacity region
  only_grow did is p = absurd (texts_apart (head (did_words did)) (codes "grow") refl is)

  pub only_end : (did : Did) → head (did_words did) ≡ codes "end" → ((root : RootId) → P (Did.End root)) → P did
  only_end (Did.End root) is p = p root
  only_end did is p = absurd (texts_apart (head (did_words did)) (codes "end") refl is)
