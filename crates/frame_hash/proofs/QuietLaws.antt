-- Notes that fetch or post no parcel, and write to no root.
use Rattle.std.proofs.Common.{◌≡◌, ℕ, zero, suc, ◌+◌, List, [], ◌∷◌, ◌++◌, Bool, true, false, length, map, refl, sym, ap, ◌∙◌, Some, ⊎_elim, length-append}
use Rattle.std.specs.Prelude.{if◌then◌else◌, slice_get}
use Rattle.std.specs.List.{list_all}
use Rattle.std.proofs.lemmas.List.{map-append}
use Rattle.std.proofs.lemmas.Bool.{and_parts}
use Rattle.pool_law.specs.declared.id.Parcel.{Parcel}
use Rattle.pool_law.specs.declared.note.Did.{Did}
use Rattle.pool_law.specs.declared.note.Did.TheVariants.{Fetch, Set}
use Rattle.pool_law.specs.declared.note.Note.{Note}
use Rattle.pool_law.specs.declared.note.Noted.{Noted}
use Rattle.pool_law.specs.declared.note.Object.{Object}
use Rattle.pool_law.specs.declared.note.Object.TheVariants.{Mail, Root}
use Rattle.pool_law.specs.Kinds.{Passing, Stays, passing}
use Rattle.pool_law.specs.Mails.{come, fetched, gone, posted}
use Rattle.pool_law.specs.Same.{same_object}
use Rattle.pool_law.proofs.PatternLemmas.{same_object-refl}
use Rattle.pool_law.proofs.ListLemmas.{get-split}
use Rattle.pool_table.specs.declared.views.Entry.{Entry}
use Rattle.pool_table.specs.declared.views.Entry.TheVariants.{At, Ref, Busy}
use Rattle.run_order.proofs.MailLists.{fetched-append, posted-append}
use Rattle.seat_work.specs.Growth.{is_quiet, is_quiet_entry}
use Rattle.seat_work.proofs.Later.{quiet_note_stays}
use Rattle.shared_pool.specs.Closing.{note_of}
use Rattle.frame_hash.specs.Takes.{fetches_in, FetchNothing, PostNothing, WriteNothing}

-- ---- Notes behind others.

fetched-on : (mail : Object) (es more : List Entry)
    → fetched mail (map note_of (es ++ more)) ≡ fetched mail (map note_of es) ++ fetched mail (map note_of more)
fetched-on mail es more =
    ap (fetched mail) (map-append note_of es more) ∙ fetched-append mail (map note_of es) (map note_of more)

pub fetches-on : (sender receiver : ℕ) (es more : List Entry)
    → fetches_in sender receiver (es ++ more) ≡ fetches_in sender receiver es + fetches_in sender receiver more
fetches-on sender receiver es more =
    ap (λ ps. length ps) (fetched-on (Mail sender receiver) es more)
    ∙ length-append (fetched (Mail sender receiver) (map note_of es))
    (fetched (Mail sender receiver) (map note_of more))

pub fetch_nothing_on : (es more : List Entry) → FetchNothing es → FetchNothing more → FetchNothing (es ++ more)
fetch_nothing_on es more x y sender receiver =
    fetched-on (Mail sender receiver) es more ∙ (λ i. x sender receiver i ++ y sender receiver i)

posted-on : (mail : Object) (es more : List Entry)
    → posted mail (map note_of (es ++ more)) ≡ posted mail (map note_of es) ++ posted mail (map note_of more)
posted-on mail es more =
    ap (posted mail) (map-append note_of es more) ∙ posted-append mail (map note_of es) (map note_of more)

pub post_nothing_on : (es more : List Entry) → PostNothing es → PostNothing more → PostNothing (es ++ more)
post_nothing_on es more x y sender receiver =
    posted-on (Mail sender receiver) es more ∙ (λ i. x sender receiver i ++ y sender receiver i)

pub write_nothing_on : (es more : List Entry) → WriteNothing es → WriteNothing more → WriteNothing (es ++ more)
write_nothing_on es more x y at number offset root bytes stands =
    ⊎_elim (λ here. x at number offset root bytes here) (λ there. y there.0 number offset root bytes there.2)
    (get-split (map note_of es) (map note_of more) at (Note.At (Root root.place) number (Set offset bytes))
    (ap (λ ns. slice_get ns at) (sym (map-append note_of es more)) ∙ stands))

-- ---- Notes that are quiet.

pub none-either : {X : Type 0} (b : Bool) → ◌≡◌ {A = List X} (if b then [] else []) []
none-either true = refl
none-either false = refl

-- a note where nothing passes fetches nothing
stays-nothing : (mail object : Object) (number : ℕ) (d : Did) → passing d ≡ Stays
    → (if same_object mail object then come number (passing d) else []) ≡ []
stays-nothing mail object number d e =
    ap (λ (p : Passing). if same_object mail object then come number p else []) e
    ∙ none-either (same_object mail object)

-- and posts nothing
pub stays-unposted : (mail object : Object) (number : ℕ) (d : Did) → passing d ≡ Stays
    → (if same_object mail object then gone number (passing d) else []) ≡ []
stays-unposted mail object number d e =
    ap (λ (p : Passing). if same_object mail object then gone number p else []) e
    ∙ none-either (same_object mail object)

pub quiet_fetches : (es : List Entry) → list_all is_quiet_entry es ≡ true → FetchNothing es
quiet_fetches [] e sender receiver = refl
quiet_fetches (At object number noted ∷ es) e sender receiver =
    let both = and_parts (is_quiet noted.did) (list_all is_quiet_entry es) e in
    (λ i. stays-nothing (Mail sender receiver) object number noted.did (quiet_note_stays noted.did both.0) i
    ++ quiet_fetches es both.1 sender receiver i)
quiet_fetches (Ref root did ∷ es) e sender receiver = quiet_fetches es e sender receiver
quiet_fetches (Busy held ∷ es) e sender receiver = quiet_fetches es e sender receiver

pub quiet_posts : (es : List Entry) → list_all is_quiet_entry es ≡ true → PostNothing es
quiet_posts [] e sender receiver = refl
quiet_posts (At object number noted ∷ es) e sender receiver =
    let both = and_parts (is_quiet noted.did) (list_all is_quiet_entry es) e in
    (λ i. stays-unposted (Mail sender receiver) object number noted.did (quiet_note_stays noted.did both.0) i
    ++ quiet_posts es both.1 sender receiver i)
quiet_posts (Ref root did ∷ es) e sender receiver = quiet_posts es e sender receiver
quiet_posts (Busy held ∷ es) e sender receiver = quiet_posts es e sender receiver

at-first : (o p : Object) (m n : ℕ) (c d : Did) → Some (Note.At o m c) ≡ Some (Note.At p n d) → c ≡ d
at-first o p m n c d e = cc e

loud : (d : Did) (offset : ℕ) (bytes : List ℕ) → is_quiet d ≡ true → d ≡ Set offset bytes → ⊥
loud d offset bytes quiet e = let no : is_quiet d ≡ false = ap is_quiet e in cc (sym quiet ∙ no)

pub quiet_writes : (es : List Entry) → list_all is_quiet_entry es ≡ true → WriteNothing es
quiet_writes [] e at number offset root bytes stands = absurd (cc stands)
quiet_writes (At object k noted ∷ es) e zero number offset root bytes stands =
    let both = and_parts (is_quiet noted.did) (list_all is_quiet_entry es) e in
    loud noted.did offset bytes both.0
    (at-first object (Root root.place) k number noted.did (Set offset bytes) stands)
quiet_writes (At object k noted ∷ es) e (suc at) number offset root bytes stands =
    let both = and_parts (is_quiet noted.did) (list_all is_quiet_entry es) e in
    quiet_writes es both.1 at number offset root bytes stands
quiet_writes (Ref r did ∷ es) e zero number offset root bytes stands = absurd (cc stands)
quiet_writes (Ref r did ∷ es) e (suc at) number offset root bytes stands =
    quiet_writes es e at number offset root bytes stands
quiet_writes (Busy held ∷ es) e zero number offset root bytes stands = absurd (cc stands)
quiet_writes (Busy held ∷ es) e (suc at) number offset root bytes stands =
    quiet_writes es e at number offset root bytes stands

-- ---- Single notes.

module _ (object : Object) (number : ℕ) (noted : Noted) where
  -- one where nothing passes
  pub stays_fetches : passing noted.did ≡ Stays → FetchNothing (At object number noted ∷ [])
  stays_fetches e sender receiver =
      ap (λ ps. ps ++ []) (stays-nothing (Mail sender receiver) object number noted.did e)

  pub stays_posts : passing noted.did ≡ Stays → PostNothing (At object number noted ∷ [])
  stays_posts e sender receiver =
      ap (λ ps. ps ++ []) (stays-unposted (Mail sender receiver) object number noted.did e)

  -- a fetch posts nothing
  pub fetch_posts : (parcel : Parcel) → noted.did ≡ Fetch parcel → PostNothing (At object number noted ∷ [])
  fetch_posts parcel e sender receiver =
      ap (λ (d : Did). (if same_object (Mail sender receiver) object then gone number (passing d) else []) ++ []) e
      ∙ ap (λ ps. ps ++ []) (none-either (same_object (Mail sender receiver) object))

  -- one that is no write
  pub other_writes : ((offset : ℕ) (bytes : List ℕ) → noted.did ≡ Set offset bytes → ⊥)
      → WriteNothing (At object number noted ∷ [])
  other_writes isnt zero n offset root bytes stands =
      isnt offset bytes (at-first object (Root root.place) number n noted.did (Set offset bytes) stands)
  other_writes isnt (suc at) n offset root bytes stands = absurd (cc stands)

-- a fetch is one
pub fetch_one : (sender receiver number : ℕ) (noted : Noted) (parcel : Parcel) → noted.did ≡ Fetch parcel
    → fetches_in sender receiver (At (Mail sender receiver) number noted ∷ []) ≡ 1
fetch_one sender receiver number noted parcel e =
    ap (λ (b : Bool). length ((if b then come number (passing noted.did) else []) ++ []))
    (same_object-refl (Mail sender receiver))
    ∙ ap (λ (d : Did). length (come number (passing d) ++ [])) e
