-- What a seat has noted of blocks and slices, once more is noted.
use Rattle.std.proofs.Common.{◌≡◌, ℕ, zero, suc, ◌+◌, List, [], ◌∷◌, ◌++◌, Bool, length, map, refl, sym, ap, subst, ◌∙◌, arith, Option, Some, inl, inr, ⊎_elim, length-append}
use Rattle.std.specs.Prelude.{◌⊎◌, if◌then◌else◌, slice_get}
use Rattle.std.proofs.lemmas.List.{map-append, take-append-le}
use Rattle.std.proofs.lemmas.Option.{slice_get_within}
use Rattle.std.proofs.Math.Seq.{take-append_seam}
use Rattle.pool_law.specs.declared.id.Parcel.{Parcel}
use Rattle.pool_law.specs.declared.id.RootId.{RootId}
use Rattle.pool_law.specs.declared.id.ViewData.{ViewData}
use Rattle.pool_law.specs.declared.note.Did.{Did}
use Rattle.pool_law.specs.declared.note.Noted.{Noted}
use Rattle.pool_law.specs.declared.note.Object.{Object}
use Rattle.pool_law.specs.declared.note.Object.TheVariants.{Mail}
use Rattle.pool_law.specs.Kinds.{Stays, passing}
use Rattle.pool_law.specs.Mails.{posted}
use Rattle.pool_law.specs.Naming.{noted_by}
use Rattle.pool_law.proofs.PatternLemmas.{same_object-refl}
use Rattle.pool_law.proofs.ListLemmas.{get-front, get-further}
use Rattle.pool_table.specs.declared.views.Entry.{Entry}
use Rattle.pool_table.specs.declared.views.Entry.TheVariants.{At}
use Rattle.run_order.proofs.MailLists.{posted-append}
use Rattle.shared_pool.specs.Closing.{note_of}
use Rattle.shared_pool.specs.Notes.{plain}
use Rattle.frame_hash.proofs.QuietLaws.{stays-unposted}
use Rattle.frame_cutter.specs.Sends.{AreSlices, HasSent, IsSlice, SendsSlice, Writes, posts_in}

-- ---- Posts.

-- these notes post no parcel
abbrev pub PostNothing : List Entry → Type 0
PostNothing es = (sender receiver : ℕ) → posted (Mail sender receiver) (map note_of es) ≡ []

pub posts-on : (sender receiver : ℕ) (es more : List Entry)
    → posts_in sender receiver (es ++ more) ≡ posts_in sender receiver es + posts_in sender receiver more
posts-on sender receiver es more =
    let mail = Mail sender receiver in
    ap (λ ps. length ps)
    (ap (posted mail) (map-append note_of es more) ∙ posted-append mail (map note_of es) (map note_of more))
    ∙ length-append (posted mail (map note_of es)) (posted mail (map note_of more))

-- a note where nothing passes posts nothing
pub stays_posts : (object : Object) (number : ℕ) (noted : Noted) → passing noted.did ≡ Stays
    → PostNothing (At object number noted ∷ [])
stays_posts object number noted e sender receiver =
    ap (λ ps. ps ++ []) (stays-unposted (Mail sender receiver) object number noted.did e)

-- ---- What stands in notes stands there still.

module _ (es more : List Entry) where
  abbrev pub writes_kept : (lane : Option ℕ) (root : RootId) (bytes : List ℕ) → Writes es lane root bytes
      → Writes (es ++ more) lane root bytes
  writes_kept lane root bytes w = record { at = w.at; number = w.number; stands = get-front es more w.at _ w.stands }

  abbrev pub slice_kept : (lane : Option ℕ) (view : ViewData) (piece : List ℕ) → IsSlice es lane view piece
      → IsSlice (es ++ more) lane view piece
  slice_kept lane view piece s = record {
    bytes = s.bytes;
    written = writes_kept lane view.root s.bytes s.written;
    view_is = s.view_is;
    some = s.some;
    inside = s.inside;
    born_so = s.born_so;
    piece_is = s.piece_is;
  }

  pub slices_kept : (lane : Option ℕ) (views : List ViewData) (pieces : List (List ℕ))
      → AreSlices es lane views pieces → AreSlices (es ++ more) lane views pieces
  slices_kept lane views pieces s =
      record { many = s.many; each = λ k view piece v p. slice_kept lane view piece (s.each k view piece v p) }

  sends_kept : (sender receiver k : ℕ) (piece : List ℕ) → SendsSlice es sender receiver k piece
      → SendsSlice (es ++ more) sender receiver k piece
  sends_kept sender receiver k piece s =
      let within = slice_get_within es s.at _ s.stands in
      record {
        view = s.view;
        slice = slice_kept (Some sender) s.view piece s.slice;
        at = s.at;
        number = s.number;
        stands = get-front es more s.at _ s.stands;
        earlier = ap (posts_in sender receiver) (take-append-le s.at es more (omega (arith, within))) ∙ s.earlier;
        order = s.order;
      }

  -- and where nothing more is posted to the lane, just the same was sent to it
  pub sent_kept : (sender receiver : ℕ) (pieces : List (List ℕ)) → posts_in sender receiver more ≡ 0
      → HasSent es sender receiver pieces → HasSent (es ++ more) sender receiver pieces
  sent_kept sender receiver pieces none s = record {
    count = (let a = posts-on sender receiver es more in let b = s.count in omega (arith, a, b, none));
    each = λ k piece p. sends_kept sender receiver k piece (s.each k piece p);
  }

-- ---- One slice more is sent.

module _ (es : List Entry) (sender receiver number : ℕ) (view : ViewData) (piece : List ℕ) where
  abbrev letter : Entry
  letter = At (Mail sender receiver) number (noted_by (Some sender) (plain (Did.Post (record { view = Some view }))))

  one_post : posts_in sender receiver (letter ∷ []) ≡ 1
  one_post =
      ap (λ (b : Bool). length {A = ℕ × Parcel} ((if b then (number, record { view = Some view }) ∷ [] else []) ++ []))
      (same_object-refl (Mail sender receiver))

  -- the last piece, or one before it
  push_at : (pieces : List (List ℕ)) (k : ℕ) (p : List ℕ) → slice_get (pieces ++ piece ∷ []) k ≡ Some p
      → (slice_get pieces k ≡ Some p) ⊎ ((k ≡ length pieces) × (p ≡ piece))
  push_at [] zero p e = inr (refl, cc e)
  push_at [] (suc k) p e = absurd (cc e)
  push_at (x ∷ xs) zero p e = inl e
  push_at (x ∷ xs) (suc k) p e =
      ⊎_elim (λ here. inl here) (λ last. inr (ap suc last.0, last.1)) (push_at xs k p e)

  pub sent_more : (pieces : List (List ℕ)) → IsSlice es (Some sender) view piece → HasSent es sender receiver pieces
      → HasSent (es ++ letter ∷ []) sender receiver (pieces ++ piece ∷ [])
  sent_more pieces slice s = record {
    count =
        (let a = posts-on sender receiver es (letter ∷ []) in let b = s.count in let one = one_post in
        let c = length-append pieces (piece ∷ []) in
        omega (arith, a, b, c, one));
    each = λ k p e.
        ⊎_elim (λ here. sends_kept es (letter ∷ []) sender receiver k p (s.each k p here))
        (λ last. subst (λ q. SendsSlice (es ++ letter ∷ []) sender receiver k q) (sym last.1) (record {
          view = view;
          slice = slice_kept es (letter ∷ []) (Some sender) view piece slice;
          at = length es;
          number = number;
          stands =
              (let e : length es ≡ length es + 0 = omega arith in
              ap (slice_get (es ++ letter ∷ [])) e ∙ get-further es (letter ∷ []) 0);
          earlier = ap (posts_in sender receiver) (take-append_seam es (letter ∷ [])) ∙ s.count ∙ sym last.0;
          order = slice_get_within es slice.written.at _ slice.written.stands;
        })) (push_at pieces k p e);
  }
