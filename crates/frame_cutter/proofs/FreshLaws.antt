-- Writes go to roots that were born behind the write before, once more is noted.
use Rattle.std.proofs.Common.{◌≡◌, ℕ, zero, suc, ◌+◌, ◌<◌, List, [], ◌∷◌, ◌++◌, true, length, refl, ap, sym, ◌∙◌, subst, arith, Option, Some, ⊎_elim, length-append}
use Rattle.std.specs.Prelude.{slice_get}
use Rattle.std.specs.List.{list_all}
use Rattle.std.proofs.lemmas.Option.{slice_get_within}
use Rattle.std.proofs.lemmas.Bool.{and_parts}
use Rattle.pool_law.specs.declared.id.RootId.{RootId}
use Rattle.pool_law.specs.declared.note.Did.{Did}
use Rattle.pool_law.specs.declared.note.Noted.{Noted}
use Rattle.pool_law.specs.declared.note.Object.{Object}
use Rattle.pool_law.specs.declared.note.RefDid.{RefDid}
use Rattle.pool_law.specs.Naming.{noted_by}
use Rattle.pool_law.proofs.ListLemmas.{get-front, get-further, get-split}
use Rattle.pool_table.specs.declared.views.Entry.{Entry}
use Rattle.pool_table.specs.declared.views.Entry.TheVariants.{At, Ref, Busy}
use Rattle.seat_work.specs.Growth.{is_quiet, is_quiet_entry}
use Rattle.shared_pool.specs.RootNotes.{access}
use Rattle.frame_cutter.specs.Sends.{IsFresh, WriteFresh, WritesAt}

-- no note writes
abbrev pub WriteNone : List Entry → Type 0
WriteNone es = (at : ℕ) (noted : Noted) (offset : ℕ) (bytes : List ℕ) → WritesAt es at noted offset bytes → ⊥

loud : (d : Did) (offset : ℕ) (bytes : List ℕ) → is_quiet d ≡ true → d ≡ Did.Set offset bytes → ⊥
loud d offset bytes quiet e = let no = ap is_quiet e in cc (sym quiet ∙ no)

same_note : (o p : Object) (m n : ℕ) (a b : Noted) → ◌≡◌ {A = Option Entry} (Some (At o m a)) (Some (At p n b)) → a ≡ b
same_note o p m n a b e = cc e

pub quiet_none : (es : List Entry) → list_all is_quiet_entry es ≡ true → WriteNone es
quiet_none [] e at noted offset bytes w = absurd (cc (w.stands))
quiet_none (At o n own ∷ es) e zero noted offset bytes w =
    let both = and_parts (is_quiet own.did) (list_all is_quiet_entry es) e in
    let same = same_note o (Object.Root w.place) n w.number own noted w.stands in
    loud own.did offset bytes both.0 (ap (λ (x : Noted). x.did) same ∙ w.did)
quiet_none (At o n own ∷ es) e (suc at) noted offset bytes w =
    let both = and_parts (is_quiet own.did) (list_all is_quiet_entry es) e in
    quiet_none es both.1 at noted offset bytes
    (record { place = w.place; number = w.number; stands = w.stands; did = w.did })
quiet_none (Ref root did ∷ es) e zero noted offset bytes w = absurd (cc (w.stands))
quiet_none (Ref root did ∷ es) e (suc at) noted offset bytes w =
    quiet_none es e at noted offset bytes
    (record { place = w.place; number = w.number; stands = w.stands; did = w.did })
quiet_none (Busy held ∷ es) e zero noted offset bytes w = absurd (cc (w.stands))
quiet_none (Busy held ∷ es) e (suc at) noted offset bytes w =
    quiet_none es e at noted offset bytes
    (record { place = w.place; number = w.number; stands = w.stands; did = w.did })

module _ (es more : List Entry) where
  -- a write that stands in both parts stands in the first or in the second
  in_first : (at : ℕ) (noted : Noted) (offset : ℕ) (bytes : List ℕ) → at < length es
      → WritesAt (es ++ more) at noted offset bytes → WritesAt es at noted offset bytes
  in_first at noted offset bytes low w = record {
    place = w.place;
    number = w.number;
    stands =
        ⊎_elim (λ here. here) (λ there. absurd (let e = there.1 in omega (arith, e, low)))
        (get-split es more at _ w.stands);
    did = w.did;
  }

  fresh_on : (at : ℕ) (root : RootId) → at < length es → IsFresh es at root → IsFresh (es ++ more) at root
  fresh_on at root low f = record {
    birth = f.birth;
    earlier = f.earlier;
    born = get-front es more f.birth _ f.born;
    last = λ before noted offset bytes lt w.
        f.last before noted offset bytes lt (in_first before noted offset bytes (omega (arith, lt, low)) w);
  }

  pub fresh_kept : WriteFresh es → WriteNone more → WriteFresh (es ++ more)
  fresh_kept fresh none at noted offset bytes w =
      ⊎_elim
      (λ here.
      let low = slice_get_within es at _ here in
      let f =
      fresh at noted offset bytes
      (record { place = w.place; number = w.number; stands = here; did = w.did }) in
      (f.0, (f.1.0, fresh_on at f.0 (omega (arith, low)) f.1.1)))
      (λ there. absurd (none there.0 noted offset bytes
      (record { place = w.place; number = w.number; stands = there.2; did = w.did })))
      (get-split es more at _ w.stands)

-- ---- A block is written to a root that was just born.

module _ (es more : List Entry) (root : RootId) (lane : Option ℕ) (number born_at : ℕ) (block : List ℕ)
    (fresh : WriteFresh es) (none : WriteNone more) (born : slice_get more born_at ≡ Some (Ref root RefDid.Born)) where
  abbrev wrote : Entry
  wrote = At (Object.Root root.place) number (noted_by lane (access root (Did.Set 0 block)))

  -- where the write stands, that of the root's birth is behind all writes before it
  newest : IsFresh ((es ++ more) ++ wrote ∷ []) (length (es ++ more)) root
  unfolding in_first
  newest = record {
    birth = length es + born_at;
    earlier =
        (let a = slice_get_within more born_at (Ref root RefDid.Born) born in let b = length-append es more in
        omega (arith, a, b));
    born = get-front (es ++ more) (wrote ∷ []) (length es + born_at) _ (get-further es more born_at ∙ born);
    last = λ before noted offset bytes lt w.
        ⊎_elim
        (λ here. let low = slice_get_within es before _ here in omega (arith, low))
        (λ there. absurd (none there.0 noted offset bytes
        (record { place = w.place; number = w.number; stands = there.2; did = w.did })))
        (get-split es more before (At (Object.Root w.place) w.number noted)
        (in_first (es ++ more) (wrote ∷ []) before noted offset bytes lt w).stands);
  }

  last_note : (m place k : ℕ) (noted : Noted)
      → ◌≡◌ {A = Option Entry} (slice_get (wrote ∷ []) m) (Some (At (Object.Root place) k noted))
      → (m ≡ 0) × (noted.root ≡ Some root)
  last_note zero place k noted e = (
    refl,
    ap (λ (n : Noted). n.root)
        (sym (same_note (Object.Root root.place) (Object.Root place) number k _ noted e)),
  )
  last_note (suc m) place k noted e = absurd (cc e)

  pub fresh_written : WriteFresh ((es ++ more) ++ wrote ∷ [])
  fresh_written at noted offset bytes w =
      ⊎_elim
      (λ here.
      let low = slice_get_within (es ++ more) at _ here in
      let f =
      fresh_kept es more fresh none at noted offset bytes
      (record { place = w.place; number = w.number; stands = here; did = w.did }) in
      (f.0, (f.1.0, fresh_on (es ++ more) (wrote ∷ []) at f.0 low f.1.1)))
      (λ there.
      let is = last_note there.0 w.place w.number noted there.2 in
      let here : length (es ++ more) ≡ at = (let a = there.1 in let b = is.0 in omega (arith, a, b)) in
      (root, (is.1, subst (λ (k : ℕ). IsFresh ((es ++ more) ++ wrote ∷ []) k root) here newest)))
      (get-split (es ++ more) (wrote ∷ []) at (At (Object.Root w.place) w.number noted) w.stands)
