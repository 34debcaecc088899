-- What a lane counts behind its next entries, and that its counts are those of its seat.
use Rattle.std.proofs.Common.{◌≡◌, ℕ, ◌+◌, ◌-◌, ◌<◌, List, [], ◌∷◌, ◌++◌, Bool, true, false, refl, sym, ap, ◌∙◌, subst, arith, Some, None}
use Rattle.std.specs.Prelude.{◌&&◌, ◌||◌, if◌then◌else◌}
use Rattle.pool_law.specs.declared.id.RootId.{RootId}
use Rattle.pool_law.specs.declared.id.ViewData.{ViewData}
use Rattle.pool_law.specs.declared.note.Did.TheVariants.{Post, Fetch}
use Rattle.pool_law.specs.declared.note.Note.{Note}
use Rattle.pool_law.specs.declared.note.Object.{Object}
use Rattle.pool_law.specs.declared.note.RefDid.{RefDid}
use Rattle.pool_law.specs.declared.note.RefDid.TheVariants.{Retain, Kept, Ended, Look}
use Rattle.pool_law.specs.Counts.{root_is, ref_needs, note_gains, note_loses, note_needs, needs_count, ends_root, count_step, count_from, CountsHold}
use Rattle.pool_law.specs.Readers.{ToldNotes}
use Rattle.pool_law.specs.Logs.{ToldNote}
use Rattle.pool_law.specs.Same.{same_root}
use Rattle.pool_law.proofs.SameLemmas.{same_root-is}
use Rattle.pool_table.specs.declared.views.Entry.TheVariants.{Ref}
use Rattle.shared_pool.specs.Closing.{entry_of}
use Rattle.lane_stages.specs.declared.counts.Counted.{Counted}
use Rattle.seat_work.specs.Changes.{one_for}
use Rattle.lane_stages.specs.Counting.{counted, CountsAre}

pub counts_append : (root : RootId) (k : ℕ) (xs ys : ToldNotes)
    → count_from root k (xs ++ ys) ≡ count_from root (count_from root k xs) ys
counts_append root k [] ys = refl
counts_append root k (x ∷ xs) ys = counts_append root (count_step root k x) xs ys

pub holds_append : (root : RootId) (k : ℕ) (xs ys : ToldNotes) → CountsHold root k xs
    → CountsHold root (count_from root k xs) ys → CountsHold root k (xs ++ ys)
holds_append root k [] ys a b = b
holds_append root k (x ∷ xs) ys a b = (a.0, (a.1.0, holds_append root (count_step root k x) xs ys a.1.1 b))

-- the entries make the one counts of the other, and use no root that isn't counted
pub record Recounts (cs ds : List Counted) (es : ToldNotes) : Type 0 where
  pub counts : (root : RootId) → count_from root (counted cs root) es ≡ counted ds root
  pub holds : (root : RootId) → CountsHold root (counted cs root) es

pub recounted : (cs ds : List Counted) (log es : ToldNotes) → CountsAre cs log → Recounts cs ds es
    → CountsAre ds (log ++ es)
recounted cs ds log es are more = record {
  counts =
      λ root. counts_append root 0 log es ∙ ap (λ (k : ℕ). count_from root k es) (are.counts root) ∙ more.counts root;
  holds =
      λ root. holds_append root 0 log es (are.holds root)
      (subst (λ (k : ℕ). CountsHold root k es) (sym (are.counts root)) (more.holds root));
}

pub none_recounted : (cs : List Counted) → Recounts cs cs []
none_recounted cs = record { counts = λ root. refl; holds = λ root. tt }

-- ---- One entry.

one_entry : (cs ds : List Counted) (e : ToldNote) → ((root : RootId) → needs_count root e ≡ true → 0 < counted cs root)
    → ((root : RootId) → ends_root root e.note ≡ true → count_step root (counted cs root) e ≡ 0)
    → ((root : RootId) → count_step root (counted cs root) e ≡ counted ds root) → Recounts cs ds (e ∷ [])
one_entry cs ds e needs ends step = record { counts = step; holds = λ root. (needs root, (ends root, tt)) }

-- a note that is of no count
pub record IsStill (note : Note) : Type 0 where
  pub gains : (root : RootId) → note_gains root note ≡ false
  pub loses : (root : RootId) → note_loses root note ≡ false
  pub needs : (root : RootId) → note_needs root note ≡ false
  pub ends : (root : RootId) → ends_root root note ≡ false

pub still : (cs : List Counted) (e : ToldNote) → IsStill e.note
    → ((root : RootId) → root_is root e.root ≡ true → 0 < counted cs root) → Recounts cs cs (e ∷ [])
still cs e is uses = one_entry cs cs e
    (λ root needs. uses root (ap (λ (b : Bool). b || root_is root e.root) (sym (is.needs root)) ∙ needs))
    (λ root ends. absurd (cc (sym (is.ends root) ∙ ends)))
    (λ root. λ i. if is.gains root i then counted cs root + 1 else if is.loses root i then counted cs root - 1 else
    counted cs root)

first_of : (b x : Bool) → ((b && x) || false) ≡ true → b ≡ true
first_of true x e = refl
first_of false x e = e

-- a step on the count of a root that is counted
needs_ref : (cs : List Counted) (r : RootId) (did : RefDid) → 0 < counted cs r → (root : RootId)
    → needs_count root (entry_of (Ref r did)) ≡ true → 0 < counted cs root
needs_ref cs r did has root e =
    subst (λ (q : RootId). 0 < counted cs q) (same_root-is r root (first_of (same_root r root) (ref_needs did) e)) has

pub unmoved : (b : Bool) (k : ℕ) → (if b && false then k + 1 else if b && false then k - 1 else k) ≡ k
unmoved true k = refl
unmoved false k = refl

up : (b : Bool) (k m : ℕ) → m ≡ k + (if b then 1 else 0)
    → (if b && true then k + 1 else if b && false then k - 1 else k) ≡ m
up true k m e = sym e
up false k m e = omega (arith, e)

down : (b : Bool) (k m : ℕ) → m + (if b then 1 else 0) ≡ k
    → (if b && false then k + 1 else if b && true then k - 1 else k) ≡ m
down true k m e = omega (arith, e)
down false k m e = omega (arith, e)

pub looked : (cs : List Counted) (r : RootId) (k : ℕ) → 0 < counted cs r
    → Recounts cs cs (entry_of (Ref r (Look k)) ∷ [])
looked cs r k has =
    one_entry cs cs (entry_of (Ref r (Look k))) (needs_ref cs r (Look k) has) (λ root e. absurd (cc e))
    (λ root. unmoved (same_root r root) (counted cs root))

module _ (cs ds : List Counted) (r : RootId) where
  pub retained : 0 < counted cs r → ((other : RootId) → counted ds other ≡ counted cs other + one_for r other)
      → Recounts cs ds (entry_of (Ref r Retain) ∷ [])
  retained has more =
      one_entry cs ds (entry_of (Ref r Retain)) (needs_ref cs r Retain has) (λ root e. absurd (cc e))
      (λ root. up (same_root r root) (counted cs root) (counted ds root) (more root))

  pub kept : 0 < counted cs r → ((other : RootId) → counted ds other + one_for r other ≡ counted cs other)
      → Recounts cs ds (entry_of (Ref r Kept) ∷ [])
  kept has less =
      one_entry cs ds (entry_of (Ref r Kept)) (needs_ref cs r Kept has) (λ root e. absurd (cc e))
      (λ root. down (same_root r root) (counted cs root) (counted ds root) (less root))

  pub ended : 0 < counted cs r → ((other : RootId) → counted ds other + one_for r other ≡ counted cs other)
      → counted ds r ≡ 0 → Recounts cs ds (entry_of (Ref r Ended) ∷ [])
  ended has less none = one_entry cs ds (entry_of (Ref r Ended)) (needs_ref cs r Ended has)
      (λ root e. down (same_root r root) (counted cs root) (counted ds root) (less root)
      ∙ subst (λ (q : RootId). counted ds q ≡ 0) (same_root-is r root e) none)
      (λ root. down (same_root r root) (counted cs root) (counted ds root) (less root))

view_up : (b : Bool) (k m : ℕ) → m ≡ k + (if b then 1 else 0) → (if b then k + 1 else k) ≡ m
view_up true k m e = sym e
view_up false k m e = omega (arith, e)

view_down : (b : Bool) (k m : ℕ) → m + (if b then 1 else 0) ≡ k → (if b then k - 1 else k) ≡ m
view_down true k m e = omega (arith, e)
view_down false k m e = omega (arith, e)

with_false : (b : Bool) → (b || false) ≡ true → b ≡ true
with_false true e = refl
with_false false e = e

-- a view of a root is posted, and one is fetched
module _ (cs ds : List Counted) (v : ViewData) (o : Object) (n : ℕ) where
  pub posted : 0 < counted cs v.root → ((other : RootId) → counted ds other + one_for v.root other ≡ counted cs other)
      → Recounts cs ds (record { note = Note.At o n (Post (record { view = Some v })); root = None; region = None }
      ∷ [])
  posted has less =
      one_entry cs ds (record { note = Note.At o n (Post (record { view = Some v })); root = None; region = None })
      (λ root e. subst (λ (q : RootId). 0 < counted cs q)
      (same_root-is v.root root (with_false (same_root v.root root) e)) has)
      (λ root e. absurd (cc e))
      (λ root. view_down (same_root v.root root) (counted cs root) (counted ds root) (less root))

  pub fetched : ((other : RootId) → counted ds other ≡ counted cs other + one_for v.root other)
      → Recounts cs ds (record { note = Note.At o n (Fetch (record { view = Some v })); root = None; region = None }
      ∷ [])
  fetched more =
      one_entry cs ds (record { note = Note.At o n (Fetch (record { view = Some v })); root = None; region = None })
      (λ root e. absurd (cc e))
      (λ root e. absurd (cc e))
      (λ root. view_up (same_root v.root root) (counted cs root) (counted ds root) (more root))
