-- Whether a note fits what was done before it, and each of a list of steps does, as tests that compute.
use Rattle.std.proofs.Common.{◌≡◌, ℕ, ◌+◌, Bool, true, List, [], ◌∷◌, ◌++◌, refl, sym, subst, arith, eqb-true, eq-eqb, ltb-true, lt-ltb, leb-true, le-leb, append-nil}
use Rattle.std.specs.Prelude.{◌<◌, ◌-◌, ◌==◌, ◌&&◌, nat_lt, nat_le}
use Rattle.pool_law.specs.declared.id.RootId.{RootId}
use Rattle.pool_law.specs.declared.note.Object.{Object}
use Rattle.pool_law.specs.declared.note.RefDid.{RefDid}
use Rattle.pool_law.specs.declared.note.RefDid.TheVariants.{Born, Retain, Ended, Vacated, Look}
use Rattle.pool_law.specs.declared.note.Note.{Note}
use Rattle.pool_law.specs.declared.note.Note.TheVariants.{At, Ref, Busy}
use Rattle.pool_law.specs.Kinds.{Passing, Stays, Goes, Comes, passing}
use Rattle.pool_law.specs.Counts.{is_born, is_retain, is_release, ends_root}
use Rattle.pool_law.proofs.SameLemmas.{and-first, and-second}
use Rattle.pool_law.proofs.PatternLemmas.{both_true}
use Rattle.pool_law.proofs.HistoryLemmas.{append-assoc}
use Rattle.run_order.specs.Order.{Step, made, is_at, is_alike, is_post, is_born_at, is_vacated_at, is_vacated, FitsCount, FindsIts, Fits}

-- the counts of a root that these steps gain, and those that they lose
abbrev pub gains : List Step → RootId → ℕ
gains before root = made (is_born root) before + made (is_retain root) before

abbrev pub losses : List Step → RootId → ℕ
losses before root = made (is_release root) before

abbrev pub count_fits : List Step → RootId → RefDid → Bool
count_fits before root Born =
    (root.generation == made (is_born_at root.place) before + 1)
    && ((made (is_vacated_at root.place) before == made (is_born_at root.place) before)
    && (gains before root == losses before root + 0))
count_fits before root Retain = nat_lt (losses before root) (gains before root)
count_fits before root RefDid.Kept = nat_lt (losses before root + 1) (gains before root)
count_fits before root Ended = gains before root == losses before root + 1
count_fits before root Vacated =
    (made (ends_root root) before == made (is_vacated root) before + 1)
    && (gains before root == losses before root + 0)
count_fits before root (Look found) = nat_lt 0 found && (gains before root == losses before root + found)

abbrev pub finds_its : List Step → Object → ℕ → Passing → Bool
finds_its before mail number Stays = true
finds_its before mail number (Goes parcel) = true
finds_its before mail number (Comes parcel) = nat_le number (made (is_post mail) before)

abbrev pub note_fits : List Step → Note → Bool
note_fits before (At object number did) =
    (number == made (is_alike object did) before + 1) && finds_its before object number (passing did)
note_fits before (Ref root did) = count_fits before root did
note_fits before (Busy held) = held.number == made (is_at held.object) before

pub count_fits-is : (before : List Step) (root : RootId) (did : RefDid) → count_fits before root did ≡ true
    → FitsCount before root did
count_fits-is before root Born e =
    let rest = and-second _ _ e in
    (eqb-true _ _ (and-first _ _ e), eqb-true _ _ (and-first _ _ rest), eqb-true _ _ (and-second _ _ rest))
count_fits-is before root Retain e =
    let less : losses before root < gains before root = ltb-true _ _ e in
    (gains before root - losses before root, omega (arith, less), omega (arith, less))
count_fits-is before root RefDid.Kept e =
    let less : losses before root + 1 < gains before root = ltb-true _ _ e in
    (gains before root - losses before root, omega (arith, less), omega (arith, less))
count_fits-is before root Ended e = eqb-true _ _ e
count_fits-is before root Vacated e = (eqb-true _ _ (and-first _ _ e), eqb-true _ _ (and-second _ _ e))
count_fits-is before root (Look found) e = (ltb-true _ _ (and-first _ _ e), eqb-true _ _ (and-second _ _ e))

pub FitsCount-tests : (before : List Step) (root : RootId) (did : RefDid) → FitsCount before root did
    → count_fits before root did ≡ true
FitsCount-tests before root Born h =
    both_true _ _ (eq-eqb _ _ h.0) (both_true _ _ (eq-eqb _ _ h.1) (eq-eqb _ _ h.2))
FitsCount-tests before root Retain h = lt-ltb _ _ (omega (arith, h.1, h.2))
FitsCount-tests before root RefDid.Kept h = lt-ltb _ _ (omega (arith, h.1, h.2))
FitsCount-tests before root Ended h = eq-eqb _ _ h
FitsCount-tests before root Vacated h = both_true _ _ (eq-eqb _ _ h.0) (eq-eqb _ _ h.1)
FitsCount-tests before root (Look found) h = both_true _ _ (lt-ltb _ _ h.0) (eq-eqb _ _ h.1)

pub finds_its-is : (before : List Step) (mail : Object) (number : ℕ) (passed : Passing)
    → finds_its before mail number passed ≡ true → FindsIts before mail number passed
finds_its-is before mail number Stays e = tt
finds_its-is before mail number (Goes parcel) e = tt
finds_its-is before mail number (Comes parcel) e = leb-true _ _ e

pub FindsIts-tests : (before : List Step) (mail : Object) (number : ℕ) (passed : Passing)
    → FindsIts before mail number passed → finds_its before mail number passed ≡ true
FindsIts-tests before mail number Stays h = refl
FindsIts-tests before mail number (Goes parcel) h = refl
FindsIts-tests before mail number (Comes parcel) h = le-leb _ _ h

pub note_fits-is : (before : List Step) (n : Note) → note_fits before n ≡ true → Fits before n
note_fits-is before (At object number did) e =
    (eqb-true _ _ (and-first _ _ e), finds_its-is before object number (passing did) (and-second _ _ e))
note_fits-is before (Ref root did) e = count_fits-is before root did e
note_fits-is before (Busy held) e = eqb-true _ _ e

pub Fits-tests : (before : List Step) (n : Note) → Fits before n → note_fits before n ≡ true
Fits-tests before (At object number did) h =
    both_true _ _ (eq-eqb _ _ h.0) (FindsIts-tests before object number (passing did) h.1)
Fits-tests before (Ref root did) h = FitsCount-tests before root did h
Fits-tests before (Busy held) h = eq-eqb _ _ h

-- each of these steps fits those before it
abbrev pub all_fit : List Step → List Step → Bool
all_fit before [] = true
all_fit before (x ∷ rest) = note_fits before x.note && all_fit (before ++ x ∷ []) rest

pub all_fit-is : (before rest : List Step) → all_fit before rest ≡ true → (front back : List Step) (x : Step)
    → rest ≡ front ++ x ∷ back → Fits (before ++ front) x.note
all_fit-is before [] e [] back x is = absurd (cc is)
all_fit-is before [] e (z ∷ front) back x is = absurd (cc is)
all_fit-is before (y ∷ rest) e [] back x is =
    let same : y ≡ x = cc is in
    subst (λ xs. Fits xs x.note) (sym (append-nil before))
    (subst (λ z. Fits before z.note) same (note_fits-is before y.note (and-first _ _ e)))
all_fit-is before (y ∷ rest) e (z ∷ front) back x is =
    let same : y ≡ z = cc is in
    let tail : rest ≡ front ++ x ∷ back = cc is in
    subst (λ s. Fits (before ++ s ∷ front) x.note) same
    (subst (λ xs. Fits xs x.note) (append-assoc before (y ∷ []) front)
    (all_fit-is (before ++ y ∷ []) rest (and-second _ _ e) front back x tail))
