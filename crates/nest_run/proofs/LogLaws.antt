-- What more notes tell: of the notes before them, of the root's bytes, and of its counts.
use Rattle.std.proofs.Common.{◌≡◌, ℕ, ◌+◌, Bool, true, false, ◌&&◌, List, [], ◌∷◌, ◌++◌, length, map, replicate, refl, sym, ap, ◌∙◌, subst, arith, Some, None, eqb-true}
use Rattle.std.specs.Prelude.{Option, ◌==◌, if◌then◌else◌, nat_le, option_and_then, IfSome}
use Rattle.std.proofs.lemmas.List.{map-append}
use Rattle.pool_law.specs.declared.id.RootId.{RootId}
use Rattle.pool_law.specs.declared.id.RegionId.{RegionId}
use Rattle.pool_law.specs.declared.note.Did.{Did}
use Rattle.pool_law.specs.declared.note.Did.TheVariants as did
use Rattle.pool_law.specs.declared.note.Note.{Note}
use Rattle.pool_law.specs.declared.note.Note.TheVariants.{At, Ref}
use Rattle.pool_law.specs.declared.note.Object.{Object}
use Rattle.pool_law.specs.declared.note.RefDid.{RefDid}
use Rattle.pool_law.specs.declared.note.RefDid.TheVariants as steps
use Rattle.pool_law.specs.Counts.{is_born, is_retain, is_release, ref_loses}
use Rattle.pool_law.specs.Histories.{after, place_after}
use Rattle.pool_law.specs.Logs.{own}
use Rattle.pool_law.specs.Roots.{RootPlace, Present, new_place, place_step, place_step_by, may_be_born, born, laid_over, bytes_at}
use Rattle.pool_law.specs.Same.{same_bytes, same_root}
use Rattle.pool_law.proofs.HistoryLemmas.{append-assoc, own-append}
use Rattle.pool_law.proofs.PatternLemmas.{same_root-refl}
use Rattle.pool_law.proofs.SameLemmas.{same_bytes-is}
use Rattle.seat_work.specs.Growth.{how_many}
use Rattle.nest_run.specs.Plays.{first_root}
use Rattle.nest_run.specs.Standing.{dids_of, Leave, FitsRelease, IsWhole, HasBytes}
use Rattle.history_laws.proofs.BinSteps.{so}

-- ---- Notes before others.

-- a place after more notes was a place before them
record Through (s : RootPlace) (ds es : List Did) (t : RootPlace) : Type 0 where
  pub mid : RootPlace
  pub before : after (place_step 0) s ds ≡ Some mid
  pub behind : after (place_step 0) mid es ≡ Some t

through : (s : RootPlace) (ds es : List Did) (t : RootPlace) → after (place_step 0) s (ds ++ es) ≡ Some t
    → Through s ds es t
through s [] es t e = record { mid = s; before = refl; behind = e }
through s (d ∷ ds) es t e =
    by (place_step 0 s d) refl e (λ (u : RootPlace) (go : after (place_step 0) u (ds ++ es) ≡ Some t).
    through u ds es t go)
  where
    by : (o : Option RootPlace) → place_step 0 s d ≡ o
        → option_and_then (λ u. after (place_step 0) u (ds ++ es)) o ≡ Some t
        → ((u : RootPlace) → after (place_step 0) u (ds ++ es) ≡ Some t → Through u ds es t)
        → Through s (d ∷ ds) es t
    by None is e up = absurd (cc e)
    by (Some u) is e up =
        let w = up u e in
        record {
          mid = w.mid;
          before = ap (option_and_then (λ u. after (place_step 0) u ds)) is ∙ w.before;
          behind = w.behind;
        }

pub dids_append : (log more : List Note) → dids_of (log ++ more) ≡ dids_of log ++ dids_of more
dids_append log more =
    ap (map (λ (e : ℕ × Did). e.1)) (own-append (Object.Root 0) log more)
    ∙ map-append (λ (e : ℕ × Did). e.1) (own (Object.Root 0) log) (own (Object.Root 0) more)

split_place : (log more : List Note) (t : RootPlace) → place_after 0 (dids_of (log ++ more)) ≡ Some t
    → Through new_place (dids_of log) (dids_of more) t
split_place log more t e =
    through new_place (dids_of log) (dids_of more) t (ap (place_after 0) (sym (dids_append log more)) ∙ e)

-- notes that are whole with others behind them are whole
pub whole_before : (log more : List Note) → IsWhole (log ++ more) → IsWhole log
whole_before log more w =
    let p = split_place log more w.state w.place in
    record {
      state = p.mid;
      place = p.before;
      releases = λ before behind root did e.
          w.releases before (behind ++ more) root did
          (ap (λ (ns : List Note). ns ++ more) e ∙ append-assoc before (Ref root did ∷ behind) more);
    }

-- what a whole log says of a release in it
pub release_found : (log more : List Note) (root : RootId) (did : RefDid) → IsWhole (log ++ Ref root did ∷ more)
    → FitsRelease log root did
release_found log more root did w = w.releases log more root did refl

-- ---- The root's bytes.

-- notes elsewhere, and steps on counts, leave them
pub bytes_kept : (log more : List Note) (bytes : List ℕ) → dids_of more ≡ [] → HasBytes log bytes
    → HasBytes (log ++ more) bytes
bytes_kept log more bytes none has state e =
    let p = split_place log more state e in
    let same : after (place_step 0) p.mid [] ≡ Some state =
    ap (after (place_step 0) p.mid) (sym none) ∙ p.behind in
    let is : p.mid ≡ state = (cc same) in
    has state (p.before ∙ ap Some is)

-- one step of the place
one_step : (mid : RootPlace) (d : Did) (t : RootPlace) → after (place_step 0) mid (d ∷ []) ≡ Some t
    → place_step 0 mid d ≡ Some t
one_step mid d t e = by (place_step 0 mid d) e
  where
    by : (o : Option RootPlace) → option_and_then (λ u. after (place_step 0) u []) o ≡ Some t → o ≡ Some t
    by None e = absurd (cc e)
    by (Some u) e = e

step_at : (log : List Note) (k : ℕ) (d : Did) (t : RootPlace)
    → place_after 0 (dids_of (log ++ At (Object.Root 0) k d ∷ [])) ≡ Some t
    → (mid : RootPlace) × ((place_after 0 (dids_of log) ≡ Some mid) × (place_step 0 mid d ≡ Some t))
step_at log k d t e =
    let p = split_place log (At (Object.Root 0) k d ∷ []) t e in
    (p.mid, (p.before, one_step p.mid d t p.behind))

-- bytes are laid over those of the root
set_step : (mid t : RootPlace) (offset : ℕ) (data' bytes : List ℕ) (o : Option Present)
    → place_step_by 0 mid o (did.Set offset data') ≡ Some t → IfSome o (λ p. p.bytes ≡ bytes)
    → IfSome t.present (λ p. p.bytes ≡ laid_over bytes offset data')
set_step mid t offset data' bytes None e has = absurd (cc e)
set_step mid t offset data' bytes (Some p) e has =
    let w = so (nat_le (offset + length data') (length p.bytes)) _ t e in
    subst (λ (s : RootPlace). IfSome s.present (λ q. q.bytes ≡ laid_over bytes offset data')) w.1
    (ap (λ (xs : List ℕ). laid_over xs offset data') has)

pub bytes_set : (log : List Note) (k offset : ℕ) (data' bytes : List ℕ) → HasBytes log bytes
    → HasBytes (log ++ At (Object.Root 0) k (did.Set offset data') ∷ []) (laid_over bytes offset data')
bytes_set log k offset data' bytes has state e =
    let p = step_at log k (did.Set offset data') state e in
    set_step p.0 state offset data' bytes p.0.present p.1.1 (has p.0 p.1.0)

-- bytes are read, which are those of the root
get_step : (mid t : RootPlace) (offset : ℕ) (data' bytes : List ℕ) (o : Option Present)
    → place_step_by 0 mid o (did.Get offset data') ≡ Some t → mid.present ≡ o → IfSome o (λ p. p.bytes ≡ bytes)
    → (data' ≡ bytes_at bytes offset (length data')) × IfSome t.present (λ p. p.bytes ≡ bytes)
get_step mid t offset data' bytes None e is has = absurd (cc e)
get_step mid t offset data' bytes (Some p) e is has =
    let w = so (nat_le (offset + length data') (length p.bytes)
    && same_bytes data' (bytes_at p.bytes offset (length data'))) mid t e in
    let seen : same_bytes data' (bytes_at p.bytes offset (length data')) ≡ true =
    second (nat_le (offset + length data') (length p.bytes)) _ w.0 in (
      same_bytes-is data' _ seen ∙ ap (λ (xs : List ℕ). bytes_at xs offset (length data')) has,
      subst (λ (s : RootPlace). IfSome s.present (λ q. q.bytes ≡ bytes)) w.1
          (subst (λ (q : Option Present). IfSome q (λ r. r.bytes ≡ bytes)) (sym is) has),
    )
  where
    second : (a b : Bool) → (a && b) ≡ true → b ≡ true
    second true b e = e
    second false b e = absurd (cc e)

pub bytes_got : (log : List Note) (k offset : ℕ) (data' bytes : List ℕ)
    → IsWhole (log ++ At (Object.Root 0) k (did.Get offset data') ∷ []) → HasBytes log bytes
    → data' ≡ bytes_at bytes offset (length data')
bytes_got log k offset data' bytes w has =
    let p = step_at log k (did.Get offset data') w.state w.place in
    (get_step p.0 w.state offset data' bytes p.0.present p.1.1 refl (has p.0 p.1.0)).0

pub bytes_read : (log : List Note) (k offset : ℕ) (data' bytes : List ℕ) → HasBytes log bytes
    → HasBytes (log ++ At (Object.Root 0) k (did.Get offset data') ∷ []) bytes
bytes_read log k offset data' bytes has state e =
    let p = step_at log k (did.Get offset data') state e in
    (get_step p.0 state offset data' bytes p.0.present p.1.1 refl (has p.0 p.1.0)).1

-- the root ends, and no bytes are there
end_step : (mid t : RootPlace) (root : RootId) (bytes : List ℕ) (o : Option Present)
    → place_step_by 0 mid o (did.End root) ≡ Some t → IfSome t.present (λ p. p.bytes ≡ bytes)
end_step mid t root bytes None e = absurd (cc e)
end_step mid t root bytes (Some p) e =
    let w = so (same_root root p.root) _ t e in
    subst (λ (s : RootPlace). IfSome s.present (λ q. q.bytes ≡ bytes)) w.1 tt

pub bytes_ended : (log : List Note) (k : ℕ) (root : RootId) (bytes : List ℕ)
    → HasBytes (log ++ At (Object.Root 0) k (did.End root) ∷ []) bytes
bytes_ended log k root bytes state e =
    let p = step_at log k (did.End root) state e in
    end_step p.0 state root bytes p.0.present p.1.1

-- the root is born as the first of its place, and its bytes are 0
birth_step : (t : RootPlace) (root : RootId) (region : RegionId)
    → place_step 0 new_place (did.Birth root region) ≡ Some t
    → (root ≡ first_root root.capacity) × IfSome t.present (λ p. p.bytes ≡ replicate root.capacity 0)
birth_step t root region e =
    let w = so (may_be_born 0 new_place root region) (born root region) t e in
    let place : root.place ≡ 0 = eqb-true root.place 0 (first (root.place == 0) _ w.0) in
    let generation : root.generation ≡ 1 =
    eqb-true root.generation 1 (first (root.generation == 1) _ (second (root.place == 0) _ w.0)) in (
      (λ i. record { place = place i; generation = generation i; capacity = root.capacity }),
      subst (λ (s : RootPlace). IfSome s.present (λ q. q.bytes ≡ replicate root.capacity 0)) w.1 refl,
    )
  where
    first : (a b : Bool) → (a && b) ≡ true → a ≡ true
    first true b e = refl
    first false b e = absurd (cc e)

    second : (a b : Bool) → (a && b) ≡ true → b ≡ true
    second true b e = e
    second false b e = absurd (cc e)

pub born_first : (log : List Note) (root : RootId) (region : RegionId) → dids_of log ≡ did.Birth root region ∷ []
    → (state : RootPlace) → place_after 0 (dids_of log) ≡ Some state
    → (root ≡ first_root root.capacity) × IfSome state.present (λ p. p.bytes ≡ replicate root.capacity 0)
born_first log root region is state e =
    birth_step state root region
    (one_step new_place (did.Birth root region) state (ap (place_after 0) (sym is) ∙ e))

-- ---- Counts.

how_many-append : (test : Note → Bool) (xs ys : List Note)
    → how_many test (xs ++ ys) ≡ how_many test xs + how_many test ys
how_many-append test [] ys = omega arith
how_many-append test (x ∷ xs) ys = omega (arith, how_many-append test xs ys)

-- more notes, by how many counts they bring and take
pub leave_more : (log more : List Note) (root : RootId) (n m : ℕ)
    → n + (how_many (is_born root) more + how_many (is_retain root) more) ≡ m + how_many (is_release root) more
    → Leave log root n → Leave (log ++ more) root m
leave_more log more root n m sum left =
    let b = how_many-append (is_born root) log more in let r = how_many-append (is_retain root) log more in
    let l = how_many-append (is_release root) log more in
    omega (arith, b, r, l, sum, left)

-- one count more, and one less
pub leave_retained : (log : List Note) (root : RootId) (n m : ℕ) → m ≡ n + 1 → Leave log root n
    → Leave (log ++ Ref root steps.Retain ∷ []) root m
leave_retained log root n m is left =
    let one : ◌≡◌ {A = ℕ} (if same_root root root then 1 else 0) 1 =
    ap (λ (b : Bool). if b then 1 else 0) (same_root-refl root) in
    let none : ◌≡◌ {A = ℕ} (if same_root root root && false then 1 else 0) 0 =
    ap (λ (b : Bool). if b && false then 1 else 0) (same_root-refl root) in
    leave_more log (Ref root steps.Retain ∷ []) root n m (omega (arith, one, none, is)) left

pub leave_released : (log : List Note) (root : RootId) (did : RefDid) (n m : ℕ) → is_born root (Ref root did) ≡ false
    → is_retain root (Ref root did) ≡ false → ref_loses did ≡ true → n ≡ m + 1 → Leave log root n
    → Leave (log ++ Ref root did ∷ []) root m
leave_released log root did n m born_not retain_not loses is left =
    let b : ◌≡◌ {A = ℕ} (if is_born root (Ref root did) then 1 else 0) 0 =
    ap (λ (t : Bool). if t then 1 else 0) born_not in
    let r : ◌≡◌ {A = ℕ} (if is_retain root (Ref root did) then 1 else 0) 0 =
    ap (λ (t : Bool). if t then 1 else 0) retain_not in
    let l : ◌≡◌ {A = ℕ} (if same_root root root && ref_loses did then 1 else 0) 1 =
    (λ i. if same_root-refl root i && loses i then 1 else 0) in
    leave_more log (Ref root did ∷ []) root n m (omega (arith, b, r, l, is)) left

-- notes that bring and take none
pub leave_same : (log more : List Note) (root : RootId) (n : ℕ) → how_many (is_born root) more ≡ 0
    → how_many (is_retain root) more ≡ 0 → how_many (is_release root) more ≡ 0 → Leave log root n
    → Leave (log ++ more) root n
leave_same log more root n b r l left = leave_more log more root n n (omega (arith, b, r, l)) left
