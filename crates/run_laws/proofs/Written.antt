-- The bytes at a root place are those that its notes wrote.
use Rattle.std.proofs.Common.{⊎_elim, ◌≡◌, ℕ, zero, suc, ◌+◌, ◌-◌, ◌≤◌, List, [], ◌∷◌, ◌++◌, length, take, drop, replicate, get_or, refl, sym, ap, subst, arith, Bool, true, false, Some, None, ◌∙◌, ltb-true, leb-true, le-leb, lt-ltb}
use Rattle.std.specs.Prelude.{◌<◌, ◌==◌, ◌&&◌, ◌||◌, nat_lt, nat_le, if◌then◌else◌, Option}
use Rattle.std.proofs.lemmas.List.{get_or_append_left, get_or-append_right, get_or-drop, get_or-take, length-take-le}
use Rattle.std.proofs.lemmas.Bool.{cond_both}
use Rattle.pool_law.specs.declared.note.Object.{Object}
use Rattle.pool_law.specs.declared.note.Did.{Did}
use Rattle.pool_law.specs.declared.note.Did.TheVariants.{Birth, Set, Get, Touch, Room, Extend, Grow, End}
use Rattle.pool_law.specs.declared.run.Shape.{Shape}
use Rattle.pool_law.specs.Same.{same_root, same_bytes}
use Rattle.pool_law.specs.Roots.{RootPlace, Present, new_place, laid_over, bytes_at, born, zeros_to, may_be_born, with_bytes, place_step, place_step_by}
use Rattle.pool_law.specs.Histories.{after, place_after}
use Rattle.pool_law.specs.Logs.{Logs, dids, history_of}
use Rattle.pool_law.specs.Legal.{HistoriesHold}
use Rattle.pool_law.specs.Lives.{Done}
use Rattle.run_laws.specs.Reads.{covers, byte_after, last_written, earlier_at}
use Rattle.pool_law.proofs.SameLemmas.{and-first, and-second, same_bytes-is}
use Rattle.pool_law.proofs.PatternLemmas.{both_true}
use Rattle.pool_law.proofs.LogLemmas.{dids-at}
use Rattle.run_laws.proofs.Sums.{below-or}
use Rattle.run_laws.proofs.CacheLaw.{if_so-is}
use Rattle.run_laws.proofs.PlaceLaw.{if_so-test, after-first}
use Rattle.run_laws.proofs.Numbered.{in-history}
use Rattle.run_laws.proofs.Placed.{step-at, is-some}

-- a byte of what is laid over others
pub laid-byte : (old bytes : List ℕ) (offset i : ℕ) → offset + length bytes ≤ length old →
    get_or (laid_over old offset bytes) i 0
    ≡ (if covers offset bytes i then get_or bytes (i - offset) 0 else get_or old i 0)
laid-byte old bytes offset i fits =
    cond_both (covers offset bytes i) (get_or bytes (i - offset) 0) (get_or old i 0)
    (λ z. get_or (laid_over old offset bytes) i 0 ≡ z)
    (λ in_. inside (leb-true offset i (and-first (nat_le offset i) (nat_lt i (offset + length bytes)) in_))
    (ltb-true i (offset + length bytes) (and-second (nat_le offset i) (nat_lt i (offset + length bytes)) in_)))
    (λ out. ⊎_elim before (λ later. behind (past out later)) (below-or i offset))
  where
    size : length (take offset old) ≡ offset
    size = length-take-le offset old (omega (arith, fits))

    inside : offset ≤ i → i < offset + length bytes
        → get_or (laid_over old offset bytes) i 0 ≡ get_or bytes (i - offset) 0
    inside from to =
        get_or-append_right (take offset old) (bytes ++ drop (offset + length bytes) old) offset i 0 size from
        ∙ get_or_append_left bytes (drop (offset + length bytes) old) 0 (i - offset) (omega (arith, from, to))

    before : i < offset → get_or (laid_over old offset bytes) i 0 ≡ get_or old i 0
    before low =
        get_or_append_left (take offset old) (bytes ++ drop (offset + length bytes) old) 0 i (omega (arith, low, size))
        ∙ get_or-take offset old i 0 low

    past : covers offset bytes i ≡ false → offset ≤ i → offset + length bytes ≤ i
    past out from =
        ⊎_elim (λ low. absurd (both (covers offset bytes i)
        (both_true (nat_le offset i) (nat_lt i (offset + length bytes)) (le-leb offset i from)
        (lt-ltb i (offset + length bytes) low)) out)) (λ high. high) (below-or i (offset + length bytes))
      where
        both : (b : Bool) → b ≡ true → b ≡ false → ⊥
        both b yes_b no_b = let same : true ≡ false = sym yes_b ∙ no_b in cc same

    behind : offset + length bytes ≤ i → get_or (laid_over old offset bytes) i 0 ≡ get_or old i 0
    behind high =
        let number : offset + length bytes + (i - offset - length bytes) ≡ i = omega (arith, high) in
        get_or-append_right (take offset old) (bytes ++ drop (offset + length bytes) old) offset i 0 size
        (omega (arith, high))
        ∙ get_or-append_right bytes (drop (offset + length bytes) old) (length bytes) (i - offset) 0 refl
        (omega (arith, high))
        ∙ get_or-drop (offset + length bytes) old (i - offset - length bytes) 0
        ∙ ap (λ n. get_or old n 0) number

pub zeros-byte : (n i : ℕ) → ◌≡◌ {A = ℕ} (get_or (replicate n 0) i 0) 0
zeros-byte zero zero = refl
zeros-byte zero (suc i) = refl
zeros-byte (suc n) zero = refl
zeros-byte (suc n) (suc i) = zeros-byte n i

-- zeros behind bytes are what is there without them
pub zeros_to-byte : (size : ℕ) (bytes : List ℕ) (i : ℕ) → get_or (zeros_to size bytes) i 0 ≡ get_or bytes i 0
zeros_to-byte size bytes i = go bytes i (size - length bytes)
  where
    go : (xs : List ℕ) (i n : ℕ) → get_or (xs ++ replicate n 0) i 0 ≡ get_or xs i 0
    go [] i n = zeros-byte n i
    go (x ∷ xs) zero n = refl
    go (x ∷ xs) (suc i) n = go xs i n

-- the bytes of what is present are those that the notes at its place wrote
abbrev pub Holds : ℕ → ℕ → RootPlace → Type 0
Holds i old s = (p : Present) → s.present ≡ Some p → get_or p.bytes i 0 ≡ old

pub step-written : (place i old : ℕ) (s t : RootPlace) (d : Did) → place_step place s d ≡ Some t → Holds i old s
    → Holds i (byte_after i old d) t
step-written place i old s t d e holds = go s.present refl d e
  where
    go : (o : Option Present) → s.present ≡ o → (d : Did) → place_step_by place s o d ≡ Some t
        → Holds i (byte_after i old d) t
    go None here (Birth root region) is p present =
        let same : born root region ≡ t = if_so-is (may_be_born place s root region) (born root region) t is in
        let p_is : record { root = root; region = region; bytes = replicate root.capacity 0 }
        ≡ p = cc (ap (λ x. x.present) same ∙ present) in
        ap (λ x. get_or x.bytes i 0) (sym p_is) ∙ zeros-byte root.capacity i
    go None here _ is p present = absurd (cc is)
    go (Some q) here (Set offset bytes) is p present =
        let same : with_bytes s q (laid_over q.bytes offset bytes)
        ≡ t =
        if_so-is (nat_le (offset + length bytes) (length q.bytes))
        (with_bytes s q (laid_over q.bytes offset bytes)) t is in
        let fits : nat_le (offset + length bytes) (length q.bytes)
        ≡ true =
        if_so-test (nat_le (offset + length bytes) (length q.bytes))
        (with_bytes s q (laid_over q.bytes offset bytes)) t is in
        let p_is : record q { bytes = laid_over q.bytes offset bytes } ≡ p = cc (ap (λ x. x.present) same ∙ present) in
        ap (λ x. get_or x.bytes i 0) (sym p_is) ∙ laid-byte q.bytes bytes offset i
        (leb-true (offset + length bytes) (length q.bytes) fits)
        ∙ ap (λ x. if covers offset bytes i then get_or bytes (i - offset) 0 else x) (holds q here)
    go (Some q) here (Get offset bytes) is p present =
        let same : s ≡ t = if_so-is (nat_le (offset + length bytes) (length q.bytes) && same_bytes bytes
        (bytes_at q.bytes offset (length bytes))) s t is in
        holds p (ap (λ x. x.present) same ∙ present)
    go (Some q) here Touch is p present = let same : s ≡ t = cc is in holds p (ap (λ x. x.present) same ∙ present)
    go (Some q) here (Room asked capacity) is p present =
        let same : s ≡ t = if_so-is ((capacity == length q.bytes) && (nat_le asked capacity
        || nat_lt q.region.place.len asked)) s t is in
        holds p (ap (λ x. x.present) same ∙ present)
    go (Some q) here (Extend size) is p present =
        let same : with_bytes s q (zeros_to size q.bytes) ≡ t =
        if_so-is (nat_lt (length q.bytes) size && nat_le size q.region.place.len)
        (with_bytes s q (zeros_to size q.bytes)) t is in
        let p_is : record q { bytes = zeros_to size q.bytes } ≡ p = cc (ap (λ x. x.present) same ∙ present) in
        ap (λ x. get_or x.bytes i 0) (sym p_is) ∙ zeros_to-byte size q.bytes i ∙ holds q here
    go (Some q) here (Grow capacity region) is p present =
        let same : with_bytes s (record q { region = region }) (zeros_to capacity q.bytes) ≡ t =
        if_so-is (nat_lt q.region.place.len capacity && nat_le capacity region.place.len)
        (with_bytes s (record q { region = region }) (zeros_to capacity q.bytes)) t is in
        let p_is : record q { region = region; bytes = zeros_to capacity q.bytes } ≡ p =
        cc (ap (λ x. x.present) same ∙ present) in
        ap (λ x. get_or x.bytes i 0) (sym p_is) ∙ zeros_to-byte capacity q.bytes i ∙ holds q here
    go (Some q) here (End root) is p present =
        let same : record s { present = None } ≡ t =
        if_so-is (same_root root q.root) (record s { present = None }) t is in
        absurd (cc (ap (λ x. x.present) same ∙ present))
    go (Some q) here _ is p present = absurd (cc is)

pub after-written : (place i old : ℕ) (s t : RootPlace) (ds : List Did) → after (place_step place) s ds ≡ Some t
    → Holds i old s → Holds i (last_written i old ds) t
after-written place i old s t [] e holds = let same : s ≡ t = cc e in subst (Holds i old) same holds
after-written place i old s t (d ∷ ds) e holds =
    let f = after-first place s t d ds e in
    after-written place i (byte_after i old d) f.0 t ds f.2 (step-written place i old s f.0 d f.1 holds)

-- what a note got is there
pub got-there : (place : ℕ) (s t : RootPlace) (offset : ℕ) (bytes : List ℕ)
    → place_step place s (Get offset bytes) ≡ Some t
    → (p : Present) × (s.present ≡ Some p) × (bytes ≡ bytes_at p.bytes offset (length bytes))
got-there place s t offset bytes e = go s.present refl e
  where
    go : (o : Option Present) → s.present ≡ o → place_step_by place s o (Get offset bytes) ≡ Some t
        → (p : Present) × (s.present ≡ Some p) × (bytes ≡ bytes_at p.bytes offset (length bytes))
    go None here is = absurd (cc is)
    go (Some p) here is =
        let test = if_so-test (nat_le (offset + length bytes) (length p.bytes) && same_bytes bytes
        (bytes_at p.bytes offset (length bytes))) s t is in (
          p,
          here,
          same_bytes-is bytes (bytes_at p.bytes offset (length bytes))
              (and-second (nat_le (offset + length bytes) (length p.bytes))
              (same_bytes bytes (bytes_at p.bytes offset (length bytes))) test),
        )

-- each note that gets bytes gets those that were last written
pub got-written : (shape : Shape) (logs : Logs) → HistoriesHold shape logs
    → (place offset : ℕ) (bytes : List ℕ) (d : Done logs (Object.Root place) (Get offset bytes)) (k : ℕ)
    → k < length bytes →
    get_or bytes k 0 ≡ last_written (offset + k) 0 (earlier_at logs place d.number)
got-written shape logs holds place offset bytes d k low =
    let h = history_of (Object.Root place) logs in
    let j = in-history (Object.Root place) logs (history_of (Object.Root place) logs)
    (holds.whole (Object.Root place) refl)
    d.lane d.at d.number (Get offset bytes) d.stands in
    let t = is-some (place_after place (dids (history_of (Object.Root place) logs)))
    (holds.accepted (Object.Root place) refl) in
    let s = step-at (place_step place) (dids (history_of (Object.Root place) logs)) new_place t.0 j.0 (Get offset bytes)
    t.1 (dids-at (history_of (Object.Root place) logs) j.0 d.lane (Get offset bytes) j.2) in
    let g = got-there place s.0 s.1 offset bytes s.3 in
    let number : d.number - 1 ≡ j.0 = omega (arith, j.1) in
    ap (λ xs. get_or xs k 0) g.2
    ∙ get_or-take (length bytes) (drop offset g.0.bytes) k 0 low
    ∙ get_or-drop offset g.0.bytes k 0
    ∙ after-written place (offset + k) 0 new_place s.0 (take j.0 (dids (history_of (Object.Root place) logs))) s.2
    (λ p none. absurd (cc none)) g.0 g.1
    ∙ ap (λ n. last_written (offset + k) 0 (take n (dids (history_of (Object.Root place) logs)))) (sym number)
