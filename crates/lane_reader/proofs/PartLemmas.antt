-- Bytes of parts, one part after another.
use Rattle.std.proofs.Common.{◌≡◌, ℕ, ◌+◌, ◌-◌, Bool, true, false, List, [], ◌∷◌, ◌++◌, length, take, drop, ◌<◌, get_or, map, refl, sym, ap, arith, ◌∙◌, eqb-true, length-drop}
use Rattle.std.specs.Prelude.{◌==◌, ◌&&◌, min, if◌then◌else◌, Result, Ok, Option, Some, None, option_map, option_and_then}
use Rattle.pool_law.specs.declared.id.RootId.{RootId}
use Rattle.pool_law.specs.declared.id.Part.{Part}
use Rattle.pool_law.specs.declared.note.Did.{Did}
use Rattle.pool_law.specs.declared.run.Shape.{Shape}
use Rattle.pool_law.specs.Same.{same_bytes}
use Rattle.pool_law.specs.Caches.{if_so}
use Rattle.pool_law.specs.Dids as says
use Rattle.pool_law.proofs.SameLemmas.{and-second}
use Rattle.std.proofs.lemmas.List.{drop_more}
use Rattle.pool_law.specs.Composites.{Composite, filled, cut, cuts, ranges, moved_to}
use Rattle.lane_reader.specs.declared.view.Range.{Range}
use Rattle.lane_reader.specs.Viewing.{part_of}
use Rattle.lane_reader.proofs.ReadingLemmas.{with, access_says}
use Rattle.pool_law.specs.Readers.{Log, access}
use Rattle.pool_law.specs.Lanes.{set_parts, get_parts, copy_parts, release_part, release_parts, copied_to}
use Rattle.pool_law.specs.Patterns.{New}
use Rattle.pool_law.specs.declared.run.Reply.{Reply}
use Rattle.lane_reader.specs.Parting.{where_same, set_filled, get_filled, copy_filled, moved_parts}

pub set_parts-is : (p : Part) (ps : List Part) (bytes : List ℕ) (log : Log) →
    set_parts (filled (p ∷ ps)) bytes log
    ≡ option_and_then (λ got. set_parts (filled ps) (drop p.len bytes) got.1) (set_filled p bytes log)
set_parts-is p ps bytes log = go (p.len == 0) refl
  where
    go : (b : Bool) → (p.len == 0) ≡ b →
        set_parts (filled (p ∷ ps)) bytes log
        ≡ option_and_then (λ got. set_parts (filled ps) (drop p.len bytes) got.1) (set_filled p bytes log)
    go true is = let none : p.len ≡ 0 = eqb-true p.len 0 is in rw (is, none) refl
    go false is = rw is refl

pub copy_parts-is : (root : RootId) (at : ℕ) (p : Part) (ps : List Part) (log : Log) →
    copy_parts root at (filled (p ∷ ps)) log
    ≡ option_and_then (λ got. copy_parts root (at + p.len) (filled ps) got.1) (copy_filled root at p log)
copy_parts-is root at p ps log = go (p.len == 0) refl
  where
    inner : (o : Option (List ℕ × Log)) →
        option_and_then (λ got. option_and_then (λ set. copy_parts root (at + p.len) (filled ps) set.1)
        (access root (says.set at got.0) got.1)) o
        ≡ option_and_then (λ got. copy_parts root (at + p.len) (filled ps) got.1)
        (option_and_then (λ got. access root (says.set at got.0) got.1) o)
    inner None = refl
    inner (Some q) = refl

    go : (b : Bool) → (p.len == 0) ≡ b →
        copy_parts root at (filled (p ∷ ps)) log
        ≡ option_and_then (λ got. copy_parts root (at + p.len) (filled ps) got.1) (copy_filled root at p log)
    go true is =
        let none : p.len ≡ 0 = eqb-true p.len 0 is in
        let here : at ≡ at + p.len = omega (arith, none) in
        rw is (ap (λ (k : ℕ). copy_parts root k (filled ps) log) here)
    go false is = rw is (inner (access p.root (says.get p.offset p.len) log))

-- bytes that are the same, in two pieces
both-and : (a b c : Bool) → (a && (b && c)) ≡ ((a && b) && c)
both-and true b c = refl
both-and false b c = refl

same_bytes-append : (xs ys these : List ℕ) →
    same_bytes (xs ++ ys) these ≡ (same_bytes xs (take (length xs) these) && same_bytes ys (drop (length xs) these))
same_bytes-append [] ys these = refl
same_bytes-append (x ∷ xs) ys [] = refl
same_bytes-append (x ∷ xs) ys (z ∷ zs) =
    ap (λ (b : Bool). (x == z) && b) (same_bytes-append xs ys zs)
    ∙ both-and (x == z) (same_bytes xs (take (length xs) zs)) (same_bytes ys (drop (length xs) zs))

-- the bytes that are got are so many
if_so-true : (b : Bool) (bytes got : List ℕ) → if_so b bytes ≡ Some got → (b ≡ true) × (bytes ≡ got)
if_so-true true bytes got is = (refl, cc is)
if_so-true false bytes got is = absurd (cc is)

said-len : (offset len : ℕ) (did : Did) (got : List ℕ) → says.get offset len did ≡ Some got → length got ≡ len
said-len offset len (Did.Get at bytes) got is =
    let h = if_so-true ((at == offset) && (length bytes == len)) bytes got is in
    ap length (sym h.1) ∙ eqb-true (length bytes) len (and-second (at == offset) (length bytes == len) h.0)
said-len offset len _ got is = absurd (cc is)

got-len : (root : RootId) (offset len : ℕ) (log : Log) (q : List ℕ × Log) →
    access root (says.get offset len) log ≡ Some q → length q.0 ≡ len
got-len root offset len log q is = go (access root Some log) (sym (access_says root (says.get offset len) log) ∙ is)
  where
    inner : (did : Did) (l : Log) (o : Option (List ℕ)) → says.get offset len did ≡ o → option_map (with l) o ≡ Some q
        → length q.0 ≡ len
    inner did l None was h = absurd (cc h)
    inner did l (Some bytes) was h =
        let same : ◌≡◌ {A = List ℕ × Log} (bytes, l) q = cc h in
        ap (λ (p : List ℕ × Log). length p.0) (sym same) ∙ said-len offset len did bytes was

    go : (o : Option (Did × Log)) →
        option_and_then (λ got. option_map (with got.1) (says.get offset len got.0)) o ≡ Some q → length q.0 ≡ len
    go None h = absurd (cc h)
    go (Some p) h = inner p.0 p.1 (says.get offset len p.0) refl h

-- bytes that are got in two pieces, and compared with these
module _ (these : List ℕ) (n : ℕ) where
  abbrev together : List ℕ → Option (List ℕ × Log) → Option (Unit {0} × Log)
  together first o = where_same these (option_and_then (λ rest. Some (first ++ rest.0, rest.1)) o)

  abbrev apart : Bool → Log → Option (List ℕ × Log) → Option (Unit {0} × Log)
  apart b log o =
      option_and_then {T = Unit {0} × Log} (λ got. where_same (drop n these) o) (if b then Some (tt, log) else None)

  pieces : (first : List ℕ) (log : Log) (o : Option (List ℕ × Log)) → length first ≡ n →
      together first o ≡ apart (same_bytes first (take n these)) log o
  pieces first log None long = go (same_bytes first (take n these))
    where
      go : (b : Bool) → ◌≡◌ {A = Option (Unit {0} × Log)} None (apart b log None)
      go true = refl
      go false = refl
  pieces first log (Some rest) long =
      ap (λ (b : Bool). if b then Some (tt, rest.1) else None) (same_bytes-append first rest.0 these)
      ∙ (λ i. split (same_bytes first (take (long i) these)) (same_bytes rest.0 (drop (long i) these)))
      ∙ go (same_bytes first (take n these))
    where
      split : Bool → Bool → Option (Unit {0} × Log)
      split a b = if a && b then Some (tt, rest.1) else None

      go : (b : Bool) →
          (if b && same_bytes rest.0 (drop n these) then Some (tt, rest.1) else None) ≡ apart b log (Some rest)
      go true = refl
      go false = refl

pub get_parts-is : (these : List ℕ) (p : Part) (ps : List Part) (log : Log) →
    where_same these (get_parts (filled (p ∷ ps)) log)
    ≡ option_and_then (λ got. where_same (drop p.len these) (get_parts (filled ps) got.1))
    (where_same (take p.len these) (get_filled p log))
get_parts-is these p ps log = go (p.len == 0) refl
  where
    inner : (o : Option (List ℕ × Log)) → access p.root (says.get p.offset p.len) log ≡ o →
        where_same these (option_and_then
        (λ first. option_and_then (λ rest. Some (first.0 ++ rest.0, rest.1)) (get_parts (filled ps) first.1)) o)
        ≡ option_and_then (λ got. where_same (drop p.len these) (get_parts (filled ps) got.1))
        (where_same (take p.len these) o)
    inner None was = refl
    inner (Some q) was =
        pieces these p.len q.0 q.1 (get_parts (filled ps) q.1) (got-len p.root p.offset p.len log q was)
        ∙ moved (same_bytes q.0 (take p.len these))
      where
        moved : (b : Bool) →
            apart these p.len b q.1 (get_parts (filled ps) q.1)
            ≡ option_and_then {T = Unit {0} × Log} (λ got. where_same (drop p.len these) (get_parts (filled ps) got.1))
            (if b then Some (tt, q.1) else None)
        moved true = refl
        moved false = refl

    go : (b : Bool) → (p.len == 0) ≡ b →
        where_same these (get_parts (filled (p ∷ ps)) log)
        ≡ option_and_then (λ got. where_same (drop p.len these) (get_parts (filled ps) got.1))
        (where_same (take p.len these) (get_filled p log))
    go true is = let none : p.len ≡ 0 = eqb-true p.len 0 is in rw (is, none) refl
    go false is = rw is (inner (access p.root (says.get p.offset p.len) log) refl)

-- ---- A list of ranges, from one on.

module _ (parts : List Range) (k : ℕ) (part : Range) (there : k < length parts) (is : part ≡ get_or parts k part) where
  -- those from the part on
  from-part : map part_of (drop k parts) ≡ part_of part ∷ map part_of (drop (k + 1) parts)
  from-part =
      ap (map part_of) (drop_more parts k part there ∙ ap (λ (r : Range). r ∷ drop (k + 1) parts) (sym is))

  pub copied-on : (root : RootId) (at : ℕ) (log : Log) (o : Option (Unit {0} × Log))
      → copy_filled root at (part_of part) log ≡ o →
      copy_parts root at (filled (map part_of (drop k parts))) log
      ≡ option_and_then (λ got. copy_parts root (at + part.len) (filled (map part_of (drop (k + 1) parts))) got.1) o
  copied-on root at log o was =
      ap (λ (ps : List Part). copy_parts root at (filled ps) log) from-part
      ∙ copy_parts-is root at (part_of part) (map part_of (drop (k + 1) parts)) log
      ∙ ap (option_and_then (λ got. copy_parts root (at + part.len) (filled (map part_of (drop (k + 1) parts))) got.1))
      was

  pub released-on : (shape : Shape) (log : Log) (o : Option (Unit {0} × Log))
      → release_part shape (part_of part) log ≡ o →
      release_parts shape (map part_of (drop k parts)) log
      ≡ option_and_then (λ got. release_parts shape (map part_of (drop (k + 1) parts)) got.1) o
  released-on shape log o was =
      ap (λ (ps : List Part). release_parts shape ps log) from-part
      ∙ ap (option_and_then (λ got. release_parts shape (map part_of (drop (k + 1) parts)) got.1)) was

  module _ (i n : ℕ) (piece : Range)
      (cut_is : part_of piece ≡ cut (part_of part) (min i part.len) (min n (part.len - min i part.len))) where
    -- how many are taken, and where those behind begin
    taken : min n (part.len - min i part.len) ≡ piece.len
    taken = ap (λ (p : Part). p.len) (sym cut_is)

    skipped : (i' : ℕ) → i' ≡ i - part.len → i - min i part.len ≡ i'
    skipped i' further = omega (arith, further)

    pub set-on : (rest rest' : List ℕ) (i' : ℕ) (log : Log) (o : Option (Unit {0} × Log)) → n ≡ length rest →
        i' ≡ i - part.len → rest' ≡ drop piece.len rest → set_filled (part_of piece) rest log ≡ o →
        set_parts (ranges (map part_of (drop k parts)) i n) rest log
        ≡ option_and_then (λ got. set_parts (ranges (map part_of (drop (k + 1) parts)) i' (length rest')) rest' got.1) o
    set-on rest rest' i' log o long further behind was =
        let others : List Part = map part_of (drop (k + 1) parts) in
        let t : ℕ = min n (part.len - min i part.len) in
        let left : drop t rest ≡ rest' = ap (λ (m : ℕ). drop m rest) taken ∙ sym behind in
        let fewer : n - t ≡ length rest' = omega (arith, long, length-drop t rest, ap length left) in
        let first : set_filled (cut (part_of part) (min i part.len) t) rest log ≡ o =
        ap (λ (p : Part). set_filled p rest log) (sym cut_is) ∙ was in
        ap (λ (ps : List Part). set_parts (ranges ps i n) rest log) from-part
        ∙ set_parts-is (cut (part_of part) (min i part.len) t) (cuts others (i - min i part.len) (n - t)) rest log
        ∙ (λ j. option_and_then (λ got. set_parts (filled (cuts others (skipped i' further j) (fewer j))) (left j)
        got.1) (first j))

    pub get-on : (these these' : List ℕ) (i' n' : ℕ) (log : Log) (o : Option (Unit {0} × Log)) →
        i' ≡ i - part.len → n' ≡ n - piece.len → these' ≡ drop piece.len these →
        where_same (take piece.len these) (get_filled (part_of piece) log) ≡ o →
        where_same these (get_parts (ranges (map part_of (drop k parts)) i n) log)
        ≡ option_and_then (λ got. where_same these' (get_parts (ranges (map part_of (drop (k + 1) parts)) i' n') got.1))
        o
    get-on these these' i' n' log o further fewer behind was =
        let others : List Part = map part_of (drop (k + 1) parts) in
        let t : ℕ = min n (part.len - min i part.len) in
        let left : drop t these ≡ these' = ap (λ (m : ℕ). drop m these) taken ∙ sym behind in
        let less : n - t ≡ n' = ap (λ (m : ℕ). n - m) taken ∙ sym fewer in
        let first : where_same (take t these) (get_filled (cut (part_of part) (min i part.len) t) log) ≡ o =
        (λ j. where_same (take (taken j) these) (get_filled (sym cut_is j) log)) ∙ was in
        ap (λ (ps : List Part). where_same these (get_parts (ranges ps i n) log)) from-part
        ∙ get_parts-is these (cut (part_of part) (min i part.len) t) (cuts others (i - min i part.len) (n - t)) log
        ∙ (λ j. option_and_then (λ got. where_same (left j)
        (get_parts (filled (cuts others (skipped i' further j) (less j))) got.1)) (first j))

-- a composite is moved once its parts are copied and released
pub moved-then : (shape : Shape) (c : Composite) (new : New) (log : Log) →
    copied_to shape c (Ok new) log
    ≡ option_and_then (λ got. Some (Ok (moved_to new.root c), got.1)) (moved_parts shape new.root c.parts log)
moved-then shape c new log = go (copy_parts new.root 0 (filled c.parts) log)
  where
    finish : Option (Unit {0} × Log) → Option (Result Composite Reply × Log)
    finish o = option_and_then (λ got. Some (Ok (moved_to new.root c), got.1)) o

    go : (o : Option (Unit {0} × Log)) →
        option_and_then (λ copied. finish (release_parts shape c.parts copied.1)) o
        ≡ finish (option_and_then (λ copied. release_parts shape c.parts copied.1) o)
    go None = refl
    go (Some q) = refl
