-- Notes that are made, each in its lane.
use Rattle.std.proofs.Common.{◌≡◌, ℕ, zero, suc, ◌+◌, ◌<◌, ◌≢◌, Bool, true, false, List, [], ◌∷◌, ◌++◌, length, get_or, map, set, take, Some, Option, refl, sym, ap, subst, ◌∙◌, arith, append-nil, append_assoc, inl, inr}
use Rattle.std.specs.Prelude.{if◌then◌else◌, nat_eq, slice_get, Vec}
use Rattle.std.specs.List.{All}
use Rattle.std.specs.Option.{option_map}
use Rattle.std.specs.declared.alloc.Global.{Global}
use Rattle.std.proofs.lemmas.Bool.{cases_eq, eq-eqb, ne_eqb}
use Rattle.std.proofs.lemmas.List.{get_or-map, length-map}
use Rattle.std.proofs.lemmas.List.Elements.{All-append}
use Rattle.std.proofs.lemmas.Option.{slice_get-map, slice_get_read, slice_get_within}
use Rattle.pool_law.specs.declared.note.Note.{Note}
use Rattle.run_text.specs.Lines.{AreTold, IsTold, Line, of_lane, told_from}
use Rattle.run_text.specs.Told.{note_told}
use Rattle.run_text.specs.Knowing.{AreMade, line_told, made_by, notes_in}
use Rattle.run_text.specs.declared.making.Making.{Making}
use Rattle.run_text.proofs.TellLemmas.{line_at}

-- ---- The notes of a lane.

joined : (t : Bool) (n : Note) (a b r : List Note) → a ≡ b ++ r
    → (if t then n ∷ a else a) ≡ (if t then n ∷ b else b) ++ r
joined true n a b r e = ap (λ z. n ∷ z) e
joined false n a b r e = e

pub made-append : (lane : ℕ) (a b : List Line) → made_by lane (a ++ b) ≡ made_by lane a ++ made_by lane b
made-append lane [] b = refl
made-append lane (x ∷ a) b = joined (nat_eq x.0 lane) x.1 _ _ _ (made-append lane a b)

module _ (k : ℕ) (note : Note) (lines : List Line) where
  pub made-own : (lane : ℕ) → k ≡ lane → made_by lane ((k, note) ∷ lines) ≡ note ∷ made_by lane lines
  made-own lane e =
      ap (λ (t : Bool). if t then note ∷ made_by lane lines else made_by lane lines) (eq-eqb k lane e)

  pub made-other : (lane : ℕ) → k ≢ lane → made_by lane ((k, note) ∷ lines) ≡ made_by lane lines
  made-other lane apart =
      ap (λ (t : Bool). if t then note ∷ made_by lane lines else made_by lane lines) (ne_eqb k lane apart)

all-own : (lane : ℕ) (notes : List Note) → made_by lane (of_lane lane notes) ≡ notes
all-own lane [] = refl
all-own lane (n ∷ notes) = made-own lane n (of_lane lane notes) lane refl ∙ ap (λ z. n ∷ z) (all-own lane notes)

none-own : (k lane : ℕ) (notes : List Note) → k ≢ lane → made_by lane (of_lane k notes) ≡ []
none-own k lane [] apart = refl
none-own k lane (n ∷ notes) apart = made-other k n (of_lane k notes) lane apart ∙ none-own k lane notes apart

-- those of the lanes from one on tell none of a lower one
none-below : (logs : List (List Note)) (from lane : ℕ) → lane < from → made_by lane (told_from from logs) ≡ []
none-below [] from lane low = refl
none-below (notes ∷ logs) from lane low =
    made-append lane (of_lane from notes) (told_from (from + 1) logs)
    ∙ (λ i. none-own from lane notes (λ e. omega (arith, low, e)) i
    ++ none-below logs (from + 1) lane (omega (arith, low)) i)

-- of each lane they tell its notes
pub made-told : (logs : List (List Note)) (from k lane : ℕ) (notes : List Note) → lane ≡ from + k
    → slice_get logs k ≡ Some notes → made_by lane (told_from from logs) ≡ notes
made-told [] from k lane notes at e = absurd (cc e)
made-told (log ∷ logs) from zero lane notes at e =
    let same : from ≡ lane = omega (arith, at) in
    made-append lane (of_lane from log) (told_from (from + 1) logs)
    ∙ (λ i. (ap (λ n. made_by n (of_lane from log)) (sym same) ∙ all-own from log) i
    ++ none-below logs (from + 1) lane (omega (arith, same)) i)
    ∙ append-nil log
    ∙ cc
made-told (log ∷ logs) from (suc k) lane notes at e =
    made-append lane (of_lane from log) (told_from (from + 1) logs)
    ∙ ap (λ (z : List Note). z ++ made_by lane (told_from (from + 1) logs))
    (none-own from lane log (λ same. omega (arith, at, same)))
    ∙ made-told logs (from + 1) k lane notes (omega (arith, at)) e

-- they tell of no lane beyond the last
of-lane-below : (lane top : ℕ) (notes : List Note) → lane < top → All (λ (l : Line). l.0 < top) (of_lane lane notes)
of-lane-below lane top [] low = λ k d h. absurd (omega (arith, h))
of-lane-below lane top (n ∷ notes) low = All-append (λ (l : Line). l.0 < top) ((lane, n) ∷ []) (of_lane lane notes)
    (first) (of-lane-below lane top notes low)
  where
    first : All (λ (l : Line). l.0 < top) ((lane, n) ∷ [])
    first zero d h = low
    first (suc k) d h = absurd (omega (arith, h))

pub told-below : (logs : List (List Note)) (from top : ℕ) → from + length logs ≡ top
    → All (λ (l : Line). l.0 < top) (told_from from logs)
told-below [] from top e = λ k d h. absurd (omega (arith, h))
told-below (log ∷ logs) from top e =
    All-append (λ (l : Line). l.0 < top) (of_lane from log) (told_from (from + 1) logs)
    (of-lane-below from top log (omega (arith, e))) (told-below logs (from + 1) top (omega (arith, e)))

-- ---- Lines that are told.

-- a line at a place is told by all lines and those before it
told_at : (arenas : ℕ) (all before lines : List Line) → AreTold arenas all before lines
    → (k : ℕ) (d : Line) → k < length lines
    → IsTold arenas all (before ++ take k lines) (get_or lines k d).0 (get_or lines k d).1
told_at arenas all before [] told k d low = absurd (omega (arith, low))
told_at arenas all before (line ∷ lines) told zero d low =
    subst (λ (b : List Line). IsTold arenas all b line.0 line.1) (sym (append-nil before)) told.1
told_at arenas all before (line ∷ lines) told (suc k) d low =
    subst (λ (b : List Line). IsTold arenas all b (get_or lines k d).0 (get_or lines k d).1)
    (append_assoc before (line ∷ []) (take k lines))
    (told_at arenas all (before ++ line ∷ []) lines told.2 k d (omega (arith, low)))

-- ---- Logs.

-- what was put at a place stands there, and elsewhere what stood there
pub put_here : (logs : List (Vec Note Global)) (lane : ℕ) (new : Vec Note Global) → lane < length logs
    → slice_get (notes_in (set logs lane new)) lane ≡ Some new.items
put_here [] lane new low = absurd (omega (arith, low))
put_here (log ∷ logs) zero new low = refl
put_here (log ∷ logs) (suc lane) new low = put_here logs lane new (omega (arith, low))

pub put_beside : (logs : List (Vec Note Global)) (lane other : ℕ) (new : Vec Note Global) → other ≢ lane
    → slice_get (notes_in (set logs lane new)) other ≡ slice_get (notes_in logs) other
put_beside [] lane other new apart = refl
put_beside (log ∷ logs) zero zero new apart = absurd (apart refl)
put_beside (log ∷ logs) zero (suc other) new apart = refl
put_beside (log ∷ logs) (suc lane) zero new apart = refl
put_beside (log ∷ logs) (suc lane) (suc other) new apart =
    put_beside logs lane other new (λ e. apart (ap suc e))

-- lists that have the same at each place are the same
pub same_lists : (a b : List (List Note)) → length a ≡ length b
    → ((k : ℕ) (x : List Note) → slice_get b k ≡ Some x → slice_get a k ≡ Some x) → a ≡ b
same_lists [] [] long same = refl
same_lists [] (y ∷ b) long same = absurd (omega (arith, long))
same_lists (x ∷ a) [] long same = absurd (omega (arith, long))
same_lists (x ∷ a) (y ∷ b) long same =
    (λ i. first i ∷ same_lists a b (omega (arith, long)) (λ k z e. same (suc k) z e) i)
  where
    first : x ≡ y
    first = let e = same 0 y refl in cc

-- what stands at a place of the logs
pub log_there : (logs : List (Vec Note Global)) (lane : ℕ) (log : Vec Note Global) (notes : List Note)
    → lane < length logs → log ≡ get_or logs lane log → slice_get (notes_in logs) lane ≡ Some notes → log.items
    ≡ notes
log_there logs lane log notes low at is =
    let there = slice_get_read logs (length logs) lane log refl low at in
    let read = slice_get-map (λ (log : Vec Note Global). log.items) logs lane in
    let some : Some log.items ≡ Some notes =
    sym (read ∙ ap (λ (o : Option (Vec Note Global)). option_map (λ (log : Vec Note Global). log.items) o) there)
    ∙ is in
    cc

-- logs of which each is empty
pub one_more_empty : (logs : List (Vec Note Global)) (log : Vec Note Global) → log.items ≡ []
    → ((k : ℕ) → k < length logs → slice_get (notes_in logs) k ≡ Some [])
    → (k : ℕ) → k < length logs + 1 → slice_get (notes_in (logs ++ log ∷ [])) k ≡ Some []
one_more_empty [] log empty all zero low = ap Some empty
one_more_empty [] log empty all (suc k) low = absurd (omega (arith, low))
one_more_empty (x ∷ logs) log empty all zero low = all 0 (omega arith)
one_more_empty (x ∷ logs) log empty all (suc k) low =
    one_more_empty logs log empty (λ j h. all (suc j) (omega (arith, h))) k (omega (arith, low))

-- a note more of a lane
pub made_more : (old new : List (Vec Note Global)) (before : List Line) (lane count : ℕ) (note : Note) → lane < count
    → ((k : ℕ) → k < count → slice_get (notes_in old) k ≡ Some (made_by k before))
    → ((notes : List Note) → slice_get (notes_in old) lane ≡ Some notes
    → slice_get (notes_in new) lane ≡ Some (notes ++ note ∷ []))
    → ((k : ℕ) → k ≢ lane → slice_get (notes_in new) k ≡ slice_get (notes_in old) k)
    → (k : ℕ) → k < count → slice_get (notes_in new) k ≡ Some (made_by k (before ++ (lane, note) ∷ []))
made_more old new before lane count note low made here beside k small =
    elim (cases_eq k lane) [
      | inl same ↦
          ap (λ n. slice_get (notes_in new) n) same
          ∙ here (made_by lane before) (made lane low)
          ∙ ap Some (sym (made-append lane before ((lane, note) ∷ [])
          ∙ ap (λ (z : List Note). made_by lane before ++ z) (made-own lane note [] lane refl)))
          ∙ ap (λ n. Some (made_by n (before ++ (lane, note) ∷ []))) (sym same)
      | inr apart ↦
          beside k apart
          ∙ made k small
          ∙ ap Some (sym (made-append k before ((lane, note) ∷ [])
          ∙ ap (λ (z : List Note). made_by k before ++ z) (made-other lane note [] k (λ e. apart (sym e)))
          ∙ append-nil (made_by k before)))
    ]

-- what is made of the notes of logs are these logs
pub whole_logs : (arenas lanes : ℕ) (all : List Line) (making : Making) (logs : List (List Note))
    → AreMade arenas lanes all (told_from 0 logs) making → length logs ≡ lanes → notes_in making.logs.items ≡ logs
whole_logs arenas lanes all making logs made count =
    same_lists (notes_in making.logs.items) logs
    (length-map making.logs.items (λ (log : Vec Note Global). log.items) ∙ made.count ∙ sym count)
    (λ k notes is.
    let low = slice_get_within logs k notes is in
    made.logs k (omega (arith, low, count)) ∙ ap Some (made-told logs 0 k k notes (omega arith) is))

-- none of these logs is empty
pub not_empty : (logs : List (Vec Note Global)) (i : ℕ) (d log : Vec Note Global)
    → All (λ (notes : List Note). notes ≢ []) (notes_in logs) → i < length logs → log ≡ get_or logs i d
    → length log.items ≡ 0 → ⊥
not_empty logs i d log all low at none =
    all i [] (omega (arith, low, length-map logs (λ (log : Vec Note Global). log.items)))
    (get_or-map (λ (log : Vec Note Global). log.items) logs i d [] low
    ∙ ap (λ (log : Vec Note Global). log.items) (sym at) ∙ no_items log.items none)
  where
    no_items : (notes : List Note) → length notes ≡ 0 → notes ≡ []
    no_items [] e = refl
    no_items (n ∷ notes) e = absurd (omega (arith, e))

-- what is told of the next line
pub next_told : (arenas lanes : ℕ) (notes told : List Line) → told ≡ map line_told notes
    → AreTold arenas notes [] notes → All (λ (l : Line). l.0 < lanes) notes → (i : ℕ) (x : Line) → i < length told
    → x ≡ get_or told i x
    → (x.1 ≡ note_told (get_or notes i x).1) × IsTold arenas notes (take i notes) x.0 (get_or notes i x).1
    × (x.0 < lanes)
next_told arenas lanes notes told is are few i x low at =
    let there = line_at arenas notes told is are i low x x at in
    let below : i < length notes = omega (arith, low, ap length is, length-map notes line_told) in
    let lane = ap (λ (l : Line). l.0) there in (
      ap (λ (l : Line). l.1) there,
      subst (λ k. IsTold arenas notes (take i notes) k (get_or notes i x).1) (sym lane)
          (told_at arenas notes [] notes are i x below),
      subst (λ k. k < lanes) (sym lane) (few i x below),
    )
