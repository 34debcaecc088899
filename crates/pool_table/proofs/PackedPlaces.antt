-- Packed root places lie one behind the other.
use Rattle.std.proofs.Common.{◌≡◌, ℕ, ◌+◌, ◌-◌, ◌*◌, ◌/◌, ◌%◌, ◌<◌, ◌≤◌, sym, ap, ◌∙◌, arith, mul-le-mul_right}
use Rattle.pool_law.specs.declared.run.Shape.{Shape}
use Rattle.pool_law.specs.declared.note.Object.TheVariants.{Root}
use Rattle.pool_table.specs.Words.{single_of, padding, word_at, word_of, count_word_of}
use Rattle.pool_table.specs.Slots.{slot_at, slot_of}
use Rattle.pool_table.specs.Firsts.{AreFirsts}
use Rattle.pool_table.specs.Sound.{IsTableShape}
use Rattle.pool_table.specs.declared.firsts.Firsts.{Firsts}
use Rattle.pool_table.proofs.Words.{word_lies, lies_packed}
use Rattle.pool_table.proofs.Slots.{slot_packed}

-- behind the single words, where the words of each lane fill their cache lines
unpadded : (s : Shape) (i : ℕ) → s.handles % 16 ≡ 0 → single_of s ≤ i
    → word_at s i ≡ single_of s * 16 + (i - single_of s)
unpadded s i full le =
    let a : ℕ = single_of s in
    let none : padding s ≡ 0 = ap (λ (n : ℕ). (16 - n) % 16) full in
    word_lies s i
    ∙ (lies_packed s i le
    ∙ (ap (λ (w : ℕ). a * 16 + ((i - a) + (i - a) / s.handles * w)) none
    ∙ (let q : ℕ = (i - a) / s.handles in let g : a * 16 + ((i - a) + q * 0) ≡ a * 16 + (i - a) = omega arith in g)))

slot_here : (s : Shape) (p : ℕ) → slot_of s (Root p) ≡ single_of s * 8 + p
slot_here s p =
    let a : ℕ = single_of s in let n : ℕ = slot_at s (a + p) in
    let e : n ≡ a * 7 + (a + p) = slot_packed s (a + p) (omega arith) in
    let g : n ≡ a * 8 + p = omega (arith, e) in
    g

word_here : (s : Shape) (p : ℕ) → s.handles % 16 ≡ 0 → word_of s (Root p) ≡ single_of s * 16 + p
word_here s p full =
    let a : ℕ = single_of s in let n : ℕ = word_at s (a + p) in
    let e : n ≡ a * 16 + ((a + p) - a) = unpadded s (a + p) full (omega arith) in
    let g : n ≡ a * 16 + p = omega (arith, e) in
    g

count_here : (s : Shape) (p : ℕ) → s.handles % 16 ≡ 0
    → count_word_of s p ≡ single_of s * 16 + s.lanes * s.handles + p
count_here s p full =
    let a : ℕ = single_of s in let z : ℕ = s.lanes * s.handles in let n : ℕ = word_at s (a + z + p) in
    let e : n ≡ a * 16 + ((a + z + p) - a) = unpadded s (a + z + p) full (omega arith) in
    let g : n ≡ a * 16 + z + p = omega (arith, e) in
    g

few_single : (s : Shape) → IsTableShape s → single_of s ≤ 1024
few_single s shape =
    let n : ℕ = s.lanes in let lanes : n ≤ 16 = shape.lanes in let arenas = shape.arenas in
    let g : s.arenas + n * 41 ≤ 1024 = omega (arith, lanes, arenas) in
    g

few_places : (s : Shape) → IsTableShape s → s.lanes * s.handles ≤ 65536
few_places s shape =
    let h : ℕ = s.handles in let x : ℕ = s.lanes * h in let handles : h ≤ 4096 = shape.handles in
    let le : x ≤ 16 * h = mul-le-mul_right h shape.lanes in
    let g : x ≤ 65536 = omega (arith, handles, le) in
    g

pub firsts_are : (s : Shape) → IsTableShape s → (f : Firsts) → f.packed ≤ s.lanes * s.handles
    → (0 < f.packed → s.handles % 16 ≡ 0) → f.slot ≡ single_of s * 8 → f.word ≡ single_of s * 16
    → f.count ≡ single_of s * 16 + s.lanes * s.handles → AreFirsts s f
firsts_are s shape f many full slot word count =
    let a : ℕ = single_of s in let z : ℕ = s.lanes * s.handles in let few : a ≤ 1024 = few_single s shape in
    let places : z ≤ 65536 = few_places s shape in
    let fills : (p : ℕ) → p < f.packed → s.handles % 16 ≡ 0 =
    (λ p lt. full (let n : ℕ = f.packed in let lt' : p < n = lt in let g : 0 < n = omega (arith, lt') in g)) in
    record {
      many = many;
      slots = λ p lt. slot_here s p ∙ ap (λ (n : ℕ). n + p) (sym slot);
      words = λ p lt. word_here s p (fills p lt) ∙ ap (λ (n : ℕ). n + p) (sym word);
      counts = λ p lt. count_here s p (fills p lt) ∙ ap (λ (n : ℕ). n + p) (sym count);
      low_slot = (let m : ℕ = f.slot in let e : m ≡ a * 8 = slot in
          let g : m < 4294967296 = omega (arith, e, few) in g);
      low_word = (let m : ℕ = f.word in let e : m ≡ a * 16 = word in
          let g : m < 4294967296 = omega (arith, e, few) in g);
      low_count =
          (let m : ℕ = f.count in let e : m ≡ a * 16 + z = count in let g : m < 4294967296 =
          omega (arith, e, few, places) in
          g);
    }

-- a packed place is one of the table's
pub packed_within : (s : Shape) (f : Firsts) → AreFirsts s f → (p : ℕ) → p < f.packed → p < s.lanes * s.handles
packed_within s f firsts p lt =
    let n : ℕ = f.packed in let z : ℕ = s.lanes * s.handles in let many : n ≤ z = firsts.many in let lt' : p < n = lt in
    let g : p < z = omega (arith, many, lt') in
    g
