-- What contracts see of a subpage: its run, and its elements.
use Rattle.std.specs.Prelude.{◌≡◌, ◌≢◌, ℕ, ◌+◌, ◌*◌, ◌/◌, length, true, Some}
use Rattle.ground.specs.Ground.{Origin, Segment}
use Rattle.size_classes.specs.Elements.{Elements, new_elements, next_element, is_out, with_out, with_back}

-- a run that is cut into elements of one size
pub record SharedRun : Type 0 where
  pub origin : Origin
  pub start : ℕ
  pub size : ℕ
  pub elements : Elements

-- all of a run as elements of a size, none of them out
abbrev pub new_shared : Segment → ℕ → SharedRun
new_shared run size = record {
  origin = run.origin;
  start = run.start;
  size = size;
  elements = new_elements (length run.bytes / size);
}

-- the run once element i is out, and once it is back
abbrev pub taken : SharedRun → ℕ → SharedRun
taken r i = record r { elements = with_out r.elements i }

abbrev pub given : SharedRun → ℕ → SharedRun
given r i = record r { elements = with_back r.elements i }

-- s is element i
pub record IsElementOf (r : SharedRun) (i : ℕ) (s : Segment) : Type 0 where
  pub origin : s.origin ≡ r.origin
  pub start : s.start ≡ r.start + i * r.size
  pub size : length s.bytes ≡ r.size

-- the next element, which is i, is handed out as s
pub record HandsOut (before after : SharedRun) (s : Segment) (i : ℕ) : Type 0 where
  pub next : next_element before.elements ≡ Some i
  pub piece : IsElementOf before i s
  pub rest : after ≡ taken before i

-- s is element i, which is out: what may be given back
pub record IsElementOut (r : SharedRun) (i : ℕ) (s : Segment) : Type 0 where
  pub element : IsElementOf r i s
  pub out : is_out r.elements i ≡ true

-- what is out stays out
abbrev pub KeepsOut : SharedRun → SharedRun → Type 0
KeepsOut before after = (k : ℕ) (s : Segment) → IsElementOut before k s → IsElementOut after k s

-- what is out stays out, but for element i
abbrev pub KeepsOutBut : ℕ → SharedRun → SharedRun → Type 0
KeepsOutBut i before after =
    (k : ℕ) (s : Segment) → k ≢ i → IsElementOut before k s → IsElementOut after k s
