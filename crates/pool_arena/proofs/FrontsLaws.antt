-- The fronts of an arena, and after one of them is written.
use Rattle.std.proofs.Common.{Vec, Global, ◌≡◌, ◌≢◌, ℕ, ◌*◌, ◌<◌, ◌≤◌, List, [], ◌∷◌, length, get_or, refl, sym, ap, ◌∙◌, subst, true, Some, arith, inl, inr}
use Rattle.std.specs.Prelude.{◌⊎◌, Option, map, slice_get, slice_set, unwrap_or, option_map, vec_len}
use Rattle.std.proofs.lemmas.Option.{slice_get-map}
use Rattle.std.proofs.Math.Nat.{le-mul_of_pos_right}
use lib.Pow.{pow_pos}
use Rattle.pool_arena.proofs.ListLaws.{found-is}
use Rattle.std.proofs.lemmas.List.{map-set, length-set}
use Rattle.size_classes.specs.Sizes.{Geometry, chunk_pages, class_count, is_small}
use Rattle.pool_law.specs.Arenas.{front_of, with_subpage}
use Rattle.pool_law.proofs.ListLemmas.{slice_get-set_same, slice_get-set_other, slice_get-below}
use Rattle.arena_laws.proofs.ChunkSteps.{same_or-not}
use Rattle.pool_arena.specs.SubpageLists.{SubpagesState, with_subpages}
use Rattle.pool_arena.specs.Stocks.{StockState, arena_in, Becomes}
use Rattle.pool_arena.specs.Held.{stock_in, HasRoomAt, IsStock}
use Rattle.pool_arena.specs.declared.stock.ChunkStock.TheInside.{Inside}

-- the subpages of a class
pub front_of-is : (s : Inside) (class : ℕ) (f : SubpagesState) → slice_get s.fronts.items class ≡ Some f
    → front_of (arena_in (stock_in s)) class ≡ f.subpages
front_of-is s class f found =
    ap (λ o. unwrap_or o []) (slice_get-map (λ (h : SubpagesState). h.subpages) s.fronts.items class
    ∙ ap (option_map (λ (h : SubpagesState). h.subpages)) found)

-- a front with other subpages leaves the others room
pub rooms-set : (pages : ℕ) (g : Geometry) (fs : List SubpagesState) (class : ℕ) (f h : SubpagesState)
    → HasRoomAt pages g fs → slice_get fs class ≡ Some f → h.room ≡ f.room
    → HasRoomAt pages g (slice_set fs class h)
rooms-set pages g fs class f h has found same =
    record { count = length-set fs class h ∙ has.count; room = λ k x small at. by k x small at (same_or-not k class) }
  where
    here : (x : SubpagesState) → slice_get (slice_set fs class h) class ≡ Some x → h ≡ x
    here x at =
        let both : ◌≡◌ {A = Option SubpagesState} (Some h) (Some x) =
        sym (slice_get-set_same fs class h (slice_get-below fs class f found)) ∙ at in
        cc both

    by : (k : ℕ) (x : SubpagesState) → is_small g k ≡ true → slice_get (slice_set fs class h) k ≡ Some x
        → (k ≡ class) ⊎ (k ≢ class) → pages ≤ x.room
    by k x small at (inl e) =
        let found_k = subst (λ n. slice_get fs n ≡ Some f) (sym e) found in
        let is = here x (subst (λ n. slice_get (slice_set fs class h) n ≡ Some x) e at) in
        let room : h.room ≡ x.room = ap (λ (y : SubpagesState). y.room) is in
        omega (arith, has.room k f small found_k, room, same)
    by k x small at (inr ne) = has.room k x small (sym (slice_get-set_other fs class k h ne) ∙ at)

pub subpages-set : (fs : List SubpagesState) (class : ℕ) (h : SubpagesState)
    → map (λ (f : SubpagesState). f.subpages) (slice_set fs class h)
    ≡ slice_set (map (λ (f : SubpagesState). f.subpages) fs) class h.subpages
subpages-set fs class h = map-set (λ (f : SubpagesState). f.subpages) fs class h

-- an arena with other fronts
abbrev pub with_fronts : Inside → Vec SubpagesState Global → Inside
with_fronts s v = record { classes = s.classes; page = s.page; places = s.places; lists = s.lists; fronts = v }

pub fronts-held : (s : Inside) (v : Vec SubpagesState Global) → IsStock s
    → HasRoomAt (length s.places.items * chunk_pages s.classes) s.classes v.items → IsStock (with_fronts s v)
fronts-held s v is rooms =
    record {
      least = is.least;
      order = is.order;
      sizes = is.sizes;
      page = is.page;
      few = is.few;
      lists = is.lists;
      places = is.places;
      fronts = rooms;
      settled = is.settled;
    }

-- a class has a front
pub front-found : (s : Inside) (is : IsStock s) (g : Geometry) (class : ℕ) (f : SubpagesState) → s.classes ≡ g
    → class < class_count g → f ≡ get_or s.fronts.items class f
    → slice_get s.fronts.items class ≡ Some f
front-found s is g class f same less here =
    let within : class < length s.fronts.items = omega (arith, is.fronts.count, less, ap class_count same) in
    found-is s.fronts.items class f within here

pub front-index : (s : Inside) (is : IsStock s) (g : Geometry) (class : ℕ) → s.classes ≡ g → class < class_count g
    → class < vec_len s.fronts
front-index s is g class same less = omega (arith, is.fronts.count, ap class_count same, less, s.fronts.ok.0)

-- the subpages of a class, as a caller sees them
pub front-seen : (s : Inside) (v : StockState) (class : ℕ) (f : SubpagesState) → IsStock s → stock_in s ≡ v
    → class < class_count v.geometry → f ≡ get_or s.fronts.items class f
    → front_of (arena_in v) class ≡ f.subpages
front-seen s v class f is same less here =
    ap (λ (w : StockState). front_of (arena_in w) class) (sym same)
    ∙ front_of-is s class f (front-found s is v.geometry class f (ap (λ (w : StockState). w.geometry) same) less here)

-- a front without a subpage has room for one
pub front-room : (s : Inside) (is : IsStock s) (class : ℕ) (f : SubpagesState) → slice_get s.fronts.items class ≡ Some f
    → is_small s.classes class ≡ true
    → front_of (arena_in (stock_in s)) class ≡ [] → length f.subpages < f.room
front-room s is class f found small none =
    let empty : length f.subpages ≡ 0 = ap length (sym (front_of-is s class f found) ∙ none) in
    let room = is.fronts.room class f small found in
    let places = le-mul_of_pos_right (length s.places.items) (pow_pos s.classes.order) in
    omega (arith, empty, room, places, is.few.0)

-- a subpage that enters is the front
pub enter-law : (s : Inside) (class chunk page : ℕ) (f h : SubpagesState) (v : Vec SubpagesState Global)
    → slice_get s.fronts.items class ≡ Some f
    → h ≡ with_subpages f ((chunk, page) ∷ f.subpages) → v.items ≡ slice_set s.fronts.items class h
    → Becomes (stock_in s) (λ a. with_subpage class (chunk, page, a)) (stock_in (with_fronts s v))
enter-law s class chunk page f h v found is items =
    record {
      law = λ takings out i. record {
        chunks = (stock_in s).chunks;
        lists = s.lists.lists;
        fronts =
            (ap (λ (subpages : List (ℕ × ℕ)). slice_set (stock_in s).fronts class ((chunk, page) ∷ subpages))
            (front_of-is s class f found)
            ∙ ap (λ (x : SubpagesState). slice_set (stock_in s).fronts class x.subpages) (sym is)
            ∙ sym (ap (map (λ (x : SubpagesState). x.subpages)) items ∙ subpages-set s.fronts.items class h)) i;
        takings = takings;
        out = out;
      };
      geometry = refl;
      grounds = refl;
    }
