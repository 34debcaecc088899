-- The steps of the walk.
use Rattle.std.proofs.Common.{◌≡◌, ◌<◌, ◌≤◌, ◌⊎◌, inl, inr, ⊎_elim, ℕ, zero, suc, ◌+◌, ◌-◌, List, [], ◌∷◌, ◌++◌, get_or, set, take, length, Some, refl, sym, ap, arith, ◌∙◌, subst}
use Rattle.std.specs.Prelude.{slice_get, Vec}
use Rattle.std.specs.declared.alloc.Global.{Global}
use Rattle.std.proofs.lemmas.Bool.{cases_eq, cases_lt}
use Rattle.std.proofs.lemmas.List.{length-set}
use Rattle.std.proofs.lemmas.Option.{slice_get_read, same_Some}
use Rattle.topo_order.specs.Sorting.{Graph, MustPrecede, IsOrder}
use Rattle.topo_order.specs.Walking.{IsMarked, AreTried, IsWalk, weight, left_of}
use Rattle.topo_order.specs.declared.walk.Mark.{Mark}
use Rattle.topo_order.specs.declared.walk.Mark.TheVariants.{New, Open, Done}
use Rattle.topo_order.proofs.Lists.{within, item, get_set, get_set_other, get_kept, set_cases, pushed, pushed_before, pushed_last, in_front, front_has}

-- below the next number is what is below this one, and this one
pub below-or : (i t : ℕ) → i < t + 1 → (i < t) ⊎ (i ≡ t)
below-or i t low = ⊎_elim inl (λ high. inr (omega (arith, low, high))) (cases_lt i t)

-- a list is as long with an item set
set-length : (marks : List Mark) (graph : Graph) (node : ℕ) (m : Mark) → length marks ≡ length graph
    → length (set marks node m) ≡ length graph
set-length marks graph node m e = length-set marks node m ∙ e

-- a node that is done stays so, while another is marked
stays-done : (marks : List Mark) (node v k : ℕ) (old new : Mark) → IsMarked marks node old → (old ≡ Done k → ⊥)
    → IsMarked marks v (Done k) → IsMarked (set marks node new) v (Done k)
stays-done marks node v k old new is other at = get_kept marks node v old new (Done k) is at other

-- so what was tried stays tried
still-tried : (marks : List Mark) (node : ℕ) (old new : Mark) (needs : List ℕ) (t : ℕ) → IsMarked marks node old
    → ((k : ℕ) → old ≡ Done k → ⊥) → AreTried marks needs t → AreTried (set marks node new) needs t
still-tried marks node old new needs t is other tried = record {
  within = tried.within;
  done = λ i first low at.
      let r = tried.done i first low at in
      (r.0, stays-done marks node first r.0 old new is (other r.0) r.1);
}

-- a new node stands at the end of the path
pub opens : (graph : Graph) (marks : List Mark) (path order : List ℕ) (node : ℕ) → IsWalk graph marks path order
    → IsMarked marks node New
    → ((d last : ℕ) → slice_get path d ≡ Some last → suc d ≡ length path → MustPrecede graph node last)
    → IsWalk graph (set marks node (Open (length path) 0)) (path ++ node ∷ []) order
opens graph marks path order node w new link = record {
  as_many = set-length marks graph node mark w.as_many;
  opened = λ d v at. ⊎_elim
      (λ old. let r = w.opened d v old in
      (r.0, get_kept marks node v New mark (Open d r.0) new r.1 (λ e. cc)))
      (λ here. let one : (t : ℕ) × IsMarked (set marks node mark) node (Open (length path) t) =
      (0, get_set marks node mark there) in
      subst (λ z. (t : ℕ) × IsMarked (set marks node mark) v (Open z t)) (sym here.0)
      (subst (λ z. (t : ℕ) × IsMarked (set marks node mark) z (Open (length path) t)) here.1 one))
      (pushed path node d v at);
  on_path = λ v d t at. ⊎_elim
      (λ here. let depth : length path ≡ d = cc here.1 in
      subst (λ z. slice_get (path ++ node ∷ []) z ≡ Some v) depth
      (pushed_last path node ∙ ap Some (sym here.0)))
      (λ old. pushed_before path node d v (w.on_path v d t old))
      (set_cases marks node mark v (Open d t) at);
  done = λ k v at. get_kept marks node v New mark (Done k) new (w.done k v at) (λ e. cc);
  in_order = λ v k at. ⊎_elim (λ here. absurd (let e : mark ≡ Done k = here.1 in cc))
      (λ old. w.in_order v k old)
      (set_cases marks node mark v (Done k) at);
  tried = λ v d t needs at has. ⊎_elim
      (λ here. let none : 0 ≡ t = cc here.1 in
      subst (AreTried (set marks node mark) needs.items) none
      (record { within = omega arith; done = λ i first low is. absurd (omega arith) }))
      (λ old. still-tried marks node New mark needs.items t new (λ k e. cc) (w.tried v d t needs old has))
      (set_cases marks node mark v (Open d t) at);
  linked = λ d v next at behind. ⊎_elim
      (λ more. ⊎_elim (λ old. w.linked d v next old more)
      (λ here. absurd (omega (arith, within path (suc d) next more, here.0)))
      (pushed path node d v at))
      (λ here. ⊎_elim
      (λ old. subst (λ z. MustPrecede graph z v) here.1 (link d v old here.0))
      (λ both. absurd (omega (arith, here.0, both.0)))
      (pushed path node d v at))
      (pushed path node (suc d) next behind);
  forward = w.forward;
}
  where
    mark : Mark
    mark = Open (length path) 0

    there : node < length marks
    there = within marks node New new

-- one need more of the last node of the path is in the order
pub advances : (graph : Graph) (marks : List Mark) (path order : List ℕ) (node d t k next : ℕ)
    (needs : Vec ℕ Global) → IsWalk graph marks path order → IsMarked marks node (Open d t)
    → slice_get graph node ≡ Some needs → slice_get needs.items t ≡ Some next → IsMarked marks next (Done k)
    → IsWalk graph (set marks node (Open d (t + 1))) path order
advances graph marks path order node d t k next needs w is has at done = record {
  as_many = set-length marks graph node mark w.as_many;
  opened = λ e v at. let r = w.opened e v at in ⊎_elim
      (λ same. let depth : d ≡ e = w-depth e v r.0 at same r.1 in (
        t + 1,
        subst (λ z. IsMarked (set marks node mark) v (Open z (t + 1))) depth
            (subst (λ z. IsMarked (set marks node mark) z mark) (sym same) (get_set marks node mark there)),
      ))
      (λ other. (r.0, get_set_other marks node v mark other ∙ r.1))
      (cases_eq v node);
  on_path = λ v e s at. ⊎_elim
      (λ here. let depth : d ≡ e = cc here.1 in
      subst (λ z. slice_get path z ≡ Some v) depth
      (subst (λ z. slice_get path d ≡ Some z) (sym here.0) (w.on_path node d t is)))
      (λ old. w.on_path v e s old)
      (set_cases marks node mark v (Open e s) at);
  done = λ j v at. get_kept marks node v (Open d t) mark (Done j) is (w.done j v at) (λ e. cc);
  in_order = λ v j at. ⊎_elim (λ here. absurd (let e : mark ≡ Done j = here.1 in cc))
      (λ old. w.in_order v j old)
      (set_cases marks node mark v (Done j) at);
  tried = λ v e s others at owns. ⊎_elim
      (λ here. let more : t + 1 ≡ s = cc here.1 in
      let same : needs ≡ others = same_Some _ _ (sym has ∙ ap (slice_get graph) (sym here.0) ∙ owns) in
      subst (AreTried (set marks node mark) others.items) more
      (subst (λ (z : Vec ℕ Global). AreTried (set marks node mark) z.items (t + 1)) same tried-more))
      (λ old. still-tried marks node (Open d t) mark others.items s is (λ j e. cc) (w.tried v e s others old owns))
      (set_cases marks node mark v (Open e s) at);
  linked = w.linked;
  forward = w.forward;
}
  where
    mark : Mark
    mark = Open d (t + 1)

    there : node < length marks
    there = within marks node (Open d t) is

    w-depth : (e v s : ℕ) → slice_get path e ≡ Some v → v ≡ node → IsMarked marks v (Open e s) → d ≡ e
    w-depth e v s at same opened =
        let both : Open d t ≡ Open e s = same_Some _ _ (sym is ∙ ap (slice_get marks) (sym same) ∙ opened) in cc both

    tried-more : AreTried (set marks node mark) needs.items (t + 1)
    tried-more = record {
      within = omega (arith, within needs.items t next at);
      done = λ i first low here. ⊎_elim
          (λ old. let r = (w.tried node d t needs is has).done i first old here in
          (r.0, stays-done marks node first r.0 (Open d t) mark is (λ e. cc) r.1))
          (λ last. let same : next ≡ first = same_Some _ _ (sym at ∙ ap (slice_get needs.items) (sym last) ∙ here) in (
            k,
            stays-done marks node first k (Open d t) mark is (λ e. cc)
                (subst (λ z. IsMarked marks z (Done k)) same done),
          ))
          (below-or i t low);
    }

-- the last node of the path stands in the order
pub closes : (graph : Graph) (marks : List Mark) (path order : List ℕ) (node d t : ℕ)
    (needs : Vec ℕ Global) → IsWalk graph marks path order → IsMarked marks node (Open d t)
    → suc d ≡ length path → slice_get graph node ≡ Some needs → t ≡ length needs.items
    → IsWalk graph (set marks node (Done (length order))) (take (length path - 1) path) (order ++ node ∷ [])
closes graph marks path order node d t needs w is last has all = record {
  as_many = set-length marks graph node mark w.as_many;
  opened = λ e v at.
      let f = in_front path (length path - 1) e v at in
      let r = w.opened e v f.1 in (
        r.0,
        get_kept marks node v (Open d t) mark (Open e r.0) is r.1
            (λ both. let same : d ≡ e = cc both in omega (arith, same, last, f.0)),
      );
  on_path = λ v e s at. ⊎_elim (λ here. absurd (let both : mark ≡ Open e s = here.1 in cc))
      (λ old. let on = w.on_path v e s old in
      front_has path (length path - 1) e v on (shorter e v s old on at))
      (set_cases marks node mark v (Open e s) at);
  done = λ j v at. ⊎_elim
      (λ old. get_kept marks node v (Open d t) mark (Done j) is (w.done j v old) (λ e. cc))
      (λ here. subst (λ z. IsMarked (set marks node mark) z (Done j)) here.1
      (subst (λ z. IsMarked (set marks node mark) node (Done z)) (sym here.0) (get_set marks node mark there)))
      (pushed order node j v at);
  in_order = λ v j at. ⊎_elim
      (λ here. let place : length order ≡ j = cc here.1 in
      subst (λ z. slice_get (order ++ node ∷ []) z ≡ Some v) place
      (pushed_last order node ∙ ap Some (sym here.0)))
      (λ old. pushed_before order node j v (w.in_order v j old))
      (set_cases marks node mark v (Done j) at);
  tried = λ v e s others at owns. ⊎_elim (λ here. absurd (let both : mark ≡ Open e s = here.1 in cc))
      (λ old. still-tried marks node (Open d t) mark others.items s is (λ j e. cc) (w.tried v e s others old owns))
      (set_cases marks node mark v (Open e s) at);
  linked = λ e v next at behind.
      w.linked e v next (in_front path (length path - 1) e v at).1
      (in_front path (length path - 1) (suc e) next behind).1;
  forward = λ first v j must at. ⊎_elim
      (λ old. let r = w.forward first v j must old in
      (r.0, r.1, pushed_before order node r.0 first r.2))
      (λ here.
      let same : must.0 ≡ needs = same_Some _ _ (sym must.2 ∙ ap (slice_get graph) (sym here.1) ∙ has) in
      let stands : slice_get needs.items must.1 ≡ Some first =
      subst (λ (z : Vec ℕ Global). slice_get z.items must.1 ≡ Some first) same must.3 in
      let r = (w.tried node d t needs is has).done must.1 first
      (omega (arith, within needs.items must.1 first stands, all)) stands in
      let place = w.in_order first r.0 r.1 in
      (r.0, omega (arith, within order r.0 first place, here.0), pushed_before order node r.0 first place))
      (pushed order node j v at);
}
  where
    mark : Mark
    mark = Done (length order)

    there : node < length marks
    there = within marks node (Open d t) is

    shorter : (e v s : ℕ) → IsMarked marks v (Open e s) → slice_get path e ≡ Some v
        → IsMarked (set marks node mark) v (Open e s) → e < length path - 1
    shorter e v s opened on at = ⊎_elim (λ low. low)
        (λ high.
        let low = within path e v on in
        let end : e ≡ d = omega (arith, low, high, last) in
        let same : v ≡ node = same_Some _ _ (sym on ∙ ap (slice_get path) end ∙ w.on_path node d t is) in
        let both : mark ≡ Open e s = same_Some _ _ (sym (get_set marks node mark there)
        ∙ ap (slice_get (set marks node mark)) (sym same) ∙ at) in
        absurd (cc both))
        (cases_lt e (length path - 1))

-- a mark with less weight leaves less
pub leaves-less : (graph : Graph) (marks : List Mark) (node : ℕ) (old new : Mark) (needs : Vec ℕ Global)
    → IsMarked marks node old → slice_get graph node ≡ Some needs
    → weight new (length needs.items) < weight old (length needs.items)
    → left_of (set marks node new) graph < left_of marks graph
leaves-less graph [] node old new needs is has less = absurd (cc is)
leaves-less [] (m ∷ marks) node old new needs is has less = absurd (cc has)
leaves-less (n ∷ graph) (m ∷ marks) zero old new needs is has less =
    let was : weight m (length n.items) ≡ weight old (length needs.items) =
    λ i. weight (same_Some _ _ is i) (length (same_Some _ _ has i).items) in
    let now : weight new (length n.items) ≡ weight new (length needs.items) =
    λ i. weight new (length (same_Some _ _ has i).items) in
    omega (arith, was, now, less)
leaves-less (n ∷ graph) (m ∷ marks) (suc node) old new needs is has less =
    omega (arith, leaves-less graph marks node old new needs is has less)

-- the last node of the path is marked with its last place
pub last-depth : (graph : Graph) (marks : List Mark) (path order : List ℕ) (node d t : ℕ)
    → IsWalk graph marks path order → 0 < length path → slice_get path (length path - 1) ≡ Some node
    → IsMarked marks node (Open d t) → suc d ≡ length path
last-depth graph marks path order node d t w some end is =
    let r = w.opened (length path - 1) node end in
    let both : Open d t ≡ Open (length path - 1) r.0 = same_Some _ _ (sym is ∙ r.1) in
    let depth : d ≡ length path - 1 = cc both in
    omega (arith, depth, some)

-- a node that is new now was new, if none was marked so
pub kept-new : (marks : List Mark) (node v : ℕ) (new : Mark) → (new ≡ New → ⊥)
    → IsMarked (set marks node new) v New → IsMarked marks v New
kept-new marks node v new other at =
    ⊎_elim (λ here. absurd (other here.1)) (λ old. old) (set_cases marks node new v New at)

-- a node that is marked otherwise is not new
pub not-new : (marks : List Mark) (node : ℕ) (new : Mark) → node < length marks → (new ≡ New → ⊥)
    → IsMarked (set marks node new) node New → ⊥
not-new marks node new low other at = other (same_Some _ _ (sym (get_set marks node new low) ∙ at))

-- what the walk reads at the last node of its path
pub record AtEnd (graph : Graph) (marks : List Mark) (path order : List ℕ) (node d t : ℕ)
    (needs : Vec ℕ Global) : Type 0 where
  pub walk : IsWalk graph marks path order
  pub is : IsMarked marks node (Open d t)
  pub has : slice_get graph node ≡ Some needs
  pub last : suc d ≡ length path
  pub within : t ≤ length needs.items

pub at-end : (graph : Graph) (marks : List Mark) (path order : List ℕ) (node : ℕ) (m : Mark) (d t : ℕ)
    (needs : Vec ℕ Global) → IsWalk graph marks path order → 0 < length path
    → slice_get path (length path - 1) ≡ Some node → IsMarked marks node m → m ≡ Open d t
    → needs ≡ get_or graph node needs → AtEnd graph marks path order node d t needs
at-end graph marks path order node m d t needs w some end marked opened read =
    let is : IsMarked marks node (Open d t) = marked ∙ ap Some opened in
    let low : node < length graph = omega (arith, within marks node (Open d t) is, w.as_many) in
    let has : slice_get graph node ≡ Some needs = slice_get_read graph (length graph) node needs refl low read in
    record {
      walk = w;
      is = is;
      has = has;
      last = last-depth graph marks path order node d t w some end is;
      within = (w.tried node d t needs is has).within;
    }

module _ (graph : Graph) (marks : List Mark) (path order : List ℕ) (node d t next : ℕ) (needs : Vec ℕ Global)
    (a : AtEnd graph marks path order node d t needs) where
  -- there is a need that was not tried
  pub some-left : (t ≡ length needs.items → ⊥) → t < length needs.items
  some-left other = ⊎_elim (λ low. low)
      (λ high. absurd (other (omega (arith, high, a.within)))) (cases_lt t (length needs.items))

  -- it is the next that must stand before the node
  pub next-is : (t ≡ length needs.items → ⊥) → next ≡ get_or needs.items t next
      → slice_get needs.items t ≡ Some next
  next-is other read = slice_get_read needs.items (length needs.items) t next refl (some-left other) read

  pub next-must : (t ≡ length needs.items → ⊥) → next ≡ get_or needs.items t next → MustPrecede graph next node
  next-must other read = (needs, t, a.has, next-is other read)

-- where the path is empty and no node is new, all nodes stand in the order
pub is-order : (graph : Graph) (marks : List Mark) (path order : List ℕ) → IsWalk graph marks path order
    → path ≡ [] → ((node : ℕ) → node < length graph → IsMarked marks node New → ⊥) → IsOrder graph order
is-order graph marks path order w empty none = record {
  all = λ node low.
      let m = item marks node (omega (arith, low, w.as_many)) in
      by-mark node m.0 low m.1;
  nodes = λ k node at. omega (arith, within marks node (Done k) (w.done k node at), w.as_many);
  once = λ j k node at other.
      let both : Done j ≡ Done k = same_Some _ _ (sym (w.done j node at) ∙ w.done k node other) in cc both;
  forward = w.forward;
}
  where
    by-mark : (node : ℕ) (m : Mark) → node < length graph → IsMarked marks node m
        → (k : ℕ) × (slice_get order k ≡ Some node)
    by-mark node New low is = absurd (none node low is)
    by-mark node (Open d t) low is =
        let on : slice_get [] d ≡ Some node = ap (λ z. slice_get z d) (sym empty) ∙ w.on_path node d t is in
        absurd (cc on)
    by-mark node (Done k) low is = (k, w.in_order node k is)
