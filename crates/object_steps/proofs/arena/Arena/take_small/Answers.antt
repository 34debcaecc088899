use Rattle.std.proofs.Common.{◌≡◌, ◌<◌, [], Option, Some, sym, ap, subst, inl, refl, arith, ◌∙◌}
use Rattle.std.proofs.lemmas.Result.{IfOk-weaker}
use Rattle.size_classes.specs.Sizes.{subpage_pages, element_count}
use Rattle.size_classes.specs.Elements.{new_elements}
use Rattle.size_classes.specs.Pages.{Used, run_at}
use Rattle.pool_law.specs.Chunks.{Use, Sub}
use Rattle.pool_law.specs.Arenas.{Arena, Yielded, front_of, take_run, chunk_at}
use Rattle.object_steps.specs.Moves.{GivesYielded}
use Rattle.object_steps.proofs.ElementLemmas.{gives-new, front-empty}
use Rattle.object_steps.proofs.arena.Arena.take_small.Goals as goal

pub element_count-requires : goal.element_count-requires
element_count-requires c = c.requires.small

pub subpage_pages-pages-requires : goal.subpage_pages-pages-requires
subpage_pages-pages-requires c = c.requires.small

pub returns : goal.returns
returns c =
    let g = c.args.sizes.now in
    let old : Arena = c.args.self.now in
    let class = c.args.class in
    let place = c.in-Some-2.place in
    let page = c.in-Some-2.page in
    let empty : front_of old class ≡ [] = front-empty old class (sym c.first_subpage.ensures ∙ c.in_default.is) in
    let pages = c.subpage_pages-pages.result in
    let pages_is : pages ≡ subpage_pages g class = c.subpage_pages-pages.ensures.pages in
    let elements_are : c.in_ok-elements.elements ≡ new_elements (element_count g class) =
    c.in_ok-elements.ensures ∙ ap new_elements c.element_count.ensures.count in
    let what : Use = Sub class c.in_ok-elements.elements in
    let what_is : what ≡ Sub class (new_elements (element_count g class)) = ap (Sub class) elements_are in
    let run : GivesYielded (take_run g old pages what) old c.take_run.new.self (Some (place, page)) =
    subst (GivesYielded (take_run g old pages what) old c.take_run.new.self) c.in-Some-2.is
    (c.in_ok-place.ensures.spot pages (inl refl)) in
    let same_run : GivesYielded (take_run g old (subpage_pages g class) (Sub class (new_elements
    (element_count g class))))
    old
    c.take_run.new.self (Some (place, page)) =
    subst (λ (o : Option Yielded). GivesYielded o old c.take_run.new.self (Some (place, page)))
    (λ i. take_run g old (pages_is i) (what_is i)) run in
    let begins : run_at page (chunk_at c.take_run.new.self place)
    ≡ Some (Used pages what) = rw c.in-Some-2.is at c.in_ok-place.ensures.begins in
    let some : 0 < element_count g class = omega
    (arith, c.element_count.ensures.count, c.element_count.ensures.within) in
    IfOk-weaker c.take_element-2.result _ _
    (λ r h. rw empty
    (gives-new g old class (subpage_pages g class) (element_count g class) place page c.take_run.new.self
    c.push_subpage.new.self
    c.take_element-2.new.self r empty some same_run (begins ∙ (λ i. Some (Used (pages_is i) (what_is i))))
    c.in_ok-push_subpage.ensures h))
    c.take_element-2.ensures
