-- A set whose bytes were made of those that stood there, as a get in its place would have got them.
use Rattle.std.proofs.Common.{◌≡◌, ℕ, ◌+◌, ◌-◌, List, [], ◌∷◌, ◌++◌, refl, sym, ap, ◌∙◌, subst}
use Rattle.std.specs.Prelude.{Option, Some, IfSome, IsTrue, is_some, option_and_then}
use Rattle.step_law.specs.Settings.{Setting}
use Rattle.pool_law.specs.declared.id.RootId.{RootId}
use Rattle.pool_law.specs.declared.run.Shape.{Shape}
use Rattle.pool_law.specs.declared.note.Did.{Did}
use Rattle.pool_law.specs.declared.note.Noted.{Noted}
use Rattle.pool_law.specs.declared.note.Object.TheVariants.{Root as RootOf}
use Rattle.pool_law.specs.Roots.{RootPlace, new_place, place_step}
use Rattle.pool_law.specs.Histories.{place_after}
use Rattle.pool_law.specs.Naming.{noted_by}
use Rattle.pool_law.specs.NotedHistories.{noted_dids, IsRightAt}
use Rattle.pool_law.proofs.HistoryLemmas.{after-noted}
use Rattle.history_laws.specs.Histories.{IsLawful}
use Rattle.history_laws.specs.Measures.{measures_of}
use Rattle.history_laws.proofs.Runs.{right_push}
use Rattle.pool_table.specs.declared.views.Entry.TheVariants.{At}
use Rattle.pool_table.specs.declared.views.Layout.{Layout}
use Rattle.pool_table.specs.declared.table.PoolSeat.{PoolSeat as TableSeat}
use Rattle.pool_table.specs.declared.table.Section.{Section}
use Rattle.pool_table.specs.Seats.{view_of, HasView}
use Rattle.pool_table.specs.Counts.{HasCount}
use Rattle.pool_table.specs.Sections.{GotSection}
use Rattle.pool_table.specs.Views.{with_entry}
use Rattle.shared_pool.specs.RootNotes.{access, IsSetOver}
use Rattle.shared_pool.specs.RootPlaces.{law_place}
use Rattle.shared_pool.specs.PlaceSteps.{AreThere}
use Rattle.shared_pool.specs.declared.home.Home.{Home}
use Rattle.shared_pool.specs.declared.home.Home.TheVariants.{Arena, Cache, Bin, Root}
use Rattle.shared_pool.specs.declared.pool.SharedPool.{SharedPool}
use Rattle.shared_pool.specs.declared.seat.PoolSeat.{PoolSeat}
use Rattle.shared_pool.specs.Standing.{HomeStands, IsPlace, IfPlace}
use Rattle.shared_pool.proofs.Endings.{made, made_after, stood, IsNext}
use Rattle.shared_pool.proofs.LoneSeats.{lone_get}
use Rattle.shared_pool.proofs.PlaceHomes.{counts_root, is_place, place_at}

-- a get of what is there follows
get_follows : (s : Shape) (setting : Setting) (p : ℕ) (h : List Noted) (n : Noted) (home : Home) (offset : ℕ)
    (bytes : List ℕ) → n.did ≡ Did.Get offset bytes → IsLawful s (RootOf p) h → IsPlace home
    → HomeStands (measures_of s (RootOf p)) setting h home → IfPlace home (AreThere offset bytes)
    → IsRightAt (RootOf p) h n → IsLawful s (RootOf p) (h ++ n ∷ [])
get_follows s setting p h n (Root y) offset bytes did t is at there right =
    let told : place_after p (noted_dids (h ++ n ∷ [])) ≡ Some (law_place y.value) =
    after-noted (place_step p) new_place h n
    ∙ ap (option_and_then (λ (x : RootPlace). place_step p x n.did)) (place_at s setting p h (Root y) at).told
    ∙ ap (place_step p (law_place y.value)) did ∙ there p in
    record {
      accepted = subst (λ (o : Option RootPlace). IsTrue (is_some o)) (sym told) refl;
      right = right_push (RootOf p) h n t.right right;
    }
get_follows s setting p h n (Arena a) offset bytes did t is at there right = absurd is
get_follows s setting p h n (Cache q) offset bytes did t is at there right = absurd is
get_follows s setting p h n (Bin b) offset bytes did t is at there right = absurd is

-- the note of a set that ended a section, in which these bytes were there before
pub set_over : (l : Layout) (root : RootId) (old : PoolSeat) (new last : TableSeat Home _)
    (section after : Section Home) (got : GotSection HomeStands l (RootOf root.place) old.seat new section)
    (setting : Setting) (known : (view_of old.seat).setting ≡ Some setting) (pool : SharedPool) (number offset : ℕ)
    (before bytes : List ℕ) (lane : ℕ) → (view_of old.seat).own.number ≡ Some lane → pool.table.layout ≡ l
    → IsNext l (RootOf root.place) old.seat new section got setting known after (access root (Did.Set offset bytes))
    → IfSome (view_of new).inside (λ x. number ≡ x.number + 1) →
    HasView last (with_entry (view_of new)
    (At after.object number (noted_by (view_of new).own.number (access root (Did.Set offset bytes))))
    ((view_of new).turns - 1)) →
    HasCount root (view_of old.seat) → IfPlace section.home (AreThere offset before)
    → IsSetOver pool old (record old { seat = last }) root number offset before bytes
set_over l root old new last section after got setting known pool number offset before bytes lane own layout next
    counted has counts there =
    let o = RootOf root.place in let n : Noted = access root (Did.Set offset bytes) in
    let g : Noted = noted_by (view_of old.seat).own.number (access root (Did.Get offset before)) in
    let stands = stood l o old.seat new section got setting known in
    let is = is_place setting got.history root.place l.shape.handles l.shape.lanes l.shape.order l.shape.page
    section.home stands in
    let follows : IsLawful l.shape o (got.history ++ g ∷ []) =
    get_follows l.shape setting root.place got.history g section.home offset before refl got.learned.accepted is stands
    there (sym (counts_root l root old.seat new section got counts), refl, refl) in
    record {
      noted = made l o old new section got setting known pool last after number n layout next counted has;
      there =
          subst (λ (x : Layout × List Noted). IsLawful x.0.shape o (x.1 ++ g ∷ []))
          (λ i. (
            sym layout i,
            sym (made_after l o old new section got setting known pool last after number n layout next counted has) i,
          ))
          follows;
      lone = lone_get l root old.seat new section got lane offset before counts own follows;
    }
