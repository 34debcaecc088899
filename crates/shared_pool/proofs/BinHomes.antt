-- The home value of a bin: which it is, and what it stands for after a call.
use Rattle.std.proofs.Common.{◌≡◌, ℕ, List, [], ◌∷◌, ◌++◌, sym, ap, ◌∙◌, subst, refl}
use Rattle.std.specs.Prelude.{Some, is_some, IsTrue}
use Rattle.step_law.specs.Settings.{Setting}
use Rattle.pool_law.specs.declared.run.Shape.{Shape}
use Rattle.pool_law.specs.declared.note.Did.{Did}
use Rattle.pool_law.specs.declared.note.Noted.{Noted}
use Rattle.pool_law.specs.declared.note.Object.TheVariants.{Bin as BinOf}
use Rattle.pool_law.specs.Caches.{new_bin, bin_step}
use Rattle.pool_law.specs.Histories.{after}
use Rattle.pool_law.specs.NotedHistories.{noted_dids, IsRightAt, IsRightWatch}
use Rattle.history_laws.specs.Histories.{IsLawful, IsBinAfter}
use Rattle.history_laws.specs.Measures.{measures_of}
use Rattle.history_laws.proofs.Runs.{right_push}
use Rattle.handle_bin.specs.Bins.{BinValue, Makes, places_in}
use Rattle.handle_bin.proofs.StandingLaws.{stands_more}
use Rattle.shared_pool.specs.declared.home.Home.{Home}
use Rattle.shared_pool.specs.declared.home.Home.TheVariants.{Arena, Cache, Bin, Root}
use Rattle.shared_pool.specs.Standing.{HomeStands, IsBinAt, IsBin, IfBin, StandsMore}
use Rattle.shared_pool.specs.Notes.{plain}
use Rattle.shared_pool.proofs.Endings.{stood, IsNext, plain_watch}
use Rattle.step_law.specs.declared.Told.{Ghosts}
use Rattle.pool_law.specs.Naming.{noted_by}
use Rattle.pool_table.specs.declared.views.Layout.{Layout}
use Rattle.pool_table.specs.declared.table.PoolSeat.{PoolSeat}
use Rattle.pool_table.specs.declared.table.Section.{Section}
use Rattle.pool_table.specs.Seats.{view_of}
use Rattle.pool_table.specs.Sections.{GotSection}

pub bin_more : (did : Did) (old new : BinValue) → Makes old did new
    → (measures : List ℕ) (setting : Setting) (h : List Noted) (n : Noted) → n.did ≡ did →
    IsBinAt measures setting h old → IsBinAt measures setting (h ++ n ∷ []) new
bin_more did old new makes measures setting h n is at =
    record {
      measured = at.measured ∙ (λ i. 2 ∷ sym makes.lane i ∷ sym makes.handles i ∷ []);
      stands = stands_more setting.grounds h n old new at.stands (subst (λ d. Makes old d new) (sym is) makes);
    }

pub is_bin : (setting : Setting) (h : List Noted) (lane handles : ℕ) (home : Home)
    → HomeStands (2 ∷ lane ∷ handles ∷ []) setting h home → IsBin home
is_bin setting h lane handles (Arena a) at = absurd (cc at.measured)
is_bin setting h lane handles (Cache q) at = absurd (cc at.measured)
is_bin setting h lane handles (Bin b) at = tt
is_bin setting h lane handles (Root s) at = absurd (cc at.measured)

pub bin_follows : (s : Shape) (setting : Setting) (lane : ℕ) (h : List Noted) (n : Noted) (home : Home)
    → IsLawful s (BinOf lane) h → IsBin home →
    HomeStands (measures_of s (BinOf lane)) setting (h ++ n ∷ []) home → IsRightAt (BinOf lane) h n
    → IsLawful s (BinOf lane) (h ++ n ∷ [])
bin_follows s setting lane h n (Bin b) t is at right =
    record {
      accepted = subst (λ (m : ℕ × ℕ). IsTrue
          (is_some (after (bin_step m.0 m.1) (new_bin m.0 m.1) (noted_dids (h ++ n ∷ [])))))
          (λ i. (sym lane_is i, sym handles_is i)) (subst (λ o. IsTrue (is_some o)) (sym at.stands.told) refl);
      right = right_push (BinOf lane) h n t.right right;
    }
  where
    lane_is : lane ≡ b.value.lane
    lane_is = cc at.measured

    handles_is : s.handles ≡ b.value.handles
    handles_is = cc at.measured
bin_follows s setting lane h n (Arena a) t is at right = absurd is
bin_follows s setting lane h n (Cache q) t is at right = absurd is
bin_follows s setting lane h n (Root r) t is at right = absurd is

-- what holds of the lane and the handles of the value holds of those of the object
pub bin_is : (s : Shape) (setting : Setting) (lane : ℕ) (h : List Noted) (home : Home) (P : ℕ → ℕ → Type 0)
    → HomeStands (measures_of s (BinOf lane)) setting h home → IsBin home → IfBin home (λ b. P b.lane b.handles)
    → P lane s.handles
bin_is s setting lane h (Bin b) P at is holds =
    subst (λ (m : ℕ × ℕ). P m.0 m.1) (λ i. (sym lane_is i, sym handles_is i)) holds
  where
    lane_is : lane ≡ b.value.lane
    lane_is = cc at.measured

    handles_is : s.handles ≡ b.value.handles
    handles_is = cc at.measured
bin_is s setting lane h (Arena a) P at is holds = absurd is
bin_is s setting lane h (Cache q) P at is holds = absurd is
bin_is s setting lane h (Root r) P at is holds = absurd is

-- the places in the value are those of the object after its history
pub bin_has : (s : Shape) (setting : Setting) (lane : ℕ) (h : List Noted) (home : Home) (P : BinValue → Type 0)
    → HomeStands (measures_of s (BinOf lane)) setting h home → IsBin home →
    ((b : BinValue) → b.lane ≡ lane → b.handles ≡ s.handles → IsBinAfter s lane h (places_in b.ready) → P b)
    → IfBin home P
bin_has s setting lane h (Bin b) P at is so =
    so b.value (sym lane_is) (sym handles_is)
    (subst (λ (m : ℕ × ℕ). after (bin_step m.0 m.1) (new_bin m.0 m.1) (noted_dids h)
    ≡ Some (places_in b.value.ready)) (λ i. (sym lane_is i, sym handles_is i)) at.stands.told)
  where
    lane_is : lane ≡ b.value.lane
    lane_is = cc at.measured

    handles_is : s.handles ≡ b.value.handles
    handles_is = cc at.measured
bin_has s setting lane h (Arena a) P at is so = absurd is
bin_has s setting lane h (Cache q) P at is so = absurd is
bin_has s setting lane h (Root r) P at is so = absurd is

-- after a call on the bin its note follows, and the home value stands for it
module _ {G : Ghosts Home Noted} (l : Layout) (lane : ℕ) (old new : PoolSeat Home G) (section : Section Home)
    (got : GotSection HomeStands l (BinOf lane) old new section) (setting : Setting)
    (known : (view_of old).setting ≡ Some setting) where
  pub next : (after : Section Home) (did : Did) → after.object ≡ section.object → after.slot ≡ section.slot
      → IsBin after.home → StandsMore section.home did after.home → (n : Noted) → n ≡ plain did
      → IsNext l (BinOf lane) old new section got setting known after n
  next after did same_object same_slot bin more n is =
      let m : Noted = noted_by (view_of old).own.number n in
      let stands = more (measures_of l.shape (BinOf lane)) setting got.history m (ap (λ (x : Noted). x.did) is)
      (stood l (BinOf lane) old new section got setting known) in
      record {
        same_object = same_object;
        same_slot = same_slot;
        follows =
            bin_follows l.shape setting lane got.history m after.home got.learned.accepted bin stands (
              ap (λ (x : Noted). x.root) is,
              ap (λ (x : Noted). x.region) is,
              subst
                  (λ (x : Noted). IsRightWatch x.did x.watch) (sym is) (plain_watch did),
            );
        stands = stands;
      }
