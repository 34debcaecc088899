-- How the law reads the notes of a stage.
use Rattle.std.proofs.Common.{◌≡◌, ℕ, suc, ◌+◌, ◌-◌, ◌/◌, ◌<◌, ◌≤◌, List, [], ◌∷◌, refl, sym, ap, ◌∙◌, arith, eq-eqb, Option, Some, None, Ok, Err}
use Rattle.std.specs.Prelude.{option_and_then, Result}
use Rattle.size_classes.specs.Sizes.{class_of}
use Rattle.pool_law.specs.declared.id.RootId.{RootId}
use Rattle.pool_law.specs.declared.id.RegionId.{RegionId}
use Rattle.pool_law.specs.declared.note.Did.{Did}
use Rattle.pool_law.specs.declared.note.Note.{Note}
use Rattle.pool_law.specs.declared.note.Object.TheVariants.{Arena, Cache, Bin, Root}
use Rattle.pool_law.specs.declared.note.RefDid.TheVariants.{Born, Vacated}
use Rattle.pool_law.specs.declared.run.Reply.{Reply}
use Rattle.pool_law.specs.declared.run.Shape.{Shape}
use Rattle.pool_law.specs.Dids as says
use Rattle.pool_law.specs.Limits.{cached_classes, geometry_of}
use Rattle.pool_law.specs.Logs.{ToldNote}
use Rattle.pool_law.specs.Patterns.{New, allot, obtain, ask_arena, bear, one_more, put_away, give_back, sheds, drain}
use Rattle.pool_law.specs.Readers.{Reader, ◌>>=◌, ◌>>◌, give, nothing, given, note, step, ending}
use Rattle.pool_law.proofs.PatternLemmas.{same_number, same_root-refl, same_region-refl, allot-handle, allot-no_handle}
use Rattle.lane_stages.specs.declared.draining.DrainKind.{DrainKind}
use Rattle.lane_stages.specs.declared.draining.DrainKind.TheVariants.{Trim, Close}
use Rattle.lane_stages.specs.Drainings.{classes_from, classes_at, quota_note, quota_in, sheds_then}
use Rattle.lane_stages.specs.Endings.{goes_home, retired}
use Rattle.seat_work.specs.Readings.{before_left, behind, ReadsOn}
use Rattle.lane_stages.specs.Readings.{none_asked}
use Rattle.lane_stages.proofs.RegionReads.{obtain_uncached}
use Rattle.seat_work.proofs.ReadLaws.{then_on, given_on, note_on, step_on}
use Rattle.lane_stages.proofs.ReadLaws.{two_on}

-- ---- An allocation.

module _ (shape : Shape) (lane size class place n : ℕ) (e : ToldNote) where
  abbrev born : Option RegionId → Reader (Result New Reply)
  born region = bear lane place size region

  module _ (class_is : class_of (geometry_of shape) size ≡ Some class)
      (is : e.note ≡ Note.At (Bin lane) n (Did.Handle place)) where
    handle_is : ReadsOn (allot shape lane size) (e ∷ []) none_asked (obtain shape lane class >>= born)
    handle_is log =
        allot-handle shape lane size (before_left log (e ∷ [])) e log.left refl place n is
        ∙ ap (λ (o : Option ℕ). (given o >>= (λ class. obtain shape lane class >>= born))
        (behind log (e ∷ []) none_asked)) class_is

    pub read_handle : ReadsOn (allot shape lane size) (e ∷ []) none_asked (obtain shape lane class >>= born)
    read_handle = handle_is

    pub read_handle_uncached : cached_classes ≤ class
        → ReadsOn (allot shape lane size) (e ∷ []) none_asked (ask_arena shape lane class >>= born)
    read_handle_uncached more log =
        handle_is log ∙ obtain_uncached shape lane class born more (behind log (e ∷ []) none_asked)

  pub read_no_handle : e.note ≡ Note.At (Bin lane) n Did.NoHandle
      → ReadsOn (allot shape lane size) (e ∷ []) none_asked (give (Err Reply.Handles))
  read_no_handle is log = allot-no_handle shape lane size (before_left log (e ∷ [])) e log.left refl n is

  pub read_born : (root : RootId) (r : RegionId) (f : ToldNote) → root.place ≡ place → root.capacity ≡ size
      → e.note ≡ Note.At (Root root.place) n (Did.Birth root (one_more r)) → f.note ≡ Note.Ref root Born →
      ReadsOn (born (Some r)) (e ∷ f ∷ []) none_asked (give (Ok (record { root = root; region = one_more r })))
  read_born root r f at long is next =
      let new : New = record { root = root; region = one_more r } in
      let birth : Did → Option RootId = says.birth place size (one_more r) in
      let so : birth (Did.Birth root (one_more r))
      ≡ Some root =
      rw (eq-eqb root.place place at, eq-eqb root.capacity size long, same_region-refl (one_more r)) refl in
      let at_place : e.note ≡ Note.At (Root place) n (Did.Birth root (one_more r)) = is
      ∙ ap (λ (p : ℕ). Note.At (Root p) n (Did.Birth root (one_more r))) at in
      two_on (born (Some r)) (step root says.born >> give (Ok new)) (give (Ok new)) e f
      (given_on (note (Root place) birth) (e ∷ []) none_asked
      (λ root. step root says.born >> give (Ok (record { root = root; region = one_more r }))) root
      (note_on e (Root place) birth n (Did.Birth root (one_more r)) at_place root so))
      (given_on (step root says.born) (f ∷ []) none_asked (λ _. give (Ok new)) tt
      (step_on f root says.born Born next tt refl))

  pub read_home : (b : ℕ) → b ≡ lane → e.note ≡ Note.At (Bin b) n (Did.Home place)
      → ReadsOn (born None) (e ∷ []) none_asked (give (Err Reply.Full))
  read_home b own is =
      let so : says.home place (Did.Home place) ≡ Some tt = rw (same_number place) refl in
      given_on (note (Bin lane) (says.home place)) (e ∷ []) none_asked (λ _. give (Err Reply.Full)) tt
      (note_on e (Bin lane) (says.home place) n (Did.Home place)
      (is ∙ ap (λ (x : ℕ). Note.At (Bin x) n (Did.Home place)) own) tt so)

-- ---- The end of a root.

module _ (shape : Shape) (place n : ℕ) (e : ToldNote) where
  abbrev home : Reader (Unit {0})
  home = goes_home shape place

  -- the end of a root and its vacated word
  pub read_end : (root : RootId) (r : RegionId) (f : ToldNote) → place ≡ root.place
      → e.note ≡ Note.At (Root root.place) n (Did.End root) → e.region ≡ Some r → f.note ≡ Note.Ref root Vacated →
      ReadsOn (retired shape root) (e ∷ f ∷ []) none_asked (put_away r >> home)
  read_end root r f at is has next =
      let ends : ReadsOn (ending root) (e ∷ []) none_asked (give r) =
      (λ log. rw (is, same_number root.place, same_root-refl root, has) refl) in
      let behind_end : RegionId → Reader (Unit {0}) =
      λ region. step root says.vacated >> (put_away region >> goes_home shape root.place) in
      let away : Reader (Unit {0}) = put_away r >> goes_home shape root.place in
      let both : ReadsOn (retired shape root) (e ∷ f ∷ []) none_asked away =
      two_on (retired shape root) (behind_end r) away e f
      (given_on (ending root) (e ∷ []) none_asked behind_end r ends)
      (given_on (step root says.vacated) (f ∷ []) none_asked (λ _. away) tt
      (step_on f root says.vacated Vacated next tt refl)) in
      (λ log. both log ∙ ap (λ (p : ℕ). (put_away r >> goes_home shape p) (behind log (e ∷ f ∷ []) none_asked))
      (sym at))

  pub read_gone : (b : ℕ) → b ≡ place / shape.handles → e.note ≡ Note.At (Bin b) n (Did.Home place)
      → ReadsOn home (e ∷ []) none_asked nothing
  read_gone b own is =
      let so : says.home place (Did.Home place) ≡ Some tt = rw (same_number place) refl in
      note_on e (Bin (place / shape.handles)) (says.home place) n (Did.Home place)
      (is ∙ ap (λ (x : ℕ). Note.At (Bin x) n (Did.Home place)) own) tt so

-- ---- The draining of caches.

-- one reading after another, in two ways
twice : {X Y Z : Type 0} (o : Option X) (f : X → Option Y) (g : Y → Option Z)
    → option_and_then g (option_and_then f o) ≡ option_and_then (λ x. option_and_then g (f x)) o
twice None f g = refl
twice (Some x) f g = refl

pub classes_next : (class : ℕ) → class < cached_classes → classes_from class ≡ class ∷ classes_from (class + 1)
classes_next class less =
    let one : cached_classes - class ≡ suc (cached_classes - (class + 1)) = omega (arith, less) in
    ap (λ (many : ℕ). classes_at class many) one

-- a cache that was asked notes its quota
quota_said : (kind : DrainKind) (quota : ℕ) → quota_in kind (quota_note kind quota) ≡ Some quota
quota_said Trim quota = refl
quota_said Close quota = refl

module _ (kind : DrainKind) (lane class n : ℕ) (e : ToldNote) where
  abbrev classes : List ℕ
  classes = classes_from (class + 1)

  pub read_asked : (quota : ℕ) → class < cached_classes → e.note ≡ Note.At (Cache lane class) n (quota_note kind quota)
      →
      ReadsOn (drain lane (quota_in kind) (classes_from class)) (e ∷ []) none_asked
      (sheds_then kind lane class quota classes)
  read_asked quota less is log =
      ap (λ (cs : List ℕ). drain lane (quota_in kind) cs (before_left log (e ∷ []))) (classes_next class less)
      ∙ given_on (note (Cache lane class) (quota_in kind)) (e ∷ []) none_asked
      (λ (q : ℕ). sheds_then kind lane class q classes) quota
      (note_on e (Cache lane class) (quota_in kind) n (quota_note kind quota) is quota (quota_said kind quota)) log

  pub read_shed : (left : ℕ) (r : RegionId) → 0 < left → e.note ≡ Note.At (Cache lane class) n (Did.Shed r) →
      ReadsOn (sheds_then kind lane class left classes) (e ∷ []) none_asked
      (give_back r >> sheds_then kind lane class (left - 1) classes)
  read_shed left r more is log =
      let one : left ≡ suc (left - 1) = omega (arith, more) in
      let rest : RegionId → Reader (Unit {0}) = λ region. give_back region >> sheds lane class (left - 1) in
      ap (λ (many : ℕ). sheds_then kind lane class many classes (before_left log (e ∷ []))) one
      ∙ then_on (note (Cache lane class) says.shed >>= rest) (e ∷ []) none_asked
      (λ _. drain lane (quota_in kind) classes) (rest r)
      (given_on (note (Cache lane class) says.shed) (e ∷ []) none_asked rest r
      (note_on e (Cache lane class) says.shed n (Did.Shed r) is r refl)) log
      ∙ twice (give_back r (behind log (e ∷ []) none_asked)) (λ got. sheds lane class (left - 1) got.1)
      (λ got. drain lane (quota_in kind) classes got.1)

  pub read_shed_given : (left : ℕ) (r : RegionId) → e.note ≡ Note.At (Arena r.place.arena) n (Did.Give r) →
      ReadsOn (give_back r >> sheds_then kind lane class left classes) (e ∷ []) none_asked
      (sheds_then kind lane class left classes)
  read_shed_given left r is =
      let so : says.give r (Did.Give r) ≡ Some tt = rw (same_region-refl r) refl in
      given_on (give_back r) (e ∷ []) none_asked (λ _. sheds_then kind lane class left classes) tt
      (note_on e (Arena r.place.arena) (says.give r) n (Did.Give r) is tt so)
