-- The entries of accesses to the bytes of a root, and of touches: what none of them changes.
use Rattle.std.proofs.Common.{◌≡◌, ℕ, List, [], ◌∷◌, refl, Option}
use Rattle.pool_law.specs.declared.id.RootId.{RootId}
use Rattle.pool_law.specs.declared.note.Did.{Did}
use Rattle.pool_law.specs.declared.note.Note.{Note}
use Rattle.pool_law.specs.declared.note.Object.TheVariants.{Root}
use Rattle.pool_law.specs.Naming.{noted_by}
use Rattle.leak_records.specs.Records.{Sampling}
use Rattle.pool_table.specs.declared.views.Entry.{Entry}
use Rattle.pool_table.specs.declared.views.Entry.TheVariants.{At}
use Rattle.pool_table.specs.Letters.{sent_on}
use Rattle.shared_pool.specs.RootNotes.{access}
use Rattle.seat_work.specs.Hands.{empty_hand}
use Rattle.seat_work.proofs.Accesses.{set_quiet, get_quiet, touch_quiet}
use Rattle.seat_work.proofs.HandLaws.{Carries}
use Rattle.lane_stages.specs.Budgets.{takes}
use Rattle.lane_stages.specs.Sampled.{AreSampled}
use Rattle.lane_stages.proofs.EntryCounts.{IsStill}

module _ (r : RootId) (number : ℕ) (lane : Option ℕ) where
  -- the entry of an access to the root
  abbrev pub access_entry : Did → Entry
  access_entry did = At (Root r.place) number (noted_by lane (access r did))

  -- an access changes neither counts nor hands, and is no birth, no taking and no post
  pub record IsAccessDid (did : Did) : Type 0 where
    pub is_still : IsStill (Note.At (Root r.place) number did)
    pub carries : (m : ℕ) → Carries m empty_hand empty_hand (access_entry did ∷ [])
    pub sampled : (s : Sampling) → AreSampled s (access_entry did ∷ []) s
    pub none_taken : takes (access_entry did) ≡ 0
    pub none_sent : (m to : ℕ) → sent_on m to (access_entry did ∷ []) ≡ 0

  pub set_is : (offset : ℕ) (bytes : List ℕ) → IsAccessDid (Did.Set offset bytes)
  set_is offset bytes = record {
    is_still = record { gains = λ root. refl; loses = λ root. refl; needs = λ root. refl; ends = λ root. refl };
    carries = (set_quiet r number lane offset bytes).carries;
    sampled = λ s. (tt, refl);
    none_taken = refl;
    none_sent = (set_quiet r number lane offset bytes).unsent;
  }

  pub get_is : (offset : ℕ) (bytes : List ℕ) → IsAccessDid (Did.Get offset bytes)
  get_is offset bytes = record {
    is_still = record { gains = λ root. refl; loses = λ root. refl; needs = λ root. refl; ends = λ root. refl };
    carries = (get_quiet r number lane offset bytes).carries;
    sampled = λ s. (tt, refl);
    none_taken = refl;
    none_sent = (get_quiet r number lane offset bytes).unsent;
  }

  pub touch_is : IsAccessDid Did.Touch
  touch_is = record {
    is_still = record { gains = λ root. refl; loses = λ root. refl; needs = λ root. refl; ends = λ root. refl };
    carries = (touch_quiet r number lane).carries;
    sampled = λ s. (tt, refl);
    none_taken = refl;
    none_sent = (touch_quiet r number lane).unsent;
  }
