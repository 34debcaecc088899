-- What a seat's own notes say of the caches of its lane.
use Rattle.std.specs.Prelude.{ℕ, ◌-◌, Bool, true, false, ◌&&◌, if◌then◌else◌, List, [], ◌∷◌}
use Rattle.pool_law.specs.declared.note.Did.{Did}
use Rattle.pool_law.specs.declared.note.Did.TheVariants.{Trim, Close, Shed}
use Rattle.pool_law.specs.declared.note.Object.TheVariants.{Cache}
use Rattle.pool_law.specs.Same.{same_object}
use Rattle.pool_table.specs.declared.views.Entry.{Entry}
use Rattle.pool_table.specs.declared.views.Entry.TheVariants.{At, Ref, Busy}

-- how many regions are still to be shed, after a note of the cache
abbrev pub quota_after : ℕ → Did → ℕ
quota_after quota (Trim n) = n
quota_after quota (Close n) = n
quota_after quota (Shed region) = quota - 1
quota_after quota _ = quota

-- what is left of the quota that the seat's last trim or close of the cache gave
abbrev pub quota_from : ℕ → ℕ → ℕ → List Entry → ℕ
quota_from lane class quota [] = quota
quota_from lane class quota (At object number noted ∷ es) =
    quota_from lane class
    (if same_object object (Cache lane class) then quota_after quota noted.did else quota) es
quota_from lane class quota (Ref root did ∷ es) = quota_from lane class quota es
quota_from lane class quota (Busy held ∷ es) = quota_from lane class quota es

abbrev pub quota_left : ℕ → ℕ → List Entry → ℕ
quota_left lane class es = quota_from lane class 0 es

-- a note closes the cache
abbrev pub is_close : Did → Bool
is_close (Close n) = true
is_close _ = false

-- the seat has closed the cache
abbrev pub has_closed : ℕ → ℕ → List Entry → Bool
has_closed lane class [] = false
has_closed lane class (At object number noted ∷ es) =
    if same_object object (Cache lane class) && is_close noted.did
    then true
    else has_closed lane class es
has_closed lane class (Ref root did ∷ es) = has_closed lane class es
has_closed lane class (Busy held ∷ es) = has_closed lane class es
