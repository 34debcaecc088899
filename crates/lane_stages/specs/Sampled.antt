-- The births in a part, and the watches that a sampler of the lane gave them.
use Rattle.std.specs.Prelude.{◌≡◌, List, [], ◌∷◌}
use Rattle.pool_law.specs.declared.note.Did.{Did}
use Rattle.pool_law.specs.declared.note.Did.TheVariants.{Birth}
use Rattle.pool_law.specs.declared.note.Noted.{Noted}
use Rattle.leak_records.specs.Records.{Sampling, with_birth, watch_of}
use Rattle.pool_table.specs.declared.views.Entry.{Entry}
use Rattle.pool_table.specs.declared.views.Entry.TheVariants.{At, Ref, Busy}

-- the sampler after a note
abbrev pub sampler_after : Sampling → Did → Sampling
sampler_after s (Birth root region) = with_birth s
sampler_after s _ = s

-- a birth has the watch that the sampler gives it
abbrev pub IsSampledBy : Sampling → Did → Noted → Type 0
IsSampledBy s (Birth root region) n = n.watch ≡ watch_of (with_birth s)
IsSampledBy s _ n = Unit {0}

-- each birth of these entries has the watch that the sampler gives it, which is this one at the end
abbrev pub AreSampled : Sampling → List Entry → Sampling → Type 0
AreSampled s [] last = s ≡ last
AreSampled s (At object number n ∷ es) last =
    IsSampledBy s n.did n × AreSampled (sampler_after s n.did) es last
AreSampled s (Ref root did ∷ es) last = AreSampled s es last
AreSampled s (Busy held ∷ es) last = AreSampled s es last
