-- Keys of objects.
use Rattle.std.proofs.Common.{◌≡◌, refl, ◌∙◌}
use Rattle.std.specs.Prelude.{◌==◌}
use Rattle.std.specs.BTreeMap.{is_at}
use Rattle.std.proofs.Math.Bool.{and-true}
use Rattle.pool_law.specs.declared.note.Object.{Object}
use Rattle.pool_law.specs.declared.note.Object.TheVariants.{Arena, Cache, Bin, Mail, Root}
use Rattle.pool_law.specs.Same.{same_object}
use Rattle.lane_reader.specs.Counting.{key_cmp}
use Rattle.run_check.specs.Keying.{object_key}
use Rattle.lane_reader.proofs.CountLemmas.{is_at-keys}

pub is_at-object : (a b : Object) → is_at (key_cmp (object_key a)) (object_key b) ≡ same_object a b
is_at-object (Arena a) (Arena b) = is_at-keys (object_key (Arena a)) (object_key (Arena b)) ∙ and-true (a == b)
is_at-object (Cache l c) (Cache m d) = is_at-keys (object_key (Cache l c)) (object_key (Cache m d))
is_at-object (Bin a) (Bin b) = is_at-keys (object_key (Bin a)) (object_key (Bin b)) ∙ and-true (a == b)
is_at-object (Mail l c) (Mail m d) = is_at-keys (object_key (Mail l c)) (object_key (Mail m d))
is_at-object (Root a) (Root b) = is_at-keys (object_key (Root a)) (object_key (Root b)) ∙ and-true (a == b)
is_at-object _ _ = refl
