-- The options of an object, from its values.
use Rattle.std.proofs.Common.{◌≡◌, refl, true, codes}
use Rattle.std.specs.Prelude.{Some}
use Rattle.serde_json.specs.Data.{Data}
use Rattle.serde_json.specs.Find.{get}
use Rattle.pool_law.specs.declared.run.Options.{Options}
use Rattle.trace_text.specs.Options.{has_keys_of, level_from, may_be, number_from, option_keys, options_from, page_from}

-- each value has its form
pub record AreValues (d : Data) (o : Options) : Type 0 where
  pub keys : has_keys_of option_keys d ≡ true
  pub page : may_be page_from (get (codes "page") d) ≡ Some o.page
  pub order : may_be (number_from 3 11) (get (codes "order") d) ≡ Some o.order
  pub arenas : may_be (number_from 1 8) (get (codes "arenas") d) ≡ Some o.arenas
  pub chunks : may_be (number_from 1 8) (get (codes "chunks") d) ≡ Some o.chunks
  pub handles : may_be (number_from 1 4096) (get (codes "handles") d) ≡ Some o.handles
  pub level : may_be level_from (get (codes "level") d) ≡ Some o.level
  pub interval : may_be (number_from 1 65536) (get (codes "interval") d) ≡ Some o.interval

pub options_read : (d : Data) (o : Options) → AreValues d o → options_from d ≡ Some o
unfolding options_from
options_read d o is = rw (is.keys, is.page, is.order, is.arenas, is.chunks, is.handles, is.level, is.interval) refl
