use Rattle.std.proofs.Common.{List, ℕ, map, ◌∙◌, rules, string_bytes, bytes_eq}
use Rattle.std.specs.List.{list_any}
use Rattle.std.specs.Map.{keys_of}
use Rattle.std.proofs.lemmas.Iterator.Consumers.{YieldsList-from_rest}
use Rattle.std.proofs.lemmas.Iterator.Search.{all_from_yields_List}
use Rattle.trace_text.proofs.Keys.{all_keys}
use Rattle.trace_text.proofs.options.are_known.Goals as goal

pub returns : goal.returns
returns c =
    let known = λ (key : List ℕ). list_any (bytes_eq key) (map (λ text. text.now) c.args.known.now) in
    all_from_yields_List (λ key. known (string_bytes key)) _ _ _ c.all.ensures.ran
    (YieldsList-from_rest (keys_of c.args.members.now.entries) c.keys.ensures.rest) (λ x b q k. search rules)
    ∙ all_keys known c.args.members.now.entries
