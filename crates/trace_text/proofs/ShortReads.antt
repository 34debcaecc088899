-- A text that is read is short, so its lanes and their rows have numbers of 32 bits.
use Rattle.std.proofs.Common.{◌≡◌, ℕ, zero, suc, ◌^◌, ◌<◌, ◌≤◌, Bool, true, false, List, length, get_or, codes, Ordering, Less, Equal, Greater, subst, arith}
use Rattle.std.specs.Prelude.{Option, Some, None, IfSome, Ok, Err, if◌then◌else◌}
use Rattle.std.specs.Ordering.{nat_cmp, match_ordering}
use Rattle.std.specs.Cmp.Lexicographic.{slice_cmp}
use Rattle.std.specs.Option.{option_map_or, ok_or}
use Rattle.std.specs.Str.{is_utf8}
use Rattle.serde_json.specs.Data.{Data, Items, Members}
use Rattle.serde_json.specs.Find.{as_object, get, get_member}
use Rattle.serde_json.specs.Read.{read}
use Rattle.pool_law.specs.declared.run.Options.{Options}
use Rattle.trace_text.specs.declared.TraceNo.TheVariants as refusals
use Rattle.trace_text.specs.Items.{◌>>=◌, only_if, listed}
use Rattle.trace_text.specs.Lane.{HasFewRows}
use Rattle.trace_text.specs.Options.{has_keys_of, may_be, no_options, number_from, options_from, parts_of, version_keys, version_two}
use Rattle.trace_text.specs.Reading.{IsShort, value_of}
use Rattle.trace_text.proofs.DataWeights.{size, items_size, members_size, size-read}
use Rattle.trace_text.proofs.FormSteps.{through, through_if}

-- ---- Arrays.

some : (d : Data) → 1 ≤ size d
some Data.null = omega arith
some (Data.boolean b) = omega arith
some (Data.number n) = omega arith
some (Data.string s) = omega arith
some (Data.array ds) = omega arith
some (Data.object ms) = omega arith

many : (ds : Items) → length (listed ds) ≤ items_size ds
many Items.no_items = omega arith
many (Items.item d ds) = let more = many ds in let one = some d in omega (arith, more, one)

each : (ds : Items) (k : ℕ) (e : Data) → k < length (listed ds) → size (get_or (listed ds) k e) ≤ items_size ds
each Items.no_items k e below = absurd (omega (arith, below))
each (Items.item d ds) zero e below = omega arith
each (Items.item d ds) (suc k) e below = let le = each ds k e (omega (arith, below)) in omega (arith, le)

few_rows : (d : Data) → size d < 2 ^ 25 → HasFewRows d
few_rows Data.null few = tt
few_rows (Data.boolean b) few = tt
few_rows (Data.number n) few = tt
few_rows (Data.string s) few = tt
few_rows (Data.array ds) few = let le = many ds in omega (arith, le, few)
few_rows (Data.object ms) few = tt

is_short : (d : Data) → size d < 2 ^ 25 → IsShort d
is_short Data.null few = tt
is_short (Data.boolean b) few = tt
is_short (Data.number n) few = tt
is_short (Data.string s) few = tt
is_short (Data.array ds) few = (
  let le = many ds in omega (arith, le, few),
  λ k e below. few_rows (get_or (listed ds) k e) (let le = each ds k e below in omega (arith, le, few)),
)
is_short (Data.object ms) few = tt

-- ---- Objects.

got : (o : Ordering) (a b : Option Data) (n : ℕ) → IfSome a (λ d. size d ≤ n) → IfSome b (λ d. size d ≤ n)
    → IfSome (match_ordering o a b a) (λ d. size d ≤ n)
got Less a b n p q = p
got Equal a b n p q = q
got Greater a b n p q = p

member_within : (k : List ℕ) (ms : Members) (n : ℕ) → members_size ms ≤ n
    → IfSome (get_member k ms) (λ d. size d ≤ n)
member_within k Members.no_members n le = tt
member_within k (Members.member l e ms) n le =
    got (slice_cmp nat_cmp k l) (get_member k ms) (Some e) n (member_within k ms n (omega (arith, le)))
    (omega (arith, le))

get_within : (k : List ℕ) (d : Data) (n : ℕ) → size d ≤ n → IfSome (get k d) (λ e. size e ≤ n)
get_within k Data.null n le = tt
get_within k (Data.boolean b) n le = tt
get_within k (Data.number m) n le = tt
get_within k (Data.string s) n le = tt
get_within k (Data.array ds) n le = tt
get_within k (Data.object ms) n le = member_within k ms n (omega (arith, le))

kept : (test : Data → Bool) (d : Data) (n : ℕ) → size d ≤ n → IfSome (only_if test d) (λ e. size e ≤ n)
kept test d n le = elim (test d) as (λ (t : Bool). IfSome {T = Data} (if t then Some d else None) (λ e. size e ≤ n)) [
  | true ↦ le
  | false ↦ tt
]

version_within : (d : Data) (n : ℕ) → size d ≤ n → IfSome (version_two d) (λ parts. size parts.0 ≤ n)
unfolding version_two
version_within d n le =
    let fit = λ (parts : Data × Options). size parts.0 ≤ n in
    let small = λ (e : Data). size e ≤ n in
    through_if small fit (only_if (has_keys_of version_keys) d) _ (kept (has_keys_of version_keys) d n le)
    (λ object within.
    through fit (get (codes "version") object >>= number_from 2 2) _ (λ version.
    through_if small fit (get (codes "lanes") object) _ (get_within (codes "lanes") object n within) (λ lanes few.
    through fit (may_be options_from (get (codes "options") object)) _ (λ options. few))))

parts_within : (d : Data) (parts : Data × Options) → parts_of d ≡ Ok parts → size parts.0 ≤ size d
unfolding parts_of
parts_within d parts is =
    elim (as_object d) as (λ (o : Option Members).
    option_map_or (λ ms. ok_or (version_two d) refusals.Options) o (Ok (d, no_options)) ≡ Ok parts
    → size parts.0 ≤ size d) [
      | None ↦ λ e. let same : d ≡ parts.0 = cc in subst (λ (x : Data). size x ≤ size d) same (omega arith)
      | Some ms ↦ λ e. of_version (version_two d) (version_within d (size d) (omega arith)) e
    ] is
  where
    of_version : (o : Option (Data × Options)) → IfSome o (λ found. size found.0 ≤ size d)
        → ok_or o refusals.Options ≡ Ok parts → size parts.0 ≤ size d
    of_version None fit e = cc
    of_version (Some found) fit e = let same : found ≡ parts = cc in rw (← same) fit

-- ---- Texts.

value_read : (text : List ℕ) (d : Data) → value_of text ≡ Ok d → read text ≡ Some d
unfolding value_of
value_read text d is =
    elim (is_utf8 text) as (λ (b : Bool). (if b then ok_or (read text) refusals.Syntax else Err refusals.Syntax) ≡ Ok d
    → read text ≡ Some d) [
      | true ↦ λ e. of_read (read text) e
      | false ↦ λ e. cc
    ] is
  where
    of_read : (o : Option Data) → ok_or o refusals.Syntax ≡ Ok d → o ≡ Some d
    of_read None e = cc
    of_read (Some found) e = cc

-- the lanes of a text that isn't too long
pub lanes_short : (text : List ℕ) (d : Data) (parts : Data × Options) → value_of text ≡ Ok d → parts_of d ≡ Ok parts
    → length text ≤ 16777216 → IsShort parts.0
lanes_short text d parts value_is parts_are short =
    let all = size-read text d (value_read text d value_is) in
    let within = parts_within d parts parts_are in
    is_short parts.0 (omega (arith, all, within, short))
