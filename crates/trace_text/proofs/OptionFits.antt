-- The options of a trace that was read are in their ranges.
use Rattle.std.proofs.Common.{◌≡◌, ℕ, refl, Bool, true, false, codes, tests, rules}
use Rattle.std.specs.Prelude.{Option, Some, None, IfSome, option_map, unwrap_or, Ok, nat_le, ◌&&◌, if◌then◌else◌}
use Rattle.std.specs.Option.{option_map_or, ok_or}
use Rattle.serde_json.specs.Data.{Data, Members}
use Rattle.serde_json.specs.Find.{as_number, as_object, as_u64, get}
use Rattle.size_classes.specs.Sizes.{IsPage}
use Rattle.pool_law.specs.declared.run.Options.{Options}
use Rattle.trace_text.specs.declared.TraceNo.TheVariants as refusals
use Rattle.trace_text.specs.Items.{◌>>=◌, only_if}
use Rattle.trace_text.specs.Options.{AreOptions, IsBetween, has_keys_of, is_page, level_from, may_be, no_options, number_from, option_keys, options_from, page_from, parts_of, version_keys, version_two}
use Rattle.trace_text.proofs.FormSteps.{through, through_if}

-- ---- Values.

-- what passes a test
only_so : {A : Type 0} (test : A → Bool) (Q : A → Type 0) → ((a : A) → test a ≡ true → Q a)
    → (a : A) → IfSome (only_if test a) Q
only_so {A} test Q so a = elim (test a) as (λ (t : Bool). test a ≡ t → IfSome {T = A} (if t then Some a else None) Q) [
  | true ↦ λ e. so a e
  | false ↦ λ e. tt
] refl

-- a value of a form, where there is one
may_fit : {A : Type 0} (form : Data → Option A) (Q : A → Type 0) → ((d : Data) → IfSome (form d) Q)
    → (o : Option Data) → IfSome (may_be form o) (λ found. IfSome found Q)
may_fit form Q fits None = tt
may_fit {A} form Q fits (Some d) =
    elim (form d) as (λ (r : Option A). IfSome r Q → IfSome (option_map Some r) (λ found. IfSome found Q)) [
      | None ↦ λ fit. tt
      | Some a ↦ λ fit. fit
    ] (fits d)

between : (least greatest n : ℕ) → (nat_le least n && nat_le n greatest) ≡ true → IsBetween least greatest n
between least greatest n h = search (rules, tests)

page_one : (bytes : ℕ) → is_page bytes ≡ true → IsPage bytes
page_one bytes h = search (rules, tests)

number_fits : (least greatest : ℕ) (d : Data) → IfSome (number_from least greatest d) (IsBetween least greatest)
unfolding number_from
number_fits least greatest d =
    through (IsBetween least greatest) (as_number d >>= as_u64) _
    (only_so _ (IsBetween least greatest) (between least greatest))

page_fits : (d : Data) → IfSome (page_from d) IsPage
unfolding page_from
page_fits d = through IsPage (as_number d >>= as_u64) _ (only_so is_page IsPage page_one)

-- ---- Options.

page_step : (o : Option Data) (next : Option ℕ → Option Options)
    → ((found : Option ℕ) → IfSome found IsPage → IfSome (next found) AreOptions)
    → IfSome (may_be page_from o >>= next) AreOptions
page_step o next =
    through_if (λ found. IfSome found IsPage) AreOptions (may_be page_from o) next
    (may_fit page_from IsPage page_fits o)

number_step : (least greatest : ℕ) (o : Option Data) (next : Option ℕ → Option Options)
    → ((found : Option ℕ) → IfSome found (IsBetween least greatest) → IfSome (next found) AreOptions)
    → IfSome (may_be (number_from least greatest) o >>= next) AreOptions
number_step least greatest o next =
    through_if (λ found. IfSome found (IsBetween least greatest)) AreOptions
    (may_be (number_from least greatest) o) next
    (may_fit (number_from least greatest) (IsBetween least greatest) (number_fits least greatest) o)

options_fit : (d : Data) → IfSome (options_from d) AreOptions
unfolding options_from
options_fit d =
    through AreOptions (only_if (has_keys_of option_keys) d) _ (λ object.
    page_step (get (codes "page") object) _ (λ page has_page.
    number_step 3 11 (get (codes "order") object) _ (λ order has_order.
    number_step 1 8 (get (codes "arenas") object) _ (λ arenas has_arenas.
    number_step 1 8 (get (codes "chunks") object) _ (λ chunks has_chunks.
    number_step 1 4096 (get (codes "handles") object) _ (λ handles has_handles.
    through AreOptions (may_be level_from (get (codes "level") object)) _ (λ level.
    number_step 1 65536 (get (codes "interval") object) _ (λ interval has_interval. record {
      page = has_page;
      order = has_order;
      arenas = has_arenas;
      chunks = has_chunks;
      handles = has_handles;
      interval = has_interval;
    }))))))))

no_options_fit : AreOptions no_options
no_options_fit = record { page = tt; order = tt; arenas = tt; chunks = tt; handles = tt; interval = tt }

chosen_fit : (o : Option Options) → IfSome o AreOptions → AreOptions (unwrap_or o no_options)
chosen_fit None fit = no_options_fit
chosen_fit (Some o) fit = fit

version_fits : (d : Data) → IfSome (version_two d) (λ parts. AreOptions parts.1)
unfolding version_two
version_fits d =
    let fit = λ (parts : Data × Options). AreOptions parts.1 in
    through fit (only_if (has_keys_of version_keys) d) _ (λ object.
    through fit (get (codes "version") object >>= number_from 2 2) _ (λ version.
    through fit (get (codes "lanes") object) _ (λ lanes.
    through_if (λ (found : Option Options). IfSome found AreOptions) fit
    (may_be options_from (get (codes "options") object)) _ (may_fit options_from AreOptions options_fit _) chosen_fit)))

-- what a value asks of the pool is in its ranges
pub parts_fit : (d : Data) (parts : Data × Options) → parts_of d ≡ Ok parts → AreOptions parts.1
unfolding parts_of
parts_fit d parts is =
    elim (as_object d) as (λ (o : Option Members).
    option_map_or (λ ms. ok_or (version_two d) refusals.Options) o (Ok (d, no_options)) ≡ Ok parts
    → AreOptions parts.1) [
      | None ↦ λ e. let same : no_options ≡ parts.1 = cc in rw (← same) no_options_fit
      | Some ms ↦ λ e. of_version (version_two d) (version_fits d) e
    ] is
  where
    of_version : (o : Option (Data × Options)) → IfSome o (λ found. AreOptions found.1)
        → ok_or o refusals.Options ≡ Ok parts → AreOptions parts.1
    of_version None fit e = cc
    of_version (Some found) fit e = let same : found ≡ parts = cc in rw (← same) fit
