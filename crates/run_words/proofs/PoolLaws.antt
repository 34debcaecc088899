-- The bytes of a pool that is asked for, and what a text is beside words.
use Rattle.std.proofs.Common.{◌≡◌, ℕ, ◌*◌, ◌^◌, ◌≤◌, Bool, List, inl, inr, refl, ap, sym, ◌∙◌, Some, None, Ok, Err, arith, mul-le-mul_right}
use Rattle.std.specs.Prelude.{Option, IfSome, unwrap_or, Result, if◌then◌else◌}
use Rattle.std.proofs.Math.Pow.{pow_mono}
use Rattle.size_classes.specs.Sizes.{IsPage}
use Rattle.size_classes.specs.declared.TheConstants.{DEFAULT_PAGE}
use Rattle.pool_law.specs.declared.command.Command.{Command}
use Rattle.pool_law.specs.declared.run.Options.{Options}
use Rattle.trace_text.specs.declared.TraceNo.{TraceNo}
use Rattle.trace_text.specs.declared.TraceNo.TheVariants as refusals
use Rattle.trace_text.specs.Options.{AreOptions, IsBetween}
use Rattle.trace_text.specs.Reading.{◌>>=◌, reading_of}
use Rattle.run_words.specs.Pools.{Accepted, bytes_of_chunk, is_within_memory, over, reading_for, within_bounds}

-- ---- Bytes.

-- what is asked for, or the default, is at most this
or_most : (least most default : ℕ) (asked : Option ℕ) → IfSome asked (IsBetween least most) → default ≤ most
    → unwrap_or asked default ≤ most
or_most least most default None h d = d
or_most least most default (Some n) h d = h.1

page_is : (asked : Option ℕ) → IfSome asked IsPage → IsPage (unwrap_or asked DEFAULT_PAGE)
page_is None h = inr (inl refl)
page_is (Some n) h = h

page_most : (page : ℕ) → IsPage page → page ≤ 32768
page_most page (inl e) = omega (arith, e)
page_most page (inr (inl e)) = omega (arith, e)
page_most page (inr (inr (inl e))) = omega (arith, e)
page_most page (inr (inr (inr e))) = omega (arith, e)

pub chunk_most : (o : Options) → AreOptions o → bytes_of_chunk o ≤ 67108864
chunk_most o h =
    let page : unwrap_or o.page DEFAULT_PAGE ≤ 32768 = page_most _ (page_is o.page h.page) in
    let order : unwrap_or o.order 9 ≤ 11 = or_most 3 11 9 o.order h.order (omega arith) in
    let pages : 2 ^ unwrap_or o.order 9 ≤ 2 ^ 11 = pow_mono order in
    let bytes = mul-le-mul_right {m = unwrap_or o.page DEFAULT_PAGE} {n = 32768} (2 ^ unwrap_or o.order 9) page in
    omega (arith, pages, bytes)

-- the chunks of eight arenas of eight
pub all_most : (arenas chunks bytes : ℕ) → arenas ≤ 8 → chunks ≤ 8 → bytes ≤ 67108864
    → arenas * (chunks * bytes) ≤ 4294967296
all_most arenas chunks bytes a k b =
    let each = mul-le-mul_right {m = chunks} {n = 8} bytes k in
    let all = mul-le-mul_right {m = arenas} {n = 8} (chunks * bytes) a in
    omega (arith, each, all, b)

pub arenas_most : (o : Options) → AreOptions o → unwrap_or o.arenas 2 ≤ 8
arenas_most o h = or_most 1 8 2 o.arenas h.arenas (omega arith)

pub chunks_most : (o : Options) → AreOptions o → unwrap_or o.chunks 4 ≤ 8
chunks_most o h = or_most 1 8 4 o.chunks h.chunks (omega arith)

-- ---- Texts.

-- what a text is that is read, beside words
pub read_beside : (words : Options) (text : List ℕ) (lanes : List (List Command)) (asked o : Options) (within : Bool)
    → reading_of text ≡ Ok (lanes, asked) → o ≡ over words asked → within ≡ is_within_memory o
    → reading_for words text ≡ (if within then Ok (lanes, o) else Err refusals.Options)
unfolding reading_for within_bounds
read_beside words text lanes asked o within read is test =
    ap (λ (r : Result Accepted TraceNo). r >>= (λ found. within_bounds (found.0, over words found.1))) read
    ∙ ap (λ (p : Options). within_bounds (lanes, p)) (sym is)
    ∙ ap (λ (b : Bool). if b then Ok (lanes, o) else Err refusals.Options) (sym test)
