use Rattle.std.proofs.Common.{◌≡◌, ℕ, ◌<◌, List, [], ◌∷◌, ◌++◌, length, drop, slice_range, Option, Some, None, Result, Ok, Err, IfOk, IfErr, IfSome, IfNone, sym, ap, ◌∙◌, subst, arith}
use Rattle.std.specs.Option.{option_to_list}
use Rattle.std.specs.Result.{result_unwrap_or}
use Rattle.std.proofs.lemmas.List.{append-nil}
use Rattle.std.proofs.lemmas.Slice.{between_to_end}
use Rattle.frame_core.specs.declared.frame.FrameNo.{FrameNo}
use Rattle.frame_core.specs.declared.frame.Cut.{Cut}
use Rattle.frame_core.specs.Frames.{cuts_at, cuts_of}
use Rattle.frame_core.specs.Standing.{Standing, HasRead}
use Rattle.frame_core.specs.Feeding.{EndsFrame, GoesOn, IsRefused}
use Rattle.frame_cases.proofs.streams.go_on.Goals as goal

-- the bytes up to a place are gone through, and their cuts are these
abbrev Fed : Standing → List ℕ → List ℕ → ℕ → List Cut → ℕ × Option Cut → Type 0
Fed new bytes piece used cuts p =
    (used < p.0) × HasRead new (bytes ++ slice_range piece used p.0)
    × (cuts ++ option_to_list p.1 ≡ cuts_of (bytes ++ slice_range piece used p.0))

fed_all : (new : Standing) (bytes piece : List ℕ) (used : ℕ) (cuts : List Cut) → used < length piece
    → HasRead new (bytes ++ drop used piece) → cuts ≡ cuts_of (bytes ++ drop used piece)
    → Fed new bytes piece used cuts (length piece, None)
fed_all new bytes piece used cuts less read cut =
    let all = between_to_end piece used (length piece) (omega arith) in (
      less,
      subst (λ more. HasRead new (bytes ++ more)) (sym all) read,
      append-nil cuts
          ∙ (cut ∙ ap (λ more. cuts_of (bytes ++ more)) (sym all)),
    )

fed_ok :
    (old new : Standing) (bytes piece : List ℕ) (used : ℕ) (cuts : List Cut) (place : ℕ) (cut : Option Cut)
    → HasRead old bytes → cuts ≡ cuts_of bytes
    → used < place
    → HasRead new (bytes ++ slice_range piece used place)
    → IfSome cut (λ cut. (bytes : List ℕ) → HasRead old bytes
    → EndsFrame bytes (bytes ++ slice_range piece used place) cut)
    → IfNone cut ((place ≡ length piece)
    × ((bytes : List ℕ) → HasRead old bytes → GoesOn bytes (bytes ++ drop used piece)))
    → Fed new bytes piece used cuts (place, cut)
fed_ok old new bytes piece used cuts place (Some cut) read same moved reads ends goes =
    (moved, reads, ap (λ cuts. cuts ++ cut ∷ []) same ∙ sym (ends bytes read).cuts)
fed_ok old new bytes piece used cuts place None read same moved reads ends goes =
    let all = ap (slice_range piece used) goes.0 ∙ between_to_end piece used (length piece) (omega arith) in (
      moved,
      reads,
      append-nil cuts
          ∙ (same ∙ (ap (cuts_at 0) (sym (goes.1 bytes read).frames) ∙ ap (λ more. cuts_of (bytes ++ more)) (sym all))),
    )

fed_by :
    (r : Result (ℕ × Option Cut) FrameNo) (old new : Standing) (bytes piece : List ℕ) (used : ℕ) (cuts : List Cut)
    → used < length piece → HasRead old bytes → cuts ≡ cuts_of bytes
    → IfOk r (λ r. (bytes : List ℕ) → HasRead old bytes → used < length piece → used < r.0)
    → IfOk r (λ r. (bytes : List ℕ) → HasRead old bytes → HasRead new (bytes ++ slice_range piece used r.0))
    → IfOk r (λ r. IfSome r.1
    (λ cut. (bytes : List ℕ) → HasRead old bytes → EndsFrame bytes (bytes ++ slice_range piece used r.0) cut))
    → IfOk r (λ r. IfNone r.1
    ((r.0 ≡ length piece) × ((bytes : List ℕ) → HasRead old bytes → GoesOn bytes (bytes ++ drop used piece))))
    → IfErr r (λ why. (bytes : List ℕ) → HasRead old bytes → IsRefused bytes (bytes ++ drop used piece) why
    × HasRead new (bytes ++ drop used piece))
    → Fed new bytes piece used cuts (result_unwrap_or r (length piece, None))
fed_by (Ok p) old new bytes piece used cuts less read same moves reads ends goes refused =
    fed_ok old new bytes piece used cuts p.0 p.1 read same (moves bytes read less) (reads bytes read) ends goes
fed_by (Err why) old new bytes piece used cuts less read same moves reads ends goes refused =
    let r = refused bytes read in
    fed_all new bytes piece used cuts less r.1 (same ∙ ap (cuts_at 0) (sym r.0.frames))

pub returns-clause-fed : goal.returns-clause-fed
returns-clause-fed c = λ bytes read same.
    let new = c.feed.new.self in
    let piece = c.args.piece.now in
    let used = c.args.used in
    let cuts = c.args.cuts.now.items in
    let told = c.feed.ensures in
    let fed = fed_by c.feed.result c.args.cutter.now new bytes piece used cuts c.requires read same told.moves
    told.read told.cut told.no_cut told.refused in
    let f = subst (Fed new bytes piece used cuts) (sym c.unwrap_or-place.ensures) fed in
    (f.0, f.1, c.in_ok-add.ensures ∙ f.2)
