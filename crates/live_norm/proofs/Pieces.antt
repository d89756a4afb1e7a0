-- The frames that are written for the frames of a record, one by one.
use Rattle.std.proofs.Common.{◌≡◌, ℕ, ◌+◌, ◌-◌, ◌<◌, ◌≤◌, ◌&&◌, not, All, Bool, true, false, cond, List, [], ◌∷◌, ◌++◌, length, drop, slice_get, Option, Some, None, get_or, take, refl, sym, ap, ap₂, ◌∙◌, subst, arith, append-nil, add-zero, length-append}
use Rattle.std.specs.List.{flat_map}
use Rattle.std.proofs.lemmas.List.{get_or-drop, length-drop, get_or_append_left, get_or-append_right}
use Rattle.std.proofs.lemmas.Option.{slice_get_read, slice_get_within, get_or_from_slice_get, same_Some}
use Rattle.wire_base.specs.declared.address.Link.{Link}
use Rattle.wire_base.specs.Frames.{packet_in}
use Rattle.emit_mtu.specs.declared.long.LongKind.{LongKind}
use Rattle.emit_mtu.specs.declared.long.LongKind.TheVariants.{Fits, Cut, Drop}
use Rattle.emit_mtu.specs.LongFrames.{is_long, long_kind, may_be_cut}
use Rattle.emit_mtu.specs.CutStreams.{frames_of, frames_for}
use Rattle.norm_engine.specs.declared.written.Emitted.{Emitted}
use Rattle.norm_engine.specs.EngineState.{frames_given}
use Rattle.norm_engine.specs.working.FrameReports.{TellsOne}

-- ---- a frame that fits

fits_by : (long may : Bool) → (cond (long && may) Cut (cond (long && not may) Drop Fits)) ≡ Fits → ((long && may) ≡ false) × ((long && not may) ≡ false)
fits_by true true e = absurd (cc)
fits_by true false e = absurd (cc)
fits_by false may e = (refl, refl)

pub tells_whole : (mtu : ℕ) (link : Link) (frame : List ℕ) (one : Emitted) → one ≡ record { packets = 1; cut = false; kept_back = false } → long_kind link mtu frame ≡ Fits
    → TellsOne mtu link frame one
tells_whole mtu link frame one is kind =
    let by = fits_by (is_long link mtu frame) (may_be_cut (packet_in link frame)) kind in
    subst (TellsOne mtu link frame) (sym is)
    (record { packets = sym (ap (λ (k : LongKind). length (frames_of k link mtu frame)) kind); cut = sym by.0; kept_back = sym by.1 })

pub one_if_fits : (mtu : ℕ) (link : Link) (frame : List ℕ) → long_kind link mtu frame ≡ Fits → frames_for link mtu frame ≡ frame ∷ []
one_if_fits mtu link frame kind = ap (λ (k : LongKind). frames_of k link mtu frame) kind

-- ---- the frame at an index

pub at_drop : {X : Type 0} (xs : List X) (i : ℕ) (x : X) (rest : List X) → drop i xs ≡ x ∷ rest → slice_get xs i ≡ Some x
at_drop xs i x rest is =
    let size = ap length is in
    let sized = length-drop i xs in
    slice_get_read xs (length xs) i x refl (omega (arith, size, sized)) (sym (ap (λ n. get_or xs n x) (sym (add-zero i)) ∙ sym (get_or-drop i xs 0 x) ∙ ap (λ ys. get_or ys 0 x) is))

-- what is written for two frames
pub of_one : (f : List ℕ → List (List ℕ)) (xs : List (List ℕ)) (x : List ℕ) → length xs ≡ 1 → slice_get xs 0 ≡ Some x → flat_map f xs ≡ f x
of_one f [] x one here = absurd (cc)
of_one f (a ∷ []) x one here = append-nil (f a) ∙ ap f (same_Some a x here)
of_one f (a ∷ b ∷ more) x one here = absurd (omega (arith, one))

pub of_two : (f : List ℕ → List (List ℕ)) (xs : List (List ℕ)) (x z : List ℕ) → length xs ≡ 2 → slice_get xs 0 ≡ Some x → slice_get xs 1 ≡ Some z → flat_map f xs ≡ f x ++ f z
of_two f [] x z two here next = absurd (cc)
of_two f (a ∷ []) x z two here next = absurd (omega (arith, two))
of_two f (a ∷ b ∷ []) x z two here next = ap₂ (λ u v. u ++ v) (ap f (same_Some a x here)) (append-nil (f b) ∙ ap f (same_Some b z next))
of_two f (a ∷ b ∷ c ∷ more) x z two here next = absurd (omega (arith, two))

pub in_front : (xs ys zs : List (List ℕ)) (i : ℕ) (y : List ℕ) → zs ≡ xs ++ ys → slice_get xs i ≡ Some y → slice_get zs i ≡ Some y
in_front xs ys zs i y is here =
    let within = slice_get_within xs i y here in
    let size = ap length is ∙ length-append xs ys in
    slice_get_read zs (length zs) i y refl (omega (arith, size, within))
    (sym (ap (λ l. get_or l i y) is ∙ get_or_append_left xs ys y i within ∙ get_or_from_slice_get xs i y y here))

pub in_back : (xs ys zs : List (List ℕ)) (i : ℕ) (y : List ℕ) → zs ≡ xs ++ ys → length xs ≤ i → slice_get ys (i - length xs) ≡ Some y → slice_get zs i ≡ Some y
in_back xs ys zs i y is past here =
    let within = slice_get_within ys (i - length xs) y here in
    let size = ap length is ∙ length-append xs ys in
    slice_get_read zs (length zs) i y refl (omega (arith, size, within, past))
    (sym (ap (λ l. get_or l i y) is ∙ get_or-append_right xs ys (length xs) i y refl past ∙ get_or_from_slice_get ys (i - length xs) y y here))

-- ---- an element of a list

pub at : {X : Type 0} (P : X → Type 0) (xs : List X) (i : ℕ) (x : X) → All P xs → slice_get xs i ≡ Some x → P x
at P xs i x all here = subst P (get_or_from_slice_get xs i x x here) (all i x (slice_get_within xs i x here))

pub given_has : (P : List ℕ → Type 0) (as_read : Bool) (octets : List ℕ) (out : List (List ℕ)) → true ≡ as_read → All P (frames_given as_read octets out) → P octets
given_has P true octets out is all = all 0 octets (omega arith)
given_has P false octets out is all = absurd (cc)
