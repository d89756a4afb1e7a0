-- The rules on fragments, in the order of testing, and the answer to a fragment (this project's
-- profile).
use Rattle.std.specs.Prelude.{◌≡◌, ℕ, ◌+◌, ◌-◌, ◌%◌, ◌==◌, ◌≤◌, ◌&&◌, ◌||◌, nat_lt, nat_le, Bool, true, false, not, List, [], ◌∷◌, ◌++◌, length, take, Option, Some, None, if◌then◌else◌}
use Rattle.std.specs.Option.{option_or}
use Rattle.norm_settings.specs.SettingValues.{PlainSettings}
use Rattle.rule_book.specs.declared.rule.Rule.{Rule}
use Rattle.rule_book.specs.declared.rule.Rule.TheVariants.{FDf, FEmpty, FAlign, FBig, FEnd, FClash, FMany, FRoom, FHeld, FDone}
use Rattle.reassembly.specs.declared.piece.Whole.{Whole}
use Rattle.reassembly.specs.declared.piece.Offered.{Offered}
use Rattle.reassembly.specs.declared.piece.Offered.TheVariants as offers
use Rattle.reassembly.specs.DatagramFragments.{Fragment, end_of, octet_of, total_of, reach, is_whole, whole_of, missing_of, datagram_octets, IsMadeOf}
use Rattle.reassembly.specs.Calls.{Answer, held, done, dropped, Call, expiry, offer, Gathered, gathered, pieces_in, cells_in}
use Rattle.wire_base.specs.declared.limits.TheConstants.{MAX_PAYLOAD}

-- What the rules read of the calls before a fragment: the fragments of its datagram, whether as
-- many datagrams are held as may be, and the number of free cells.
pub record View : Type 0 where
  pub pieces : List Fragment
  pub is_full : Bool
  pub room : ℕ

abbrev pub view_in : List Gathered → (is_full : Bool) → (room : ℕ) → Fragment → View
view_in gs is_full room p = record { pieces = pieces_in gs p.id; is_full = is_full; room = room }

abbrev pub view_of : PlainSettings → List Call → Fragment → View
view_of settings cs p =
    view_in (gathered settings.frag_time cs) (nat_le settings.frags (length (gathered settings.frag_time cs)))
    (settings.frag_cells - cells_in (gathered settings.frag_time cs)) p

-- F_DF: a later fragment of a datagram that must not be fragmented
abbrev pub f_df : Fragment → Bool
f_df p = p.df && nat_lt 0 p.offset

-- F_EMPTY: no octet
abbrev pub f_empty : Fragment → Bool
f_empty p = length p.octets == 0

-- F_ALIGN: further ones follow, and the number of its octets is not a multiple of 8
abbrev pub f_align : Fragment → Bool
f_align p = p.more && not (length p.octets % 8 == 0)

-- F_BIG: it extends past the longest datagram, which has 65,515 octets after a header of 20
abbrev pub f_big : Fragment → Bool
f_big p = nat_lt MAX_PAYLOAD (end_of p)

-- the total is known and below this end
abbrev pub is_past : Option ℕ → (end : ℕ) → Bool
is_past None end = false
is_past (Some total) end = nat_lt total end

-- the total is known and differs from this end
abbrev pub is_other : Option ℕ → (end : ℕ) → Bool
is_other None end = false
is_other (Some total) end = not (total == end)

-- a fragment contradicts this total, or is a last fragment and contradicts the octets held
abbrev pub ends_otherwise : Option ℕ → (reach : ℕ) → Fragment → Bool
ends_otherwise total reach p = is_past total (end_of p) || (not p.more && (is_other total (end_of p) || nat_lt (end_of p) reach))

-- F_END: it extends past the end of the last fragment; or it is a last fragment, and another one
-- ends elsewhere or an octet is held at or past its end
abbrev pub f_end : List Fragment → Fragment → Bool
f_end ps p = ends_otherwise (total_of ps) (reach ps) p

-- an octet is held, and differs
abbrev pub differs : Option ℕ → (octet : ℕ) → Bool
differs None octet = false
differs (Some own) octet = not (own == octet)

-- one of these octets, from this offset on, differs from the octet held at its offset
abbrev pub clashes : List Fragment → (from : ℕ) → List ℕ → Bool
clashes ps from [] = false
clashes ps from (x ∷ xs) = differs (octet_of ps from) x || clashes ps (from + 1) xs

-- F_CLASH: an octet differs from the one held at its offset
abbrev pub f_clash : List Fragment → Fragment → Bool
f_clash ps p = clashes ps p.offset p.octets

-- no fragment is held
abbrev pub is_none_held : List Fragment → Bool
is_none_held [] = true
is_none_held (p ∷ ps) = false

-- F_MANY: no fragment of its datagram is held, and as many datagrams are held as may be
abbrev pub f_many : View → Bool
f_many v = is_none_held v.pieces && v.is_full

-- F_ROOM: more of its blocks are without an octet of the datagram than cells are free
abbrev pub f_room : View → Fragment → Bool
f_room v p = nat_lt v.room (missing_of v.pieces p.offset (length p.octets))

-- a rule, and whether it holds
pub record Row : Type 0 where
  pub rule : Rule
  pub holds : Bool

-- the first rule that holds
abbrev pub first_row : List Row → Option Rule
first_row [] = None
first_row (r ∷ rs) = if r.holds then Some r.rule else first_row rs

-- the rules on the fragment alone
abbrev pub own_rows : Fragment → List Row
own_rows p =
    record { rule = FDf; holds = f_df p } ∷ record { rule = FEmpty; holds = f_empty p } ∷ record { rule = FAlign; holds = f_align p } ∷ record { rule = FBig; holds = f_big p } ∷ []

-- the rules under which a fragment contradicts its datagram
abbrev pub odd_rows : List Fragment → Fragment → List Row
odd_rows ps p = record { rule = FEnd; holds = f_end ps p } ∷ record { rule = FClash; holds = f_clash ps p } ∷ []

-- the rules on what is held
abbrev pub held_rows : View → Fragment → List Row
held_rows v p = odd_rows v.pieces p ++ record { rule = FMany; holds = f_many v } ∷ record { rule = FRoom; holds = f_room v p } ∷ []

-- the rule that drops a fragment, if one does
abbrev pub dropped_by : View → Fragment → Option Rule
dropped_by v p = option_or (first_row (own_rows p)) (first_row (held_rows v p))

-- the answer to a fragment under this rule, or otherwise by whether its datagram is complete
abbrev pub answer_by : Option Rule → Bool → Answer
answer_by None whole = if whole then done else held
answer_by (Some rule) whole = dropped rule

-- the answer to a fragment
abbrev pub answer_at : View → Fragment → Answer
answer_at v p = answer_by (dropped_by v p) (is_whole (p ∷ v.pieces))

-- it is held, and its datagram is not complete
abbrev pub is_held : Answer → Bool
is_held held = true
is_held done = false
is_held (dropped rule) = false

-- it completed its datagram
abbrev pub is_done : Answer → Bool
is_done held = false
is_done done = true
is_done (dropped rule) = false

-- whether the condition of a rule on fragments applies to a fragment; rules of other layers apply
-- to none
abbrev pub holds_fragment : View → Fragment → Rule → Bool
holds_fragment v p FDf = f_df p
holds_fragment v p FEmpty = f_empty p
holds_fragment v p FAlign = f_align p
holds_fragment v p FBig = f_big p
holds_fragment v p FEnd = f_end v.pieces p
holds_fragment v p FClash = f_clash v.pieces p
holds_fragment v p FMany = f_many v
holds_fragment v p FRoom = f_room v p
holds_fragment v p FHeld = is_held (answer_at v p)
holds_fragment v p FDone = is_done (answer_at v p)
holds_fragment v p rule = false

abbrev pub offered : Answer → Whole → Offered
offered held whole = offers.Held
offered done whole = offers.Done whole
offered (dropped rule) whole = offers.Drop rule

-- the answer to a fragment: a complete datagram with its length and its fields
abbrev pub offered_at : View → Fragment → Offered
offered_at v p = offered (answer_at v p) (whole_of (p ∷ v.pieces))

-- the call that offers a fragment
abbrev pub call_of : PlainSettings → List Call → (now : ℕ) → Fragment → Call
call_of settings cs now p = offer now p (answer_at (view_of settings cs p) p)

-- each fragment was answered by the rules
abbrev pub AreAnswered : PlainSettings → List Call → Type 0
AreAnswered settings [] = Unit {0}
AreAnswered settings (expiry now ∷ cs) = AreAnswered settings cs
AreAnswered settings (offer now p answer ∷ cs) = (answer ≡ answer_at (view_of settings cs p) p) × AreAnswered settings cs

-- if a datagram is complete, the front of the buffer holds its octets; otherwise the buffer is
-- unchanged
abbrev pub Carries : Offered → (old new : List ℕ) → List Fragment → Type 0
Carries offers.Held old new ps = new ≡ old
Carries (offers.Done whole) old new ps = take whole.len new ≡ datagram_octets ps
Carries (offers.Drop rule) old new ps = new ≡ old

-- if a datagram is complete, the front of the buffer is made of its fragments
abbrev pub JoinsPieces : Offered → (buffer : List ℕ) → List Fragment → Type 0
JoinsPieces offers.Held buffer ps = Unit {0}
JoinsPieces (offers.Done whole) buffer ps = IsMadeOf (take whole.len buffer) ps
JoinsPieces (offers.Drop rule) buffer ps = Unit {0}

-- a complete datagram is no longer than the longest one
abbrev pub IsShort : Offered → Type 0
IsShort offers.Held = Unit {0}
IsShort (offers.Done whole) = whole.len ≤ MAX_PAYLOAD
IsShort (offers.Drop rule) = Unit {0}
