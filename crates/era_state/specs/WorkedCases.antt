-- Connections whose segments were computed by hand.
use Rattle.std.specs.Prelude.{ℕ, Bool, true, false, List, [], ◌∷◌, ◌++◌, None}
use Rattle.wire_base.specs.Segments.{Written}
use Rattle.era_state.specs.Emission.{IsEmitted, AreEmitted}

-- a segment with a window of 8192 and no window scale
abbrev pub segment : (inward : Bool) → (seq ack flags : ℕ) → List ℕ → Written
segment inward seq ack flags octets = record { inward = inward; seq = seq; ack = ack; flags = flags; window = 8192; scale = None; octets = octets }

-- SYN 999 from outside, SYN ACK 5000 and ACK 1000
abbrev pub opening : List Written
opening = segment true 999 0 2 [] ∷ segment false 5000 1000 18 [] ∷ segment true 1000 5001 16 [] ∷ []

-- `abcd` at 1000
abbrev pub abcd : Written
abcd = segment true 1000 5001 24 (97 ∷ 98 ∷ 99 ∷ 100 ∷ [])

-- `abXd` at 1000
abbrev pub abXd : Written
abXd = segment true 1000 5001 24 (97 ∷ 98 ∷ 88 ∷ 100 ∷ [])

-- FIN at 1004
abbrev pub fin : Written
fin = segment true 1004 5001 17 []

-- the opening and `abcd`; `abXd`, forwarded as `abcd`; the FIN
abbrev pub settled : List Written
settled = opening ++ abcd ∷ abcd ∷ fin ∷ []

-- all of it is emitted
abbrev pub SettledIsEmitted : Type 0
SettledIsEmitted = AreEmitted [] settled

-- the segment with the other octet is not emitted there
abbrev pub ClashIsNotEmitted : Type 0
ClashIsNotEmitted = IsEmitted (opening ++ abcd ∷ []) abXd → ⊥

-- `wxyz` at 998
abbrev pub wxyz : Written
wxyz = segment true 998 5001 24 (119 ∷ 120 ∷ 121 ∷ 122 ∷ [])

-- the opening, ACKs of 2147484647 and 998, which are the offsets 2^31 - 1 and 2^32 - 2, and `wxyz`
-- there
abbrev pub turning : List Written
turning = opening ++ segment false 5001 2147484647 16 [] ∷ segment false 5001 998 16 [] ∷ wxyz ∷ []

-- The same, an ACK of 1001, which is the offset 2^32 + 1, and `Abcd` at 1000. It is forwarded as
-- `zcd` at 1001: the octet at 1000 is acknowledged, and `b` is at the offset of `z`.
abbrev pub turned : List Written
turned = turning ++ segment false 5001 1001 16 [] ∷ segment true 1001 5001 24 (122 ∷ 99 ∷ 100 ∷ []) ∷ []

-- all of it is emitted
abbrev pub TurnedIsEmitted : Type 0
TurnedIsEmitted = AreEmitted [] turned
