-- Worked cases (this project's profile). Fragments that overlap and agree complete a datagram; a
-- clash removes it; each rule that drops a fragment. The header of the first fragment; and time,
-- counted from the first fragment.
use Rattle.std.specs.Prelude.{◌≡◌, ℕ, Bool, true, false, List, [], ◌∷◌, length, replicate, ◌++◌}
use Rattle.rule_book.specs.declared.rule.Rule.TheVariants as rules
use Rattle.norm_settings.specs.SettingValues.{PlainSettings, standard}
use Rattle.reassembly.specs.declared.piece.Offered.{Offered}
use Rattle.reassembly.specs.declared.piece.Offered.TheVariants as offers
use Rattle.reassembly.specs.DatagramFragments.{Fragment, datagram_octets}
use Rattle.reassembly.specs.Calls.{Call, expiry, gathered, pieces_in}
use Rattle.reassembly.specs.RuleRows.{view_of, offered_at, call_of}

-- a fragment with TTL 64
abbrev pub part : (ident offset : ℕ) → (more : Bool) → List ℕ → Fragment
part ident offset more octets =
    record { id = record { src = record { 0 = 3325256711 }; dst = record { 0 = 167772161 }; protocol = 17; ident = ident }; offset = offset; more = more; df = false; tos = 0; ttl = 64; octets = octets }

-- an event at a time: a fragment arrives, or time passes
pub data Asked : Type 0 where
  comes : (now : ℕ) (piece : Fragment) → Asked
  passes : (now : ℕ) → Asked

-- the calls of these events, newest first
abbrev pub ran : PlainSettings → List Asked → List Call
ran settings [] = []
ran settings (comes now p ∷ more) = call_of settings (ran settings more) now p ∷ ran settings more
ran settings (passes now ∷ more) = expiry now ∷ ran settings more

-- the answer to a fragment after these events
abbrev pub becomes : PlainSettings → List Asked → Fragment → Offered
becomes settings more p = offered_at (view_of settings (ran settings more) p) p

abbrev pub usual : PlainSettings
usual = standard []

-- one datagram at a time
abbrev pub single : PlainSettings
single = record usual { frags = 1 }

-- room for 256 octets
abbrev pub narrow : PlainSettings
narrow = record usual { frag_cells = 1 }

-- a UDP message: its header and 16 octets
abbrev pub header : List ℕ
header = 156 ∷ 64 ∷ 0 ∷ 53 ∷ 0 ∷ 24 ∷ 0 ∷ 0 ∷ []

abbrev pub eight : List ℕ
eight = replicate 8 97

-- the middle fragment with another first octet
abbrev pub altered : List ℕ
altered = 98 ∷ replicate 7 97

-- two fragments of a message
abbrev pub two : (ident : ℕ) → List Asked
two ident = comes 0 (part ident 8 true eight) ∷ comes 0 (part ident 0 true (header ++ eight)) ∷ []

-- the answer to each
pub record WorkedRows : Type 0 where
  -- the first two fragments are held, and the third completes the datagram, with its 24 octets
  pub first : becomes usual [] (part 7 0 true (header ++ eight)) ≡ offers.Held
  pub second : becomes usual (comes 0 (part 7 0 true (header ++ eight)) ∷ []) (part 7 8 true eight) ≡ offers.Held
  pub third : becomes usual (two 7) (part 7 16 false eight) ≡ offers.Done (record { len = 24; tos = 0; ttl = 64; df = false })
  pub octets : datagram_octets (part 7 16 false eight ∷ pieces_in (gathered 30 (ran usual (two 7))) (part 7 0 true []).id) ≡ header ++ eight ++ eight
  -- an octet that differs drops the fragment, and its datagram is removed
  pub clash : becomes usual (comes 0 (part 8 0 true (header ++ eight)) ∷ []) (part 8 8 true altered) ≡ offers.Drop rules.FClash
  pub forgotten : becomes usual (comes 0 (part 8 8 true altered) ∷ comes 0 (part 8 0 true (header ++ eight)) ∷ []) (part 8 16 false eight) ≡ offers.Held
  -- 65,515 octets are the most
  pub longest : becomes usual [] (part 7 65512 false (replicate 3 97)) ≡ offers.Held
  pub too_long : becomes usual [] (part 8 65512 false (replicate 4 97)) ≡ offers.Drop rules.FBig
  -- if one datagram may be held, there is no room for a second
  pub many : becomes single (comes 0 (part 7 0 true eight) ∷ []) (part 8 0 true eight) ≡ offers.Drop rules.FMany
  -- a last fragment that ends elsewhere than the one held, and a fragment past its end
  pub elsewhere : becomes usual (comes 0 (part 7 16 false eight) ∷ []) (part 7 8 false eight) ≡ offers.Drop rules.FEnd
  pub past_end : becomes usual (comes 0 (part 7 16 false eight) ∷ []) (part 7 24 true eight) ≡ offers.Drop rules.FEnd
  -- a later fragment with DF, a fragment without octets, one that others follow and that is not a
  -- multiple of 8 octets, and one without a free cell
  pub not_to_be_split : becomes usual [] (record (part 7 8 true eight) { df = true }) ≡ offers.Drop rules.FDf
  pub nothing : becomes usual [] (part 7 8 false []) ≡ offers.Drop rules.FEmpty
  pub odd : becomes usual [] (part 7 0 true (replicate 7 97)) ≡ offers.Drop rules.FAlign
  pub no_room : becomes narrow (comes 0 (part 7 0 true eight) ∷ []) (part 8 0 true eight) ≡ offers.Drop rules.FRoom
  -- a block that is held needs no further cell
  pub same_block : becomes narrow (comes 0 (part 7 0 true eight) ∷ []) (part 7 8 true eight) ≡ offers.Held
  -- the header is that of the first fragment that arrived with offset 0
  pub head : becomes usual (comes 0 (record (part 7 0 true eight) { ttl = 9; tos = 4 }) ∷ comes 0 (record (part 7 0 true eight) { df = true }) ∷ []) (part 7 8 false eight)
      ≡ offers.Done (record { len = 16; tos = 0; ttl = 64; df = true })
  -- time is counted from the first fragment: at second 30 its datagram is held, and at second 31 it
  -- is removed
  pub in_time : length (gathered 30 (ran usual (passes 30 ∷ comes 20 (part 7 8 true eight) ∷ comes 0 (part 7 0 true eight) ∷ []))) ≡ 1
  pub out_of_time : length (gathered 30 (ran usual (passes 31 ∷ comes 20 (part 7 8 true eight) ∷ comes 0 (part 7 0 true eight) ∷ []))) ≡ 0
