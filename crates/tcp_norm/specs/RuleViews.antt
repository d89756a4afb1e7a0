-- What the rules of the rule table ask of the calls before a datagram.
use Rattle.std.specs.Prelude.{ℕ, ◌+◌, ◌-◌, nat_le, Bool, List, [], ◌∷◌, length, take, filter, Option, Some, None, nat_lt}
use Rattle.wire_base.specs.Segments.{Written}
use Rattle.era_state.specs.Quantities.{octets_of}
use Rattle.norm_settings.specs.SettingValues.{PlainSettings}
use Rattle.ip_rules.specs.Datagrams.{Datagram}
use Rattle.tcp_norm.specs.Calls.{Call, Alive, segments, begun_in, eras, live, key_of, numbers_of}
use Rattle.tcp_norm.specs.HeldOctets.{held_all, evictable}

-- The live era of the datagram's four-tuple and the segments written in it, how many cells hold
-- nothing, and whether as many eras are live as may be. Also the least recently touched of those
-- that hold nothing and its octets, and the number of the next era that begins.
pub record View : Type 0 where
  pub era : Option ℕ
  pub segments : List Written
  pub room : ℕ
  pub is_full : Bool
  pub evictable : Option ℕ
  pub evictable_octets : ℕ
  pub next : ℕ

-- the number of an era, if there is one
abbrev pub number_of : Option Alive → Option ℕ
number_of None = None
number_of (Some a) = Some a.number

-- the segments of an era, and none of no era
abbrev pub segments_of : (ℕ → List Written) → Option Alive → List Written
segments_of segments None = []
segments_of segments (Some a) = segments a.number

-- the first of these
abbrev pub head_of : List Alive → Option Alive
head_of [] = None
head_of (a ∷ more) = Some a

abbrev pub view_of : PlainSettings → List Call → Datagram → View
view_of settings cs d =
    record {
      era = number_of (live cs (key_of d));
      segments = segments_of (λ n. segments n cs) (live cs (key_of d));
      room = settings.cells - held_all cs;
      is_full = nat_le settings.flows (length (eras cs));
      evictable = number_of (head_of (evictable cs));
      evictable_octets = octets_of (segments_of (λ n. segments n cs) (head_of (evictable cs)));
      next = begun_in cs + 1;
    }

-- the eras that end for being idle by a time: at most two, the least recently touched of those in
-- which nothing was written for more than `idle` seconds
abbrev pub idle_at : PlainSettings → (now : ℕ) → List Call → List ℕ
idle_at settings now cs = numbers_of (take 2 (filter (λ a. nat_lt (a.touched + settings.idle) now) (eras cs)))
