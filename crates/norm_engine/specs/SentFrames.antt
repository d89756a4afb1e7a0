-- The frames of lawful traces: how long they are, and that those written inwards are plain (RFC 791
-- section 3.1, RFC 826, and this project's profile).
use Rattle.std.specs.Prelude.{◌≡◌, ℕ, ◌≤◌, List, length, Some, None}
use Rattle.std.specs.List.{AllByRecursion}
use Rattle.wire_base.specs.declared.address.Link.{Link}
use Rattle.wire_base.specs.declared.address.Side.TheVariants.{Inward}
use Rattle.wire_base.specs.declared.frame.FrameKind.TheVariants.{Arp}
use Rattle.wire_base.specs.Frames.{kind_of, packet_in}
use Rattle.wire_base.specs.Plain.{Plain}
use Rattle.norm_settings.specs.SettingValues.{PlainSettings}
use Rattle.receiver_model.specs.Messages.{IsReadAlike}
use Rattle.norm_engine.specs.Items.{Item}
use Rattle.norm_engine.specs.TraceLaws.{IsSound}
use Rattle.wire_base.specs.declared.limits.TheConstants.{MAX_FRAME}

-- each frame of the item has at most 65,549 octets: a packet of at most 65,535 after a link header
-- of at most 14
abbrev pub HasShortFrames : Item → Type 0
HasShortFrames item = AllByRecursion (λ frame. length frame ≤ MAX_FRAME) item.frames

-- no frame of a lawful trace is longer
abbrev pub LawfulIsShort : Type 0
LawfulIsShort = (settings : PlainSettings) (link : Link) (trace : List Item) → IsSound settings link trace → AllByRecursion HasShortFrames trace

-- Each frame of an inward item has a packet that is plain for `hops`, whether or not it belongs to
-- an era; each frame of an item without a side carries ARP.
pub record IsPlainInwards (hops : ℕ) (link : Link) (item : Item) : Type 0 where
  pub inward : item.entry.side ≡ Some Inward → AllByRecursion (λ frame. Plain hops (packet_in link frame)) item.frames
  pub sideless : item.entry.side ≡ None → AllByRecursion (λ frame. kind_of link frame ≡ Arp) item.frames

-- this holds for each item: every frame written inwards is plain, except ARP
abbrev pub ArePlainInwards : (hops : ℕ) → Link → List Item → Type 0
ArePlainInwards hops link trace = AllByRecursion (IsPlainInwards hops link) trace

abbrev pub LawfulIsPlainInwards : Type 0
LawfulIsPlainInwards = (settings : PlainSettings) (link : Link) (trace : List Item) → IsSound settings link trace → ArePlainInwards settings.hops link trace

-- Any two members read each packet written inwards as one segment or as none, and as one UDP or
-- ICMP message or as none.
abbrev pub AreReadAlike : (hops : ℕ) → Link → List Item → Type 0
AreReadAlike hops link trace =
    AllByRecursion (λ item. item.entry.side ≡ Some Inward → AllByRecursion (λ frame. IsReadAlike hops (packet_in link frame)) item.frames) trace

-- this holds where each of these packets is plain
abbrev pub PlainIsReadAlike : Type 0
PlainIsReadAlike = (hops : ℕ) (link : Link) (trace : List Item) → ArePlainInwards hops link trace → AreReadAlike hops link trace
