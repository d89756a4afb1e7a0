-- Tests of a packet's fields after they were read (this project's profile).
use Rattle.std.specs.Prelude.{ℕ, ◌==◌, ◌&&◌, ◌||◌, not, Bool}
use Rattle.wire_base.specs.Tcp.{has_rst, has_syn, has_urg}
use Rattle.ipv4_codec.specs.declared.header.Ipv4.{Ipv4}
use Rattle.tcp_codec.specs.declared.header.Tcp.{Tcp}

-- of a packet of `size` octets: no options, no octet after its total length, reserved flag clear,
-- and not a fragment
abbrev pub is_whole : Ipv4 → ℕ → Bool
is_whole head size = (head.header == 20) && (head.total == size) && not head.reserved && not head.more && (head.offset == 0)

-- of a segment of `size` octets: reserved bits clear, URG clear and urgent pointer 0, and no octets
-- on SYN or RST
abbrev pub is_bare : Tcp → ℕ → Bool
is_bare head size =
    (head.reserved == 0) && not (has_urg head.flags.0) && (head.urgent == 0)
    && (not (has_syn head.flags.0 || has_rst head.flags.0) || (head.header == size))
