-- Why octets are no capture file (classic pcap; the bounds on length and number are this project's
-- profile).

-- The first flaw: octets that end inside the head or a record, a magic, version or network that is
-- not read, a captured length above 262,144, or a record after 2^32 - 1 others.
pub data Flaw : Type 0 where
  cut_short : Flaw
  bad_magic : Flaw
  bad_version : Flaw
  bad_link : Flaw
  too_long : Flaw
  too_many : Flaw
