-- Address prefixes and their text: four numbers with dots, a slash and a length (RFC 4632 section
-- 3.1; the counts of digits are this project's profile).
use Rattle.std.specs.Prelude.{ℕ, ◌+◌, ◌-◌, ◌*◌, ◌/◌, ◌^◌, ◌==◌, ◌&&◌, ◌||◌, nat_lt, nat_le, Bool, List, length, fold, Result, Ok, Err, if◌then◌else◌}
use Rattle.std.specs.List.{list_all, before_first, after_first}
use Rattle.wire_base.specs.declared.address.Prefix.{Prefix}
use Rattle.wire_base.specs.declared.address.PrefixFault.{PrefixFault}
use Rattle.wire_base.specs.declared.address.PrefixFault.TheVariants.{Shape, Part, Length}

-- the first `len` bits of the address are those of the prefix
abbrev pub holds : Prefix → ℕ → Bool
holds prefix address = (prefix.addr.0 / 2 ^ (32 - prefix.len)) == (address / 2 ^ (32 - prefix.len))

-- a decimal digit
abbrev pub is_digit : ℕ → Bool
is_digit c = nat_le 48 c && nat_le c 57

-- from one to `most` decimal digits
abbrev pub is_number : ℕ → List ℕ → Bool
is_number most text = nat_lt 0 (length text) && nat_le (length text) most && list_all is_digit text

-- the value of decimal digits
abbrev pub number_of : List ℕ → ℕ
number_of text = fold (λ n c. 10 * n + (c - 48)) 0 text

-- the characters before the first `c`, and those after it
abbrev pub before : ℕ → List ℕ → List ℕ
before c text = before_first (λ x. x == c) text

abbrev pub after : ℕ → List ℕ → List ℕ
after c text = after_first (λ x. x == c) text

-- the prefix of four numbers and a length, or the first fault: another shape, a number over 255, a
-- length over 32
abbrev pub prefix_of_parts : (a b c d size : List ℕ) → Result Prefix PrefixFault
prefix_of_parts a b c d size =
    if is_number 3 a && is_number 3 b && is_number 3 c && is_number 3 d && is_number 2 size then
    (if nat_lt 255 (number_of a) || nat_lt 255 (number_of b) || nat_lt 255 (number_of c) || nat_lt 255 (number_of d) then Err Part
    else if nat_lt 32 (number_of size) then Err Length
    else Ok (record { addr = record { 0 = 16777216 * number_of a + 65536 * number_of b + 256 * number_of c + number_of d }; len = number_of size }))
    else Err Shape

-- the prefix of a text: its numbers end at the first three dots (46) and at the first slash (47)
-- after them, and the rest is its length
abbrev pub prefix_of : List ℕ → Result Prefix PrefixFault
prefix_of text =
    let second = after 46 text in
    let third = after 46 second in
    let fourth = after 46 third in
    prefix_of_parts (before 46 text) (before 46 second) (before 46 third) (before 47 fourth) (after 47 fourth)
