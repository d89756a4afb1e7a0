-- Lists of options, which IP and TCP encode alike (RFC 791 section 3.1, RFC 9293 section 3.1). Kind
-- 0 ends the list, kind 1 is a no-operation of one octet, and every other option has a length octet
-- that counts the whole option.
use Rattle.std.specs.Prelude.{ℕ, zero, suc, ◌-◌, ◌==◌, ◌&&◌, ◌||◌, nat_le, nat_lt, not, min, Bool, true, false, List, [], ◌∷◌, ◌++◌, length, take, replicate, slice_index, Option, option_map, if◌then◌else◌}
use Rattle.std.specs.List.{find, flat_map, list_all, list_any}
use Rattle.wire_base.specs.declared.limits.TheConstants.{MAX_SHIFT}

-- an option: its kind, its octets as far as the area has them, the kind first, and its offset in
-- the area
pub record Listed : Type 0 where
  pub kind : ℕ
  pub octets : List ℕ
  pub place : ℕ

-- the options of an area in their order, and the octets from the end option on
pub record OptionList : Type 0 where
  pub options : List Listed
  pub behind : List ℕ

-- a list with one more option before the others
abbrev pub with_first : Listed → OptionList → OptionList
with_first option list = record { options = option ∷ list.options; behind = list.behind }

-- the number of octets of an option after its kind: 0 for a no-operation, else one less than its
-- length octet, which is the first of these octets
abbrev pub more_octets : (kind : ℕ) → List ℕ → ℕ
more_octets kind octets = if kind == 1 then 0 else slice_index octets 0 - 1

-- the options from the offset `place` on, in one walk over the octets; `left` is the number of
-- octets that still belong to the option before
abbrev pub options_from : (place left : ℕ) → List ℕ → OptionList
options_from place left [] = record { options = []; behind = [] }
options_from place (suc left) (x ∷ octets) = options_from (suc place) left octets
options_from place zero (kind ∷ octets) =
    elim (kind == 0) [
      | true ↦ record { options = []; behind = kind ∷ octets }
      | false ↦ with_first (record { kind = kind; octets = kind ∷ take (more_octets kind octets) octets; place = place }) (options_from (suc place) (more_octets kind octets) octets)
    ]

-- the options of an area
abbrev pub options_of : List ℕ → OptionList
options_of area = options_from 0 0 area

-- the offset of the end option, or the area's length if there is none
abbrev pub end_of : List ℕ → ℕ
end_of area = length area - length (options_of area).behind

-- the length octet of an option, the second of its octets; 0 if it is below 2 or missing
abbrev pub size_of : Listed → ℕ
size_of option = slice_index option.octets 1

-- a no-operation, or an option whose length octet is at least 2 and the number of its octets
abbrev pub is_whole : Listed → Bool
is_whole option = (option.kind == 1) || (nat_le 2 (size_of option) && (length option.octets == size_of option))

-- before the end option or the end of the area every option has a length octet of at least 2 and
-- lies inside the area
abbrev pub are_well_formed : List ℕ → Bool
are_well_formed area = list_all is_whole (options_of area).options

-- a source route, loose or strict (RFC 791 section 3.1)
abbrev pub is_route : (kind : ℕ) → Bool
is_route kind = (kind == 131) || (kind == 137)

-- the area has a source route before the end option
abbrev pub has_route : List ℕ → Bool
has_route area = list_any (λ option. is_route option.kind) (options_of area).options

-- a window scale option of length 3 (RFC 7323 section 2)
abbrev pub is_scale : Listed → Bool
is_scale option = (option.kind == 3) && (size_of option == 3)

-- its shift count, limited to 14 (RFC 7323 section 2.3)
abbrev pub shift_of : Listed → ℕ
shift_of option = min MAX_SHIFT (slice_index option.octets 2)

-- the shift count of the first window scale option before the end option
abbrev pub scale_of : List ℕ → Option ℕ
scale_of area = option_map shift_of (find is_scale (options_of area).options)

-- A TCP option of this kind and length may be kept (RFC 9293 section 3.2, RFC 7323, RFC 2018; the
-- choice is this project's profile). On a SYN: maximum segment size, window scale and SACK
-- permitted. On every segment: SACK of one to four blocks, and timestamps.
abbrev pub may_be_kept : (syn : Bool) (kind size : ℕ) → Bool
may_be_kept syn kind size =
    (syn && (((kind == 2) && (size == 4)) || ((kind == 3) && (size == 3)) || ((kind == 4) && (size == 2))))
    || ((kind == 5) && ((size == 10) || (size == 18) || (size == 26) || (size == 34)))
    || ((kind == 8) && (size == 10))

-- an option that may be kept
abbrev pub may_stay : (syn : Bool) → Listed → Bool
may_stay syn option = may_be_kept syn option.kind (size_of option)

-- an option of the list is kept: it may be kept, and no earlier option of its kind may be kept
abbrev pub is_kept : (syn : Bool) → List Listed → Listed → Bool
is_kept syn options option = may_stay syn option && not (list_any (λ other. nat_lt other.place option.place && ((other.kind == option.kind) && may_stay syn other)) options)

-- the cleaned octets of an option of the list: its own if it is kept, else a no-operation for each
abbrev pub cleaned_option : (syn : Bool) → List Listed → Listed → List ℕ
cleaned_option syn options option = if is_kept syn options option then option.octets else replicate (length option.octets) 1

-- the cleaned area: the cleaned octets of each option, and 0 for each octet from the end option on
abbrev pub cleaned_list : (syn : Bool) → OptionList → List ℕ
cleaned_list syn list = flat_map (cleaned_option syn list.options) list.options ++ replicate (length list.behind) 0

abbrev pub cleaned : (syn : Bool) → List ℕ → List ℕ
cleaned syn area = cleaned_list syn (options_of area)
