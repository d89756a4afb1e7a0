-- The options of an interface: as a list, and as they are read one by one.
use Rattle.std.proofs.Common.{◌≡◌, ℕ, zero, suc, ◌<◌, ◌≤◌, ◌==◌, ap₂, Bool, true, false, List, [], ◌∷◌, length, drop, Some, None, refl, sym, ap, ◌∙◌, arith, inl, inr, option_map, length-drop, ◌+◌, min, ◌++◌, take, Ok, Err, take-append-drop, append_assoc, Option, Result}
use Rattle.std.proofs.lemmas.Bool.{cases_lt, cases_Bool, eqb-true}
use Rattle.std.proofs.lemmas.Bool.Decides.{nat_tests}
use Rattle.std.proofs.lemmas.List.{length-append, length-take-le, take_at, drop_at, take-append-le}
use Rattle.std.proofs.KnownBytes.{Consumes-trans, Consumes-nil}
use Rattle.std.specs.Io.KnownBytes.{Consumes}
use Rattle.pcap_file.specs.declared.record.Order.{Order}
use Rattle.pcap_file.specs.FileNumbers.{u16_at}
use Rattle.pcap_file.proofs.Records.{u16_at_front}
use Rattle.pcapng_file.specs.declared.interface.Interface.{Interface}
use Rattle.pcapng_file.specs.declared.interface.Seen.{Seen}
use Rattle.pcapng_file.specs.InterfaceOptions.{Entry, options_in, options_of, option_size, entry_at, is_end, is_named, nano_of, with_unit, described, padded}
use Rattle.pcapng_file.specs.working.OptionFacts.{seen_behind, described_by, nano_first, named_first, named_by, nano_by}
use Rattle.pcapng_file.specs.declared.fault.NgFault.{NgFault}
use Rattle.pcapng_file.specs.working.PartReading.{Short, TakesCount, TakesOptions, Passes, ReadsValue}
use Rattle.pcapng_file.proofs.BlockReads.{short_behind}

-- The options of an area, one by one.

-- if the options do not end here, at least four octets are left
not_end : (order : Order) (area : List ℕ) → is_end order area ≡ false → 4 ≤ length area
not_end order area e = grind (arith, nat_tests)

ends : (most : ℕ) (order : Order) (area : List ℕ) → is_end order area ≡ true → options_in most order area ≡ Some []
unfolding options_in
ends zero order area e = refl
ends (suc most) order area e = rw e refl

too_long : (most : ℕ) (order : Order) (area : List ℕ) → is_end order area ≡ false → length area < option_size order area → options_in (suc most) order area ≡ None
unfolding options_in
too_long most order area e short = rw e (grind (arith, nat_tests))

goes_on : (most : ℕ) (order : Order) (area : List ℕ) → is_end order area ≡ false → option_size order area ≤ length area
    → options_in (suc most) order area ≡ option_map (λ entries. entry_at order area ∷ entries) (options_in most order (drop (option_size order area) area))
unfolding options_in
goes_on most order area e fits = rw e (grind (arith, nat_tests))

-- with at least as many steps as octets, the number of steps does not matter
enough : (m n : ℕ) (order : Order) (area : List ℕ) → length area ≤ m → length area ≤ n → options_in m order area ≡ options_in n order area
enough m n order area p q = elim (cases_Bool (is_end order area)) [
  | inl e ↦ ends m order area e ∙ sym (ends n order area e)
  | inr e ↦ more m n order area p q e (not_end order area e)
] where
  more : (m n : ℕ) (order : Order) (area : List ℕ) → length area ≤ m → length area ≤ n → is_end order area ≡ false → 4 ≤ length area → options_in m order area ≡ options_in n order area
  more zero n order area p q e four = absurd (omega arith)
  more (suc m) zero order area p q e four = absurd (omega arith)
  more (suc m) (suc n) order area p q e four = elim (cases_lt (length area) (option_size order area)) [
    | inl short ↦ too_long m order area e short ∙ sym (too_long n order area e short)
    | inr fits ↦ goes_on m order area e fits ∙ ap (option_map (λ entries. entry_at order area ∷ entries))
        (elim (cases_Bool (is_end order (drop (option_size order area) area))) [
          | inl f ↦ ends m order _ f ∙ sym (ends n order _ f)
          | inr f ↦ more m n order (drop (option_size order area) area) (omega (arith, length-drop (option_size order area) area)) (omega (arith, length-drop (option_size order area) area)) f (not_end order _ f)
        ]) ∙ sym (goes_on n order area e fits)
  ]

pub no_option : (order : Order) (area : List ℕ) → is_end order area ≡ true → options_of order area ≡ Some []
no_option order area e = ends (length area) order area e

pub past_area : (order : Order) (area : List ℕ) → is_end order area ≡ false → length area < option_size order area → options_of order area ≡ None
past_area order area e short =
    enough (length area) (suc (length area)) order area (omega arith) (omega arith) ∙ too_long (length area) order area e short

pub one_option : (order : Order) (area : List ℕ) → is_end order area ≡ false → option_size order area ≤ length area
    → options_of order area ≡ option_map (λ entries. entry_at order area ∷ entries) (options_of order (drop (option_size order area) area))
one_option order area e fits =
    let rest = drop (option_size order area) area in
    let shorter : length rest ≤ length area = omega (arith, length-drop (option_size order area) area) in
    enough (length area) (suc (length area)) order area (omega arith) (omega arith) ∙ goes_on (length area) order area e fits
    ∙ ap (option_map (λ entries. entry_at order area ∷ entries)) (enough (length area) (length rest) order rest shorter (omega arith))

-- the interface described by the facts read so far and the options not yet read; None if either is
-- malformed
abbrev pub result_by : (inside : Option (List ℕ)) → (snap : ℕ) → Option Seen → Option (List Entry) → Option Interface
result_by inside snap None options = None
result_by inside snap (Some seen) options = described_by inside snap seen options

name_first : (inside : Option (List ℕ)) (named : Option Bool) (entry : Entry) (entries : List Entry) → (entry.code == 2) ≡ true
    → named_by inside named (entry ∷ entries) ≡ named_by inside (named_first named (is_named inside (Some entry.value))) entries
name_first inside (Some n) entry entries e = refl
name_first inside None entry entries e = rw e refl

name_later : (inside : Option (List ℕ)) (named : Option Bool) (entry : Entry) (entries : List Entry) → (entry.code == 2) ≡ false
    → named_by inside named (entry ∷ entries) ≡ named_by inside named entries
name_later inside (Some n) entry entries e = refl
name_later inside None entry entries e = rw e refl

unit_later : (nano : Option Bool) (entry : Entry) (entries : List Entry) → (entry.code == 9) ≡ false → nano_by nano (entry ∷ entries) ≡ nano_by nano entries
unit_later (Some n) entry entries e = refl
unit_later None entry entries e = rw e refl

-- an option for the unit of time
unit_first : (inside : Option (List ℕ)) (snap : ℕ) (seen : Seen) (nano told : Option Bool) (entries : List Entry) → seen.nano ≡ nano
    → with_unit snap (named_by inside seen.named entries) (elim nano [ None ↦ told | Some n ↦ Some n ]) ≡ result_by inside snap (nano_first seen nano told) (Some entries)
unit_first inside snap seen (Some n) told entries e = rw e refl
unit_first inside snap seen None (Some n) entries e = refl
unit_first inside snap seen None None entries e = refl

nothing_more : (inside : Option (List ℕ)) (snap : ℕ) (seen : Option Seen) → result_by inside snap seen None ≡ None
nothing_more inside snap None = refl
nothing_more inside snap (Some seen) = refl

-- an option before the others is read first
pub seen_first : (inside : Option (List ℕ)) (snap : ℕ) (seen : Seen) (entry : Entry) (options : Option (List Entry))
    → described_by inside snap seen (option_map (λ entries. entry ∷ entries) options) ≡ result_by inside snap (seen_behind inside seen entry) options
seen_first inside snap seen entry None = sym (nothing_more inside snap (seen_behind inside seen entry))
seen_first inside snap seen entry (Some entries) = elim (cases_Bool (entry.code == 2)) [
  | inl two ↦
      let nine : (entry.code == 9) ≡ false = rw (eqb-true entry.code 2 two) refl in
      let seen_is : seen_behind inside seen entry ≡ Some (record seen { named = named_first seen.named (is_named inside (Some entry.value)) }) = rw two refl in
      ap₂ (with_unit snap) (name_first inside seen.named entry entries two) (unit_later seen.nano entry entries nine)
      ∙ sym (ap (λ o. result_by inside snap o (Some entries)) seen_is)
  | inr other ↦ elim (cases_Bool (entry.code == 9)) [
    | inl nine ↦
        let seen_is : seen_behind inside seen entry ≡ nano_first seen seen.nano (nano_of (Some entry.value)) = rw (other, nine) refl in
        ap₂ (with_unit snap) (name_later inside seen.named entry entries other) (unit_is seen.nano nine)
        ∙ unit_first inside snap seen seen.nano (nano_of (Some entry.value)) entries refl
        ∙ sym (ap (λ o. result_by inside snap o (Some entries)) seen_is)
    | inr ten ↦
        let seen_is : seen_behind inside seen entry ≡ Some seen = rw (other, ten) refl in
        ap₂ (with_unit snap) (name_later inside seen.named entry entries other) (unit_later seen.nano entry entries ten)
        ∙ sym (ap (λ o. result_by inside snap o (Some entries)) seen_is)
  ]
] where
  unit_is : (nano : Option Bool) → (entry.code == 9) ≡ true → nano_by nano (entry ∷ entries) ≡ elim nano [ None ↦ nano_of (Some entry.value) | Some n ↦ Some n ]
  unit_is (Some n) e = refl
  unit_is None e = rw e refl

-- before the first option
abbrev pub nothing_seen : Seen
nothing_seen = record { named = None; nano = None }

-- before the first option, the interface is the one that all options describe
pub all_options : (inside : Option (List ℕ)) (snap : ℕ) (options : Option (List Entry)) → described inside snap options ≡ described_by inside snap nothing_seen options
all_options inside snap None = refl
all_options inside snap (Some entries) = refl

-- The options of an interface, read one by one.

short_area : (order : Order) (area : List ℕ) → length area < 4 → options_of order area ≡ Some []
short_area order area few = no_option order area (grind (arith, nat_tests))

-- the code and the length in the first four octets of an option
module _ (order : Order) (h : List ℕ) (four : length h ≡ 4) where
  code_is : (rest : List ℕ) → u16_at order (h ++ rest) 0 ≡ u16_at order h 0
  code_is rest = u16_at_front order h rest 0 (omega arith)

  size_is : (rest : List ℕ) → u16_at order (h ++ rest) 2 ≡ u16_at order h 2
  size_is rest = u16_at_front order h rest 2 (omega arith)

  long_enough : (rest : List ℕ) → length (h ++ rest) ≡ 4 + length rest
  long_enough rest = omega (arith, length-append h rest)

  pub last_option : (rest : List ℕ) → u16_at order h 0 ≡ 0 → options_of order (h ++ rest) ≡ Some []
  last_option rest e =
      let code : u16_at order (h ++ rest) 0 ≡ 0 = code_is rest ∙ e in
      no_option order (h ++ rest) (grind (arith, nat_tests))

  goes : (rest : List ℕ) → 0 < u16_at order h 0 → is_end order (h ++ rest) ≡ false
  goes rest some =
      let code : 0 < u16_at order (h ++ rest) 0 = omega (arith, code_is rest) in
      let size = long_enough rest in
      grind (arith, nat_tests)

  pub option_past : (rest : List ℕ) → 0 < u16_at order h 0 → length rest < padded (u16_at order h 2) → options_of order (h ++ rest) ≡ None
  option_past rest some short =
      let size : option_size order (h ++ rest) ≡ 4 + padded (u16_at order h 2) = ap (λ n. 4 + padded n) (size_is rest) in
      past_area order (h ++ rest) (goes rest some) (omega (arith, long_enough rest, size))

  pub option_read : (inside : Option (List ℕ)) (snap : ℕ) (seen : Seen) (v rest : List ℕ) → 0 < u16_at order h 0 → length v ≡ padded (u16_at order h 2)
      → described_by inside snap seen (options_of order (h ++ (v ++ rest)))
      ≡ result_by inside snap (seen_behind inside seen (record { code = u16_at order h 0; value = take (u16_at order h 2) v })) (options_of order rest)
  option_read inside snap seen v rest some whole =
      let area = h ++ (v ++ rest) in
      let size : option_size order area ≡ 4 + padded (u16_at order h 2) = ap (λ n. 4 + padded n) (size_is (v ++ rest)) in
      let behind : drop (option_size order area) area ≡ rest =
      ap (λ n. drop n area) size ∙ ap (drop (4 + padded (u16_at order h 2))) (sym (append_assoc h v rest))
      ∙ drop_at (h ++ v) rest (4 + padded (u16_at order h 2)) (omega (arith, length-append h v)) in
      let value : take (u16_at order area 2) (drop 4 area) ≡ take (u16_at order h 2) v =
      ap (λ n. take n (drop 4 area)) (size_is (v ++ rest)) ∙ ap (take (u16_at order h 2)) (drop_at h (v ++ rest) 4 four)
      ∙ take-append-le (u16_at order h 2) v rest (omega arith) in
      let entry : entry_at order area ≡ record { code = u16_at order h 0; value = take (u16_at order h 2) v } = rw (code_is (v ++ rest), value) refl in
      ap (described_by inside snap seen) (one_option order area (goes (v ++ rest) some) (omega (arith, size, long_enough (v ++ rest), length-append v rest)))
      ∙ ap (λ l. described_by inside snap seen (option_map (λ entries. entry_at order area ∷ entries) (options_of order l))) behind
      ∙ ap (λ (e : Entry). described_by inside snap seen (option_map (λ entries. e ∷ entries) (options_of order rest))) entry
      ∙ seen_first inside snap seen (record { code = u16_at order h 0; value = take (u16_at order h 2) v }) (options_of order rest)

-- the options so far were taken, and `seen` are their facts
pub record SeesOptions (a b : Option (List ℕ)) (order : Order) (inside : Option (List ℕ)) (snap room left : ℕ) (seen : Seen) : Type 0 where
  pub octets : List ℕ
  pub taken : Consumes a b octets
  pub size : length octets + left ≡ room
  pub says : (rest : List ℕ) → length rest ≡ left → described inside snap (options_of order (octets ++ rest)) ≡ described_by inside snap seen (options_of order rest)

pub sees_nothing : (a : Option (List ℕ)) (order : Order) (inside : Option (List ℕ)) (snap room : ℕ) → SeesOptions a a order inside snap room room nothing_seen
sees_nothing a order inside snap room = record {
  octets = [];
  taken = Consumes-nil a;
  size = omega arith;
  says = λ rest size. all_options inside snap (options_of order rest);
}

module _ (order : Order) (inside : Option (List ℕ)) (snap room : ℕ) where
  pub short_options : (a b c : Option (List ℕ)) (left few : ℕ) (seen : Seen) (fault : NgFault) → SeesOptions a b order inside snap room left seen → Short b c few fault → few ≤ left → Short a c room fault
  short_options a b c left few seen fault p q fits = short_behind a b c p.octets few room fault p.taken q (omega (arith, p.size))

  -- the source ends or fails after the first four octets of an option
  pub short_option : (a b c d : Option (List ℕ)) (h : List ℕ) (left few : ℕ) (seen : Seen) (fault : NgFault) → SeesOptions a b order inside snap room left seen → Consumes b c h → Short c d few fault
      → length h + few ≤ left → Short a d room fault
  short_option a b c d h left few seen fault p q r fits =
      short_options a b d left (length h + few) seen fault p (short_behind b c d h few (length h + few) fault q r (omega arith)) fits

  -- fewer than four octets are left
  pub sees_all : (a b c : Option (List ℕ)) (left : ℕ) (seen : Seen) (interface : Interface) → SeesOptions a b order inside snap room left seen → left < 4 → TakesCount b c left
      → Some interface ≡ described_by inside snap seen (Some []) → TakesOptions a c order inside snap room (Some interface)
  sees_all a b c left seen interface p few q is = record {
    octets = p.octets ++ q.octets;
    taken = Consumes-trans a b c p.octets q.octets p.taken q.taken;
    size = omega (arith, length-append p.octets q.octets, p.size, q.size);
    says = is ∙ sym (p.says q.octets q.size ∙ ap (described_by inside snap seen) (short_area order q.octets (omega (arith, q.size))));
  }

  -- four octets end the options
  pub sees_end : (a b c d : Option (List ℕ)) (h : List ℕ) (left rest : ℕ) (seen : Seen) (interface : Interface) → SeesOptions a b order inside snap room left seen → length h ≡ 4 → Consumes b c h
      → TakesCount c d rest → left ≡ 4 + rest → u16_at order h 0 ≡ 0 → Some interface ≡ described_by inside snap seen (Some []) → TakesOptions a d order inside snap room (Some interface)
  sees_end a b c d h left rest seen interface p four q r e code is = record {
    octets = p.octets ++ (h ++ r.octets);
    taken = Consumes-trans a b d p.octets (h ++ r.octets) p.taken (Consumes-trans b c d h r.octets q r.taken);
    size = omega (arith, length-append p.octets (h ++ r.octets), length-append h r.octets, p.size, r.size);
    says = is ∙ sym (p.says (h ++ r.octets) (omega (arith, length-append h r.octets, r.size)) ∙ ap (described_by inside snap seen) (last_option order h four r.octets code));
  }

  -- an option reaches past the area
  pub sees_past : (a b c d : Option (List ℕ)) (h : List ℕ) (left rest code size : ℕ) (seen : Seen) → SeesOptions a b order inside snap room left seen → length h ≡ 4 → Consumes b c h
      → TakesCount c d rest → left ≡ 4 + rest → code ≡ u16_at order h 0 → size ≡ u16_at order h 2 → 0 < code → rest < padded size → TakesOptions a d order inside snap room None
  sees_past a b c d h left rest code size seen p four q r e code_is size_is some short = record {
    octets = p.octets ++ (h ++ r.octets);
    taken = Consumes-trans a b d p.octets (h ++ r.octets) p.taken (Consumes-trans b c d h r.octets q r.taken);
    size = omega (arith, length-append p.octets (h ++ r.octets), length-append h r.octets, p.size, r.size);
    says = sym (p.says (h ++ r.octets) (omega (arith, length-append h r.octets, r.size)) ∙ ap (described_by inside snap seen) (option_past order h four r.octets (omega arith)
        (omega (arith, r.size, ap padded size_is))));
  }

  -- one more option was read
  module _ (a b c d : Option (List ℕ)) (h v : List ℕ) (left code size : ℕ) (seen : Seen) (p : SeesOptions a b order inside snap room left seen) (four : length h ≡ 4) (q : Consumes b c h)
      (r : Consumes c d v) (code_is : code ≡ u16_at order h 0) (size_is : size ≡ u16_at order h 2) (some : 0 < code) (whole : length v ≡ padded size) where
    joined : (rest : List ℕ) → (p.octets ++ (h ++ v)) ++ rest ≡ p.octets ++ (h ++ (v ++ rest))
    joined rest = append_assoc p.octets (h ++ v) rest ∙ ap (λ l. p.octets ++ l) (append_assoc h v rest)

    told : (rest : List ℕ) → length h + length v + length rest ≡ left
        → described inside snap (options_of order ((p.octets ++ (h ++ v)) ++ rest))
        ≡ result_by inside snap (seen_behind inside seen (record { code = code; value = take size v })) (options_of order rest)
    told rest e =
        ap (λ l. described inside snap (options_of order l)) (joined rest)
        ∙ p.says (h ++ (v ++ rest)) (omega (arith, length-append h (v ++ rest), length-append v rest))
        ∙ option_read order h four inside snap seen v rest (omega arith) (whole ∙ ap padded size_is)
        ∙ sym (ap₂ (λ c s. result_by inside snap (seen_behind inside seen (record { code = c; value = take s v })) (options_of order rest)) code_is size_is)

    pub sees_more : (more : Seen) (rest : ℕ) → left ≡ 4 + padded size + rest → Some more ≡ seen_behind inside seen (record { code = code; value = take size v })
        → SeesOptions a d order inside snap room rest more
    sees_more more rest e is = record {
      octets = p.octets ++ (h ++ v);
      taken = Consumes-trans a b d p.octets (h ++ v) p.taken (Consumes-trans b c d h v q r);
      size = omega (arith, length-append p.octets (h ++ v), length-append h v, p.size);
      says = λ tail size. told tail (omega arith) ∙ sym (ap (λ o. result_by inside snap o (options_of order tail)) is);
    }

    pub sees_wrong : (f : Option (List ℕ)) (rest : ℕ) → left ≡ 4 + padded size + rest → None ≡ seen_behind inside seen (record { code = code; value = take size v })
        → TakesCount d f rest → TakesOptions a f order inside snap room None
    sees_wrong f rest e is t = record {
      octets = (p.octets ++ (h ++ v)) ++ t.octets;
      taken = Consumes-trans a d f (p.octets ++ (h ++ v)) t.octets (Consumes-trans a b d p.octets (h ++ v) p.taken (Consumes-trans b c d h v q r)) t.taken;
      size = omega (arith, length-append (p.octets ++ (h ++ v)) t.octets, length-append p.octets (h ++ v), length-append h v, p.size, t.size);
      says = sym (told t.octets (omega (arith, t.size)) ∙ sym (ap (λ o. result_by inside snap o (options_of order t.octets)) is));
    }

-- the first octets of a value were kept
pub value_kept : (size : ℕ) (kept v : List ℕ) → length v ≡ padded size → take (min size 64) kept ≡ take (min size 64) v
    → (length (take size v) ≡ size) × (take (min size 64) kept ≡ take (min size 64) (take size v))
value_kept size kept v whole first =
    let long : length (take size v) ≡ size = length-take-le size v (omega arith) in (
      long,
      first ∙ ap (take (min size 64)) (sym (take-append-drop size v)) ∙ take-append-le (min size 64) (take size v) (drop size v) (omega arith),
    )

-- a value was read in two parts
pub value_read : {T : Type 0} (a b c : Option (List ℕ)) (h post : List ℕ) (size n : ℕ) (result : Result T NgFault) → Consumes a b h → Passes b c n result → length h ≡ min size 64
    → min size 64 + n ≡ padded size → ReadsValue a c size result (h ++ post)
value_read a b c h post size n (Ok done) p q long e = record {
  octets = h ++ q.octets;
  taken = Consumes-trans a b c h q.octets p q.taken;
  whole = omega (arith, length-append h q.octets, q.size);
  first = take_at h post (min size 64) long ∙ sym (take_at h q.octets (min size 64) long);
}
value_read a b c h post size n (Err fault) p q long e = short_behind a b c h n (padded size) fault p q (omega arith)
