-- A complete datagram is made of its fragments, and is sized if they are.
use Rattle.std.proofs.Common.{◌^◌, ◌≡◌, ℕ, ◌<◌, ◌≤◌, ◌==◌, not, Bool, true, false, cond, List, [], ◌∷◌, length, Option, Some, None, refl, sym, ◌∙◌, arith, ◌+◌, ◌-◌, ◌||◌, ◌&&◌, map, take, drop, is_some, ap, ap₂, subst, zero, suc, is_none, nat_lt, nat_le, slice_get, slice_index, ext_get_or, get_or-drop, get_or-take, length-drop, length-take-le}
use Rattle.std.specs.List.{AllByRecursion, filter, list_any, range_with_len}
use Rattle.std.specs.Option.{option_or, unwrap_or}
use Rattle.std.proofs.lemmas.Bool.Decides.{nat_tests}
use Rattle.std.proofs.lemmas.Bool.{or_right}
use Rattle.std.proofs.lemmas.Option.{slice_get-get_or, unwrap_or-slice_get}
use Rattle.std.proofs.lemmas.List.FromFn.{get_or-map-range_with_len, length-map-range_with_len}
use Rattle.rule_book.specs.declared.rule.Rule.{Rule}
use Rattle.linked_table.proofs.Lists.{all_weaker}
use Rattle.retain_store.specs.Maps.{octet_in}
use Rattle.norm_settings.specs.SettingValues.{PlainSettings}
use Rattle.retain_store.proofs.Counts.{each}
use Rattle.reassembly.specs.declared.id.DatagramId.{DatagramId}
use Rattle.reassembly.specs.Calls.{Answer, held, done, dropped, Gathered, after, with_piece, of_others, pieces_in, is_id, forgets, Call, expiry, offer, gathered, is_old}
use Rattle.reassembly.specs.DatagramFragments.{StandsIn, reaches, Fragment, end_of, is_whole, front_of, octet_of, total_of, reach, is_filled, datagram_octets, IsMadeOf, whole_with}
use Rattle.reassembly.specs.RuleRows.{dropped_by, View, f_df, f_empty, f_end, f_clash, f_many, f_room, first_row, own_rows, answer_by, answer_at, view_of, AreAnswered}
use Rattle.reassembly.specs.declared.piece.Front.{Front}
use Rattle.reassembly.specs.CallLaws.{WholeIsItsPieces, IsSized, AreSized, IsSizedWhole, WholesAreSized}
use Rattle.reassembly.proofs.Order.{all_filter}
use Rattle.reassembly.proofs.Pieces.{not_big, clash_none, in_piece, ends_more, none_not}

-- What holds for a fragment that no rule drops, and so for the fragments of each datagram that is
-- held.

-- a fragment that no rule drops contradicts nothing, is no longer than a datagram may be, and has
-- enough free cells
pub record FitsIn (v : View) (p : Fragment) : Type 0 where
  pub end : f_end v.pieces p ≡ false
  pub octets : f_clash v.pieces p ≡ false
  pub some : 0 < length p.octets
  pub short : end_of p ≤ 65515
  pub many : f_many v ≡ false
  pub room : f_room v p ≡ false

first_none : (b : Bool) (r : Rule) (rest : Option Rule) → cond b (Some r) rest ≡ None → (b ≡ false) × (rest ≡ None)
first_none true r rest e = cc
first_none false r rest e = (refl, e)

both_none : (a b : Option Rule) → option_or a b ≡ None → (a ≡ None) × (b ≡ None)
both_none None b e = (refl, e)
both_none (Some r) b e = cc

pub fits_in : (v : View) (p : Fragment) → dropped_by v p ≡ None → FitsIn v p
fits_in v p none =
    let halves = both_none (first_row (own_rows p)) _ none in
    let empty : (length p.octets == 0) ≡ false = (first_none (f_empty p) _ _ (first_none (f_df p) _ _ halves.0).1).0 in
    let end = first_none (f_end v.pieces p) _ _ halves.1 in
    let clash = first_none (f_clash v.pieces p) _ _ end.1 in
    let many = first_none (f_many v) _ _ clash.1 in
    let room = first_none (f_room v p) _ _ many.1 in
    record { end = end.0; octets = clash.0; some = grind (arith, empty); short = not_big p halves.0; many = many.0; room = room.0 }

not_dropped : (r : Option Rule) (whole : Bool) (a : Answer) → answer_by r whole ≡ a → ((rule : Rule) → dropped rule ≡ a → ⊥) → r ≡ None
not_dropped None whole a e no_way = refl
not_dropped (Some rule) whole a e no_way = absurd (no_way rule e)

pub held_not_dropped : (v : View) (p : Fragment) (answer : Answer) → answer ≡ answer_at v p → answer ≡ held → dropped_by v p ≡ None
held_not_dropped v p answer as_said is = not_dropped (dropped_by v p) (is_whole (p ∷ v.pieces)) held (sym as_said ∙ is) (λ rule e. cc)

pub done_not_dropped : (v : View) (p : Fragment) → answer_at v p ≡ done → dropped_by v p ≡ None
done_not_dropped v p is = not_dropped (dropped_by v p) (is_whole (p ∷ v.pieces)) done is (λ rule e. cc)

-- of the fragments of each datagram
abbrev pub EachHolds : (List Fragment → Type 0) → List Gathered → Type 0
EachHolds Q gs = AllByRecursion (λ g. Q g.pieces) gs

pub each_in : (Q : List Fragment → Type 0) (gs : List Gathered) (id : DatagramId) → Q [] → EachHolds Q gs → Q (pieces_in gs id)
each_in Q [] id none all = none
each_in Q (g ∷ gs) id none all = by_test (is_id g.id id) (each_in Q gs id none all.1)
  where
    by_test : (b : Bool) → Q (pieces_in gs id) → Q (cond b g.pieces (pieces_in gs id))
    by_test true rest = all.0
    by_test false rest = rest

each_with : (Q : List Fragment → Type 0) (now : ℕ) (p : Fragment) (gs : List Gathered) → Q (p ∷ pieces_in gs p.id) → EachHolds Q gs → EachHolds Q (with_piece now p gs)
each_with Q now p [] more all = (more, tt)
each_with Q now p (g ∷ gs) more all = by_test (is_id g.id p.id) more (each_with Q now p gs)
  where
    by_test : (b : Bool) → Q (p ∷ cond b g.pieces (pieces_in gs p.id)) → (Q (p ∷ pieces_in gs p.id) → EachHolds Q gs → EachHolds Q (with_piece now p gs))
        → EachHolds Q (cond b (record g { pieces = p ∷ g.pieces } ∷ gs) (g ∷ with_piece now p gs))
    by_test true here rest = (here, all.1)
    by_test false here rest = (all.0, rest here all.1)

pub each_filter : (Q : List Fragment → Type 0) (q : Gathered → Bool) (gs : List Gathered) → EachHolds Q gs → EachHolds Q (filter q gs)
each_filter Q q gs all = all_filter (λ (g : Gathered). Q g.pieces) q gs all

pub each_after : (Q : List Fragment → Type 0) (now : ℕ) (p : Fragment) (answer : Answer) (gs : List Gathered) → Q []
    → (answer ≡ held → Q (pieces_in gs p.id) → Q (p ∷ pieces_in gs p.id)) → EachHolds Q gs → EachHolds Q (after now p answer gs)
each_after Q now p held gs none more all = each_with Q now p gs (more refl (each_in Q gs p.id none all)) all
each_after Q now p done gs none more all = each_filter Q (λ (g : Gathered). not (is_id g.id p.id)) gs all
each_after Q now p (dropped rule) gs none more all = by_rule (forgets rule)
  where
    by_rule : (b : Bool) → EachHolds Q (cond b (of_others p.id gs) gs)
    by_rule true = each_filter Q (λ (g : Gathered). not (is_id g.id p.id)) gs all
    by_rule false = all

-- A complete datagram is made of its fragments.

in_place : (from : ℕ) (xs : List ℕ) (i : ℕ) → i < length xs → octet_in from xs (from + i) ≡ Some (slice_index xs i)
in_place from xs i lt =
    let test : nat_lt (from + i) from ≡ false = grind (arith, nat_tests) in
    let place : from + i - from ≡ i = omega arith in
    ap (λ b. cond b None (slice_get xs (from + i - from))) test ∙ (ap (slice_get xs) place ∙ slice_get-get_or xs i 0 lt)

same_or : (a b : Option ℕ) (x : ℕ) → unwrap_or a x ≡ x → b ≡ Some x → option_or a b ≡ Some x
same_or None b x same is = is
same_or (Some y) b x same is = ap Some same

stays : (a b : Option ℕ) (x : ℕ) → a ≡ Some x → option_or a b ≡ Some x
stays a b x is = ap (λ o. option_or o b) is

-- the octets of each fragment are at their offsets, the last fragment ends at the last octet, and
-- no fragment is empty
abbrev pub StandAt : List Fragment → Fragment → Type 0
StandAt ps q = (i : ℕ) → i < length q.octets → octet_of ps (q.offset + i) ≡ Some (slice_index q.octets i)

pub record AreSound (ps : List Fragment) : Type 0 where
  pub stand : AllByRecursion (StandAt ps) ps
  pub ends : (total : ℕ) → total_of ps ≡ Some total → reach ps ≡ total
  pub some : AllByRecursion (λ q. 0 < length q.octets) ps

none_sound : AreSound []
none_sound = record { stand = tt; ends = λ t e. cc; some = tt }

pub one_more : (ps : List Fragment) (p : Fragment) → f_end ps p ≡ false → f_clash ps p ≡ false → 0 < length p.octets → AreSound ps → AreSound (p ∷ ps)
one_more ps p fits none long sound =
    record {
      stand = (
        λ i lt. same_or (octet_of ps (p.offset + i)) (octet_in p.offset p.octets (p.offset + i)) (slice_index p.octets i)
            (clash_none ps p.offset p.octets none i lt) (in_place p.offset p.octets i lt),
        all_weaker (StandAt ps) (StandAt (p ∷ ps)) (λ q at i lt. stays (octet_of ps (q.offset + i)) (octet_in p.offset p.octets (q.offset + i)) (slice_index q.octets i) (at i lt)) ps sound.stand,
      );
      ends = ends_more (total_of ps) (reach ps) p sound.ends fits;
      some = (long, sound.some);
    }

all_sound : (settings : PlainSettings) (cs : List Call) → AreAnswered settings cs → EachHolds AreSound (gathered settings.frag_time cs)
all_sound settings [] answered = tt
all_sound settings (expiry now ∷ cs) answered = each_filter AreSound (λ (g : Gathered). not (is_old settings.frag_time now g)) (gathered settings.frag_time cs) (all_sound settings cs answered)
all_sound settings (offer now p answer ∷ cs) answered =
    let v = view_of settings cs p in
    each_after AreSound now p answer (gathered settings.frag_time cs) none_sound
    (λ is. let fits = fits_in v p (held_not_dropped v p answer answered.0 is) in one_more v.pieces p fits.end fits.octets fits.some)
    (all_sound settings cs answered.1)

-- a part of the values of a function over a range
part_of : (f : ℕ → ℕ) (total from : ℕ) (xs : List ℕ) → from + length xs ≤ total → ((i : ℕ) → i < length xs → f (from + i) ≡ slice_index xs i)
    → take (length xs) (drop from (map f (range_with_len 0 total))) ≡ xs
part_of f total from xs le is =
    let all = map f (range_with_len 0 total) in
    let long : length (take (length xs) (drop from all)) ≡ length xs = length-take-le (length xs) (drop from all) (omega (arith, length-drop from all, length-map-range_with_len f 0 total)) in
    ext_get_or 0 (take (length xs) (drop from all)) xs long (λ i lt.
    let inside : i < length xs = omega (arith, long) in
    get_or-take (length xs) (drop from all) i 0 inside ∙ (get_or-drop from all i 0 ∙ (get_or-map-range_with_len f 0 total (from + i) (from + i) 0 (omega arith) (omega arith) ∙ is i inside)))

within : (ps : List Fragment) → AllByRecursion (λ q. end_of q ≤ reach ps) ps
within [] = tt
within (p ∷ ps) = (omega arith, all_weaker (λ q. end_of q ≤ reach ps) (λ q. end_of q ≤ reach (p ∷ ps)) (λ q le. omega arith) ps (within ps))

both_of : (P Q : Fragment → Type 0) (ps : List Fragment) → AllByRecursion P ps → AllByRecursion Q ps → AllByRecursion (λ q. P q × Q q) ps
both_of P Q [] left right = tt
both_of P Q (p ∷ ps) left right = ((left.0, right.0), both_of P Q ps left.1 right.1)

of_some : (ps : List Fragment) (offset : ℕ) → is_some (octet_of ps offset) ≡ true → list_any (reaches offset) ps ≡ true
of_some [] offset some = cc
of_some (p ∷ ps) offset some = by_held (octet_of ps offset) (of_some ps offset) some
  where
    by_held : (o : Option ℕ) → (is_some o ≡ true → list_any (reaches offset) ps ≡ true) → is_some (option_or o (octet_in p.offset p.octets offset)) ≡ true
        → (reaches offset p || list_any (reaches offset) ps) ≡ true
    by_held (Some x) rest got = or_right (reaches offset p) _ (rest refl)
    by_held None rest got =
        let inside = in_piece p.offset p.octets offset got in
        let low : nat_le p.offset offset ≡ true = grind (arith, nat_tests, inside.0) in
        let high : nat_lt offset (end_of p) ≡ true = grind (arith, nat_tests, inside.1) in
        ap₂ (λ a b. (a && b) || list_any (reaches offset) ps) low high

made : (ps : List Fragment) → AreSound ps → is_whole ps ≡ true → IsMadeOf (datagram_octets ps) ps
made ps sound whole = by_total (total_of ps) refl
  where
    by_total : (t : Option ℕ) → total_of ps ≡ t → IsMadeOf (datagram_octets ps) ps
    by_total None e = let bad : false ≡ true = sym (ap (is_filled ps) e) ∙ whole in cc
    by_total (Some total) e =
        let f : ℕ → ℕ = λ o. unwrap_or (octet_of ps o) 0 in
        let at = sound.ends total e in
        let octets : datagram_octets ps ≡ map f (range_with_len 0 total) = ap (λ t. map f (range_with_len 0 (unwrap_or t 0))) e in
        let all : is_filled ps (Some total) ≡ true = sym (ap (is_filled ps) e) ∙ whole in
        let long : length (map f (range_with_len 0 total)) ≡ total = length-map-range_with_len f 0 total in
        subst (λ l. IsMadeOf l ps) (sym octets)
        (record {
          each = all_weaker (λ q. StandAt ps q × (end_of q ≤ reach ps)) (StandsIn (map f (range_with_len 0 total)))
              (λ q is. let below = is.1 in part_of f total q.offset q.octets (omega (arith, at, below)) (λ i lt. ap (λ o. unwrap_or o 0) (is.0 i lt)))
              ps (both_of (StandAt ps) (λ q. end_of q ≤ reach ps) ps sound.stand (within ps));
          every = λ offset lt. of_some ps offset
              (ap (λ o. is_some (octet_of ps o)) (omega arith)
              ∙ each (λ o. is_some (octet_of ps o)) (λ o. is_none (octet_of ps o)) 0 total (λ m. none_not (octet_of ps m)) all offset (omega (arith, long)));
        })

by_whole : (whole : Bool) → answer_by None whole ≡ done → whole ≡ true
by_whole true e = refl
by_whole false e = cc

-- an octet at offset 0 is of a fragment at offset 0
front_there : (ps : List Fragment) → is_some (octet_of ps 0) ≡ true → is_some (front_of ps) ≡ true
front_there [] some = cc
front_there (p ∷ ps) some = by_held (octet_of ps 0) (front_there ps) some
  where
    either : (a b : Option Front) → is_some b ≡ true → is_some (option_or a b) ≡ true
    either None b is = is
    either (Some x) b is = refl

    left : (a b : Option Front) → is_some a ≡ true → is_some (option_or a b) ≡ true
    left None b is = cc
    left (Some x) b is = refl

    own : Option Front
    own = cond (p.offset == 0) (Some (record { tos = p.tos; ttl = p.ttl; df = p.df })) None

    by_held : (o : Option ℕ) → (is_some o ≡ true → is_some (front_of ps) ≡ true) → is_some (option_or o (octet_in p.offset p.octets 0)) ≡ true → is_some (option_or (front_of ps) own) ≡ true
    by_held (Some x) rest there = left (front_of ps) own (rest refl)
    by_held None rest there =
        let inside = in_piece p.offset p.octets 0 there in
        let first : (p.offset == 0) ≡ true = grind (arith, inside.0) in
        either (front_of ps) own (ap (λ b. is_some (cond {A = Option Front} b (Some (record { tos = p.tos; ttl = p.ttl; df = p.df })) None)) first)

headed : (p : Fragment) (ps : List Fragment) → AreSound (p ∷ ps) → is_whole (p ∷ ps) ≡ true → is_some (front_of (p ∷ ps)) ≡ true
headed p ps sound whole = by_total (total_of (p ∷ ps)) refl
  where
    by_total : (t : Option ℕ) → total_of (p ∷ ps) ≡ t → is_some (front_of (p ∷ ps)) ≡ true
    by_total None e = let bad : false ≡ true = sym (ap (is_filled (p ∷ ps)) e) ∙ whole in cc
    by_total (Some total) e =
        let at = sound.ends total e in
        let some = sound.some.0 in
        let all : is_filled (p ∷ ps) (Some total) ≡ true = sym (ap (is_filled (p ∷ ps)) e) ∙ whole in
        front_there (p ∷ ps) (each (λ o. is_some (octet_of (p ∷ ps) o)) (λ o. is_none (octet_of (p ∷ ps) o)) 0 total (λ m. none_not (octet_of (p ∷ ps) m)) all 0 (omega (arith, at, some)))

pub whole_is_its_pieces : WholeIsItsPieces
whole_is_its_pieces settings cs p answered is =
    let v = view_of settings cs p in
    let none = done_not_dropped v p is in
    let whole = by_whole (is_whole (p ∷ v.pieces)) (sym (ap (λ r. answer_by r (is_whole (p ∷ v.pieces))) none) ∙ is) in
    let fits = fits_in v p none in
    let sound = one_more v.pieces p fits.end fits.octets fits.some (each_in AreSound (gathered settings.frag_time cs) p.id none_sound (all_sound settings cs answered)) in
    record { octets = made (p ∷ v.pieces) sound whole; head = headed p v.pieces sound whole }

-- A datagram of sized fragments is sized.

-- a sized fragment that is no longer than a datagram may be
pub record IsShort (p : Fragment) : Type 0 where
  pub sized : IsSized p
  pub short : end_of p ≤ 65515

abbrev AreShort : List Fragment → Type 0
AreShort ps = AllByRecursion IsShort ps

all_short : (settings : PlainSettings) (cs : List Call) → AreAnswered settings cs → AreSized cs → EachHolds AreShort (gathered settings.frag_time cs)
all_short settings [] answered sized = tt
all_short settings (expiry now ∷ cs) answered sized =
    each_filter AreShort (λ (g : Gathered). not (is_old settings.frag_time now g)) (gathered settings.frag_time cs) (all_short settings cs answered sized)
all_short settings (offer now p answer ∷ cs) answered sized =
    let v = view_of settings cs p in
    each_after AreShort now p answer (gathered settings.frag_time cs) tt
    (λ is rest. let fits = fits_in v p (held_not_dropped v p answer answered.0 is) in (record { sized = sized.0; short = fits.short }, rest))
    (all_short settings cs answered.1 sized.1)

-- the fields are those of a fragment
record AreFields (o : Option Front) : Type 0 where
  tos : (total : Option ℕ) → (whole_with total o).tos < 2 ^ 8
  ttl : (total : Option ℕ) → (whole_with total o).ttl < 2 ^ 8

fields : (ps : List Fragment) → AreShort ps → AreFields (front_of ps)
fields [] all = record { tos = λ total. omega arith; ttl = λ total. omega arith }
fields (p ∷ ps) all = either (front_of ps) (fields ps all.1) (p.offset == 0)
  where
    either : (o : Option Front) → AreFields o → (b : Bool) → AreFields (option_or o (cond b (Some (record { tos = p.tos; ttl = p.ttl; df = p.df })) None))
    either (Some front) rest b = rest
    either None rest true = record { tos = λ total. all.0.sized.tos; ttl = λ total. all.0.sized.ttl }
    either None rest false = rest

octet_sized : (ps : List Fragment) → AreShort ps → (offset : ℕ) → unwrap_or (octet_of ps offset) 0 < 2 ^ 8
octet_sized [] all offset = omega arith
octet_sized (p ∷ ps) all offset = either (octet_of ps offset) (octet_sized ps all.1 offset)
  where
    own : (b : Bool) → unwrap_or (cond b None (slice_get p.octets (offset - p.offset))) 0 < 2 ^ 8
    own true = omega arith
    own false = subst (λ n. n < 2 ^ 8) (sym (unwrap_or-slice_get p.octets (offset - p.offset) 0)) (all.0.sized.octets (offset - p.offset))

    either : (o : Option ℕ) → unwrap_or o 0 < 2 ^ 8 → unwrap_or (option_or o (octet_in p.offset p.octets offset)) 0 < 2 ^ 8
    either (Some x) rest = rest
    either None rest = own (nat_lt offset p.offset)

mapped : (f : ℕ → ℕ) (xs : List ℕ) → ((x : ℕ) → f x < 2 ^ 8) → (at : ℕ) → slice_index (map f xs) at < 2 ^ 8
mapped f [] below at = omega arith
mapped f (x ∷ xs) below zero = below x
mapped f (x ∷ xs) below (suc at) = mapped f xs below at

total_short : (ps : List Fragment) → AreShort ps → unwrap_or (total_of ps) 0 ≤ 65515
total_short [] all = omega arith
total_short (p ∷ ps) all = either (total_of ps) p.more (total_short ps all.1)
  where
    either : (o : Option ℕ) (b : Bool) → unwrap_or o 0 ≤ 65515 → unwrap_or (option_or o (cond b None (Some (end_of p)))) 0 ≤ 65515
    either (Some t) b rest = rest
    either None true rest = rest
    either None false rest = all.0.short

pub len_is : (total : Option ℕ) (o : Option Front) → (whole_with total o).len ≡ unwrap_or total 0
len_is total None = refl
len_is total (Some front) = refl

whole_sized : (ps : List Fragment) → AreShort ps → IsSizedWhole ps
whole_sized ps all =
    let front = fields ps all in
    let long : length (datagram_octets ps) ≡ unwrap_or (total_of ps) 0 = length-map-range_with_len (λ offset. unwrap_or (octet_of ps offset) 0) 0 (unwrap_or (total_of ps) 0) in
    record {
      tos = front.tos (total_of ps);
      ttl = front.ttl (total_of ps);
      octets = mapped (λ offset. unwrap_or (octet_of ps offset) 0) (range_with_len 0 (unwrap_or (total_of ps) 0)) (octet_sized ps all);
      short = omega (arith, long, total_short ps all);
      len = len_is (total_of ps) (front_of ps) ∙ sym long;
    }

pub wholes_are_sized : WholesAreSized
wholes_are_sized settings cs p answered sized own is =
    let v = view_of settings cs p in
    let fits = fits_in v p (done_not_dropped v p is) in
    whole_sized (p ∷ v.pieces) (record { sized = own; short = fits.short }, each_in AreShort (gathered settings.frag_time cs) p.id tt (all_short settings cs answered sized))
