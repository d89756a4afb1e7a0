-- What is held stays within the settings.
use Rattle.std.proofs.Common.{◌≡◌, ℕ, zero, suc, ◌+◌, ◌-◌, ◌*◌, ◌/◌, ◌<◌, ◌≤◌, ◌==◌, ◌||◌, ◌&&◌, not, Bool, true, false, cond, List, [], ◌∷◌, length, is_some, refl, sym, ap, subst, ◌∙◌, arith, nat_lt, nat_le}
use Rattle.std.specs.List.{filter, count_by, list_any, range_with_len}
use Rattle.std.proofs.lemmas.Bool.{false_from_ne_true}
use Rattle.std.proofs.lemmas.Bool.Decides.{nat_tests}
use Rattle.std.proofs.lemmas.List.Sums.{sum_by-cons}
use Rattle.norm_settings.specs.SettingValues.{PlainSettings}
use Rattle.retain_store.specs.Maps.{octet_in}
use Rattle.reassembly.specs.DatagramFragments.{Fragment, end_of, octet_of, reach, has_block, cells_of, missing_of}
use Rattle.reassembly.specs.Calls.{Answer, held, done, dropped, Call, expiry, offer, Gathered, gathered, after, with_piece, of_others, pieces_in, cells_in, is_id, is_old, forgets}
use Rattle.reassembly.specs.RuleRows.{is_none_held, answer_at, view_of, AreAnswered}
use Rattle.retain_store.proofs.Counts.{none_counted, parts}
use Rattle.reassembly.specs.CallLaws.{AnsweredIsWithin}
use Rattle.reassembly.proofs.Offers.{any_none}
use Rattle.reassembly.proofs.Datagrams.{FitsIn, fits_in, held_not_dropped}
use Rattle.reassembly.proofs.Pieces.{in_piece, below_reach, some_or}

-- fewer numbers pass the narrower test
count_less : (p q : ℕ → Bool) (a n : ℕ) → ((m : ℕ) → a ≤ m → m < a + n → p m ≡ true → q m ≡ true)
    → count_by p (range_with_len a n) ≤ count_by q (range_with_len a n)
count_less p q a zero implies = omega arith
count_less p q a (suc n) implies =
    let rest = count_less p q (a + 1) n (λ m low high. implies m (omega arith) (omega arith)) in
    let here = step (p a) (q a) (implies a (omega arith) (omega arith)) in
    omega (arith, here, rest, sum_by-cons (λ k. cond {A = ℕ} (p k) 1 0) a (range_with_len (a + 1) n), sum_by-cons (λ k. cond {A = ℕ} (q k) 1 0) a (range_with_len (a + 1) n))
  where
    step : (b c : Bool) → (b ≡ true → c ≡ true) → cond {A = ℕ} b 1 0 ≤ cond {A = ℕ} c 1 0
    step true true e = omega arith
    step true false e = let bad = e refl in cc
    step false c e = omega arith

-- at most as many pass one test as pass another or fail it
count_either : (p q : ℕ → Bool) (a n : ℕ) → count_by p (range_with_len a n) ≤ count_by q (range_with_len a n) + count_by (λ k. not (q k)) (range_with_len a n)
count_either p q a zero = omega arith
count_either p q a (suc n) =
    let rest = count_either p q (a + 1) n in
    let here = step (p a) (q a) in
    let one = sum_by-cons (λ k. cond {A = ℕ} (p k) 1 0) a (range_with_len (a + 1) n) in
    let two = sum_by-cons (λ k. cond {A = ℕ} (q k) 1 0) a (range_with_len (a + 1) n) in
    omega (arith, here, rest, one, two, sum_by-cons (λ k. cond {A = ℕ} (not (q k)) 1 0) a (range_with_len (a + 1) n))
  where
    step : (b c : Bool) → cond {A = ℕ} b 1 0 ≤ cond {A = ℕ} c 1 0 + cond {A = ℕ} (not c) 1 0
    step true true = omega arith
    step true false = omega arith
    step false c = omega arith

-- more are counted by another test only where it is wider
count_around : (p q : ℕ → Bool) (a m n : ℕ) → a + m ≤ n → ((k : ℕ) → k < a → p k ≡ true → q k ≡ true) → ((k : ℕ) → a + m ≤ k → p k ≡ true → q k ≡ true)
    → count_by p (range_with_len 0 n) ≤ count_by q (range_with_len 0 n) + count_by (λ k. not (q k)) (range_with_len a m)
count_around p q a m n le before behind =
    let last = n - (a + m) in
    let sum : a + m + last ≡ n = omega arith in
    let first : 0 + a ≡ a = omega arith in
    let low = count_less p q 0 a (λ k from to. before k (omega arith)) in
    let middle = subst (λ b. count_by p (range_with_len b m) ≤ count_by q (range_with_len b m) + count_by (λ k. not (q k)) (range_with_len a m)) (sym first) (count_either p q a m) in
    let high = count_less p q (0 + (a + m)) last (λ k from to. behind k (omega arith)) in
    let p_two = parts p 0 a m in
    let q_two = parts q 0 a m in
    let p_three = parts p 0 (a + m) last in
    let q_three = parts q 0 (a + m) last in
    subst (λ b. count_by p (range_with_len 0 b) ≤ count_by q (range_with_len 0 b) + count_by (λ k. not (q k)) (range_with_len a m)) sum
    (omega (arith, low, middle, high, p_two, q_two, p_three, q_three))

-- if one of these offsets passes the first test, one passes the second
any_less : (f g : ℕ → Bool) (a n : ℕ) → ((m : ℕ) → a ≤ m → m < a + n → f m ≡ true → g m ≡ true)
    → list_any f (range_with_len a n) ≡ true → list_any g (range_with_len a n) ≡ true
any_less f g a zero implies some = cc
any_less f g a (suc n) implies some =
    step (f a) (g a) (list_any f (range_with_len (a + 1) n)) (list_any g (range_with_len (a + 1) n)) (implies a (omega arith) (omega arith))
    (any_less f g (a + 1) n (λ m low high. implies m (omega arith) (omega arith))) some
  where
    step : (b c r s : Bool) → (b ≡ true → c ≡ true) → (r ≡ true → s ≡ true) → (b || r) ≡ true → (c || s) ≡ true
    step true c r s first rest some = ap (λ x. x || s) (first refl)
    step false true r s first rest some = refl
    step false false r s first rest some = rest some

-- a block past the reach has no octet
past_reach : (ps : List Fragment) (n : ℕ) → reach ps / 256 + 1 ≤ n → has_block ps n ≡ false
past_reach ps n le =
    false_from_ne_true (has_block ps n) (λ some.
    let bad : false ≡ true = sym (any_none (range_with_len (256 * n) 256))
    ∙ any_less (λ o. is_some (octet_of ps o)) (λ o. false) (256 * n) 256 (λ o low high is. let under = below_reach ps o is in absurd (omega arith)) some in
    cc)

-- counted to any number past the reach
cells_to : (ps : List Fragment) (n : ℕ) → reach ps / 256 + 1 ≤ n → count_by (has_block ps) (range_with_len 0 n) ≡ cells_of ps
cells_to ps n le =
    let end = reach ps / 256 + 1 in
    let sum : end + (n - end) ≡ n = omega arith in
    let rest = none_counted (has_block ps) (0 + end) (n - end) (λ m low high. past_reach ps m (omega arith)) in
    let both = parts (has_block ps) 0 end (n - end) in
    subst (λ b. count_by (has_block ps) (range_with_len 0 b) ≡ cells_of ps) sum (omega (arith, rest, both))

-- outside a fragment a block has an octet only if it had one
elsewhere : (p : Fragment) (ps : List Fragment) (n : ℕ) → ((o : ℕ) → 256 * n ≤ o → o < 256 * n + 256 → p.offset ≤ o → o < end_of p → ⊥)
    → has_block (p ∷ ps) n ≡ true → has_block ps n ≡ true
elsewhere p ps n outside =
    any_less (λ o. is_some (octet_of (p ∷ ps) o)) (λ o. is_some (octet_of ps o)) (256 * n) 256
    (λ o low high is. by_old (is_some (octet_of ps o)) (is_some (octet_in p.offset p.octets o))
    (λ got. let inside = in_piece p.offset p.octets o got in outside o low high inside.0 inside.1)
    (sym (some_or (octet_of ps o) (octet_in p.offset p.octets o)) ∙ is))
  where
    by_old : (b c : Bool) → (c ≡ true → ⊥) → (b || c) ≡ true → b ≡ true
    by_old true c no_way is = refl
    by_old false c no_way is = absurd (no_way is)

-- a fragment takes no more cells than it misses
cells_more : (p : Fragment) (ps : List Fragment) → 0 < length p.octets → cells_of (p ∷ ps) ≤ cells_of ps + missing_of ps p.offset (length p.octets)
cells_more p ps some =
    let from = p.offset in
    let len = length p.octets in
    let a = from / 256 in
    let m = (from + len - 1) / 256 + 1 - from / 256 in
    let n = reach (p ∷ ps) / 256 + 1 in
    let nonempty : (len == 0) ≡ false = grind (arith, some) in
    let missing : missing_of ps from len ≡ count_by (λ k. not (has_block ps k)) (range_with_len a m) =
    ap (λ b. count_by (λ k. not (has_block ps k)) (cond {A = List ℕ} b [] (range_with_len a m))) nonempty in
    let inside : a + m ≤ n = omega arith in
    let old = cells_to ps n (omega arith) in
    let around = count_around (has_block (p ∷ ps)) (has_block ps) a m n inside
    (λ k lt. elsewhere p ps k (λ o low high begins ends. omega arith))
    (λ k le. elsewhere p ps k (λ o low high begins ends. omega arith)) in
    omega (arith, missing, old, around)

none_cells : cells_of [] ≡ 0
none_cells = ap (λ b. cond {A = ℕ} b 1 0 + 0) (any_none (range_with_len (256 * 0) 256))

-- a first fragment adds a datagram, another one none
held_with : (now : ℕ) (p : Fragment) (gs : List Gathered) → length (with_piece now p gs) ≤ length gs + cond {A = ℕ} (is_none_held (pieces_in gs p.id)) 1 0
held_with now p [] = omega arith
held_with now p (g ∷ gs) = by_test (is_id g.id p.id) (held_with now p gs)
  where
    by_test : (b : Bool) → length (with_piece now p gs) ≤ length gs + cond {A = ℕ} (is_none_held (pieces_in gs p.id)) 1 0
        → length (cond b (record g { pieces = p ∷ g.pieces } ∷ gs) (g ∷ with_piece now p gs)) ≤ suc (length gs) + cond {A = ℕ} (is_none_held (cond b g.pieces (pieces_in gs p.id))) 1 0
    by_test true rest = omega arith
    by_test false rest = omega (arith, rest)

cells_with : (now : ℕ) (p : Fragment) (gs : List Gathered) (more : ℕ) → cells_of (p ∷ pieces_in gs p.id) ≤ cells_of (pieces_in gs p.id) + more
    → cells_in (with_piece now p gs) ≤ cells_in gs + more
cells_with now p [] more le =
    let none = none_cells in
    omega (arith, le, none, sum_by-cons (λ (k : Gathered). cells_of k.pieces) (record { id = p.id; since = now; pieces = p ∷ [] }) [])
cells_with now p (g ∷ gs) more le = by_test (is_id g.id p.id) le (cells_with now p gs more)
  where
    by_test : (b : Bool) → cells_of (p ∷ cond b g.pieces (pieces_in gs p.id)) ≤ cells_of (cond b g.pieces (pieces_in gs p.id)) + more
        → (cells_of (p ∷ pieces_in gs p.id) ≤ cells_of (pieces_in gs p.id) + more → cells_in (with_piece now p gs) ≤ cells_in gs + more)
        → cells_in (cond b (record g { pieces = p ∷ g.pieces } ∷ gs) (g ∷ with_piece now p gs)) ≤ cells_in (g ∷ gs) + more
    by_test true here rest =
        omega (arith, here, sum_by-cons (λ (k : Gathered). cells_of k.pieces) g gs, sum_by-cons (λ (k : Gathered). cells_of k.pieces) (record g { pieces = p ∷ g.pieces }) gs)
    by_test false here rest =
        let below = rest here in
        omega (arith, below, sum_by-cons (λ (k : Gathered). cells_of k.pieces) g gs, sum_by-cons (λ (k : Gathered). cells_of k.pieces) g (with_piece now p gs))

-- fewer datagrams take no more cells
record NoMore (hs gs : List Gathered) : Type 0 where
  datagrams : length hs ≤ length gs
  cells : cells_in hs ≤ cells_in gs

fewer : (q : Gathered → Bool) (gs : List Gathered) → NoMore (filter q gs) gs
fewer q [] = record { datagrams = omega arith; cells = omega arith }
fewer q (g ∷ gs) = by_test (q g) (fewer q gs)
  where
    by_test : (b : Bool) → NoMore (filter q gs) gs → NoMore (cond b (g ∷ filter q gs) (filter q gs)) (g ∷ gs)
    by_test true rest =
        let long = rest.datagrams in
        let wide = rest.cells in
        record {
          datagrams = omega (arith, long);
          cells = omega (arith, wide, sum_by-cons (λ (k : Gathered). cells_of k.pieces) g gs, sum_by-cons (λ (k : Gathered). cells_of k.pieces) g (filter q gs));
        }
    by_test false rest =
        let long = rest.datagrams in
        let wide = rest.cells in
        record { datagrams = omega (arith, long); cells = omega (arith, wide, sum_by-cons (λ (k : Gathered). cells_of k.pieces) g gs) }

-- at most `most` datagrams and `room` cells
record AreWithin (most room : ℕ) (gs : List Gathered) : Type 0 where
  datagrams : length gs ≤ most
  cells : cells_in gs ≤ room

no_more : (most room : ℕ) (hs gs : List Gathered) → NoMore hs gs → AreWithin most room gs → AreWithin most room hs
no_more most room hs gs less within =
    let a = less.datagrams in let b = less.cells in let c = within.datagrams in let d = within.cells in
    record { datagrams = omega (arith, a, c); cells = omega (arith, b, d) }

joined : (settings : PlainSettings) (cs : List Call) (now : ℕ) (p : Fragment) → FitsIn (view_of settings cs p) p
    → AreWithin settings.frags settings.frag_cells (gathered settings.frag_time cs) → AreWithin settings.frags settings.frag_cells (with_piece now p (gathered settings.frag_time cs))
joined settings cs now p fits within =
    let gs = gathered settings.frag_time cs in
    let ps = pieces_in gs p.id in
    let wanted = missing_of ps p.offset (length p.octets) in
    let some = fits.some in
    let here = within.datagrams in
    let taken = within.cells in
    let more = cells_with now p gs wanted (cells_more p ps some) in
    let room : nat_lt (settings.frag_cells - cells_in gs) wanted ≡ false = fits.room in
    let enough : wanted ≤ settings.frag_cells - cells_in gs = grind (arith, nat_tests, room) in
    record {
      datagrams = by_first (is_none_held ps) (length (with_piece now p gs)) (length gs) here fits.many (held_with now p gs);
      cells = omega (arith, taken, more, enough);
    }
  where
    by_first : (b : Bool) (new old : ℕ) → old ≤ settings.frags → (b && nat_le settings.frags old) ≡ false → new ≤ old + cond {A = ℕ} b 1 0 → new ≤ settings.frags
    by_first true new old le many up = let below : old < settings.frags = grind (arith, nat_tests, many) in omega (arith, below, up)
    by_first false new old le many up = omega (arith, le, up)

all_within : (settings : PlainSettings) (cs : List Call) → AreAnswered settings cs → AreWithin settings.frags settings.frag_cells (gathered settings.frag_time cs)
all_within settings [] answered = record { datagrams = omega arith; cells = omega arith }
all_within settings (expiry now ∷ cs) answered =
    no_more settings.frags settings.frag_cells (filter (λ (g : Gathered). not (is_old settings.frag_time now g)) (gathered settings.frag_time cs)) (gathered settings.frag_time cs)
    (fewer (λ (g : Gathered). not (is_old settings.frag_time now g)) (gathered settings.frag_time cs)) (all_within settings cs answered)
all_within settings (offer now p answer ∷ cs) answered = by_answer answer answered.0 (all_within settings cs answered.1)
  where
    gs : List Gathered
    gs = gathered settings.frag_time cs

    others : AreWithin settings.frags settings.frag_cells gs → AreWithin settings.frags settings.frag_cells (of_others p.id gs)
    others before = no_more settings.frags settings.frag_cells (of_others p.id gs) gs (fewer (λ (g : Gathered). not (is_id g.id p.id)) gs) before

    by_answer : (a : Answer) → a ≡ answer_at (view_of settings cs p) p → AreWithin settings.frags settings.frag_cells gs → AreWithin settings.frags settings.frag_cells (after now p a gs)
    by_answer held is before = joined settings cs now p (fits_in (view_of settings cs p) p (held_not_dropped (view_of settings cs p) p held is refl)) before
    by_answer done is before = others before
    by_answer (dropped rule) is before = by_rule (forgets rule)
      where
        by_rule : (b : Bool) → AreWithin settings.frags settings.frag_cells (cond b (of_others p.id gs) gs)
        by_rule true = others before
        by_rule false = before

pub answered_is_within : AnsweredIsWithin
answered_is_within settings cs answered = let all = all_within settings cs answered in record { datagrams = all.datagrams; cells = all.cells }
