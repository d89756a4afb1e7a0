-- The quantities of a list of segments: how one more segment changes each, and how many offsets
-- have an octet.
use Rattle.std.proofs.Common.{◌≡◌, ℕ, List, [], ◌∷◌, ◌++◌, Option, Some, None, Bool, ◌||◌, refl, sym, ◌∙◌, ap, arith, append_assoc, append-nil, ◌&&◌, ◌+◌, ◌*◌, ◌^◌, true, false, zero, suc, ◌-◌, ◌<◌, ◌≤◌, length, not, cond, subst, max, fold, min, ℤ, is_some, if◌then◌else◌, pos, negsuc, ◌+ℤ◌, ◌-ℤ◌, is_none, nat_lt, nat_le}
use Rattle.std.specs.Option.{option_or}
use Rattle.std.specs.List.{list_any, count_by, range_with_len}
use Rattle.std.proofs.Math.Bool.{or-false}
use Rattle.std.proofs.lemmas.List.Folds.{list_any-append}
use Rattle.std.proofs.Math.Nat.{max-zero}
use Rattle.std.proofs.lemmas.Int.{ints}
use Rattle.std.proofs.lemmas.Bool.Decides.{nat_tests}
use Rattle.std.proofs.lemmas.List.Sums.{count_by-le-length, sum_by-cons}
use Rattle.std.proofs.lemmas.List.FromFn.{length-range_with_len}
use Rattle.std.proofs.lemmas.Option.{slice_get_past}
use Rattle.std.proofs.lemmas.Bool.{and_right}
use Rattle.wire_base.specs.Segments.{Written}
use Rattle.wire_base.specs.Tcp as tcp
use Rattle.era_state.specs.ListElements.{first_of, last_of, greatest, Moment, moments_from, moments}
use Rattle.era_state.specs.Offsets.{number_in, off, natural, nat_of}
use Rattle.era_state.specs.SegmentMarks.{is_outbound_syn, is_inbound_syn, is_outbound_fin, number_behind, fixes, ack_of, edge_place, top_place, octet_at, fin_place, get_at}
use Rattle.era_state.specs.Quantities.{base_of, acked, is_opened, out_seen, in_seen, in_scaled, out_scaled, out_scale, shift, edge, top, first, end_of, iss, out, out_fin, shift_with, octet_count, fresh_places}
use Rattle.era_state.specs.declared.syns.Syns.{Syns}
use Rattle.era_state.specs.WindowScales.{SynsFor}
use Rattle.era_state.specs.working.ScaleChanges.{SynsAfter, shift_of}
use Rattle.era_state.specs.SilentSegments.{SameNumbers}
use Rattle.era_state.specs.QuantityLaws.{AckedIsGreatest, ShiftIsOfTheMoment, OctetsAreBelowTop}

-- What one more element adds to the functions over a list.

pub or_none : {A : Type 0} (o : Option A) → option_or o None ≡ o
or_none None = refl
or_none (Some x) = refl

pub or_kept : {A : Type 0} (o p : Option A) (x : A) → o ≡ Some x → option_or o p ≡ Some x
or_kept None p x e = cc
or_kept (Some y) p x e = e

or_assoc : {A : Type 0} (a b c : Option A) → option_or a (option_or b c) ≡ option_or (option_or a b) c
or_assoc None b c = refl
or_assoc (Some x) b c = refl

pub first_push : {A B : Type 0} (f : A → Option B) (xs : List A) (x : A) → first_of f (xs ++ x ∷ []) ≡ option_or (first_of f xs) (f x)
first_push f [] x = or_none (f x)
first_push f (y ∷ ys) x = ap (option_or (f y)) (first_push f ys x) ∙ or_assoc (f y) (first_of f ys) (f x)

pub last_push : {A B : Type 0} (f : A → Option B) (xs : List A) (x : A) → last_of f (xs ++ x ∷ []) ≡ option_or (f x) (last_of f xs)
last_push f [] x = sym (or_none (f x))
last_push f (y ∷ ys) x = ap (λ o. option_or o (f y)) (last_push f ys x) ∙ sym (or_assoc (f x) (last_of f ys) (f y))

pub greatest_push : {A : Type 0} (f : A → ℕ) (xs : List A) (x : A) → greatest f (xs ++ x ∷ []) ≡ max (greatest f xs) (f x)
greatest_push f [] x = omega arith
greatest_push f (y ∷ ys) x = let h = greatest_push f ys x in omega (arith, h)

pub any_push : {A : Type 0} (p : A → Bool) (xs : List A) (x : A) → list_any p (xs ++ x ∷ []) ≡ (list_any p xs || p x)
any_push p xs x = list_any-append p xs (x ∷ []) ∙ ap (λ b. list_any p xs || b) (or-false (p x))

pub fold_push : {A B : Type 0} (f : B → A → B) (b : B) (xs : List A) (x : A) → fold f b (xs ++ x ∷ []) ≡ f (fold f b xs) x
fold_push f b [] x = refl
fold_push f b (y ∷ ys) x = fold_push f (f b y) ys x

moments_from_push : {A : Type 0} (before xs : List A) (x : A) → moments_from before (xs ++ x ∷ []) ≡ moments_from before xs ++ record { before = before ++ xs; now = x } ∷ []
moments_from_push before [] x = ap (λ b. record { before = b; now = x } ∷ []) (sym (append-nil before))
moments_from_push before (y ∷ ys) x =
    let e = moments_from_push (before ++ y ∷ []) ys x in
    ap (λ ms. record { before = before; now = y } ∷ ms) e ∙ ap (λ b. record { before = before; now = y } ∷ (moments_from (before ++ y ∷ []) ys ++ record { before = b; now = x } ∷ [])) (append_assoc before (y ∷ []) ys)

pub moments_push : {A : Type 0} (xs : List A) (x : A) → moments (xs ++ x ∷ []) ≡ moments xs ++ record { before = xs; now = x } ∷ []
moments_push xs x = moments_from_push [] xs x

-- over the moments of a list
pub greatest_moment : {A : Type 0} (f : Moment A → ℕ) (xs : List A) (x : A) → greatest f (moments (xs ++ x ∷ [])) ≡ max (greatest f (moments xs)) (f (record { before = xs; now = x }))
greatest_moment f xs x = ap (greatest f) (moments_push xs x) ∙ greatest_push f (moments xs) (record { before = xs; now = x })

pub first_moment : {A B : Type 0} (f : Moment A → Option B) (xs : List A) (x : A) → first_of f (moments (xs ++ x ∷ [])) ≡ option_or (first_of f (moments xs)) (f (record { before = xs; now = x }))
first_moment f xs x = ap (first_of f) (moments_push xs x) ∙ first_push f (moments xs) (record { before = xs; now = x })

pub any_moment : {A : Type 0} (p : Moment A → Bool) (xs : List A) (x : A) → list_any p (moments (xs ++ x ∷ [])) ≡ (list_any p (moments xs) || p (record { before = xs; now = x }))
any_moment p xs x = ap (list_any p) (moments_push xs x) ∙ any_push p (moments xs) (record { before = xs; now = x })

-- How one more segment changes each quantity.

pub base_push : (ws : List Written) (w : Written) → base_of (ws ++ w ∷ []) ≡ option_or (base_of ws) (fixes w)
base_push ws w = first_push fixes ws w

pub iss_push : (ws : List Written) (w : Written) → iss (ws ++ w ∷ []) ≡ option_or (iss ws) (if is_outbound_syn w then Some w.seq else None)
iss_push ws w = first_push (λ (w : Written). if is_outbound_syn w then Some w.seq else None) ws w

pub out_push : (ws : List Written) (w : Written) → out (ws ++ w ∷ []) ≡ option_or (if w.inward then None else Some (number_behind w)) (out ws)
out_push ws w = last_push (λ (w : Written). if w.inward then None else Some (number_behind w)) ws w

pub out_fin_push : (ws : List Written) (w : Written) → out_fin (ws ++ w ∷ []) ≡ (out_fin ws || is_outbound_fin w)
out_fin_push ws w = any_push is_outbound_fin ws w

pub out_seen_push : (ws : List Written) (w : Written) → out_seen (ws ++ w ∷ []) ≡ (out_seen ws || is_outbound_syn w)
out_seen_push ws w = any_push is_outbound_syn ws w

pub in_seen_push : (ws : List Written) (w : Written) → in_seen (ws ++ w ∷ []) ≡ (in_seen ws || is_inbound_syn w)
in_seen_push ws w = any_push is_inbound_syn ws w

pub out_scaled_push : (ws : List Written) (w : Written) → out_scaled (ws ++ w ∷ []) ≡ (out_scaled ws || (is_outbound_syn w && is_some w.scale))
out_scaled_push ws w = any_push (λ (w : Written). is_outbound_syn w && is_some w.scale) ws w

pub in_scaled_push : (ws : List Written) (w : Written) → in_scaled (ws ++ w ∷ []) ≡ (in_scaled ws || (is_inbound_syn w && is_some w.scale))
in_scaled_push ws w = any_push (λ (w : Written). is_inbound_syn w && is_some w.scale) ws w

pub out_scale_push : (ws : List Written) (w : Written) → out_scale (ws ++ w ∷ []) ≡ max (out_scale ws) (min 14 (if is_outbound_syn w then number_in w.scale else 0))
out_scale_push ws w =
    let f : Written → ℕ = λ (w : Written). if is_outbound_syn w then number_in w.scale else 0 in
    ap (min 14) (greatest_push f ws w) ∙ least_max (greatest f ws) (f w)
  where
    least_max : (a b : ℕ) → min 14 (max a b) ≡ max (min 14 a) (min 14 b)
    least_max a b = omega arith

pub acked_push : (base : ℕ) (ws : List Written) (w : Written) → acked base (ws ++ w ∷ []) ≡ max (acked base ws) (number_in (ack_of base (acked base ws) w))
acked_push base ws w = fold_push (λ a (w : Written). max a (number_in (ack_of base a w))) 0 ws w

pub opened_push : (base : ℕ) (ws : List Written) (w : Written) → is_opened base (ws ++ w ∷ []) ≡ (is_opened base ws || is_some (ack_of base (acked base ws) w))
opened_push base ws w = any_moment (λ (m : Moment Written). is_some (ack_of base (acked base m.before) m.now)) ws w

pub edge_push : (base : ℕ) (ws : List Written) (w : Written) → edge base (ws ++ w ∷ []) ≡ max (edge base ws) (edge_place (ack_of base (acked base ws) w) (shift ws) w)
edge_push base ws w = greatest_moment (λ (m : Moment Written). edge_place (ack_of base (acked base m.before) m.now) (shift m.before) m.now) ws w

pub top_push : (base : ℕ) (ws : List Written) (w : Written) → top base (ws ++ w ∷ []) ≡ max (top base ws) (top_place base (acked base ws) w)
top_push base ws w = greatest_moment (λ (m : Moment Written). top_place base (acked base m.before) m.now) ws w

pub octet_push : (base : ℕ) (ws : List Written) (w : Written) (offset : ℤ) → first base (ws ++ w ∷ []) offset ≡ option_or (first base ws offset) (octet_at base (acked base ws) offset w)
octet_push base ws w offset = first_moment (λ (m : Moment Written). octet_at base (acked base m.before) offset m.now) ws w

pub end_push : (base : ℕ) (ws : List Written) (w : Written) → end_of base (ws ++ w ∷ []) ≡ option_or (end_of base ws) (fin_place base (acked base ws) w)
end_push base ws w = first_moment (λ (m : Moment Written). fin_place base (acked base m.before) m.now) ws w

-- The SYNs of an era and its list.

-- with one more segment
pub syns_push : (w : Written) (old new : Syns) (ws : List Written) → SynsAfter w old new → SynsFor old ws → SynsFor new (ws ++ w ∷ [])
syns_push w old new ws t h = record {
  out_seen_is = t.out_seen_is ∙ ap (λ b. b || is_outbound_syn w) h.out_seen_is ∙ sym (out_seen_push ws w);
  in_seen_is = t.in_seen_is ∙ ap (λ b. b || is_inbound_syn w) h.in_seen_is ∙ sym (in_seen_push ws w);
  out_scaled_is = t.out_scaled_is ∙ ap (λ b. b || (is_outbound_syn w && is_some w.scale)) h.out_scaled_is ∙ sym (out_scaled_push ws w);
  in_scaled_is = t.in_scaled_is ∙ ap (λ b. b || (is_inbound_syn w && is_some w.scale)) h.in_scaled_is ∙ sym (in_scaled_push ws w);
  out_scale_is = t.out_scale_is ∙ ap (λ n. max n (min 14 (if is_outbound_syn w then number_in w.scale else 0))) h.out_scale_is ∙ sym (out_scale_push ws w);
}

-- with segments that add no SYN
pub syns_kept : (s : Syns) (ws vs : List Written) → SameNumbers ws vs → SynsFor s ws → SynsFor s vs
syns_kept s ws vs n h = record {
  out_seen_is = h.out_seen_is ∙ sym n.out_seen_is;
  in_seen_is = h.in_seen_is ∙ sym n.in_seen_is;
  out_scaled_is = h.out_scaled_is ∙ sym n.out_scaled_is;
  in_scaled_is = h.in_scaled_is ∙ sym n.in_scaled_is;
  out_scale_is = h.out_scale_is ∙ sym n.out_scale_is;
}

pub shift_same : (s : Syns) (ws : List Written) → SynsFor s ws → shift_of s ≡ shift ws
shift_same s ws h = λ i. shift_with (h.out_seen_is i) (h.in_seen_is i) (h.out_scaled_is i) (h.in_scaled_is i) (h.out_scale_is i)

-- Acked and Edge over the moments of a list.

acked_from : (base : ℕ) (before ws : List Written) → fold (λ a (w : Written). max a (number_in (ack_of base a w))) (acked base before) ws ≡ max (acked base before) (greatest (λ (m : Moment Written). number_in (ack_of base (acked base m.before) m.now)) (moments_from before ws))
acked_from base before [] = omega arith
acked_from base before (w ∷ ws) =
    let step = acked_push base before w in
    let rest = acked_from base (before ++ w ∷ []) ws in
    ap (λ a. fold (λ a (w : Written). max a (number_in (ack_of base a w))) a ws) (sym step) ∙ rest ∙ omega (arith, step)

pub acked_is_greatest : AckedIsGreatest
acked_is_greatest base ws = acked_from base [] ws ∙ omega arith

-- a segment without SYN changes no shift
same_shift : (ws : List Written) (w : Written) → tcp.has_syn w.flags ≡ false → shift (ws ++ w ∷ []) ≡ shift ws
same_shift ws w mute = λ i. shift_with
    ((out_seen_push ws w ∙ ap (λ b. out_seen ws || b) (and_right _ (tcp.has_syn w.flags) mute) ∙ or-false (out_seen ws)) i)
    ((in_seen_push ws w ∙ ap (λ b. in_seen ws || b) (and_right w.inward (tcp.has_syn w.flags) mute) ∙ or-false (in_seen ws)) i)
    ((out_scaled_push ws w ∙ ap (λ b. out_scaled ws || (b && is_some w.scale)) (and_right _ (tcp.has_syn w.flags) mute) ∙ or-false (out_scaled ws)) i)
    ((in_scaled_push ws w ∙ ap (λ b. in_scaled ws || (b && is_some w.scale)) (and_right w.inward (tcp.has_syn w.flags) mute) ∙ or-false (in_scaled ws)) i)
    ((out_scale_push ws w ∙ ap (λ b. max (out_scale ws) (min 14 (if b then number_in w.scale else 0))) (and_right _ (tcp.has_syn w.flags) mute) ∙ max-zero (out_scale ws)) i)

own_shift : (ws : List Written) (w : Written) (o : Option ℕ) → edge_place o (shift ws) w ≡ edge_place o (shift (ws ++ w ∷ [])) w
own_shift ws w None = refl
own_shift ws w (Some place) = by (tcp.has_syn w.flags) refl
  where
    by : (b : Bool) → tcp.has_syn w.flags ≡ b → place + w.window * (if tcp.has_syn w.flags then 1 else 2 ^ shift ws) ≡ place + w.window * (if tcp.has_syn w.flags then 1 else 2 ^ shift (ws ++ w ∷ []))
    by true e = rw e refl
    by false e = ap (λ n. place + w.window * (if tcp.has_syn w.flags then 1 else 2 ^ n)) (sym (same_shift ws w e))

pub shift_is_of_the_moment : ShiftIsOfTheMoment
shift_is_of_the_moment base ws = λ i. greatest (λ (m : Moment Written). own_shift m.before m.now (ack_of base (acked base m.before) m.now) i) (moments ws)

-- How many offsets have an octet.

-- counts over consecutive numbers
agree : (p q : ℕ → Bool) (a n : ℕ) → ((m : ℕ) → a ≤ m → m < a + n → p m ≡ q m) → count_by p (range_with_len a n) ≡ count_by q (range_with_len a n)
agree p q a zero e = refl
agree p q a (suc n) e =
    let rest = agree p q (a + 1) n (λ m low high. e m (omega arith) (omega arith)) in
    let here : cond {A = ℕ} (p a) 1 0 ≡ cond {A = ℕ} (q a) 1 0 = ap (λ b. cond b 1 0) (e a (omega arith) (omega arith)) in
    omega (arith, here, rest, sum_by-cons (λ k. cond (p k) 1 0) a (range_with_len (a + 1) n), sum_by-cons (λ k. cond (q k) 1 0) a (range_with_len (a + 1) n))

none_counted : (p : ℕ → Bool) (a n : ℕ) → ((m : ℕ) → a ≤ m → m < a + n → p m ≡ false) → count_by p (range_with_len a n) ≡ 0
none_counted p a zero e = refl
none_counted p a (suc n) e =
    let rest = none_counted p (a + 1) n (λ m low high. e m (omega arith) (omega arith)) in
    let here : cond {A = ℕ} (p a) 1 0 ≡ 0 = ap (λ b. cond b 1 0) (e a (omega arith) (omega arith)) in
    omega (arith, here, rest, sum_by-cons (λ k. cond (p k) 1 0) a (range_with_len (a + 1) n))

parts : (p : ℕ → Bool) (a m n : ℕ) → count_by p (range_with_len a (m + n)) ≡ count_by p (range_with_len a m) + count_by p (range_with_len (a + m) n)
parts p a zero n =
    let less : 0 + n ≡ n = omega arith in
    let same : a ≡ a + 0 = omega arith in
    ap (λ k. count_by p (range_with_len a k)) less ∙ (ap (λ k. count_by p (range_with_len k n)) same ∙ omega arith)
parts p a (suc m) n =
    let rest = parts p (a + 1) m n in
    let sum : suc m + n ≡ suc (m + n) = omega arith in
    let whole : count_by p (range_with_len a (suc m + n)) ≡ count_by p (range_with_len a (suc (m + n))) = ap (λ k. count_by p (range_with_len a k)) sum in
    let next : a + 1 + m ≡ a + suc m = omega arith in
    let on : count_by p (range_with_len (a + 1 + m) n) ≡ count_by p (range_with_len (a + suc m) n) = ap (λ k. count_by p (range_with_len k n)) next in
    omega (arith, rest, whole, on, sum_by-cons (λ k. cond (p k) 1 0) a (range_with_len (a + 1) (m + n)), sum_by-cons (λ k. cond (p k) 1 0) a (range_with_len (a + 1) m))

either : (p q : ℕ → Bool) (a n : ℕ) → count_by (λ k. p k || q k) (range_with_len a n) ≡ count_by p (range_with_len a n) + count_by (λ k. q k && not (p k)) (range_with_len a n)
either p q a zero = refl
either p q a (suc n) =
    let rest = either p q (a + 1) n in
    let here = step (p a) (q a) in
    omega (arith, rest, here, sum_by-cons (λ k. cond (p k || q k) 1 0) a (range_with_len (a + 1) n), sum_by-cons (λ k. cond (p k) 1 0) a (range_with_len (a + 1) n), sum_by-cons (λ k. cond (q k && not (p k)) 1 0) a (range_with_len (a + 1) n))
  where
    step : (b c : Bool) → cond {A = ℕ} (b || c) 1 0 ≡ cond {A = ℕ} b 1 0 + cond {A = ℕ} (c && not b) 1 0
    step true true = refl
    step true false = refl
    step false true = refl
    step false false = refl

-- nothing is counted before `lo` and from `hi` on
between : (p : ℕ → Bool) (n lo hi : ℕ) → lo ≤ hi → hi ≤ n → ((m : ℕ) → m < lo → p m ≡ false) → ((m : ℕ) → hi ≤ m → p m ≡ false) → count_by p (range_with_len 0 n) ≡ count_by p (range_with_len lo (hi - lo))
between p n lo hi order within low high =
    let whole : n ≡ lo + (hi - lo + (n - hi)) = omega arith in
    let before = none_counted p 0 lo (λ m _ less. low m (omega arith)) in
    let behind = none_counted p (lo + (hi - lo)) (n - hi) (λ m less _. high m (omega arith)) in
    let first : 0 + lo ≡ lo = omega arith in
    let on : count_by p (range_with_len (0 + lo) (hi - lo + (n - hi))) ≡ count_by p (range_with_len lo (hi - lo + (n - hi))) = ap (λ k. count_by p (range_with_len k (hi - lo + (n - hi)))) first in
    ap (λ k. count_by p (range_with_len 0 k)) whole
    ∙ (parts p 0 lo (hi - lo + (n - hi)) ∙ omega (arith, on, before, behind, parts p lo (hi - lo) (n - hi)))

-- no octet is at or past the top
first_none : {A B : Type 0} (f : A → Option B) (g : A → ℕ) (n : ℕ) → ((x : A) → g x ≤ n → f x ≡ None) → (xs : List A) → greatest g xs ≤ n → first_of f xs ≡ None
first_none f g n none [] h = refl
first_none f g n none (x ∷ xs) h = let a : g x ≤ n = omega arith in let b : greatest g xs ≤ n = omega arith in (λ i. option_or (none x a i) (first_none f g n none xs b i))

natural_is : (z : ℤ) (i : ℕ) → natural z ≡ Some i → z ≡ pos i
natural_is (pos n) i e = let s : n ≡ i = cc in ap (λ n. pos n) s
natural_is (negsuc n) i e = cc

behind_all : (at : ℤ) (len n i : ℕ) → nat_of (at +ℤ pos len) ≤ n → pos n -ℤ at ≡ pos i → len ≤ i
behind_all (pos k) len n i less is = omega (arith, ints)
behind_all (negsuc k) len n i less is = by (negsuc k +ℤ pos len) refl
  where
    by : (z : ℤ) → negsuc k +ℤ pos len ≡ z → len ≤ i
    by (pos j) e = let l : j ≤ n = subst (λ y. nat_of y ≤ n) e less in omega (arith, ints, l, e, is)
    by (negsuc j) e = omega (arith, ints, e, is)

past_place : (base a n : ℕ) (w : Written) → top_place base a w ≤ n → octet_at base a (pos n) w ≡ None
past_place base a n w = by w.inward w.octets
  where
    at : ℤ
    at = off base a w.seq

    got : (os : List ℕ) (o : Option ℕ) → natural (pos n -ℤ at) ≡ o → nat_of (at +ℤ pos (length os)) ≤ n → get_at os o ≡ None
    got os None e less = refl
    got os (Some i) e less = slice_get_past os i (behind_all at (length os) n i less (natural_is (pos n -ℤ at) i e))

    none : (o : Option ℕ) → get_at [] o ≡ None
    none None = refl
    none (Some i) = refl

    by : (b : Bool) (os : List ℕ) → (if b && nat_lt 0 (length os) then nat_of (at +ℤ pos (length os)) else 0) ≤ n → (if b then get_at os (natural (pos n -ℤ at)) else None) ≡ None
    by false os less = refl
    by true [] less = none (natural (pos n -ℤ at))
    by true (x ∷ xs) less =
        let some : nat_lt 0 (length (x ∷ xs)) ≡ true = grind (arith, nat_tests) in
        got (x ∷ xs) (natural (pos n -ℤ at)) refl (subst (λ b. (if b then nat_of (at +ℤ pos (length (x ∷ xs))) else 0) ≤ n) some less)

pub first_past : (base : ℕ) (ws : List Written) (n : ℕ) → top base ws ≤ n → first base ws (pos n) ≡ None
first_past base ws n h = first_none (λ (m : Moment Written). octet_at base (acked base m.before) (pos n) m.now) (λ (m : Moment Written). top_place base (acked base m.before) m.now) n (λ m. past_place base (acked base m.before) n m.now) (moments ws) h

pub octets_are_below_top : OctetsAreBelowTop
octets_are_below_top base ws = record {
  none_past = first_past base ws;
  most = omega (arith, count_by-le-length (λ n. is_some (first base ws (pos n))) (range_with_len 0 (top base ws)), length-range_with_len 0 (top base ws));
}

-- the same number of octets if neither top nor octets change
pub count_same : (base : ℕ) (ws vs : List Written) → top base vs ≡ top base ws → ((o : ℤ) → first base vs o ≡ first base ws o) → octet_count base vs ≡ octet_count base ws
count_same base ws vs t f = λ i. count_by (λ n. is_some (f (pos n) i)) (range_with_len 0 (t i))

-- none if nothing was written inwards
pub count_none : (base : ℕ) (ws : List Written) → top base ws ≡ 0 → octet_count base ws ≡ 0
count_none base ws t = ap (λ n. count_by (λ n. is_some (first base ws (pos n))) (range_with_len 0 n)) t

some_or : {A : Type 0} (o p : Option A) → is_some (option_or o p) ≡ (is_some o || is_some p)
some_or None p = refl
some_or (Some x) p = refl

not_some : {A : Type 0} (o : Option A) → not (is_some o) ≡ is_none o
not_some None = refl
not_some (Some x) = refl

-- the octets of a frame from `lo` to below `hi` are added at offsets that had none
pub count_push : (base lo hi : ℕ) (ws : List Written) (w : Written) → lo ≤ hi → top base (ws ++ w ∷ []) ≡ max (top base ws) hi → ((n : ℕ) → is_some (octet_at base (acked base ws) (pos n) w) ≡ (nat_le lo n && nat_lt n hi)) → octet_count base (ws ++ w ∷ []) ≡ octet_count base ws + fresh_places base ws lo hi
count_push base lo hi ws w order t adds =
    (λ i. count_by (λ n. is_some (octet_push base ws w (pos n) i)) (range_with_len 0 (t i)))
    ∙ (λ i. count_by (λ n. (some_or (first base ws (pos n)) (octet_at base (acked base ws) (pos n) w) ∙ ap (λ b. has n || b) (adds n)) i) (range_with_len 0 m))
    ∙ either has (λ n. nat_le lo n && nat_lt n hi) 0 m
    ∙ (λ i. old i + new i)
  where
    m : ℕ
    m = max (top base ws) hi

    has : ℕ → Bool
    has n = is_some (first base ws (pos n))

    old : count_by has (range_with_len 0 m) ≡ octet_count base ws
    old =
        let all : top base ws - 0 ≡ top base ws = omega arith in
        between has m 0 (top base ws) (omega arith) (omega arith) (λ n less. absurd (omega arith)) (λ n less. ap is_some (first_past base ws n less))
        ∙ ap (λ k. count_by has (range_with_len 0 k)) all

    cut : (b c d : Bool) → (b && c) ≡ false → ((b && c) && d) ≡ false
    cut b c d e = rw e refl

    before : (n : ℕ) → n < lo → ((nat_le lo n && nat_lt n hi) && not (has n)) ≡ false
    before n less = let e : nat_le lo n ≡ false = grind (arith, nat_tests) in rw e refl

    behind : (n : ℕ) → hi ≤ n → ((nat_le lo n && nat_lt n hi) && not (has n)) ≡ false
    behind n less = let e : nat_lt n hi ≡ false = grind (arith, nat_tests) in cut (nat_le lo n) (nat_lt n hi) (not (has n)) (ap (λ b. nat_le lo n && b) e ∙ no_right (nat_le lo n))
      where
        no_right : (b : Bool) → (b && false) ≡ false
        no_right true = refl
        no_right false = refl

    inside : (n : ℕ) → lo ≤ n → n < lo + (hi - lo) → ((nat_le lo n && nat_lt n hi) && not (has n)) ≡ is_none (first base ws (pos n))
    inside n low high =
        let a : nat_le lo n ≡ true = grind (arith, nat_tests) in
        let b : nat_lt n hi ≡ true = grind (arith, nat_tests) in
        (λ i. (a i && b i) && not (has n)) ∙ not_some (first base ws (pos n))

    new : count_by (λ n. (nat_le lo n && nat_lt n hi) && not (has n)) (range_with_len 0 m) ≡ fresh_places base ws lo hi
    new =
        between (λ n. (nat_le lo n && nat_lt n hi) && not (has n)) m lo hi order (omega arith) before behind
        ∙ agree (λ n. (nat_le lo n && nat_lt n hi) && not (has n)) (λ n. is_none (first base ws (pos n))) lo (hi - lo) inside
