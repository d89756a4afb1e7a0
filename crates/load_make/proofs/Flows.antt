-- The states of a load's connections after each record, and the record at each position.
use Rattle.std.proofs.Common.{◌≡◌, ◌≢◌, ℕ, zero, suc, ◌+◌, ◌*◌, ◌^◌, ◌<◌, ◌≤◌, ◌==◌, ◌||◌, inl, inr, Bool, true, false, cond, List, [], ◌∷◌, length, get_or, refl, sym, ap, subst, ◌∙◌, add-one, arith, ◌%◌, ◌++◌, take, drop, Some, None, slice_get, filter}
use Rattle.std.proofs.Math.ListN.{set, length-set}
use Rattle.std.proofs.lemmas.Bool.Decides.{eqb_tells}
use Rattle.std.proofs.lemmas.Grind.{get_or-set_at, common_steps}
use Rattle.std.proofs.lemmas.List.{get_or-set_other, length-map}
use Rattle.std.proofs.lemmas.List.FromFn.{fill_by_all, length-map-range_with_len, get_or-map-range_with_len}
use Rattle.std.proofs.lemmas.List.Sums.{length-filter, count_by-le-length}
use Rattle.std.proofs.lemmas.Option.{slice_get-get_or, slice_get_past}
use Rattle.load_make.specs.declared.flow.Flow.{Flow}
use Rattle.load_make.specs.declared.flow.Flow.TheVariants.{New}
use Rattle.load_make.specs.declared.flow.Stream.{Stream}
use Rattle.load_make.specs.NumberSequence.{following, number_at, numbers_before, actions_before, flow_of, action_of}
use Rattle.load_make.specs.working.FlowBounds.{IsWithin, flow_behind}
use Rattle.load_make.specs.Flows.{is_new, is_again, is_changed, flow_after, stream_after, turn_of}
use Rattle.load_make.specs.working.FlowsBefore.{flows_before, IsInStep}
use Rattle.load_make.specs.declared.flow.Turn.{Turn}
use Rattle.load_make.specs.Packets.{segment_for, packet_octets}
use Rattle.load_make.specs.LoadRecords.{Generated, record_at, record_with, segment_numbered}

-- The states of the connections after one more record.

flow-more : (action : ℕ) (earlier : List ℕ) → flow_behind action (flow_after earlier) ≡ flow_after (action ∷ earlier)
flow-more action [] = refl
flow-more action (first ∷ []) = refl
flow-more action (before ∷ again ∷ earlier) = refl

-- a record changes only the state of its own connection
each-behind : (seed place x flow : ℕ) (is_own : Bool) → x ≡ number_at seed place → (flow_of x == flow) ≡ is_own
    → flow_after (actions_before seed flow (suc place)) ≡ cond is_own (flow_behind (action_of x) (flow_after (actions_before seed flow place))) (flow_after (actions_before seed flow place))
each-behind seed place x flow true is own = rw (← is, own) (sym (flow-more (action_of x) (actions_before seed flow place)))
each-behind seed place x flow false is own = rw (← is, own) refl

pub flow-at : (seed place flow : ℕ) (flows : List Flow) → flows ≡ flows_before seed place → flow < 64 → get_or flows flow New ≡ flow_after (actions_before seed flow place)
flow-at seed place flow flows are few =
    ap (λ fs. get_or fs flow New) are ∙ get_or-map-range_with_len (λ f. flow_after (actions_before seed f place)) 0 64 flow flow New few (omega arith)

-- the states after one more record, with one of them replaced
replaced : (seed place x : ℕ) (flows : List Flow) (next : Flow) → flows ≡ flows_before seed place → x ≡ number_at seed place → flow_of x < 64
    → next ≡ flow_behind (action_of x) (get_or flows (flow_of x) New) → set flows (flow_of x) next ≡ flows_before seed (suc place)
replaced seed place x flows next are is few behind =
    fill_by_all (λ f. flow_after (actions_before seed f (suc place))) (set flows (flow_of x) next) 64 New (rw length-set long) each
  where
    long : length flows ≡ 64
    long = ap length are ∙ length-map-range_with_len (λ f. flow_after (actions_before seed f place)) 0 64

    each : (k : ℕ) → k < 64 → get_or (set flows (flow_of x) next) k New ≡ flow_after (actions_before seed k (suc place))
    each k inside = elim (eqb_tells (flow_of x) k) [
      | inl own ↦ get_or-set_at flows (flow_of x) k next New (sym own.1) (omega (arith, long)) ∙ behind
          ∙ ap (flow_behind (action_of x)) (ap (λ f. get_or flows f New) own.1 ∙ flow-at seed place k flows are inside) ∙ sym (each-behind seed place x k true is own.0)
      | inr other ↦ get_or-set_other flows (flow_of x) k next New (λ e. other.1 (sym e)) ∙ flow-at seed place k flows are inside ∙ sym (each-behind seed place x k false is other.0)
    ]

-- the state of a load after one more record
pub in-step : (seed count made number x flow : ℕ) (flows : List Flow) (next : Flow) → IsInStep seed count made number flows → made ≢ count → x ≡ following number → flow ≡ flow_of x → flow < 64
    → next ≡ flow_behind (action_of x) (get_or flows flow New) → IsInStep seed count (made + 1) x (set flows flow next)
in-step seed count made number x flow flows next step more follows own few behind = record {
  within = omega (arith, step.within, more);
  few = step.few;
  follows = rw add-one (follows ∙ ap following step.follows);
  each_flow = rw (add-one, own) (replaced seed made x flows next step.each_flow (follows ∙ ap following step.follows) (omega (arith, own)) (behind ∙ ap (λ f. flow_behind (action_of x) (get_or flows f New)) own));
}

-- a record sends at most 512 octets more, and acknowledges no more than were sent
bounded : (most : ℕ) (s : Stream) (a b : Bool) → s.acked ≤ s.sent → s.sent ≤ most
    → let t = cond a (record s { sent = s.sent + 512 }) (cond b s (record s { acked = s.sent })) in (t.acked ≤ t.sent) × (t.sent ≤ most + 512)
bounded most s true b sound small = (omega arith, omega arith)
bounded most s false true sound small = (sound, omega arith)
bounded most s false false sound small = (omega arith, omega arith)

stream-bounded : (actions : List ℕ) → ((stream_after actions).acked ≤ (stream_after actions).sent) × ((stream_after actions).sent ≤ 512 * length actions)
stream-bounded [] = (omega arith, omega arith)
stream-bounded (action ∷ []) = (omega arith, omega arith)
stream-bounded (action ∷ first ∷ []) = (omega arith, omega arith)
stream-bounded (action ∷ before ∷ again ∷ earlier) =
    let s = stream_after (before ∷ again ∷ earlier) in
    let h = stream-bounded (before ∷ again ∷ earlier) in
    let t = bounded (512 * length (before ∷ again ∷ earlier)) s (is_new action s) (is_again action s || is_changed action s) h.0 h.1 in
    (t.0, omega (arith, t.1))

length-numbers : (seed place : ℕ) → length (numbers_before seed place) ≡ place
length-numbers seed zero = refl
length-numbers seed (suc place) = ap suc (length-numbers seed place)

length-actions : (seed flow place : ℕ) → length (actions_before seed flow place) ≤ place
length-actions seed flow place =
    let own = λ (x : ℕ). flow_of x == flow in
    let xs = numbers_before seed place in
    omega (arith, length-map (filter own xs) action_of, length-filter own xs, count_by-le-length own xs, length-numbers seed place)

after-within : (actions : List ℕ) → length actions < 2 ^ 32 → IsWithin (2 ^ 63) (flow_after actions)
after-within [] few = tt
after-within (first ∷ []) few = tt
after-within (action ∷ before ∷ earlier) few =
    let h = stream-bounded (action ∷ before ∷ earlier) in
    (h.0, omega (arith, h.1, few))

pub flow-within : (seed count made number flow : ℕ) (flows : List Flow) → IsInStep seed count made number flows → flow < 64 → IsWithin (2 ^ 63) (get_or flows flow New)
flow-within seed count made number flow flows step few =
    let P = λ (f : Flow). IsWithin (2 ^ 63) f in
    subst P (sym (flow-at seed made flow flows step.each_flow few)) (after-within (actions_before seed flow made) (omega (arith, length-actions seed flow made, step.within, step.few)))

-- The record at a position of a load, and the octets of two parts of a buffer.

pub generated-at : (seed count place : ℕ) → place < count → slice_get (Generated seed count) place ≡ Some (record_at seed place)
unfolding Generated
generated-at seed count place h =
    slice_get-get_or (Generated seed count) place (record_at seed place) (rw length-map-range_with_len h)
    ∙ ap Some (get_or-map-range_with_len (record_at seed) 0 count place place (record_at seed place) h (omega arith))

pub generated-end : (seed count : ℕ) → slice_get (Generated seed count) count ≡ None
unfolding Generated
generated-end seed count = slice_get_past (Generated seed count) count (omega (arith, length-map-range_with_len (record_at seed) 0 count))

-- the record at a position is the next one of its connection
pub next-record : (seed count made number x flow : ℕ) (flows : List Flow) (turn : Turn) (octets : List ℕ) → IsInStep seed count made number flows → x ≡ following number → flow ≡ flow_of x → flow < 64
    → turn ≡ turn_of (action_of x) (get_or flows flow New) → octets ≡ packet_octets (made % 65536) (segment_for flow turn) → record_with made octets ≡ record_at seed made
unfolding record_at
next-record seed count made number x flow flows turn octets step follows own few does written =
    let is : x ≡ number_at seed made = follows ∙ ap following step.follows in
    let stands : get_or flows flow New ≡ flow_after (actions_before seed (flow_of x) made) = flow-at seed made flow flows step.each_flow few ∙ ap (λ f. flow_after (actions_before seed f made)) own in
    ap (record_with made) (written ∙ (λ i. packet_octets (made % 65536) (segment_for (own i) ((does ∙ ap (turn_of (action_of x)) stands) i)))) ∙ ap (λ n. record_with made (packet_octets (made % 65536) (segment_numbered seed made n))) is

-- each part of the buffer is filled from its start, and the octets filled are the two parts one
-- after the other
pub filled : (a b : ℕ) (h m front back x y : List ℕ) → a ≡ 20 → length front ≡ 20 → length h ≡ 20 → length m ≡ b → x ≡ h ++ drop 20 front → y ≡ m ++ drop b back → take (a + b) (x ++ y) ≡ h ++ m
filled a b h m front back x y size full of_h of_m first second = grind (arith, common_steps)
