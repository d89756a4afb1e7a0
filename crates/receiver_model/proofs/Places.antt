-- Packets with their offsets, and with the acks before them: a fact of each packet, and that the
-- octets of each stay near its ack.
use Rattle.std.proofs.Common.{◌≡◌, ℕ, zero, suc, ◌+◌, ◌^◌, ◌<◌, Some, List, [], ◌∷◌, ◌++◌, length, refl, ap, subst, ℤ, pos, ◌+ℤ◌, ◌≤ℤ◌, IsTrue, slice_get}
use Rattle.wire_base.specs.Tcp as tcp
use Rattle.wire_base.specs.Segments.{Segment, segment_of}

-- each packet with its offset, in order
abbrev pub Each : (ℤ → List ℕ → Type 0) → List ℤ → List (List ℕ) → Type 0
Each P [] [] = Unit {0}
Each P [] (q ∷ ps) = ⊥
Each P (y ∷ zs) [] = ⊥
Each P (y ∷ zs) (q ∷ ps) = P y q × Each P zs ps

pub each_at :
    (P : ℤ → List ℕ → Type 0) (zs : List ℤ) (ps : List (List ℕ)) (k : ℕ) (z : ℤ) (p : List ℕ) →
    Each P zs ps → slice_get zs k ≡ Some z → slice_get ps k ≡ Some p → P z p
each_at P [] [] k z p h e f = absurd (cc)
each_at P [] (q ∷ ps) k z p h e f = absurd h
each_at P (y ∷ zs) [] k z p h e f = absurd h
each_at P (y ∷ zs) (q ∷ ps) zero z p h e f =
    let a : y ≡ z = cc e in
    let b : q ≡ p = cc f in
    subst (λ (r : ℤ × List ℕ). P r.0 r.1) (λ i. (a i, b i)) h.0
each_at P (y ∷ zs) (q ∷ ps) (suc k) z p h e f = each_at P zs ps k z p h.1 e f

pub each_long : (P : ℤ → List ℕ → Type 0) (zs : List ℤ) (ps : List (List ℕ)) → Each P zs ps → length zs ≡ length ps
each_long P [] [] h = refl
each_long P [] (q ∷ ps) h = absurd h
each_long P (y ∷ zs) [] h = absurd h
each_long P (y ∷ zs) (q ∷ ps) h = ap suc (each_long P zs ps h.1)

pub each_append :
    (P : ℤ → List ℕ → Type 0) (zs : List ℤ) (ps : List (List ℕ)) (ys : List ℤ) (qs : List (List ℕ)) →
    Each P zs ps → Each P ys qs → Each P (zs ++ ys) (ps ++ qs)
each_append P [] [] ys qs h g = g
each_append P [] (p ∷ ps) ys qs h g = absurd h
each_append P (z ∷ zs) [] ys qs h g = absurd h
each_append P (z ∷ zs) (p ∷ ps) ys qs h g = (h.0, each_append P zs ps ys qs h.1 g)

pub each_map :
    (P Q : ℤ → List ℕ → Type 0) (zs : List ℤ) (ps : List (List ℕ)) → ((z : ℤ) (p : List ℕ) → P z p → Q z p) → Each P zs ps → Each Q zs ps
each_map P Q [] [] f h = tt
each_map P Q [] (p ∷ ps) f h = absurd h
each_map P Q (z ∷ zs) [] f h = absurd h
each_map P Q (z ∷ zs) (p ∷ ps) f h = (f z p h.0, each_map P Q zs ps f h.1)

-- each packet with its ack and its offset, in order
abbrev pub EachAck : (ℕ → ℤ → List ℕ → Type 0) → List ℕ → List ℤ → List (List ℕ) → Type 0
EachAck P [] [] [] = Unit {0}
EachAck P (w ∷ ws) (z ∷ zs) (p ∷ ps) = P w z p × EachAck P ws zs ps
EachAck P ws zs ps = ⊥

pub each_ack_at :
    (P : ℕ → ℤ → List ℕ → Type 0) (ws : List ℕ) (zs : List ℤ) (ps : List (List ℕ)) (k w : ℕ) (z : ℤ) (p : List ℕ) →
    EachAck P ws zs ps → slice_get ws k ≡ Some w → slice_get zs k ≡ Some z → slice_get ps k ≡ Some p → P w z p
each_ack_at P [] [] [] k w z p h d e f = absurd (cc)
each_ack_at P (v ∷ ws) (y ∷ zs) (q ∷ ps) zero w z p h d e f =
    let a : v ≡ w = cc d in
    let b : y ≡ z = cc e in
    let c : q ≡ p = cc f in
    subst (λ (r : ℕ × ℤ × List ℕ). P r.0 r.1 r.2) (λ i. (a i, b i, c i)) h.0
each_ack_at P (v ∷ ws) (y ∷ zs) (q ∷ ps) (suc k) w z p h d e f = each_ack_at P ws zs ps k w z p h.1 d e f
each_ack_at P ws zs ps k w z p h d e f = absurd h

pub each_ack_long : (P : ℕ → ℤ → List ℕ → Type 0) (ws : List ℕ) (zs : List ℤ) (ps : List (List ℕ)) → EachAck P ws zs ps → length ws ≡ length ps
each_ack_long P [] [] [] h = refl
each_ack_long P (w ∷ ws) (z ∷ zs) (p ∷ ps) h = ap suc (each_ack_long P ws zs ps h.1)
each_ack_long P ws zs ps h = absurd h

pub each_ack_append :
    (P : ℕ → ℤ → List ℕ → Type 0) (ws : List ℕ) (zs : List ℤ) (ps : List (List ℕ)) (vs : List ℕ) (ys : List ℤ) (qs : List (List ℕ)) →
    EachAck P ws zs ps → EachAck P vs ys qs → EachAck P (ws ++ vs) (zs ++ ys) (ps ++ qs)
each_ack_append P [] [] [] vs ys qs h k = k
each_ack_append P (w ∷ ws) (z ∷ zs) (p ∷ ps) vs ys qs h k = (h.0, each_ack_append P ws zs ps vs ys qs h.1 k)
each_ack_append P ws zs ps vs ys qs h k = absurd h

-- the octets and the FIN of a segment at this offset are near this ack
pub record IsNearAck (ack : ℕ) (place : ℤ) (s : Segment) : Type 0 where
  pub octets :
      (index : ℕ) → index < length s.octets →
      (pos ack ≤ℤ (place +ℤ pos index)) × ((place +ℤ pos index) ≤ℤ pos (ack + 2 ^ 30))
  pub fin :
      IsTrue (tcp.has_fin s.flags) →
      (pos 0 ≤ℤ (place +ℤ pos (length s.octets))) × ((place +ℤ pos (length s.octets)) ≤ℤ pos (ack + 2 ^ 30))

-- those of the packet's segment are, if it has one
abbrev pub StaysNear : ℕ → ℤ → List ℕ → Type 0
StaysNear ack place p = (s : Segment) → segment_of p ≡ Some s → IsNearAck ack place s
