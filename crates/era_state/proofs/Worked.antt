-- The worked connections are emitted if a clash is settled, and not if it is forwarded.
use Rattle.std.proofs.Common.{◌≡◌, inl, inr, ℕ, zero, suc, ◌+◌, List, [], ◌∷◌, ◌++◌, Some, true, false, refl, ap, arith, pos, slice_get}
use Rattle.wire_base.specs.Segments.{Written}
use Rattle.era_state.specs.declared.offset.Interval.{Interval}
use Rattle.era_state.specs.Offsets.{number_in}
use Rattle.era_state.specs.Quantities.{first}
use Rattle.era_state.specs.Emission.{IsKeptFrame, AreEmitted}
use Rattle.era_state.specs.WorkedCases.{segment, opening, abcd, abXd, fin, wxyz, turning, SettledIsEmitted, ClashIsNotEmitted, TurnedIsEmitted}
use Rattle.era_state.proofs.Quantities.{first_past}
use Rattle.era_state.proofs.EmittedSegments.{emitted_joins, emitted_is_told}

whole : Interval
whole = record { lo = 0; hi = 4; fin = false; below = false; window = false; end = false }

none : Interval
none = record { lo = 4; hi = 4; fin = true; below = false; window = false; end = false }

kept_first : IsKeptFrame opening abcd
unfolding whole
kept_first = record {
  base = 1000;
  based = refl;
  came = abcd;
  interval = whole;
  kept = record { spans = record { lo_is = refl; hi_is = refl; fin_is = refl }; below_is = refl; window_is = refl; end_is = refl };
  framed = record { inward = refl; no_syn = refl; fin_is = refl; long = refl; sequence_is = refl };
  stays = λ index octet other has e. let gone = first_past 1000 opening (0 + index) (omega arith) in absurd (cc (gone, e));
}

same_octet : (index octet other : ℕ) → slice_get abcd.octets index ≡ Some octet → first 1000 (opening ++ abcd ∷ []) (pos (0 + index)) ≡ Some other → octet ≡ other
same_octet zero octet other has e = cc (has, e)
same_octet (suc zero) octet other has e = cc (has, e)
same_octet (suc (suc zero)) octet other has e = cc (has, e)
same_octet (suc (suc (suc zero))) octet other has e = cc (has, e)
same_octet (suc (suc (suc (suc n)))) octet other has e = absurd (cc has)

kept_again : IsKeptFrame (opening ++ abcd ∷ []) abcd
unfolding whole
kept_again = record {
  base = 1000;
  based = refl;
  came = abXd;
  interval = whole;
  kept = record { spans = record { lo_is = refl; hi_is = refl; fin_is = refl }; below_is = refl; window_is = refl; end_is = refl };
  framed = record { inward = refl; no_syn = refl; fin_is = refl; long = refl; sequence_is = refl };
  stays = same_octet;
}

kept_fin : IsKeptFrame (opening ++ abcd ∷ abcd ∷ []) fin
unfolding none
kept_fin = record {
  base = 1000;
  based = refl;
  came = fin;
  interval = none;
  kept = record { spans = record { lo_is = refl; hi_is = refl; fin_is = refl }; below_is = refl; window_is = refl; end_is = refl };
  framed = record { inward = refl; no_syn = refl; fin_is = refl; long = refl; sequence_is = refl };
  stays = λ index octet other has e. absurd (cc has);
}

pub settled_is_emitted : SettledIsEmitted
settled_is_emitted = (
  inr (inl record { inward = refl; no_fin = refl; no_octets = refl; syn = λ _. refl }),
  (
    inl record { outward = refl; window = omega arith },
    (
      inr (inl record { inward = refl; no_fin = refl; no_octets = refl; syn = λ has. absurd (cc has) }),
      (inr (inr kept_first), (inr (inr kept_again), (inr (inr kept_fin), tt))),
    ),
  ),
)

pub clash_is_not_emitted : ClashIsNotEmitted
clash_is_not_emitted emitted =
    let before : AreEmitted [] (opening ++ abcd ∷ []) = ((emitted_joins [] (opening ++ abcd ∷ []) (abcd ∷ fin ∷ [])).0 settled_is_emitted).0 in
    let told = emitted_is_told 1000 (opening ++ abcd ∷ []) abXd (λ number e. cc e) before emitted in
    let other : Some 99 ≡ Some 88 = told.octets 2 88 refl in
    let e : 99 ≡ 88 = ap number_in other in
    absurd (omega (arith, e))

at_turn : Interval
at_turn = record { lo = 4294967294; hi = 4294967298; fin = false; below = false; window = false; end = false }

past_turn : Interval
past_turn = record { lo = 4294967297; hi = 4294967300; fin = false; below = true; window = false; end = false }

before_turn : List Written
before_turn = opening ++ segment false 5001 2147484647 16 [] ∷ segment false 5001 998 16 [] ∷ []

kept_at_turn : IsKeptFrame before_turn wxyz
unfolding at_turn before_turn
kept_at_turn = record {
  base = 1000;
  based = refl;
  came = wxyz;
  interval = at_turn;
  kept = record { spans = record { lo_is = refl; hi_is = refl; fin_is = refl }; below_is = refl; window_is = refl; end_is = refl };
  framed = record { inward = refl; no_syn = refl; fin_is = refl; long = refl; sequence_is = refl };
  stays = λ index octet other has e. let gone = first_past 1000 before_turn (4294967294 + index) (omega arith) in absurd (cc (gone, e));
}

-- `Abcd` at 1000
abbrev Abcd : Written
Abcd = segment true 1000 5001 24 (65 ∷ 98 ∷ 99 ∷ 100 ∷ [])

zcd : Written
zcd = segment true 1001 5001 24 (122 ∷ 99 ∷ 100 ∷ [])

same_past_turn : (index octet other : ℕ) → slice_get zcd.octets index ≡ Some octet → first 1000 (turning ++ segment false 5001 1001 16 [] ∷ []) (pos (4294967297 + index)) ≡ Some other → octet ≡ other
unfolding zcd
same_past_turn zero octet other has e = cc (has, e)
same_past_turn (suc zero) octet other has e = absurd (cc e)
same_past_turn (suc (suc zero)) octet other has e = absurd (cc e)
same_past_turn (suc (suc (suc n))) octet other has e = absurd (cc has)

kept_past_turn : IsKeptFrame (turning ++ segment false 5001 1001 16 [] ∷ []) zcd
unfolding past_turn zcd
kept_past_turn = record {
  base = 1000;
  based = refl;
  came = Abcd;
  interval = past_turn;
  kept = record { spans = record { lo_is = refl; hi_is = refl; fin_is = refl }; below_is = refl; window_is = refl; end_is = refl };
  framed = record { inward = refl; no_syn = refl; fin_is = refl; long = refl; sequence_is = refl };
  stays = same_past_turn;
}

pub turned_is_emitted : TurnedIsEmitted
unfolding before_turn zcd
turned_is_emitted =
    let opens : AreEmitted [] opening = ((emitted_joins [] opening (abcd ∷ abcd ∷ fin ∷ [])).0 settled_is_emitted).0 in
    (emitted_joins [] opening (segment false 5001 2147484647 16 [] ∷ segment false 5001 998 16 [] ∷ wxyz ∷ segment false 5001 1001 16 [] ∷ zcd ∷ [])).1
    (opens, (inl record { outward = refl; window = omega arith }, (inl record { outward = refl; window = omega arith }, (inr (inr kept_at_turn), (inl record { outward = refl; window = omega arith }, (inr (inr kept_past_turn), tt))))))
