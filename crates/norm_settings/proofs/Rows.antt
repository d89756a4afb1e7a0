-- The `Row` entries of clap: the values found under each option.
use Rattle.std.proofs.Common.{◌≡◌, List, [], ◌∷◌, ◌++◌, Bool, true, false, Some, None, refl, sym, ap, ◌∙◌, codes, option_map, find, if◌then◌else◌, append-nil, bytes_eq, Option}
use Rattle.std.proofs.lemmas.Slice.Eq.{bytes_eq-Decides}
use Rattle.clap.specs.declared.builder.value_parser.Reading.{Reading}
use Rattle.clap.specs.declared.parser.matches.ValueSource.TheVariants.{CommandLine}
use Rattle.clap.specs.declared.parser.matches.ValueSource.{ValueSource}
use Rattle.clap.specs.Walk.{Row, at_row, without, with_values, more_values, settled_rows, used, used_by_id, reading_by}
use Rattle.clap.specs.Simple.{filled}
use Rattle.norm_settings.specs.OptionTable.{Text, name_of, kind_of}
use Rattle.norm_settings.specs.RunWords.{PlainUse, given}
use Rattle.norm_settings.specs.declared.options.Choice.{Choice}
use Rattle.norm_settings.specs.declared.options.Choice.TheVariants.{Hops}
use Rattle.norm_settings.specs.working.ClapCommands.{rule_by}
use Rattle.norm_settings.specs.declared.options.Kind.{Kind}
use Rattle.norm_settings.specs.declared.options.Kind.TheVariants.{Alone}
use Rattle.norm_settings.proofs.OptionSteps.{same_bytes, bytes_self, run_rules, rule, has}

abbrev values_of : Option Row → Option (List Text)
values_of = option_map (λ r. r.values)

-- the values under an id
abbrev pub found : Text → List Row → Option (List Text)
found id rows = values_of (find (λ r. bytes_eq r.id id) rows)

abbrev row : Text → Reading → ValueSource → List Text → Row
row id how source vs = record { id = id; values = vs; count = None; source = Some source; reading = how }

pick : (b : Bool) (r : Row) (other : Option Row) (xs ys zs : List Row) → values_of (if b then Some r else other) ≡ None → (values_of other ≡ None → ys ≡ zs) → (if b then xs else ys) ≡ zs
pick true r other xs ys zs e ih = cc
pick false r other xs ys zs e ih = ih e

pub at_absent : (id : Text) (change : Row → List Row) (missing rows : List Row) → found id rows ≡ None → at_row id change missing rows ≡ rows ++ missing
at_absent id change missing [] e = refl
at_absent id change missing (r ∷ rs) e =
    pick (bytes_eq r.id id) r (find (λ r. bytes_eq r.id id) rs) _ _ _ e (λ f. ap (λ l. r ∷ l) (at_absent id change missing rs f))

-- a use of an option that was not used before adds its entry
used_absent : (id : Text) (how : Reading) (vs : List Text) (rows : List Row) → found id rows ≡ None → with_values id how CommandLine vs (without id rows) ≡ rows ++ row id how CommandLine vs ∷ []
used_absent id how vs rows e =
    ap (with_values id how CommandLine vs) (at_absent id (λ _. []) [] rows e ∙ append-nil rows) ∙ at_absent id (more_values CommandLine vs) _ rows e

pass_by : (b : Bool) (r : Row) (x y : Option Row) → values_of x ≡ values_of y → values_of (if b then Some r else x) ≡ values_of (if b then Some r else y)
pass_by true r x y e = refl
pass_by false r x y e = e

found_other : (id : Text) (rows : List Row) (r : Row) → bytes_eq r.id id ≡ false → found id (rows ++ r ∷ []) ≡ found id rows
found_other id [] r e = rw e refl
found_other id (x ∷ xs) r e = pass_by (bytes_eq x.id id) x _ _ (found_other id xs r e)

skip_to : (b : Bool) (r : Row) (x y : Option Row) (vs : List Text) → values_of (if b then Some r else x) ≡ None → (values_of x ≡ None → values_of y ≡ Some vs) → values_of (if b then Some r else y) ≡ Some vs
skip_to true r x y vs e ih = cc
skip_to false r x y vs e ih = ih e

pub found_same : (id : Text) (rows : List Row) (r : Row) → bytes_eq r.id id ≡ true → found id rows ≡ None → found id (rows ++ r ∷ []) ≡ Some r.values
found_same id [] r e f = rw e refl
found_same id (x ∷ xs) r e f = skip_to (bytes_eq x.id id) x _ _ r.values f (found_same id xs r e)

abbrev pub chosen : {X : Type 0} → Bool → X → Option X → Option X
chosen b x other = if b then Some x else other

found_added : (b : Bool) (id : Text) (rows : List Row) (r : Row) → bytes_eq r.id id ≡ b → found r.id rows ≡ None → found id (rows ++ r ∷ []) ≡ chosen b r.values (found id rows)
found_added true id rows r e f = found_same id rows r e (ap (λ t. found t rows) (sym (same_bytes r.id id e)) ∙ f)
found_added false id rows r e f = found_other id rows r e

-- ---- an entry under another id

found_past : (id : Text) (xs ys : List Row) → found id xs ≡ None → found id (xs ++ ys) ≡ found id ys
found_past id [] ys e = refl
found_past id (x ∷ xs) ys e = past (bytes_eq x.id id) x (find (λ r. bytes_eq r.id id) xs) _ (found id ys) e (found_past id xs ys)
  where
    past : (b : Bool) (r : Row) (x y : Option Row) (z : Option (List Text)) → values_of (if b then Some r else x) ≡ None → (values_of x ≡ None → values_of y ≡ z) → values_of (if b then Some r else y) ≡ z
    past true r x y z e ih = cc
    past false r x y z e ih = ih e

either : (id : Text) (b : Bool) (r : Row) (changed rest others : List Row) → (b ≡ true → bytes_eq r.id id ≡ false) → (b ≡ true → found id changed ≡ None) → found id others ≡ found id rest → found id (if b then changed ++ rest else r ∷ others) ≡ found id (r ∷ rest)
either id true r changed rest others p q e =
    let apart : bytes_eq r.id id ≡ false = p refl in
    found_past id changed rest (q refl) ∙ sym (ap (λ b. values_of (if b then Some r else find (λ r. bytes_eq r.id id) rest)) apart)
either id false r changed rest others p q e = pass_by (bytes_eq r.id id) r _ _ e

found_at_other : (id other : Text) (change : Row → List Row) (missing rows : List Row) → bytes_eq other id ≡ false → ((r : Row) → r.id ≡ other → found id (change r) ≡ None) → found id missing ≡ None → found id (at_row other change missing rows) ≡ found id rows
found_at_other id other change missing [] p q e = e
found_at_other id other change missing (r ∷ rs) p q e =
    either id (bytes_eq r.id other) r (change r) rs _
    (λ t. let same : r.id ≡ other = same_bytes r.id other t in ap (λ x. bytes_eq x id) same ∙ p)
    (λ t. q r (same_bytes r.id other t))
    (found_at_other id other change missing rs p q e)

alone_row : (b : Bool) (r : Row) → b ≡ false → values_of (if b then Some r else None) ≡ None
alone_row true r e = cc
alone_row false r e = refl

pub values_other : (id other : Text) (how : Reading) (src : ValueSource) (vs : List Text) (rows : List Row) → bytes_eq other id ≡ false → found id (with_values other how src vs rows) ≡ found id rows
values_other id other how src vs rows p =
    found_at_other id other (more_values src vs) _ rows p
    (λ r e. alone_row (bytes_eq r.id id) _ (ap (λ x. bytes_eq x id) e ∙ p))
    (alone_row (bytes_eq other id) _ p)

pub without_other : (id other : Text) (rows : List Row) → bytes_eq other id ≡ false → found id (without other rows) ≡ found id rows
without_other id other rows p = found_at_other id other (λ _. []) [] rows p (λ r e. refl) refl

-- ---- uses

-- the value found under each option is the one that the uses give it
abbrev pub Agrees : List PlainUse → List Row → Type 0
Agrees uses rows = (c : Choice) → found (name_of c) rows ≡ option_map (λ v. v ∷ []) (given c uses)

use_row : (k : Kind) (n v : Text) (rows : List Row) → used (filled (rule_by k n)) (v ∷ []) rows ≡ with_values n (reading_by (filled (rule_by k n))) CommandLine (v ∷ []) (without n rows)
use_row Alone n v rows = refl
use_row k n v rows = refl

both_none : (b : Bool) (x : Text) (g : Option Text) → chosen b x g ≡ None → (b ≡ false) × (g ≡ None)
both_none true x g e = cc
both_none false x g e = (refl, e)

split : (b d : Bool) (x y : Text) (g h : Option Text) → (b ≡ true → d ≡ true → ⊥) → h ≡ chosen d y g → chosen b x h ≡ chosen d y (chosen b x g)
split true true x y g h k e = absurd (k refl refl)
split true false x y g h k e = refl
split false d x y g h k e = e

clash : (a b c : Text) → bytes_eq a b ≡ false → bytes_eq a c ≡ true → bytes_eq b c ≡ true → ⊥
clash a b c f s t =
    let e : a ≡ b = same_bytes a c s ∙ sym (same_bytes b c t) in
    let u : bytes_eq a b ≡ true = (bytes_eq-Decides a b).1 e in
    let w : true ≡ false = sym u ∙ f in
    cc

pub given_added : (c : Choice) (uses : List PlainUse) (u : PlainUse) → given u.choice uses ≡ None → given c (uses ++ u ∷ []) ≡ chosen (bytes_eq (name_of u.choice) (name_of c)) u.value (given c uses)
given_added c [] u e = refl
given_added c (w ∷ uses) u e =
    let none = both_none (bytes_eq (name_of w.choice) (name_of u.choice)) w.value (given u.choice uses) e in
    split (bytes_eq (name_of w.choice) (name_of c)) (bytes_eq (name_of u.choice) (name_of c)) w.value u.value (given c uses) (given c (uses ++ u ∷ []))
    (clash (name_of w.choice) (name_of u.choice) (name_of c) none.0) (given_added c uses u none.1)

lift : (b : Bool) (v : Text) (f : Option (List Text)) (g : Option Text) → f ≡ option_map (λ v. v ∷ []) g → chosen b (v ∷ []) f ≡ option_map (λ v. v ∷ []) (chosen b v g)
lift true v f g e = refl
lift false v f g e = e

pub agrees_added : (c : Choice) (v : Text) (uses : List PlainUse) (rows : List Row) → given c uses ≡ None → Agrees uses rows → Agrees (uses ++ record { choice = c; value = v } ∷ []) (used (rule c) (v ∷ []) rows)
agrees_added c v uses rows new agrees d =
    let absent : found (name_of c) rows ≡ None = agrees c ∙ ap (option_map (λ v. v ∷ [])) new in
    let b = bytes_eq (name_of c) (name_of d) in
    ap (found (name_of d)) (use_row (kind_of c) (name_of c) v rows ∙ used_absent (name_of c) _ (v ∷ []) rows absent)
    ∙ found_added b (name_of d) rows _ refl absent
    ∙ lift b v (found (name_of d) rows) (given d uses) (agrees d)
    ∙ ap (option_map (λ v. v ∷ [])) (sym (given_added d uses (record { choice = c; value = v }) new))

-- the pending option is used
pub settled_use : (c : Choice) (vs : List Text) (rows : List Row) → settled_rows run_rules (Some (name_of c, vs)) rows ≡ used (rule c) vs rows
settled_use c vs rows = ap (λ r. used_by_id r vs rows) (has c).by_id

-- no option has the id of a name
pub apart : (c : Choice) → (bytes_eq (codes "in") (name_of c) ≡ false) × (bytes_eq (codes "out") (name_of c) ≡ false) × (bytes_eq (codes "prefix") (name_of c) ≡ false)
apart Hops = (refl, refl, refl)
apart _ = (refl, refl, refl)

other : (c : Choice) → (bytes_eq (name_of c) (codes "in") ≡ false) × (bytes_eq (name_of c) (codes "out") ≡ false) × (bytes_eq (name_of c) (codes "prefix") ≡ false)
other Hops = (refl, refl, refl)
other _ = (refl, refl, refl)

-- no value is found yet under the names
abbrev pub Fresh : List Row → Type 0
Fresh rows = (found (codes "in") rows ≡ None) × (found (codes "out") rows ≡ None) × (found (codes "prefix") rows ≡ None)

use_other : (id : Text) (c : Choice) (v : Text) (rows : List Row) → bytes_eq (name_of c) id ≡ false → found id (used (rule c) (v ∷ []) rows) ≡ found id rows
use_other id c v rows e =
    ap (found id) (use_row (kind_of c) (name_of c) v rows) ∙ values_other id (name_of c) _ CommandLine (v ∷ []) (without (name_of c) rows) e ∙ without_other id (name_of c) rows e

pub fresh_use : (c : Choice) (v : Text) (rows : List Row) → Fresh rows → Fresh (used (rule c) (v ∷ []) rows)
fresh_use c v rows h =
    (use_other (codes "in") c v rows (other c).0 ∙ h.0, use_other (codes "out") c v rows (other c).1 ∙ h.1, use_other (codes "prefix") c v rows (other c).2 ∙ h.2)

-- ---- the values found under the names

pub values_here : (id : Text) (how : Reading) (vs : List Text) (rows : List Row) → found id rows ≡ None → found id (with_values id how CommandLine vs (without id rows)) ≡ Some vs
values_here id how vs rows e =
    let r : Row = row id how CommandLine vs in
    ap (found id) (used_absent id how vs rows e) ∙ found_same id rows r (bytes_self id) e

pub values_new : (id : Text) (how : Reading) (vs : List Text) (rows : List Row) → found id rows ≡ None → found id (with_values id how CommandLine vs rows) ≡ Some vs
values_new id how vs rows e =
    let r : Row = row id how CommandLine vs in
    ap (found id) (at_absent id (more_values CommandLine vs) (r ∷ []) rows e) ∙ found_same id rows r (bytes_self id) e

more_by : (b : Bool) (id : Text) (r : Row) (rs others : List Row) (vs ws : List Text) → bytes_eq r.id id ≡ b → values_of (if b then Some r else find (λ r. bytes_eq r.id id) rs) ≡ Some vs
    → (found id rs ≡ Some vs → found id others ≡ Some (vs ++ ws)) → found id (if b then more_values CommandLine ws r ++ rs else r ∷ others) ≡ Some (vs ++ ws)
more_by true id r rs others vs ws t e ih =
    let same : r.values ≡ vs = cc in
    rw t (ap (λ xs. Some (xs ++ ws)) same)
more_by false id r rs others vs ws t e ih = rw t (ih e)

pub values_more : (id : Text) (how : Reading) (ws vs : List Text) (rows : List Row) → found id rows ≡ Some vs → found id (with_values id how CommandLine ws rows) ≡ Some (vs ++ ws)
values_more id how ws vs [] e = cc
values_more id how ws vs (r ∷ rs) e =
    more_by (bytes_eq r.id id) id r rs (with_values id how CommandLine ws rs) vs ws refl e (values_more id how ws vs rs)
