-- Words are read as a line, at once or one by one, exactly if they are written as one.
use Rattle.std.proofs.Common.{◌≡◌, ◌≢◌, ℕ, ◌==◌, Bool, true, false, List, [], ◌∷◌, ◌++◌, Option, Some, None, option_map, Bor, refl, sym, ap, ◌∙◌, if◌then◌else◌, ◌&&◌, codes, append-nil, append_assoc, subst, rules, MatchOption, eq-eqb, eqb-true}
use Rattle.norm_settings.specs.RunWords.{after_front, Word, names, alone, joined, parted, unknown, word_by, word_as, word_in, word_of, option_in, begins_with_dash, PlainUse, PlainLine, may_use, next_word, with_use, parts, are_fit, fit_line, line_of}
use Rattle.norm_settings.specs.OptionTable.{Text, name_of, kind_of, all_choices, takes_value}
use Rattle.norm_settings.specs.declared.options.Choice.{Choice}
use Rattle.norm_settings.specs.Grammar.{IsWritten, by_sign, by_word, by_name, IsLine, BeginPlain, IsWrittenAs}
use Rattle.norm_settings.specs.declared.options.Choice.TheVariants.{Hops}

-- The text after a front.

pub after_front-append : (front rest : List ℕ) → after_front front (front ++ rest) ≡ Some rest
after_front-append [] rest = refl
after_front-append (c ∷ front) rest = rw (eq-eqb c c refl) (after_front-append front rest)

step : (b : Bool) (x c : ℕ) (text front rest : List ℕ) → (x == c) ≡ b → (after_front front text ≡ Some rest → text ≡ front ++ rest) → (if b then after_front front text else None) ≡ Some rest → (x ∷ text) ≡ (c ∷ front) ++ rest
step true x c text front rest t ih e = let tail = ih e in let head = eqb-true x c t in cc
step false x c text front rest t ih e = cc

-- a text with this rest after the front is the front and the rest
pub front-whole : (front text rest : List ℕ) → after_front front text ≡ Some rest → text ≡ front ++ rest
front-whole [] text rest e = cc
front-whole (c ∷ front) [] rest e = cc
front-whole (c ∷ front) (x ∷ text) rest e = step (x == c) x c text front rest refl (front-whole front text rest) e

none_behind : (front text : List ℕ) (o : Option (List ℕ)) → after_front front text ≡ o → ((rest : List ℕ) → text ≢ front ++ rest) → None ≡ o
none_behind front text None e h = refl
none_behind front text (Some rest) e h = absurd (h rest (front-whole front text rest e))

-- the result of the library call that strips a front
pub behind_front : (front text : List ℕ) (found : Option (Bor (List ℕ))) → MatchOption found ((rest : List ℕ) → text ≢ front ++ rest) (λ x. text ≡ front ++ x.now) → option_map (λ rest. rest.now) found ≡ after_front front text
behind_front front text None h = none_behind front text _ refl h
behind_front front text (Some x) e = sym (ap (after_front front) e ∙ after_front-append front x.now)

-- The form of a word that is an option.

-- the text after `--` of a word of this kind
abbrev Behind : Word → Text → Type 0
Behind names text = ⊥
Behind (alone c) text = (text ≡ name_of c) × (takes_value (kind_of c) ≡ false)
Behind (joined c value) text = (text ≡ name_of c ++ 61 ∷ value) × (takes_value (kind_of c) ≡ true)
Behind (parted c) text = (text ≡ name_of c) × (takes_value (kind_of c) ≡ true)
Behind unknown text = Unit {0}

behind_by_kind : (b : Bool) (c : Choice) (text : Text) (word : Word) → takes_value (kind_of c) ≡ b → text ≡ name_of c → Some (if b then parted c else alone c) ≡ Some word → Behind word text
behind_by_kind true c text names t e f = cc
behind_by_kind true c text (alone d) t e f = cc
behind_by_kind true c text (joined d v) t e f = cc
behind_by_kind true c text unknown t e f = cc
behind_by_kind true c text (parted d) t e f = let same : c ≡ d = cc in (e ∙ ap name_of same, ap (λ x. takes_value (kind_of x)) (sym same) ∙ t)
behind_by_kind false c text names t e f = cc
behind_by_kind false c text (parted d) t e f = cc
behind_by_kind false c text (joined d v) t e f = cc
behind_by_kind false c text unknown t e f = cc
behind_by_kind false c text (alone d) t e f = let same : c ≡ d = cc in (e ∙ ap name_of same, ap (λ x. takes_value (kind_of x)) (sym same) ∙ t)

behind_by_sign : (b t : Bool) (c : Choice) (text : Text) (x : ℕ) (value : Text) (word : Word) → (x == 61) ≡ b → takes_value (kind_of c) ≡ t → text ≡ name_of c ++ x ∷ value
    → (if b && t then Some (joined c value) else None) ≡ Some word → Behind word text
behind_by_sign false t c text x value word s k e f = cc
behind_by_sign true false c text x value word s k e f = cc
behind_by_sign true true c text x value names s k e f = cc
behind_by_sign true true c text x value (alone d) s k e f = cc
behind_by_sign true true c text x value (parted d) s k e f = cc
behind_by_sign true true c text x value unknown s k e f = cc
behind_by_sign true true c text x value (joined d v) s k e f =
    let same : c ≡ d = cc in
    let here : value ≡ v = cc in
    let sign : x ≡ 61 = eqb-true x 61 s in
    (e ∙ cc, ap (λ y. takes_value (kind_of y)) (sym same) ∙ k)

behind_by : (c : Choice) (text : Text) (rest : Option Text) (word : Word) → after_front (name_of c) text ≡ rest → word_by c rest ≡ Some word → Behind word text
behind_by c text None word r e = cc
behind_by c text (Some []) word r e = behind_by_kind (takes_value (kind_of c)) c text word refl (front-whole (name_of c) text [] r ∙ append-nil (name_of c)) e
behind_by c text (Some (x ∷ value)) word r e = behind_by_sign (x == 61) (takes_value (kind_of c)) c text x value word refl refl (front-whole (name_of c) text (x ∷ value) r) e

behind_found : (found : Option Word) (c : Choice) (text : Text) (other : Word) → word_as c text ≡ found → Behind other text → Behind (elim found [ Some word ↦ word | None ↦ other ]) text
behind_found None c text other e h = h
behind_found (Some word) c text other e h = behind_by c text _ word refl e

behind_in : (cs : List Choice) (text : Text) → Behind (word_in cs text) text
behind_in [] text = tt
behind_in (c ∷ cs) text = behind_found (word_as c text) c text (word_in cs text) refl (behind_in cs text)

-- the form of a word of this kind: the first of the names does not begin with `-` (45), and an
-- option is `--name` or `--name=value` (61)
abbrev pub IsSpelled : Word → Text → Type 0
IsSpelled names word = begins_with_dash word ≡ false
IsSpelled (alone c) word = (word ≡ 45 ∷ 45 ∷ name_of c) × (takes_value (kind_of c) ≡ false)
IsSpelled (joined c value) word = (word ≡ 45 ∷ 45 ∷ (name_of c ++ 61 ∷ value)) × (takes_value (kind_of c) ≡ true)
IsSpelled (parted c) word = (word ≡ 45 ∷ 45 ∷ name_of c) × (takes_value (kind_of c) ≡ true)
IsSpelled unknown word = Unit {0}

spells_behind : (w : Word) (text word : Text) → word ≡ 45 ∷ 45 ∷ text → Behind w text → IsSpelled w word
spells_behind names text word e h = absurd h
spells_behind (alone c) text word e h = (e ∙ ap (λ t. 45 ∷ 45 ∷ t) h.0, h.1)
spells_behind (joined c value) text word e h = (e ∙ ap (λ t. 45 ∷ 45 ∷ t) h.0, h.1)
spells_behind (parted c) text word e h = (e ∙ ap (λ t. 45 ∷ 45 ∷ t) h.0, h.1)
spells_behind unknown text word e h = tt

spells_option : (word : Text) (rest : Option Text) → after_front (codes "--") word ≡ rest → IsSpelled (option_in rest) word
spells_option word None e = tt
spells_option word (Some text) e = spells_behind (word_in all_choices text) text word (front-whole (codes "--") word text e) (behind_in all_choices text)

spells_by_dash : (b : Bool) (word : Text) → begins_with_dash word ≡ b → IsSpelled (if b then option_in (after_front (codes "--") word) else names) word
spells_by_dash true word e = spells_option word _ refl
spells_by_dash false word e = e

pub spells : (word : Text) → IsSpelled (word_of word) word
spells word = spells_by_dash (begins_with_dash word) word refl

-- The words of a line read one by one with the uses so far, as in the loop of the code.

abbrev pub with_more : List PlainUse → Choice → Text → List PlainUse
with_more uses choice value = uses ++ record { choice = choice; value = value } ∷ []

-- the line of these words after the uses so far, with the option that waits for its value, if any
abbrev pub line_from : List PlainUse → Option Choice → List Text → Option PlainLine
line_from uses (Some choice) [] = None
line_from uses None [] = Some (record { uses = uses; names = [] })
line_from uses waiting (text ∷ words) =
    elim (next_word waiting text) [
      | names ↦ Some (record { uses = uses; names = text ∷ words })
      | alone choice ↦ (if may_use choice (codes "true") uses then line_from (with_more uses choice (codes "true")) None words else None)
      | joined choice value ↦ (if may_use choice value uses then line_from (with_more uses choice value) None words else None)
      | parted choice ↦ line_from uses (Some choice) words
      | unknown ↦ None
    ]

-- a line after these uses, if its own uses fit after them
abbrev behind : List PlainUse → Option PlainLine → Option PlainLine
behind uses None = None
behind uses (Some line) = if are_fit uses line.uses then Some (record { uses = uses ++ line.uses; names = line.names }) else None

behind_use : (may : Bool) (uses : List PlainUse) (choice : Choice) (value : Text) (line : Option PlainLine) (next : Option PlainLine) → may_use choice value uses ≡ may
    → next ≡ behind (with_more uses choice value) line → (if may then next else None) ≡ behind uses (with_use choice value line)
behind_use true uses choice value None next m e = e
behind_use false uses choice value None next m e = refl
behind_use false uses choice value (Some line) next m e = sym (ap (λ b. if b && are_fit (with_more uses choice value) line.uses then Some (record { uses = uses ++ record { choice = choice; value = value } ∷ line.uses; names = line.names }) else None) m)
behind_use true uses choice value (Some line) next m e =
    e
    ∙ ap (λ us. if are_fit (with_more uses choice value) line.uses then Some (record { uses = us; names = line.names }) else None) (append_assoc uses (record { choice = choice; value = value } ∷ []) line.uses)
    ∙ sym (ap (λ b. if b && are_fit (with_more uses choice value) line.uses then Some (record { uses = uses ++ record { choice = choice; value = value } ∷ line.uses; names = line.names }) else None) m)

abbrev ReadsFrom : List Text → Type 0
ReadsFrom words = (uses : List PlainUse) (waiting : Option Choice) → line_from uses waiting words ≡ behind uses (parts waiting words)

read_by_word : (w : Word) (text : Text) (words : List Text) (uses : List PlainUse) → ReadsFrom words
    → elim w [
      | names ↦ Some (record { uses = uses; names = text ∷ words })
      | alone choice ↦ (if may_use choice (codes "true") uses then line_from (with_more uses choice (codes "true")) None words else None)
      | joined choice value ↦ (if may_use choice value uses then line_from (with_more uses choice value) None words else None)
      | parted choice ↦ line_from uses (Some choice) words
      | unknown ↦ None
    ]
    ≡ behind uses (elim w [
      | names ↦ Some (record { uses = []; names = text ∷ words })
      | alone choice ↦ with_use choice (codes "true") (parts None words)
      | joined choice value ↦ with_use choice value (parts None words)
      | parted choice ↦ parts (Some choice) words
      | unknown ↦ None
    ])
read_by_word names text words uses h = ap (λ us. Some (record { uses = us; names = text ∷ words })) (sym (append-nil uses))
read_by_word (alone c) text words uses h = behind_use (may_use c (codes "true") uses) uses c (codes "true") (parts None words) _ refl (h (with_more uses c (codes "true")) None)
read_by_word (joined c v) text words uses h = behind_use (may_use c v uses) uses c v (parts None words) _ refl (h (with_more uses c v) None)
read_by_word (parted c) text words uses h = h uses (Some c)
read_by_word unknown text words uses h = refl

from : (words : List Text) → ReadsFrom words
from [] uses (Some c) = refl
from [] uses None = ap (λ us. Some (record { uses = us; names = [] })) (sym (append-nil uses))
from (text ∷ words) uses (Some c) = read_by_word (joined c text) text words uses (from words)
from (text ∷ words) uses None = read_by_word (next_word None text) text words uses (from words)

same_line : (line : Option PlainLine) → behind [] line ≡ fit_line line
same_line None = refl
same_line (Some line) = refl

pub read_word_by_word : (words : List Text) → line_of words ≡ line_from [] None words
read_word_by_word words = sym (from words [] None ∙ same_line (parts None words))

-- Words are read as a line exactly if they are written as one.

-- the words are written as this line
abbrev Writes : List Text → PlainLine → Type 0
Writes words line = IsLine line.uses words line.names × BeginPlain line.names

abbrev WritesFrom : Option Choice → List Text → PlainLine → Type 0
WritesFrom None words line = Writes words line
WritesFrom (Some c) words line = takes_value (kind_of c) ≡ true → Writes ((45 ∷ 45 ∷ name_of c) ∷ words) line

abbrev WritesBehind : List Text → Type 0
WritesBehind words = (waiting : Option Choice) (line : PlainLine) → parts waiting words ≡ Some line → WritesFrom waiting words line

abbrev used : Choice → Text → PlainLine → PlainLine
used c v line = record { uses = record { choice = c; value = v } ∷ line.uses; names = line.names }

-- a line with a use is the use and a line
use_off : (c : Choice) (v : Text) (found : Option PlainLine) (line : PlainLine) → with_use c v found ≡ Some line → (rest : PlainLine) × (found ≡ Some rest) × (used c v rest ≡ line)
use_off c v None line e = absurd (cc)
use_off c v (Some rest) line e = (rest, refl, cc)

-- one more use before a line
use_on : (c : Choice) (v : Text) (front rest words : List Text) (inner line : PlainLine) → words ≡ front ++ rest → IsWritten (record { choice = c; value = v }) front → used c v inner ≡ line → Writes rest inner → Writes words line
use_on c v front rest words inner line e w same h = subst (Writes words) same ((front, rest, e, w, h.0), h.1)

by_kind : (w : Word) (text : Text) (words : List Text) (line : PlainLine) → IsSpelled w text → WritesBehind words
    → elim w [
      | names ↦ Some (record { uses = []; names = text ∷ words })
      | alone choice ↦ with_use choice (codes "true") (parts None words)
      | joined choice value ↦ with_use choice value (parts None words)
      | parted choice ↦ parts (Some choice) words
      | unknown ↦ None
    ] ≡ Some line
    → Writes (text ∷ words) line
by_kind names text words line s ih e =
    let this : PlainLine = record { uses = []; names = text ∷ words } in
    let same : this ≡ line = cc in
    subst (Writes (text ∷ words)) same (refl, s)
by_kind (alone c) text words line s ih e =
    let t = use_off c (codes "true") (parts None words) line e in
    use_on c (codes "true") (text ∷ []) words (text ∷ words) t.0 line refl (by_name s.1 refl (ap (λ w. w ∷ []) s.0)) t.2 (ih None t.0 t.1)
by_kind (joined c v) text words line s ih e =
    let t = use_off c v (parts None words) line e in
    use_on c v (text ∷ []) words (text ∷ words) t.0 line refl (by_sign s.1 (ap (λ w. w ∷ []) s.0)) t.2 (ih None t.0 t.1)
by_kind (parted c) text words line s ih e = subst (λ w. Writes (w ∷ words) line) (sym s.0) (ih (Some c) line e s.1)
by_kind unknown text words line s ih e = absurd (cc)

go : (words : List Text) → WritesBehind words
go [] (Some c) line e = absurd (cc)
go [] None line e =
    let this : PlainLine = record { uses = []; names = [] } in
    let same : this ≡ line = cc in
    subst (Writes []) same (refl, tt)
go (text ∷ words) (Some c) line e = λ takes.
    let t = use_off c text (parts None words) line e in
    use_on c text ((45 ∷ 45 ∷ name_of c) ∷ text ∷ []) words ((45 ∷ 45 ∷ name_of c) ∷ text ∷ words) t.0 line refl (by_word takes refl) t.2 (go words None t.0 t.1)
go (text ∷ words) None line e = by_kind (word_of text) text words line (spells text) (go words) e

fits : (b : Bool) (line other : PlainLine) → are_fit [] line.uses ≡ b → (if b then Some line else None) ≡ Some other → (line ≡ other) × (are_fit [] other.uses ≡ true)
fits true line other f e = let same : line ≡ other = cc in (same, ap (λ (l : PlainLine). are_fit [] l.uses) (sym same) ∙ f)
fits false line other f e = absurd (cc)

read : (found : Option PlainLine) (words : List Text) (line : PlainLine) → parts None words ≡ found → fit_line found ≡ Some line → IsWrittenAs words line
read None words line p e = absurd (cc)
read (Some inner) words line p e =
    let t = fits (are_fit [] inner.uses) inner line refl e in
    let w : Writes words line = go words None line (p ∙ ap Some t.0) in
    record { written = w.0; fits = t.1; plain = w.1 }

pub read_is_written : (words : List Text) (line : PlainLine) → line_of words ≡ Some line → IsWrittenAs words line
read_is_written words line e = read (parts None words) words line refl e

-- ---- words that are written as a line are read as one

word_joined : (c : Choice) (v : Text) → takes_value (kind_of c) ≡ true → word_of (45 ∷ 45 ∷ (name_of c ++ 61 ∷ v)) ≡ joined c v
word_joined Hops v t = search rules
word_joined _ v t = search rules

word_parted : (c : Choice) → takes_value (kind_of c) ≡ true → word_of (45 ∷ 45 ∷ name_of c) ≡ parted c
word_parted Hops t = search rules
word_parted _ t = search rules

word_alone : (c : Choice) → takes_value (kind_of c) ≡ false → word_of (45 ∷ 45 ∷ name_of c) ≡ alone c
word_alone Hops t = search rules
word_alone _ t = search rules

word_plain : (text : Text) → begins_with_dash text ≡ false → word_of text ≡ names
word_plain text e = ap (λ b. if b then option_in (after_front (codes "--") text) else names) e

abbrev after : Word → Text → List Text → Option PlainLine
after w text words =
    elim w [
      | names ↦ Some (record { uses = []; names = text ∷ words })
      | alone choice ↦ with_use choice (codes "true") (parts None words)
      | joined choice value ↦ with_use choice value (parts None words)
      | parted choice ↦ parts (Some choice) words
      | unknown ↦ None
    ]

use_read : (u : PlainUse) (front rest : List Text) → IsWritten u front → parts None (front ++ rest) ≡ with_use u.choice u.value (parts None rest)
use_read u front rest (by_sign t e) =
    let text : Text = 45 ∷ 45 ∷ (name_of u.choice ++ 61 ∷ u.value) in
    ap (λ ws. parts None (ws ++ rest)) e ∙ ap (λ w. after w text rest) (word_joined u.choice u.value t)
use_read u front rest (by_word t e) =
    let text : Text = 45 ∷ 45 ∷ name_of u.choice in
    ap (λ ws. parts None (ws ++ rest)) e ∙ ap (λ w. after w text (u.value ∷ rest)) (word_parted u.choice t)
use_read u front rest (by_name t v e) =
    let text : Text = 45 ∷ 45 ∷ name_of u.choice in
    ap (λ ws. parts None (ws ++ rest)) e ∙ ap (λ w. after w text rest) (word_alone u.choice t) ∙ ap (λ x. with_use u.choice x (parts None rest)) (sym v)

names_read : (line : List Text) → BeginPlain line → parts None line ≡ Some (record { uses = []; names = line })
names_read [] h = refl
names_read (name ∷ rest) h = ap (λ w. after w name rest) (word_plain name h)

read_go : (uses : List PlainUse) (words line : List Text) → IsLine uses words line → BeginPlain line → parts None words ≡ Some (record { uses = uses; names = line })
read_go [] words line e p = ap (parts None) e ∙ names_read line p
read_go (u ∷ uses) words line (front, rest, e, w, h) p =
    ap (parts None) e ∙ use_read u front rest w ∙ ap (with_use u.choice u.value) (read_go uses rest line h p)

fit : (b : Bool) (line : PlainLine) → b ≡ true → (if b then Some line else None) ≡ Some line
fit true line e = refl
fit false line e = absurd (cc)

pub written_is_read : (words : List Text) (line : PlainLine) → IsWrittenAs words line → line_of words ≡ Some line
written_is_read words line h = ap fit_line (read_go line.uses words line.names h.written h.plain) ∙ fit (are_fit [] line.uses) line h.fits
