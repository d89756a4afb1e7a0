use Rattle.std.proofs.Common.{rules, arith, ◌≡◌, length, take, true, false, sym, ap, subst, ◌∙◌, length-take-le, take_all, bytes_eq}
use Rattle.std.proofs.lemmas.Result.{err_from_is_err_and}
use Rattle.std.proofs.lemmas.Slice.Eq.{bytes_eq-Decides}
use Rattle.std.specs.Io.KnownBytes.{Consumes}
use Rattle.capture_input.specs.Inputs.{section_octets}
use Rattle.capture_input.proofs.Heads.{stops_first, opens_behind, kind_sections, kind_classic}
use Rattle.capture_input.proofs.input.Input.open.Goals as goal

pub returns-in_err-count-clause-octets : goal.returns-in_err-count-clause-octets
returns-in_err-count-clause-octets g c =
    let p = err_from_is_err_and c.from_residual.result c.from_residual.ensures.1 in
    let taken = c.in_err-count.ensures.octets in
    let size : length c.read_full.new.buf ≡ 4 = search rules in
    rw (p.1, p.2) (stops_first _ _ _ (taken.0, taken.1, omega (arith, taken.2, size)))

pub returns-then-eq-clause-octets : goal.returns-then-eq-clause-octets
returns-then-eq-clause-octets g c =
    let fills = c.in_ok-count.ensures.octets in
    let size : length c.read_full.new.buf ≡ 4 = search rules in
    let same : bytes_eq (take c.in_ok-count.count c.read_full.new.buf) section_octets ≡ true = search rules in
    let is : take c.in_ok-count.count c.read_full.new.buf ≡ section_octets = (bytes_eq-Decides (take c.in_ok-count.count c.read_full.new.buf) section_octets).0 same in
    let four : c.in_ok-count.count ≡ 4 = sym (length-take-le c.in_ok-count.count c.read_full.new.buf fills.0) ∙ ap length is in
    let all : take c.in_ok-count.count c.read_full.new.buf ≡ c.read_full.new.buf = take_all c.in_ok-count.count c.read_full.new.buf (omega (arith, four, size)) in
    let kind = kind_sections _ c.read_full.new.buf size (subst (λ l. bytes_eq l section_octets ≡ true) all same) in
    opens_behind _ _ _ _ c.read_full.new.buf _ (subst (Consumes _ _) all fills.1) (c.open_sections.ensures.octets kind)

pub returns-clause-octets : goal.returns-clause-octets
returns-clause-octets g c =
    let fills = c.in_ok-count.ensures.octets in
    let size : length c.read_full.new.buf ≡ 4 = search rules in
    let long = length-take-le c.in_ok-count.count c.read_full.new.buf fills.0 in
    let other : bytes_eq (take c.in_ok-count.count c.read_full.new.buf) section_octets ≡ false = search rules in
    opens_behind _ _ _ _ _ _ fills.1 (c.open_classic.ensures.octets (kind_classic _ _ (omega (arith, long, fills.0, size)) (λ few. fills.2 (omega (arith, few, long, size))) other))
