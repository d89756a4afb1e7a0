use Rattle.std.proofs.Common.{rules, ◌≡◌, ◌-◌, length, take, refl, sym, ◌∙◌, arith}
use Rattle.std.proofs.lemmas.Result.{err_from_is_err_and}
use Rattle.pcapng_file.specs.InterfaceOptions.{padded}
use Rattle.pcapng_file.proofs.Options.{sees_nothing, short_options, short_option, sees_all, sees_end, sees_past, sees_more, sees_wrong, value_kept}
use Rattle.pcapng_file.proofs.BlockReads.{short_behind}
use Rattle.pcapng_file.proofs.interface.read_options.Goals as goal

pub loop-left-init : goal.loop-left-init
loop-left-init g c = record { within = search rules; four = refl; enough = refl; sees = sees_nothing _ _ _ _ _; counted = refl }

pub returns-in_err-read_exact-clause-octets : goal.returns-in_err-read_exact-clause-octets
returns-in_err-read_exact-clause-octets g c =
    let p = err_from_is_err_and c.from_residual.result c.from_residual.ensures.1 in
    let four : length c.read_exact.new.buf ≡ 4 = search rules in
    rw (p.1, p.2) (short_options _ _ _ _ _ _ _ _ _ _ _ c.loop-left.invariant.sees c.in_err-read_exact.ensures.octets (omega arith))

pub returns-in_err-pass-clause-octets : goal.returns-in_err-pass-clause-octets
returns-in_err-pass-clause-octets g c =
    let p = err_from_is_err_and c.from_residual-in_err-pass.result c.from_residual-in_err-pass.ensures.1 in
    let four : length c.read_exact.new.buf ≡ 4 = search rules in
    rw (p.1, p.2) (short_option _ _ _ _ _ _ _ _ c.read_exact.new.buf _ _ _ _ c.loop-left.invariant.sees c.in_ok-read_exact.ensures.octets c.in_err-pass.ensures.octets (omega arith))

pub returns-then-code-eq0-clause-octets : goal.returns-then-code-eq0-clause-octets
returns-then-code-eq0-clause-octets g c =
    let four : length c.read_exact.new.buf ≡ 4 = search rules in
    sees_end _ _ _ _ _ _ _ _ c.read_exact.new.buf _ _ _ _ c.loop-left.invariant.sees four c.in_ok-read_exact.ensures.octets c.in_ok-pass.ensures.octets (omega arith)
    (sym c.u16_at-code.ensures ∙ c.if-code-eq0.true) (c.described.ensures _)

pub returns-in_err-pass-2-clause-octets : goal.returns-in_err-pass-2-clause-octets
returns-in_err-pass-2-clause-octets g c =
    let p = err_from_is_err_and c.from_residual-in_err-pass-2.result c.from_residual-in_err-pass-2.ensures.1 in
    let four : length c.read_exact.new.buf ≡ 4 = search rules in
    rw (p.1, p.2) (short_option _ _ _ _ _ _ _ _ c.read_exact.new.buf _ _ _ _ c.loop-left.invariant.sees c.in_ok-read_exact.ensures.octets c.in_err-pass-2.ensures.octets (omega arith))

pub returns-then-whole-left-clause-octets : goal.returns-then-whole-left-clause-octets
returns-then-whole-left-clause-octets g c =
    let four : length c.read_exact.new.buf ≡ 4 = search rules in
    let whole : c.padded-whole.result ≡ padded c.u16_at-size.result = search rules in
    sees_past _ _ _ _ _ _ _ _ c.read_exact.new.buf _ _ c.u16_at-code.result c.u16_at-size.result _ c.loop-left.invariant.sees four c.in_ok-read_exact.ensures.octets c.in_ok-pass-2.ensures.octets (omega arith)
    c.u16_at-code.ensures c.u16_at-size.ensures (omega arith) (omega arith)

pub returns-in_err-read_value-clause-octets : goal.returns-in_err-read_value-clause-octets
returns-in_err-read_value-clause-octets g c =
    let p = err_from_is_err_and c.from_residual-in_err-read_value.result c.from_residual-in_err-read_value.ensures.1 in
    let four : length c.read_exact.new.buf ≡ 4 = search rules in
    let whole : c.padded-whole.result ≡ padded c.u16_at-size.result = search rules in
    rw (p.1, p.2) (short_option _ _ _ _ _ _ _ _ c.read_exact.new.buf _ _ _ _ c.loop-left.invariant.sees c.in_ok-read_exact.ensures.octets c.in_err-read_value.ensures.octets (omega arith))

pub returns-in_err-pass-3-clause-octets : goal.returns-in_err-pass-3-clause-octets
returns-in_err-pass-3-clause-octets g c =
    let p = err_from_is_err_and c.from_residual-in_err-pass-3.result c.from_residual-in_err-pass-3.ensures.1 in
    let four : length c.read_exact.new.buf ≡ 4 = search rules in
    let whole : c.padded-whole.result ≡ padded c.u16_at-size.result = search rules in
    let v = c.in_ok-read_value.ensures.octets in
    rw (p.1, p.2) (short_option _ _ _ _ _ _ _ _ c.read_exact.new.buf _ _ _ _ c.loop-left.invariant.sees c.in_ok-read_exact.ensures.octets
    (short_behind _ _ _ v.octets _ (c.loop-left.left - 4) _ v.taken c.in_err-pass-3.ensures.octets (omega (arith, v.whole))) (omega arith))

pub returns-in_default-clause-octets : goal.returns-in_default-clause-octets
returns-in_default-clause-octets g c =
    let four : length c.read_exact.new.buf ≡ 4 = search rules in
    let whole : c.padded-whole.result ≡ padded c.u16_at-size.result = search rules in
    let v = c.in_ok-read_value.ensures.octets in
    let k = value_kept c.u16_at-size.result c.read_value.new.kept v.octets v.whole v.first in
    sees_wrong _ _ _ _ _ _ _ _ c.read_exact.new.buf v.octets _ c.u16_at-code.result c.u16_at-size.result _ c.loop-left.invariant.sees four c.in_ok-read_exact.ensures.octets v.taken
    c.u16_at-code.ensures c.u16_at-size.ensures (omega arith) v.whole _ _ (omega arith) (sym c.in_default.is ∙ c.with_option.ensures (take c.u16_at-size.result v.octets) k.0 k.1) c.in_ok-pass-3.ensures.octets

pub loop-left-preserved : goal.loop-left-preserved
loop-left-preserved g c =
    let four : length c.read_exact.new.buf ≡ 4 = search rules in
    let whole : c.padded-whole.result ≡ padded c.u16_at-size.result = search rules in
    let v = c.in_ok-read_value.ensures.octets in
    let k = value_kept c.u16_at-size.result c.read_value.new.kept v.octets v.whole v.first in
    record {
      within = search rules;
      four = four;
      enough = search rules;
      sees = sees_more _ _ _ _ _ _ _ _ c.read_exact.new.buf v.octets _ c.u16_at-code.result c.u16_at-size.result _ c.loop-left.invariant.sees four c.in_ok-read_exact.ensures.octets v.taken
          c.u16_at-code.ensures c.u16_at-size.ensures (omega arith) v.whole c.in-Some.more _ (omega arith) (sym c.in-Some.is ∙ c.with_option.ensures (take c.u16_at-size.result v.octets) k.0 k.1);
      counted = search rules;
    }

pub returns-in_err-pass-4-clause-octets : goal.returns-in_err-pass-4-clause-octets
returns-in_err-pass-4-clause-octets g c =
    let p = err_from_is_err_and c.from_residual-in_err-pass-4.result c.from_residual-in_err-pass-4.ensures.1 in
    rw (p.1, p.2) (short_options _ _ _ _ _ _ _ _ _ _ _ c.loop-left.invariant.sees c.in_err-pass-4.ensures.octets (omega arith))

pub returns-clause-octets : goal.returns-clause-octets
returns-clause-octets g c = sees_all _ _ _ _ _ _ _ _ _ _ c.loop-left.invariant.sees c.loop-left-test.false c.in_ok-pass-4.ensures.octets (c.described-2.ensures _)
