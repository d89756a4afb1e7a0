use Rattle.std.proofs.Common.{◌≡◌, length, sym, ◌∙◌, ap, ap₂}
use Rattle.std.proofs.lemmas.Bool.{not-false, not-true, not_from_false, not_from_true}
use Rattle.wire_base.specs.Tcp as tcp
use Rattle.run_audit.specs.declared.ledger.Ledger.{Ledger}
use Rattle.run_audit.specs.working.KeptOctets.{kept_at}
use Rattle.run_audit.specs.working.EraLedgers.{may_end, end_with, top_with}
use Rattle.run_audit.proofs.InboundSegments.{Came, octets_judged, fin_judged, octet_strays, fin_is_other, nothing_strays, read_on}
use Rattle.run_audit.proofs.ledger.Ledger.judge_octets.Goals as goal

pub returns-then-not-branch-clause-verdict : goal.returns-then-not-branch-clause-verdict
returns-then-not-branch-clause-verdict c ws w is read based =
    let came : Came c.args.base c.args.self.now c.args.segment w c.of-place.result c.after-behind.result = record { is = is; placed = c.of-place.ensures.value; behind_is = c.after-behind.ensures } in
    octet_strays ws w
    (octets_judged c.args.base c.args.self.now c.args.segment ws w c.of-place.result c.after-behind.result came read based
    ∙ not-false _ (sym c.in_ok-add.ensures.stray ∙ c.if-not-branch.true))

pub returns-then-not-ends_at-clause-verdict : goal.returns-then-not-ends_at-clause-verdict
returns-then-not-ends_at-clause-verdict c ws w is read based =
    let came : Came c.args.base c.args.self.now c.args.segment w c.of-place.result c.after-behind.result = record { is = is; placed = c.of-place.ensures.value; behind_is = c.after-behind.ensures } in
    let told : c.ends_at.result ≡ may_end (tcp.has_fin c.args.segment.flags.0) c.args.self.now.end (top_with c.args.self.now.top (length c.args.segment.octets.now) c.after-behind.result) c.after-behind.result =
    c.ends_at.ensures.right ∙ ap₂ (λ f (l : Ledger). may_end f l.end l.top c.after-behind.result) c.fin.ensures c.rise.ensures in
    fin_is_other ws w
    (octets_judged c.args.base c.args.self.now c.args.segment ws w c.of-place.result c.after-behind.result came read based
    ∙ not-true _ (sym c.in_ok-add.ensures.stray ∙ c.if-not-branch.false))
    (fin_judged c.args.base c.args.self.now c.args.segment ws w c.of-place.result c.after-behind.result came read based
    ∙ not_from_false _ (sym told ∙ c.if-not-ends_at.true))

pub returns-clause-verdict : goal.returns-clause-verdict
returns-clause-verdict c ws w is read based =
    let came : Came c.args.base c.args.self.now c.args.segment w c.of-place.result c.after-behind.result = record { is = is; placed = c.of-place.ensures.value; behind_is = c.after-behind.ensures } in
    let told : c.ends_at.result ≡ may_end (tcp.has_fin c.args.segment.flags.0) c.args.self.now.end (top_with c.args.self.now.top (length c.args.segment.octets.now) c.after-behind.result) c.after-behind.result =
    c.ends_at.ensures.right ∙ ap₂ (λ f (l : Ledger). may_end f l.end l.top c.after-behind.result) c.fin.ensures c.rise.ensures in (
      nothing_strays ws w
          (octets_judged c.args.base c.args.self.now c.args.segment ws w c.of-place.result c.after-behind.result came read based
          ∙ not-true _ (sym c.in_ok-add.ensures.stray ∙ c.if-not-branch.false))
          (fin_judged c.args.base c.args.self.now c.args.segment ws w c.of-place.result c.after-behind.result came read based
          ∙ not_from_true _ (sym told ∙ c.if-not-ends_at.false)),
      read_on c.args.base c.args.self.now c.ends_at.new.self c.args.segment ws w c.of-place.result c.after-behind.result came read
          (λ raised. ap (λ (l : Ledger). kept_at l.octets raised) c.ends_at.ensures.changes ∙ ap (λ (l : Ledger). kept_at l.octets raised) c.rise.ensures ∙ c.in_ok-add.ensures.kept c.if-not-branch.false raised)
          (ap (λ (l : Ledger). l.acked) c.ends_at.ensures.changes ∙ ap (λ (l : Ledger). l.acked) c.rise.ensures)
          (ap (λ (l : Ledger). l.top) c.ends_at.ensures.changes ∙ ap (λ (l : Ledger). l.top) c.rise.ensures)
          (ap (λ (l : Ledger). l.end) c.ends_at.ensures.changes ∙ ap₂ (λ f (l : Ledger). end_with f l.end c.after-behind.result) c.fin.ensures c.rise.ensures),
    )
