use Rattle.std.proofs.Common.{◌≡◌, Ok, None, sym, subst}
use Rattle.std.proofs.lemmas.Result.{err_from_is_err_and}
use Rattle.capture_input.specs.declared.input.Input.{Input}
use Rattle.capture_input.specs.declared.input.Input.TheVariants as kinds
use Rattle.capture_input.specs.ReaderState.{Behind}
use Rattle.capture_input.specs.RecordReading.{Reads}
use Rattle.capture_input.proofs.Sides.{classic_none, sections_none}
use Rattle.capture_input.proofs.Steps.{classic_fails, classic_reads, sections_reads, sections_fail}
use Rattle.capture_input.proofs.input.Input.next.Goals as goal

pub returns-in_err-next-in-Classic-clause-octets : goal.returns-in_err-next-in-Classic-clause-octets
returns-in_err-next-in-Classic-clause-octets g c = λ inside walk q.
    let p = err_from_is_err_and c.from_residual.result c.from_residual.ensures.1 in
    let fails = c.in_err-next-in-Classic.ensures in
    rw (p.1, p.2, c.in-Classic.is) (classic_fails inside _ _ _ walk _ _ _ fails.octets fails.asked fails.goes_on (rw c.in-Classic.is at q))

pub returns-in_err-next-in-Sections-clause-octets : goal.returns-in_err-next-in-Sections-clause-octets
returns-in_err-next-in-Sections-clause-octets g c = λ inside walk q.
    let p = err_from_is_err_and c.from_residual-in_err-next-in-Sections.result c.from_residual-in_err-next-in-Sections.ensures.1 in
    rw (p.1, p.2, c.in-Sections.is) (sections_fail inside _ _ walk _ _ _ c.in_err-next-in-Sections.ensures.octets (rw c.in-Sections.is at q))

pub returns-in_ok-next-in-Classic-clause-octets : goal.returns-in_ok-next-in-Classic-clause-octets
returns-in_ok-next-in-Classic-clause-octets g c = λ inside walk q.
    let reads = c.in_ok-next-in-Classic.ensures in
    let is : c.args.self.now ≡ kinds.Classic c.in-Classic.field-0 c.in-Classic.reader = c.in-Classic.is in
    let before : Behind (kinds.Classic c.in-Classic.field-0 c.in-Classic.reader) inside walk = subst (λ (i : Input). Behind i inside walk) is q in
    let read = classic_reads inside c.in-Classic.field-0 c.in-Classic.reader c.next.new.self walk (g.S.Source.left c.args.source.now) (g.S.Source.left c.next.new.source) c.in_ok-next-in-Classic.field-0 reads.octets reads.head reads.asked reads.offset reads.goes_on reads.advances before in
    subst (λ (i : Input). Reads i (kinds.Classic c.in-Classic.field-0 c.next.new.self) inside walk (g.S.Source.left c.args.source.now) (g.S.Source.left c.next.new.source) (Ok c.in_ok-next-in-Classic.field-0)) (sym is) read

pub returns-in_ok-next-in-Sections-clause-octets : goal.returns-in_ok-next-in-Sections-clause-octets
returns-in_ok-next-in-Sections-clause-octets g c = λ inside walk q.
    let reads = c.in_ok-next-in-Sections.ensures in
    let is : c.args.self.now ≡ kinds.Sections c.in-Sections.reader = c.in-Sections.is in
    let before : Behind (kinds.Sections c.in-Sections.reader) inside walk = subst (λ (i : Input). Behind i inside walk) is q in
    let read = sections_reads inside c.in-Sections.reader c.next-in-Sections.new.self walk (g.S.Source.left c.args.source.now) (g.S.Source.left c.next-in-Sections.new.source) c.in_ok-next-in-Sections.field-0 reads.octets reads.offset before in
    subst (λ (i : Input). Reads i (kinds.Sections c.next-in-Sections.new.self) inside walk (g.S.Source.left c.args.source.now) (g.S.Source.left c.next-in-Sections.new.source) (Ok c.in_ok-next-in-Sections.field-0)) (sym is) read

pub returns-in_ok-next-in-Classic-clause-sideless : goal.returns-in_ok-next-in-Classic-clause-sideless
returns-in_ok-next-in-Classic-clause-sideless g c = λ walk q. classic_none c.in_ok-next-in-Classic.field-0 c.in_ok-next-in-Classic.ensures.sideless

pub returns-in_ok-next-in-Sections-clause-sideless : goal.returns-in_ok-next-in-Sections-clause-sideless
returns-in_ok-next-in-Sections-clause-sideless g c = λ walk q.
    let before : Behind (kinds.Sections c.in-Sections.reader) None walk = subst (λ (i : Input). Behind i None walk) c.in-Sections.is q in
    sections_none c.in-Sections.reader c.next-in-Sections.new.self walk (g.S.Source.left c.args.source.now) (g.S.Source.left c.next-in-Sections.new.source) c.in_ok-next-in-Sections.field-0 c.in_ok-next-in-Sections.ensures.octets before
