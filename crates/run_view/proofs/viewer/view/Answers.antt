use Rattle.std.proofs.Common.{map, string_bytes, sym, ◌∙◌, refl, inr, arith}
use Rattle.run_view.specs.declared.stop.Stop.TheVariants as stops
use Rattle.run_view.proofs.Stopping.{cause_of, refused_told, rose_within, stopped_by, told_known, told_no_end}
use Rattle.run_view.proofs.viewer.view.Goals as goal

pub returns-in-Err-clause-viewed : goal.returns-in-Err-clause-viewed
returns-in-Err-clause-viewed g c is = absurd (told_no_end c.in-Err.stop _ _ _ c.tell-in-Err.ensures.told is)

pub returns-in-Err-clause-stopped : goal.returns-in-Err-clause-stopped
returns-in-Err-clause-stopped g c =
    inr
    (stopped_by _ _ _ c.in-Err.stop _ _ (λ rose. rose_within _ _ _ _ c.in-Err.ensures.out_faults.later (omega arith) rose)
    (cause_of (map string_bytes c.args.words.now) _ _ _ c.in-Err.stop refl refl refl c.tell-in-Err.ensures.later c.in-Err.ensures.stops) c.tell-in-Err.ensures.told)

pub returns-in_default-clause-stopped : goal.returns-in_default-clause-stopped
returns-in_default-clause-stopped g c =
    inr (stopped_by _ _ _ stops.Words _ _ (λ rose. rose) (record { is = sym c.asked_in.ensures ∙ c.in_default.is }) c.tell.ensures.told)

pub returns-in_default-clause-refused : goal.returns-in_default-clause-refused
returns-in_default-clause-refused g c none = refused_told _ _ _ c.tell.ensures.told

pub returns-in-Err-clause-known : goal.returns-in-Err-clause-known
returns-in-Err-clause-known g c = told_known c.in-Err.stop _ _ _ c.tell-in-Err.ensures.told

pub returns-in_default-clause-known : goal.returns-in_default-clause-known
returns-in_default-clause-known g c = told_known stops.Words _ _ _ c.tell.ensures.told
