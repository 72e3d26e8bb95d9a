use Rattle.std.proofs.Common.{◌≡◌, ℕ, true, false, List, Option, Some, None, sym, subst, rules}
use Rattle.std.proofs.lemmas.Bool.{true≢false, false≢true}
use Rattle.std.specs.Prelude.{is_some, IfSome}
use Rattle.bpf_insn.specs.declared.instruction.Insn.{Insn}
use Rattle.bpf_insn.specs.Instruction.{Instructions, insn_at}
use Rattle.bpf_cert.specs.View.{CertificateView}
use Rattle.bpf_safety.specs.Flow.{Arrival, visits}
use Rattle.std.specs.List.{flat_map}
use Rattle.bpf_check.specs.declared.refusal.Refusal.{Refusal}
use Rattle.bpf_check.specs.code.Arrivals.{walk_of, IsReaching}
use Rattle.bpf_check.specs.code.Least.{IsLeastIn, IsLeastRefusal}
use Rattle.bpf_check.specs.RefusalNumbers.{flaw_of}
use Rattle.bpf_state.specs.Work.{Counts}
use Rattle.bpf_check.specs.code.Counting.{worked_at, worked_in_pass}
use Rattle.bpf_check.specs.code.Visits.{visit_of, visit_flaws}
use Rattle.bpf_check.proofs.PassLemmas.{IsAt, at_next, at_flaw, work_at_flaw, at_last, work_at_last}
use Rattle.bpf_check.proofs.pass.visit_flaw.Goals as goal

refused_here : (p : Instructions) (c : CertificateView) (first : Counts) (slot : ℕ) (o : Option Arrival) (work : Counts) (i : Insn) (r : Option Refusal) → IsAt p c first slot o work → Some i ≡ insn_at p.list slot → is_some r ≡ true → IsLeastRefusal (visit_flaws p c (visit_of c slot i o)) r → IsLeastRefusal (flat_map (visit_flaws p c) (visits p c)) r
refused_here p c first slot o work i None w stand some h = absurd (false≢true some)
refused_here p c first slot o work i (Some r) w stand some h = at_flaw p c first slot o work i (flaw_of r) w stand h

worked_here : (p : Instructions) (c : CertificateView) (first : Counts) (slot : ℕ) (o : Option Arrival) (work work' : Counts) (i : Insn) (r : Option Refusal) → IsAt p c first slot o work → Some i ≡ insn_at p.list slot → is_some r ≡ true → IsLeastRefusal (visit_flaws p c (visit_of c slot i o)) r → work' ≡ worked_at p c (visit_of c slot i o) work → work' ≡ worked_in_pass p c first
worked_here p c first slot o work work' i None w stand some h counts = absurd (false≢true some)
worked_here p c first slot o work work' i (Some r) w stand some h counts = work_at_flaw p c first slot o work work' i (flaw_of r) w stand h counts

not_refused : (xs : List (ℕ × ℕ)) (r : Option Refusal) → is_some r ≡ false → IsLeastRefusal xs r → IsLeastIn xs None
not_refused xs None none h = h
not_refused xs (Some r) none h = absurd (true≢false none)

pub returns-then-is_some-clause-refusal : goal.returns-then-is_some-clause-refusal
returns-then-is_some-clause-refusal g c =
    let p = g.P.Code.program c.args.program.now in
    let some : is_some c.pass_over-refusal.result ≡ true = search rules in
    refused_here p c.args.certificate.now c.args.work.now c.visits.here.slot (walk_of c.visits.walk) c.visits.work c.in-Some.insn c.pass_over-refusal.result c.visits.invariant.here c.in-Some.ensures some c.pass_over-refusal.ensures.refusal

pub returns-then-is_some-clause-work : goal.returns-then-is_some-clause-work
returns-then-is_some-clause-work g c =
    let p = g.P.Code.program c.args.program.now in
    let some : is_some c.pass_over-refusal.result ≡ true = search rules in
    worked_here p c.args.certificate.now c.args.work.now c.visits.here.slot (walk_of c.visits.walk) c.visits.work _ c.in-Some.insn c.pass_over-refusal.result c.visits.invariant.here c.in-Some.ensures some c.pass_over-refusal.ensures.refusal c.pass_over-refusal.ensures.work

pub visits-preserved : goal.visits-preserved
visits-preserved g c =
    let p = g.P.Code.program c.args.program.now in
    let none : is_some c.pass_over-refusal.result ≡ false = search rules in
    let next = at_next p c.args.certificate.now c.args.work.now c.visits.here.slot (walk_of c.visits.walk) (walk_of c.pass_over-refusal.new.walk) c.visits.work c.pass_over-refusal.new.work c.in-Some.insn c.visits.invariant.here c.in-Some.ensures (not_refused _ c.pass_over-refusal.result none c.pass_over-refusal.ensures.refusal) c.pass_over-refusal.ensures.passed c.pass_over-refusal.ensures.work in
    record {
      here = subst (λ n. IsAt p c.args.certificate.now c.args.work.now n (walk_of c.pass_over-refusal.new.walk) c.pass_over-refusal.new.work) (sym c.pass_over-refusal.ensures.slot) next;
      valid = subst (λ n. IfSome c.pass_over-refusal.new.walk.here (λ h. IsReaching n h)) (sym c.pass_over-refusal.ensures.slot) c.pass_over-refusal.ensures.valid;
      spot = c.pass_over-refusal.ensures.spot;
    }

pub returns-clause-refusal : goal.returns-clause-refusal
returns-clause-refusal g c = at_last (g.P.Code.program c.args.program.now) c.args.certificate.now c.args.work.now c.visits.here.slot (walk_of c.visits.walk) c.visits.work c.visits.invariant.here c.in_default.ensures

pub returns-clause-work : goal.returns-clause-work
returns-clause-work g c = work_at_last (g.P.Code.program c.args.program.now) c.args.certificate.now c.args.work.now c.visits.here.slot (walk_of c.visits.walk) c.visits.work c.visits.invariant.here c.in_default.ensures
