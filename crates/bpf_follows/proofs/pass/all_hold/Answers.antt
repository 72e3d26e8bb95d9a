use Rattle.std.proofs.Common.{◌≡◌, ◌+◌, ◌<◌, ◌⊎◌, ℕ, true, Option, refl, sym, ap, subst, ◌∙◌, arith, inl, inr}
use Rattle.std.specs.Prelude.{◌↔◌, IsTrue, option_map, option_copied, IfSome}
use Rattle.std.specs.Option.{is_some}
use Rattle.std.proofs.lemmas.Bool.{cases_lt}
use Rattle.bpf_insn.specs.Instruction.{Instructions, slot_count}
use Rattle.bpf_insn.specs.declared.instruction.Insn.{Insn}
use Rattle.bpf_cert.specs.View.{CertificateView}
use Rattle.bpf_safety.specs.Flow.{Arrival, arrives}
use Rattle.bpf_check.specs.declared.site.Spot.{Spot}
use Rattle.bpf_check.specs.code.Arrivals.{walk_of, IsReaching}
use Rattle.bpf_check.specs.code.Sites.{IsSpot}
use Rattle.bpf_check.specs.code.Visits.{passed_with}
use Rattle.bpf_kept.specs.Mismatches.{IsAt, IsLowest}
use Rattle.bpf_kept.specs.States.{states_of}
use Rattle.bpf_kept.specs.Matching.{StandsForExit}
use Rattle.bpf_follows.proofs.Course.{IsThere, IsAtInsn, at_insn, at_end, few_slots}
use Rattle.bpf_follows.proofs.Noted.{past, further, lowest, fails_somewhere}
use Rattle.bpf_follows.proofs.EndLemmas.{EndsBefore, ends_further, ends_in_all}
use Rattle.bpf_follows.proofs.FaultLemmas.{handed_on, not_ok}
use Rattle.bpf_follows.proofs.pass.all_hold.Goals as goal

-- past the last instruction nothing is noted
pub returns-clause-exact : goal.returns-clause-exact
returns-clause-exact g c =
    let p = g.N.Code.program c.args.new.now in
    let end = at_end p c.args.certificate.now c.insns.here.slot (walk_of c.insns.walk) c.insns.invariant.there c.in_default.ensures in (
      λ h slot. elim (cases_lt slot c.insns.here.slot) [
        | inl less ↦ c.insns.invariant.holds slot less
        | inr more ↦ past (g.O.Code.program c.args.old.now) p c.args.notes.now c.args.bounds (states_of p c.args.certificate.now slot) slot (omega arith)
      ],
      λ all. refl,
    )

module _ (p : Instructions) (k : CertificateView) where
  -- the same of what stands there
  along : (P : CertificateView → ℕ → Insn → Type 0) (l : CertificateView) (m n : ℕ) (i j : Insn) → l ≡ k → m ≡ n → i ≡ j → P l m i → P k n j
  along P l m n i j cert_is slot_is insn_is h = subst (λ i. P k n i) insn_is (subst (λ n. P k n i) slot_is (subst (λ l. P l m i) cert_is h))

  -- what the walk hands on
  there_next : (slot next : ℕ) (passed after onward : Option Arrival) (i : Insn) → IsAtInsn p k slot passed i → after ≡ arrives k slot passed → onward ≡ passed_with p k slot i after → next ≡ slot + slot_count i → IsThere p k next onward
  there_next slot next passed after onward i w after_is onward_is next_is =
      subst (λ n. IsThere p k n onward) (sym next_is) (subst (IsThere p k (slot + slot_count i)) (sym (onward_is ∙ ap (passed_with p k slot i) after_is)) w.next)

pub returns-clause-ends : goal.returns-clause-ends
returns-clause-ends g c =
    let p = g.N.Code.program c.args.new.now in
    let end = at_end p c.args.certificate.now c.insns.here.slot (walk_of c.insns.walk) c.insns.invariant.there c.in_default.ensures in
    ends_in_all (g.O.Code.program c.args.old.now) c.args.notes.now (states_of p c.args.certificate.now) c.insns.ends c.insns.here.slot (omega arith) c.insns.invariant.ends

pub hold_here-requires-clause-second : goal.hold_here-requires-clause-second
hold_here-requires-clause-second g c n some few =
    let w = at_insn (g.N.Code.program c.args.new.now) c.args.certificate.now c.insns.here.slot (walk_of c.insns.walk) c.in-Some.insn c.insns.invariant.there c.in-Some.ensures in
    w.second n some (omega (arith, c.slots.ensures))

pub returns-in_err-hold_here-clause-exact : goal.returns-in_err-hold_here-clause-exact
returns-in_err-hold_here-clause-exact g c =
    let old : Instructions = g.O.Code.program c.args.old.now in
    let p : Instructions = g.N.Code.program c.args.new.now in
    let k : CertificateView = c.args.certificate.now in
    let w = at_insn p k c.insns.here.slot (walk_of c.insns.walk) c.in-Some.insn c.insns.invariant.there c.in-Some.ensures in
    let slot_is : c.of-site.result.here.slot ≡ c.insns.here.slot = ap (λ (s : Spot). s.slot) c.of-site.ensures.here in
    let spot : IsSpot k c.of-site.result.here = subst (IsSpot k) (sym c.of-site.ensures.here) c.insns.invariant.spot in
    let after : walk_of c.arrive-never.new.walk ≡ arrives k c.insns.here.slot (walk_of c.insns.walk) = c.arrive-never.ensures.arrival k spot ∙ ap (λ n. arrives k n (walk_of c.insns.walk)) slot_is in
    let state : states_of p k c.insns.here.slot ≡ option_copied c.stated.result = w.state_is ∙ ap (option_map (λ (a : Arrival). a.state)) (sym after) ∙ sym c.stated.ensures in
    let fail = c.in_err-hold_here.ensures.err (states_of p k) state in (
      λ ok. absurd (not_ok c.from_residual.result c.in_err-hold_here.field-0.0 c.from_residual.ensures.1 ok),
      λ all. absurd (fails_somewhere old p c.args.notes.now c.args.bounds (states_of p k) c.insns.here.slot c.slots.result c.in_err-hold_here.field-0.0 fail all),
    )

pub returns-in_err-hold_here-clause-err : goal.returns-in_err-hold_here-clause-err
returns-in_err-hold_here-clause-err g c =
    let old : Instructions = g.O.Code.program c.args.old.now in
    let p : Instructions = g.N.Code.program c.args.new.now in
    let k : CertificateView = c.args.certificate.now in
    let w = at_insn p k c.insns.here.slot (walk_of c.insns.walk) c.in-Some.insn c.insns.invariant.there c.in-Some.ensures in
    let slot_is : c.of-site.result.here.slot ≡ c.insns.here.slot = ap (λ (s : Spot). s.slot) c.of-site.ensures.here in
    let spot : IsSpot k c.of-site.result.here = subst (IsSpot k) (sym c.of-site.ensures.here) c.insns.invariant.spot in
    let after : walk_of c.arrive-never.new.walk ≡ arrives k c.insns.here.slot (walk_of c.insns.walk) = c.arrive-never.ensures.arrival k spot ∙ ap (λ n. arrives k n (walk_of c.insns.walk)) slot_is in
    let state : states_of p k c.insns.here.slot ≡ option_copied c.stated.result = w.state_is ∙ ap (option_map (λ (a : Arrival). a.state)) (sym after) ∙ sym c.stated.ensures in
    let fail = c.in_err-hold_here.ensures.err (states_of p k) state in
    handed_on c.from_residual.result c.in_err-hold_here.field-0.0 (IsAt (IsLowest old p c.args.notes.now c.args.bounds (states_of p k))) c.from_residual.ensures.1
    (lowest old p c.args.notes.now c.args.bounds (states_of p k) c.insns.here.slot c.slots.result c.in_err-hold_here.field-0.0 c.insns.invariant.holds fail)

pub insns-preserved : goal.insns-preserved
insns-preserved g c =
    let old : Instructions = g.O.Code.program c.args.old.now in
    let p : Instructions = g.N.Code.program c.args.new.now in
    let k : CertificateView = c.args.certificate.now in
    let slot : ℕ = c.insns.here.slot in
    let insn : Insn = c.in-Some.insn in
    let w = at_insn p k slot (walk_of c.insns.walk) insn c.insns.invariant.there c.in-Some.ensures in
    let slot_is : c.of-site.result.here.slot ≡ slot = ap (λ (s : Spot). s.slot) c.of-site.ensures.here in
    let spot : IsSpot k c.of-site.result.here = subst (IsSpot k) (sym c.of-site.ensures.here) c.insns.invariant.spot in
    let after : walk_of c.arrive-never.new.walk ≡ arrives k slot (walk_of c.insns.walk) = c.arrive-never.ensures.arrival k spot ∙ ap (λ n. arrives k n (walk_of c.insns.walk)) slot_is in
    let state : states_of p k slot ≡ option_copied c.stated.result = w.state_is ∙ ap (option_map (λ (a : Arrival). a.state)) (sym after) ∙ sym c.stated.ensures in
    let onward : walk_of c.go_on.new.walk ≡ passed_with p k slot insn (walk_of c.arrive-never.new.walk) =
    along p k (λ k n i. walk_of c.go_on.new.walk ≡ passed_with p k n i (walk_of c.arrive-never.new.walk)) c.of-site.result.certificate.now c.of-site.result.here.slot slot c.of-site.result.insn insn c.of-site.ensures.certificate slot_is c.of-site.ensures.insn
    c.go_on.ensures.passed in
    let next : c.of-site.result.next.slot ≡ slot + slot_count insn =
    along p k (λ k n i. c.of-site.result.next.slot ≡ n + slot_count i) c.of-site.result.certificate.now c.of-site.result.here.slot slot c.of-site.result.insn insn c.of-site.ensures.certificate slot_is c.of-site.ensures.insn
    c.of-site.ensures.value.next_slot in
    record {
      there = there_next p k slot c.of-site.result.next.slot (walk_of c.insns.walk) (walk_of c.arrive-never.new.walk) (walk_of c.go_on.new.walk) insn w after onward next;
      valid = subst (λ n. IfSome c.go_on.new.walk.here (λ h. IsReaching n h)) (sym c.of-site.ensures.value.next_slot) c.go_on.ensures.valid;
      spot = subst (λ k. IsSpot k c.of-site.result.next) c.of-site.ensures.certificate c.of-site.ensures.value.next;
      holds = λ n lt.
          further old p c.args.notes.now c.args.bounds (states_of p k) slot c.slots.result c.insns.invariant.holds (c.in_ok-hold_here.ensures.ok (states_of p k) state refl) n
          (subst (λ m. n < m) (next ∙ ap (λ m. slot + m) (sym c.slots.ensures)) lt);
      ends = subst (λ m. IsTrue c.ends_by-ends.result ↔ EndsBefore old c.args.notes.now (states_of p k) m) (sym (next ∙ ap (λ m. slot + m) (sym c.slots.ensures)))
          (ends_further old p c.args.notes.now c.args.bounds (states_of p k) slot c.slots.result c.insns.ends c.ends_by-ends.result (let few = few_slots insn in omega (arith, c.slots.ensures)) c.insns.invariant.ends
          (subst (λ s. IsTrue c.ends_by-ends.result ↔ (IsTrue c.insns.ends ⊎ ((is_some s ≡ true) × StandsForExit old c.args.notes.now slot))) (sym state) c.ends_by-ends.ensures)
          (λ n some few. w.second n some (omega (arith, c.slots.ensures))) (c.in_ok-hold_here.ensures.ok (states_of p k) state refl));
    }
