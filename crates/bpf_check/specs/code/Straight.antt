-- Straight code, which goes on at the next instruction alone.
use Rattle.std.specs.Prelude.{◌≡◌, ℕ, ◌+◌, ◌<◌, ◌≤◌, true, Option, Some, None}
use Rattle.bpf_insn.specs.declared.instruction.Insn.{Insn}
use Rattle.bpf_insn.specs.Instruction.{slot_count, is_straight}
use Rattle.bpf_insn.specs.Limits.{greatest_slot}
use Rattle.bpf_cert.specs.View.{CertificateView}
use Rattle.bpf_safety.specs.Flow.{Arrival, Visit}
use Rattle.bpf_safety.specs.Labels.{label_at, function_at}
use Rattle.bpf_check.specs.code.Visits.{visit_of}
use Rattle.bpf_check.specs.declared.arrival.Here.{Here}
use Rattle.bpf_check.specs.declared.straight.Step.{Step}

-- no label stands at the instruction, nor at the next one, which is there and lies in the same function
pub record IsStep (end : ℕ) (s : Step) : Type 0 where
  pub few : s.slot ≤ greatest_slot
  pub straight : is_straight s.insn ≡ true
  pub here : label_at s.certificate.now s.slot ≡ None
  pub next_slot : s.next ≡ s.slot + slot_count s.insn
  pub next : label_at s.certificate.now s.next ≡ None
  pub function : function_at s.certificate.now s.next ≡ function_at s.certificate.now s.slot
  pub inside : s.next < end

-- what it was made of
pub record IsStepFrom (c : CertificateView) (slot : ℕ) (i : Insn) (reached : Option Here) (s : Step) : Type 0 where
  pub certificate : s.certificate.now ≡ c
  pub slot_is : s.slot ≡ slot
  pub insn : s.insn ≡ i
  pub here : reached ≡ Some s.reached

-- the visit of a step's instruction that is reached by what was passed on
abbrev pub step_visit_of : Step → Option Arrival → Visit
step_visit_of s passed = visit_of s.certificate.now s.slot s.insn passed
