-- The work of a check: its transfers, and its comparisons of states.
use Rattle.std.specs.Prelude.{ℕ, suc, ◌+◌, Bool, true, false, List, [], length, flat_map, count_by, Option, Some, None, is_some, option_and_then, if◌then◌else◌}
use Rattle.bpf_insn.specs.declared.instruction.Insn.{Insn}
use Rattle.bpf_insn.specs.declared.instruction.Insn.TheVariants.{CallLocal, Exit}
use Rattle.bpf_insn.specs.Instruction.{Instructions}
use Rattle.bpf_cert.specs.View.{CertificateView}
use Rattle.bpf_safety.specs.Labels.{label_at, function_at}
use Rattle.bpf_safety.specs.Flow.{Arrival, Visit, visits, sound_arrival, callee}
use Rattle.bpf_safety.specs.Flaw.{Edge, edges}

-- a live edge leads into a label, so its state is compared with it
abbrev pub leads_into_label : CertificateView → Edge → Bool
leads_into_label c e = is_some (label_at c e.slot)

-- the live edges from what reaches an instruction, if anything does and has no fault there
abbrev pub edges_from : Instructions → CertificateView → Visit → Option Arrival → List Edge
edges_from p c v None = []
edges_from p c v (Some a) = edges p c v a

abbrev pub live_edges : Instructions → CertificateView → Visit → List Edge
live_edges p c v = edges_from p c v (sound_arrival c v.insn v.arrival)

-- ---- of a certified program

abbrev pub is_call : Insn → Bool
is_call (CallLocal off) = true
is_call _ = false

abbrev pub is_exit : Insn → Bool
is_exit Exit = true
is_exit _ = false

-- one for each instruction
abbrev pub transfers : Instructions → ℕ
transfers p = length p.list

-- one for the start, for each live edge into a label, for each CALL (its entry state) and for each EXIT (its result)
abbrev pub comparisons : Instructions → CertificateView → ℕ
comparisons p c =
    suc (count_by (leads_into_label c) (flat_map (live_edges p c) (visits p c)) + count_by is_call p.list + count_by is_exit p.list)

-- ---- of any program and certificate, visit by visit

abbrev pub one_if : Bool → ℕ
one_if test = if test then 1 else 0

-- the start state is compared with the label at slot 0
abbrev pub compared_at_start : CertificateView → ℕ
compared_at_start c = one_if (is_some (label_at c 0))

-- the entry state of a CALL is compared with the label at its callee's first
abbrev pub enters_label : CertificateView → Visit → Bool
enters_label c v = is_some (option_and_then (λ g. label_at c g.first) (callee c v.slot v.insn))

-- the result at EXIT is compared with what its function returns
abbrev pub returns_result : CertificateView → Visit → Insn → Bool
returns_result c v Exit = is_some (function_at c v.slot)
returns_result c v _ = false

-- the comparisons at an instruction that is reached: on its edges only if it has no fault there
abbrev pub compared_from : Instructions → CertificateView → Visit → Arrival → ℕ
compared_from p c v a =
    one_if (enters_label c v) + one_if (returns_result c v v.insn)
    + count_by (leads_into_label c) (edges_from p c v (sound_arrival c v.insn (Some a)))

abbrev pub compared_with : Instructions → CertificateView → Visit → Option Arrival → ℕ
compared_with p c v None = 0
compared_with p c v (Some a) = compared_from p c v a

abbrev pub compared_at : Instructions → CertificateView → Visit → ℕ
compared_at p c v = compared_with p c v v.arrival

-- a transfer at each instruction that is reached
abbrev pub transferred_at : Visit → ℕ
transferred_at v = one_if (is_some v.arrival)
