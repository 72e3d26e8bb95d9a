-- How an instruction leads out of its function.
use Rattle.std.specs.Prelude.{ℕ, Option, Some, None, option_map, option_and_then, if◌then◌else◌}
use Rattle.std.specs.Option.{option_or}
use Rattle.bpf_insn.specs.Instruction.{Instructions}
use Rattle.bpf_cert.specs.View.{FunctionView, CertificateView}
use Rattle.bpf_safety.specs.Labels.{function_at}
use Rattle.bpf_safety.specs.Flow.{Visit, jump_target}
use Rattle.bpf_safety.specs.Flaw.{leaves_for, next_slot, calls_nowhere}
use Rattle.bpf_check.specs.declared.edge.WayOut.{WayOut}
use Rattle.bpf_check.specs.declared.edge.WayOut.TheVariants.{Call, Jump, Next}

-- a slot, if there is one, that lies in another function or in none
abbrev pub slot_outside : CertificateView → FunctionView → Option ℕ → Option ℕ
slot_outside c f to = if leaves_for c f to then to else None

-- by its jump, or else by going on
abbrev pub way_from : Instructions → CertificateView → Visit → FunctionView → Option WayOut
way_from p c v f =
    option_or (option_map Jump (slot_outside c f (jump_target v.slot v.insn))) (option_map Next (slot_outside c f (next_slot p v)))

-- a call that leads to no function comes first; the others are out of the function that the instruction lies in
abbrev pub way_out : Instructions → CertificateView → Visit → Option WayOut
way_out p c v = if calls_nowhere c v v.insn then Some Call else option_and_then (way_from p c v) (function_at c v.slot)
