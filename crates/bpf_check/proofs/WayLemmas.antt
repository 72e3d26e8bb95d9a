-- How an instruction leads out of its function.
use Rattle.std.proofs.Common.{◌≡◌, ℕ, Bool, true, false, ◌||◌, cond, Option, Some, None, refl, ap₂, ◌∙◌}
use Rattle.std.specs.Prelude.{is_some, option_map, option_and_then}
use Rattle.std.specs.Option.{option_or}
use Rattle.bpf_insn.specs.Instruction.{Instructions}
use Rattle.bpf_state.specs.Fault.{some_passes}
use Rattle.bpf_cert.specs.View.{FunctionView, CertificateView}
use Rattle.bpf_safety.specs.Labels.{function_at}
use Rattle.bpf_safety.specs.Flow.{Visit, jump_target}
use Rattle.bpf_safety.specs.Flaw.{leaves_for, next_slot, calls_nowhere, leaves_function}
use Rattle.bpf_check.specs.code.Ways.{slot_outside, way_from, way_out}
use Rattle.bpf_check.specs.declared.edge.WayOut.TheVariants.{Call, Jump, Next}

outside_leaves : (c : CertificateView) (f : FunctionView) (to : Option ℕ) → is_some (slot_outside c f to) ≡ leaves_for c f to
outside_leaves c f None = refl
outside_leaves c f (Some t) = here (leaves_for c f (Some t))
  where
    here : (b : Bool) → is_some (cond b (Some t) None) ≡ b
    here true = refl
    here false = refl

either_way : (a b : Option ℕ) → is_some (option_or (option_map Jump a) (option_map Next b)) ≡ (is_some a || is_some b)
either_way (Some x) b = refl
either_way None (Some y) = refl
either_way None None = refl

or_true : (b : Bool) → true ≡ (b || true)
or_true true = refl
or_true false = refl

or_false : (b : Bool) → b ≡ (b || false)
or_false true = refl
or_false false = refl

-- there is a way out exactly where C12 fails
pub leaves_by_a_way : (p : Instructions) (c : CertificateView) (v : Visit) → is_some (way_out p c v) ≡ leaves_function p c v
leaves_by_a_way p c v = here (calls_nowhere c v v.insn) (function_at c v.slot)
  where
    here : (b : Bool) (o : Option FunctionView) → is_some (cond b (Some Call) (option_and_then (way_from p c v) o)) ≡ (some_passes (λ f. leaves_for c f (jump_target v.slot v.insn) || leaves_for c f (next_slot p v)) o || b)
    here true o = or_true _
    here false None = refl
    here false (Some f) =
        either_way (slot_outside c f (jump_target v.slot v.insn)) (slot_outside c f (next_slot p v))
        ∙ ap₂ (λ x y. x || y) (outside_leaves c f (jump_target v.slot v.insn)) (outside_leaves c f (next_slot p v))
        ∙ or_false _
