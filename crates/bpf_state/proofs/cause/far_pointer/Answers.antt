use Rattle.std.proofs.Common.{rules, ◌≡◌, sym, ◌∙◌, ap, ap₂, false, None}
use Rattle.std.specs.Prelude.{is_some, option_map}
use Rattle.bpf_state.specs.Cause.{pointer_of}
use Rattle.bpf_state.specs.Fault.{some_passes, leaves_bounds, makes_far_pointer}
use Rattle.bpf_state.specs.code.Results.{moved_pointer}
use Rattle.bpf_state.proofs.AluLemmas.{moved_told}
use Rattle.bpf_state.proofs.cause.far_pointer.Goals as goal

pub returns-in_err-made-clause-refused : goal.returns-in_err-made-clause-refused
returns-in_err-made-clause-refused c =
    let x = c.in-Alu in
    let s = c.args.state.now in
    let left : is_some c.from_residual.result ≡ false = search rules in
    let none : c.moved_pointer.result ≡ None = search rules in
    left
    ∙ ap (some_passes leaves_bounds) (sym (ap (option_map pointer_of) none) ∙ c.moved_pointer.ensures ∙ ap₂ (λ a b. moved_pointer x.width x.op a b) c.reg.ensures.value c.operand.ensures.value)
    ∙ moved_told s x.width x.op x.dst x.src
    ∙ sym (ap (makes_far_pointer s) x.is)

pub returns-else-is_far-clause-refused : goal.returns-else-is_far-clause-refused
returns-else-is_far-clause-refused c = search rules
