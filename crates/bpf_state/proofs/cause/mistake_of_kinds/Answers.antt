use Rattle.std.proofs.Common.{rules, ◌≡◌, refl, sym, ◌∙◌, ap, subst, true, false, None}
use Rattle.std.specs.Prelude.{IfSome, is_some}
use Rattle.bpf_state.specs.Cause.{Shows}
use Rattle.bpf_state.specs.Fault.{reads_any, reads_part}
use Rattle.bpf_state.specs.code.Mistakes.{of_operands}
use Rattle.bpf_state.proofs.CauseLemmas.{kinds_judged, operands_shown}
use Rattle.bpf_state.proofs.cause.mistake_of_kinds.Goals as goal

pub returns-in-Some-clause-shown : goal.returns-in-Some-clause-shown
returns-in-Some-clause-shown c =
    let s = c.args.state.now in
    let i = c.args.insn.now in
    subst (λ o. IfSome o (Shows s i)) (sym c.of_operands.ensures ∙ c.in-Some.is) (operands_shown s i)

pub returns-in-Some-clause-refused : goal.returns-in-Some-clause-refused
returns-in-Some-clause-refused c =
    let s = c.args.state.now in
    let i = c.args.insn.now in
    let set : reads_any s i ≡ false = search rules in
    kinds_judged s i true _ set (ap is_some (sym c.of_operands.ensures ∙ c.in-Some.is)) refl

pub returns-in_err-slot-clause-refused : goal.returns-in_err-slot-clause-refused
returns-in_err-slot-clause-refused c =
    let s = c.args.state.now in
    let i = c.args.insn.now in
    let set : reads_any s i ≡ false = search rules in
    let none : of_operands s i ≡ None = search rules in
    let part : reads_part s i ≡ false = search rules in
    let left : is_some c.from_residual.result ≡ false = search rules in
    left ∙ kinds_judged s i false false set (ap is_some none) part
