use Rattle.std.proofs.Common.{◌≡◌, false, Some, refl, sym, ◌∙◌, arith}
use Rattle.std.proofs.lemmas.Bool.{false≢true}
use Rattle.std.proofs.lemmas.List.{length-set}
use Rattle.std.proofs.lemmas.List.Elements.{All-set}
use Rattle.bpf_state.specs.declared.known.RegState.{RegState}
use Rattle.bpf_state.specs.declared.known.RegState.TheVariants.{Any, Num, Ptr}
use Rattle.bpf_state.specs.State.{IsRegister, tightened_register}
use Rattle.bpf_state.specs.Fault.{is_number}
use Rattle.bpf_state.proofs.ListLemmas.{start_done, done_more, kept_more, all_done}
use Rattle.bpf_state.proofs.tightening.tighten_registers.Goals.{then-is_number+in-Some, else-is_number}
use Rattle.bpf_state.proofs.tightening.tighten_registers.Goals as goal

-- what is no number stays
stays : (value : RegState) → is_number value ≡ false → tightened_register value ≡ Some value
stays Any other = refl
stays (Ptr p) other = refl
stays (Num n) other = absurd (false≢true (sym other))

pub loop-i-init : goal.loop-i-init
loop-i-init c = (start_done tightened_register c.args.registers.now, c.requires, c.told-registers)

pub loop-i-preserved : goal.loop-i-preserved
loop-i-preserved c =
    let l = c.loop-i in
    let within = c.loop-i-test.true in
    let long = l.invariant.2 in
    elim c.if-is_number.branch [
      | then-is_number+in-Some w ↦ rw w.registers-is (
        sym (done_more tightened_register l.registers l.i _ w.in-Some.held (omega arith) (sym w.in-Some.ensures.value)) ∙ l.invariant.0,
        All-set IsRegister l.registers l.i w.in-Some.held w.in-Some.ensures.ordered l.invariant.1,
        length-set l.registers l.i w.in-Some.held ∙ long,
      )
      | else-is_number w ↦ rw w.registers-is (
        sym (kept_more tightened_register l.registers l.i _ (omega arith) (stays _ (sym w.if-is_number.ensures))) ∙ l.invariant.0,
        l.invariant.1,
        long,
      )
    ]

pub returns-clause-value : goal.returns-clause-value
returns-clause-value c =
    let l = c.loop-i in
    let past = c.loop-i-test.false in
    let long = l.invariant.2 in
    sym (all_done tightened_register l.registers l.i (omega arith)) ∙ l.invariant.0
