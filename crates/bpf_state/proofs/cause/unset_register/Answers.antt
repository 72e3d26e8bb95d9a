use Rattle.std.proofs.Common.{◌≡◌, rules, sym, ◌∙◌, ap, subst, arith, get_or, length, ◌<◌, Bool, false, None}
use Rattle.std.specs.Prelude.{is_some, IfSome}
use Rattle.bpf_insn.specs.Effects.{registers_read}
use Rattle.bpf_insn.specs.declared.instruction.Reg.{Reg}
use Rattle.bpf_state.specs.State.{register}
use Rattle.bpf_state.specs.Fault.{is_any}
use Rattle.bpf_state.proofs.CauseLemmas.{find_any, found_at, if_none, none_left, passed_over}
use Rattle.bpf_state.proofs.cause.unset_register.Goals as goal
use Rattle.bpf_state.proofs.cause.unset_register.Goals.{in-Some+else-is_any, in_default}

pub returns-then-is_any-clause-refused : goal.returns-then-is_any-clause-refused
returns-then-is_any-clause-refused c =
    let s = c.args.state.now in
    let there : c.read.i < length c.registers_read-read.result = search rules in
    ap is_some (found_at (λ r. is_any (register s r)) c.registers_read-read.result c.read.i c.in-Some.reg there c.in-Some.is
    (ap is_any (sym c.reg.ensures.value) ∙ sym c.is_any.ensures ∙ c.if-is_any.true) ∙ c.read.invariant)
    ∙ find_any (λ r. is_any (register s r)) (registers_read c.args.insn.now)

pub read-preserved : goal.read-preserved
read-preserved c =
    let s = c.args.state.now in
    let p : Reg → Bool = λ r. is_any (register s r) in
    let there : c.read.i < length c.registers_read-read.result = search rules in
    let pass : IfSome (get_or c.registers_read-read.result c.read.i None) (λ r. p r ≡ false) → _ = passed_over p c.registers_read-read.result c.read.i there in
    elim c.match-read-i.branch [
      | in-Some+else-is_any w ↦ pass (subst (λ o. IfSome o (λ r. p r ≡ false)) (sym w.in-Some.is) (ap is_any (sym w.reg.ensures.value) ∙ sym w.is_any.ensures ∙ w.if-is_any.false)) ∙ c.read.invariant
      | in_default w ↦ pass (if_none (λ r. p r ≡ false) (get_or c.registers_read-read.result c.read.i None) w.in_default.not-Some) ∙ c.read.invariant
    ]

pub returns-clause-refused : goal.returns-clause-refused
returns-clause-refused c =
    let s = c.args.state.now in
    let three : length c.registers_read-read.result ≡ 3 = search rules in
    ap is_some (none_left (λ r. is_any (register s r)) c.registers_read-read.result c.read.i (omega (arith, three, c.read-test.false)) ∙ c.read.invariant)
    ∙ find_any (λ r. is_any (register s r)) (registers_read c.args.insn.now)
