use Rattle.std.proofs.Common.{◌≡◌, ◌≤◌, List, false, arith, sym, ◌∙◌}
use Rattle.bpf_insn.specs.Instruction.{slots}
use Rattle.bpf_insn.specs.declared.instruction.Insn.{Insn}
use Rattle.bpf_kept.specs.Matching.{hands_frame}
use Rattle.bpf_kept.proofs.Further.{one_more}
use Rattle.bpf_kept.proofs.WalkLemmas.{at_slot, none_holds, one_holds}
use Rattle.bpf_kept.proofs.known.hands_none.Goals as goal

pub returns-then-hands_at : goal.returns-then-hands_at
returns-then-hands_at g c = sym (one_holds hands_frame (g.N.Code.program c.args.new.now).list c.loop-slot.slot (sym c.hands_at.ensures ∙ c.if-hands_at.true))

pub loop-slot-preserved : goal.loop-slot-preserved
loop-slot-preserved g c =
    one_more (λ slot. at_slot hands_frame (g.N.Code.program c.args.new.now).list slot ≡ false) c.loop-slot.slot c.loop-slot.invariant (sym c.hands_at.ensures ∙ c.if-hands_at.false)

pub returns : goal.returns
returns g c =
    let list : List Insn = (g.N.Code.program c.args.new.now).list in
    let all : slots list ≤ c.loop-slot.slot = omega arith in
    sym (none_holds hands_frame list (λ slot less. c.loop-slot.invariant slot (omega (arith, less, all))))
