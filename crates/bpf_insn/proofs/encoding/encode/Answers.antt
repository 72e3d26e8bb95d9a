use Rattle.std.proofs.Common.{◌≡◌, ◌≤◌, ◌+◌, ◌<◌, sym, ◌∙◌, subst, arith, drop, None, [], ◌++◌}
use Rattle.bpf_insn.specs.Instruction.{slots, layout, insn_at}
use Rattle.bpf_insn.specs.Image.{image, instruction_bytes}
use Rattle.bpf_insn.specs.Written.{AppendsBeginning, Gathers}
use Rattle.bpf_insn.specs.code.Layout.{instructions_in}
use Rattle.bpf_insn.proofs.LayoutLemmas.{insns_below, below_insn, below_second, below_all, below_rest}
use Rattle.bpf_insn.proofs.WriteLemmas.{gathers_nothing, gathers_image, begins_more, gathered_all, gathered_some, on_ok_map, on_err_map}
use Rattle.bpf_insn.proofs.encoding.encode.Goals as goal
use Rattle.bpf_insn.proofs.encoding.encode.Goals.{in-Some+in-Ok, in_default}

pub loop-slot-init : goal.loop-slot-init
loop-slot-init g c = subst (λ p. Gathers (g.W.Write.contents c.args.out.now) (g.W.Write.contents c.args.out.now) [] p []) (sym c.new-pending.ensures) (gathers_nothing _ [])

pub returns-in-Err-clause-err : goal.returns-in-Err-clause-err
returns-in-Err-clause-err g c =
    let is = (g.C.Code.program c.args.code.now).list in
    let order = (g.C.Code.program c.args.code.now).order in
    let slot = c.loop-slot.slot in
    let inside : slot < slots is = omega arith in
    begins_more order _ _ _ c.loop-slot.pending is (insns_below slot is) c.in-Some.insn (instructions_in (drop (slot + 1) (layout is))) (below_rest slot is c.in-Some.insn inside (sym c.insn.ensures ∙ c.in-Some.is)) c.loop-slot.invariant
    (subst (λ o. AppendsBeginning (g.W.Write.contents c.loop-slot.out) (g.W.Write.contents c.put_insn.new.out) (c.loop-slot.pending ++ instruction_bytes o c.in-Some.insn)) c.order-order.ensures c.in-Err.ensures.err)

pub loop-slot-preserved : goal.loop-slot-preserved
loop-slot-preserved g c =
    let is = (g.C.Code.program c.args.code.now).list in
    let order = (g.C.Code.program c.args.code.now).order in
    let slot = c.loop-slot.slot in
    let inside : slot < slots is = omega arith in
    let grown : Gathers (g.W.Write.contents c.args.out.now) (g.W.Write.contents c.match-insn.out) [] c.match-insn.pending (image order (insns_below (slot + 1) is)) = elim c.match-insn.branch [
      | in-Some+in-Ok w ↦
          let put = subst (λ o. Gathers (g.W.Write.contents c.loop-slot.out) (g.W.Write.contents w.put_insn.new.out) c.loop-slot.pending w.put_insn.new.pending (instruction_bytes o w.in-Some.insn)) c.order-order.ensures w.in-Ok.ensures.ok in
          let here = below_insn slot is w.in-Some.insn inside (sym c.insn.ensures ∙ w.in-Some.is) in
          subst (λ out. Gathers (g.W.Write.contents c.args.out.now) (g.W.Write.contents out) [] c.match-insn.pending (image order (insns_below (slot + 1) is))) (sym w.out-is)
          (subst (λ p. Gathers (g.W.Write.contents c.args.out.now) (g.W.Write.contents w.put_insn.new.out) [] p (image order (insns_below (slot + 1) is))) (sym w.pending-is)
          (gathers_image order _ _ _ _ _ (insns_below slot is) _ w.in-Some.insn here c.loop-slot.invariant put))
      | in_default w ↦
          let none : insn_at is slot ≡ None = sym c.insn.ensures ∙ w.in_default.is in
          let here = below_second slot is inside none in
          subst (λ out. Gathers (g.W.Write.contents c.args.out.now) (g.W.Write.contents out) [] c.match-insn.pending (image order (insns_below (slot + 1) is))) (sym w.out-is)
          (subst (λ p. Gathers (g.W.Write.contents c.args.out.now) (g.W.Write.contents c.loop-slot.out) [] p (image order (insns_below (slot + 1) is))) (sym w.pending-is)
          (subst (λ js. Gathers (g.W.Write.contents c.args.out.now) (g.W.Write.contents c.loop-slot.out) [] c.loop-slot.pending (image order js)) (sym here) c.loop-slot.invariant))
    ] in
    grown

pub returns-clause-ok : goal.returns-clause-ok
returns-clause-ok g c =
    let is = (g.C.Code.program c.args.code.now).list in
    let order = (g.C.Code.program c.args.code.now).order in
    let all : slots is ≤ c.loop-slot.slot = omega arith in
    on_ok_map c.flush.result (gathered_all _ _ _ c.loop-slot.pending (image order is) (subst (λ js. Gathers (g.W.Write.contents c.args.out.now) (g.W.Write.contents c.loop-slot.out) [] c.loop-slot.pending (image order js)) (below_all c.loop-slot.slot is all) c.loop-slot.invariant)) c.flush.ensures.ok

pub returns-clause-err : goal.returns-clause-err
returns-clause-err g c =
    let is = (g.C.Code.program c.args.code.now).list in
    let order = (g.C.Code.program c.args.code.now).order in
    let all : slots is ≤ c.loop-slot.slot = omega arith in
    on_err_map c.flush.result (gathered_some _ _ _ c.loop-slot.pending (image order is) (subst (λ js. Gathers (g.W.Write.contents c.args.out.now) (g.W.Write.contents c.loop-slot.out) [] c.loop-slot.pending (image order js)) (below_all c.loop-slot.slot is all) c.loop-slot.invariant)) c.flush.ensures.err
