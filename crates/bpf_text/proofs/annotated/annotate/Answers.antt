use Rattle.std.proofs.Common.{◌≡◌, ◌≤◌, ◌+◌, ◌<◌, sym, ◌∙◌, subst, arith, None, []}
use Rattle.bpf_insn.specs.Instruction.{slots, insn_at}
use Rattle.bpf_insn.specs.Written.{Gathers}
use Rattle.bpf_insn.proofs.LayoutLemmas.{insns_below, below_second, below_all}
use Rattle.bpf_insn.proofs.WriteLemmas.{gathers_nothing, gathered_all, gathered_some, on_ok_map, on_err_map}
use Rattle.bpf_text.specs.Annotated.{annotated}
use Rattle.bpf_text.proofs.AnnotatedLemmas.{line_put, line_begun}
use Rattle.bpf_text.proofs.annotated.annotate.Goals as goal
use Rattle.bpf_text.proofs.annotated.annotate.Goals.{in-Some+in-Ok, in_default}

pub loop-slot-init : goal.loop-slot-init
loop-slot-init g c = subst (λ p. Gathers (g.W.Write.contents c.args.out.now) (g.W.Write.contents c.args.out.now) [] p []) (sym c.new-pending.ensures) (gathers_nothing _ [])

pub returns-in-Err-clause-err : goal.returns-in-Err-clause-err
returns-in-Err-clause-err g c =
    let p = g.C.Code.program c.args.program.now in
    let slot = c.loop-slot.slot in
    let inside : slot < slots p.list = omega arith in
    line_begun c.args.notes p.order c.args.bytes.now p.list slot c.in-Some.insn _ _ _ c.loop-slot.pending c.requires inside (sym c.insn.ensures ∙ c.in-Some.is) c.loop-slot.invariant c.in-Err.ensures.err

pub loop-slot-preserved : goal.loop-slot-preserved
loop-slot-preserved g c =
    let p = g.C.Code.program c.args.program.now in
    let slot = c.loop-slot.slot in
    let inside : slot < slots p.list = omega arith in
    let grown : Gathers (g.W.Write.contents c.args.out.now) (g.W.Write.contents c.match-insn.out) [] c.match-insn.pending (annotated c.args.notes p.order (insns_below (slot + 1) p.list)) = elim c.match-insn.branch [
      | in-Some+in-Ok w ↦
          subst (λ out. Gathers (g.W.Write.contents c.args.out.now) (g.W.Write.contents out) [] c.match-insn.pending (annotated c.args.notes p.order (insns_below (slot + 1) p.list))) (sym w.out-is)
          (subst (λ q. Gathers (g.W.Write.contents c.args.out.now) (g.W.Write.contents w.put_insn.new.out) [] q (annotated c.args.notes p.order (insns_below (slot + 1) p.list))) (sym w.pending-is)
          (line_put c.args.notes p.order c.args.bytes.now p.list slot w.in-Some.insn _ _ _ _ _ c.requires inside (sym c.insn.ensures ∙ w.in-Some.is) c.loop-slot.invariant w.in-Ok.ensures.ok))
      | in_default w ↦
          let none : insn_at p.list slot ≡ None = sym c.insn.ensures ∙ w.in_default.is in
          let here = below_second slot p.list inside none in
          subst (λ out. Gathers (g.W.Write.contents c.args.out.now) (g.W.Write.contents out) [] c.match-insn.pending (annotated c.args.notes p.order (insns_below (slot + 1) p.list))) (sym w.out-is)
          (subst (λ q. Gathers (g.W.Write.contents c.args.out.now) (g.W.Write.contents c.loop-slot.out) [] q (annotated c.args.notes p.order (insns_below (slot + 1) p.list))) (sym w.pending-is)
          (subst (λ js. Gathers (g.W.Write.contents c.args.out.now) (g.W.Write.contents c.loop-slot.out) [] c.loop-slot.pending (annotated c.args.notes p.order js)) (sym here) c.loop-slot.invariant))
    ] in
    grown

pub returns-clause-ok : goal.returns-clause-ok
returns-clause-ok g c =
    let p = g.C.Code.program c.args.program.now in
    let all : slots p.list ≤ c.loop-slot.slot = omega arith in
    on_ok_map c.flush.result (gathered_all _ _ _ c.loop-slot.pending (annotated c.args.notes p.order p.list) (subst (λ js. Gathers (g.W.Write.contents c.args.out.now) (g.W.Write.contents c.loop-slot.out) [] c.loop-slot.pending (annotated c.args.notes p.order js)) (below_all c.loop-slot.slot p.list all) c.loop-slot.invariant)) c.flush.ensures.ok

pub returns-clause-err : goal.returns-clause-err
returns-clause-err g c =
    let p = g.C.Code.program c.args.program.now in
    let all : slots p.list ≤ c.loop-slot.slot = omega arith in
    on_err_map c.flush.result (gathered_some _ _ _ c.loop-slot.pending (annotated c.args.notes p.order p.list) (subst (λ js. Gathers (g.W.Write.contents c.args.out.now) (g.W.Write.contents c.loop-slot.out) [] c.loop-slot.pending (annotated c.args.notes p.order js)) (below_all c.loop-slot.slot p.list all) c.loop-slot.invariant)) c.flush.ensures.err
