use Rattle.std.proofs.Common.{◌≡◌, true, Some, IfSome, refl, sym, ap, ap₂, subst, ◌∙◌}
use Rattle.bpf_cert.specs.View.{label_view}
use Rattle.bpf_state.specs.Answer.{edge_told}
use Rattle.bpf_state.specs.Transfer.{branch}
use Rattle.bpf_safety.specs.Flow.{jump_state}
use Rattle.bpf_check.specs.code.Edges.{with_operands}
use Rattle.bpf_check.specs.code.Sites.{IsSpot}
use Rattle.bpf_check.proofs.EdgeLemmas.{jump_is_dead}
use Rattle.bpf_check.proofs.PutBack.{put_back}
use Rattle.bpf_check.proofs.judge.judge_jump.Goals as goal

pub returns-then-not-branch-clause-seen : goal.returns-then-not-branch-clause-seen
returns-then-not-branch-clause-seen c =
    jump_is_dead c.args.site.now.certificate.now (label_view c.args.old.now) c.args.cost c.args.site.now.here.slot c.args.site.now.insn c.args.state.now c.args.state.now c.branch-site.new.state c.args.site.now.jump c.in-Some.to c.branch-site.result _ c.requires.site.jump_slot c.in-Some.is (subst (λ i. jump_state c.args.site.now.here.slot i c.args.state.now ≡ branch i true c.args.state.now) (sym c.in-JumpIf.is) refl) refl c.branch-site.ensures.edge c.if-not-branch.true (c.dead.ensures.seen c.args.site.now.certificate.now (label_view c.args.old.now) c.args.cost (subst (λ o. IfSome o (λ t. IsSpot c.args.site.now.certificate.now t)) c.in-Some.is c.requires.site.jump))

pub returns-clause-kept : goal.returns-clause-kept
returns-clause-kept c =
    c.put_back.ensures
    ∙ ap₂ (λ l r. with_operands c.in-JumpIf.dst c.in-JumpIf.src l r c.branch-site.new.state) c.reg-left.ensures.value c.operand-right.ensures.value
    ∙ put_back _ _ c.in-JumpIf.dst c.in-JumpIf.src c.in-JumpIf.off c.args.state.now c.branch-site.new.state (subst (λ i. branch i true c.args.state.now ≡ Some c.branch-site.new.state) c.in-JumpIf.is (sym c.branch-site.ensures.edge ∙ ap (λ b. edge_told b c.branch-site.new.state) c.if-not-branch.false))
