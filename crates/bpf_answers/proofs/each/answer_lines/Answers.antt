use Rattle.std.proofs.Common.{◌≡◌, ◌+◌, [], max, refl, rules, sym, subst, take}
use Rattle.bpf_answers.proofs.MadeLemmas.{on_failure}
use Rattle.bpf_answers.proofs.LinesLemmas.{SoFar, at_first, line_left, lines_left, one_more_said, refused_line, sent, waits_left}
use Rattle.bpf_answers.proofs.each.answer_lines.Goals as goal

pub answers-init : goal.answers-init
answers-init g c = at_first (g.Q.Runner.says c.args.runner.now) c.args.lines.now (g.W.Write.contents c.args.out.now) c.new-pending.result c.new-pending.ensures

pub returns-in_err-send_before_a_read-clause-begun : goal.returns-in_err-send_before_a_read-clause-begun
returns-in_err-send_before_a_read-clause-begun g c =
    on_failure c.from_residual.result _
    (waits_left (g.Q.Runner.says c.args.runner.now) c.args.lines.now c.answers.lines (g.W.Write.contents c.args.out.now) (g.W.Write.contents c.answers.out) (g.W.Write.contents c.send_before_a_read.new.out) c.answers.pending c.answers.status c.answers.before
    c.answers.invariant c.in_err-send_before_a_read.ensures.begun)

pub answers-preserved : goal.answers-preserved
answers-preserved g c =
    let says = g.Q.Runner.says c.args.runner.now in
    let known = c.args.lines.now in
    let before = g.W.Write.contents c.args.out.now in
    let mid = g.W.Write.contents c.send_before_a_read.new.out in
    let after = g.W.Write.contents c.answer_context.new.out in
    let turn = c.in-Context.ensures in
    let said = c.in_ok-answer_context-in-Context.ensures.ok in
    let status : c.max-status.result ≡ max c.answers.status c.in_ok-answer_context-in-Context.field-0 = search rules in
    let h = sent says known c.answers.lines before (g.W.Write.contents c.answers.out) mid c.answers.pending c.send_before_a_read.new.pending c.answers.status c.answers.before c.answers.invariant c.in_ok-send_before_a_read.ensures.ok in
    subst (λ n. SoFar says known c.next_context.new.lines before after c.answer_context.new.pending n (c.answers.before + 1)) (sym status)
    (one_more_said says known c.answers.lines c.next_context.new.lines before mid after c.send_before_a_read.new.pending c.answer_context.new.pending c.answers.status c.answers.before c.in_ok-answer_context-in-Context.field-0 turn.0
    (take c.in-Context.count c.next_context.new.buffer) said.0 h turn.1 turn.2.1 said.1 said.2 said.3)

pub returns-in_err-answer_context-in-Context-clause-begun : goal.returns-in_err-answer_context-in-Context-clause-begun
returns-in_err-answer_context-in-Context-clause-begun g c =
    let says = g.Q.Runner.says c.args.runner.now in
    let known = c.args.lines.now in
    let before = g.W.Write.contents c.args.out.now in
    let mid = g.W.Write.contents c.send_before_a_read.new.out in
    let turn = c.in-Context.ensures in
    let part = c.in_err-answer_context-in-Context.ensures.begun in
    let h = sent says known c.answers.lines before (g.W.Write.contents c.answers.out) mid c.answers.pending c.send_before_a_read.new.pending c.answers.status c.answers.before c.answers.invariant c.in_ok-send_before_a_read.ensures.ok in
    on_failure c.from_residual-in_err-answer_context-in-Context.result _
    (line_left says known c.answers.lines c.next_context.new.lines before mid (g.W.Write.contents c.answer_context.new.out) c.send_before_a_read.new.pending c.answers.status c.answers.before turn.0
    (take c.in-Context.count c.next_context.new.buffer) part.0 h turn.1 turn.2.1 part.1 part.2)

pub returns-in_err-send-in-End-clause-begun : goal.returns-in_err-send-in-End-clause-begun
returns-in_err-send-in-End-clause-begun g c =
    let says = g.Q.Runner.says c.args.runner.now in
    let known = c.args.lines.now in
    let before = g.W.Write.contents c.args.out.now in
    let mid = g.W.Write.contents c.send_before_a_read.new.out in
    let h = sent says known c.answers.lines before (g.W.Write.contents c.answers.out) mid c.answers.pending c.send_before_a_read.new.pending c.answers.status c.answers.before c.answers.invariant c.in_ok-send_before_a_read.ensures.ok in
    on_failure _ _ (waits_left says known c.answers.lines before mid (g.W.Write.contents c.send.new.out) c.send_before_a_read.new.pending c.answers.status c.answers.before h c.in_err-send-in-End.ensures.begun)

pub returns-in_err-send-in-Refused-clause-begun : goal.returns-in_err-send-in-Refused-clause-begun
returns-in_err-send-in-Refused-clause-begun g c =
    let says = g.Q.Runner.says c.args.runner.now in
    let known = c.args.lines.now in
    let before = g.W.Write.contents c.args.out.now in
    let mid = g.W.Write.contents c.send_before_a_read.new.out in
    let h = sent says known c.answers.lines before (g.W.Write.contents c.answers.out) mid c.answers.pending c.send_before_a_read.new.pending c.answers.status c.answers.before c.answers.invariant c.in_ok-send_before_a_read.ensures.ok in
    on_failure _ _ (waits_left says known c.answers.lines before mid (g.W.Write.contents c.send-in-Refused.new.out) c.send_before_a_read.new.pending c.answers.status c.answers.before h c.in_err-send-in-Refused.ensures.begun)

pub returns-in-Refused-clause-err : goal.returns-in-Refused-clause-err
returns-in-Refused-clause-err g c =
    let says = g.Q.Runner.says c.args.runner.now in
    let known = c.args.lines.now in
    let before = g.W.Write.contents c.args.out.now in
    let mid = g.W.Write.contents c.send_before_a_read.new.out in
    let after = g.W.Write.contents c.send-in-Refused.new.out in
    let h = sent says known c.answers.lines before (g.W.Write.contents c.answers.out) mid c.answers.pending c.send_before_a_read.new.pending c.answers.status c.answers.before c.answers.invariant c.in_ok-send_before_a_read.ensures.ok in
    let k = sent says known c.answers.lines before mid after c.send_before_a_read.new.pending [] c.answers.status c.answers.before h c.in_ok-send-in-Refused.ensures.ok in
    refused_line says known c.answers.lines before after [] c.answers.status c.answers.before c.in-Refused.error k refl c.in-Refused.ensures

pub returns-in-Refused-clause-begun : goal.returns-in-Refused-clause-begun
returns-in-Refused-clause-begun g c =
    let says = g.Q.Runner.says c.args.runner.now in
    let known = c.args.lines.now in
    let before = g.W.Write.contents c.args.out.now in
    let mid = g.W.Write.contents c.send_before_a_read.new.out in
    let after = g.W.Write.contents c.send-in-Refused.new.out in
    let h = sent says known c.answers.lines before (g.W.Write.contents c.answers.out) mid c.answers.pending c.send_before_a_read.new.pending c.answers.status c.answers.before c.answers.invariant c.in_ok-send_before_a_read.ensures.ok in
    lines_left says known c.answers.lines before after [] c.answers.status c.answers.before
    (sent says known c.answers.lines before mid after c.send_before_a_read.new.pending [] c.answers.status c.answers.before h c.in_ok-send-in-Refused.ensures.ok)

pub returns-in_err-send-in-Failed-clause-begun : goal.returns-in_err-send-in-Failed-clause-begun
returns-in_err-send-in-Failed-clause-begun g c =
    let says = g.Q.Runner.says c.args.runner.now in
    let known = c.args.lines.now in
    let before = g.W.Write.contents c.args.out.now in
    let mid = g.W.Write.contents c.send_before_a_read.new.out in
    let h = sent says known c.answers.lines before (g.W.Write.contents c.answers.out) mid c.answers.pending c.send_before_a_read.new.pending c.answers.status c.answers.before c.answers.invariant c.in_ok-send_before_a_read.ensures.ok in
    on_failure _ _ (waits_left says known c.answers.lines before mid (g.W.Write.contents c.send-in-Failed.new.out) c.send_before_a_read.new.pending c.answers.status c.answers.before h c.in_err-send-in-Failed.ensures.begun)

pub returns-in-Failed-clause-begun : goal.returns-in-Failed-clause-begun
returns-in-Failed-clause-begun g c =
    let says = g.Q.Runner.says c.args.runner.now in
    let known = c.args.lines.now in
    let before = g.W.Write.contents c.args.out.now in
    let mid = g.W.Write.contents c.send_before_a_read.new.out in
    let after = g.W.Write.contents c.send-in-Failed.new.out in
    let h = sent says known c.answers.lines before (g.W.Write.contents c.answers.out) mid c.answers.pending c.send_before_a_read.new.pending c.answers.status c.answers.before c.answers.invariant c.in_ok-send_before_a_read.ensures.ok in
    lines_left says known c.answers.lines before after [] c.answers.status c.answers.before
    (sent says known c.answers.lines before mid after c.send_before_a_read.new.pending [] c.answers.status c.answers.before h c.in_ok-send-in-Failed.ensures.ok)

pub returns-clause-begun : goal.returns-clause-begun
returns-clause-begun g c = lines_left (g.Q.Runner.says c.args.runner.now) c.args.lines.now c.answers.lines (g.W.Write.contents c.args.out.now) (g.W.Write.contents c.answers.out) c.answers.pending c.answers.status c.answers.before c.answers.invariant
