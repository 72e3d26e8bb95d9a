use Rattle.std.proofs.Common.{ℕ, [], ◌∷◌, ◌++◌, ◌∙◌}
use Rattle.bpf_insn.proofs.WriteLemmas.{on_err}
use Rattle.bpf_captures.specs.Lines.{count_line}
use Rattle.bpf_captures.proofs.PutLemmas.{next_done, none_waits, put_fails_all, put_more}
use Rattle.bpf_captures.proofs.counting.print_counts.Goals as goal

pub counts-init : goal.counts-init
counts-init g c = ([], c.into_iter-value-iterator.ensures.into_iter_gives ∙ c.iter-value-items.ensures.rest, none_waits (g.W.Write.contents c.args.out.now) c.args.pending.now c.requires)

pub counts-preserved : goal.counts-preserved
counts-preserved g c =
    let contents = g.W.Write.contents in
    let done = c.counts.invariant.0 in
    let one : ℕ × ℕ = (c.in-Some.value.now, c.in-Some.times.now) in (
      done ++ one ∷ [],
      next_done done one c.counts.value-iterator c.next.new.self c.args.counts.now.entries c.counts.invariant.1 c.in-Some.ensures.steps,
      put_more count_line (contents c.args.out.now) (contents c.counts.out) (contents c.put_count.new.out) c.counts.pending c.put_count.new.pending done one c.counts.invariant.2 c.in_ok-put_count.ensures.ok,
    )

pub returns-in_err-put_count-clause-err : goal.returns-in_err-put_count-clause-err
returns-in_err-put_count-clause-err g c =
    let contents = g.W.Write.contents in
    let done = c.counts.invariant.0 in
    let one : ℕ × ℕ = (c.in-Some.value.now, c.in-Some.times.now) in
    let all = next_done done one c.counts.value-iterator c.next.new.self c.args.counts.now.entries c.counts.invariant.1 c.in-Some.ensures.steps in
    on_err c.from_residual.result
    (put_fails_all count_line (contents c.args.out.now) (contents c.counts.out) (contents c.put_count.new.out) c.counts.pending done one c.next.new.self c.args.counts.now.entries all c.counts.invariant.2 c.in_err-put_count.ensures.err)
