use Rattle.std.proofs.Common.{◌++◌, subst}
use Rattle.std.specs.Prelude.{OnOk, OnErr}
use Rattle.bpf_insn.specs.Written.{AppendsBeginning, Gathers}
use Rattle.bpf_answers.proofs.lines.put_run.Goals as goal

pub returns-in-OutOfFuel-clause-ok : goal.returns-in-OutOfFuel-clause-ok
returns-in-OutOfFuel-clause-ok g c =
    rw c.in-OutOfFuel.is
    (subst (λ t. OnOk c.put.result (Gathers (g.W.Write.contents c.args.out.now) (g.W.Write.contents c.put.new.out) c.args.pending.now c.put.new.self t)) c.as_bytes.ensures.value c.put.ensures.ok)

pub returns-in-OutOfFuel-clause-err : goal.returns-in-OutOfFuel-clause-err
returns-in-OutOfFuel-clause-err g c =
    rw c.in-OutOfFuel.is
    (subst (λ t. OnErr c.put.result (AppendsBeginning (g.W.Write.contents c.args.out.now) (g.W.Write.contents c.put.new.out) (c.args.pending.now ++ t))) c.as_bytes.ensures.value c.put.ensures.err)
