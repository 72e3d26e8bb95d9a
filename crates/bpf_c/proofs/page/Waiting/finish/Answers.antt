use Rattle.std.proofs.Common.{ℕ, List, Option, ap, subst}
use Rattle.std.specs.Prelude.{OnErr, is_some}
use Rattle.bpf_insn.specs.Written.{AppendsBeginning}
use Rattle.bpf_c.specs.code.Says.{Stands}
use Rattle.bpf_c.proofs.SaysLemmas.{flush_fails}
use Rattle.bpf_c.proofs.page.Waiting.finish.Goals as goal

pub returns-in-None-clause-err : goal.returns-in-None-clause-err
returns-in-None-clause-err g c =
    let before = g.W.Write.contents c.args.out.now in
    let after = g.W.Write.contents c.flush.new.out in
    subst (λ s. OnErr c.flush.result ((start : Option (List ℕ)) → (text : List ℕ) → Stands start text before s → AppendsBeginning start after text)) c.self.view_is
    (flush_fails c.flush.result before after (record { waits = c.self.inside.pending; failed = is_some c.self.inside.fault }) (ap is_some c.in-None.is) c.flush.ensures.err)
