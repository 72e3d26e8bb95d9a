use Rattle.std.proofs.Common.{sym, ◌∙◌}
use Rattle.std.proofs.lemmas.Bool.{cond-false}
use Rattle.bpf_num.proofs.Parts.{multiple_above}
use Rattle.bpf_num.proofs.unsigned.Unsigned.multiple.Goals as goal

pub returns-else-self-amount : goal.returns-else-self-amount
returns-else-self-amount c =
    rw (← c.self.view_is) (c.top.ensures ∙ sym (cond-false _ _ _ (multiple_above c.self.inside.hi c.args.amount c.if-self-amount.false)))
