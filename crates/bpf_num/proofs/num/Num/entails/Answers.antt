use Rattle.std.proofs.Common.{sym, ◌∙◌}
use Rattle.bpf_num.proofs.OrderLaws.{entails_includes}
use Rattle.bpf_num.proofs.num.Num.entails.Goals as goal

pub returns-clause-includes : goal.returns-clause-includes
returns-clause-includes c holds x has = entails_includes c.args.self c.args.other x c.valid.ensures (sym c.entails_parts.ensures ∙ holds) has
