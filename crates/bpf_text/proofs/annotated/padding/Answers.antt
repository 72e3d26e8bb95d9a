use Rattle.std.proofs.Common.{◌-◌, ◌∙◌, ap, replicate, take, arith}
use Rattle.std.proofs.lemmas.List.{drop-replicate, take-replicate}
use Rattle.bpf_text.proofs.annotated.padding.Goals as goal

pub returns : goal.returns
returns c =
    ap (take (32 - c.min.result)) (drop-replicate c.min.result 32 32) ∙ take-replicate (32 - c.min.result) (32 - c.min.result) 32 (omega arith) ∙ ap (λ k. replicate (32 - k) 32) c.min.ensures
