use Rattle.std.proofs.Common.{◌≡◌, ◌-◌, ◌*◌, [], ◌∷◌, ◌++◌, length, take, drop, ap, ap₂, sym, ◌∙◌, arith}
use Rattle.std.proofs.lemmas.Grind.{common_steps}
use Rattle.std.proofs.lemmas.List.FromFn.{map-range_with_len_more}
use Rattle.bpf_classic.specs.Bytes.{raw_at, raw_bytes, raw_in}
use Rattle.bpf_classic.proofs.bytes.whole_raws.Goals as goal

pub raws-preserved : goal.raws-preserved
raws-preserved c =
    let bytes = c.args.bytes.now in
    let at = c.raws.at in
    let rest : take (length bytes - raw_bytes * at) (drop (raw_bytes * at) bytes) ≡ drop (raw_bytes * at) bytes = grind (arith, common_steps) in
    let one : c.raw_in.result ≡ raw_at c.args.order bytes at = c.raw_in.ensures ∙ ap (raw_in c.args.order) rest in
    c.in_ok-push.ensures.items ∙ ap₂ (λ l r. l ++ r ∷ []) c.raws.invariant one ∙ sym (map-range_with_len_more (raw_at c.args.order bytes) 0 at at (omega arith))
