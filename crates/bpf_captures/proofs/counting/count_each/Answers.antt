use Rattle.std.proofs.Common.{◌+◌, [], ◌∷◌, ◌++◌, sym, subst}
use Rattle.bpf_captures.proofs.ReplayLemmas.{SoFar, one_more}
use Rattle.bpf_captures.proofs.counting.count_each.Goals as goal

pub packets-preserved : goal.packets-preserved
packets-preserved g c =
    let gives = g.Q.Answerer.gives c.args.answerer.now in
    let remaining = g.R.Read.remaining in
    let inv = c.packets.invariant in
    let more = one_more gives c.args.blocks c.in-Ok.order (remaining c.args.reader.now) (remaining c.packets.reader) (remaining c.next_value.new.reader) inv.0 c.packets.before c.packets.byte c.in-Value.value c.in-Value.taken inv.1 c.in-Value.ensures in (
      inv.0 ++ c.in-Value.value ∷ [],
      subst (λ n. SoFar gives c.args.blocks c.in-Ok.order (remaining c.args.reader.now) (remaining c.next_value.new.reader) (inv.0 ++ c.in-Value.value ∷ []) (c.packets.before + 1) n) (sym c.in-Some.ensures) more,
      c.in-Ok-count.ensures inv.0 inv.2,
    )
