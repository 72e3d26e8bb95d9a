use Rattle.std.proofs.Common.{◌+◌, [], ◌∷◌, ◌++◌, sym, subst}
use Rattle.bpf_captures.specs.Lines.{value_line}
use Rattle.bpf_captures.proofs.PutLemmas.{gathered_begins, none_waits, put_fails, put_more}
use Rattle.bpf_captures.proofs.ReplayLemmas.{SoFar, at_first, fails, headless, one_more}
use Rattle.bpf_captures.proofs.printing.print_each.Goals as goal

pub returns-in-Err-clause-ok : goal.returns-in-Err-clause-ok
returns-in-Err-clause-ok g c = (
  [],
  headless (g.Q.Answerer.gives c.args.answerer.now) c.args.blocks (g.R.Read.remaining c.args.reader.now) c.in-Err.stop c.in-Err.ensures.err,
  none_waits (g.W.Write.contents c.args.out.now) c.args.pending.now c.requires.nothing,
)

pub packets-init : goal.packets-init
packets-init g c = (
  [],
  at_first (g.Q.Answerer.gives c.args.answerer.now) c.args.blocks c.in-Ok.order (g.R.Read.remaining c.args.reader.now) (g.R.Read.remaining c.first_of.new.reader) c.in-Ok.ensures.ok,
  none_waits (g.W.Write.contents c.args.out.now) c.args.pending.now c.requires.nothing,
)

pub returns-in-Err-put_value-clause-err : goal.returns-in-Err-put_value-clause-err
returns-in-Err-put_value-clause-err g c =
    let gives = g.Q.Answerer.gives c.args.answerer.now in
    let remaining = g.R.Read.remaining in
    let contents = g.W.Write.contents in
    let inv = c.packets.invariant in
    let more = one_more gives c.args.blocks c.in-Ok.order (remaining c.args.reader.now) (remaining c.packets.reader) (remaining c.next_value.new.reader) inv.0 c.packets.before c.packets.byte c.in-Value.value c.in-Value.count inv.1 c.in-Value.ensures in (
      inv.0 ++ c.in-Value.value ∷ [],
      fails gives c.args.blocks c.in-Ok.order (remaining c.args.reader.now) (remaining c.next_value.new.reader) (inv.0 ++ c.in-Value.value ∷ []) (c.packets.before + 1) (c.packets.byte + (16 + c.in-Value.count)) more,
      put_fails value_line (contents c.args.out.now) (contents c.packets.out) (contents c.put_value.new.out) c.packets.pending inv.0 c.in-Value.value inv.2 c.in-Err-put_value.ensures.err,
    )

pub returns-in_default-clause-err : goal.returns-in_default-clause-err
returns-in_default-clause-err g c =
    let gives = g.Q.Answerer.gives c.args.answerer.now in
    let remaining = g.R.Read.remaining in
    let contents = g.W.Write.contents in
    let inv = c.packets.invariant in
    let more = one_more gives c.args.blocks c.in-Ok.order (remaining c.args.reader.now) (remaining c.packets.reader) (remaining c.next_value.new.reader) inv.0 c.packets.before c.packets.byte c.in-Value.value c.in-Value.count inv.1 c.in-Value.ensures in
    let put = put_more value_line (contents c.args.out.now) (contents c.packets.out) (contents c.put_value.new.out) c.packets.pending c.put_value.new.pending inv.0 c.in-Value.value inv.2 c.in-Ok-put_value.ensures.ok in (
      inv.0 ++ c.in-Value.value ∷ [],
      fails gives c.args.blocks c.in-Ok.order (remaining c.args.reader.now) (remaining c.next_value.new.reader) (inv.0 ++ c.in-Value.value ∷ []) (c.packets.before + 1) (c.packets.byte + (16 + c.in-Value.count)) more,
      gathered_begins (contents c.args.out.now) (contents c.put_value.new.out) c.put_value.new.pending _ put,
    )

pub packets-preserved : goal.packets-preserved
packets-preserved g c =
    let gives = g.Q.Answerer.gives c.args.answerer.now in
    let remaining = g.R.Read.remaining in
    let contents = g.W.Write.contents in
    let inv = c.packets.invariant in
    let more = one_more gives c.args.blocks c.in-Ok.order (remaining c.args.reader.now) (remaining c.packets.reader) (remaining c.next_value.new.reader) inv.0 c.packets.before c.packets.byte c.in-Value.value c.in-Value.count inv.1 c.in-Value.ensures in (
      inv.0 ++ c.in-Value.value ∷ [],
      subst (λ n. SoFar gives c.args.blocks c.in-Ok.order (remaining c.args.reader.now) (remaining c.next_value.new.reader) (inv.0 ++ c.in-Value.value ∷ []) (c.packets.before + 1) n) (sym c.in-Some.ensures) more,
      put_more value_line (contents c.args.out.now) (contents c.packets.out) (contents c.put_value.new.out) c.packets.pending c.put_value.new.pending inv.0 c.in-Value.value inv.2 c.in-Ok-put_value.ensures.ok,
    )
