use Rattle.std.proofs.Common.{subst}
use Rattle.std.specs.Io.KnownBytes.{Appends}
use Rattle.bpf_insn.specs.Written.{AppendsBeginning}
use Rattle.bpf_captures.specs.Stops.{Replays}
use Rattle.bpf_captures.specs.declared.turn.CaptureEnd.TheVariants.{Failed}
use Rattle.bpf_command.specs.Replayed.{Gives}
use Rattle.bpf_command.proofs.ReplayedLemmas.{Stopped, replay_fails, replay_leaves, replay_says}
use Rattle.bpf_command.proofs.commands.packets.replay_from.Goals as goal

pub returns-in-Ok-clause-ok : goal.returns-in-Ok-clause-ok
returns-in-Ok-clause-ok g c =
    let k = c.args.checked.now in
    let packets = c.args.packets in
    let known = g.R.Read.remaining c.args.reader.now in
    let at = g.W.Write.contents in
    let said : Stopped packets k known (at c.args.out.now) (at c.replay.new.out) c.in-Ok.stop
    = subst (λ n. Replays (Gives k) (record { order = packets.order; size = n }) known packets.counts (Appends (at c.args.out.now) (at c.replay.new.out)) c.in-Ok.stop) c.most.ensures (subst (λ q. Replays (Gives q) (record { order = packets.order; size = c.most.result }) known packets.counts (Appends (at c.args.out.now) (at c.replay.new.out)) c.in-Ok.stop) c.of.ensures c.in-Ok.ensures.ok) in
    replay_says packets k known (at c.args.out.now) (at c.replay.new.out) c.in-Ok.stop c.ended.result said c.ended.ensures.ok

pub returns-in-Ok-clause-err : goal.returns-in-Ok-clause-err
returns-in-Ok-clause-err g c =
    let k = c.args.checked.now in
    let packets = c.args.packets in
    let known = g.R.Read.remaining c.args.reader.now in
    let at = g.W.Write.contents in
    let said : Stopped packets k known (at c.args.out.now) (at c.replay.new.out) c.in-Ok.stop
    = subst (λ n. Replays (Gives k) (record { order = packets.order; size = n }) known packets.counts (Appends (at c.args.out.now) (at c.replay.new.out)) c.in-Ok.stop) c.most.ensures (subst (λ q. Replays (Gives q) (record { order = packets.order; size = c.most.result }) known packets.counts (Appends (at c.args.out.now) (at c.replay.new.out)) c.in-Ok.stop) c.of.ensures c.in-Ok.ensures.ok) in
    replay_fails packets k known (at c.args.out.now) (at c.replay.new.out) c.in-Ok.stop c.ended.result said c.ended.ensures.err

pub returns-in-Ok-clause-begun : goal.returns-in-Ok-clause-begun
returns-in-Ok-clause-begun g c =
    let k = c.args.checked.now in
    let packets = c.args.packets in
    let known = g.R.Read.remaining c.args.reader.now in
    let at = g.W.Write.contents in
    let said : Stopped packets k known (at c.args.out.now) (at c.replay.new.out) c.in-Ok.stop
    = subst (λ n. Replays (Gives k) (record { order = packets.order; size = n }) known packets.counts (Appends (at c.args.out.now) (at c.replay.new.out)) c.in-Ok.stop) c.most.ensures (subst (λ q. Replays (Gives q) (record { order = packets.order; size = c.most.result }) known packets.counts (Appends (at c.args.out.now) (at c.replay.new.out)) c.in-Ok.stop) c.of.ensures c.in-Ok.ensures.ok) in
    replay_leaves packets k known (at c.args.out.now) (at c.replay.new.out) c.in-Ok.stop c.ended.result said c.ended.ensures.err

pub returns-in-Err-Output-clause-begun : goal.returns-in-Err-Output-clause-begun
returns-in-Err-Output-clause-begun g c =
    let k = c.args.checked.now in
    let packets = c.args.packets in
    let known = g.R.Read.remaining c.args.reader.now in
    let at = g.W.Write.contents in
    subst (λ n. Replays (Gives k) (record { order = packets.order; size = n }) known packets.counts (AppendsBeginning (at c.args.out.now) (at c.replay.new.out)) Failed) c.most.ensures (subst (λ q. Replays (Gives q) (record { order = packets.order; size = c.most.result }) known packets.counts (AppendsBeginning (at c.args.out.now) (at c.replay.new.out)) Failed) c.of.ensures c.in-Err-Output.ensures.err)

pub returns-clause-begun : goal.returns-clause-begun
returns-clause-begun g c =
    let k = c.args.checked.now in
    let packets = c.args.packets in
    let known = g.R.Read.remaining c.args.reader.now in
    let at = g.W.Write.contents in
    subst (λ n. Replays (Gives k) (record { order = packets.order; size = n }) known packets.counts (AppendsBeginning (at c.args.out.now) (at c.replay.new.out)) Failed) c.most.ensures (subst (λ q. Replays (Gives q) (record { order = packets.order; size = c.most.result }) known packets.counts (AppendsBeginning (at c.args.out.now) (at c.replay.new.out)) Failed) c.of.ensures c.in-Err-Memory.ensures.err)
