use Rattle.std.proofs.Common.{◌≤◌, length, arith}
use Rattle.bpf_host_calls.proofs.LoadedLemmas.{is_loaded}
use Rattle.bpf_host_calls.proofs.PreparedLemmas.{nothing_behind}
use Rattle.bpf_host_calls.proofs.loaded.put_loaded.Goals as goal

pub returns : goal.returns
returns c =
    let v = c.args.verdict in
    let memory = c.put_range.new.memory in
    let long : 24 ≤ length memory = omega (arith, c.put_range.ensures.as_long, c.requires.room) in
    is_loaded c.args.order c.args.image.now v.least v.most v.bound memory c.put.new.memory _ long c.put_range.ensures.numbers c.put.ensures (nothing_behind 24 memory)
