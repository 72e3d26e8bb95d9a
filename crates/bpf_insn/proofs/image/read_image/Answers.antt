use Rattle.std.proofs.Common.{◌≡◌, ◌≤◌, ◌<◌, ◌++◌, length, take, arith, rules}
use Rattle.std.proofs.lemmas.List.{length-append, length-take}
use Rattle.std.proofs.KnownBytes.{Consumes-trans}
use Rattle.bpf_insn.specs.Reading.{max_read}
use Rattle.bpf_insn.proofs.ReadLemmas.{last_read, full_read}
use Rattle.bpf_insn.proofs.image.read_image.Goals as goal

pub returns-then-count-eq0-clause-ok : goal.returns-then-count-eq0-clause-ok
returns-then-count-eq0-clause-ok g c =
    let all : length c.reads.chunk ≡ 4096 = search rules in
    let part = length-take c.min-room.result c.reads.chunk in
    let room : 0 < length c.read.new.buf = omega arith in
    let few : length c.reads.bytes.items ≤ max_read = omega arith in
    last_read _ _ _ c.reads.bytes.items c.read.new.buf c.in-Ok.count c.reads.invariant.0 c.in-Ok.ensures.bytes.0 c.if-count-eq0.true (c.in-Ok.ensures.bytes.1 c.if-count-eq0.true room) few

pub returns-clause-ok : goal.returns-clause-ok
returns-clause-ok g c =
    let full : length c.reads.bytes.items ≡ max_read = omega arith in
    full_read _ _ c.reads.bytes.items c.reads.invariant.0 full

pub returns-then-is_err-clause-used : goal.returns-then-is_err-clause-used
returns-then-is_err-clause-used g c =
    let got = c.reads.bytes.items in
    let more = take c.in-Ok.count c.read.new.buf in
    let all : length c.reads.chunk ≡ 4096 = search rules in
    let part = length-take c.min-room.result c.reads.chunk in
    let read = length-take c.in-Ok.count c.read.new.buf in
    let both = length-append c.reads.bytes.items (take c.in-Ok.count c.read.new.buf) in
    (got ++ more, Consumes-trans _ _ _ got more c.reads.invariant.0 c.in-Ok.ensures.bytes.0, omega arith)
