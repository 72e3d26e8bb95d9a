use Rattle.std.proofs.Common.{◌≡◌, ◌<◌, ◌≤◌, length, drop, subst, ap, ◌∙◌, arith}
use Rattle.std.proofs.lemmas.List.{length-drop, take_all}
use Rattle.std.specs.Io.KnownBytes.{Consumes}
use Rattle.bpf_insn.specs.Order.{number_of}
use Rattle.bpf_captures.proofs.CaptureLemmas.{all_of, front_few, record_taken, refused_record}
use Rattle.bpf_captures.proofs.capture.next_packet.Goals as goal

pub returns-in-Ok-clause-err : goal.returns-in-Ok-clause-err
returns-in-Ok-clause-err g c =
    let fits : c.in-Ok._fewer ≤ length c.fill.new.room = grind arith in
    let short : c.in-Ok._fewer < 16 = grind arith in
    let some : 0 < c.in-Ok._fewer = grind arith in
    front_few c.args.order _ (g.R.Read.remaining c.fill.new.reader) c.fill.new.room c.in-Ok._fewer fits short some c.in-Ok.ensures.taken (c.in-Ok.ensures.all short)

pub returns-in-Ok-take_packet-clause-ok : goal.returns-in-Ok-take_packet-clause-ok
returns-in-Ok-take_packet-clause-ok g c =
    let remaining = g.R.Read.remaining in
    let head = c.fill.new.room in
    let long : length head ≡ 16 = grind arith in
    let whole : c.in-Ok-eq16.field-0 ≡ length head = grind arith in
    let front = subst (λ xs. Consumes (remaining c.args.reader.now) (remaining c.fill.new.reader) xs) (all_of head c.in-Ok-eq16.field-0 whole) c.in-Ok-eq16.ensures.taken in
    let behind = length-drop 8 head in
    let told : c.number_in-count.result ≡ number_of c.args.order 4 (drop 8 head)
    = c.number_in-count.ensures.number ∙ ap (λ z. number_of c.args.order 4 z) (take_all 8 (drop 8 head) (omega (arith, behind, long))) in
    record_taken c.args.order (remaining c.args.reader.now) (remaining c.fill.new.reader) (remaining c.take_packet.new.reader) head c.take_packet.new.room c.number_in-count.result (length c.args.room.now) long told front c.in-Ok-take_packet.ensures.ok

pub returns-in-Err-take_packet-clause-err : goal.returns-in-Err-take_packet-clause-err
returns-in-Err-take_packet-clause-err g c =
    let remaining = g.R.Read.remaining in
    let head = c.fill.new.room in
    let long : length head ≡ 16 = grind arith in
    let whole : c.in-Ok-eq16.field-0 ≡ length head = grind arith in
    let front = subst (λ xs. Consumes (remaining c.args.reader.now) (remaining c.fill.new.reader) xs) (all_of head c.in-Ok-eq16.field-0 whole) c.in-Ok-eq16.ensures.taken in
    let behind = length-drop 8 head in
    let told : c.number_in-count.result ≡ number_of c.args.order 4 (drop 8 head)
    = c.number_in-count.ensures.number ∙ ap (λ z. number_of c.args.order 4 z) (take_all 8 (drop 8 head) (omega (arith, behind, long))) in
    refused_record c.args.order (remaining c.args.reader.now) (remaining c.fill.new.reader) head c.number_in-count.result long told front c.in-Err-take_packet.error c.in-Err-take_packet.ensures.err
