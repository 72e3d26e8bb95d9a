use Rattle.std.proofs.Common.{sym, rules}
use mir.Val.{SFits}
use mir.Syntax.{w64, w128}
use Rattle.std.proofs.lemmas.Int.{to_z-of_z}
use Rattle.bpf_cert.specs.code.Seen.{signed_seen}
use Rattle.bpf_cert.proofs.NumLemmas.{signed_ok, signed_err}
use Rattle.bpf_cert.proofs.num.signed.Goals as goal

pub returns-in-Ok : goal.returns-in-Ok
returns-in-Ok c =
    let low : SFits w128 c.signed_value-lo.result = search rules in
    let high : SFits w128 c.signed_value-hi.result = search rules in
    let whole = simp to_z-of_z at c.is_whole_signed-whole.ensures in
    let range = simp to_z-of_z at c.is_int_range-limited.ensures in
    let first = simp to_z-of_z at c.narrow.ensures in
    let second = simp to_z-of_z at c.narrow-in-Ok.ensures in
    let short : SFits w64 c.narrow.result = search rules in
    let short_too : SFits w64 c.narrow-in-Ok.result = search rules in
    let made = simp to_z-of_z at c.new.ensures in
    rw (made, first, second) (signed_ok (signed_seen c.args.low) (signed_seen c.args.high) c.signed_value-lo.result c.signed_value-hi.result c.are_plain_signed.result c.is_whole_signed-whole.result c.is_int_range-limited.result c.says_some.result c.in-Ok.field-0
    c.requires.low c.requires.high c.signed_value-lo.ensures c.signed_value-hi.ensures c.are_plain_signed.ensures whole c.says_some.ensures range (sym c.in-Ok.ensures))

pub returns-in-Err : goal.returns-in-Err
returns-in-Err c =
    let low : SFits w128 c.signed_value-lo.result = search rules in
    let high : SFits w128 c.signed_value-hi.result = search rules in
    let whole = simp to_z-of_z at c.is_whole_signed-whole.ensures in
    let range = simp to_z-of_z at c.is_int_range-limited.ensures in
    signed_err (signed_seen c.args.low) (signed_seen c.args.high) c.signed_value-lo.result c.signed_value-hi.result c.are_plain_signed.result c.is_whole_signed-whole.result c.is_int_range-limited.result c.says_some.result c.in-Err.flaw
    c.signed_value-lo.ensures c.signed_value-hi.ensures c.are_plain_signed.ensures whole c.says_some.ensures range (sym c.in-Err.ensures)
