use Rattle.std.proofs.Common.{rules}
use Rattle.bpf_answers.specs.Loaded.{BytesAt, max_text}
use Rattle.bpf_command.specs.Converted.{IsMadeOf, NotAll, Stand, placing}
use Rattle.bpf_command.specs.Standing.Standing.{Whole}
use Rattle.bpf_command.proofs.ConvertedLemmas.{converts_of, fails_by, left_by}
use Rattle.bpf_command.proofs.commands.convert.converted.Goals as goal

pub returns-in-Ok-put_all-clause-ok : goal.returns-in-Ok-put_all-clause-ok
returns-in-Ok-put_all-clause-ok g c =
    let o = g.P.Places.opens in
    let p = placing g.P.Places.creates g.P.Places.ends g.P.Writer.Write.contents in
    let asked = c.args.asked in
    let bytes = c.in-Ok.bytes.items in
    let raws = c.in-Ok-made_of.found.0.items in
    let made = c.in-Ok-made_of.found.1 in
    let length = c.length_of-length.result in
    let between = c.filter_at.new.places in
    let read : BytesAt max_text o c.args.places.now asked.input.now between bytes = search rules in
    let is_made : IsMadeOf asked length bytes raws made = search rules in
    let stands : Stand p between asked raws made Whole c.put_all.new.places = search rules in
    (between, raws, made, converts_of o c.args.places.now asked between bytes raws made length c.told_of-told.result c.length_of-length.ensures.given read is_made c.told_of-told.ensures, stands)

pub returns-clause-err : goal.returns-clause-err
returns-clause-err g c =
    let o = g.P.Places.opens in
    let p = placing g.P.Places.creates g.P.Places.ends g.P.Writer.Write.contents in
    let asked = c.args.asked in
    let bytes = c.in-Ok.bytes.items in
    let raws = c.in-Ok-made_of.found.0.items in
    let made = c.in-Ok-made_of.found.1 in
    let length = c.length_of-length.result in
    let between = c.filter_at.new.places in
    let read : BytesAt max_text o c.args.places.now asked.input.now between bytes = search rules in
    let is_made : IsMadeOf asked length bytes raws made = search rules in
    let converts = converts_of o c.args.places.now asked between bytes raws made length c.told_of-told.result c.length_of-length.ensures.given read is_made c.told_of-told.ensures in
    let all : NotAll p between asked raws made c.put_all.new.places c.in-Err-put_all.failure = search rules in
    fails_by o p c.args.places.now asked between c.put_all.new.places raws made c.told_of-told.result c.in-Err-put_all.failure converts all

pub returns-clause-names : goal.returns-clause-names
returns-clause-names g c =
    let o = g.P.Places.opens in
    let p = placing g.P.Places.creates g.P.Places.ends g.P.Writer.Write.contents in
    let asked = c.args.asked in
    let bytes = c.in-Ok.bytes.items in
    let raws = c.in-Ok-made_of.found.0.items in
    let made = c.in-Ok-made_of.found.1 in
    let length = c.length_of-length.result in
    let between = c.filter_at.new.places in
    let read : BytesAt max_text o c.args.places.now asked.input.now between bytes = search rules in
    let is_made : IsMadeOf asked length bytes raws made = search rules in
    let converts = converts_of o c.args.places.now asked between bytes raws made length c.told_of-told.result c.length_of-length.ensures.given read is_made c.told_of-told.ensures in
    let all : NotAll p between asked raws made c.put_all.new.places c.in-Err-put_all.failure = search rules in
    left_by o p c.args.places.now asked between c.put_all.new.places raws made c.told_of-told.result c.in-Err-put_all.failure converts all
