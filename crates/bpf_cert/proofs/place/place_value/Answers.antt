use Rattle.std.proofs.Common.{ap, arith, leb}
use Rattle.std.proofs.lemmas.Bool.{leb-true}
use Rattle.bpf_cert.specs.Line.{PlaceText}
use Rattle.bpf_cert.specs.Numeral.{number}
use Rattle.bpf_cert.proofs.NumberLemmas.{plain_value}
use Rattle.bpf_cert.proofs.Bools.{both_true}
use Rattle.bpf_cert.proofs.place.place_value.Goals as goal

pub returns-in-Register-clause-spelled : goal.returns-in-Register-clause-spelled
returns-in-Register-clause-spelled c =
    let form = rw c.in-Register.is at c.requires.form in
    let plain = rw c.in-Register.is at c.requires.plain in
    let limited = rw c.in-Register.is at c.requires.limited in
    let few = leb-true (number c.in-Register.index.now) 9 limited in
    rw (c.in-Register.is, c.numbered.ensures) (ap PlaceText.register (plain_value c.in-Register.index.now c.number.result form plain c.number.ensures (omega (arith, few, c.number.ensures))))

pub returns-in-Slot-clause-spelled : goal.returns-in-Slot-clause-spelled
returns-in-Slot-clause-spelled c =
    let form = rw c.in-Slot.is at c.requires.form in
    let plain = rw c.in-Slot.is at c.requires.plain in
    let limited = rw c.in-Slot.is at c.requires.limited in
    let ends = both_true (leb 1 (number c.in-Slot.index.now)) (leb (number c.in-Slot.index.now) 64) limited in
    let few = leb-true (number c.in-Slot.index.now) 64 ends.1 in
    rw c.in-Slot.is (ap PlaceText.slot (plain_value c.in-Slot.index.now c.number-in-Slot.result form plain c.number-in-Slot.ensures (omega (arith, few, c.number-in-Slot.ensures))))
