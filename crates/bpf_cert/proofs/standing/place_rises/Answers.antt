use Rattle.std.proofs.Common.{arith}
use Rattle.bpf_cert.specs.Numeral.{number}
use Rattle.bpf_cert.proofs.StandingLemmas.{place_rises_at}
use Rattle.bpf_cert.proofs.standing.place_rises.Goals as goal

pub returns-in-Register-next : goal.returns-in-Register-next
returns-in-Register-next c = rw (c.in-Some.is, c.in-Register.is, c.in-Register-next.is, ← c.register_number.ensures) (place_rises_at c.register_number.result (number c.in-Register-next.index.now) c.number.result (omega (arith, c.register_number.type_inv)) c.number.ensures)

pub returns-in-Slot-next-2 : goal.returns-in-Slot-next-2
returns-in-Slot-next-2 c = rw (c.in-Some.is, c.in-Slot.is, c.in-Slot-next-2.is) (place_rises_at c.in-Slot.k (number c.in-Slot-next-2.index.now) c.number-in-Slot-next-2.result (omega arith) c.number-in-Slot-next-2.ensures)
