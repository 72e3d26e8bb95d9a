-- The byte order. All that depends on it stands here: the numbers in an image and in memory, the byte
-- of the two registers, and which byte swaps reverse (RFC 9669, sections 3.1 and 4.2).
use Rattle.std.specs.Prelude.{ℕ, ◌+◌, ◌*◌, ◌/◌, ◌%◌, List, Bool, true, false}
use Rattle.byteorder.specs.Endian.{little_bytes, little_number, big_bytes, big_number}
use Rattle.bpf_insn.specs.declared.order.Order.{Order}
use Rattle.bpf_insn.specs.declared.order.Order.TheVariants.{Little, Big}
use Rattle.bpf_insn.specs.declared.instruction.EndKind.{EndKind}
use Rattle.bpf_insn.specs.declared.instruction.EndKind.TheVariants.{Le, Be, Swap}

-- the lowest n bytes of x, and the number in the first n bytes
abbrev pub bytes_of : Order → ℕ → ℕ → List ℕ
bytes_of Little n x = little_bytes n x
bytes_of Big n x = big_bytes n x

abbrev pub number_of : Order → ℕ → List ℕ → ℕ
number_of Little n bytes = little_number n bytes
number_of Big n bytes = big_number n bytes

-- the byte with both registers of an instruction, and each of them back
abbrev pub register_byte : Order → ℕ → ℕ → ℕ
register_byte Little dst src = dst + 16 * src
register_byte Big dst src = 16 * dst + src

abbrev pub dst_in : Order → ℕ → ℕ
dst_in Little byte = byte % 16
dst_in Big byte = byte / 16

abbrev pub src_in : Order → ℕ → ℕ
src_in Little byte = byte / 16
src_in Big byte = byte % 16

-- whether the byte swap reverses the bytes
abbrev pub reverses : Order → EndKind → Bool
reverses Little Le = false
reverses Little Be = true
reverses Big Le = true
reverses Big Be = false
reverses Little Swap = true
reverses Big Swap = true
