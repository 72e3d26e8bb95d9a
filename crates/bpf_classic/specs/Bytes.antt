-- The instructions that the bytes of `struct sock_filter` are.
use Rattle.std.specs.Prelude.{ℕ, ◌*◌, ◌/◌, ◌%◌, ◌==◌, List, length, drop, map, slice_index, Result, Ok, Err, if◌then◌else◌}
use Rattle.std.specs.List.{range_with_len}
use Rattle.bpf_insn.specs.Order.{number_of}
use Rattle.bpf_insn.specs.declared.order.Order.{Order}
use Rattle.bpf_classic.specs.declared.raw.Raw.{Raw}
use Rattle.bpf_classic.specs.declared.fault.TextFault.{TextFault}
use Rattle.bpf_classic.specs.declared.fault.TextFault.TheVariants.{Part}

-- an instruction begins with two bytes of code; then come two distances, and four bytes of a constant
abbrev pub raw_in : Order → List ℕ → Raw
raw_in order b = record { code = number_of order 2 b; jt = slice_index b 2; jf = slice_index b 3; k = number_of order 4 (drop 4 b) }

-- the bytes of an instruction
abbrev pub raw_bytes : ℕ
raw_bytes = 8

abbrev pub raw_at : Order → List ℕ → ℕ → Raw
raw_at order bytes at = raw_in order (drop (raw_bytes * at) bytes)

-- the instructions that are there whole
abbrev pub whole_raws : Order → List ℕ → List Raw
whole_raws order bytes = map (raw_at order bytes) (range_with_len 0 (length bytes / raw_bytes))

-- the instructions of bytes; or the bytes end inside of one
abbrev pub raws_in : Order → List ℕ → Result (List Raw) TextFault
raws_in order bytes = if length bytes % raw_bytes == 0 then Ok (whole_raws order bytes) else Err (Part (length bytes / raw_bytes))
