-- How large filters, and what they work on, may be (the header <net/bpf.h>: BPF_MAXINSNS, BPF_MEMWORDS).
use Rattle.std.specs.Prelude.{ℕ}

-- the most instructions of a filter
abbrev pub max_filter : ℕ
max_filter = 4096

-- the cells of the scratch memory
abbrev pub cell_count : ℕ
cell_count = 16
