-- How many bytes do for the certificate of a filter.
use Rattle.std.specs.Prelude.{◌+◌, ◌*◌, min, ℕ}
use Rattle.bpf_classic.specs.Limits.{max_filter}

-- a header and an end, and for each instruction three labels, each with a line for each register and cell
abbrev pub convert_size : ℕ → ℕ
convert_size count = 1024 + 576 * min count max_filter
