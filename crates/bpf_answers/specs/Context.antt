-- The context that a word of the command line stands for: no bytes for `none`, else those that its hexadecimal digits spell.
use Rattle.std.specs.Prelude.{ℕ, List, [], length, Result, Ok, Err, nat_lt, codes, if◌then◌else◌}
use Rattle.std.specs.Str.{bytes_eq}
use Rattle.hex.specs.Hex.{decode_of}
use Rattle.bpf_insn.specs.Limits.{max_context}
use Rattle.hex.specs.declared.error.FromHexError.{FromHexError}
use Rattle.bpf_answers.specs.declared.context.ContextError.{ContextError}
use Rattle.bpf_answers.specs.declared.context.ContextError.TheVariants.{BadHex, TooLong}

abbrev pub short_context : Result (List ℕ) FromHexError → Result (List ℕ) ContextError
short_context (Ok bytes) = if nat_lt max_context (length bytes) then Err TooLong else Ok bytes
short_context (Err e) = Err BadHex

abbrev pub context_in : List ℕ → Result (List ℕ) ContextError
context_in text = if bytes_eq text (codes "none") then Ok [] else short_context (decode_of text)
