-- What the code keeps of a text, without where names lie in memory.
use Rattle.std.specs.Prelude.{ℕ, ◌+◌, List, length, Option, Some, None, option_map, Result, Ok, Err}
use Rattle.bpf_text.specs.declared.line.LineFault.{LineFault}
use Rattle.bpf_text.specs.declared.line.Label.{Label as WrittenLabel}
use Rattle.bpf_text.specs.declared.statement.Statement.{Statement as Written}
use Rattle.bpf_text.specs.Statements.{Statement, seen}
use Rattle.bpf_text.specs.Sources.{Label}

abbrev pub line_seen : Result (Option Written) LineFault → Result (Option Statement) LineFault
line_seen (Ok s) = Ok (option_map seen s)
line_seen (Err fault) = Err fault

abbrev pub label_seen : WrittenLabel → Label
label_seen l = record { name = l.name.now; slot = l.slot; line = l.line }

-- how much text is left: with its line end in front, if it is there
abbrev pub size_left : Option (List ℕ) → ℕ
size_left None = 0
size_left (Some text) = length text + 1
