-- The number of each refusal, from 1 to 7, and the line that it names.
use Rattle.std.specs.Prelude.{ℕ}
use Rattle.bpf_text.specs.declared.error.TextError.{TextError}
use Rattle.bpf_text.specs.declared.error.TextError.TheVariants.{Form, Range, DefinedAgain, Undefined, TooFar, Program, Memory}

abbrev pub text_number : TextError → ℕ
text_number (Form line) = 1
text_number (Range line) = 2
text_number (DefinedAgain line) = 3
text_number (Undefined line) = 4
text_number (TooFar line) = 5
text_number (Program line error) = 6
text_number Memory = 7

abbrev pub text_line : TextError → ℕ
text_line (Form line) = line
text_line (Range line) = line
text_line (DefinedAgain line) = line
text_line (Undefined line) = line
text_line (TooFar line) = line
text_line (Program line error) = line
text_line Memory = 0
