-- Lines that are refused for nothing, one behind the other, and lines that a text keeps apart.
use Rattle.std.proofs.Common.{◌≡◌, ◌≤◌, true, false, List, [], ◌∷◌, length}
use Rattle.bpf_cert.specs.Line.{Line, is_line, line_text}
use Rattle.bpf_cert.specs.Faults.{is_ended}
use Rattle.bpf_streams.specs.Taken.{IsOneLine}
use Rattle.bpf_cert.proofs.AfterLemmas.{IsFine}

-- each line is fine behind those before it, of which the nearest comes first
abbrev pub AreFine : List Line → List Line → Type 0
AreFine before [] = Unit {0}
AreFine before (l ∷ ls) = (is_ended before ≡ false) × IsFine before l × AreFine (l ∷ before) ls

-- the line can be read again from its text
pub record IsWritten (l : Line) : Type 0 where
  pub form : is_line l ≡ true
  pub short : length (line_text l) ≤ 256
  pub one_line : IsOneLine (line_text l)

abbrev pub AreWritten : List Line → Type 0
AreWritten [] = Unit {0}
AreWritten (l ∷ ls) = IsWritten l × AreWritten ls
