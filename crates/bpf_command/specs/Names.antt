-- Which names `explain` opens, in which order.
use Rattle.std.specs.Prelude.{ℕ, List, [], ◌∷◌, Option, Some, None}
use Rattle.std.specs.Borrow.{Bor}
use Rattle.bpf_command.specs.declared.request.asking.Explaining.{Explaining}
use Rattle.bpf_command.specs.declared.request.subject.Subject.{Subject}
use Rattle.bpf_command.specs.declared.request.subject.Subject.TheVariants.{Image, Text, Certified, Slot, Inferred, Hardened, Graph, GraphAlone, Misfit}

-- what is explained
abbrev pub names_explained : List ℕ → Subject → List (List ℕ)
names_explained input Image = input ∷ []
names_explained input Text = input ∷ []
names_explained input (Certified certificate) = input ∷ certificate.now ∷ []
names_explained input (Slot certificate slot) = input ∷ certificate.now ∷ []
names_explained input (Inferred least most deep aspect) = input ∷ []
names_explained input (Hardened length padded aspect) = input ∷ []
names_explained input (Graph certificate) = input ∷ certificate.now ∷ []
names_explained input GraphAlone = input ∷ []
names_explained input (Misfit clash) = []

-- behind the lines of the source, where a name of theirs is given
abbrev pub behind_lines : Option (Bor (List ℕ)) → List (List ℕ) → List (List ℕ)
behind_lines None names = names
behind_lines (Some lines) names = lines.now ∷ names

abbrev pub names_opened : Explaining → List (List ℕ)
names_opened e = behind_lines e.lines (names_explained e.input.now e.subject)
