-- The number of each refusal, from 1 to 5, what is told of it, and the line that it names.
use Rattle.std.specs.Prelude.{ℕ, List, [], ◌∷◌, codes}
use Rattle.bpf_cert.specs.declared.error.CertError.{CertError}
use Rattle.bpf_cert.specs.declared.error.CertError.TheVariants.{Syntax, NotCanonical, Limit, Memory, Read}

abbrev pub refusal_number : CertError → ℕ
refusal_number (Syntax line) = 1
refusal_number (NotCanonical line) = 2
refusal_number (Limit line) = 3
refusal_number Memory = 4
refusal_number (Read line) = 5

-- what is told of K1 to K5, by their numbers and without the line's; there is no number 0
abbrev pub certificate_texts : List (List ℕ)
certificate_texts =
    [] ∷
    codes "the line has no form of a certificate's lines" ∷
    codes "the line is not canonical" ∷
    codes "the line goes past a limit" ∷
    codes "out of memory" ∷
    codes "reading failed" ∷
    []

abbrev pub refusal_line : CertError → ℕ
refusal_line (Syntax line) = line
refusal_line (NotCanonical line) = line
refusal_line (Limit line) = line
refusal_line Memory = 0
refusal_line (Read line) = line
