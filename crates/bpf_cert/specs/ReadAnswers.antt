-- What is answered of a reader's bytes, where they are known.
use Rattle.std.specs.Prelude.{◌≡◌, ◌⊎◌, ℕ, List, ◌++◌, Option, Some, IfSome}
use Rattle.std.specs.Io.KnownBytes.{Consumes}
use Rattle.bpf_cert.specs.Faults.{text_fault, complete, failed}
use Rattle.bpf_cert.specs.declared.error.CertError.{CertError}
use Rattle.bpf_cert.specs.declared.error.CertError.TheVariants.{Syntax, NotCanonical, Limit, Memory, Read}

-- The fault is the text's. Memory may run out in any text. Where the reader failed, the fault is that of the bytes that
-- it had given.
abbrev pub IsFaultOf : List ℕ → CertError → Type 0
IsFaultOf text (Syntax n) = text_fault complete text ≡ Some (Syntax n)
IsFaultOf text (NotCanonical n) = text_fault complete text ≡ Some (NotCanonical n)
IsFaultOf text (Limit n) = text_fault complete text ≡ Some (Limit n)
IsFaultOf text Memory = Unit {0}
IsFaultOf text (Read n) = (given rest : List ℕ) × (text ≡ given ++ rest) × (text_fault failed given ≡ Some (Read n))

-- A fault of the reader names the line that the bytes given so far end in. It takes a reader of known bytes to say which
-- they are: those that aren't left.
abbrev pub FailsAt : Option (List ℕ) → Option (List ℕ) → CertError → Type 0
FailsAt old new (Syntax n) = Unit {0}
FailsAt old new (NotCanonical n) = Unit {0}
FailsAt old new (Limit n) = Unit {0}
FailsAt old new Memory = Unit {0}
FailsAt old new (Read n) = IfSome old (λ text. (given : List ℕ) × Consumes (Some text) new given × (text_fault failed given ≡ Some (Read n)))

-- want of memory, or a fault of the reader
abbrev pub IsFromOutside : CertError → Type 0
IsFromOutside e = (e ≡ Memory) ⊎ ((n : ℕ) × (e ≡ Read n))
