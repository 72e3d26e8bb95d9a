-- A certificate's text has no fault, and is no other certificate's; so it is read.
use Rattle.std.proofs.Common.{◌≡◌, List, ◌∷◌, ℕ, Option, Some, None, Result, Ok, Err, inl, inr, refl, sym, ap, ◌∙◌}
use Rattle.std.specs.Prelude.{IfSome, MatchResult, flat_map}
use Rattle.bpf_cert.specs.View.{CertificateView, header_of}
use Rattle.bpf_cert.specs.Spelling.{header_line, function_lines, certificate_lines}
use Rattle.bpf_cert.specs.Faults.{text_fault, complete}
use Rattle.bpf_cert.specs.Certificates.{Spells, SpelledIsFaultless, SpelledOnce}
use Rattle.bpf_cert.specs.ReadAnswers.{IsFromOutside}
use Rattle.bpf_cert.specs.declared.error.CertError.{CertError}
use Rattle.bpf_cert.specs.declared.error.CertError.TheVariants.{Syntax, NotCanonical, Limit, Memory, Read}
use Rattle.bpf_cert.proofs.fine.CertificateFine.{certificate_fine}
use Rattle.bpf_cert.proofs.lines.WrittenLines.{certificate_written}
use Rattle.bpf_cert.proofs.lines.Faultless.{fine_faultless, lines_of_text}
use Rattle.bpf_cert.proofs.lines.LinesOnce.{lines_once}
use Rattle.bpf_cert.proofs.ReadingLemmas.{Gives}

pub faultless : SpelledIsFaultless
faultless text c s = ap (text_fault complete) s.spelled
    ∙ fine_faultless (header_line (header_of c) ∷ flat_map function_lines c.functions) (certificate_fine c s.valid) (certificate_written c s.valid)

pub once : SpelledOnce
once text c d s t = lines_once c d s.valid t.valid
    (lines_of_text (certificate_lines c) (certificate_lines d) (certificate_written c s.valid) (certificate_written d t.valid) (sym s.spelled ∙ t.spelled))

-- what is answered where the reader has a certificate's text
accepted : (text : List ℕ) (r : Result CertificateView CertError) → Gives (Some text) r → (c : CertificateView) → Spells text c → MatchResult r (λ d. d ≡ c) IsFromOutside
accepted text (Ok d) g c s = once text d c g s
accepted text (Err (Syntax n)) g c s = let none = faultless text c s in cc
accepted text (Err (NotCanonical n)) g c s = let none = faultless text c s in cc
accepted text (Err (Limit n)) g c s = let none = faultless text c s in cc
accepted text (Err Memory) g c s = inl refl
accepted text (Err (Read n)) g c s = inr (n, refl)

pub given_accepts : (text : Option (List ℕ)) (r : Result CertificateView CertError) → Gives text r → IfSome text (λ t. (c : CertificateView) → Spells t c → MatchResult r (λ d. d ≡ c) IsFromOutside)
given_accepts None r g = tt
given_accepts (Some t) r g = accepted t r g
