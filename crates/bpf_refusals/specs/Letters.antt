-- The letters of refusals, and the one table of what refusals say.
use Rattle.std.specs.Prelude.{◌≡◌, ◌≤◌, ◌==◌, ◌-◌, if◌then◌else◌, ℕ, List, [], Option, Some, None, get_or, length}
use Rattle.bpf_insn.specs.RefusalNumbers.{image_texts}
use Rattle.bpf_semantics.specs.ReasonNumbers.{reason_texts}
use Rattle.bpf_classic.specs.Refused.{filter_texts}
use Rattle.bpf_state.specs.Condition.{condition_texts}
use Rattle.bpf_cert.specs.RefusalNumbers.{certificate_texts}
use Rattle.bpf_infer_base.specs.RefusalNumbers.{infer_texts}
use Rattle.bpf_kept.specs.Mismatches.{mismatch_texts}
use Rattle.bpf_captures.specs.Refused.{capture_texts}
use Rattle.bpf_refusals.specs.Sentences.{text_texts, hardening_texts, notes_texts}
use Rattle.bpf_refusals.specs.declared.letter.Letter.{Letter}
use Rattle.bpf_refusals.specs.declared.letter.Letter.TheVariants.{Text, Classic, Check, Image, Fault, Hardening, Inference, Certificate, Mismatch, Notes, Capture}

-- A, B, C, E, F, H, I, K, M, N and P in ASCII
abbrev pub code_of : Letter → ℕ
code_of Text = 65
code_of Classic = 66
code_of Check = 67
code_of Image = 69
code_of Fault = 70
code_of Hardening = 72
code_of Inference = 73
code_of Certificate = 75
code_of Mismatch = 77
code_of Notes = 78
code_of Capture = 80

-- the letter with this code
abbrev pub letter_of : ℕ → Option Letter
letter_of code =
    if code == 65 then Some Text else if code == 66 then Some Classic else if code == 67 then Some Check else if code == 69 then Some Image else if code == 70 then Some Fault
    else if code == 72 then Some Hardening else if code == 73 then Some Inference else if code == 75 then Some Certificate else if code == 77 then Some Mismatch else if code == 78 then Some Notes
    else if code == 80 then Some Capture else None

-- what is said by number; there is no number 0
abbrev pub texts_of : Letter → List (List ℕ)
texts_of Text = text_texts
texts_of Classic = filter_texts
texts_of Check = condition_texts
texts_of Image = image_texts
texts_of Fault = reason_texts
texts_of Hardening = hardening_texts
texts_of Inference = infer_texts
texts_of Certificate = certificate_texts
texts_of Mismatch = mismatch_texts
texts_of Notes = notes_texts
texts_of Capture = capture_texts

-- there is such a refusal: A1 to A7, B1 to B10, C1 to C13, E1 to E10, F1 to F9, H1 to H15, I1 to I5, K1 to K5, M1 to M10, N1 and N2, P1 to P5
abbrev pub IsNumbered : Letter → ℕ → Type 0
IsNumbered letter number = (1 ≤ number) × (number ≤ length (texts_of letter) - 1)

-- what it says, and nothing of another one
abbrev pub sentence_of : Letter → ℕ → List ℕ
sentence_of letter number = get_or (texts_of letter) number []

-- each letter is the one with its code
abbrev pub LettersDiffer : Type 0
LettersDiffer = (letter : Letter) → letter_of (code_of letter) ≡ Some letter
