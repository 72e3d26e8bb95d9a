-- Beginnings and ends of lists in a line.
use Rattle.std.specs.Prelude.{ℕ, Bool, true, false, List, [], ◌∷◌, flat_map, codes}
use Rattle.bpf_cert.specs.Line.{Part, part_text, term_text}
use Rattle.bpf_cert.specs.Spelling.{term_of}
use Rattle.bpf_cert.specs.declared.certificate.Term.{Term}
use Rattle.bpf_state.specs.declared.known.Area.{Area}
use Rattle.bpf_state.specs.declared.known.Area.TheVariants as area

abbrev pub is_cons : {A : Type 0} → List A → Bool
is_cons [] = false
is_cons (x ∷ xs) = true

-- parts with a comma before each
abbrev pub parts_tail : List Part → List ℕ
parts_tail ps = flat_map (λ p. 44 ∷ part_text p) ps

-- terms with a space before each
abbrev pub terms_tail : List Term → List ℕ
terms_tail ts = flat_map (λ t. 32 ∷ term_text (term_of t)) ts

-- what a pointer's text begins with
abbrev pub area_text : Area → List ℕ
area_text area.Context = codes "ctx"
area_text area.Frame = codes "fp"
